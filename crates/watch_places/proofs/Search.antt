-- The search for the post that holds a channel, turn by turn: where i places are passed, it goes on, it is found there, or the posts are at their end.
use Prim.Native.Nat.{ℕ, suc, ◌+◌, ◌<◌, ◌≤◌}
use native.Mathlib.Numerals.{add-one}
use native.Mathlib.Omega.{arith}
use mathlib.Core.Path.{◌≡◌}
use mathlib.Core.List.{List}
use mathlib.Core.Bool.{true, false}
use lib.ListN.{length, drop, get_or, drop_of_length-le}
use lib.Seq.{drop-cons}
use Rattle.watch_rules.specs.rules.specs.declared.Post.{Post}
use Rattle.watch_rules.specs.Table.{holds, place_of, no_post}

module _ (l : List Post) (i c : ℕ) (passed : place_of l c ≡ i + place_of (drop i l) c) where
  pub place_on_lem : i < length l → holds (get_or l i no_post).head c ≡ false → place_of l c ≡ (i + 1) + place_of (drop (i + 1) l) c
  unfolding place_of
  place_on_lem h e =
      let s : place_of (drop i l) c ≡ suc (place_of (drop (suc i) l) c) = rw (drop-cons l i no_post h, e) in
      rw (add-one i) (omega arith)

  pub place_here : i < length l → holds (get_or l i no_post).head c ≡ true → place_of l c ≡ i
  unfolding place_of
  place_here h e =
      let s : place_of (drop i l) c ≡ 0 = rw (drop-cons l i no_post h, e) in
      omega arith

  pub place_end : length l ≤ i → place_of l c ≡ i
  unfolding place_of
  place_end h =
      let s : place_of (drop i l) c ≡ 0 = rw (drop_of_length-le l h) in
      omega arith
