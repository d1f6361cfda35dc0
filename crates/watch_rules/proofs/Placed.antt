-- The posts that accepted steps leave, each in its place, and the search over them: the place of the first that holds a channel is its holder's.
use Prim.Native.Nat.{ℕ, zero, suc, ◌+◌, ◌<◌}
use native.Mathlib.Nat.{zero-add}
use native.Mathlib.Omega.{arith}
use mathlib.Core.Path.{◌≡◌, refl, ap, sym, ◌∙◌, fun_ext}
use mathlib.Core.List.{map}
use mathlib.Core.Bool.{Bool, true, false, cond}
use lib.ListN.{get_or}
use Rattle.rules.specs.declared.Post.{Post}
use Rattle.rules.specs.History.{count_from}
use Rattle.rules.specs.Record.{is_set}
use Rattle.rules.proofs.Counted.{count_at}
use Rattle.rules.proofs.Look.{used_look, channel_look}
use Rattle.watch_rules.specs.Table.{post_count, holds, place_of, no_post}
use Rattle.watch_rules.specs.Steps.{Steps, Standing, free, held, standing, holds_in, find_from, holder, is_held, kept_post, posts_of}

pub holds_look : (x : Standing) (c : ℕ) → holds (kept_post x).head c ≡ holds_in x c
holds_look free c = refl
holds_look (held d lim h) c = rw (used_look d lim h, channel_look d lim h)

pub used_standing : (x : Standing) → is_set (kept_post x).head.used ≡ is_held x
used_standing free = refl
used_standing (held d lim h) = rw (used_look d lim h)

-- the search over a list by numbers is the search over the numbers
place_count_lem : (f : ℕ → Post) (c k n : ℕ) → k + place_of (map f (count_from k n)) c ≡ find_from (λ i. holds (f i).head c) k n
unfolding place_of find_from
place_count_lem f c k zero = omega arith
place_count_lem f c k (suc n) = go (holds (f k).head c) (place_count_lem f c (suc k) n)
  where
    go : (b : Bool) → suc k + place_of (map f (count_from (suc k) n)) c ≡ find_from (λ i. holds (f i).head c) (suc k) n
        → k + cond b 0 (suc (place_of (map f (count_from (suc k) n)) c)) ≡ cond b k (find_from (λ i. holds (f i).head c) (suc k) n)
    go true rest = omega arith
    go false rest = let z : k + suc (place_of (map f (count_from (suc k) n)) c) ≡ suc k + place_of (map f (count_from (suc k) n)) c = omega arith in z ∙ rest

module _ (s : Steps) where
  abbrev kept_at : ℕ → Post
  kept_at i = kept_post (standing i s)

  pub post_at : (i : ℕ) → i < post_count → get_or (posts_of s) i no_post ≡ kept_post (standing i s)
  unfolding posts_of
  post_at i h = count_at kept_at no_post i 0 post_count i (omega arith) h

  pub place_look : (c : ℕ) → place_of (posts_of s) c ≡ holder s c
  unfolding posts_of holder
  place_look c =
      sym (zero-add _) ∙ place_count_lem kept_at c 0 post_count
      ∙ ap (λ (p : ℕ → Bool). find_from p 0 post_count) (fun_ext (λ i. holds_look (standing i s) c))
