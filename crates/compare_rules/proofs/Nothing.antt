-- When nothing is found: the lists are empty and no channel differs exactly where both logs have the same records in the same order on each channel.
-- Across channels the order may be another, and no more than the order: each record stands as often in both.
use mathlib.Core.Path.{◌≡◌, refl, sym, ap, ap₂, ◌∙◌}
use mathlib.Core.Bool.{Bool, true, false, cond}
use mathlib.Core.List.{List, [], ◌∷◌}
use Prim.Native.Nat.{ℕ, zero, suc, ◌+◌, ◌≤◌, ◌<◌}
use native.Mathlib.Omega.{arith}
use lib.ListN.{length, take, replicate}
use lib.Dec.{eqb}
use borrow.Author.Tests.{le-ltb, eq-eqb, eqb-true, eqb-false}
use Rattle.log_records.specs.Record.{Rec, tick, frame, AllLoggable}
use Rattle.compare_rules.specs.Records.{same, channel_of, at}
use Rattle.compare_rules.specs.Surplus.{count_of, surplus_from, surplus_of}
use Rattle.compare_rules.specs.Places.{on_channel, channels, place_on, places_from, places_of, SameOnEach, NothingFound}
use Rattle.compare_rules.proofs.Sames.{rec_same}
use Rattle.compare_rules.proofs.Counts.{count_up, count_all}
use Rattle.compare_rules.proofs.Differs.{place_none, none_place}

-- ---- lists

-- where the other log has as many of each, nothing is listed
none_from : (a b : List Rec) → ((i : ℕ) → i < length a → count_of (at a i) a ≤ count_of (at a i) b) → (k i : ℕ) → i + k ≤ length a → surplus_from a b i k ≡ []
unfolding surplus_from
none_from a b f zero i h = refl
none_from a b f (suc k) i h =
    ap (λ (t : Bool). cond t (suc i ∷ surplus_from a b (suc i) k) (surplus_from a b (suc i) k))
    (le-ltb (count_of (at a i) b) (count_of (at a i) (take (suc i) a)) (omega (arith, f i (omega arith), count_up a (at a i) (suc i) (length a) (omega arith), count_all a (at a i))))
    ∙ none_from a b f k (suc i) (omega arith)

-- equal lists of records give nothing
pub nothing : (a : List Rec) → surplus_of a a ≡ []
nothing a = none_from a a (λ i h. omega arith) (length a) 0 (omega arith)

-- a record stands in its own channel's sequence
on_channel_lem : (r : Rec) (rs : List Rec) → count_of r (on_channel (channel_of r) rs) ≡ count_of r rs
unfolding on_channel count_of
on_channel_lem r [] = refl
on_channel_lem r (x ∷ xs) = by (eqb (channel_of x) (channel_of r)) refl (same r x) refl (on_channel_lem r xs) where
  by : (t : Bool) → eqb (channel_of x) (channel_of r) ≡ t → (u : Bool) → same r x ≡ u → count_of r (on_channel (channel_of r) xs) ≡ count_of r xs
      → count_of r (cond t (x ∷ on_channel (channel_of r) xs) (on_channel (channel_of r) xs)) ≡ cond u (suc (count_of r xs)) (count_of r xs)
  by true p u q e = rw (q, e)
  by false p true q e = absurd (let z : channel_of x ≡ channel_of r = ap channel_of (sym (rec_same r x q)) in let y : ◌≡◌ {A = ℕ} 0 1 = cc (eq-eqb (channel_of x) (channel_of r) z) in omega arith)
  by false p false q e = e

low_channel : (rs : List Rec) (i : ℕ) → AllLoggable rs → i < length rs → channel_of (at rs i) < 32
low_channel [] i w h = absurd (omega arith)
low_channel (tick t c ∷ rs) zero w h = omega (arith, w.0.1)
low_channel (frame t c x i p ∷ rs) zero w h = omega (arith, w.0.1)
low_channel (r ∷ rs) (suc i) w h = low_channel rs i w.1 (omega arith)

-- where the channels' sequences are equal nothing is listed, whatever the order across channels
pub in_channels : (a b : List Rec) → AllLoggable a → ((c : ℕ) → c < 32 → on_channel c a ≡ on_channel c b) → surplus_of a b ≡ []
in_channels a b w f =
    none_from a b
    (λ i h.
    let r : Rec = at a i in
    omega (arith, on_channel_lem r a, on_channel_lem r b, ap (count_of r) (f (channel_of r) (low_channel a i w h))))
    (length a) 0 (omega arith)

-- ---- places

zeros_from : (a b : List Rec) (k c : ℕ) → places_from a b c k ≡ replicate k 0 → (d : ℕ) → c ≤ d → d < c + k → place_on d a b ≡ 0
unfolding places_from
zeros_from a b zero c e d h g = absurd (omega arith)
zeros_from a b (suc k) c e d h g = by (eqb d c) refl (zeros_from a b k (suc c) (ap tail e) d) where
  tail : List ℕ → List ℕ
  tail [] = []
  tail (x ∷ xs) = xs

  head : List ℕ → ℕ
  head [] = 0
  head (x ∷ xs) = x

  by : (t : Bool) → eqb d c ≡ t → (suc c ≤ d → d < suc c + k → place_on d a b ≡ 0) → place_on d a b ≡ 0
  by true p f = ap (λ (x : ℕ). place_on x a b) (eqb-true d c p) ∙ ap head e
  by false p f = let ne : d ≡ c → ⊥ = eqb-false d c p in f (omega arith) (omega arith)

from_zeros : (a b : List Rec) (k c : ℕ) → ((d : ℕ) → c ≤ d → d < c + k → place_on d a b ≡ 0) → places_from a b c k ≡ replicate k 0
unfolding places_from
from_zeros a b zero c f = refl
from_zeros a b (suc k) c f = ap₂ (λ (x : ℕ) (l : List ℕ). x ∷ l) (f c (omega arith) (omega arith)) (from_zeros a b k (suc c) (λ d h g. f d (omega arith) (omega arith)))

-- ---- both

module _ (a b : List Rec) (la : AllLoggable a) (lb : AllLoggable b) where
  -- no place at all is enough: then nothing is listed either
  pub no_place : places_of a b ≡ replicate channels 0 → SameOnEach a b
  no_place e c h = place_none c a b (zeros_from a b channels 0 e c (omega arith) (omega arith))

  pub nothing_found : SameOnEach a b → NothingFound a b
  nothing_found f = (
    in_channels a b la f,
    in_channels b a lb (λ c h. sym (f c h)),
    from_zeros a b channels 0 (λ d h g. none_place d a b (f d (omega arith))),
  )

  pub found_nothing : NothingFound a b → SameOnEach a b
  found_nothing w = no_place w.2

  -- and across channels each record stands as often in both
  pub as_often : SameOnEach a b → (r : Rec) → channel_of r < channels → count_of r a ≡ count_of r b
  as_often f r h = sym (on_channel_lem r a) ∙ ap (count_of r) (f (channel_of r) h) ∙ on_channel_lem r b
