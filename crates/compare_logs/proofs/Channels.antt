-- Turns of `place_of` and `store_places`.
use mathlib.Core.Path.{◌≡◌, refl, sym, ap, ap₂, ◌∙◌}
use mathlib.Core.Bool.{Bool, true, false}
use mathlib.Core.List.{List, [], ◌∷◌}
use Prim.Native.Nat.{ℕ, zero, suc, ◌+◌, ◌-◌, ◌/◌, ◌≤◌, ◌<◌}
use native.Mathlib.Omega.{arith}
use native.Mathlib.Numerals.{add-one}
use lib.ListN.{length, get_or, drop, set, length-set, drop_of_length-le}
use lib.Seq.{drop-cons, sets, get_or-set_same, get_or-set_other}
use lib.Dec.{eqb}
use borrow.Author.Tests.{eq-eqb, ne_eqb, eqb-true, eqb-false}
use borrow.Author.Count.{below_more}
use Rattle.log_records.specs.Record.{Rec, tick}
use Rattle.compare_rules.proofs.Sames.{never}
use Rattle.compare_rules.specs.Records.{same, channel_of, at}
use Rattle.compare_rules.specs.Places.{on_channel, differ, channels, place_on, places_from, places_of}
use Rattle.compare_logs.specs.Held.{Ready, NextOn, Marked}
use Rattle.compare_rules.specs.Compare.{records_of}

module _ (c : ℕ) (rs : List Rec) where
  past : (i : ℕ) → i < length rs → (channel_of (at rs i) ≡ c → ⊥) → on_channel c (drop i rs) ≡ on_channel c (drop (suc i) rs)
  unfolding on_channel
  past i h e = ap (on_channel c) (drop-cons rs i (tick 0 0) h) ∙ rw (ne_eqb (channel_of (at rs i)) c e)

  on : (i : ℕ) → i < length rs → channel_of (at rs i) ≡ c → on_channel c (drop i rs) ≡ at rs i ∷ on_channel c (drop (i + 1) rs)
  unfolding on_channel
  on i h e = ap (on_channel c) (drop-cons rs i (tick 0 0) h) ∙ rw (eq-eqb (channel_of (at rs i)) c e, add-one)

  none : (i : ℕ) → length rs ≤ i → on_channel c (drop i rs) ≡ []
  unfolding on_channel
  none i h = ap (on_channel c) (drop_of_length-le rs h)

  skip : (d x : ℕ) → x + d ≤ length rs → ((j : ℕ) → j < x + d → x ≤ j → channel_of (at rs j) ≡ c → ⊥) → on_channel c (drop x rs) ≡ on_channel c (drop (x + d) rs)
  skip zero x le h = let z : x ≡ x + 0 = omega arith in ap (λ (i : ℕ). on_channel c (drop i rs)) z
  skip (suc d) x le h =
      let z : suc x + d ≡ x + suc d = omega arith in
      past x (omega arith) (h x (omega arith) (omega arith)) ∙ skip d (suc x) (omega arith) (λ j p q. h j (omega arith) (omega arith)) ∙ ap (λ (i : ℕ). on_channel c (drop i rs)) z

module _ (c : ℕ) (s starts keys : List ℕ) (n x i : ℕ) (w : Ready s starts keys n) (f : NextOn keys c x n i) where
  next-skips : on_channel c (drop x (records_of s)) ≡ on_channel c (drop i (records_of s))
  next-skips =
      let z : x + (i - x) ≡ i = omega (arith, f.0) in
      skip c (records_of s) (i - x) x (omega (arith, f.0, f.1, w.1)) (λ j p q e. f.2 j (omega (arith, f.0)) q ((w.2 j (omega (arith, f.0, f.1))).3 ∙ e))
      ∙ ap (λ (k : ℕ). on_channel c (drop k (records_of s))) z

  next-none : n ≤ i → on_channel c (drop x (records_of s)) ≡ []
  next-none h = next-skips ∙ none c (records_of s) i (omega (arith, w.1))

  next_here : i < n → on_channel c (drop x (records_of s)) ≡ at (records_of s) i ∷ on_channel c (drop (i + 1) (records_of s))
  next_here h = next-skips ∙ on c (records_of s) i (omega (arith, w.1)) (sym (w.2 i h).3 ∙ f.3 h)

-- ---- `place_of`
abbrev pub Placing : ℕ → List Rec → List Rec → ℕ → ℕ → ℕ → Type 0
Placing c a b x y k = differ k (on_channel c (drop x a)) (on_channel c (drop y b)) ≡ place_on c a b

module _ (c : ℕ) (s sa ka : List ℕ) (n x i : ℕ) (w : Ready s sa ka n) (f : NextOn ka c x n i) (t sb kb : List ℕ) (m y j : ℕ) (v : Ready t sb kb m) (g : NextOn kb c y m j) (k : ℕ)
    (inv : Placing c (records_of s) (records_of t) x y k) where
  pub place_none : n ≤ i → m ≤ j → 0 ≡ place_on c (records_of s) (records_of t)
  unfolding differ
  place_none p q = sym (ap₂ (differ k) (next-none c s sa ka n x i w f p) (next-none c t sb kb m y j v g q)) ∙ inv

  pub place_second : n ≤ i → j < m → k ≡ place_on c (records_of s) (records_of t)
  unfolding differ
  place_second p q = sym (ap₂ (differ k) (next-none c s sa ka n x i w f p) (next_here c t sb kb m y j v g q)) ∙ inv

  pub place_first : i < n → m ≤ j → k ≡ place_on c (records_of s) (records_of t)
  unfolding differ
  place_first p q = sym (ap₂ (differ k) (next_here c s sa ka n x i w f p) (next-none c t sb kb m y j v g q)) ∙ inv

  pub place_here : i < n → j < m → same (at (records_of s) i) (at (records_of t) j) ≡ false → k ≡ place_on c (records_of s) (records_of t)
  unfolding differ
  place_here p q e = sym (ap₂ (differ k) (next_here c s sa ka n x i w f p) (next_here c t sb kb m y j v g q) ∙ rw e) ∙ inv

  pub place_more : i < n → j < m → same (at (records_of s) i) (at (records_of t) j) ≡ true → Placing c (records_of s) (records_of t) (i + 1) (j + 1) (k + 1)
  unfolding differ
  place_more p q e =
      ap (λ (l : ℕ). differ l (on_channel c (drop (i + 1) (records_of s))) (on_channel c (drop (j + 1) (records_of t)))) (add-one k)
      ∙ sym (ap₂ (differ k) (next_here c s sa ka n x i w f p) (next_here c t sb kb m y j v g q) ∙ rw e) ∙ inv

-- ---- `store_places`
abbrev pub Storing : List Rec → List Rec → List ℕ → List ℕ → ℕ → Type 0
Storing a b places₀ places c = (c ≤ channels) × (sets places c (places_from a b c (channels - c)) ≡ sets places₀ 0 (places_of a b)) × (length places ≡ length places₀)

pub places_long : (a b : List Rec) (c k : ℕ) → length (places_from a b c k) ≡ k
unfolding places_from
places_long a b c zero = refl
places_long a b c (suc k) = ap suc (places_long a b (suc c) k)

pub storing_more : (a b : List Rec) (places₀ places : List ℕ) (c v : ℕ) → v ≡ place_on c a b → c < channels → Storing a b places₀ places c → Storing a b places₀ (set places c v) (c + 1)
unfolding places_from
storing_more a b places₀ places c v e h w =
    let z : channels - c ≡ suc (channels - (c + 1)) = omega arith in (
      omega arith,
      rw (e, add-one)
          (sym (ap (λ (k : ℕ). sets places c (places_from a b c k)) z ∙ rw add-one) ∙ w.1),
      length-set places c v ∙ w.2,
    )

pub storing_end : (a b : List Rec) (places₀ places : List ℕ) (c : ℕ) → channels ≤ c → Storing a b places₀ places c → places ≡ sets places₀ 0 (places_of a b)
unfolding places_from
storing_end a b places₀ places c h w = let z : channels - c ≡ 0 = omega arith in sym (ap (λ (k : ℕ). sets places c (places_from a b c k)) z) ∙ w.1

-- ---- `mark_channels`
pub mark_more : (keys : List ℕ) (seen₀ seen : List Bool) (i d : ℕ) → d ≡ get_or keys i 0 / 4294967296 → d < channels → Marked keys seen₀ seen i → Marked keys seen₀ (set seen d true) (i + 1)
mark_more keys seen₀ seen i d e h w = (length-set seen d true ∙ w.0, each) where
  each : (c : ℕ) → c < channels → get_or (set seen d true) c false ≡ false → (get_or seen₀ c false ≡ false) × ((j : ℕ) → j < i + 1 → get_or keys j 0 / 4294967296 ≡ c → ⊥)
  each c lt z = by (eqb c d) refl where
    by : (t : Bool) → eqb c d ≡ t → (get_or seen₀ c false ≡ false) × ((j : ℕ) → j < i + 1 → get_or keys j 0 / 4294967296 ≡ c → ⊥)
    by true p =
        let same-c : c ≡ d = eqb-true c d p in
        absurd (never (ap (λ (x : ℕ). get_or (set seen d true) x false) (sym same-c) ∙ z) (get_or-set_same seen d true false (omega (arith, w.0))))
    by false p =
        let ne : c ≡ d → ⊥ = eqb-false c d p in
        let o = w.1 c lt (sym (get_or-set_other seen d c true false ne) ∙ z) in
        (o.0, below_more (λ (j : ℕ). get_or keys j 0 / 4294967296 ≡ c → ⊥) i o.1 (λ q. ne (sym q ∙ sym e)))

pub mark_skip : (keys : List ℕ) (seen₀ seen : List Bool) (i : ℕ) → channels ≤ get_or keys i 0 / 4294967296 → Marked keys seen₀ seen i → Marked keys seen₀ seen (i + 1)
mark_skip keys seen₀ seen i h w =
    (w.0, λ c lt z. let o = w.1 c lt z in (o.0, below_more (λ (j : ℕ). get_or keys j 0 / 4294967296 ≡ c → ⊥) i o.1 (λ q. omega arith)))

-- what neither log has differs nowhere
pub unseen : (s sa ka : List ℕ) (n : ℕ) (t sb kb : List ℕ) (m : ℕ) → Ready s sa ka n → Ready t sb kb m → (c : ℕ)
    → ((j : ℕ) → j < n → get_or ka j 0 / 4294967296 ≡ c → ⊥) → ((j : ℕ) → j < m → get_or kb j 0 / 4294967296 ≡ c → ⊥) → place_on c (records_of s) (records_of t) ≡ 0
unfolding differ
unseen s sa ka n t sb kb m w v c f g =
    ap₂ (differ 1) (next-none c s sa ka n 0 n w (omega arith, omega arith, (λ j p le. f j p), (λ h. absurd (omega arith))) (omega arith))
    (next-none c t sb kb m 0 m v (omega arith, omega arith, (λ j p le. g j p), (λ h. absurd (omega arith))) (omega arith))
