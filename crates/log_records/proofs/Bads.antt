-- A record is refused with a number exactly where its earliest bad part asks for it, whatever follows that part and where nothing does.
use mathlib.Core.Path.{◌≡◌, refl, sym, ap, ◌∙◌, subst}
use mathlib.Core.Logic.{inl, inr, ⊎_elim}
use mathlib.Core.Bool.{Bool, true, false, cond}
use mathlib.Core.List.{List, [], ◌∷◌, ◌++◌}
use Prim.Native.Nat.{ℕ, zero, suc, ◌+◌, ◌-◌, ◌*◌, ◌/◌, ◌%◌, ◌≤◌}
use native.Mathlib.Omega.{arith}
use lib.ListN.{length, drop}
use lib.Seq.{drop-drop, get_or-drop}
use lib.Dec.{ltb, leb, eqb}
use borrow.Author.Tests.{ltb-true, ltb-false, lt-ltb, le-ltb, leb-true, leb-false, le-leb, lt-leb, eqb-true, eqb-false, eq-eqb, ne_eqb}
use Rattle.std.specs.Prelude.{Ok, Err}
use Rattle.refusals.specs.declared.Refusal.{Refusal}
use Rattle.refusals.specs.declared.Refusal.TheVariants.{IllNumber}
use Rattle.log_numbers.specs.declared.NumberError.TheVariants as num
use Rattle.log_records.specs.declared.RecordError.TheVariants.{Cut, Bad}
use Rattle.log_numbers.specs.Number.{Num, number_bytes, size_of, more_of, read_groups, read_number, top}
use Rattle.log_records.specs.Record.{identifiers}
use Rattle.log_records.specs.Reading.{Taken, on_number, part, length_part, identifier_part, channel_part, time_part, record_at}
use Rattle.log_records.specs.Malformed.{EmptyGroup, IllFormed, BadFrom, BadLength, is_extended, BadIdentifier, BadChannel, Malformed}
use Rattle.log_numbers.proofs.Numbers.{Sound, sound, Under, within}
use Rattle.log_records.proofs.Records.{part_reads, next}
use Rattle.log_records.proofs.Wholes.{Bytes}

-- ---- ill-formed numbers

empty_reads : (k b : ℕ) (bs : List ℕ) → b ≡ 0 → read_groups k (b ∷ bs) ≡ Ok (0, 1)
unfolding read_groups
empty_reads zero b bs e = rw e
empty_reads (suc k) b bs e = rw e

empty_ill : (k b : ℕ) (bs : List ℕ) → EmptyGroup bs → more_of b (read_groups k bs) ≡ Err num.Ill
empty_ill k b [] e = absurd e
empty_ill k b (a ∷ r) e = ap (more_of b) (empty_reads k a r e)

ill_reads : (k : ℕ) (s : List ℕ) → IllFormed k s → read_groups k s ≡ Err num.Ill
unfolding read_groups IllFormed
ill_reads zero [] h = absurd h
ill_reads (suc k) [] h = absurd h
ill_reads zero (b ∷ bs) h = rw (le-ltb b 16 h)
ill_reads (suc k) (b ∷ bs) h = ap (λ (t : Bool). cond t (Ok (b, 1)) (more_of b (read_groups k bs))) (le-ltb b 128 h.0) ∙ ⊎_elim (empty_ill k b bs) (λ i. ap (more_of b) (ill_reads k bs i)) h.1

-- a number that reads as 0 is an empty group, and one that reads as ill-formed is
abbrev Tells : ℕ → List ℕ → Num → Type 0
Tells k s (Ok (n, j)) = n ≡ 0 → EmptyGroup s
Tells k s (Err num.Cut) = Unit {0}
Tells k s (Err num.Ill) = IllFormed k s

tells_cond : (k : ℕ) (s : List ℕ) (t : Bool) (x y : Num) → (t ≡ true → Tells k s x) → (t ≡ false → Tells k s y) → Tells k s (cond t x y)
tells_cond k s true x y p q = p refl
tells_cond k s false x y p q = q refl

tells_more : (k b : ℕ) (bs : List ℕ) (r : Num) → 128 ≤ b → Tells k bs r → Tells (suc k) (b ∷ bs) (more_of b r)
unfolding IllFormed
tells_more k b bs (Ok (n, j)) h t =
    tells_cond (suc k) (b ∷ bs) (eqb n 0) (Err num.Ill) (Ok (n * 128 + b % 128, j + 1)) (λ e. (h, inl (t (eqb-true n 0 e))))
    (λ e z. let some : n ≡ 0 → ⊥ = eqb-false n 0 e in absurd (some (omega arith)))
tells_more k b bs (Err num.Cut) h t = tt
tells_more k b bs (Err num.Ill) h t = (h, inr t)

tells : (k : ℕ) (s : List ℕ) → Tells k s (read_groups k s)
unfolding read_groups IllFormed
tells zero [] = tt
tells (suc k) [] = tt
tells zero (b ∷ bs) = tells_cond zero (b ∷ bs) (ltb b 16) (Ok (b, 1)) (Err num.Ill) (λ e z. z) (λ e. ltb-false b 16 e)
tells (suc k) (b ∷ bs) =
    tells_cond (suc k) (b ∷ bs) (ltb b 128) (Ok (b, 1)) (more_of b (read_groups k bs)) (λ e z. z) (λ e. tells_more k b bs (read_groups k bs) (ltb-false b 128 e) (tells k bs))

-- ---- a bad part is refused

module _ (s : List ℕ) where
  bad-part : (w : Refusal) (rest : ℕ → List ℕ → Type 0) (i : ℕ) (go : ℕ → ℕ → Taken)
      → ((n j : ℕ) (r : List ℕ) → drop j s ≡ r → rest n r → go n j ≡ Err (Bad w)) → BadFrom w rest (drop i s) → part s i go ≡ Err (Bad w)
  bad-part w rest i go f h =
      ⊎_elim (λ x. ap (on_number i go) (ill_reads 4 (drop i s) x.0) ∙ ap (λ (w : Refusal). Err (Bad w)) (sym x.1))
      (λ x. part_reads s i x.0 x.1 go x.2 x.3 ∙ f x.0 (i + size_of x.0) x.1 (next s i x.0 x.1 x.3) x.4) h

  bad-length : (w : Refusal) (t c p l i : ℕ) → BadLength w p l → length_part s t c p l i ≡ Err (Bad w)
  unfolding length_part
  bad-length w t c p l i h =
      ⊎_elim (λ x. rw (lt-ltb 9 l x.0) (ap (λ (w : Refusal). Err (Bad w)) (sym x.1)))
      (λ x. rw (le-ltb 9 l (omega (arith, x.0)), eq-eqb l 9 x.0, ne_eqb p 0 x.1) (ap (λ (w : Refusal). Err (Bad w)) (sym x.2))) h

  bad-identifier : (w : Refusal) (t c p i : ℕ) (r : List ℕ) → drop i s ≡ r → BadIdentifier w p r → identifier_part s t c p i ≡ Err (Bad w)
  unfolding identifier_part
  bad-identifier w t c p i r e h =
      ⊎_elim (λ x. rw (le-leb (identifiers (is_extended p)) (p / 2) x.0) (ap (λ (w : Refusal). Err (Bad w)) (sym x.1)))
      (λ x. rw (lt-leb (identifiers (is_extended p)) (p / 2) x.0)
      (bad-part w (λ l q. BadLength w p l) i (length_part s t c p) (λ l j q g k. bad-length w t c p l j k) (subst (BadFrom w (λ l q. BadLength w p l)) (sym e) x.1))) h

  bad-channel : (w : Refusal) (t c i : ℕ) (r : List ℕ) → drop i s ≡ r → BadChannel w c r → channel_part s t c i ≡ Err (Bad w)
  unfolding channel_part
  bad-channel w t c i r e h =
      ⊎_elim (λ x. rw (lt-ltb 31 c x.0) (ap (λ (w : Refusal). Err (Bad w)) (sym x.1)))
      (λ x. rw (le-ltb 31 c x.0)
      (bad-part w (BadIdentifier w) i (identifier_part s t c) (λ p j q g k. bad-identifier w t c p j q g k) (subst (BadFrom w (BadIdentifier w)) (sym e) x.1))) h

  -- "the earliest bad part deciding and going before a cut"
  pub malformed_refused : (w : Refusal) (at : ℕ) → Malformed w (drop at s) → record_at s at ≡ Err (Bad w)
  unfolding Malformed record_at time_part
  malformed_refused w at h =
      bad-part w (λ t r. BadFrom w (BadChannel w) r) at (time_part s)
      (λ t i r e k. bad-part w (BadChannel w) i (channel_part s t) (λ c j q g x. bad-channel w t c j q g x) (subst (BadFrom w (BadChannel w)) (sym e) k)) h

-- ---- and nothing else is refused

-- a refusal has its reason
abbrev For : (Refusal → Type 0) → Taken → Type 0
For f (Ok e) = Unit {0}
For f (Err Cut) = Unit {0}
For f (Err (Bad w)) = f w

for_cond : (f : Refusal → Type 0) (t : Bool) (x y : Taken) → (t ≡ true → For f x) → (t ≡ false → For f y) → For f (cond t x y)
for_cond f true x y p q = p refl
for_cond f false x y p q = q refl

for_map : (f g : Refusal → Type 0) (t : Taken) → ((w : Refusal) → g w → f w) → For g t → For f t
for_map f g (Ok e) h x = tt
for_map f g (Err Cut) h x = tt
for_map f g (Err (Bad w)) h x = h w x

module _ (s : List ℕ) (b : Bytes s) where
  reason-number : (f : Refusal → Type 0) (rest : Refusal → ℕ → List ℕ → Type 0) (i : ℕ) (go : ℕ → ℕ → Taken) (r : Num)
      → Tells 4 (drop i s) r → Under (top 4) (length (drop i s)) r → Sound 4 (drop i s) r
      → ((w : Refusal) → BadFrom w (rest w) (drop i s) → f w) → ((n j : ℕ) → For (λ w. rest w n (drop j s)) (go n j)) → For f (on_number i go r)
  unfolding top
  reason-number f rest i go (Ok (n, j)) t u e h k =
      for_map f (λ w. rest w n (drop (i + j) s)) (go n (i + j))
      (λ w x. h w (inr (n, drop (i + j) s, u.0, sym e ∙ ap (λ (l : List ℕ). number_bytes n ++ l) (drop-drop j i s), x))) (k n (i + j))
  reason-number f rest i go (Err num.Cut) t u e h k = tt
  reason-number f rest i go (Err num.Ill) t u e h k = h IllNumber (inl (t, refl))

  reason-part : (f : Refusal → Type 0) (rest : Refusal → ℕ → List ℕ → Type 0) (i : ℕ) (go : ℕ → ℕ → Taken)
      → ((w : Refusal) → BadFrom w (rest w) (drop i s) → f w) → ((n j : ℕ) → For (λ w. rest w n (drop j s)) (go n j)) → For f (part s i go)
  reason-part f rest i go h k =
      reason-number f rest i go (read_number (drop i s)) (tells 4 (drop i s)) (within 4 (drop i s)) (sound 4 (drop i s) (λ n. rw (get_or-drop i s n 0) (b (i + n)))) h k

  reason-length : (t c p l i : ℕ) → For (λ w. BadLength w p l) (length_part s t c p l i)
  unfolding length_part
  reason-length t c p l i =
      for_cond (λ w. BadLength w p l) (ltb 9 l) _ _ (λ e. inl (ltb-true 9 l e, refl))
      (λ e. for_cond (λ w. BadLength w p l) (eqb l 9) _ _
      (λ g. for_cond (λ w. BadLength w p l) (eqb p 0) _ _ (λ z. tt) (λ z. inr (eqb-true l 9 g, eqb-false p 0 z, refl)))
      (λ g. for_cond (λ w. BadLength w p l) (ltb (length s - i) l) _ _ (λ z. tt) (λ z. tt)))

  reason-identifier : (t c p i : ℕ) → For (λ w. BadIdentifier w p (drop i s)) (identifier_part s t c p i)
  unfolding identifier_part
  reason-identifier t c p i =
      for_cond (λ w. BadIdentifier w p (drop i s)) (leb (identifiers (is_extended p)) (p / 2)) _ _ (λ e. inl (leb-true (identifiers (is_extended p)) (p / 2) e, refl))
      (λ e. reason-part (λ w. BadIdentifier w p (drop i s)) (λ w l q. BadLength w p l) i (length_part s t c p)
      (λ w x. inr (leb-false (identifiers (is_extended p)) (p / 2) e, x)) (λ l j. reason-length t c p l j))

  reason-channel : (t c i : ℕ) → For (λ w. BadChannel w c (drop i s)) (channel_part s t c i)
  unfolding channel_part
  reason-channel t c i =
      for_cond (λ w. BadChannel w c (drop i s)) (ltb 31 c) _ _ (λ e. inl (ltb-true 31 c e, refl))
      (λ e. reason-part (λ w. BadChannel w c (drop i s)) BadIdentifier i (identifier_part s t c) (λ w x. inr (ltb-false 31 c e, x)) (λ p j. reason-identifier t c p j))

  reason : (at : ℕ) → For (λ w. Malformed w (drop at s)) (record_at s at)
  unfolding Malformed record_at time_part
  reason at =
      reason-part (λ w. Malformed w (drop at s)) (λ w t r. BadFrom w (BadChannel w) r) at (time_part s) (λ w x. x)
      (λ t i. reason-part (λ w. BadFrom w (BadChannel w) (drop i s)) BadChannel i (channel_part s t) (λ w x. x) (λ c j. reason-channel t c j))

  pub refused_malformed : (w : Refusal) (at : ℕ) → record_at s at ≡ Err (Bad w) → Malformed w (drop at s)
  refused_malformed w at e = subst (For (λ v. Malformed v (drop at s))) e (reason at)
