-- Whatever reads as a record is exactly what is written for it: no record has two forms, and each takes a byte at least.
use mathlib.Core.Path.{◌≡◌, refl, sym, ap, ap₂, ◌∙◌}
use mathlib.Core.Bool.{Bool, true, false, cond}
use mathlib.Core.List.{List, [], ◌++◌, append_assoc, append-nil}
use Prim.Native.Nat.{ℕ, ◌+◌, ◌-◌, ◌/◌, ◌%◌, ◌≤◌, ◌<◌}
use native.Mathlib.Omega.{arith}
use lib.ListN.{length, get_or, take, drop, length-append, length-drop}
use lib.Seq.{take-append_seam, take-add, length-take-le, get_or-drop}
use lib.Dec.{ltb, leb, eqb}
use borrow.Author.Tests.{ltb-false, leb-false, eqb-true, eqb-false}
use Rattle.std.specs.Prelude.{Ok, Err}
use Rattle.refusals.specs.declared.Refusal.{Refusal}
use Rattle.refusals.specs.declared.Refusal.TheVariants.{IllNumber}
use Rattle.log_numbers.specs.declared.NumberError.TheVariants as num
use Rattle.log_records.specs.declared.RecordError.TheVariants.{Cut, Bad}
use Rattle.log_numbers.specs.Number.{Num, number_bytes, size_of, read_number, top, InWord}
use Rattle.log_records.specs.Record.{tick, frame, part_of, identifiers, Loggable, parts_bytes, record_bytes}
use Rattle.log_records.specs.Reading.{Taken, on_number, part, rec_of, length_part, identifier_part, channel_part, time_part, record_at}
use Rattle.log_numbers.proofs.Numbers.{Sound, sound, Under, within, Some, some}

abbrev pub Bytes : List ℕ → Type 0
Bytes s = (i : ℕ) → get_or s i 0 < 256

-- ---- a number that was read at i, with j behind it
abbrev pub Number : List ℕ → ℕ → ℕ → ℕ → Type 0
Number s i n j = (i < j) × (j ≤ length s) × InWord n × (Bytes s → take j s ≡ take i s ++ number_bytes n)

abbrev AsRead : List ℕ → ℕ → Num → Type 0
AsRead s i (Ok (n, j)) = Number s i n (i + j)
AsRead s i (Err num.Cut) = Unit {0}
AsRead s i (Err num.Ill) = Unit {0}

same_bytes_lem : (s : List ℕ) (i n j : ℕ) → j ≤ length (drop i s) → Sound 4 (drop i s) (Ok (n, j)) → take (i + j) s ≡ take i s ++ number_bytes n
same_bytes_lem s i n j h e =
    let l : size_of n ≡ j = omega (arith, sym (length-append (number_bytes n) (drop j (drop i s))) ∙ ap length e, length-drop j (drop i s)) in
    let t : take j (drop i s) ≡ number_bytes n =
    ap (take j) (sym e) ∙ ap (λ (k : ℕ). take k (number_bytes n ++ drop j (drop i s))) (sym l) ∙ take-append_seam (number_bytes n) (drop j (drop i s)) in
    take-add i j s ∙ ap (λ (x : List ℕ). take i s ++ x) t

as_read_of : (s : List ℕ) (i : ℕ) (r : Num) → i ≤ length s → Some r → Under (top 4) (length (drop i s)) r → (Bytes s → Sound 4 (drop i s) r) → AsRead s i r
unfolding top
as_read_of s i (Ok (n, j)) h p u f = (omega arith, omega (arith, u.1, length-drop i s), u.0, λ b. same_bytes_lem s i n j u.1 (f b))
as_read_of s i (Err num.Cut) h p u f = tt
as_read_of s i (Err num.Ill) h p u f = tt

as_read : (s : List ℕ) (i : ℕ) → i ≤ length s → AsRead s i (read_number (drop i s))
as_read s i h = as_read_of s i (read_number (drop i s)) h (some 4 (drop i s)) (within 4 (drop i s)) (λ b. sound 4 (drop i s) (λ k. rw (get_or-drop i s k 0) (b (i + k))))

-- ---- a fact of the records that are read goes through the parts one by one
module _ (P : Taken → Type 0) (cut : P (Err Cut)) (bad : (w : Refusal) → P (Err (Bad w))) (s : List ℕ) where
  on-number : (i : ℕ) (go : ℕ → ℕ → Taken) (r : Num) → AsRead s i r → ((n j : ℕ) → Number s i n j → P (go n j)) → P (on_number i go r)
  on-number i go (Ok (n, j)) h f = f n (i + j) h
  on-number i go (Err num.Cut) h f = cut
  on-number i go (Err num.Ill) h f = bad IllNumber

  pub by_part : (i : ℕ) (go : ℕ → ℕ → Taken) → i ≤ length s → ((n j : ℕ) → Number s i n j → P (go n j)) → P (part s i go)
  by_part i go h f = on-number i go (read_number (drop i s)) (as_read s i h) f

pub by_test : (P : Taken → Type 0) (t : Bool) (x y : Taken) → (t ≡ true → P x) → (t ≡ false → P y) → P (cond t x y)
by_test P true x y p q = p refl
by_test P false x y p q = q refl

-- ---- the record that was read from `at` on
abbrev pub Exact : List ℕ → ℕ → Taken → Type 0
Exact s at (Ok e) = (at < e.next) × (e.next ≤ length s) × (Bytes s → Loggable (rec_of s e) × (take e.next s ≡ take at s ++ record_bytes (rec_of s e)))
Exact s at (Err Cut) = Unit {0}
Exact s at (Err (Bad w)) = Unit {0}

part_back : (p : ℕ) (t : Bool) → eqb (p % 2) 1 ≡ t → part_of t (p / 2) ≡ p
part_back p true e = omega (arith, eqb-true (p % 2) 1 e)
part_back p false e = let h : p % 2 ≡ 1 → ⊥ = eqb-false (p % 2) 1 e in omega arith

-- five pieces behind the bytes before
five : (z a b c d e : List ℕ) → ((((z ++ a) ++ b) ++ c) ++ d) ++ e ≡ z ++ (a ++ (b ++ (c ++ (d ++ e))))
five z a b c d e = simp append_assoc

module _ (s : List ℕ) (at : ℕ) where
  -- the four numbers in front of i
  abbrev Head : ℕ → ℕ → ℕ → ℕ → ℕ → Type 0
  Head t c p l i = Bytes s → take i s ≡ (((take at s ++ number_bytes t) ++ number_bytes c) ++ number_bytes p) ++ number_bytes l

  whole-tick : (t c p l i : ℕ) → InWord t → c ≤ 31 → l ≡ 9 → p ≡ 0 → Head t c p l i → Bytes s
      → Loggable (tick t c) × (take i s ≡ take at s ++ record_bytes (tick t c))
  unfolding record_bytes
  whole-tick t c p l i ht hc l9 p0 h b = (
    (ht, hc),
    h b ∙ ap₂ (λ (x y : ℕ). (((take at s ++ number_bytes t) ++ number_bytes c) ++ number_bytes x) ++ number_bytes y) p0 l9
        ∙ sym (append-nil _) ∙ five (take at s) (number_bytes t) (number_bytes c) (number_bytes 0) (number_bytes 9) [],
  )

  whole-frame : (t c p l i : ℕ) → InWord t → c ≤ 31 → p / 2 < identifiers (eqb (p % 2) 1) → l ≤ 8 → l ≤ length s - i → Head t c p l i → Bytes s
      → Loggable (frame t c (eqb (p % 2) 1) (p / 2) (take l (drop i s))) × (take (i + l) s ≡ take at s ++ record_bytes (frame t c (eqb (p % 2) 1) (p / 2) (take l (drop i s))))
  unfolding record_bytes
  whole-frame t c p l i ht hc hp hl room h b =
      let len : length (take l (drop i s)) ≡ l = length-take-le l (drop i s) (omega (arith, length-drop i s)) in (
        (ht, hc, hp, omega (arith, len)),
        take-add i l s ∙ ap (λ (x : List ℕ). x ++ take l (drop i s)) (h b)
            ∙ five (take at s) (number_bytes t) (number_bytes c) (number_bytes p) (number_bytes l) (take l (drop i s))
            ∙ ap₂ (λ (x y : ℕ). take at s ++ parts_bytes t c x y (take l (drop i s))) (sym (part_back p (eqb (p % 2) 1) refl)) (sym len),
      )

  test : (t : Bool) (x y : Taken) → (t ≡ true → Exact s at x) → (t ≡ false → Exact s at y) → Exact s at (cond t x y)
  test = by_test (Exact s at)

  next : (i : ℕ) (go : ℕ → ℕ → Taken) → i ≤ length s → ((n j : ℕ) → Number s i n j → Exact s at (go n j)) → Exact s at (part s i go)
  next = by_part (Exact s at) tt (λ w. tt) s

  length-exact : (t c p l i : ℕ) → at < i → i ≤ length s → InWord t → c ≤ 31 → p / 2 < identifiers (eqb (p % 2) 1) → Head t c p l i → Exact s at (length_part s t c p l i)
  unfolding length_part
  length-exact t c p l i lt le ht hc hp h =
      test (ltb 9 l) _ _ (λ e. tt)
      (λ e9. test (eqb l 9) _ _
      (λ e. test (eqb p 0) _ _ (λ f. (lt, le, whole-tick t c p l i ht hc (eqb-true l 9 e) (eqb-true p 0 f) h)) (λ f. tt))
      (λ e. test (ltb (length s - i) l) _ _ (λ f. tt)
      (λ f.
      let few : l ≡ 9 → ⊥ = eqb-false l 9 e in
      let eight : l ≤ 8 = omega (arith, ltb-false 9 l e9) in
      let room : l ≤ length s - i = ltb-false (length s - i) l f in
      (omega arith, omega arith, whole-frame t c p l i ht hc hp eight room h))))

  -- the bytes of one more number
  more : (i j n : ℕ) (x : List ℕ) → (Bytes s → take i s ≡ x) → Number s i n j → Bytes s → take j s ≡ x ++ number_bytes n
  more i j n x h k b = k.3 b ∙ ap (λ (y : List ℕ). y ++ number_bytes n) (h b)

  identifier-exact : (t c p i : ℕ) → at < i → i ≤ length s → InWord t → c ≤ 31 → (Bytes s → take i s ≡ ((take at s ++ number_bytes t) ++ number_bytes c) ++ number_bytes p)
      → Exact s at (identifier_part s t c p i)
  unfolding identifier_part
  identifier-exact t c p i lt le ht hc h =
      test (leb (identifiers (eqb (p % 2) 1)) (p / 2)) _ _ (λ e. tt)
      (λ e. next i (length_part s t c p) le
      (λ l j k. length-exact t c p l j (omega (arith, k.0)) k.1 ht hc (leb-false (identifiers (eqb (p % 2) 1)) (p / 2) e) (more i j l _ h k)))

  channel-exact : (t c i : ℕ) → at < i → i ≤ length s → InWord t → (Bytes s → take i s ≡ (take at s ++ number_bytes t) ++ number_bytes c) → Exact s at (channel_part s t c i)
  unfolding channel_part
  channel-exact t c i lt le ht h =
      test (ltb 31 c) _ _ (λ e. tt)
      (λ e. next i (identifier_part s t c) le (λ p j k. identifier-exact t c p j (omega (arith, k.0)) k.1 ht (ltb-false 31 c e) (more i j p _ h k)))

  time-exact : (t i : ℕ) → at < i → i ≤ length s → InWord t → (Bytes s → take i s ≡ take at s ++ number_bytes t) → Exact s at (time_part s t i)
  unfolding time_part
  time-exact t i lt le ht h = next i (channel_part s t) le (λ c j k. channel-exact t c j (omega (arith, k.0)) k.1 ht (more i j c _ h k))

  pub exact : at ≤ length s → Exact s at (record_at s at)
  unfolding record_at
  exact le = next at (time_part s) le (λ t i k. time-exact t i k.0 k.1 k.2 k.3)
