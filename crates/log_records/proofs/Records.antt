-- A record's bytes, followed by anything, read as that record; a piece of them reads as cut.
use mathlib.Core.Path.{◌≡◌, refl, sym, ap, ◌∙◌}
use mathlib.Core.Logic.{◌⊎◌, inl, inr, ⊎_elim}
use mathlib.Core.Bool.{Bool, true, false, cond}
use mathlib.Core.List.{List, [], ◌∷◌, ◌++◌, append_assoc}
use Prim.Native.Nat.{ℕ, zero, suc, ◌+◌, ◌-◌, ◌/◌, ◌%◌, ◌≤◌, ◌<◌}
use native.Mathlib.Omega.{arith}
use lib.ListN.{length, take, drop, length-append, length-drop}
use lib.Seq.{drop-append_seam, take-append_seam, take-append-le, take-append-add, drop-drop, length-take-le}
use lib.Dec.{ltb, eqb}
use borrow.Author.Tests.{ltb-true, ltb-false, lt-ltb, le-ltb, lt-leb, eq-eqb, ne_eqb}
use Rattle.std.specs.Prelude.{Ok, Err}
use Rattle.refusals.specs.declared.Refusal.TheVariants.{LogChannel}
use Rattle.log_numbers.specs.declared.NumberError.TheVariants as num
use Rattle.log_records.specs.declared.Entry.{Entry}
use Rattle.log_records.specs.declared.RecordError.TheVariants.{Cut, Bad}
use Rattle.log_numbers.specs.Number.{groups, number_bytes, size_of, read_number, top, InWord}
use Rattle.log_records.specs.Record.{Rec, tick, frame, part_of, identifiers, Loggable, parts_bytes, record_bytes}
use Rattle.log_records.specs.Reading.{Taken, on_number, part, above_of, tick_entry, frame_entry, rec_of, length_part, identifier_part, channel_part, time_part, record_at}
use Rattle.log_numbers.proofs.Numbers.{written, cut_short}

-- ---- a number at i of s
reads : (s : List ℕ) (i n : ℕ) (r : List ℕ) → InWord n → drop i s ≡ number_bytes n ++ r → read_number (drop i s) ≡ Ok (n, size_of n)
unfolding top
reads s i n r h e = ap read_number e ∙ written 4 n r h

pub part_reads : (s : List ℕ) (i n : ℕ) (r : List ℕ) (go : ℕ → ℕ → Taken) → InWord n → drop i s ≡ number_bytes n ++ r → part s i go ≡ go n (i + size_of n)
part_reads s i n r go h e = ap (on_number i go) (reads s i n r h e)

pub next : (s : List ℕ) (i n : ℕ) (r : List ℕ) → drop i s ≡ number_bytes n ++ r → drop (i + size_of n) s ≡ r
next s i n r e = sym (drop-drop (size_of n) i s) ∙ ap (drop (size_of n)) e ∙ drop-append_seam (number_bytes n) r

-- ---- the identifier part of a frame that the log can hold
pub part_word_lem : (x : Bool) (i : ℕ) → i < identifiers x → InWord (part_of x i)
part_word_lem true i h = omega arith
part_word_lem false i h = omega arith

pub part_half : (x : Bool) (i : ℕ) → part_of x i / 2 ≡ i
part_half true i = omega arith
part_half false i = omega arith

pub part_form : (x : Bool) (i : ℕ) → eqb (part_of x i % 2) 1 ≡ x
part_form true i = eq-eqb (part_of true i % 2) 1 (omega arith)
part_form false i = ne_eqb (part_of false i % 2) 1 (λ z. omega arith)

-- ---- the record that stands at a place: its entry
unfoldable pub entry_at : ℕ → Rec → Entry
entry_at at (tick t c) = tick_entry t c (at + size_of t + size_of c + size_of 0 + size_of 9)
entry_at at (frame t c x i b) = frame_entry t c (part_of x i) (length b) (at + size_of t + size_of c + size_of (part_of x i) + size_of (length b))

module _ (s : List ℕ) where
  -- after time, channel and identifier part
  to-length : (at t c p : ℕ) (r : List ℕ) → InWord t → c ≤ 31 → InWord p → p / 2 < identifiers (eqb (p % 2) 1)
      → drop at s ≡ number_bytes t ++ (number_bytes c ++ (number_bytes p ++ r))
      → (record_at s at ≡ part s (at + size_of t + size_of c + size_of p) (length_part s t c p)) × (drop (at + size_of t + size_of c + size_of p) s ≡ r)
  unfolding record_at time_part channel_part identifier_part
  to-length at t c p r ht hc hw hp e =
      let e1 : drop (at + size_of t) s ≡ number_bytes c ++ (number_bytes p ++ r) = next s at t _ e in
      let e2 : drop (at + size_of t + size_of c) s ≡ number_bytes p ++ r = next s (at + size_of t) c _ e1 in (
        part_reads s at t _ (time_part s) ht e
            ∙ part_reads s (at + size_of t) c _ (channel_part s t) (omega arith) e1
            ∙ ap (λ (b : Bool). cond b (Err (Bad LogChannel)) (part s (at + size_of t + size_of c) (identifier_part s t c))) (le-ltb 31 c hc)
            ∙ part_reads s (at + size_of t + size_of c) p _ (identifier_part s t c) hw e2
            ∙ ap (λ (b : Bool). cond b (Err (Bad (above_of (eqb (p % 2) 1)))) (part s (at + size_of t + size_of c + size_of p) (length_part s t c p))) (lt-leb (identifiers (eqb (p % 2) 1)) (p / 2) hp),
        next s (at + size_of t + size_of c) p _ e2,
      )

  tick_is : (t c i : ℕ) (r : List ℕ) → drop i s ≡ number_bytes 9 ++ r → part s i (length_part s t c 0) ≡ Ok (tick_entry t c (i + size_of 9))
  unfolding length_part
  tick_is t c i r e = part_reads s i 9 r (length_part s t c 0) (omega arith) e

  frame_is : (t c p i l : ℕ) (r : List ℕ) → l ≤ 8 → l ≤ length r → drop i s ≡ number_bytes l ++ r → part s i (length_part s t c p) ≡ Ok (frame_entry t c p l (i + size_of l))
  unfolding length_part
  frame_is t c p i l r h room e =
      let rest : length s - (i + size_of l) ≡ length r = sym (length-drop (i + size_of l) s) ∙ ap length (next s i l r e) in
      part_reads s i l r (length_part s t c p) (omega arith) e
      ∙ rw (le-ltb 9 l (omega arith), ne_eqb l 9 (λ z. omega arith), le-ltb (length s - (i + size_of l)) l (omega (arith, rest)))

parts_then : (t c p l : ℕ) (b r : List ℕ) → parts_bytes t c p l b ++ r ≡ parts_bytes t c p l (b ++ r)
parts_then t c p l b r = simp append_assoc

parts_length : (t c p l : ℕ) (b : List ℕ) → length (parts_bytes t c p l b) ≡ size_of t + size_of c + size_of p + size_of l + length b
parts_length t c p l b = simp length-append (omega arith)

-- a record's bytes, followed by anything, read as its entry
pub record_reads : (x : Rec) (s : List ℕ) (at : ℕ) (r : List ℕ) → Loggable x → drop at s ≡ record_bytes x ++ r → record_at s at ≡ Ok (entry_at at x)
unfolding record_bytes entry_at
record_reads (tick t c) s at r h e =
    let k = to-length s at t c 0 (number_bytes 9 ++ r) h.0 h.1 (omega arith) (omega arith) (e ∙ parts_then t c 0 9 [] r) in
    k.0 ∙ tick_is s t c _ r k.1
record_reads (frame t c x i b) s at r h e =
    let p : ℕ = part_of x i in
    let fits : p / 2 < identifiers (eqb (p % 2) 1) = rw (part_half x i, part_form x i) h.2 in
    let k = to-length s at t c p (number_bytes (length b) ++ (b ++ r)) h.0 h.1 (part_word_lem x i h.2) fits (e ∙ parts_then t c p (length b) b r) in
    k.0 ∙ frame_is s t c p _ (length b) (b ++ r) h.3 (omega (arith, length-append b r)) k.1

pub next_is : (x : Rec) (at : ℕ) → (entry_at at x).next ≡ at + length (record_bytes x)
unfolding record_bytes entry_at
next_is (tick t c) at = omega (arith, parts_length t c 0 9 [])
next_is (frame t c x i b) at = omega (arith, parts_length t c (part_of x i) (length b) b)

-- that entry stands for the record
pub record_of_lem : (x : Rec) (s : List ℕ) (at : ℕ) (r : List ℕ) → Loggable x → drop at s ≡ record_bytes x ++ r → rec_of s (entry_at at x) ≡ x
unfolding record_bytes entry_at
record_of_lem (tick t c) s at r h e = refl
record_of_lem (frame t c x i b) s at r h e =
    let p : ℕ = part_of x i in
    let e1 : drop (at + size_of t) s ≡ number_bytes c ++ (number_bytes p ++ (number_bytes (length b) ++ (b ++ r))) = next s at t _ (e ∙ parts_then t c p (length b) b r) in
    let e2 : drop (at + size_of t + size_of c) s ≡ number_bytes p ++ (number_bytes (length b) ++ (b ++ r)) = next s (at + size_of t) c _ e1 in
    let e3 : drop (at + size_of t + size_of c + size_of p) s ≡ number_bytes (length b) ++ (b ++ r) = next s (at + size_of t + size_of c) p _ e2 in
    let e4 : drop (at + size_of t + size_of c + size_of p + size_of (length b)) s ≡ b ++ r = next s (at + size_of t + size_of c + size_of p) (length b) _ e3 in
    rw (part_form x i, part_half x i, e4, take-append_seam b r)

-- a record takes a byte at least
size_some : (k n : ℕ) → 0 < length (groups k n)
unfolding groups
size_some zero n = omega arith
size_some (suc k) n = pick (ltb n 128) where
  pick : (t : Bool) → 0 < length (cond t (n ∷ []) ((n % 128 + 128) ∷ groups k (n / 128)))
  pick true = omega arith
  pick false = omega arith

pub record_some : (x : Rec) → 0 < length (record_bytes x)
unfolding record_bytes
record_some (tick t c) = omega (arith, parts_length t c 0 9 [], size_some 4 t)
record_some (frame t c x i b) = omega (arith, parts_length t c (part_of x i) (length b) b, size_some 4 t)

-- ---- a cut inside

-- from i on s is the first m bytes of r, and r has more
abbrev Short : List ℕ → ℕ → ℕ → List ℕ → Type 0
Short s i m r = (m < length r) × (drop i s ≡ take m r)

cut_or : (n m : ℕ) (r : List ℕ) → (read_number (take m (number_bytes n ++ r)) ≡ Err num.Cut) ⊎ ((size_of n ≤ m) × (take m (number_bytes n ++ r) ≡ number_bytes n ++ take (m - size_of n) r))
cut_or n m r = by (ltb m (size_of n)) refl where
  by : (b : Bool) → ltb m (size_of n) ≡ b
      → (read_number (take m (number_bytes n ++ r)) ≡ Err num.Cut) ⊎ ((size_of n ≤ m) × (take m (number_bytes n ++ r) ≡ number_bytes n ++ take (m - size_of n) r))
  by true e =
      let lt : m < size_of n = ltb-true m (size_of n) e in
      inl (ap read_number (take-append-le m (number_bytes n) r (omega arith)) ∙ cut_short 4 n m lt)
  by false e =
      let le : size_of n ≤ m = ltb-false m (size_of n) e in
      let sum : m ≡ size_of n + (m - size_of n) = omega arith in
      inr (le, ap (λ (k : ℕ). take k (number_bytes n ++ r)) sum ∙ take-append-add (number_bytes n) r (m - size_of n))

module _ (s : List ℕ) where
  -- the cut is in this number, or behind it
  part_cut : (i n m : ℕ) (r : List ℕ) (go : ℕ → ℕ → Taken) → InWord n → Short s i m (number_bytes n ++ r) → ((j k : ℕ) → Short s j k r → go n j ≡ Err Cut) → part s i go ≡ Err Cut
  part_cut i n m r go h w f =
      ⊎_elim (λ z. ap (on_number i go) (ap read_number w.1 ∙ z))
      (λ y.
      let e : drop i s ≡ number_bytes n ++ take (m - size_of n) r = w.1 ∙ y.1 in
      part_reads s i n _ go h e ∙ f (i + size_of n) (m - size_of n) (omega (arith, length-append (number_bytes n) r, w.0, y.0), next s i n _ e))
      (cut_or n m r)

  payload_cut : (t c p i l m : ℕ) (b : List ℕ) → l ≤ 8 → length b ≡ l → Short s i m b → length_part s t c p l i ≡ Err Cut
  unfolding length_part
  payload_cut t c p i l m b h g w =
      let few : length s - i < l = omega (arith, w.0, length-take-le m b (omega (arith, w.0)), sym (length-drop i s) ∙ ap length w.1) in
      rw (le-ltb 9 l (omega arith), ne_eqb l 9 (λ z. omega arith), lt-ltb (length s - i) l few)

  to-length-cut : (at t c p m : ℕ) (r : List ℕ) → InWord t → c ≤ 31 → InWord p → p / 2 < identifiers (eqb (p % 2) 1)
      → Short s at m (number_bytes t ++ (number_bytes c ++ (number_bytes p ++ r))) → ((j k : ℕ) → Short s j k r → part s j (length_part s t c p) ≡ Err Cut) → record_at s at ≡ Err Cut
  unfolding record_at time_part channel_part identifier_part
  to-length-cut at t c p m r ht hc hw hp w f =
      part_cut at t m _ (time_part s) ht w
      (λ j k w1. part_cut j c k _ (channel_part s t) (omega arith) w1
      (λ j k w2. ap (λ (b : Bool). cond b (Err (Bad LogChannel)) (part s j (identifier_part s t c))) (le-ltb 31 c hc)
      ∙ part_cut j p k _ (identifier_part s t c) hw w2
      (λ j k w3. ap (λ (b : Bool). cond b (Err (Bad (above_of (eqb (p % 2) 1)))) (part s j (length_part s t c p))) (lt-leb (identifiers (eqb (p % 2) 1)) (p / 2) hp) ∙ f j k w3)))

-- a record that is cut anywhere reads as cut
pub record_cut : (x : Rec) (s : List ℕ) (at m : ℕ) → Loggable x → m < length (record_bytes x) → drop at s ≡ take m (record_bytes x) → record_at s at ≡ Err Cut
unfolding record_bytes
record_cut (tick t c) s at m h lt e =
    to-length-cut s at t c 0 m _ h.0 h.1 (omega arith) (omega arith) (lt, e)
    (λ j k w. part_cut s j 9 k [] (length_part s t c 0) (omega arith) w (λ j k w. absurd (omega (arith, w.0))))
record_cut (frame t c x i b) s at m h lt e =
    let p : ℕ = part_of x i in
    let fits : p / 2 < identifiers (eqb (p % 2) 1) = rw (part_half x i, part_form x i) h.2 in
    to-length-cut s at t c p m _ h.0 h.1 (part_word_lem x i h.2) fits (lt, e)
    (λ j k w. part_cut s j (length b) k b (length_part s t c p) (omega (arith, h.3)) w (λ j k w. payload_cut s t c p j (length b) k b h.3 refl w))
