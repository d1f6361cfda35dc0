-- 01, "first the frame's own 3 to 6, then 13, then 7, then 5 for the new label": changing gives each of them exactly in its case.
-- Assumes nothing.
use Rattle.std.specs.Prelude.{Some, None, Ok, Err, Option}
use mathlib.Core.Path.{◌≡◌, refl, sym, ap, ◌∙◌}
use mathlib.Core.Bool.{Bool, true, false}
use mathlib.Core.Logic.{◌⊎◌, inl, inr, ◌↔◌}
use mathlib.Core.List.{List}
use Prim.Native.Nat.{ℕ, ◌≤◌}
use native.Mathlib.Omega.{arith}
use lib.IntN.{ℤ}
use Rattle.signal.specs.Raw.{fits_in, bits_in}
use Rattle.refusals.specs.declared.Refusal.{Refusal}
use Rattle.refusals.specs.declared.Refusal.TheVariants.{NoLabel, NoRawNumber, NoSignal}
use Rattle.refusals.specs.Refusals.{number_of}
use Rattle.page_write.specs.page_table.specs.declared.Interface.{Interface}
use Rattle.page_write.specs.page_table.specs.declared.Row.{Row}
use Rattle.page_write.specs.page_table.specs.Table.{rows, row_at, is_signal, first_at, takes}
use Rattle.page_write.specs.page_table.specs.Listed.{SignalAt}
use Rattle.page_write.specs.page_table.proofs.Listed.{found_signal, signal_found, no_signal_at}
use Rattle.page_write.specs.page_read.specs.Judged.{Judged}
use Rattle.page_write.specs.page_read.specs.Judge.{judge_on}
use Rattle.page_write.specs.page_read.specs.Refusing.{Gives}
use Rattle.page_write.specs.page_read.proofs.Refusing.{reading_gives}
use Rattle.page_change.specs.Change.{changed_by, changed_row, changed_at, changed_in, change_on}
use Rattle.page_change.specs.Refusing.{NoneStarts, Unfit, NewOffence}

module _ (iface : Interface) (m : ℕ) (x : Bool) (bs : List ℕ) (s : ℕ) (z : ℤ) where
  -- ---- in each case that refusal

  own-refusal : (w : Refusal) → judge_on iface m x bs ≡ Err w → change_on iface m x bs s z ≡ Err w
  unfolding change_on
  own-refusal w j = ap (changed_in s z) j

  none-starts : NoneStarts iface m x bs s → change_on iface m x bs s z ≡ Err NoSignal
  unfolding change_on
  none-starts c = ap (changed_in s z) c.accepted ∙ ap (changed_at c.kind c.number z) (no_signal_at c.kind s c.none)

  at_row : (k n : ℕ) (r : Row) → judge_on iface m x bs ≡ Ok (k, n) → SignalAt k s r → change_on iface m x bs s z ≡ changed_row r k n z
  unfolding change_on
  at_row k n r j t =
      let p = signal_found k s r t in
      ap (changed_in s z) j ∙ ap (changed_at k n z) p.1 ∙ ap (λ (q : Row). changed_row q k n z) p.2

  unfit-row : Unfit iface m x bs s z → change_on iface m x bs s z ≡ Err NoRawNumber
  unfit-row c = at_row c.kind c.number c.row c.accepted c.signal ∙ rw c.unfit

  -- with the start of the changed signal
  pub new_offence : NewOffence iface m x bs s z → change_on iface m x bs s z ≡ Err (NoLabel s)
  new_offence c =
      at_row c.kind c.number c.row c.accepted c.signal ∙ rw (c.fits, c.offending) (ap (λ (y : ℕ). Err (NoLabel y)) c.signal.start)

  -- ---- and in no other

  -- the test that gave the refusal with the number c
  data Told (c : ℕ) : Type 0 where
    own : Gives c (judge_on iface m x bs) → Told c
    missing : c ≡ 13 → NoneStarts iface m x bs s → Told c
    wide : c ≡ 7 → Unfit iface m x bs s z → Told c
    nameless : c ≡ 5 → NewOffence iface m x bs s z → Told c

  is_number : (a : Judged) (v w : Refusal) (c : ℕ) → a ≡ Err v → a ≡ Err w → number_of w ≡ c → c ≡ number_of v
  is_number a v w c e f n = let q : w ≡ v = cc in sym n ∙ ap number_of q

  told : (c : ℕ) → Gives c (change_on iface m x bs s z) → Told c
  unfolding change_on
  told c (w, e, n) = outer (judge_on iface m x bs) refl
    where
      inner : (k n₀ : ℕ) (r : Row) (a b : Bool) → judge_on iface m x bs ≡ Ok (k, n₀) → SignalAt k s r → fits_in r.signed r.width z ≡ a
          → takes r.labels (bits_in r.signed r.width z) ≡ b
          → change_on iface m x bs s z ≡ changed_by r k n₀ z a b → Told c
      inner k n₀ r true true j t p q o = absurd (let z : ◌≡◌ {A = ℕ} 0 1 = cc in omega arith)
      inner k n₀ r true false j t p q o =
          nameless (is_number (change_on iface m x bs s z) (NoLabel r.start) w c o e n)
          (record { kind = k; number = n₀; accepted = j; row = r; signal = t; fits = p; offending = q })
      inner k n₀ r false true j t p q o =
          wide (is_number (change_on iface m x bs s z) NoRawNumber w c o e n) (record { kind = k; number = n₀; accepted = j; row = r; signal = t; unfit = p })
      inner k n₀ r false false j t p q o =
          wide (is_number (change_on iface m x bs s z) NoRawNumber w c o e n) (record { kind = k; number = n₀; accepted = j; row = r; signal = t; unfit = p })

      middle : (k n₀ : ℕ) (f : Option ℕ) → judge_on iface m x bs ≡ Ok (k, n₀) → first_at (is_signal k s) 0 rows ≡ f → Told c
      middle k n₀ (Some i) j f =
          let r = row_at i in
          inner k n₀ r (fits_in r.signed r.width z) (takes r.labels (bits_in r.signed r.width z)) j (found_signal k s i f) refl refl
          (ap (changed_in s z) j ∙ ap (changed_at k n₀ z) f)
      middle k n₀ None j f =
          missing (is_number (change_on iface m x bs s z) NoSignal w c (ap (changed_in s z) j ∙ ap (changed_at k n₀ z) f) e n)
          (record { kind = k; number = n₀; accepted = j; none = λ r t. nothing (signal_found k s r t).0 (signal_found k s r t).1 })
        where
          nothing : (i : ℕ) → first_at (is_signal k s) 0 rows ≡ Some i → ⊥
          nothing i g = let y : ◌≡◌ {A = ℕ} 0 1 = cc in omega arith

      outer : (a : Judged) → judge_on iface m x bs ≡ a → Told c
      outer (Ok (k, n₀)) j = middle k n₀ (first_at (is_signal k s) 0 rows) j refl
      outer (Err v) j = own (w, j ∙ sym (ap (changed_in s z) j) ∙ e, n)

  -- reading gives none from 7 to 14
  not_own : (c : ℕ) → 7 ≤ c → c ≤ 14 → Gives c (judge_on iface m x bs) → ⊥
  not_own c l h g = go (reading_gives iface m x bs c g)
    where
      go : ((3 ≤ c) × (c ≤ 6)) ⊎ (c ≡ 15) → ⊥
      go (inl p) = omega (arith, p.1)
      go (inr p) = omega arith

  -- ---- the theorems

  -- THEOREM: 3, 4, 6 and 15 are the frame's own
  pub change_own : (c : ℕ) → (c ≡ 5 → ⊥) → (c ≡ 7 → ⊥) → (c ≡ 13 → ⊥) → Gives c (change_on iface m x bs s z) ↔ Gives c (judge_on iface m x bs)
  change_own c n5 n7 n13 = (λ g. there (told c g), λ g. (g.0, own-refusal g.0 g.1, g.2))
    where
      there : Told c → Gives c (judge_on iface m x bs)
      there (own g) = g
      there (missing q t) = absurd (n13 q)
      there (wide q t) = absurd (n7 q)
      there (nameless q t) = absurd (n5 q)

  -- THEOREM: 13, where the frame is accepted and no signal of its kind starts at that bit
  pub change_13 : Gives 13 (change_on iface m x bs s z) ↔ NoneStarts iface m x bs s
  change_13 = (λ g. there (told 13 g), λ c. (NoSignal, none-starts c, refl))
    where
      there : Told 13 → NoneStarts iface m x bs s
      there (own g) = absurd (not_own 13 (omega arith) (omega arith) g)
      there (missing q t) = t
      there (wide q t) = absurd (omega arith)
      there (nameless q t) = absurd (omega arith)

  -- THEOREM: then 7, where the number does not fit the signal that starts there
  pub change_7 : Gives 7 (change_on iface m x bs s z) ↔ Unfit iface m x bs s z
  change_7 = (λ g. there (told 7 g), λ c. (NoRawNumber, unfit-row c, refl))
    where
      there : Told 7 → Unfit iface m x bs s z
      there (own g) = absurd (not_own 7 (omega arith) (omega arith) g)
      there (missing q t) = absurd (omega arith)
      there (wide q t) = t
      there (nameless q t) = absurd (omega arith)

  -- THEOREM: 5 is the frame's own, or the new number fits and has no label
  pub change_5 : Gives 5 (change_on iface m x bs s z) ↔ (Gives 5 (judge_on iface m x bs) ⊎ NewOffence iface m x bs s z)
  change_5 = (λ g. there (told 5 g), back)
    where
      there : Told 5 → Gives 5 (judge_on iface m x bs) ⊎ NewOffence iface m x bs s z
      there (own g) = inl g
      there (missing q t) = absurd (omega arith)
      there (wide q t) = absurd (omega arith)
      there (nameless q t) = inr t

      back : Gives 5 (judge_on iface m x bs) ⊎ NewOffence iface m x bs s z → Gives 5 (change_on iface m x bs s z)
      back (inl g) = (g.0, own-refusal g.0 g.1, g.2)
      back (inr t) = (NoLabel s, new_offence t, refl)
