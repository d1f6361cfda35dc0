-- Refusal 6 is given exactly where "a bit that no signal covers is 1" (`uncovered`, `uncovered-given`), and an accepted frame has no such bit (`covered-all`).
-- Assumes nothing.
use Rattle.std.specs.Prelude.{Ok, Err}
use mathlib.Core.Path.{◌≡◌, refl, sym, ap, ◌∙◌, subst}
use mathlib.Core.Bool.{Bool, true, false, cond}
use mathlib.Core.Logic.{◌⊎◌, inl, inr}
use mathlib.Core.List.{List}
use Prim.Native.Nat.{ℕ, ◌*◌, ◌<◌, ◌≤◌}
use native.Mathlib.Omega.{arith}
use lib.ListN.{length}
use Rattle.signal.specs.Signal.{get_bits}
use Rattle.payload.specs.Payload.{number_of, bit_at, Bytes}
use Rattle.payload.specs.Order.{place}
use Rattle.signal.proofs.Complement.{half_of}
use Rattle.payload.proofs.Words.{place_lt, place_place, bit_of_lem, bit_past}
use Rattle.page_search.specs.page_table.specs.declared.Interface.{Interface}
use Rattle.page_search.specs.page_table.specs.declared.Row.{Row}
use Rattle.refusals.specs.declared.Refusal.TheVariants.{UncoveredBit}
use Rattle.page_search.specs.page_table.specs.Table.{row_at, rows_of, length_of, big_of, HasBit, covered}
use Rattle.page_search.specs.page_table.specs.Listed.{Among}
use Rattle.page_read.specs.Judged.{Judged}
use Rattle.page_read.specs.Judge.{unlabelled, stray_below, judged_number, judge_on}
use Rattle.page_read.specs.Refusing.{number_in, Uncovered}
use Rattle.page_search.specs.page_table.proofs.Heads.{says}
use Rattle.page_search.specs.page_table.proofs.PageBits.{no_signal_lem, no_place}
use Rattle.page_read.proofs.Gaps.{stray_told, stray_none}
use Rattle.page_read.proofs.Answers.{Reached, reached, reached_frame, taken, sixth, reached_kind, reached_number, of_kind_lem, labelled_each, each_labelled}

-- ---- a bit that no signal has

-- in the number of a frame of its kind's length that has no stray bit
bit_zero : (k : ℕ) (bs : List ℕ) (b : ℕ) → Bytes bs → length bs ≡ length_of k → stray_below (8 * length bs) (number_of (big_of k) bs) (rows_of k) ≡ false
    → b < 8 * length bs → ((r : Row) → Among r (rows_of k) → HasBit r b → ⊥) → bit_at bs b ≡ 0
bit_zero k bs b hb s none l u =
    let free : covered (rows_of k) (place (big_of k) (length bs) b) ≡ false
    = ap (λ (y : ℕ). covered (rows_of k) (place (big_of k) y b)) s ∙ no_place k b (subst (λ (y : ℕ). b < 8 * y) s l) u in
    sym (bit_of_lem (big_of k) bs b hb l)
    ∙ stray_none (8 * length bs) (number_of (big_of k) bs) (rows_of k) none (place (big_of k) (length bs) b) (place_lt (big_of k) (length bs) b l) free

-- a stray bit of the number is one of the payload's
bit_one : (k : ℕ) (bs : List ℕ) → Bytes bs → length bs ≡ length_of k → stray_below (8 * length bs) (number_of (big_of k) bs) (rows_of k) ≡ true
    → (b : ℕ) × (b < 8 * length bs) × ((r : Row) → Among r (rows_of k) → HasBit r b → ⊥) × (bit_at bs b ≡ 1)
bit_one k bs hb s e =
    let t = stray_told (8 * length bs) (number_of (big_of k) bs) (rows_of k) e in
    let p = t.0 in
    let l : p < 8 * length_of k = subst (λ (y : ℕ). t.0 < 8 * y) s t.1 in
    let b = place (big_of k) (length_of k) p in
    let back = place_place (big_of k) (length_of k) p l in
    let within : b < 8 * length bs = subst (λ (y : ℕ). b < 8 * y) (sym s) (place_lt (big_of k) (length_of k) p l) in (
      b,
      within,
      no_signal_lem k b (ap (covered (rows_of k)) back ∙ t.2),
      sym (bit_of_lem (big_of k) bs b hb within) ∙ ap (λ (y : ℕ). get_bits (number_of (big_of k) bs) y 1) (ap (λ (y : ℕ). place (big_of k) y b) s ∙ back) ∙ t.3,
    )

-- ---- the theorems

-- THEOREM: refusal 6 is given only where "a bit that no signal covers is 1"
pub uncovered : (iface : Interface) (m : ℕ) (x : Bool) (bs : List ℕ) → Bytes bs → judge_on iface m x bs ≡ Err UncoveredBit → Uncovered iface m x bs
uncovered iface m x bs hb e =
    go (reached iface m x bs (Err UncoveredBit) e (λ q. let z : ◌≡◌ {A = ℕ} 0 1 = cc in omega arith) (λ q. let z : ◌≡◌ {A = ℕ} 0 1 = cc in omega arith) (λ q. let z : ◌≡◌ {A = ℕ} 0 1 = cc in omega arith))
  where
    go : Reached iface m x bs (Err UncoveredBit) → Uncovered iface m x bs
    go c =
        let k = (row_at c.place).kind in
        let o = reached_kind iface m x bs (Err UncoveredBit) c in
        let n = reached_number iface m x bs (Err UncoveredBit) c in
        let w = says k in
        let d = sixth k (8 * length bs) (number_of (row_at c.place).big bs) c.judged in
        let b = bit_one k bs hb (o.sized ∙ w.2)
        (ap (λ (y : ℕ). stray_below (8 * length bs) y (rows_of k)) (ap (λ (z : Bool). number_of z bs) (sym w.3) ∙ n) ∙ d.1) in
        record {
          kind = k;
          frame = o;
          labelled = labelled_each (number_in k bs) (rows_of k) (ap (λ (y : ℕ). unlabelled y (rows_of k)) n ∙ d.0);
          bit = b.0;
          inside = b.1;
          no_signal = b.2;
          is_one = b.3;
        }

-- THEOREM: and given there
pub uncovered_given : (iface : Interface) (m : ℕ) (x : Bool) (bs : List ℕ) → Bytes bs → Uncovered iface m x bs → judge_on iface m x bs ≡ Err UncoveredBit
unfolding judged_number
uncovered_given iface m x bs hb u =
    of_kind_lem iface m x bs u.kind u.frame
    ∙ rw (each_labelled (number_in u.kind bs) (rows_of u.kind) u.labelled) (go (stray_below (8 * length bs) (number_in u.kind bs) (rows_of u.kind)) refl)
  where
    go : (b : Bool) → stray_below (8 * length bs) (number_in u.kind bs) (rows_of u.kind) ≡ b
        → cond {A = Judged} b (Err UncoveredBit) (Ok (u.kind, number_in u.kind bs)) ≡ Err UncoveredBit
    go true s = refl
    go false s =
        let k = u.kind in
        let w = says k in
        let z = bit_zero k bs u.bit hb (u.frame.sized ∙ w.2)
        (ap (λ (y : Bool). stray_below (8 * length bs) (number_of y bs) (rows_of k)) (sym w.3) ∙ s) u.inside u.no_signal in
        absurd (omega (arith, z, u.is_one))

-- THEOREM: in an accepted frame every bit that no signal has is 0
pub covered_all : (iface : Interface) (m : ℕ) (x : Bool) (bs : List ℕ) (k n : ℕ) → judge_on iface m x bs ≡ Ok (k, n) → Bytes bs
    → (b : ℕ) → ((r : Row) → Among r (rows_of k) → HasBit r b → ⊥) → bit_at bs b ≡ 0
covered_all iface m x bs k n e hb b u = go (reached_frame iface m x bs k n e) (half_of (8 * length bs) b)
  where
    go : Reached iface m x bs (Ok (k, n)) → (b < 8 * length bs) ⊎ (8 * length bs ≤ b) → bit_at bs b ≡ 0
    go c (inl l) =
        let j = (row_at c.place).kind in
        let w = says j in
        let t = taken j (8 * length bs) (number_of (row_at c.place).big bs) k n c.judged in
        bit_zero j bs b hb ((reached_kind iface m x bs (Ok (k, n)) c).sized ∙ w.2)
        (ap (λ (y : ℕ). stray_below (8 * length bs) y (rows_of j)) (ap (λ (z : Bool). number_of z bs) (sym w.3) ∙ reached_number iface m x bs (Ok (k, n)) c) ∙ t.3) l
        (subst (λ (y : ℕ). (q : Row) → Among q (rows_of y) → HasBit q b → ⊥) (sym t.0) u)
    go c (inr l) = bit_past bs b l
