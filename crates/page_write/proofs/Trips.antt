-- 01: "Every allowed frame is read to its one message; writing it gives the same bytes, and what is written reads back as itself",
-- of the raw numbers of every kind at once, on either interface (`back_on`, `raws-there`; `raws-back` on the newer one).
-- Assumes nothing.
use Rattle.std.specs.Prelude.{Some, Ok}
use Rattle.std.proofs.Common.{◌≡◌, ℕ, zero, suc, ◌+◌, ◌-◌, ◌*◌, ◌^◌, ◌<◌, ◌≤◌, Bool, true, false, cond, not, ◌&&◌, ◌||◌, leb, List, [], ◌∷◌, length, get_or, take, ℤ, pos, sym, refl, ap, ◌∙◌, subst, ap₂, inl, inr, zero-le, le_of_suc-le-suc, not-suc-le-zero, arith, pow_pos, eq-eqb, le-leb, leb-true}
use borrow.Author.Tests.{not-false}
use Rattle.signal.specs.Signal.{get_bits, put_bits, covers}
use Rattle.page_read.specs.payload.specs.Payload.{number_of, bytes_of, Bytes}
use Rattle.signal.specs.Raw.{fits_in, bits_in, value_in}
use Rattle.signal.proofs.Laws.{get_lt, get_get, get_zero, get_put, get_put_apart, bit_put, bit_kept, put_lt, same_bits, covers_in, Apart}
use Rattle.signal.proofs.RawLaws.{value_bits, bits_value, value_fits, bits_lt}
use Rattle.page_read.specs.payload.proofs.Orders.{number_bound, length_of_lem, number_of_lem, bytes_of_lem}
use Rattle.page_read.specs.page_table.specs.declared.Interface.{Interface}
use Rattle.page_read.specs.page_table.specs.declared.Interface.TheVariants.{Newer}
use Rattle.page_read.specs.page_table.specs.declared.Row.{Row}
use Rattle.page_read.specs.page_table.specs.Interfaces.{is_on, with_id}
use Rattle.page_read.specs.page_table.specs.Table.{rows, first_at, has_id, no_row, rows_of, head_row, identifier_of, extended_of, length_of, big_of, lowest, bits_at, Fine, covered, takes}
use Rattle.page_read.specs.Judge.{unlabelled, stray_below, judged_number, judge_on, judge_of}
use Rattle.page_read.specs.page_table.specs.Table.{signal_count}
use Rattle.page_write.specs.Raws.{whole_at, wholes_of, pad, raws_of, all_by, row_takes, all_take, put_raw, packed_on, can_write}
use Rattle.page_read.specs.page_table.specs.Listed.{Among}
use Rattle.page_write.specs.Taken.{Taken}
use Rattle.page_write.specs.Trips.{Back, There}
use Rattle.page_read.specs.page_table.proofs.Rules.{both_true, either_false, not_both, Ordered, ordered, apart_sym, few}
use Rattle.page_read.specs.page_table.proofs.Firsts.{id_kind_lem, first_kind, first_id, known}
use Rattle.page_read.specs.page_table.proofs.Interfaces.{found_own, found_has}
use Rattle.page_read.proofs.Gaps.{stray_none, stray_zero}
use Rattle.page_read.proofs.Answers.{reached_frame, taken}
use Rattle.page_read.proofs.Interfaces.{newer, on_own}

-- ---- an accepted frame

pub accepted_on : (iface : Interface) (m : ℕ) (extended : Bool) (bs : List ℕ) (k n : ℕ) → judge_on iface m extended bs ≡ Ok (k, n) → Taken iface m extended bs k n
unfolding identifier_of extended_of length_of big_of
accepted_on iface m extended bs k n e =
    let c = reached_frame iface m extended bs k n e in
    let r = get_or rows c.place no_row in
    let t = taken r.kind (8 * length bs) (number_of r.big bs) k n c.judged in
    let w = (found_has iface m extended c.place c.found).first in
    let f = first_id m extended c.place w in
    let h : head_row (rows_of k) ≡ r = ap (λ (x : ℕ). head_row (rows_of x)) (sym t.0) ∙ f.3 in
    record {
      own = on_own iface m extended bs k n e;
      identifier = ap (λ (x : Row). x.id) h ∙ f.1;
      form = ap (λ (x : Row). x.extended) h ∙ f.4;
      sized = c.sized ∙ sym (ap (λ (x : Row). x.bytes) h);
      number = sym t.1 ∙ ap (λ (x : Row). number_of x.big bs) (sym h);
      some = subst (λ (x : ℕ). 1 ≤ length (rows_of x)) t.0 (first_kind r.kind c.place (id_kind_lem m extended c.place w)).3;
      labelled = ap₂ (λ (x y : ℕ). unlabelled x (rows_of y)) (sym t.1) (sym t.0) ∙ t.2;
      clean = ap₂ (λ (x y : ℕ). stray_below (8 * length bs) x (rows_of y)) (sym t.1) (sym t.0) ∙ t.3;
    }

-- and the other way: what passes all that is accepted
pub accepts : (iface : Interface) (m : ℕ) (extended : Bool) (bs : List ℕ) (k n : ℕ) → Taken iface m extended bs k n → judge_on iface m extended bs ≡ Ok (k, n)
unfolding judge_on judged_number
accepts iface m extended bs k n t =
    let c = known k t.some in
    let f : with_id iface (identifier_of k) (extended_of k) ≡ Some c.0
    = found_own iface (first_at (has_id (identifier_of k) (extended_of k)) 0 rows) c.0 c.1 (ap (is_on iface) c.2 ∙ t.own) in
    rw (← t.identifier, ← t.form, f, c.3, eq-eqb (length bs) (length_of k) t.sized, c.2, c.4, ← t.number, t.labelled, t.clean)

-- on the newer interface
pub accepted : (m : ℕ) (extended : Bool) (bs : List ℕ) (k n : ℕ) → judge_of m extended bs ≡ Ok (k, n) → Taken Newer m extended bs k n
accepted m extended bs k n e = accepted_on Newer m extended bs k n (sym (newer m extended bs) ∙ e)

-- ---- numbers put in their signals' places

-- a row that takes a number
pub row_takes_lem : (r : Row) (z : ℤ) → row_takes r z ≡ true
    → (fits_in r.signed r.width z ≡ true) × (takes r.labels (bits_in r.signed r.width z) ≡ true)
row_takes_lem r z e = both_true (fits_in r.signed r.width z) (takes r.labels (bits_in r.signed r.width z)) e

-- the bits of a number put
pub bits_put : (r : Row) (n : ℕ) (z : ℤ) → Fine r → fits_in r.signed r.width z ≡ true
    → bits_at (put_raw r n z) r ≡ bits_in r.signed r.width z
bits_put r n z f h = get_put n (lowest r) r.width (bits_in r.signed r.width z) (bits_lt r.signed r.width f.0 z h)

pub whole_put : (r : Row) (n : ℕ) (z : ℤ) → Fine r → fits_in r.signed r.width z ≡ true → whole_at (put_raw r n z) r ≡ z
whole_put r n z f h =
    ap (value_in r.signed r.width) (bits_put r n z f h) ∙ value_bits r.signed r.width f.0 z h

-- rows that take their numbers, one more
pub all_take_lem : (r : Row) (rs : List Row) (z : ℤ) (zs : List ℤ) → all_take (r ∷ rs) (z ∷ zs) ≡ true
    → (fits_in r.signed r.width z ≡ true) × (takes r.labels (bits_in r.signed r.width z) ≡ true) × (all_take rs zs ≡ true)
unfolding all_take
all_take_lem r rs z zs e =
    let p = both_true (row_takes r z) (all_take rs zs) e in
    let q = row_takes_lem r z p.0 in
    (q.0, q.1, p.1)

-- each of them, and of rows that do not all pass one that does not
pub by_at : (p : Row → ℤ → Bool) (rs : List Row) (zs : List ℤ) → all_by p rs zs ≡ true → (j : ℕ) → j < length rs → p (get_or rs j no_row) (get_or zs j (pos 0)) ≡ true
by_at p [] zs e j h = absurd (not-suc-le-zero h)
by_at p (r ∷ rs) [] e j h = absurd (let z : ◌≡◌ {A = ℕ} 0 1 = cc in omega arith)
by_at p (r ∷ rs) (z ∷ zs) e zero h = (both_true (p r z) (all_by p rs zs) e).0
by_at p (r ∷ rs) (z ∷ zs) e (suc j) h = by_at p rs zs (both_true (p r z) (all_by p rs zs) e).1 j (le_of_suc-le-suc h)

pub not_by : (p : Row → ℤ → Bool) (rs : List Row) (zs : List ℤ) → length rs ≤ length zs → all_by p rs zs ≡ false
    → (j : ℕ) × (j < length rs) × (p (get_or rs j no_row) (get_or zs j (pos 0)) ≡ false)
not_by p [] zs l e = absurd (not_both true refl e)
not_by p (r ∷ rs) [] l e = absurd (not-suc-le-zero l)
not_by p (r ∷ rs) (z ∷ zs) l e = go (p r z) refl e (not_by p rs zs (le_of_suc-le-suc l))
  where
    Told : List Row → List ℤ → Type 0
    Told rs zs = (j : ℕ) × (j < length rs) × (p (get_or rs j no_row) (get_or zs j (pos 0)) ≡ false)

    go : (b : Bool) → p r z ≡ b → b && all_by p rs zs ≡ false → (all_by p rs zs ≡ false → Told rs zs) → Told (r ∷ rs) (z ∷ zs)
    go true t e f = let c = f e in (suc c.0, omega (arith, c.1), c.2)
    go false t e f = (0, omega arith, t)

pub take_by : (rs : List Row) (zs : List ℤ) → all_take rs zs ≡ all_by row_takes rs zs
unfolding all_take
take_by [] zs = refl
take_by (r ∷ rs) [] = refl
take_by (r ∷ rs) (z ∷ zs) = ap (λ (b : Bool). row_takes r z && b) (take_by rs zs)

pub takes_at : (rs : List Row) (zs : List ℤ) → all_take rs zs ≡ true → (j : ℕ) → j < length rs → row_takes (get_or rs j no_row) (get_or zs j (pos 0)) ≡ true
takes_at rs zs e j h = by_at row_takes rs zs (sym (take_by rs zs) ∙ e) j h

none_take : (r : Row) (rs : List Row) → all_take (r ∷ rs) [] ≡ true → ⊥
unfolding all_take
none_take r rs e = let z : ◌≡◌ {A = ℕ} 0 1 = cc in omega arith

pub packed_on_lt : (k p n : ℕ) (rs : List Row) (zs : List ℤ) → Ordered k p rs → all_take rs zs ≡ true → n < 2 ^ k → packed_on n rs zs < 2 ^ k
unfolding packed_on
packed_on_lt k p n [] zs o e h = h
packed_on_lt k p n (r ∷ rs) [] o e h = h
packed_on_lt k p n (r ∷ rs) (z ∷ zs) o e h =
    let t = all_take_lem r rs z zs e in
    packed_on_lt k (suc r.start) (put_raw r n z) rs zs o.3 t.2
    (put_lt n (lowest r) r.width (bits_in r.signed r.width z) k h (bits_lt r.signed r.width o.2.0 z t.0) o.1)

-- what lies apart from the rows stays
pub packed_apart : (k p n : ℕ) (rs : List Row) (zs : List ℤ) (s w : ℕ) → Ordered k p rs → all_take rs zs ≡ true
    → ((q : Row) → Among q rs → Apart (lowest q) q.width s w) → get_bits (packed_on n rs zs) s w ≡ get_bits n s w
unfolding packed_on
packed_apart k p n [] zs s w o e h = refl
packed_apart k p n (r ∷ rs) [] s w o e h = refl
packed_apart k p n (r ∷ rs) (z ∷ zs) s w o e h =
    let t = all_take_lem r rs z zs e in
    packed_apart k (suc r.start) (put_raw r n z) rs zs s w o.3 t.2 (λ q m. h q (inr m))
    ∙ get_put_apart n (lowest r) r.width (bits_in r.signed r.width z) s w (bits_lt r.signed r.width o.2.0 z t.0) (h r (inl refl))

-- a bit that no row covers stays
pub packed_kept : (k p n : ℕ) (rs : List Row) (zs : List ℤ) (i : ℕ) → Ordered k p rs → all_take rs zs ≡ true → covered rs i ≡ false
    → get_bits (packed_on n rs zs) i 1 ≡ get_bits n i 1
unfolding packed_on covered
packed_kept k p n [] zs i o e u = refl
packed_kept k p n (r ∷ rs) [] i o e u = refl
packed_kept k p n (r ∷ rs) (z ∷ zs) i o e u =
    let t = all_take_lem r rs z zs e in
    let v = either_false (covers (lowest r) r.width i) (covered rs i) u in
    packed_kept k (suc r.start) (put_raw r n z) rs zs i o.3 t.2 v.1
    ∙ bit_kept n (lowest r) r.width (bits_in r.signed r.width z) i (bits_lt r.signed r.width o.2.0 z t.0) v.0

-- each row reads what was put there
pub packed_bits : (k p n : ℕ) (r : Row) (rs : List Row) (z : ℤ) (zs : List ℤ) → Ordered k p (r ∷ rs) → all_take (r ∷ rs) (z ∷ zs) ≡ true
    → bits_at (packed_on (put_raw r n z) rs zs) r ≡ bits_in r.signed r.width z
packed_bits k p n r rs z zs o e =
    let t = all_take_lem r rs z zs e in
    packed_apart k (suc r.start) (put_raw r n z) rs zs (lowest r) r.width o.3 t.2
    (λ q m. apart_sym (lowest r) r.width (lowest q) q.width (o.4 q m))
    ∙ bits_put r n z o.2 t.0

pub packed_at : (k p n : ℕ) (rs : List Row) (zs : List ℤ) → Ordered k p rs → all_take rs zs ≡ true → (i : ℕ) → i < length rs
    → bits_at (packed_on n rs zs) (get_or rs i no_row) ≡ bits_in (get_or rs i no_row).signed (get_or rs i no_row).width (get_or zs i (pos 0))
unfolding packed_on
packed_at k p n [] zs o e i h = absurd (not-suc-le-zero h)
packed_at k p n (r ∷ rs) [] o e i h = absurd (none_take r rs e)
packed_at k p n (r ∷ rs) (z ∷ zs) o e zero h = packed_bits k p n r rs z zs o e
packed_at k p n (r ∷ rs) (z ∷ zs) o e (suc i) h =
    packed_at k (suc r.start) (put_raw r n z) rs zs o.3 (all_take_lem r rs z zs e).2 i (le_of_suc-le-suc h)

pub packed_wholes : (k p n : ℕ) (rs : List Row) (zs : List ℤ) → Ordered k p rs → all_take rs zs ≡ true
    → wholes_of (packed_on n rs zs) rs ≡ take (length rs) zs
unfolding packed_on wholes_of
packed_wholes k p n [] zs o e = refl
packed_wholes k p n (r ∷ rs) [] o e = absurd (none_take r rs e)
packed_wholes k p n (r ∷ rs) (z ∷ zs) o e =
    let t = all_take_lem r rs z zs e in
    ap₂ (λ (x : ℤ) (l : List ℤ). x ∷ l)
    (ap (value_in r.signed r.width) (packed_bits k p n r rs z zs o e) ∙ value_bits r.signed r.width o.2.0 z t.0)
    (packed_wholes k (suc r.start) (put_raw r n z) rs zs o.3 t.2)

pub packed_labels : (k p n : ℕ) (rs : List Row) (zs : List ℤ) → Ordered k p rs → all_take rs zs ≡ true → unlabelled (packed_on n rs zs) rs ≡ false
unfolding packed_on unlabelled
packed_labels k p n [] zs o e = refl
packed_labels k p n (r ∷ rs) [] o e = absurd (none_take r rs e)
packed_labels k p n (r ∷ rs) (z ∷ zs) o e =
    let t = all_take_lem r rs z zs e in
    let l : takes r.labels (bits_at (packed_on (put_raw r n z) rs zs) r) ≡ true = ap (takes r.labels) (packed_bits k p n r rs z zs o e) ∙ t.1 in
    ap (λ (b : Bool). not b || unlabelled (packed_on (put_raw r n z) rs zs) rs) l ∙ packed_labels k (suc r.start) (put_raw r n z) rs zs o.3 t.2

-- ---- a frame's own numbers

pub wholes_length : (n : ℕ) (rs : List Row) → length (wholes_of n rs) ≡ length rs
unfolding wholes_of
wholes_length n [] = refl
wholes_length n (r ∷ rs) = ap suc (wholes_length n rs)

-- they fit, and have labels where the frame's have
pub wholes_take : (k p n : ℕ) (rs : List Row) → Ordered k p rs → unlabelled n rs ≡ false → all_take rs (wholes_of n rs) ≡ true
unfolding all_take wholes_of unlabelled
wholes_take k p n [] o u = refl
wholes_take k p n (r ∷ rs) o u =
    let v = either_false (not (takes r.labels (bits_at n r))) (unlabelled n rs) u in
    let b = get_lt n (lowest r) r.width in
    let t : row_takes r (whole_at n r) ≡ true
    = ap₂ (λ (x y : Bool). x && y) (value_fits r.signed r.width o.2.0 (bits_at n r) b)
    (ap (takes r.labels) (bits_value r.signed r.width o.2.0 (bits_at n r) b) ∙ not-false (takes r.labels (bits_at n r)) v.0) in
    ap₂ (λ (x y : Bool). x && y) t (wholes_take k (suc r.start) n rs o.3 v.1)

-- n's own signals, put into a number x: n's bits where a row covers, and x's elsewhere
pub wholes_bit : (k p x n : ℕ) (rs : List Row) (i : ℕ) → Ordered k p rs
    → get_bits (packed_on x rs (wholes_of n rs)) i 1 ≡ cond (covered rs i) (get_bits n i 1) (get_bits x i 1)
unfolding packed_on wholes_of covered
wholes_bit k p x n [] i o = refl
wholes_bit k p x n (r ∷ rs) i o =
    wholes_bit k (suc r.start) (put_raw r x (whole_at n r)) n rs i o.3
    ∙ ap (λ (y : ℕ). cond (covered rs i) (get_bits n i 1) y)
    (ap (λ (v : ℕ). get_bits (put_bits x (lowest r) r.width v) i 1)
    (bits_value r.signed r.width o.2.0 (bits_at n r) (get_lt n (lowest r) r.width))
    ∙ bit_put x (lowest r) r.width (bits_at n r) i (get_lt n (lowest r) r.width))
    ∙ by (covers (lowest r) r.width i) (covered rs i) refl
  where
    own : covers (lowest r) r.width i ≡ true → get_bits (bits_at n r) (i - lowest r) 1 ≡ get_bits n i 1
    own e =
        let c = covers_in (lowest r) r.width i e in
        let q : lowest r + (i - lowest r) ≡ i = omega (arith, c.0) in
        get_get n (lowest r) r.width (i - lowest r) 1 (omega (arith, c.0, c.1)) ∙ ap (λ (y : ℕ). get_bits n y 1) q

    by : (a b : Bool) → covers (lowest r) r.width i ≡ a
        → cond b (get_bits n i 1) (cond a (get_bits (bits_at n r) (i - lowest r) 1) (get_bits x i 1)) ≡ cond (a || b) (get_bits n i 1) (get_bits x i 1)
    by true true e = refl
    by true false e = own e
    by false b e = refl

-- put into 0 they make n again, if no stray bit of n is 1
pub wholes_packed : (k n : ℕ) (rs : List Row) → Ordered k 0 rs → n < 2 ^ k → unlabelled n rs ≡ false → stray_below k n rs ≡ false
    → packed_on 0 rs (wholes_of n rs) ≡ n
wholes_packed k n rs o h u s =
    same_bits k (packed_on 0 rs (wholes_of n rs)) n (packed_on_lt k 0 0 rs (wholes_of n rs) o (wholes_take k 0 n rs o u) (pow_pos k)) h
    (λ i l. wholes_bit k 0 0 n rs i o ∙ by i l (covered rs i) refl)
  where
    by : (i : ℕ) → i < k → (b : Bool) → covered rs i ≡ b → cond b (get_bits n i 1) (get_bits 0 i 1) ≡ get_bits n i 1
    by i l true e = refl
    by i l false e = get_zero i 1 ∙ sym (stray_none k n rs s i l e)

-- ---- an array of numbers that is longer than the list

pub pad_length : (c : ℕ) (zs : List ℤ) → length (pad c zs) ≡ c
unfolding pad
pad_length zero zs = refl
pad_length (suc c) [] = ap suc (pad_length c [])
pad_length (suc c) (z ∷ zs) = ap suc (pad_length c zs)

pub pad_same : (c : ℕ) (zs : List ℤ) (j : ℕ) → length zs ≤ c → get_or (pad c zs) j (pos 0) ≡ get_or zs j (pos 0)
unfolding pad
pad_same zero [] j h = refl
pad_same zero (z ∷ zs) j h = absurd (not-suc-le-zero h)
pad_same (suc c) [] zero h = refl
pad_same (suc c) [] (suc j) h = pad_same c [] j zero-le
pad_same (suc c) (z ∷ zs) zero h = refl
pad_same (suc c) (z ∷ zs) (suc j) h = pad_same c zs j (le_of_suc-le-suc h)

-- where there is a number for each row, and room for them, the rows do not see what is added
pub take_pad : (c : ℕ) (rs : List Row) (zs : List ℤ) → length rs ≤ c → length rs ≤ length zs → take (length rs) (pad c zs) ≡ take (length rs) zs
unfolding pad
take_pad c [] zs h l = refl
take_pad zero (r ∷ rs) zs h l = absurd (not-suc-le-zero h)
take_pad (suc c) (r ∷ rs) [] h l = absurd (not-suc-le-zero l)
take_pad (suc c) (r ∷ rs) (z ∷ zs) h l = ap (λ (ys : List ℤ). z ∷ ys) (take_pad c rs zs (le_of_suc-le-suc h) (le_of_suc-le-suc l))

pub all_pad : (c : ℕ) (rs : List Row) (zs : List ℤ) → length rs ≤ c → length rs ≤ length zs → all_take rs (pad c zs) ≡ all_take rs zs
unfolding pad all_take
all_pad c [] zs h l = refl
all_pad zero (r ∷ rs) zs h l = absurd (not-suc-le-zero h)
all_pad (suc c) (r ∷ rs) [] h l = absurd (not-suc-le-zero l)
all_pad (suc c) (r ∷ rs) (z ∷ zs) h l = ap (λ (b : Bool). row_takes r z && b) (all_pad c rs zs (le_of_suc-le-suc h) (le_of_suc-le-suc l))

pub packed_pad : (c n : ℕ) (rs : List Row) (zs : List ℤ) → length rs ≤ c → length rs ≤ length zs → packed_on n rs (pad c zs) ≡ packed_on n rs zs
unfolding pad packed_on
packed_pad c n [] zs h l = refl
packed_pad zero n (r ∷ rs) zs h l = absurd (not-suc-le-zero h)
packed_pad (suc c) n (r ∷ rs) [] h l = absurd (not-suc-le-zero l)
packed_pad (suc c) n (r ∷ rs) (z ∷ zs) h l = packed_pad c (put_raw r n z) rs zs (le_of_suc-le-suc h) (le_of_suc-le-suc l)

-- ---- the theorems

pub can_write_lem : (k : ℕ) (zs : List ℤ) → can_write k zs ≡ true → (1 ≤ length (rows_of k)) × (all_take (rows_of k) zs ≡ true)
can_write_lem k zs e =
    let p = both_true (leb 1 (length (rows_of k))) (all_take (rows_of k) zs) e in
    (leb-true 1 (length (rows_of k)) p.0, p.1)

pub packed_lt : (k : ℕ) (zs : List ℤ) → can_write k zs ≡ true → packed_on 0 (rows_of k) zs < 2 ^ (8 * length_of k)
packed_lt k zs e = packed_on_lt (8 * length_of k) 0 0 (rows_of k) zs (ordered k) (can_write_lem k zs e).1 (pow_pos (8 * length_of k))

-- THEOREM: an accepted frame's raw numbers can be written, and give its number and its bytes again
pub back_on : (iface : Interface) (m : ℕ) (extended : Bool) (bs : List ℕ) (k n : ℕ) → judge_on iface m extended bs ≡ Ok (k, n) → Bytes bs → Back k n bs
unfolding raws_of
back_on iface m extended bs k n e hb = go (accepted_on iface m extended bs k n e)
  where
    go : Taken iface m extended bs k n → Back k n bs
    go t =
        let rs = rows_of k in
        let zs = wholes_of n rs in
        let l : length rs ≤ length zs = omega (arith, wholes_length n rs) in
        let h : n < 2 ^ (8 * length_of k) = rw (t.number, ← t.sized) (number_bound (big_of k) bs hb) in
        let s : stray_below (8 * length_of k) n rs ≡ false = rw (← t.sized) t.clean in
        record {
          writes = ap₂ (λ (x y : Bool). x && y) (le-leb 1 (length rs) t.some)
              (all_pad signal_count rs zs (few k) l ∙ wholes_take (8 * length_of k) 0 n rs (ordered k) t.labelled);
          number = packed_pad signal_count 0 rs zs (few k) l ∙ wholes_packed (8 * length_of k) n rs (ordered k) h t.labelled s;
          bytes = ap₂ (bytes_of (big_of k)) (sym t.sized) t.number ∙ bytes_of_lem (big_of k) bs hb;
        }

pub raws_back : (m : ℕ) (extended : Bool) (bs : List ℕ) (k n : ℕ) → judge_of m extended bs ≡ Ok (k, n) → Bytes bs → Back k n bs
raws_back m extended bs k n e hb = back_on Newer m extended bs k n (sym (newer m extended bs) ∙ e) hb

-- THEOREM: raw numbers that can be written make a frame that is accepted, and that has them again
pub raws_there : (k : ℕ) (zs : List ℤ) → can_write k zs ≡ true → There k zs (packed_on 0 (rows_of k) zs)
raws_there k zs e = go (packed_on 0 (rows_of k) zs) refl (can_write_lem k zs e)
  where
    go : (n : ℕ) → packed_on 0 (rows_of k) zs ≡ n → (1 ≤ length (rows_of k)) × (all_take (rows_of k) zs ≡ true) → There k zs n
    go n q w =
        let rs = rows_of k in
        let o = ordered k in
        let h : n < 2 ^ (8 * length_of k) = subst (λ (x : ℕ). x < 2 ^ (8 * length_of k)) q (packed_lt k zs e) in
        let bs = bytes_of (big_of k) (length_of k) n in
        let sz : length (bytes_of (big_of k) (length_of k) n) ≡ length_of k = length_of_lem (big_of k) (length_of k) n in
        record {
          reads = λ iface own. accepts iface (identifier_of k) (extended_of k) bs k n (record {
            own = own;
            identifier = refl;
            form = refl;
            sized = sz;
            number = sym (number_of_lem (big_of k) (length_of k) n h);
            some = w.0;
            labelled = ap (λ (x : ℕ). unlabelled x rs) (sym q) ∙ packed_labels (8 * length_of k) 0 0 rs zs o w.1;
            clean = stray_zero (8 * length bs) n rs
                (λ i l u. ap (λ (x : ℕ). get_bits x i 1) (sym q) ∙ packed_kept (8 * length_of k) 0 0 rs zs i o w.1 u ∙ get_zero i 1);
          });
          raws = ap (λ (x : ℕ). wholes_of x rs) (sym q) ∙ packed_wholes (8 * length_of k) 0 0 rs zs o w.1;
        }
