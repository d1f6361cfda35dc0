-- 01: "Changing one signal touches no bit outside it." Of an accepted change (`changeOn iface m extended bs s z ≡ Frame k n'`): each bit of the signal is that
-- of the number (`change-bit`) and every other bit as it was (`change-kept`); the bytes are a frame of the same kind (`change-read`), of whose raw numbers the
-- signal's is the one that was asked for and the others are as they were (`change-raws`, `change-wholes`); a refused change leaves the bytes whole
-- (`change-refused`).
-- Assumes nothing.
use Rattle.std.specs.Prelude.{Some, None, Ok, Err, Option}
use mathlib.Core.Path.{◌≡◌, refl, sym, ap, ap₂, ◌∙◌, subst}
use mathlib.Core.Bool.{Bool, true, false}
use mathlib.Core.Logic.{◌⊎◌, inl, inr}
use mathlib.Core.List.{List, [], ◌∷◌}
use Prim.Native.Nat.{ℕ, zero, suc, ◌*◌, ◌^◌, ◌<◌, ◌≤◌}
use native.Mathlib.Nat.{not-suc-le-zero, le_of_suc-le-suc}
use native.Mathlib.Omega.{arith}
use lib.IntN.{ℤ}
use lib.ListN.{length, get_or, set}
use Rattle.refusals.proofs.Pairs.{ok_pair}
use Rattle.signal.specs.Signal.{get_bits, put_bits, covers}
use Rattle.payload.specs.Payload.{number_of, bytes_of, bit_at, Bytes}
use Rattle.payload.specs.Order as order
use Rattle.signal.specs.Raw.{fits_in, bits_in, value_in}
use Rattle.signal.proofs.Laws.{get_put_apart, bit_kept, put_lt}
use Rattle.signal.proofs.RawLaws.{bits_lt}
use Rattle.payload.proofs.Orders.{number_bound, length_of_lem, number_of_lem}
use Rattle.payload.proofs.Written.{written_bit, written_kept}
use Rattle.page_write.specs.page_table.specs.declared.Interface.{Interface}
use Rattle.page_write.specs.page_table.specs.declared.Interface.TheVariants.{Newer}
use Rattle.page_write.specs.page_table.specs.declared.Row.{Row}
use Rattle.page_write.specs.page_read.specs.Judged.{Judged}
use Rattle.refusals.specs.declared.Refusal.{Refusal}
use Rattle.page_write.specs.page_table.specs.Table.{rows, no_row, row_at, rows_of, length_of, big_of, is_signal, first_at, lowest, bits_at, Fine, HasBit, takes}
use Rattle.page_write.specs.page_table.specs.Listed.{Among, SignalAt}
use Rattle.page_write.specs.page_read.specs.Judge.{unlabelled, stray_below, judge_on}
use Rattle.page_write.specs.Taken.{Taken}
use Rattle.page_write.specs.Raws.{whole_at, wholes_of, put_raw}
use Rattle.page_change.specs.Change.{changed_by, changed_at, changed_in, change_on, change_of, bytes_after}
use Rattle.page_change.specs.Changed.{Changed}
use Rattle.page_write.specs.page_table.specs.Rules.{above}
use Rattle.page_write.specs.page_table.proofs.Rules.{Ordered, ordered, row_fine_lem, RowsApart, among_kept, row_message, among_apart, among_from, among_start}
use Rattle.page_write.specs.page_table.proofs.Firsts.{found_in}
use Rattle.page_write.specs.page_table.proofs.Listed.{at_among, found_signal, signal_found}
use Rattle.page_write.specs.page_table.proofs.PageBits.{not_covered}
use Rattle.page_write.specs.page_read.proofs.Gaps.{stray_none, stray_zero}
use Rattle.page_write.specs.page_read.proofs.Interfaces.{newer}
use Rattle.page_write.specs.page_read.proofs.Answers.{labelled_each, each_labelled}
use Rattle.page_write.proofs.Trips.{accepted_on, accepts, bits_put, whole_put}

pub newer_change : (m : ℕ) (extended : Bool) (bs : List ℕ) (s : ℕ) (z : ℤ) → change_of m extended bs s z ≡ change_on Newer m extended bs s z
unfolding change_of change_on
newer_change m extended bs s z = ap (changed_in s z) (newer m extended bs)

-- ---- from the answer back to the tests

pub changed : (iface : Interface) (m : ℕ) (extended : Bool) (bs : List ℕ) (s : ℕ) (z : ℤ) (k n' : ℕ) → change_on iface m extended bs s z ≡ Ok (k, n')
    → Changed iface m extended bs s z k n'
unfolding change_on
changed iface m extended bs s z k n' e = outer (judge_on iface m extended bs) refl e
  where
    inner : (k₀ n : ℕ) (r : Row) (a b : Bool) → judge_on iface m extended bs ≡ Ok (k₀, n) → SignalAt k₀ s r
        → fits_in r.signed r.width z ≡ a → takes r.labels (bits_in r.signed r.width z) ≡ b
        → changed_by r k₀ n z a b ≡ Ok (k, n') → Changed iface m extended bs s z k n'
    inner k₀ n r true true j t p q e =
        let ek = (ok_pair e).0 in
        let en = (ok_pair e).1 in
        let number : n ≡ number_of (big_of k) bs = (accepted_on iface m extended bs k₀ n j).number ∙ ap (λ (x : ℕ). number_of (big_of x) bs) ek in
        record {
          read = accepted_on iface m extended bs k (number_of (big_of k) bs) (j ∙ ap₂ (λ (u v : ℕ). Ok (u, v)) ek number);
          row = r;
          signal = subst (λ (x : ℕ). SignalAt x s r) ek t;
          fits = p;
          labelled = q;
          put = sym en ∙ ap (λ (x : ℕ). put_raw r x z) number;
        }
    inner k₀ n r true false j t p q e = absurd (let z : ◌≡◌ {A = ℕ} 0 1 = cc in omega arith)
    inner k₀ n r false true j t p q e = absurd (let z : ◌≡◌ {A = ℕ} 0 1 = cc in omega arith)
    inner k₀ n r false false j t p q e = absurd (let z : ◌≡◌ {A = ℕ} 0 1 = cc in omega arith)

    middle : (k₀ n : ℕ) (f : Option ℕ) → judge_on iface m extended bs ≡ Ok (k₀, n) → first_at (is_signal k₀ s) 0 rows ≡ f → changed_at k₀ n z f ≡ Ok (k, n')
        → Changed iface m extended bs s z k n'
    middle k₀ n (Some i) j f e =
        let r = row_at i in
        inner k₀ n r (fits_in r.signed r.width z) (takes r.labels (bits_in r.signed r.width z)) j (found_signal k₀ s i f) refl refl e
    middle k₀ n None j f e = absurd (let z : ◌≡◌ {A = ℕ} 0 1 = cc in omega arith)

    outer : (a : Judged) → judge_on iface m extended bs ≡ a → changed_in s z a ≡ Ok (k, n') → Changed iface m extended bs s z k n'
    outer (Ok (k₀, n)) j e = middle k₀ n (first_at (is_signal k₀ s) 0 rows) j refl e
    outer (Err w) j e = absurd (let z : ◌≡◌ {A = ℕ} 0 1 = cc in omega arith)

-- a kind's signal at a start is one row, and a fine one
pub one_row : (k s : ℕ) (r q : Row) → SignalAt k s r → SignalAt k s q → q ≡ r
one_row k s r q t u = among_start (8 * length_of k) 0 r q (rows_of k) (ordered k) t.is_signal u.is_signal (t.start ∙ sym u.start)

pub signal_fine : (k s : ℕ) (r : Row) → SignalAt k s r → Fine r
signal_fine k s r t =
    let p = signal_found k s r t in
    subst Fine p.2 (row_fine_lem p.0 (found_in (is_signal k s) p.0 p.1).0)

-- ---- the rows of a kind, one by one

inside : (n p : ℕ) (r : Row) (rs : List Row) → Ordered n p rs → Among r rs → above r ≤ n
inside n p r [] o m = absurd m
inside n p r (q ∷ rs) o (inl e) = omega (arith, o.1, ap above e)
inside n p r (q ∷ rs) o (inr m) = inside n (suc q.start) r rs o.3 m

-- rows in order whose numbers are as they were but for that of row j, which starts at s
wholes_same : (n n' : ℕ) (rs : List Row) → ((q : Row) → Among q rs → whole_at n' q ≡ whole_at n q) → wholes_of n' rs ≡ wholes_of n rs
unfolding wholes_of
wholes_same n n' [] f = refl
wholes_same n n' (r ∷ rs) f = ap₂ (λ (x : ℤ) (l : List ℤ). x ∷ l) (f r (inl refl)) (wholes_same n n' rs (λ q a. f q (inr a)))

wholes_set : (b p n n' s : ℕ) (z : ℤ) (rs : List Row) → Ordered b p rs → (j : ℕ) → j < length rs → (get_or rs j no_row).start ≡ s → whole_at n' (get_or rs j no_row) ≡ z
    → ((q : Row) → Among q rs → (q.start ≡ s → ⊥) → whole_at n' q ≡ whole_at n q) → wholes_of n' rs ≡ set (wholes_of n rs) j z
unfolding wholes_of
wholes_set b p n n' s z [] o j h at own f = absurd (not-suc-le-zero h)
wholes_set b p n n' s z (r ∷ rs) o zero h at own f =
    ap₂ (λ (x : ℤ) (l : List ℤ). x ∷ l) own
    (wholes_same n n' rs (λ q a. f q (inr a) (λ e. omega (arith, among_from b (suc r.start) q rs o.3 a))))
wholes_set b p n n' s z (r ∷ rs) o (suc j) h at own f =
    let l = le_of_suc-le-suc h in
    ap₂ (λ (x : ℤ) (l : List ℤ). x ∷ l)
    (f r (inl refl) (λ e. omega (arith, among_from b (suc r.start) (get_or rs j no_row) rs o.3 (at_among rs j l))))
    (wholes_set b (suc r.start) n n' s z rs o.3 j l at own (λ q a. f q (inr a)))

-- ---- the number with z put into the row r of kind k

module _ (k n : ℕ) (r : Row) (z : ℤ) (small : n < 2 ^ (8 * length_of k)) (fine : Fine r) (member : Among r (rows_of k))
    (fits : fits_in r.signed r.width z ≡ true) where
  put_small : put_raw r n z < 2 ^ (8 * length_of k)
  put_small =
      put_lt n (lowest r) r.width (bits_in r.signed r.width z) (8 * length_of k) small (bits_lt r.signed r.width fine.0 z fits)
      (inside (8 * length_of k) 0 r (rows_of k) (ordered k) member)

  -- a bit outside the signal
  put-kept : (j : ℕ) → covers (lowest r) r.width j ≡ false → get_bits (put_raw r n z) j 1 ≡ get_bits n j 1
  put-kept j u =
      bit_kept n (lowest r) r.width (bits_in r.signed r.width z) j (bits_lt r.signed r.width fine.0 z fits) u

  -- another signal of the kind
  put_other : (q : Row) → RowsApart r q → bits_at (put_raw r n z) q ≡ bits_at n q
  put_other q a =
      get_put_apart n (lowest r) r.width (bits_in r.signed r.width z) (lowest q) q.width (bits_lt r.signed r.width fine.0 z fits) a

  put-labelled : takes r.labels (bits_in r.signed r.width z) ≡ true → unlabelled n (rows_of k) ≡ false → unlabelled (put_raw r n z) (rows_of k) ≡ false
  put-labelled t u =
      each_labelled (put_raw r n z) (rows_of k) (λ q m. go q m (among_apart (8 * length_of k) 0 r q (rows_of k) (ordered k) member m))
    where
      go : (q : Row) → Among q (rows_of k) → (q ≡ r) ⊎ RowsApart r q → takes q.labels (bits_at (put_raw r n z) q) ≡ true
      go q m (inl e) = ap (λ (x : Row). takes x.labels (bits_at (put_raw r n z) x)) e ∙ ap (takes r.labels) (bits_put r n z fine fits) ∙ t
      go q m (inr a) = ap (takes q.labels) (put_other q a) ∙ labelled_each n (rows_of k) u q m

  put-clean : (b : ℕ) → stray_below b n (rows_of k) ≡ false → stray_below b (put_raw r n z) (rows_of k) ≡ false
  put-clean b s =
      stray_zero b (put_raw r n z) (rows_of k)
      (λ i l u. put-kept i (not_covered r (rows_of k) i member u) ∙ stray_none b n (rows_of k) s i l u)

-- ---- the theorems

-- a change that was accepted, of lent bytes
module _ (iface : Interface) (m : ℕ) (extended : Bool) (bs : List ℕ) (s : ℕ) (z : ℤ) (k n' : ℕ) (e : change_on iface m extended bs s z ≡ Ok (k, n')) (hb : Bytes bs) where
  -- the frame's number has the kind's bits, before and after
  small-before : number_of (big_of k) bs < 2 ^ (8 * length_of k)
  small-before =
      subst (λ (x : ℕ). number_of (big_of k) bs < 2 ^ (8 * x)) (changed iface m extended bs s z k n' e).read.sized (number_bound (big_of k) bs hb)

  small-after : n' < 2 ^ (8 * length_of k)
  small-after =
      let c = changed iface m extended bs s z k n' e in
      subst (λ (x : ℕ). x < 2 ^ (8 * length_of k)) (sym c.put)
      (put_small k (number_of (big_of k) bs) c.row z small-before (signal_fine k s c.row c.signal) c.signal.is_signal c.fits)

  -- what is stored
  stored : bytes_after bs (change_on iface m extended bs s z) ≡ bytes_of (big_of k) (length bs) n'
  stored = ap (bytes_after bs) e

  number-after : number_of (big_of k) (bytes_of (big_of k) (length bs) n') ≡ n'
  number-after =
      number_of_lem (big_of k) (length bs) n' (subst (λ (x : ℕ). n' < 2 ^ (8 * x)) (sym (changed iface m extended bs s z k n' e).read.sized) small-after)

  -- THEOREM: the bytes are read as a frame of the same kind, with the number n'
  pub change_read : (judge_on iface m extended (bytes_after bs (change_on iface m extended bs s z)) ≡ Ok (k, n'))
      × (length (bytes_after bs (change_on iface m extended bs s z)) ≡ length bs)
  change_read =
      let c = changed iface m extended bs s z k n' e in
      let t = c.read in
      let fine = signal_fine k s c.row c.signal in
      let member = c.signal.is_signal in
      let b = bytes_of (big_of k) (length bs) n' in
      let l : length b ≡ length bs = length_of_lem (big_of k) (length bs) n' in
      let taken : Taken iface m extended b k n'
      = record {
        own = t.own;
        identifier = t.identifier;
        form = t.form;
        sized = l ∙ t.sized;
        number = sym number-after;
        some = t.some;
        labelled = ap (λ (x : ℕ). unlabelled x (rows_of k)) c.put
            ∙ put-labelled k (number_of (big_of k) bs) c.row z small-before fine member c.fits c.labelled t.labelled;
        clean = ap₂ (λ (x y : ℕ). stray_below (8 * x) y (rows_of k)) l c.put
            ∙ put-clean k (number_of (big_of k) bs) c.row z small-before fine member c.fits (8 * length bs) t.clean;
      } in
      (ap (judge_on iface m extended) stored ∙ accepts iface m extended b k n' taken, ap length stored ∙ l)

  -- THEOREM: the signal that was asked for is there
  pub change_found : (r : Row) × SignalAt k s r
  change_found = let c = changed iface m extended bs s z k n' e in (c.row, c.signal)

  -- of the row of that signal
  module _ (r : Row) (signal : SignalAt k s r) where
    row_is : (changed iface m extended bs s z k n' e).row ≡ r
    row_is = one_row k s r (changed iface m extended bs s z k n' e).row signal (changed iface m extended bs s z k n' e).signal

    fits-is : fits_in r.signed r.width z ≡ true
    fits-is = subst (λ (q : Row). fits_in q.signed q.width z ≡ true) row_is (changed iface m extended bs s z k n' e).fits

    put_is : n' ≡ put_raw r (number_of (big_of k) bs) z
    put_is = subst (λ (q : Row). n' ≡ put_raw q (number_of (big_of k) bs) z) row_is (changed iface m extended bs s z k n' e).put

    -- the bytes, by what the page says of the signal
    record Paged : Type 0 where
      within : order.Inside r.big (length bs) r.start r.width
      narrow : bits_in r.signed r.width z < 2 ^ r.width
      bytes : bytes_after bs (change_on iface m extended bs s z)
          ≡ bytes_of r.big (length bs) (put_bits (number_of r.big bs) (order.lowest r.big (length bs) r.start r.width) r.width (bits_in r.signed r.width z))

    paged : Paged
    paged =
        let kept = among_kept k r signal.is_signal in
        let says = row_message k r signal.is_signal in
        let size : r.bytes ≡ length bs = says.2 ∙ sym (changed iface m extended bs s z k n' e).read.sized in
        let v = bits_in r.signed r.width z in
        record {
          within = subst (λ (y : ℕ). order.Inside r.big y r.start r.width) size kept.within;
          narrow = bits_lt r.signed r.width (signal_fine k s r signal).0 z fits-is;
          bytes =
              stored
              ∙ ap (bytes_of (big_of k) (length bs)) put_is
              ∙ ap (λ (y : Bool). bytes_of y (length bs) (put_bits (number_of y bs) (lowest r) r.width v)) (sym says.3)
              ∙ ap (λ (y : ℕ). bytes_of r.big (length bs) (put_bits (number_of r.big bs) y r.width v))
              (kept.lowest_bit ∙ ap (λ (y : ℕ). order.lowest r.big y r.start r.width) size);
        }

    -- THEOREM: bit j of the signal is bit j of the number that was asked for, where the page puts it
    pub change_bit : (j : ℕ) → j < r.width
        → bit_at (bytes_after bs (change_on iface m extended bs s z)) (order.bit_of r.big r.start r.width j) ≡ get_bits (bits_in r.signed r.width z) j 1
    change_bit j h =
        ap (λ (l : List ℕ). bit_at l (order.bit_of r.big r.start r.width j)) paged.bytes
        ∙ written_bit r.big bs r.start r.width (bits_in r.signed r.width z) j paged.within paged.narrow h

    -- THEOREM: "Changing one signal touches no bit outside it": a bit that the page's signal does not have
    pub change_kept : (b : ℕ) → (HasBit r b → ⊥) → bit_at (bytes_after bs (change_on iface m extended bs s z)) b ≡ bit_at bs b
    change_kept b u =
        ap (λ (l : List ℕ). bit_at l b) paged.bytes
        ∙ written_kept r.big bs r.start r.width (bits_in r.signed r.width z) b hb paged.within paged.narrow u

    -- THEOREM: it has the number that was asked for, and every other signal of the message keeps its own
    pub change_raws_lem : (whole_at n' r ≡ z) × ((q : Row) → Among q (rows_of k) → (q.start ≡ s → ⊥) → whole_at n' q ≡ whole_at (number_of (big_of k) bs) q)
    change_raws_lem = (
      ap (λ (x : ℕ). whole_at x r) put_is ∙ whole_put r (number_of (big_of k) bs) z (signal_fine k s r signal) fits-is,
      λ q a n. other q n (among_apart (8 * length_of k) 0 r q (rows_of k) (ordered k) signal.is_signal a),
    )
      where
        other : (q : Row) → (q.start ≡ s → ⊥) → (q ≡ r) ⊎ RowsApart r q → whole_at n' q ≡ whole_at (number_of (big_of k) bs) q
        other q n (inl w) = absurd (n (ap (λ (x : Row). x.start) w ∙ signal.start))
        other q n (inr a) =
            ap (value_in q.signed q.width)
            (ap (λ (x : ℕ). bits_at x q) put_is ∙ put_other k (number_of (big_of k) bs) r z small-before (signal_fine k s r signal) signal.is_signal fits-is q a)

  -- THEOREM: of all the kind's raw numbers, that of the signal is the one that was asked for, and the others are as they were
  pub change_wholes : (j : ℕ) → j < length (rows_of k) → (get_or (rows_of k) j no_row).start ≡ s
      → wholes_of n' (rows_of k) ≡ set (wholes_of (number_of (big_of k) bs) (rows_of k)) j z
  change_wholes j h at =
      let r = get_or (rows_of k) j no_row in
      let t = change_raws_lem r (record { is_signal = at_among (rows_of k) j h; start = at }) in
      wholes_set (8 * length_of k) 0 (number_of (big_of k) bs) n' s z (rows_of k) (ordered k) j h at t.0 t.1

-- THEOREM: "A refusal carries its number only; .. lent bytes stay as they were"
pub change_refused : (iface : Interface) (m : ℕ) (extended : Bool) (bs : List ℕ) (s : ℕ) (z : ℤ) (w : Refusal) → change_on iface m extended bs s z ≡ Err w
    → bytes_after bs (change_on iface m extended bs s z) ≡ bs
change_refused iface m extended bs s z w e = ap (bytes_after bs) e
