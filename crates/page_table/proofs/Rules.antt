-- The rules of the table, from the one test `tableFine`: what every row keeps to, what two rows do, and what the rows of a kind do.
-- Assumes nothing.
use mathlib.Core.Path.{◌≡◌, refl, sym, ap, ap₂, ◌∙◌, subst}
use mathlib.Core.Bool.{Bool, true, false, cond, not, ◌&&◌, ◌||◌}
use mathlib.Core.Logic.{◌⊎◌, inl, inr}
use mathlib.Core.List.{List, [], ◌∷◌}
use Prim.Native.Nat.{ℕ, zero, suc, ◌*◌, ◌/◌, ◌%◌, ◌^◌, ◌<◌, ◌≤◌, min, zero-le}
use native.Mathlib.Nat.{le_of_suc-le-suc, not-suc-le-zero, lt_of_lt_of_le, div-eq_of_lt}
use native.Mathlib.Omega.{arith}
use lib.Dec.{eqb, leb, ltb}
use lib.ListN.{length, get_or}
use lib.Pow.{pow_mono}
use borrow.Author.Tests.{leb-true, ltb-true, eqb-true, eqb-false, eq-eqb, ne_eqb, not-true}
use Rattle.payload.specs.Order as order
use Rattle.payload.specs.Order.{Inside}
use Rattle.signal.proofs.Laws.{Apart}
use Rattle.payload.proofs.Orders.{inside_fits, inside_true}
use Rattle.signal.proofs.Complement.{half_of}
use Rattle.page_table.specs.declared.Row.{Row}
use Rattle.page_table.specs.Messages.{same}
use Rattle.page_table.specs.Table.{rows, row_count, no_row, has_form, has_kind, has_id, keep, of_kind, rows_of, head_row, identifier_of, extended_of, length_of, big_of, lowest, Fine, labelled, signal_count}
use Rattle.page_table.specs.Listed.{Among}
use Rattle.page_table.specs.Rules.{every, above, row_fine, apart, one_message, two_messages, in_turn, all_in_turn, has_room, table_fine}

pub table_fine_lem : table_fine ≡ true
unfolding table_fine rows of_kind
table_fine_lem = refl

-- ---- tests

pub both_true : (a b : Bool) → a && b ≡ true → (a ≡ true) × (b ≡ true)
both_true true b e = (refl, e)
both_true false b e = absurd (let z : ◌≡◌ {A = ℕ} 0 1 = cc in omega arith)

pub either_true : (a b : Bool) → a || b ≡ true → (a ≡ true) ⊎ (b ≡ true)
either_true true b e = inl refl
either_true false b e = inr e

pub either_false : (a b : Bool) → a || b ≡ false → (a ≡ false) × (b ≡ false)
either_false true b e = absurd (let z : ◌≡◌ {A = ℕ} 0 1 = cc in omega arith)
either_false false b e = (refl, e)

-- two that agree
pub same_true : (x y : Bool) → same x y ≡ true → x ≡ y
same_true true y e = sym e
same_true false y e = sym (not-true y e)

pub same_self : (x : Bool) → same x x ≡ true
same_self true = refl
same_self false = refl

pub not_both : (b : Bool) → b ≡ true → b ≡ false → ⊥
not_both b p q = let z : ◌≡◌ {A = ℕ} 0 1 = cc in omega arith

pub table_parts : (length rows ≡ row_count) × (every row_fine rows ≡ true) × (all_in_turn rows ≡ true) × (every has_room rows ≡ true)
unfolding table_fine
table_parts =
    let a = eqb (length rows) row_count in
    let b = every row_fine rows in
    let d = all_in_turn rows in
    let t = both_true (a && b && d) (every has_room rows) table_fine_lem in
    let u = both_true (a && b) d t.0 in
    let v = both_true a b u.0 in
    (eqb-true (length rows) row_count v.0, v.1, u.1, t.1)

pub rows_length : length rows ≡ row_count
rows_length = table_parts.0

pub every_at : (f : Row → Bool) (l : List Row) → every f l ≡ true → (i : ℕ) → i < length l → f (get_or l i no_row) ≡ true
every_at f [] t i h = absurd (not-suc-le-zero h)
every_at f (r ∷ rs) t zero h = (both_true (f r) (every f rs) t).0
every_at f (r ∷ rs) t (suc i) h = every_at f rs (both_true (f r) (every f rs) t).1 i (le_of_suc-le-suc h)

pub every_so : (f g : Row → Bool) → ((r : Row) → f r ≡ true → g r ≡ true) → (l : List Row) → every f l ≡ true → every g l ≡ true
every_so f g h [] t = refl
every_so f g h (r ∷ rs) t =
    let p = both_true (f r) (every f rs) t in
    rw (h r p.0) (every_so f g h rs p.1)

pub turn_at : (l : List Row) → all_in_turn l ≡ true → (i j : ℕ) → i < j → j < length l → in_turn (get_or l i no_row) (get_or l j no_row) ≡ true
turn_at [] t i j h k = absurd (not-suc-le-zero k)
turn_at (r ∷ rs) t i zero h k = absurd (not-suc-le-zero h)
turn_at (r ∷ rs) t zero (suc j) h k = every_at (in_turn r) rs (both_true (every (in_turn r) rs) (all_in_turn rs) t).0 j (le_of_suc-le-suc k)
turn_at (r ∷ rs) t (suc i) (suc j) h k =
    turn_at rs (both_true (every (in_turn r) rs) (all_in_turn rs) t).1 i j (le_of_suc-le-suc h) (le_of_suc-le-suc k)

-- ---- a row by itself

pub record Kept (r : Row) : Type 0 where
  pub short : r.bytes ≤ 8
  pub some : 1 ≤ r.width
  pub narrow : r.width ≤ 63
  pub within : Inside r.big r.bytes r.start r.width
  pub lowest_bit : lowest r ≡ order.lowest r.big r.bytes r.start r.width
  pub labelling : r.labels < 2 ^ min (2 ^ r.width) 64

kept : (r : Row) → row_fine r ≡ true → Kept r
kept r e =
    let a = leb r.bytes 8 in
    let b = leb 1 r.width in
    let d = leb r.width 63 in
    let f = order.inside r.big r.bytes r.start r.width in
    let g = eqb (lowest r) (order.lowest r.big r.bytes r.start r.width) in
    let t = both_true (a && b && d && f && g) (ltb r.labels (2 ^ min (2 ^ r.width) 64)) e in
    let s = both_true (a && b && d && f) g t.0 in
    let u = both_true (a && b && d) f s.0 in
    let v = both_true (a && b) d u.0 in
    let w = both_true a b v.0 in
    record {
      short = leb-true r.bytes 8 w.0;
      some = leb-true 1 r.width w.1;
      narrow = leb-true r.width 63 v.1;
      within = inside_true r.big r.bytes r.start r.width u.1;
      lowest_bit = eqb-true (lowest r) (order.lowest r.big r.bytes r.start r.width) s.1;
      labelling = ltb-true r.labels (2 ^ min (2 ^ r.width) 64) t.1;
    }

-- the signal lies within the bits of its message, and starts there
kept_above : (r : Row) → Kept r → above r ≤ 8 * r.bytes
kept_above r k =
    let l = k.lowest_bit in
    omega (arith, inside_fits r.big r.bytes r.start r.width k.within)

start_in_lem : (big : Bool) (b s w : ℕ) → 1 ≤ w → Inside big b s w → s < 8 * b
start_in_lem false b s w o h = omega arith
start_in_lem true b s w o h = h.0

kept_fine : (r : Row) → Kept r → Fine r
kept_fine r k =
    let s = k.short in (
      k.some,
      k.narrow,
      omega (arith, kept_above r k),
      omega (arith, start_in_lem r.big r.bytes r.start r.width k.some k.within),
    )

pub row_kept : (i : ℕ) → i < row_count → Kept (get_or rows i no_row)
row_kept i h = kept (get_or rows i no_row) (every_at row_fine rows table_parts.1 i (rw rows_length h))

pub row_fine_lem : (i : ℕ) → i < row_count → Fine (get_or rows i no_row)
row_fine_lem i h = kept_fine (get_or rows i no_row) (row_kept i h)

pub fine_at : (i : ℕ) (r : Row) → i < row_count → r ≡ get_or rows i no_row → Fine r
fine_at i r h e = subst Fine (sym e) (row_fine_lem i h)

-- a mask of k bits has labels below k only
pub label_lt : (labels k x : ℕ) → labels < 2 ^ k → labelled labels x ≡ true → x < k
label_lt labels k x h e = go (half_of k x)
  where
    go : (x < k) ⊎ (k ≤ x) → x < k
    go (inl l) = l
    go (inr l) =
        let z : labels / 2 ^ x ≡ 0 = div-eq_of_lt (lt_of_lt_of_le h (pow_mono l)) in
        let o : labels / 2 ^ x % 2 ≡ 1 = eqb-true (labels / 2 ^ x % 2) 1 e in
        absurd (omega arith)

-- a label is below 64 and fits its signal
pub label_fits : (i x : ℕ) → i < row_count → labelled (get_or rows i no_row).labels x ≡ true → (x < 64) × (x < 2 ^ (get_or rows i no_row).width)
label_fits i x h e =
    let r = get_or rows i no_row in
    let l : x < min (2 ^ r.width) 64 = label_lt r.labels (min (2 ^ r.width) 64) x (row_kept i h).labelling e in
    (omega arith, omega arith)

-- ---- two rows

-- they say the same of their message
abbrev pub Agree : Row → Row → Type 0
Agree r q = (r.id ≡ q.id) × (r.extended ≡ q.extended) × (r.bytes ≡ q.bytes) × (r.big ≡ q.big)

-- they share no bit
abbrev pub RowsApart : Row → Row → Type 0
RowsApart r q = Apart (lowest r) r.width (lowest q) q.width

apart_told : (r q : Row) → apart r q ≡ true → RowsApart r q
apart_told r q e = go (either_true (leb (above r) (lowest q)) (leb (above q) (lowest r)) e)
  where
    go : (leb (above r) (lowest q) ≡ true) ⊎ (leb (above q) (lowest r) ≡ true) → RowsApart r q
    go (inl l) = inr (leb-true (above r) (lowest q) l)
    go (inr l) = inl (leb-true (above q) (lowest r) l)

-- an identifier, in its form
pub id_true : (m : ℕ) (x : Bool) (r : Row) → has_id m x r ≡ true → (r.id ≡ m) × (x ≡ r.extended)
id_true m x r e =
    let p = both_true (eqb r.id m) (has_form x r) e in
    (eqb-true r.id m p.0, same_true x r.extended p.1)

pub id_self : (r : Row) → has_id r.id r.extended r ≡ true
id_self r = ap₂ (λ (x y : Bool). x && y) (eq-eqb r.id r.id refl) (same_self r.extended)

-- what holds both ways
pub id_other : (r q : Row) → has_id r.id r.extended q ≡ false → has_id q.id q.extended r ≡ false
id_other r q n = go (has_id q.id q.extended r) refl
  where
    go : (b : Bool) → has_id q.id q.extended r ≡ b → b ≡ false
    go true e =
        let w = id_true q.id q.extended r e in
        absurd (not_both (has_id r.id r.extended q) (ap₂ (λ (y : ℕ) (z : Bool). has_id y z q) w.0 (sym w.1) ∙ id_self q) n)
    go false e = refl

-- two rows of one kind, the earlier first
pub record Mates (r q : Row) : Type 0 where
  pub agree : Agree r q
  pub rising : r.start < q.start
  pub apart : RowsApart r q

pub same_message : (r q : Row) → r.kind ≡ q.kind → in_turn r q ≡ true → Mates r q
same_message r q e t =
    let a = has_id r.id r.extended q in
    let b = eqb r.bytes q.bytes in
    let d = same r.big q.big in
    let f = ltb r.start q.start in
    let p = both_true (a && b && d && f) (apart r q) (sym (ap (λ (x : Bool). cond x (one_message r q) (two_messages r q)) (eq-eqb r.kind q.kind e)) ∙ t) in
    let u = both_true (a && b && d) f p.0 in
    let v = both_true (a && b) d u.0 in
    let w = both_true a b v.0 in
    let i = id_true r.id r.extended q w.0 in
    record {
      agree = (sym i.0, i.1, eqb-true r.bytes q.bytes w.1, same_true r.big q.big v.1);
      rising = ltb-true r.start q.start u.1;
      apart = apart_told r q p.1;
    }

-- of two kinds
pub other_message : (r q : Row) → (r.kind ≡ q.kind → ⊥) → in_turn r q ≡ true → (r.kind < q.kind) × (has_id r.id r.extended q ≡ false)
other_message r q n t =
    let p = both_true (ltb r.kind q.kind) (not (has_id r.id r.extended q))
    (sym (ap (λ (b : Bool). cond b (one_message r q) (two_messages r q)) (ne_eqb r.kind q.kind n)) ∙ t) in
    (ltb-true r.kind q.kind p.0, not-true (has_id r.id r.extended q) p.1)

pub kinds_up : (r q : Row) → in_turn r q ≡ true → r.kind ≤ q.kind
kinds_up r q t = go (eqb r.kind q.kind) refl
  where
    go : (b : Bool) → eqb r.kind q.kind ≡ b → r.kind ≤ q.kind
    go true e = omega (arith, eqb-true r.kind q.kind e)
    go false e = omega (arith, (other_message r q (eqb-false r.kind q.kind e) t).0)

-- the kinds of the table's rows go up, so that a row between two of a kind is of that kind
kinds_at : (i j : ℕ) → i ≤ j → j < row_count → (get_or rows i no_row).kind ≤ (get_or rows j no_row).kind
kinds_at i j h l = go (half_of j i)
  where
    go : (i < j) ⊎ (j ≤ i) → (get_or rows i no_row).kind ≤ (get_or rows j no_row).kind
    go (inl s) = kinds_up (get_or rows i no_row) (get_or rows j no_row) (turn_at rows table_parts.2 i j s (rw rows_length l))
    go (inr s) = let e : i ≡ j = omega arith in rw e (omega arith)

pub kind_between : (k i j m : ℕ) → i ≤ j → j ≤ m → m < row_count → (get_or rows i no_row).kind ≡ k → (get_or rows m no_row).kind ≡ k
    → (get_or rows j no_row).kind ≡ k
kind_between k i j m a b l e f =
    let low = kinds_at i j a (omega arith) in
    let high = kinds_at j m b l in
    omega arith

-- ---- the rows of a kind

-- one row more
pub kind_in : (k : ℕ) (r : Row) (rs : List Row) → r.kind ≡ k → of_kind k (r ∷ rs) ≡ r ∷ of_kind k rs
unfolding of_kind
kind_in k r rs e = rw (eq-eqb r.kind k e)

pub kind_out : (k : ℕ) (r : Row) (rs : List Row) → (r.kind ≡ k → ⊥) → of_kind k (r ∷ rs) ≡ of_kind k rs
unfolding of_kind
kind_out k r rs n = rw (ne_eqb r.kind k n)

-- a kind is that of a row, or not
pub kind_is : (k : ℕ) (r : Row) → (r.kind ≡ k) ⊎ (r.kind ≡ k → ⊥)
kind_is k r = go (has_kind k r) refl
  where
    go : (b : Bool) → has_kind k r ≡ b → (r.kind ≡ k) ⊎ (r.kind ≡ k → ⊥)
    go true e = inl (eqb-true r.kind k e)
    go false e = inr (eqb-false r.kind k e)

-- what passes for a list passes for its rows of a kind
every_of : (f : Row → Bool) (k : ℕ) (l : List Row) → every f l ≡ true → every f (of_kind k l) ≡ true
unfolding of_kind
every_of f k [] t = refl
every_of f k (r ∷ rs) t =
    let p = both_true (f r) (every f rs) t in
    go (has_kind k r) p.0 (every_of f k rs p.1)
  where
    go : (b : Bool) → f r ≡ true → every f (of_kind k rs) ≡ true → every f (keep b r (of_kind k rs)) ≡ true
    go true h i = rw h i
    go false h i = i

turns_of : (k : ℕ) (l : List Row) → all_in_turn l ≡ true → all_in_turn (of_kind k l) ≡ true
unfolding of_kind
turns_of k [] t = refl
turns_of k (r ∷ rs) t =
    let p = both_true (every (in_turn r) rs) (all_in_turn rs) t in
    go (has_kind k r) (every_of (in_turn r) k rs p.0) (turns_of k rs p.1)
  where
    go : (b : Bool) → every (in_turn r) (of_kind k rs) ≡ true → all_in_turn (of_kind k rs) ≡ true
        → all_in_turn (keep b r (of_kind k rs)) ≡ true
    go true h i = rw h i
    go false h i = i

kinds_of : (k : ℕ) (l : List Row) → every (has_kind k) (of_kind k l) ≡ true
unfolding of_kind
kinds_of k [] = refl
kinds_of k (r ∷ rs) = go (has_kind k r) refl (kinds_of k rs)
  where
    go : (b : Bool) → has_kind k r ≡ b → every (has_kind k) (of_kind k rs) ≡ true → every (has_kind k) (keep b r (of_kind k rs)) ≡ true
    go true e i = rw e i
    go false e i = i

-- rows that start at p or above, inside the n lowest bits: each a fine one, which starts below those that follow and shares no bit with them
abbrev pub Ordered : ℕ → ℕ → List Row → Type 0
Ordered n p [] = Unit {0}
Ordered n p (r ∷ rs) = (p ≤ r.start) × (above r ≤ n) × Fine r × Ordered n (suc r.start) rs × ((q : Row) → Among q rs → RowsApart r q)

-- a row of kind k and those of its kind that stand behind it
mates : (k : ℕ) (r q : Row) (rs : List Row) → r.kind ≡ k → every (in_turn r) rs ≡ true → every (has_kind k) rs ≡ true → Among q rs → Mates r q
mates k r q [] e t ks m = absurd m
mates k r q (x ∷ rs) e t ks (inl w) =
    let tp = both_true (in_turn r x) (every (in_turn r) rs) t in
    let kp = both_true (has_kind k x) (every (has_kind k) rs) ks in
    subst (Mates r) (sym w) (same_message r x (e ∙ sym (eqb-true x.kind k kp.0)) tp.0)
mates k r q (x ∷ rs) e t ks (inr m) =
    mates k r q rs e (both_true (in_turn r x) (every (in_turn r) rs) t).1 (both_true (has_kind k x) (every (has_kind k) rs) ks).1 m

in_order : (k n p : ℕ) (rs : List Row) → every (has_kind k) rs ≡ true → every row_fine rs ≡ true → all_in_turn rs ≡ true
    → ((q : Row) → Among q rs → (p ≤ q.start) × (n ≡ q.bytes)) → Ordered (8 * n) p rs
in_order k n p [] ks fs ts from = tt
in_order k n p (r ∷ rs) ks fs ts from =
    let kp = both_true (has_kind k r) (every (has_kind k) rs) ks in
    let fp = both_true (row_fine r) (every row_fine rs) fs in
    let sp = both_true (every (in_turn r) rs) (all_in_turn rs) ts in
    let w : r.kind ≡ k = eqb-true r.kind k kp.0 in
    let f = kept r fp.0 in
    let first = from r (inl refl) in
    let mate : (q : Row) → Among q rs → Mates r q = λ q m. mates k r q rs w sp.0 kp.1 m in (
      first.0,
      omega (arith, kept_above r f, first.1),
      kept_fine r f,
      in_order k n (suc r.start) rs kp.1 fp.1 sp.1 (λ q m. ((mate q m).rising, first.1 ∙ (mate q m).agree.2)),
      λ q m. (mate q m).apart,
    )

ordered_list : (k : ℕ) (l : List Row) → every (has_kind k) l ≡ true → every row_fine l ≡ true → all_in_turn l ≡ true
    → Ordered (8 * (head_row l).bytes) 0 l × ((head_row l).bytes ≤ 8)
ordered_list k [] ks fs ts = (tt, zero-le)
ordered_list k (r ∷ rs) ks fs ts =
    let kp = both_true (has_kind k r) (every (has_kind k) rs) ks in
    let fp = both_true (row_fine r) (every row_fine rs) fs in
    let sp = both_true (every (in_turn r) rs) (all_in_turn rs) ts in
    (in_order k r.bytes 0 (r ∷ rs) ks fs ts (λ q m. (zero-le, whole q m)), (kept r fp.0).short)
  where
    whole : (q : Row) → Among q (r ∷ rs) → r.bytes ≡ q.bytes
    whole q (inl e) = ap (λ (x : Row). x.bytes) (sym e)
    whole q (inr m) =
        let kp = both_true (has_kind k r) (every (has_kind k) rs) ks in
        let sp = both_true (every (in_turn r) rs) (all_in_turn rs) ts in
        (mates k r q rs (eqb-true r.kind k kp.0) sp.0 kp.1 m).agree.2

-- the rows of a kind are in the order of their starts, apart and inside the message's bits
pub ordered : (k : ℕ) → Ordered (8 * length_of k) 0 (rows_of k)
unfolding length_of
ordered k =
    (ordered_list k (rows_of k) (kinds_of k rows) (every_of row_fine k rows table_parts.1) (turns_of k rows table_parts.2)).0

pub short_length : (k : ℕ) → length_of k ≤ 8
unfolding length_of
short_length k =
    (ordered_list k (rows_of k) (kinds_of k rows) (every_of row_fine k rows table_parts.1) (turns_of k rows table_parts.2)).1

-- a kind has no row in l, or it is that of one of them, which passes the test
seen : (f : Row → Bool) (k : ℕ) (l : List Row) → every f l ≡ true → (of_kind k l ≡ []) ⊎ ((r : Row) × (r.kind ≡ k) × (f r ≡ true))
unfolding of_kind
seen f k [] t = inl refl
seen f k (r ∷ rs) t =
    let p = both_true (f r) (every f rs) t in
    go (kind_is k r) p.0 (seen f k rs p.1)
  where
    Seen : List Row → Type 0
    Seen l = (of_kind k l ≡ []) ⊎ ((r : Row) × (r.kind ≡ k) × (f r ≡ true))

    go : (r.kind ≡ k) ⊎ (r.kind ≡ k → ⊥) → f r ≡ true → Seen rs → Seen (r ∷ rs)
    go (inl e) h s = inr (r, e, h)
    go (inr n) h (inl e) = inl (kind_out k r rs n ∙ e)
    go (inr n) h (inr s) = inr s

-- no kind has more rows than there is room for
pub few : (k : ℕ) → length (rows_of k) ≤ signal_count
few k = go (seen has_room k rows table_parts.3)
  where
    go : (rows_of k ≡ []) ⊎ ((r : Row) × (r.kind ≡ k) × (has_room r ≡ true)) → length (rows_of k) ≤ signal_count
    go (inl e) = subst (λ (l : List Row). length l ≤ signal_count) (sym e) zero-le
    go (inr s) =
        subst (λ (x : ℕ). length (rows_of x) ≤ signal_count) s.1 (leb-true (length (rows_of s.0.kind)) signal_count s.2)

-- ---- two rows of one kind

among_of : (k : ℕ) (l : List Row) (i : ℕ) → i < length l → (get_or l i no_row).kind ≡ k → Among (get_or l i no_row) (of_kind k l)
among_of k [] i h e = absurd (not-suc-le-zero h)
among_of k (r ∷ rs) zero h e = subst (Among r) (sym (kind_in k r rs e)) (inl refl)
among_of k (r ∷ rs) (suc i) h e = go (kind_is k r) (among_of k rs i (le_of_suc-le-suc h) e)
  where
    go : (r.kind ≡ k) ⊎ (r.kind ≡ k → ⊥) → Among (get_or rs i no_row) (of_kind k rs) → Among (get_or rs i no_row) (of_kind k (r ∷ rs))
    go (inl q) a = subst (Among (get_or rs i no_row)) (sym (kind_in k r rs q)) (inr a)
    go (inr n) a = subst (Among (get_or rs i no_row)) (sym (kind_out k r rs n)) a

-- a row of the table is among those of its kind
pub row_among : (k i : ℕ) → i < row_count → (get_or rows i no_row).kind ≡ k → Among (get_or rows i no_row) (rows_of k)
row_among k i h e = among_of k rows i (rw rows_length h) e

pub apart_sym : (s w s' w' : ℕ) → Apart s w s' w' → Apart s' w' s w
apart_sym s w s' w' (inl h) = inr h
apart_sym s w s' w' (inr h) = inl h

-- rows in order are one, or share no bit
pub among_apart : (n p : ℕ) (r q : Row) (rs : List Row) → Ordered n p rs → Among r rs → Among q rs → (q ≡ r) ⊎ RowsApart r q
among_apart n p r q [] o a b = absurd a
among_apart n p r q (x ∷ rs) o (inl e) (inl f) = inl (f ∙ sym e)
among_apart n p r q (x ∷ rs) o (inl e) (inr b) = inr (subst (λ (y : Row). RowsApart y q) (sym e) (o.4 q b))
among_apart n p r q (x ∷ rs) o (inr a) (inl f) =
    inr (apart_sym (lowest q) q.width (lowest r) r.width (subst (λ (y : Row). RowsApart y r) (sym f) (o.4 r a)))
among_apart n p r q (x ∷ rs) o (inr a) (inr b) = among_apart n (suc x.start) r q rs o.3 a b

-- rows in order start at p or above, and two that start at one bit are one
pub among_from : (n p : ℕ) (q : Row) (rs : List Row) → Ordered n p rs → Among q rs → p ≤ q.start
among_from n p q [] o m = absurd m
among_from n p q (r ∷ rs) o (inl e) = omega (arith, o.0, ap (λ (x : Row). x.start) e)
among_from n p q (r ∷ rs) o (inr m) = omega (arith, o.0, among_from n (suc r.start) q rs o.3 m)

pub among_start : (n p : ℕ) (r q : Row) (rs : List Row) → Ordered n p rs → Among r rs → Among q rs → r.start ≡ q.start → q ≡ r
among_start n p r q [] o a b s = absurd a
among_start n p r q (x ∷ rs) o (inl e) (inl f) s = f ∙ sym e
among_start n p r q (x ∷ rs) o (inl e) (inr b) s =
    absurd (omega (arith, among_from n (suc x.start) q rs o.3 b, ap (λ (y : Row). y.start) e))
among_start n p r q (x ∷ rs) o (inr a) (inl f) s =
    absurd (omega (arith, among_from n (suc x.start) r rs o.3 a, ap (λ (y : Row). y.start) f))
among_start n p r q (x ∷ rs) o (inr a) (inr b) s = among_start n (suc x.start) r q rs o.3 a b s

-- the rows of a kind say of the message what the first says
head_says : (k : ℕ) (q : Row) (l : List Row) → every (has_kind k) l ≡ true → all_in_turn l ≡ true → Among q l → Agree (head_row l) q
head_says k q [] ks ts m = absurd m
head_says k q (r ∷ l) ks ts (inl e) = subst (Agree r) (sym e) (refl, refl, refl, refl)
head_says k q (r ∷ l) ks ts (inr m) =
    let kp = both_true (has_kind k r) (every (has_kind k) l) ks in
    (mates k r q l (eqb-true r.kind k kp.0) (both_true (every (in_turn r) l) (all_in_turn l) ts).0 kp.1 m).agree

every_among : (f : Row → Bool) (q : Row) (l : List Row) → every f l ≡ true → Among q l → f q ≡ true
every_among f q [] t m = absurd m
every_among f q (r ∷ l) t (inl e) = ap f e ∙ (both_true (f r) (every f l) t).0
every_among f q (r ∷ l) t (inr m) = every_among f q l (both_true (f r) (every f l) t).1 m

-- a row of a kind keeps to the rules, and says of the message what the kind says
pub among_kept : (k : ℕ) (q : Row) → Among q (rows_of k) → Kept q
among_kept k q m = kept q (every_among row_fine q (rows_of k) (every_of row_fine k rows table_parts.1) m)

pub row_message : (k : ℕ) (q : Row) → Among q (rows_of k)
    → (q.id ≡ identifier_of k) × (q.extended ≡ extended_of k) × (q.bytes ≡ length_of k) × (q.big ≡ big_of k)
unfolding identifier_of extended_of length_of big_of
row_message k q m =
    let a = head_says k q (rows_of k) (kinds_of k rows) (turns_of k rows table_parts.2) m in
    (sym a.0, sym a.1, sym a.2, sym a.3)
