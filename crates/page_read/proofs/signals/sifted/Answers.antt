-- `page_read::signals::sifted` meets its contract.
use Rattle.std.proofs.Common.{◌≡◌, ℕ, ◌+◌, true, false, List, [], ◌∷◌, drop, Option, Some, None, sym, ap, ap₂, ◌∙◌, arith}
use lib.Pow.{pow_pos}
use Rattle.signal.proofs.Totals.{put_in}
use Rattle.page_search.specs.page_table.specs.declared.Row.{Row}
use Rattle.page_search.specs.page_table.specs.Table.{rows, block, lowest, bits_at, takes}
use Rattle.page_read.specs.Steps.{offence_of, cleared, judged_by}
use Rattle.page_search.specs.page_table.proofs.Rules.{fine_at}
use Rattle.page_search.specs.page_table.proofs.Walk.{block_in, block_out, block_end}
use Rattle.page_read.proofs.Starts.{start_row}
use Rattle.page_read.proofs.signals.sifted.Goals as goal

-- a row that holds, or one that does not, before the others
passed : (n : ℕ) (r : Row) (l rs : List Row) → l ≡ r ∷ rs → takes r.labels (bits_at n r) ≡ true → offence_of n rs ≡ offence_of n l
unfolding offence_of
passed n r l rs e t = rw (e, t)

stopped : (n : ℕ) (r : Row) (l rs : List Row) → l ≡ r ∷ rs → takes r.labels (bits_at n r) ≡ false → Some r.start ≡ offence_of n l
unfolding offence_of
stopped n r l rs e t = rw (e, t)

-- what is left does not matter where a signal offends
answered : (kind n s : ℕ) (o : Option ℕ) (rest : ℕ) → Some s ≡ o → judged_by kind n (Some s) n ≡ judged_by kind n o rest
answered kind n s o rest e = ap (λ (x : Option ℕ). judged_by kind n x rest) e

-- where no row is left: nothing offends, and rest is what is left
ended : (kind n rest : ℕ) (l m : List Row) → l ≡ [] → offence_of n l ≡ offence_of n m → cleared l rest ≡ cleared m n
    → judged_by kind n None rest ≡ judged_by kind n (offence_of n m) (cleared m n)
unfolding offence_of cleared
ended kind n rest l m e o s = ap₂ (judged_by kind n) (sym (ap (offence_of n) e) ∙ o) (sym (ap (λ (x : List Row). cleared x rest) e) ∙ s)

pub signal_bits-requires : goal.signal_bits-requires
signal_bits-requires c = fine_at _ _ (omega arith) c.row_at-r.ensures

pub loop-i-preserved : goal.loop-i-preserved
unfolding cleared
loop-i-preserved c =
    let a = c.args in
    let l = c.loop-i in
    let r = c.row_at-r.result in
    let f = fine_at l.i r (omega arith) c.row_at-r.ensures in
    let e = block_in a.kind l.i r (omega arith) c.row_at-r.ensures c.if-r-kind.false in
    let rs = block a.kind (drop (l.i + 1) rows) in
    let held : takes r.labels (bits_at a.n r) ≡ true = sym (c.label_holds.ensures ∙ ap (takes r.labels) c.signal_bits.ensures) ∙ c.if-not-label_holds.false in
    record {
      offence = passed a.n r (block a.kind (drop l.i rows)) rs e held ∙ l.invariant.offence;
      left =
          ap (cleared rs) (c.put-rest.ensures ∙ put_in l.rest (lowest r) r.width 0 f.0 f.2 (pow_pos r.width))
          ∙ sym (ap (λ (x : List Row). cleared x l.rest) e)
          ∙ l.invariant.left;
    }

pub returns-then-not-label_holds : goal.returns-then-not-label_holds
returns-then-not-label_holds c =
    let a = c.args in
    let l = c.loop-i in
    let r = c.row_at-r.result in
    let m = block a.kind (drop a.at rows) in
    let e = block_in a.kind l.i r (omega arith) c.row_at-r.ensures c.if-r-kind.false in
    let held : takes r.labels (bits_at a.n r) ≡ false = sym (c.label_holds.ensures ∙ ap (takes r.labels) c.signal_bits.ensures) ∙ c.if-not-label_holds.true in
    let first : Some c.start_bit.result ≡ offence_of a.n m
    = ap Some (start_row r (fine_at _ _ (omega arith) c.row_at-r.ensures) c.start_bit.result c.start_bit.ensures)
    ∙ stopped a.n r (block a.kind (drop l.i rows)) (block a.kind (drop (l.i + 1) rows)) e held
    ∙ l.invariant.offence in
    answered a.kind a.n c.start_bit.result (offence_of a.n m) (cleared m a.n) first

pub returns-then-r-kind : goal.returns-then-r-kind
returns-then-r-kind c =
    let a = c.args in
    let l = c.loop-i in
    ended a.kind a.n l.rest (block a.kind (drop l.i rows)) (block a.kind (drop a.at rows))
    (block_out a.kind l.i c.row_at-r.result (omega arith) c.row_at-r.ensures c.if-r-kind.true) l.invariant.offence l.invariant.left

pub returns : goal.returns
returns c =
    let a = c.args in
    let l = c.loop-i in
    ended a.kind a.n l.rest (block a.kind (drop l.i rows)) (block a.kind (drop a.at rows)) (block_end a.kind l.i (omega arith)) l.invariant.offence l.invariant.left
