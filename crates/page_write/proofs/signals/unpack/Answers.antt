-- `page_write::signals::unpack` meets its contract.
use Rattle.std.proofs.Common.{◌≡◌, ℕ, zero, suc, ◌+◌, ◌-◌, ◌≤◌, List, [], ◌∷◌, length, drop, set, ℤ, sym, refl, ap, ◌∙◌, arith, length-set, w64, to_z, of_z}
use lib.Seq.{sets, set_out}
use Rattle.page_read.specs.page_table.specs.declared.Row.{Row}
use Rattle.page_read.specs.page_table.specs.Table.{rows, block, signal_count}
use Rattle.page_write.specs.Raws.{whole_at, wholes_of, pad}
use Rattle.page_read.specs.page_table.proofs.Rules.{fine_at}
use Rattle.page_read.specs.page_table.proofs.Walk.{block_in, block_out, block_end}
use Rattle.page_write.proofs.AtRow.{answer}
use Rattle.page_write.proofs.signals.unpack.Goals as goal

-- ---- stores from a place on

sets_suc : (y : ℤ) (a : List ℤ) (j : ℕ) (zs : List ℤ) → sets (y ∷ a) (suc j) zs ≡ y ∷ sets a j zs
sets_suc y a j [] = refl
sets_suc y a j (z ∷ zs) = sets_suc y (set a j z) (suc j) zs

-- past the end nothing is stored
sets_out : (a : List ℤ) (j : ℕ) (zs : List ℤ) → length a ≤ j → sets a j zs ≡ a
sets_out a j [] h = refl
sets_out a j (z ∷ zs) h = ap (λ (l : List ℤ). sets l (suc j) zs) (set_out a j z h) ∙ sets_out a (suc j) zs (omega arith)

sets_pad : (k : ℕ) (zs : List ℤ) → sets (pad k []) 0 zs ≡ pad k zs
unfolding pad
sets_pad zero zs = sets_out [] 0 zs (omega arith)
sets_pad (suc k) [] = refl
sets_pad (suc k) (z ∷ zs) = sets_suc z (pad k []) 0 zs ∙ ap (λ (l : List ℤ). z ∷ l) (sets_pad k zs)

-- ---- the goals

pub loop-i-init : goal.loop-i-init
unfolding pad
loop-i-init c =
    let a = c.args in
    let rs = wholes_of a.n (block a.kind (drop a.at rows)) in
    let none : a.at - a.at ≡ 0 = omega arith in
    record { long = refl; stored = ap (λ (x : ℕ). sets (pad signal_count []) x rs) none ∙ sets_pad signal_count rs }

pub signal_whole-requires : goal.signal_whole-requires
signal_whole-requires c = fine_at _ _ (omega arith) c.row_at-r.ensures

pub loop-i-preserved : goal.loop-i-preserved
unfolding wholes_of
loop-i-preserved c =
    let a = c.args in
    let l = c.loop-i in
    let r = c.row_at-r.result in
    let w = c.signal_whole.result in
    let e = block_in a.kind l.i r (omega arith) c.row_at-r.ensures c.if-r-kind.false in
    let z : to_z w64 (of_z w64 w) ≡ whole_at a.n r = answer c.signal_whole.type_inv c.signal_whole.ensures in
    let next : l.i + 1 - a.at ≡ suc (l.i - a.at) = omega arith in
    record {
      long = length-set l.raws (l.i - a.at) (to_z w64 (of_z w64 w)) ∙ l.invariant.long;
      stored = rw (next, z) (rw e at l.invariant.stored);
    }

pub returns-then-j-ge-SIGNALS : goal.returns-then-j-ge-SIGNALS
returns-then-j-ge-SIGNALS c =
    let a = c.args in
    let l = c.loop-i in
    let h : length l.raws ≤ l.i - a.at = omega (arith, l.invariant.long, c.if-j-ge-SIGNALS.true) in
    sym (sets_out l.raws (l.i - a.at) (wholes_of a.n (block a.kind (drop l.i rows))) h) ∙ l.invariant.stored

pub returns-then-r-kind : goal.returns-then-r-kind
unfolding wholes_of
returns-then-r-kind c =
    let a = c.args in
    let l = c.loop-i in
    let e = block_out a.kind l.i c.row_at-r.result (omega arith) c.row_at-r.ensures c.if-r-kind.true in
    sym (ap (λ (rs : List Row). sets l.raws (l.i - a.at) (wholes_of a.n rs)) e) ∙ l.invariant.stored

pub returns : goal.returns
unfolding wholes_of
returns c =
    let a = c.args in
    let l = c.loop-i in
    sym (ap (λ (rs : List Row). sets l.raws (l.i - a.at) (wholes_of a.n rs)) (block_end a.kind l.i (omega arith))) ∙ l.invariant.stored
