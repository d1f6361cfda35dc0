-- `log_write::number::store_number` meets its contract: what is stored and what is left to store are together the number's bytes.
use mathlib.Core.Path.{refl}
use native.Mathlib.Omega.{arith}
use borrow.Author.Rules.{rules}
use Rattle.log_write.proofs.Groups.{wrote_room, wrote_more, wrote_last}
use Rattle.log_write.proofs.number.store_number.Goals as goal

pub loop-rest-init : goal.loop-rest-init
loop-rest-init c = (refl, refl, refl, omega arith)

pub bounds-out-i : goal.bounds-out-i
bounds-out-i c = wrote_room c.args.out.now c.args.at c.args.n c.loop-rest.out c.loop-rest.i c.loop-rest.rest c.requires (search rules) c.loop-rest.invariant

pub overflow_add-i : goal.overflow_add-i
overflow_add-i c = search (rules, bounds-out-i c)

pub loop-rest-preserved : goal.loop-rest-preserved
loop-rest-preserved c = wrote_more c.args.out.now c.args.at c.args.n c.loop-rest.out c.loop-rest.i c.loop-rest.rest (omega arith) (search rules) c.loop-rest.invariant

pub bounds-out-i-2 : goal.bounds-out-i-2
bounds-out-i-2 c = wrote_room c.args.out.now c.args.at c.args.n c.loop-rest.out c.loop-rest.i c.loop-rest.rest c.requires (search rules) c.loop-rest.invariant

pub overflow_add-result : goal.overflow_add-result
overflow_add-result c = search (rules, bounds-out-i-2 c)

pub returns : goal.returns
returns c = wrote_last c.args.out.now c.args.at c.args.n c.loop-rest.out c.loop-rest.i c.loop-rest.rest (omega arith) c.loop-rest.invariant
