-- `Walk::open_end` meets its contract: by where the piece ends, and whether the record is its first.
use Rattle.std.proofs.Common.{◌≡◌, ◌<◌, ◌≤◌, arith, rules, eq-eqb, ne_eqb, le-leb}
use borrow.Author.Tests.{lt-leb}
use Rattle.log_walk.specs.Walk.{sum64, open_by}
use Rattle.log_walk.proofs.Walk.open_end.Goals as goal

pub returns-then-self-length : goal.returns-then-self-length
unfolding open_by
returns-then-self-length c =
    let a = c.args in
    let last : a.self.size ≤ sum64 a.self.from a.length = omega arith in
    rw (le-leb a.self.size (sum64 a.self.from a.length) last) c.stands.ensures

pub returns-then-self : goal.returns-then-self
unfolding open_by
returns-then-self c =
    let a = c.args in
    let more : sum64 a.self.from a.length < a.self.size = omega arith in
    let first : a.self.at ≡ a.self.from = search rules in
    rw (lt-leb a.self.size (sum64 a.self.from a.length) more, eq-eqb a.self.at a.self.from first) c.stands-then-self.ensures

pub returns : goal.returns
unfolding open_by
returns c =
    let a = c.args in
    let more : sum64 a.self.from a.length < a.self.size = omega arith in
    let later : ¬ (a.self.at ≡ a.self.from) = search rules in
    rw (lt-leb a.self.size (sum64 a.self.from a.length) more, ne_eqb a.self.at a.self.from later) c.at_seam.ensures
