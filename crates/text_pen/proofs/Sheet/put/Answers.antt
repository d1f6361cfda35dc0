-- What does not fit is left out, and what fits is written.
use Rattle.std.proofs.Common.{ℕ, ◌+◌, Bool, sym, ap, ◌∙◌, length, arith}
use Rattle.text_pen.specs.declared.Pen.{Pen}
use Rattle.text_pen.proofs.Inks.{left_out, written, overwritten, room_told}
use Rattle.text_pen.proofs.Turns.{one}
use Rattle.text_pen.proofs.Sheet.put.Goals as goal

abbrev pen_of : ℕ → Bool → Pen
pen_of at b = record { at = at; full = b }

pub returns-then-not-has_room : goal.returns-then-not-has_room
returns-then-not-has_room c =
    let s = c.args.self.now in
    let r = left_out s.out.now s.pen c.args.src.now (sym c.has_room.ensures.value ∙ c.if-not-has_room.true) in
    one s c.args.src.now s.out.now _ r.0 r.1

pub returns : goal.returns
returns c =
    let s = c.args.self.now in
    let w = c.args.src.now in
    let e = sym c.has_room.ensures.value ∙ c.if-not-has_room.false in
    let r = written s.out.now s.pen w e in
    let f = (room_told _ _ _ e).0 in
    one s w _ _ (ap (pen_of (s.pen.at + length w)) f ∙ r.0)
    (overwritten s.out.now s.pen.at _ c.copy_from_slice.new.self w (omega arith) c.copy_from_slice.ensures.after ∙ r.1)
