-- The post's record, field by field: what is none or some in it is two numbers, and five.
use Rattle.std.proofs.Common.{◌≡◌, refl, sym, ℕ, List, [], ◌∷◌, get_or}
use Rattle.std.specs.Prelude.{Some, None}
use Rattle.rules.specs.LastTime.{LastTime}
use Rattle.rules.specs.SessionPart.{SessionPart}
use Rattle.rules.specs.declared.Head.{Head}
use Rattle.rules.specs.declared.Post.{Post}
use Rattle.page_table.specs.Interfaces.{interface_number, interface_of}
use Rattle.rule_limits.specs.Sensor.{sensor_number, sensor_of}
use Rattle.rules.specs.After.{last_in, part_in, post_record}
use Rattle.lent_numbers.specs.LookUp.{last_numbers, session_numbers, numbers_of}
use Rattle.lent_numbers.proofs.numbers_of.Goals as goal

-- the numbers as they are handed on, of the two that the latest time has and the five of the session
abbrev fields : Head → List ℕ → List ℕ → List ℕ
fields h l s =
    h.channel ∷ h.limits.voltage ∷ h.limits.charge ∷ h.limits.discharge ∷ h.limits.silence ∷ sensor_number (sensor_of h.limits.sensor)
    ∷ get_or l 0 0 ∷ get_or l 1 0 ∷ get_or s 0 0 ∷ get_or s 1 0 ∷ get_or s 2 0 ∷ get_or s 3 0 ∷ get_or s 4 0
    ∷ interface_number (interface_of h.limits.interface) ∷ []

spelled : (p : Post) → numbers_of (post_record p) ≡ fields p.head (last_numbers (last_in p.head)) (session_numbers (part_in p.head.time p.head.session))
unfolding numbers_of post_record
spelled p = go (last_in p.head) (part_in p.head.time p.head.session) refl refl
  where
    go : (a : LastTime) (b : SessionPart) → last_in p.head ≡ a → part_in p.head.time p.head.session ≡ b
        → numbers_of (post_record p) ≡ fields p.head (last_numbers (last_in p.head)) (session_numbers (part_in p.head.time p.head.session))
    go None None e f = rw (e, f)
    go None (Some s) e f = rw (e, f)
    go (Some t) None e f = rw (e, f)
    go (Some t) (Some s) e f = rw (e, f)

pub returns : goal.returns
returns c =
    rw (
      c.from-4.ensures,
      c.from-3.ensures,
      c.from-2.ensures,
      c.from.ensures,
      c.session_numbers.ensures,
      c.last_numbers.ensures,
    ) (sym (spelled c.args.p.now))
