-- Each field is what its function makes of the number at its place.
use mir.Facts.{to_z-of_z}
use borrow.Author.Rules.{rules, sfits_of}
use Rattle.message_extra.proofs.build.spcc.Goals as goal

pub returns : goal.returns
returns c =
    simp (to_z-of_z, sfits_of, c.celsius.type_inv, c.celsius-2.type_inv, c.celsius-3.type_inv, c.celsius-4.type_inv, c.celsius-5.type_inv, c.celsius-6.type_inv)
    (search (
      rules,
      c.flag.ensures,
      c.flag-2.ensures,
      c.flag-3.ensures,
      c.flag-4.ensures,
      c.natural.ensures,
      c.celsius.ensures,
      c.celsius-2.ensures,
      c.celsius-3.ensures,
      c.celsius-4.ensures,
      c.celsius-5.ensures,
      c.celsius-6.ensures,
    ))
