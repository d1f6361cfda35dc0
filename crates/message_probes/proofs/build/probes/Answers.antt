-- Each field is what its function makes of the number at its place.
use mir.Facts.{to_z-of_z}
use borrow.Author.Rules.{rules, sfits_of}
use Rattle.message_probes.proofs.build.probes.Goals as goal

pub returns : goal.returns
returns c =
    simp (to_z-of_z, sfits_of, c.short.type_inv, c.short-2.type_inv, c.short-3.type_inv, c.short-4.type_inv)
    (search (
      rules,
      c.short.ensures,
      c.flag.ensures,
      c.flag-2.ensures,
      c.short-2.ensures,
      c.flag-3.ensures,
      c.flag-4.ensures,
      c.short-3.ensures,
      c.flag-5.ensures,
      c.flag-6.ensures,
      c.short-4.ensures,
      c.flag-7.ensures,
      c.flag-8.ensures,
    ))
