-- Each number is its field's.
use Rattle.std.proofs.Common.{rules}
use Rattle.page_write.specs.Raws.{pad}
use Rattle.message_fields.proofs.Flags.{flag_is}
use Rattle.message_extra.proofs.take.spcc_raws.Goals as goal

pub returns : goal.returns
unfolding pad
returns c = search (rules, flag_is)
