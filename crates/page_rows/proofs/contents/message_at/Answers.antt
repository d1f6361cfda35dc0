-- `page_rows::contents::message_at` meets its contract: the last arm's number is no kind.
use Rattle.std.proofs.Common.{sym, ◌≤◌, arith}
use lib.ListN.{get_or-eq_default}
use Rattle.page_charger.specs.page_table.specs.Messages.{messages, no_message}
use Rattle.page_rows.proofs.contents.message_at.Goals as goal

pub returns-in_default : goal.returns-in_default
returns-in_default c = let no_kind : 43 ≤ c.args.kind = omega arith in sym (get_or-eq_default messages no_message no_kind)
