-- `page_charger::line_at` meets its contract: the last arm's index is past the end.
use Rattle.std.proofs.Common.{sym, ◌≤◌, arith}
use lib.ListN.{get_or-eq_default}
use Rattle.page_table.specs.Charger.{charger_rows}
use Rattle.page_charger.specs.Past.{past}
use Rattle.page_charger.proofs.line_at.Goals as goal

pub returns-in_default : goal.returns-in_default
returns-in_default c = let past_all : 30 ≤ c.args.i = omega arith in sym (get_or-eq_default charger_rows past past_all)
