-- 02, Req 11: "A frame whose identifier only the other interface has". The exact identifier and its form count.
use Rattle.std.specs.Prelude.{ℕ, Bool, false, cond, not, List, Some, None, Err, Option}
use Rattle.refusals.specs.declared.Refusal.TheVariants.{OtherInterface}
use Rattle.page_table.specs.declared.Interface.{Interface}
use Rattle.page_table.specs.declared.Interface.TheVariants.{Newer, Older}
use Rattle.page_table.specs.Table.{rows, row_at, first_at, has_id}
use Rattle.page_table.specs.Interfaces.{is_on}
use Rattle.page_read.specs.Judged.{Judged}
use Rattle.page_read.specs.Judge.{judge_on}

abbrev pub foreign_at : Interface → Option ℕ → Bool
foreign_at iface (Some i) = not (is_on iface (row_at i).kind)
foreign_at iface None = false

-- the table has the identifier, and the interface has not
unfoldable pub is_foreign : Interface → ℕ → Bool → Bool
is_foreign iface m x = foreign_at iface (first_at (has_id m x) 0 rows)

-- the other of the two
abbrev pub other : Interface → Interface
other Newer = Older
other Older = Newer

-- "in 3's place": 29, and every other frame as the post's own pages read it
unfoldable pub judge_for : Interface → ℕ → Bool → List ℕ → Judged
judge_for iface m x bs = cond (is_foreign iface m x) (Err OtherInterface) (judge_on iface m x bs)
