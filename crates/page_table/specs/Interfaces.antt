-- 02, Req 11: "Set-up names a post's interface." Which of the messages an interface has, and what a search by identifier finds among them.
use Rattle.std.specs.Prelude.{ℕ, ◌≡◌, Bool, true, cond, ◌&&◌, ◌||◌, eqb, leb, ltb, Some, None, Option}
use Rattle.page_table.specs.declared.Interface.{Interface}
use Rattle.page_table.specs.declared.Interface.TheVariants.{Newer, Older}
use Rattle.page_table.specs.Messages.{kind_count, rest_kind}
use Rattle.page_table.specs.Table.{rows, row_at, has_id, first_at}
use Rattle.page_table.specs.Listed.{Listed}

-- an interface as a number
abbrev pub interface_number : Interface → ℕ
interface_number Newer = 0
interface_number Older = 1

-- set-up lets no number but these two in
abbrev pub interface_of : ℕ → Interface
interface_of n = cond (eqb n 1) Older Newer

-- the first kind of document 004, whose frames either interface has
abbrev pub safety_kind : ℕ
safety_kind = 9

-- the pages of 000 and 004, or those of 004 and 001
abbrev pub is_on : Interface → ℕ → Bool
is_on Newer k = ltb k kind_count || leb rest_kind k
is_on Older k = leb safety_kind k && ltb k rest_kind

-- a row that is found, where its message is one of the interface's
abbrev pub found_on : Interface → Option ℕ → Option ℕ
found_on iface (Some i) = cond (is_on iface (row_at i).kind) (Some i) None
found_on iface None = None

-- the first row with an identifier of this form, on an interface
abbrev pub with_id : Interface → ℕ → Bool → Option ℕ
with_id iface i x = found_on iface (first_at (has_id i x) 0 rows)

-- message k of the interface has the identifier i, in the form x
pub record Has (iface : Interface) (i : ℕ) (x : Bool) (k : ℕ) : Type 0 where
  pub listed : Listed i x k
  pub own : is_on iface k ≡ true
