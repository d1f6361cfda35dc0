-- Reading: 01, "A message is read into one of nine kinds, each with its own fields"; on the older interface, of twenty-one.
use Rattle.std.specs.Prelude.{ℕ, Bool, List, Ok, Err}
use Rattle.page_table.specs.declared.Interface.TheVariants.{Older}
use Rattle.page_read.specs.Judged.{Judged}
use Rattle.page_read.specs.Judge.{judge_on}
use Rattle.older_build.specs.Built.{message_of}
use Rattle.older.specs.Reading.{Reading}

abbrev pub reading_of : Judged → Reading
reading_of (Ok (k, n)) = Ok (message_of k n)
reading_of (Err w) = Err w

unfoldable pub read_of : ℕ → Bool → List ℕ → Reading
read_of m extended bs = reading_of (judge_on Older m extended bs)
