-- Reading: 01, "A message is read into one of nine kinds, each with its own fields"; of twenty-five with 02, Req 04 and Req 14.
use Rattle.std.specs.Prelude.{ℕ, Bool, List, Ok, Err}
use Rattle.page_read.specs.Judged.{Judged}
use Rattle.page_read.specs.Judge.{judge_of}
use Rattle.message_build.specs.Built.{message_of}
use Rattle.messages.specs.Reading.{Reading}

abbrev pub reading_of : Judged → Reading
reading_of (Ok (k, n)) = Ok (message_of k n)
reading_of (Err w) = Err w

unfoldable pub read_of : ℕ → Bool → List ℕ → Reading
read_of m extended bs = reading_of (judge_of m extended bs)
