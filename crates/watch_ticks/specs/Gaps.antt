-- 02, Req 12: "such that both lists are accepted whole, with the same unrolled gaps between kept events".
use Rattle.std.specs.Prelude.{ℕ, ◌≡◌, List, [], ◌∷◌}
use Rattle.rules.specs.History.{Event, History, time_of}
use Rattle.rules.specs.Times.{received_of, elapsed, Unrolled}
use Rattle.watch_clock.specs.Later.{retime}
use Rattle.watch_clock.specs.Differences.{said}
use Rattle.watch_ticks.specs.Marks.{Mark, whole, without}

-- the ms from each event to the next, in unrolled times; of the first event none
abbrev pub since_last : History → ℕ → ℕ
since_last [] t = 0
since_last (e ∷ h) t = elapsed t (time_of e)

abbrev pub gaps : History → List ℕ
gaps [] = []
gaps (e ∷ h) = since_last h (time_of e) ∷ gaps h

-- an event as it came, with its time in 32 bits
abbrev pub as_received : Event → Event
as_received e = retime received_of e

-- Two marked lists, both accepted whole, with the same kept events and the same gaps between them; what is put in before the first kept event may move
-- all of the others' unrolled times alike.
pub record Alike (m n : List Mark) : Type 0 where
  pub one : Unrolled (whole m)
  pub other : Unrolled (whole n)
  pub same : said (without m) ≡ said (without n)
  pub between : gaps (without m) ≡ gaps (without n)
