-- 02, Req 12: "the record differs only in its latest time, ages and tallies". A record but for these: nothing stands for the latest time,
-- 0 for each age and for the count of what was accepted, and no tallies. The times of messages, as they were received, stay.
use Rattle.std.specs.Prelude.{Option, Some, None, ℕ, ◌+◌, List, [], ◌∷◌, map}
use Rattle.rules.specs.declared.Dated.{Dated}
use Rattle.rules.specs.declared.Dated.TheVariants as dated
use Rattle.rules.specs.SessionPart.{SessionPart}
use Rattle.rules.specs.declared.Record.{Record}

abbrev pub ageless : Dated → Dated
ageless (dated.At t age m) = dated.At t 0 m
ageless (dated.OlderAt t age m) = dated.OlderAt t 0 m

abbrev pub ageless_latest : Option Dated → Option Dated
ageless_latest None = None
ageless_latest (Some d) = Some (ageless d)

abbrev pub ageless_part : SessionPart → SessionPart
ageless_part None = None
ageless_part (Some s) = Some (record { since = s.since; age = 0; protocol = s.protocol; plug = s.plug })

unfoldable pub unticked : Record → Record
unticked r =
    record {
      channel = r.channel;
      limits = r.limits;
      last = None;
      latest = map ageless_latest r.latest;
      session = ageless_part r.session;
      kept = map ageless_latest r.kept;
      accepted = 0;
      tallies = [];
    }

-- tallies with others added, each to its own
abbrev pub plus : List ℕ → List ℕ → List ℕ
plus [] l = []
plus (x ∷ k) [] = x ∷ k
plus (x ∷ k) (y ∷ l) = (x + y) ∷ plus k l
