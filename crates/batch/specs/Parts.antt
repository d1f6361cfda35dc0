-- Inner step: the posts of a table in two lists while a batch is fed, their heads and their latest frames; and a record over one head.
-- proofs/Joined.antt shows that it is the single call.
use Rattle.std.specs.Prelude.{List, [], ◌∷◌}
use Rattle.log_records.specs.Record.{Rec, tick, frame}
use Rattle.rule_limits.specs.declared.PlainLimits.{PlainLimits}
use Rattle.rules.specs.declared.Head.{Head}
use Rattle.rules.specs.declared.Slot.{Slot}
use Rattle.rules.specs.declared.Post.{Post}
use Rattle.watch_rules.specs.declared.Arrival.{Arrival}
use Rattle.watch_rules.specs.declared.Arrival.TheVariants.{Tick}
use Rattle.watch_rules.specs.declared.Heard.{Heard}
use Rattle.watch_rules.specs.Table.{arrival_for, heard_of}

abbrev pub arrival_in : PlainLimits → Rec → Arrival
arrival_in lim (tick time c) = Tick
arrival_in lim (frame time c x m bs) = arrival_for lim m x bs

abbrev pub heard_by : Head → Rec → Heard
heard_by h (tick time c) = heard_of h c time Tick
heard_by h (frame time c x m bs) = heard_of h c time (arrival_for h.limits m x bs)

unfoldable pub joined : List Head → List (List Slot) → List Post
joined [] ls = []
joined (h ∷ hs) [] = []
joined (h ∷ hs) (l ∷ ls) = record { head = h; latest = l } ∷ joined hs ls
