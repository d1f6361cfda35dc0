-- A post's numbers over the C interface: of the record that `watch::look_up` hands out, all but the messages.
-- Refused as `watch::look_up` refuses, with 9 and 14.
use Rattle.std.specs.Prelude.{ℕ, cond, List, [], ◌∷◌, ◌++◌, leb, length, drop, Some, None, Ok, Err}
use Rattle.refusals.specs.declared.Refusal.TheVariants.{ShortBuffer}
use Rattle.message_types.specs.Labels.{protocol_number, plug_number}
use Rattle.rules.specs.LastTime.{LastTime}
use Rattle.rules.specs.SessionPart.{SessionPart}
use Rattle.rules.specs.declared.Record.{Record}
use Rattle.page_table.specs.Interfaces.{interface_number}
use Rattle.rule_limits.specs.Sensor.{sensor_number}
use Rattle.watch_rules.specs.declared.Table.{Table}
use Rattle.watch_rules.specs.Setting.{Setting}
use Rattle.watch_rules.specs.Table.{look_up_of}
use Rattle.plain_words.specs.Words.{Outcome, answers, refuses, outcome_word}

abbrev pub number_count : ℕ
number_count = 14

-- 1 and the time, or 0 and 0
abbrev pub last_numbers : LastTime → List ℕ
last_numbers None = 0 ∷ 0 ∷ []
last_numbers (Some t) = 1 ∷ t ∷ []

-- 1, since when, first protocol, first plug and the opening's age, or five times 0
abbrev pub session_numbers : SessionPart → List ℕ
session_numbers None = 0 ∷ 0 ∷ 0 ∷ 0 ∷ 0 ∷ []
session_numbers (Some s) = 1 ∷ s.since ∷ protocol_number s.protocol ∷ plug_number s.plug ∷ s.age ∷ []

unfoldable pub numbers_of : Record → List ℕ
numbers_of r =
    r.channel ∷ r.limits.voltage ∷ r.limits.charge ∷ r.limits.discharge ∷ r.limits.silence ∷ sensor_number r.limits.sensor
    ∷ (last_numbers r.last ++ (session_numbers r.session ++ (interface_number r.limits.interface ∷ [])))

-- ---- n numbers handed out, into lent places: 8 where those are too few, and then nothing is stored. A post's counts are handed out likewise (`lent_counts`)

abbrev pub room_outcome : ℕ → ℕ → Outcome
room_outcome n places = cond (leb n places) (answers 0) (refuses ShortBuffer)

abbrev pub room_left : ℕ → List ℕ → List ℕ → List ℕ
room_left n xs ns = cond (leb n (length ns)) (xs ++ drop n ns) ns

-- by what the look-up answers
abbrev pub handed_outcome : ℕ → Setting → ℕ → Outcome
handed_outcome n (Ok tt) places = room_outcome n places
handed_outcome n (Err w) places = refuses w

abbrev pub handed_left : ℕ → Setting → List ℕ → List ℕ → List ℕ
handed_left n (Ok tt) xs ns = room_left n xs ns
handed_left n (Err w) xs ns = ns

-- ---- the post's numbers

unfoldable pub look_up_word : Table → ℕ → List ℕ → ℕ
look_up_word t i ns = outcome_word (handed_outcome number_count (look_up_of t i).answer (length ns))

unfoldable pub numbers_after : Table → ℕ → List ℕ → List ℕ
numbers_after t i ns = handed_left number_count (look_up_of t i).answer (numbers_of (look_up_of t i).shown) ns
