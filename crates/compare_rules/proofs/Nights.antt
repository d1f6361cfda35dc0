-- The laws of a comparison on two lists of records: a frame and three ticks against a tick and another frame, on channels 0 and 1.
use Prim.Native.Nat.{◌≤◌, min}
use native.Mathlib.Omega.{arith}
use mathlib.Core.Path.{◌≡◌, refl}
use mathlib.Core.Bool.{true}
use mathlib.Core.List.{List, [], ◌∷◌}
use lib.ListN.{length, get_or}
use Rattle.log_records.specs.Record.{Rec, tick, frame, AllLoggable, record_bytes}
use Rattle.compare_rules.specs.Records.{same, same_bytes}
use Rattle.compare_rules.specs.Surplus.{count_of, surplus_from, surplus_of, taken_out, Stands, Ascends}
use Rattle.compare_rules.specs.Places.{on_channel, differ, place_on, places_from, places_of, SameOnEach, NothingFound}
use Rattle.compare_rules.proofs.Sames.{rec_refl, rec_same, by_bytes}
use Rattle.compare_rules.proofs.Lists.{listed_surplus, surplus_listed, ascends, few_listed}
use Rattle.compare_rules.proofs.Remains.{smaller, same_left}
use Rattle.compare_rules.proofs.Differs.{none_place, place_none, places_swap, nowhere}
use Rattle.compare_rules.proofs.Firsts.{FirstApart, place_first, first_place, place_of_channel}
use Rattle.compare_rules.proofs.Nothing.{nothing, nothing_found, found_nothing, no_place, as_often}

-- a tick at 300 on channel 0, and two frames of Advantics_Controller_Status on channel 1
abbrev pub t : Rec
t = tick 300 0

abbrev pub f : Rec
f = frame 300 1 true 438272 (1 ∷ [])

abbrev pub g : Rec
g = frame 300 1 true 438272 (2 ∷ [])

abbrev pub own : List Rec
own = f ∷ t ∷ t ∷ t ∷ []

abbrev pub other : List Rec
other = t ∷ g ∷ []

-- the frames differ in a payload byte, and so do their bytes
pub night_frames : same_bytes (record_bytes f) (record_bytes g) ≡ same f g
night_frames = by_bytes f g (omega arith, omega arith, omega arith, omega arith) (omega arith, omega arith, omega arith, omega arith)

pub night_equal : t ≡ t
night_equal = rec_same t t (rec_refl t)

-- the third tick is the fourth record: two of the three are surplus, and it is one of them
pub night_stands : Stands 4 (surplus_of own other)
unfolding count_of same same_bytes
night_stands = surplus_listed own other 4 (omega arith, omega arith, omega arith)

-- the first tick, the second record, is not
pub night_kept : Stands 2 (surplus_of own other) → ⊥
unfolding count_of same same_bytes
night_kept h = omega (arith, (listed_surplus own other 2 h).2)

pub night_ascends : Ascends 0 (surplus_of own other)
night_ascends = ascends own other

pub night_few : length (surplus_of own other) ≤ 4
night_few = few_listed own other

-- of three ticks and one, one stays
pub night_smaller : count_of t (taken_out (surplus_of own other) 0 own) ≡ min (count_of t own) (count_of t other)
night_smaller = smaller own other t

-- one tick is left in both, and neither frame
pub night_left : count_of t (taken_out (surplus_of own other) 0 own) ≡ count_of t (taken_out (surplus_of other own) 0 other)
night_left = same_left own other t

-- on channel 0 the shorter sequence ends behind the first tick, and on channel 1 the first records differ
pub night_places : FirstApart 1 (on_channel 0 own) (on_channel 0 other) × FirstApart 0 (on_channel 1 own) (on_channel 1 other)
unfolding differ on_channel same same_bytes
night_places = (place_first 0 1 own other refl, place_first 1 0 own other refl)

-- and these say where the places are
pub night_firsts : (place_on 0 own other ≡ 2) × (place_on 1 own other ≡ 1)
night_firsts = (first_place 0 1 own other night_places.0, first_place 1 0 own other night_places.1)

pub night_place : get_or (places_of own other) 1 0 ≡ place_on 1 own other
night_place = place_of_channel own other 1 (omega arith)

pub night_swap : places_of own other ≡ places_of other own
night_swap = places_swap own other

-- channel 2 has no record in either
pub night_none : place_on 2 own other ≡ 0
unfolding on_channel
night_none = none_place 2 own other refl

pub night_none_back : on_channel 2 own ≡ on_channel 2 other
night_none_back = place_none 2 own other night_none

-- a log against itself
pub night_nowhere : place_on 0 own own ≡ 0
night_nowhere = nowhere 0 own

pub night_same : surplus_of own own ≡ []
night_same = nothing own

-- ---- another order across channels

abbrev mixed : List Rec
mixed = t ∷ f ∷ t ∷ t ∷ []

loggable_own : AllLoggable own
loggable_own = ((omega arith, omega arith, omega arith, omega arith), ((omega arith, omega arith), ((omega arith, omega arith), ((omega arith, omega arith), tt))))

loggable_mixed : AllLoggable mixed
loggable_mixed = ((omega arith, omega arith), ((omega arith, omega arith, omega arith, omega arith), ((omega arith, omega arith), ((omega arith, omega arith), tt))))

pub night_order : SameOnEach own mixed
unfolding surplus_from count_of same same_bytes places_from differ on_channel
night_order = found_nothing own mixed loggable_own loggable_mixed (refl, refl, refl)

pub night_nothing : NothingFound own mixed
night_nothing = nothing_found own mixed loggable_own loggable_mixed night_order

pub night_alone : SameOnEach own mixed
night_alone = no_place own mixed loggable_own loggable_mixed night_nothing.2

pub night_often : count_of t own ≡ count_of t mixed
night_often = as_often own mixed loggable_own loggable_mixed night_order t (omega arith)
