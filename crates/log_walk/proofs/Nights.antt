-- The laws of a walk on a log that was written: a frame and a tick, whole, cut in the tick and malformed, in pieces of one length and another.
use Rattle.std.proofs.Common.{◌≡◌, ℕ, false, List, [], ◌∷◌, take, refl, subst, arith}
use Rattle.refusals.specs.declared.Refusal.TheVariants.{LogChannel}
use Rattle.log_numbers.specs.Number.{read_groups}
use Rattle.log_numbers.proofs.Worked.{each_byte}
use Rattle.log_records.specs.Record.{log_bytes}
use Rattle.log_records.specs.Reading.{length_part, identifier_part, channel_part, time_part, record_at, log_of, records_in}
use Rattle.log_records.specs.Pieces.{piece_of}
use Rattle.log_read.specs.declared.Ending.TheVariants as ending
use Rattle.log_walk.specs.declared.Stand.TheVariants as stand
use Rattle.log_walk.specs.Walk.{is_short, start_of, open_by, step_of}
use Rattle.log_walk.specs.Walked.{Ended, Walked, over}
use Rattle.log_walk.proofs.Walks.{begins, walk, goes_on, left}

-- 8 bytes of a frame and 5 of a tick
abbrev night : List ℕ
night = 172 ∷ 2 ∷ 2 ∷ 129 ∷ 192 ∷ 53 ∷ 1 ∷ 1 ∷ 172 ∷ 2 ∷ 3 ∷ 0 ∷ 9 ∷ []

abbrev torn : List ℕ
torn = 172 ∷ 2 ∷ 2 ∷ 129 ∷ 192 ∷ 53 ∷ 1 ∷ 1 ∷ 172 ∷ 2 ∷ []

abbrev bad : List ℕ
bad = 172 ∷ 2 ∷ 2 ∷ 129 ∷ 192 ∷ 53 ∷ 1 ∷ 1 ∷ 0 ∷ 32 ∷ 0 ∷ 9 ∷ []

-- pieces of 10 bytes: the frame; the tick cut, and so a seam; the tick; the end
pub in_tens : over night (10 ∷ 10 ∷ 10 ∷ 10 ∷ []) (start_of 13) ≡ record { size = 13; records = 2; at = 13; from = 8; stand = stand.End }
unfolding over open_by record_at time_part channel_part identifier_part length_part read_groups
in_tens = refl

pub torn_in_tens : over torn (10 ∷ 10 ∷ []) (start_of 10) ≡ record { size = 10; records = 1; at = 8; from = 0; stand = stand.Cut }
unfolding over open_by record_at time_part channel_part identifier_part length_part read_groups
torn_in_tens = refl

-- a seam between the frame and the tick
pub torn_in_nines : over torn (9 ∷ 9 ∷ 9 ∷ []) (start_of 10) ≡ record { size = 10; records = 1; at = 8; from = 8; stand = stand.Cut }
unfolding over open_by record_at time_part channel_part identifier_part length_part read_groups
torn_in_nines = refl

-- 7 bytes hold no frame of 8
pub too_short : over torn (7 ∷ []) (start_of 10) ≡ record { size = 10; records = 0; at = 0; from = 0; stand = stand.Short }
unfolding over open_by record_at time_part channel_part identifier_part length_part read_groups
too_short = refl

pub bad_in_nines : over bad (9 ∷ 9 ∷ 9 ∷ []) (start_of 12) ≡ record { size = 12; records = 1; at = 8; from = 8; stand = stand.Bad LogChannel }
unfolding over open_by record_at time_part channel_part identifier_part length_part read_groups
bad_in_nines = refl

-- so the whole log has one record, is cut, and 8 is the byte behind its last whole record
pub torn_told : Ended torn 8 (record { records = 1; ending = ending.Cut 8 })
torn_told = (subst (Walked torn) torn_in_nines (walk torn (9 ∷ 9 ∷ 9 ∷ []) (omega arith))).5

-- the frame alone stands before that byte
pub torn_left : take 8 torn ≡ log_bytes (records_in (log_of torn))
torn_left = left torn (record { size = 10; records = 1; at = 8; from = 8; stand = stand.Cut }) (record { records = 1; ending = ending.Cut 8 }) (each_byte torn refl) torn_told

-- with room for a record the first piece is not too short, as one of 7 bytes is
pub torn_goes_on : is_short (step_of (start_of 10) (piece_of torn 0 20)).walk.stand ≡ false
torn_goes_on = goes_on torn (omega arith) 20 (start_of 10) (begins torn) (omega arith)
