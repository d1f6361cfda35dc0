-- 02, Req 01: its worked example, and both sides of each edge, computed.
use Rattle.std.specs.Prelude.{◌≡◌, refl, true, false, List, [], ◌∷◌, map, ℕ}
use Rattle.refusals.specs.declared.Refusal.TheVariants.{IllNumber, LogChannel, LogStandard, LogExtended, LogLength, LogTick}
use Rattle.log_numbers.specs.Number.{groups, read_groups}
use Rattle.log_records.specs.Record.{tick, frame, record_bytes}
use Rattle.log_records.specs.Reading.{length_part, identifier_part, channel_part, time_part, record_at, read_from, log_of, Log, ends, then, clean, piece, refused}

-- "Time 300, channel 2, extended 0x6b000, payload 01 is AC 02 02 81 C0 35 01 01."
pub worked : record_bytes (frame 300 2 true 438272 (1 ∷ [])) ≡ 172 ∷ 2 ∷ 2 ∷ 129 ∷ 192 ∷ 53 ∷ 1 ∷ 1 ∷ []
unfolding record_bytes groups
worked = refl

-- bytes, and what they read as
abbrev pub edges : List (List ℕ × Log)
edges =
    (172 ∷ 2 ∷ 2 ∷ 129 ∷ 192 ∷ 53 ∷ 1 ∷ 1 ∷ [], then (frame 300 2 true 438272 (1 ∷ [])) (ends clean))
    -- two ticks and a piece of a third record
    ∷ (172 ∷ 2 ∷ 2 ∷ 0 ∷ 9 ∷ 172 ∷ 2 ∷ 3 ∷ 0 ∷ 9 ∷ 172 ∷ [], then (tick 300 2) (then (tick 300 3) (ends (piece 10))))
    -- the largest time, of five groups and 32 bits; one more; a fifth group with its high bit set; 0 in two groups
    ∷ (255 ∷ 255 ∷ 255 ∷ 255 ∷ 15 ∷ 0 ∷ 0 ∷ 9 ∷ [], then (tick 4294967295 0) (ends clean))
    ∷ (128 ∷ 128 ∷ 128 ∷ 128 ∷ 16 ∷ 0 ∷ 0 ∷ 9 ∷ [], ends (refused IllNumber 0))
    ∷ (128 ∷ 128 ∷ 128 ∷ 128 ∷ 129 ∷ [], ends (refused IllNumber 0))
    ∷ (128 ∷ 0 ∷ 0 ∷ 0 ∷ 9 ∷ [], ends (refused IllNumber 0))
    -- channel 31 and 32, the latter before a cut and behind a whole record
    ∷ (0 ∷ 31 ∷ 0 ∷ 9 ∷ [], then (tick 0 31) (ends clean))
    ∷ (0 ∷ 31 ∷ 0 ∷ 9 ∷ 0 ∷ 32 ∷ [], then (tick 0 31) (ends (refused LogChannel 4)))
    -- standard identifier 2,047 and 2,048, extended 2^29 - 1 and 2^29
    ∷ (0 ∷ 0 ∷ 254 ∷ 31 ∷ 0 ∷ [], then (frame 0 0 false 2047 []) (ends clean))
    ∷ (0 ∷ 0 ∷ 128 ∷ 32 ∷ [], ends (refused LogStandard 0))
    ∷ (0 ∷ 0 ∷ 255 ∷ 255 ∷ 255 ∷ 255 ∷ 3 ∷ 0 ∷ [], then (frame 0 0 true 536870911 []) (ends clean))
    ∷ (0 ∷ 0 ∷ 129 ∷ 128 ∷ 128 ∷ 128 ∷ 4 ∷ [], ends (refused LogExtended 0))
    -- length 8, 9 with identifier part 1, and 10 with no payload behind it
    ∷ (0 ∷ 0 ∷ 0 ∷ 8 ∷ 1 ∷ 2 ∷ 3 ∷ 4 ∷ 5 ∷ 6 ∷ 7 ∷ 8 ∷ [], then (frame 0 0 false 0 (1 ∷ 2 ∷ 3 ∷ 4 ∷ 5 ∷ 6 ∷ 7 ∷ 8 ∷ [])) (ends clean))
    ∷ (0 ∷ 0 ∷ 1 ∷ 9 ∷ [], ends (refused LogTick 0))
    ∷ (0 ∷ 0 ∷ 0 ∷ 10 ∷ [], ends (refused LogLength 0))
    -- a payload that lacks a byte
    ∷ (0 ∷ 0 ∷ 0 ∷ 2 ∷ 1 ∷ [], ends (piece 0))
    ∷ []

pub readings : map (λ e. log_of e.0) edges ≡ map (λ e. e.1) edges
unfolding read_from record_at time_part channel_part identifier_part length_part read_groups
readings = refl
