-- Inner steps: what the walk over a message's rows computes. The promise of Judge does not speak of them.
use Rattle.std.specs.Prelude.{ℕ, Bool, cond, ◌||◌, List, [], ◌∷◌, eqb, Option, Some, None, Result, Ok, Err}
use Rattle.signal.specs.Signal.{put_bits}
use Rattle.page_search.specs.page_table.specs.declared.Row.{Row}
use Rattle.page_read.specs.Judged.{Judged}
use Rattle.refusals.specs.declared.Refusal.TheVariants.{NoLabel, UncoveredBit}
use Rattle.page_search.specs.page_table.specs.Table.{lowest, bits_at, takes}

-- the start of the first signal that holds a number without a label
unfoldable pub offence_of : ℕ → List Row → Option ℕ
offence_of n [] = None
offence_of n (r ∷ rs) = cond (takes r.labels (bits_at n r)) (offence_of n rs) (Some r.start)

-- n with 0 in every signal
unfoldable pub cleared : List Row → ℕ → ℕ
cleared [] n = n
cleared (r ∷ rs) n = cleared rs (put_bits n (lowest r) r.width 0)

abbrev pub judged_by : ℕ → ℕ → Option ℕ → ℕ → Judged
judged_by k n (Some s) rest = Err (NoLabel s)
judged_by k n None rest = cond (eqb rest 0) (Ok (k, n)) (Err UncoveredBit)

-- by what the walk over the rows gives: that start, or what is left of n where no signal is
abbrev pub judged_rest : ℕ → ℕ → Result ℕ ℕ → Judged
judged_rest k n (Ok rest) = judged_by k n None rest
judged_rest k n (Err s) = judged_by k n (Some s) n

-- the kinds of messages with a bit that is no signal's: the three of 004, and of 001 and 000 Sequence_Control and ADM_CS_SPCC_Inputs
abbrev pub has_gaps : ℕ → Bool
has_gaps k = eqb k 9 || eqb k 10 || eqb k 11 || eqb k 14 || eqb k 27 || eqb k 30 || eqb k 39
