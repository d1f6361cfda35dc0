-- The raw whole numbers of a kind's signals, read from a payload number and written into one.
use Rattle.std.specs.Prelude.{ℕ, zero, suc, Bool, true, false, cond, ◌&&◌, List, [], ◌∷◌, length, ℤ, pos, nat_le, Ok, Err}
use Rattle.signal.specs.Signal.{put_bits}
use Rattle.page_read.specs.payload.specs.Payload.{stored_in}
use Rattle.signal.specs.Raw.{fits_in, bits_in, value_in}
use Rattle.page_read.specs.page_table.specs.declared.Row.{Row}
use Rattle.page_write.specs.Written.{Written}
use Rattle.refusals.specs.declared.Refusal.TheVariants.{NoRawNumber, ShortBuffer}
use Rattle.page_read.specs.page_table.specs.Table.{rows_of, identifier_of, length_of, big_of, lowest, bits_at, takes}
pub use Rattle.page_read.specs.page_table.specs.Table.{signal_count}

-- ---- reading

abbrev pub whole_at : ℕ → Row → ℤ
whole_at n r = value_in r.signed r.width (bits_at n r)

unfoldable pub wholes_of : ℕ → List Row → List ℤ
wholes_of n [] = []
wholes_of n (r ∷ rs) = whole_at n r ∷ wholes_of n rs

-- the first k numbers of a list, with 0 where it ends
unfoldable pub pad : ℕ → List ℤ → List ℤ
pad zero zs = []
pad (suc k) [] = pos 0 ∷ pad k []
pad (suc k) (z ∷ zs) = z ∷ pad k zs

unfoldable pub raws_of : ℕ → ℕ → List ℤ
raws_of k n = pad signal_count (wholes_of n (rows_of k))

-- ---- writing

-- each row passes a test with its number
abbrev pub all_by : (Row → ℤ → Bool) → List Row → List ℤ → Bool
all_by p [] zs = true
all_by p (r ∷ rs) [] = false
all_by p (r ∷ rs) (z ∷ zs) = p r z && all_by p rs zs

-- a raw number fits its signal, and has a label where the signal has labels
abbrev pub row_takes : Row → ℤ → Bool
row_takes r z = fits_in r.signed r.width z && takes r.labels (bits_in r.signed r.width z)

unfoldable pub all_take : List Row → List ℤ → Bool
all_take [] zs = true
all_take (r ∷ rs) [] = false
all_take (r ∷ rs) (z ∷ zs) = row_takes r z && all_take rs zs

-- each number's bits in its signal's place, and 0 elsewhere
abbrev pub put_raw : Row → ℕ → ℤ → ℕ
put_raw r n z = put_bits n (lowest r) r.width (bits_in r.signed r.width z)

unfoldable pub packed_on : ℕ → List Row → List ℤ → ℕ
packed_on n [] zs = n
packed_on n (r ∷ rs) [] = n
packed_on n (r ∷ rs) (z ∷ zs) = packed_on (put_raw r n z) rs zs

-- 7 for a number that is no kind, too: it has no signal
abbrev pub can_write : ℕ → List ℤ → Bool
can_write k zs = nat_le 1 (length (rows_of k)) && all_take (rows_of k) zs

-- 7, then 8: by whether the numbers can be written, and whether there is room for the message
abbrev pub written_by : ℕ → Bool → Bool → Written
written_by k fits room =
    cond fits
    (cond room (Ok (identifier_of k, length_of k)) (Err ShortBuffer))
    (Err NoRawNumber)

unfoldable pub write_raws_of : ℕ → List ℤ → List ℕ → Written
write_raws_of k zs buf = written_by k (can_write k zs) (nat_le (length_of k) (length buf))

-- 01: "Writing into a longer buffer changes only the message's bytes, from index 0", and a refusal nothing
unfoldable pub buffer_after : ℕ → List ℤ → List ℕ → List ℕ
buffer_after k zs buf = cond (can_write k zs) (stored_in (big_of k) (length_of k) (packed_on 0 (rows_of k) zs) buf) buf
