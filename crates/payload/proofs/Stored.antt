-- What the total answers `take 8` and `storedIn` are within their range.
-- Assumes nothing.
use mathlib.Core.Path.{◌≡◌, ap, ◌∙◌}
use mathlib.Core.Bool.{Bool, cond}
use mathlib.Core.List.{List, ◌++◌, append-nil}
use Prim.Native.Nat.{ℕ, ◌≤◌, ◌<◌}
use native.Mathlib.Nat.{le_refl}
use lib.ListN.{length, take, drop}
use lib.Seq.{take_all, drop-length}
use borrow.Author.Tests.{le-leb, lt-leb}
use Rattle.payload.specs.Payload.{number_of, bytes_of, stored_in}

pub number_in : (big : Bool) (bs : List ℕ) → length bs ≤ 8 → number_of big (take 8 bs) ≡ number_of big bs
number_in big bs h = ap (number_of big) (take_all 8 bs h)

pub stored_in_lem : (big : Bool) (k n : ℕ) (buf : List ℕ) → k ≤ length buf → stored_in big k n buf ≡ bytes_of big k n ++ drop k buf
unfolding stored_in
stored_in_lem big k n buf h = ap (λ (b : Bool). cond b (bytes_of big k n ++ drop k buf) buf) (le-leb k (length buf) h)

pub stored_not : (big : Bool) (k n : ℕ) (buf : List ℕ) → length buf < k → stored_in big k n buf ≡ buf
unfolding stored_in
stored_not big k n buf h = ap (λ (b : Bool). cond b (bytes_of big k n ++ drop k buf) buf) (lt-leb k (length buf) h)

-- a buffer that is filled
pub stored_all : (big : Bool) (bs : List ℕ) (n : ℕ) → stored_in big (length bs) n bs ≡ bytes_of big (length bs) n
stored_all big bs n =
    stored_in_lem big (length bs) n bs (le_refl (length bs))
    ∙ ap (λ (l : List ℕ). bytes_of big (length bs) n ++ l) (drop-length bs)
    ∙ append-nil (bytes_of big (length bs) n)
