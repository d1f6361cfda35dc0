-- A kind's place is one of the post's.
use Prim.Native.Nat.{ℕ, ◌+◌, ◌-◌, ◌<◌, ◌≤◌}
use native.Mathlib.Omega.{arith}
use mathlib.Core.Path.{◌≡◌}
use mathlib.Core.Logic.{◌⊎◌, inl, inr}
use borrow.Author.Tests.{lt-ltb, le-ltb}
use Rattle.signal.proofs.Complement.{half_of}
use Rattle.page_table.specs.Messages.{message_count}
use Rattle.older_types.specs.message_types.specs.KindNumbers.{safety_control_kind, sequence_kind}
use Rattle.older_types.specs.KindNumbers as older
use Rattle.rule_pages.specs.Places.{place_count, place_by}

-- of 000's base messages and 004, of 001's first nine, of its other nine, and of the rest of 000's
abbrev Cases : ℕ → Type 0
Cases k =
    ((k < older.status_kind) × (place_by k ≡ k))
    ⊎ (((older.status_kind ≤ k) × (k < older.stop_kind) × (place_by k ≡ k - older.status_kind)) ⊎ (((older.stop_kind ≤ k) × (k < sequence_kind) × (place_by k ≡ k - safety_control_kind)) ⊎ ((sequence_kind ≤ k) × (place_by k ≡ older.status_kind + (k - sequence_kind)))))

cases : (k : ℕ) → Cases k
unfolding place_by
cases k = go (half_of older.status_kind k) (half_of older.stop_kind k) (half_of sequence_kind k)
  where
    go : (k < older.status_kind) ⊎ (older.status_kind ≤ k) → (k < older.stop_kind) ⊎ (older.stop_kind ≤ k) → (k < sequence_kind) ⊎ (sequence_kind ≤ k) → Cases k
    go (inl l) x y = inl (l, rw (lt-ltb k older.status_kind l))
    go (inr l) (inl m) y = inr (inl (l, m, rw (le-ltb k older.status_kind l, lt-ltb k older.stop_kind m)))
    go (inr l) (inr m) (inl n) = inr (inr (inl (m, n, rw (le-ltb k older.status_kind l, le-ltb k older.stop_kind m, lt-ltb k sequence_kind n))))
    go (inr l) (inr m) (inr n) = inr (inr (inr (n, rw (le-ltb k older.status_kind l, le-ltb k older.stop_kind m, le-ltb k sequence_kind n))))

pub place_small : (k : ℕ) → k < message_count → place_by k < place_count
place_small k l = go (cases k)
  where
    go : Cases k → place_by k < place_count
    go (inl c) = omega (arith, c.0, c.1)
    go (inr (inl c)) = omega (arith, c.0, c.1, c.2)
    go (inr (inr (inl c))) = omega (arith, c.0, c.1, c.2)
    go (inr (inr (inr c))) = omega (arith, c.0, c.1)
