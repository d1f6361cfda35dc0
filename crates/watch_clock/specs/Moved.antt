-- A clock that is moved: one number added modulo 2^32 to all times of a post as received, and in requests a number for each channel.
use Rattle.std.specs.Prelude.{ℕ, ◌+◌, List, [], ◌∷◌, map}
use Rattle.rules.specs.History.{History}
use Rattle.rules.specs.Times.{received_of, stamp_of}
use Rattle.watch_rules.specs.declared.LookedUp.{LookedUp}
use Rattle.watch_rules.specs.Steps.{Standing, free, held}
use Rattle.watch_rules.specs.Run.{Request, setUp, release, frame, tick}
use Rattle.watch_clock.specs.Later.{retime, still}

-- the time that a clock shows which is moved by d, where another shows t, both in 32 bits
abbrev pub on_clock : ℕ → ℕ → ℕ
on_clock d t = received_of (received_of t + d)

-- the history of a post that received each event by such a clock
abbrev pub moved : ℕ → History → History
moved d [] = []
moved d (e ∷ h) = retime (λ t. stamp_of (moved d h) (on_clock d t)) e ∷ moved d h

-- ---- each channel's clock is moved by a number of its own

abbrev pub moved_standing : (ℕ → ℕ) → Standing → Standing
moved_standing by free = free
moved_standing by (held c lim h) = held c lim (moved (by c) h)

abbrev pub moved_request : (ℕ → ℕ) → Request → Request
moved_request by (setUp i c lim) = setUp i c lim
moved_request by (release i) = release i
moved_request by (frame c t m x bs) = frame c (on_clock (by c) t) m x bs
moved_request by (tick c t) = tick c (on_clock (by c) t)

abbrev pub moved_requests : (ℕ → ℕ) → List Request → List Request
moved_requests by rs = map (moved_request by) rs

-- what a look-up shows but for the times as received
abbrev pub still_shown : LookedUp → LookedUp
still_shown l = record { answer = l.answer; shown = still l.shown }
