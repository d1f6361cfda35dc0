-- A post that is ticked regularly: n ticks, the first `every` ms after the time t and each as long after the one before it, whatever rounds the clock makes.
use Rattle.std.specs.Prelude.{ℕ, zero, suc, ◌+◌, ◌*◌, List, ◌∷◌}
use Rattle.rules.specs.History.{History, tick}
use Rattle.rules.specs.Times.{received_of}
use Rattle.watch_rules.specs.Run as request
use Rattle.watch_rules.specs.Run.{Request}

-- the n-th tick, in unrolled time
abbrev pub tick_time : ℕ → ℕ → ℕ → ℕ
tick_time every t n = t + n * every

-- behind a history
abbrev pub ticked : ℕ → ℕ → ℕ → History → History
ticked every t zero h = h
ticked every t (suc n) h = tick (tick_time every t (suc n)) ∷ ticked every t n h

-- and as they are handed in, on the channel c
abbrev pub tick_after : ℕ → ℕ → ℕ → ℕ → Request
tick_after c every t n = request.tick c (received_of (tick_time every t (suc n)))

abbrev pub ticked_on : ℕ → ℕ → ℕ → ℕ → List Request → List Request
ticked_on c every t zero rs = rs
ticked_on c every t (suc n) rs = tick_after c every t n ∷ ticked_on c every t n rs
