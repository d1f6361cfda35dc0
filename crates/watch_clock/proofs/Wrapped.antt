-- The wrapped difference: the one number below 2^32 that added to the earlier time makes the later one, as received.
use Prim.Native.Nat.{ℕ, ◌+◌, ◌<◌}
use native.Mathlib.Omega.{arith}
use mathlib.Core.Path.{◌≡◌, sym, ap, ◌∙◌}
use Rattle.rules.specs.Times.{received_of, wrapped}
use Rattle.watch_clock.specs.Moved.{on_clock}

low_add : (a b n : ℕ) → received_of a ≡ received_of b → received_of (a + n) ≡ received_of (b + n)
low_add a b n same = omega (arith, same)

pub wrapped_to : (t s : ℕ) → wrapped (received_of t) s ≡ wrapped t s
wrapped_to t s = omega arith

pub wrapped_from : (t s : ℕ) → wrapped t (received_of s) ≡ wrapped t s
wrapped_from t s = omega arith

pub wrapped_low : (t s : ℕ) → wrapped t s < 4294967296
wrapped_low t s = omega arith

pub wrapped_adds : (t s : ℕ) → received_of (s + wrapped t s) ≡ received_of t
wrapped_adds t s = omega arith

pub wrapped_sum : (s n : ℕ) → n < 4294967296 → wrapped (s + n) s ≡ n
wrapped_sum s n low = omega (arith, low)

pub wrapped_only : (t s n : ℕ) → n < 4294967296 → received_of (s + n) ≡ received_of t → wrapped t s ≡ n
wrapped_only t s n low at =
    sym (wrapped_to t s) ∙ ap (λ (x : ℕ). wrapped x s) (sym at) ∙ wrapped_to (s + n) s ∙ wrapped_sum s n low

-- ---- by a clock that is moved by d

module _ (d : ℕ) where
  clock-low : (t : ℕ) → received_of (on_clock d t) ≡ received_of (t + d)
  clock-low t = omega arith

  -- to a time r of which the moved clock shows what the other shows of s
  pub wrapped_on : (t s r : ℕ) → received_of r ≡ on_clock d s → wrapped (on_clock d t) r ≡ wrapped t s
  wrapped_on t s r at = wrapped_only (on_clock d t) r (wrapped t s) (wrapped_low t s) (there (wrapped t s) (wrapped_adds t s))
    where
      there : (n : ℕ) → received_of (s + n) ≡ received_of t → received_of (r + n) ≡ received_of (on_clock d t)
      there n adds =
          low_add r (s + d) n (at ∙ low s) ∙ ap received_of (swap n) ∙ low_add (s + n) t d adds ∙ sym (clock-low t)
        where
          low : (x : ℕ) → on_clock d x ≡ received_of (x + d)
          low x = omega arith

          swap : (n : ℕ) → s + d + n ≡ s + n + d
          swap n = omega arith

  pub wrapped_moved : (t s : ℕ) → wrapped (on_clock d t) (on_clock d s) ≡ wrapped t s
  wrapped_moved t s = wrapped_on t s (on_clock d s) (again s)
    where
      again : (x : ℕ) → received_of (on_clock d x) ≡ on_clock d x
      again x = omega arith
