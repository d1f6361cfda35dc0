-- A tick leaves what a look back over the session finds.
use Prim.Native.Nat.{ℕ}
use native.Mathlib.Omega.{arith}
use mathlib.Core.Path.{◌≡◌, refl}
use mathlib.Core.List.{[], ◌∷◌}
use mathlib.Core.Option.{Option, none, some}
use Rattle.rule_pages.specs.declared.Role.{Role}
use Rattle.rules.specs.History.{tick, History, Said, first, newest, oldest, only_if, after_oldest, asked, opening_of, finished_of, since_newest, since_finished, opening, in_session}

first_none : (o : Option Said) → first o none ≡ o
first_none none = refl
first_none (some a) = refl

pub opening_tick : (t : ℕ) (h : History) → opening (tick t ∷ h) ≡ opening h
unfolding opening since_finished
opening_tick t h = first_none (oldest opening_of (since_newest finished_of h))

none_after_none : (h : History) → oldest opening_of h ≡ none → after_oldest opening_of h ≡ []
none_after_none [] q = refl
none_after_none (e ∷ h) q = go (oldest opening_of h) q
  where
    go : (o : Option Said) → first o (opening_of e) ≡ none → only_if o (e ∷ after_oldest opening_of h) ≡ []
    go none r = refl
    go (some a) r = absurd (let z : ◌≡◌ {A = ℕ} 0 1 = cc in let y : ⊥ = omega (arith, z) in y)

pub in_session_tick : (r : Role) (t : ℕ) (h : History) → newest (asked r) (in_session (tick t ∷ h)) ≡ newest (asked r) (in_session h)
unfolding in_session since_finished
in_session_tick r t h = go (oldest opening_of (since_newest finished_of h)) refl
  where
    go : (o : Option Said) → oldest opening_of (since_newest finished_of h) ≡ o
        → newest (asked r) (only_if o (tick t ∷ after_oldest opening_of (since_newest finished_of h))) ≡ newest (asked r) (after_oldest opening_of (since_newest finished_of h))
    go none q = rw (none_after_none (since_newest finished_of h) q)
    go (some a) q = refl
