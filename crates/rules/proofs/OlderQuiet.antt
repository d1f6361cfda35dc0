-- 02, Req 11: "F3, F6 and F7 give no finding there": of a frame of 001, whatever it says, whatever came before it and whatever the post's limits are.
use Prim.Native.Nat.{ℕ, ◌≤◌}
use native.Mathlib.Omega.{arith}
use mathlib.Core.Path.{◌≡◌, refl, sym, subst}
use mathlib.Core.List.{[]}
use mathlib.Core.Bool.{Bool, true, false, cond}
use mathlib.Core.Option.{none}
use borrow.Author.Tests.{eqb-true, ne_eqb, le-ltb}
use lib.Dec.{eqb, ltb}
use Rattle.older_types.specs.KindNumbers as older
use Rattle.rule_limits.specs.declared.PlainLimits.{PlainLimits}
use Rattle.rule_asks.specs.Judgements.{lowers_badly}
use Rattle.rule_pages.specs.declared.Role.{Role}
use Rattle.rule_pages.specs.declared.Role.TheVariants.{Other, Status, Limits, Controller, Opening, Finished, Stop}
use Rattle.rule_pages.specs.Roles.{role_of}
use Rattle.rule_pages.specs.Said.{command_by}
use Rattle.rules.specs.History.{frame, History, role_number, command_of}
use Rattle.rules.specs.Rules.{f3, f6, f7}

abbrev limits : PlainLimits
limits = record { voltage = 5000; charge = 1000; discharge = 500; silence = 500; sensor = 0; interface = 1 }

-- ---- which frames of 001 are a command

abbrev Uncommanding : Role → Type 0
Uncommanding r = eqb 5 (role_number r) ≡ false

either : (b : Bool) (r s : Role) → Uncommanding r → Uncommanding s → Uncommanding (cond b r s)
either true r s p q = p
either false r s p q = q

module _ (k : ℕ) (old : 12 ≤ k) (no_test : eqb k older.insulation_kind ≡ false) (no-precharge : eqb k older.precharge_kind ≡ false) (no_loop : eqb k older.charging_kind ≡ false) where
  not-newer : (j : ℕ) → j ≤ 11 → eqb k j ≡ false
  not-newer j low = ne_eqb k j (λ e. let z : ⊥ = omega arith in z)

  no-command : Uncommanding (role_of k)
  unfolding role_of
  no-command =
      rw (
        not-newer 0 (omega arith),
        not-newer 1 (omega arith),
        not-newer 2 (omega arith),
        not-newer 3 (omega arith),
        not-newer 5 (omega arith),
        not-newer 6 (omega arith),
        not-newer 7 (omega arith),
        no_test,
        no-precharge,
        no_loop,
      )
      (either (eqb k older.status_kind) Status _ refl
      (either (eqb k older.limits_kind) Limits _ refl
      (either (eqb k older.controller_kind) Controller _ refl
      (either (eqb k older.session_kind) Opening _ refl
      (either (eqb k older.finished_kind) Finished _ refl
      (either (eqb k older.stop_kind) Stop Other refl refl))))))

-- ---- none of the three findings

module _ (lim : PlainLimits) (h : History) (t raw : ℕ) where
  abbrev Quiet : ℕ → Type 0
  Quiet k = (f3 lim h (frame t k raw) ≡ false) × (f6 lim h (frame t k raw) ≡ false) × (f7 lim h (frame t k raw) ≡ false)

  never-above : (n : ℕ) → ltb n 0 ≡ false
  never-above n = le-ltb n 0 (omega arith)

  quiet-functions : Quiet older.insulation_kind × Quiet older.precharge_kind × Quiet older.charging_kind
  unfolding f3 f6 f7 role_of command_by lowers_badly
  quiet-functions = (
    (refl, refl, simp never-above),
    (refl, refl, simp never-above),
    (refl, refl, simp never-above),
  )

  quiet-else : (k : ℕ) → 12 ≤ k → eqb k older.insulation_kind ≡ false → eqb k older.precharge_kind ≡ false → eqb k older.charging_kind ≡ false → Quiet k
  unfolding f3 f6 f7
  quiet-else k old a b c =
      let n : command_of (frame t k raw) ≡ none = rw (no-command k old a b c) in
      (rw n, rw n, rw n)

  -- THEOREM: of every message of 001
  pub older_quiet : (k : ℕ) → 12 ≤ k → Quiet k
  older_quiet k old = by_test (eqb k older.insulation_kind) (eqb k older.precharge_kind) (eqb k older.charging_kind) refl refl refl
    where
      at : (j : ℕ) → eqb k j ≡ true → Quiet j → Quiet k
      at j e q = subst Quiet (sym (eqb-true k j e)) q

      by_test : (a b c : Bool) → eqb k older.insulation_kind ≡ a → eqb k older.precharge_kind ≡ b → eqb k older.charging_kind ≡ c → Quiet k
      by_test true b c p q r = at older.insulation_kind p quiet-functions.0
      by_test false true c p q r = at older.precharge_kind q quiet-functions.1
      by_test false false true p q r = at older.charging_kind r quiet-functions.2
      by_test false false false p q r = quiet-else k old p q r

-- on a Charging_Loop at 0 V and 0 A that follows nothing
pub loop_quiet : (f3 limits [] (frame 0 older.charging_kind 0) ≡ false) × (f6 limits [] (frame 0 older.charging_kind 0) ≡ false) × (f7 limits [] (frame 0 older.charging_kind 0) ≡ false)
loop_quiet = older_quiet limits [] 0 0 older.charging_kind (omega arith)
