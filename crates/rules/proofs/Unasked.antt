-- 02, Req 04 and 14: "raise only F1 and F2". An event of a kind that none of F3 to F12 asks for has none of them, whatever came before it,
-- whenever it comes and whatever it says. 02, Req 11: a command of the older interface has none of F3, F6 and F7.
use Prim.Native.Nat.{ℕ, ◌+◌, ◌<◌, ◌≤◌}
use native.Mathlib.Omega.{arith}
use mathlib.Core.Path.{◌≡◌, refl}
use mathlib.Core.List.{[], ◌∷◌}
use mathlib.Core.Bool.{false}
use mathlib.Core.Option.{none}
use lib.Dec.{eqb}
use borrow.Author.Tests.{ne_eqb}
use Rattle.older_types.specs.message_types.specs.KindNumbers as newer
use Rattle.older_types.specs.message_types.specs.KindNumbers.{safety_control_kind, safety_state_kind, probes_kind, sequence_kind}
use Rattle.older_types.specs.KindNumbers as older
use Rattle.rule_limits.specs.declared.PlainLimits.{PlainLimits}
use Rattle.rule_pages.specs.declared.Role.{Role}
use Rattle.rule_pages.specs.declared.Role.TheVariants.{Other, Status, Limits, Controller, Opening, Command, Finished, Stop}
use Rattle.rule_pages.specs.Roles.{role_of}
use Rattle.rules.specs.History.{Event, frame, History, status_of, command_of, opening_of, finished_of}
use Rattle.rule_asks.specs.Judgements.{bit}
use Rattle.rules.specs.Rules.{f1, f2, f3, f4, f5, f6, f7, f8, f9, f10, f11, f12, found, bits_from, findings01}

-- F3 to F12 ask for Power_Modules_Status, New_Charge_Session, DC_Power_Control or Charge_Session_Finished
abbrev pub Unasked : Event → Type 0
Unasked e = (status_of e ≡ none) × (opening_of e ≡ none) × (command_of e ≡ none) × (finished_of e ≡ none)

-- what a frame is that none of them asks for
abbrev pub Quiet : Role → Type 0
Quiet Other = Unit {0}
Quiet Limits = Unit {0}
Quiet Controller = Unit {0}
Quiet Stop = Unit {0}
Quiet Status = ⊥
Quiet Opening = ⊥
Quiet Command = ⊥
Quiet Finished = ⊥

pub unasked_frame : (t k raw : ℕ) (r : Role) → role_of k ≡ r → Quiet r → Unasked (frame t k raw)
unasked_frame t k raw Other e q = (rw e, rw e, rw e, rw e)
unasked_frame t k raw Limits e q = (rw e, rw e, rw e, rw e)
unasked_frame t k raw Controller e q = (rw e, rw e, rw e, rw e)
unasked_frame t k raw Stop e q = (rw e, rw e, rw e, rw e)
unasked_frame t k raw Status e q = absurd q
unasked_frame t k raw Opening e q = absurd q
unasked_frame t k raw Command e q = absurd q
unasked_frame t k raw Finished e q = absurd q

-- of the rules that ask for a message
abbrev pub message_bits : PlainLimits → History → Event → ℕ
message_bits lim h e = bits_from 4 (found (f3 ∷ f4 ∷ f5 ∷ f6 ∷ f7 ∷ f8 ∷ f9 ∷ f10 ∷ f11 ∷ f12 ∷ []) lim h e)

module _ (lim : PlainLimits) (h : History) (e : Event) (un : Unasked e) where
  pub not_found_lem : (f3 lim h e ≡ false) × (f4 lim h e ≡ false) × (f5 lim h e ≡ false) × (f6 lim h e ≡ false) × (f7 lim h e ≡ false) × (f8 lim h e ≡ false) × (f9 lim h e ≡ false) × (f10 lim h e ≡ false) × (f11 lim h e ≡ false)
      × (f12 lim h e ≡ false)
  unfolding f3 f4 f5 f6 f7 f8 f9 f10 f11 f12
  not_found_lem = (rw un.2, rw un.2, rw un.2, rw un.2, rw un.2, rw un.0, rw un.0, rw un.1, rw un.3, rw un.2)

  pub no_bits : message_bits lim h e ≡ 0
  no_bits = let n = not_found_lem in rw (n.0, n.1, n.2, n.3, n.4, n.5, n.6, n.7, n.8, n.9)

  pub only_f1_f2 : findings01 lim h e ≡ bit (f1 lim h e) 1 + bit (f2 lim h e) 2
  unfolding findings01
  only_f1_f2 = omega (arith, no_bits)

-- ChargeControl1, ChargeState1 and PT1000State
pub safety_roles : (role_of safety_control_kind ≡ Other) × (role_of safety_state_kind ≡ Other) × (role_of probes_kind ≡ Other)
unfolding role_of
safety_roles = (refl, refl, refl)

pub quiet_frames : (lim : PlainLimits) (h : History) (t k raw : ℕ) → role_of k ≡ Other
    → findings01 lim h (frame t k raw) ≡ bit (f1 lim h (frame t k raw)) 1 + bit (f2 lim h (frame t k raw)) 2
quiet_frames lim h t k raw e = only_f1_f2 lim h (frame t k raw) (unasked_frame t k raw Other e tt)

-- the rest of 000's, from Sequence_Control on: their kinds stand behind every kind that a rule asks for
module _ (k : ℕ) (rest : sequence_kind ≤ k) where
  not-asked : (j : ℕ) → j < sequence_kind → eqb k j ≡ false
  not-asked j low = ne_eqb k j (λ e. let z : ⊥ = omega arith in z)

  pub rest_roles : role_of k ≡ Other
  unfolding role_of
  rest_roles =
      rw (
        not-asked newer.status_kind (omega arith),
        not-asked newer.parameters_kind (omega arith),
        not-asked newer.controller_kind (omega arith),
        not-asked newer.session_kind (omega arith),
        not-asked newer.control_kind (omega arith),
        not-asked newer.finished_kind (omega arith),
        not-asked newer.stop_kind (omega arith),
        not-asked older.status_kind (omega arith),
        not-asked older.limits_kind (omega arith),
        not-asked older.controller_kind (omega arith),
        not-asked older.session_kind (omega arith),
        not-asked older.insulation_kind (omega arith),
        not-asked older.precharge_kind (omega arith),
        not-asked older.charging_kind (omega arith),
        not-asked older.finished_kind (omega arith),
        not-asked older.stop_kind (omega arith),
      )

-- THEOREM: a frame of the rest of 000's raises only F1 and F2
pub rest_frames : (lim : PlainLimits) (h : History) (t k raw : ℕ) → sequence_kind ≤ k
    → findings01 lim h (frame t k raw) ≡ bit (f1 lim h (frame t k raw)) 1 + bit (f2 lim h (frame t k raw)) 2
rest_frames lim h t k raw rest = quiet_frames lim h t k raw (rest_roles k rest)
