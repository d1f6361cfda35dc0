-- The raw number of each signal of ChargeControl1 and ChargeState1 of document 004, in the table's order.
use Rattle.std.specs.Prelude.{List, [], ◌∷◌, ℤ, pos}
use Rattle.message_types.specs.declared.ChargeControl1.{ChargeControl1}
use Rattle.message_types.specs.declared.ChargeState1.{ChargeState1}
use Rattle.message_types.specs.Labels.{cp_number, pp_number}
use Rattle.message_fields.specs.Fields.{flag_raw}

abbrev pub safety_control_raws : ChargeControl1 → List ℤ
safety_control_raws m = pos m.duty ∷ flag_raw m.pwm ∷ flag_raw m.contactor1 ∷ flag_raw m.contactor2 ∷ []

abbrev pub safety_state_raws : ChargeState1 → List ℤ
safety_state_raws m =
    pos m.duty ∷ flag_raw m.pwm ∷ pos (cp_number m.cp) ∷ flag_raw m.short ∷ flag_raw m.diode
    ∷ pos (pp_number m.pp) ∷ flag_raw m.contactor1 ∷ flag_raw m.contactor2 ∷ flag_raw m.error1 ∷ flag_raw m.error2
    ∷ flag_raw m.estop1 ∷ flag_raw m.estop2 ∷ flag_raw m.estop3 ∷ flag_raw m.imdabort ∷ flag_raw m.imdfailure ∷ []
