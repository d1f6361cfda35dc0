-- ChargeControl1 and ChargeState1 of document 004, each of its signals' raw numbers in the table's order.
use Rattle.std.specs.Prelude.{ℕ, ℤ}
use Rattle.message_types.specs.declared.ChargeControl1.{ChargeControl1}
use Rattle.message_types.specs.declared.ChargeState1.{ChargeState1}
use Rattle.message_types.specs.Labels as label
use Rattle.message_fields.specs.Fields.{natural_of, duty_of, flag_of}

abbrev pub safety_control_of : (ℕ → ℤ) → ChargeControl1
safety_control_of f =
    record {
      duty = duty_of (f 0);
      pwm = flag_of (f 1);
      contactor1 = flag_of (f 2);
      contactor2 = flag_of (f 3);
    }

abbrev pub safety_state_of : (ℕ → ℤ) → ChargeState1
safety_state_of f =
    record {
      duty = duty_of (f 0);
      pwm = flag_of (f 1);
      cp = label.cp_of (natural_of (f 2));
      short = flag_of (f 3);
      diode = flag_of (f 4);
      pp = label.pp_of (natural_of (f 5));
      contactor1 = flag_of (f 6);
      contactor2 = flag_of (f 7);
      error1 = flag_of (f 8);
      error2 = flag_of (f 9);
      estop1 = flag_of (f 10);
      estop2 = flag_of (f 11);
      estop3 = flag_of (f 12);
      imdabort = flag_of (f 13);
      imdfailure = flag_of (f 14);
    }
