-- The messages of document 000 about the vehicle and OCPP_Control, each of its signals' raw numbers in the table's order.
use Rattle.std.specs.Prelude.{ℕ, ℤ}
use Rattle.message_types.specs.declared.EvInformationBattery.{EvInformationBattery}
use Rattle.message_types.specs.declared.EvInformationVoltages.{EvInformationVoltages}
use Rattle.message_types.specs.declared.EvInformationLimits.{EvInformationLimits}
use Rattle.message_types.specs.declared.EvInformationEnergy.{EvInformationEnergy}
use Rattle.message_types.specs.declared.OcppControl.{OcppControl}
use Rattle.message_fields.specs.Fields.{byte_of, word_of, short_of}

abbrev pub battery_of : (ℕ → ℤ) → EvInformationBattery
battery_of f = record { capacity = word_of (f 0); present = byte_of (f 1); minimum = byte_of (f 2); target = byte_of (f 3); maximum = byte_of (f 4) }

abbrev pub voltages_of : (ℕ → ℤ) → EvInformationVoltages
voltages_of f = record { minimum = word_of (f 0); maximum = word_of (f 1); present = word_of (f 2) }

abbrev pub limits_of : (ℕ → ℤ) → EvInformationLimits
limits_of f = record { mincurrent = word_of (f 0); maxcurrent = word_of (f 1); minpower = word_of (f 2); maxpower = word_of (f 3) }

abbrev pub energy_of : (ℕ → ℤ) → EvInformationEnergy
energy_of f = record { minimum = short_of (f 0); target = short_of (f 1); maximum = short_of (f 2) }

abbrev pub ocpp_of : (ℕ → ℤ) → OcppControl
ocpp_of f = record { target = short_of (f 0) }
