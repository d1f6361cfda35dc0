-- The raw number of each signal of the messages of document 000 about the vehicle and of OCPP_Control, in the table's order.
use Rattle.std.specs.Prelude.{List, [], ◌∷◌, ℤ, pos}
use Rattle.message_types.specs.declared.EvInformationBattery.{EvInformationBattery}
use Rattle.message_types.specs.declared.EvInformationVoltages.{EvInformationVoltages}
use Rattle.message_types.specs.declared.EvInformationLimits.{EvInformationLimits}
use Rattle.message_types.specs.declared.EvInformationEnergy.{EvInformationEnergy}
use Rattle.message_types.specs.declared.OcppControl.{OcppControl}

abbrev pub battery_raws : EvInformationBattery → List ℤ
battery_raws m = pos m.capacity ∷ pos m.present ∷ pos m.minimum ∷ pos m.target ∷ pos m.maximum ∷ []

abbrev pub voltages_raws : EvInformationVoltages → List ℤ
voltages_raws m = pos m.minimum ∷ pos m.maximum ∷ pos m.present ∷ []

abbrev pub limits_raws : EvInformationLimits → List ℤ
limits_raws m = pos m.mincurrent ∷ pos m.maxcurrent ∷ pos m.minpower ∷ pos m.maxpower ∷ []

abbrev pub energy_raws : EvInformationEnergy → List ℤ
energy_raws m = m.minimum ∷ m.target ∷ m.maximum ∷ []

abbrev pub ocpp_raws : OcppControl → List ℤ
ocpp_raws m = m.target ∷ []
