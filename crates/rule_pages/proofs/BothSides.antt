-- 02, Req 11 and 14 on both sides of each point: what a frame of 001, and an Emergency_Stop of either, says to the rules, closed by computing.
use mathlib.Core.Path.{◌≡◌, refl}
use Rattle.signal.specs.Signal.{get_bits}
use Rattle.signal.specs.Twos.{to_signed}
use Rattle.page_table.specs.Table.{rows, of_kind}
use Rattle.page_write.specs.Raws.{wholes_of, pad, raws_of}
use Rattle.older_types.specs.message_types.specs.declared.PowerFunction.TheVariants.{InsulationTest, Precharge, PowerTransfer}
use Rattle.older_types.specs.message_types.specs.KindNumbers as newer
use Rattle.older_types.specs.KindNumbers as older
use Rattle.rule_pages.specs.declared.Role.TheVariants.{Other, Status, Limits, Controller, Opening, Command, Finished, Stop}
use Rattle.rule_pages.specs.Roles.{role_of}
use Rattle.rule_pages.specs.Said.{limits_in, limits_by, command_by}
use Rattle.rule_pages.specs.Places.{place_count, place_by}

-- the nine messages of 001 that a rule asks for, and two that none does; Emergency_Stop by the pages of 000, and the messages beside it there
pub roles : (role_of older.status_kind ≡ Status) × (role_of older.limits_kind ≡ Limits) × (role_of older.controller_kind ≡ Controller) × (role_of older.session_kind ≡ Opening)
    × (role_of older.insulation_kind ≡ Command) × (role_of older.precharge_kind ≡ Command) × (role_of older.charging_kind ≡ Command) × (role_of older.finished_kind ≡ Finished)
    × (role_of older.stop_kind ≡ Stop) × (role_of older.change_kind ≡ Other) × (role_of older.sequence_kind ≡ Other)
    × (role_of newer.stop_kind ≡ Stop) × (role_of newer.finished_kind ≡ Finished) × (role_of newer.id_kind ≡ Other)
unfolding role_of
roles = (refl, refl, refl, refl, refl, refl, refl, refl, refl, refl, refl, refl, refl, refl)

-- "Charging_Loop counts as power transfer also at 0 V and 0 A", and no number of it is a target
pub functions : ((command_by older.insulation_kind 0).function ≡ InsulationTest) × ((command_by older.precharge_kind 0).function ≡ Precharge)
    × ((command_by older.charging_kind 0).function ≡ PowerTransfer) × ((command_by older.charging_kind 0xFFFF).function ≡ PowerTransfer) × ((command_by older.charging_kind 0xFFFF).target ≡ 0)
unfolding command_by
functions = (refl, refl, refl, refl, refl)

-- Maximum_Current 40.0 A, 0 and -0.1 A; Maximum_Voltage 400.0 V
pub told : ((limits_by older.limits_kind 0x01900FA0).charge ≡ 400) × ((limits_by older.limits_kind 0x0FA0).charge ≡ 0) × ((limits_by older.limits_kind 0xFFFF0FA0).charge ≡ 0)
    × ((limits_by older.limits_kind 0x01900FA0).voltage ≡ 4000) × ((limits_by older.limits_kind 0x01900FA0).discharge ≡ 0)
unfolding limits_by limits_in rows of_kind wholes_of pad raws_of get_bits to_signed
told = (refl, refl, refl, refl, refl)

-- the first of 001 at 000's first place, the last at 20; the rest of 000's behind 004's, to the last place; behind the kinds nothing has a place
pub places : (place_by newer.probes_kind ≡ 11) × (place_by older.status_kind ≡ 0) × (place_by older.charging_kind ≡ 8) × (place_by older.stop_kind ≡ 12) × (place_by older.mcs_kind ≡ 20)
    × (place_by newer.sequence_kind ≡ 12) × (place_by newer.ocpp_kind ≡ 24) × (place_by newer.message_count ≡ place_count)
unfolding place_by
places = (refl, refl, refl, refl, refl, refl, refl, refl)
