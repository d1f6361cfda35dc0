-- Which question of 01's rules a frame answers, by its kind: a page of 000, and the page of 001 that stands for it (02, Req 11).
-- A kind is of one interface alone, so that it tells by whose pages the frame was read.
use Rattle.std.specs.Prelude.{ℕ, cond, eqb}
use Rattle.older_types.specs.message_types.specs.KindNumbers as newer
use Rattle.older_types.specs.KindNumbers as older
use Rattle.rule_pages.specs.declared.Role.{Role}
use Rattle.rule_pages.specs.declared.Role.TheVariants.{Other, Status, Limits, Controller, Opening, Command, Finished, Stop}

-- 02, Req 14: an Emergency_Stop, which a session keeps. Req 11: "Insulation_Test, Precharge and Charging_Loop count as the three functions, the latest of
-- them standing for DC_Power_Control"
unfoldable pub role_of : ℕ → Role
role_of k =
    cond (eqb k newer.status_kind) Status
    (cond (eqb k newer.parameters_kind) Limits
    (cond (eqb k newer.controller_kind) Controller
    (cond (eqb k newer.session_kind) Opening
    (cond (eqb k newer.control_kind) Command
    (cond (eqb k newer.finished_kind) Finished
    (cond (eqb k newer.stop_kind) Stop
    (cond (eqb k older.status_kind) Status
    (cond (eqb k older.limits_kind) Limits
    (cond (eqb k older.controller_kind) Controller
    (cond (eqb k older.session_kind) Opening
    (cond (eqb k older.insulation_kind) Command
    (cond (eqb k older.precharge_kind) Command
    (cond (eqb k older.charging_kind) Command
    (cond (eqb k older.finished_kind) Finished
    (cond (eqb k older.stop_kind) Stop
    Other)))))))))))))))
