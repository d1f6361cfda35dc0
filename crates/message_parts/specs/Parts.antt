-- The kinds that the session watch names, and the fields of a payload number of each.
use Rattle.std.specs.Prelude.{ℕ}
use Rattle.page_write.specs.Raws.{raws_of}
use Rattle.message_types.specs.declared.PowerModulesStatus.{PowerModulesStatus}
use Rattle.message_types.specs.declared.DcPowerParameters.{DcPowerParameters}
use Rattle.message_types.specs.declared.NewChargeSession.{NewChargeSession}
use Rattle.message_types.specs.declared.DcPowerControl.{DcPowerControl}
pub use Rattle.message_types.specs.KindNumbers.{status_kind, parameters_kind, controller_kind, session_kind, control_kind, finished_kind}
use Rattle.message_fields.specs.Fields.{at}
use Rattle.message_parts.specs.Watched.{status_of, parameters_of, session_of, control_of}

unfoldable pub status_in : ℕ → PowerModulesStatus
status_in n = status_of (at (raws_of status_kind n))

unfoldable pub parameters_in : ℕ → DcPowerParameters
parameters_in n = parameters_of (at (raws_of parameters_kind n))

unfoldable pub session_in : ℕ → NewChargeSession
session_in n = session_of (at (raws_of session_kind n))

unfoldable pub control_in : ℕ → DcPowerControl
control_in n = control_of (at (raws_of control_kind n))
