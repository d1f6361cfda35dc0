-- The messages that document 001 lays out as 000 does, there and back at 001's kinds: by the ways of 000's, since their signals are alike. Assumes nothing.
use mathlib.Core.Path.{refl}
use Rattle.page_table.specs.Table.{rows, of_kind}
use Rattle.message_laws.proofs.Ways.{Ways, always}
use Rattle.message_laws.proofs.Alike.{alike}
use Rattle.message_types.specs.KindNumbers as newer
use Rattle.message_types.specs.declared.PowerModulesStatus.{PowerModulesStatus}
use Rattle.message_fields.specs.Fields.{has_kilohms}
use Rattle.older_types.specs.KindNumbers.{status_kind, sequence_kind, outputs_kind, change_kind, stop_kind, finished_kind, controller_kind, cui_kind, secc_kind, id_kind, spcc_kind, ccs_kind, mcs_kind}
use Rattle.message_charger.specs.message_parts.specs.Watched.{status_of}
use Rattle.message_charger.specs.Build.{controller_of, change_of, finished_of, stop_of, id_of}
use Rattle.message_inputs.specs.Build.{cui_of, secc_of}
use Rattle.message_extra.specs.Build.{spcc_of, ccs_of, mcs_of}
use Rattle.message_sequence.specs.Build.{sequence_of, outputs_of}
use Rattle.message_charger.specs.Take.{status_raws, state_raws, change_raws, finished_raws, stop_raws, id_raws}
use Rattle.message_inputs.specs.Take.{cui_raws, secc_raws}
use Rattle.message_extra.specs.Take.{spcc_raws, ccs_raws, mcs_raws}
use Rattle.message_sequence.specs.Take.{sequence_raws, outputs_raws}
use Rattle.message_charger.proofs.Ways as charger
use Rattle.message_inputs.proofs.Ways as inputs
use Rattle.message_extra.proofs.Ways as extra
use Rattle.message_sequence.proofs.Ways as sequence

pub status_ways : Ways status_kind status_raws (λ (m : PowerModulesStatus). has_kilohms m.insulation) status_of
unfolding rows of_kind
status_ways = alike newer.status_kind status_kind refl charger.status_ways

pub sequence_ways : Ways sequence_kind sequence_raws always sequence_of
unfolding rows of_kind
sequence_ways = alike newer.sequence_kind sequence_kind refl sequence.sequence_ways

pub outputs_ways : Ways outputs_kind outputs_raws always outputs_of
unfolding rows of_kind
outputs_ways = alike newer.outputs_kind outputs_kind refl sequence.outputs_ways

pub change_ways : Ways change_kind change_raws always change_of
unfolding rows of_kind
change_ways = alike newer.change_kind change_kind refl charger.change_ways

pub stop_ways : Ways stop_kind stop_raws always stop_of
unfolding rows of_kind
stop_ways = alike newer.stop_kind stop_kind refl charger.stop_ways

pub finished_ways : Ways finished_kind finished_raws always finished_of
unfolding rows of_kind
finished_ways = alike newer.finished_kind finished_kind refl charger.finished_ways

pub controller_ways : Ways controller_kind state_raws always controller_of
unfolding rows of_kind
controller_ways = alike newer.controller_kind controller_kind refl charger.controller_ways

pub cui_ways : Ways cui_kind cui_raws always cui_of
unfolding rows of_kind
cui_ways = alike newer.cui_kind cui_kind refl inputs.cui_ways

pub secc_ways : Ways secc_kind secc_raws always secc_of
unfolding rows of_kind
secc_ways = alike newer.secc_kind secc_kind refl inputs.secc_ways

pub id_ways : Ways id_kind id_raws always id_of
unfolding rows of_kind
id_ways = alike newer.id_kind id_kind refl charger.id_ways

pub spcc_ways : Ways spcc_kind spcc_raws always spcc_of
unfolding rows of_kind
spcc_ways = alike newer.spcc_kind spcc_kind refl extra.spcc_ways

pub ccs_ways : Ways ccs_kind ccs_raws always ccs_of
unfolding rows of_kind
ccs_ways = alike newer.ccs_kind ccs_kind refl extra.ccs_ways

pub mcs_ways : Ways mcs_kind mcs_raws always mcs_of
unfolding rows of_kind
mcs_ways = alike newer.mcs_kind mcs_kind refl extra.mcs_ways
