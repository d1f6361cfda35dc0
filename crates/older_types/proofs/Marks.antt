-- The label types of 001's own messages against their signals (`Label` of message_laws): by their law at 000's signal, since the signals list the same. Assumes
-- nothing.
use mathlib.Core.Path.{refl}
use Rattle.page_table.specs.Table.{rows, of_kind}
use Rattle.message_types.specs.message_laws.proofs.Labelled.{signal_at, Label, same_label}
use Rattle.message_types.specs.Labels as label
use Rattle.message_types.proofs.Marks as marks
use Rattle.older_types.specs.KindNumbers.{session_kind}

pub protocol_label : Label label.protocol_number label.protocol_of (signal_at session_kind 0)
unfolding rows of_kind
protocol_label = same_label (signal_at session_kind 0) refl refl marks.protocol_label

pub plug_label : Label label.plug_number label.plug_of (signal_at session_kind 1)
unfolding rows of_kind
plug_label = same_label (signal_at session_kind 1) refl refl marks.plug_label
