-- What is said of each kind of message: the table has it, with as many signals as the kind has numbers, its labels are those of its signals, and its numbers go
-- there and back (`there`, `back`), by the ways of its kind. Together they make the messages a codec over the table (`codec`). Assumes nothing.
use mathlib.Core.Path.{◌≡◌, refl, sym, ap, ◌∙◌}
use mathlib.Core.Bool.{Bool, true, false}
use mathlib.Core.List.{List}
use Prim.Native.Nat.{ℕ, ◌≤◌}
use lib.Dec.{leb, ltb, lit≤}
use lib.ListN.{length}
use lib.IntN.{ℤ}
use borrow.Author.Tests.{leb-true, ltb-true}
use Rattle.page_table.specs.declared.Interface.TheVariants.{Older}
use Rattle.page_table.specs.Messages.{rest_kind}
use Rattle.page_table.specs.Interfaces.{safety_kind, is_on}
use Rattle.page_table.proofs.Rules.{both_true}
use Rattle.page_table.specs.Table.{rows, of_kind, rows_of, identifier_of, extended_of}
use Rattle.page_read.specs.Judge.{unlabelled}
use Rattle.page_write.specs.Raws.{wholes_of, all_take}
use Rattle.message_fields.specs.Fields.{at}
use Rattle.message_laws.proofs.Fitting.{labels_at}
use Rattle.message_laws.proofs.Codec as codecs
use Rattle.message_laws.proofs.Upto.{From, done, ◌⨾◌, upto}
use Rattle.older_types.specs.declared.Message.{Message}
use Rattle.older_types.specs.declared.Message.TheVariants.{SafetyControl, SafetyState, Probes, Status, Limits, Sequence, Outputs, Session, Insulation, Precharge, Change, Charging, Stop, Finished, Controller, Cui, Secc, Id, Spcc, Ccs, Mcs}
use Rattle.older_types.specs.KindNumbers.{safety_control_kind, safety_state_kind, probes_kind, status_kind, limits_kind, sequence_kind, outputs_kind, session_kind, insulation_kind, precharge_kind, change_kind, charging_kind, stop_kind, finished_kind, controller_kind, cui_kind, secc_kind, id_kind, spcc_kind, ccs_kind, mcs_kind, kind_of}
use Rattle.older_build.specs.Built.{built_of}
use Rattle.older_take.specs.Take.{raws_of, has_raws}
use Rattle.message_safety.proofs.Ways.{safety_control_ways, safety_state_ways}
use Rattle.message_probes.proofs.Ways.{probes_ways}
use Rattle.older_power.proofs.Ways.{limits_ways, session_ways, insulation_ways, precharge_ways, charging_ways}
use Rattle.older.proofs.Alike.{status_ways, sequence_ways, outputs_ways, change_ways, stop_ways, finished_ways, controller_ways, cui_ways, secc_ways, id_ways, spcc_ways, ccs_ways, mcs_ways}

-- ---- the table has each kind

-- a standard identifier has 11 bits
abbrev long_id : ℕ → Bool
long_id m = leb 0x800 m

-- as many signals as the message has numbers, at least one, an identifier that tells the form by itself, and a kind of its interface
abbrev InTable : Message → Type 0
InTable m =
    (length (raws_of m) ≡ length (rows_of (kind_of m))) × (1 ≤ length (rows_of (kind_of m))) × (extended_of (kind_of m) ≡ long_id (identifier_of (kind_of m)))
    × (is_on Older (kind_of m) ≡ true)

in_table : (m : Message) → InTable m
unfolding rows of_kind raws_of identifier_of extended_of
in_table (SafetyControl s) = (refl, lit≤ tt, refl, refl)
in_table (SafetyState s) = (refl, lit≤ tt, refl, refl)
in_table (Probes s) = (refl, lit≤ tt, refl, refl)
in_table (Status s) = (refl, lit≤ tt, refl, refl)
in_table (Limits s) = (refl, lit≤ tt, refl, refl)
in_table (Sequence s) = (refl, lit≤ tt, refl, refl)
in_table (Outputs s) = (refl, lit≤ tt, refl, refl)
in_table (Session s) = (refl, lit≤ tt, refl, refl)
in_table (Insulation s) = (refl, lit≤ tt, refl, refl)
in_table (Precharge s) = (refl, lit≤ tt, refl, refl)
in_table (Change s) = (refl, lit≤ tt, refl, refl)
in_table (Charging s) = (refl, lit≤ tt, refl, refl)
in_table (Stop s) = (refl, lit≤ tt, refl, refl)
in_table (Finished s) = (refl, lit≤ tt, refl, refl)
in_table (Controller s) = (refl, lit≤ tt, refl, refl)
in_table (Cui s) = (refl, lit≤ tt, refl, refl)
in_table (Secc s) = (refl, lit≤ tt, refl, refl)
in_table (Id s) = (refl, lit≤ tt, refl, refl)
in_table (Spcc s) = (refl, lit≤ tt, refl, refl)
in_table (Ccs s) = (refl, lit≤ tt, refl, refl)
in_table (Mcs s) = (refl, lit≤ tt, refl, refl)

pub counted : (m : Message) → length (raws_of m) ≡ length (rows_of (kind_of m))
counted m = (in_table m).0

pub known_kind : (m : Message) → 1 ≤ length (rows_of (kind_of m))
known_kind m = (in_table m).1

-- messages of one identifier have one form
pub one_form : (x y : Message) → identifier_of (kind_of x) ≡ identifier_of (kind_of y) → extended_of (kind_of x) ≡ extended_of (kind_of y)
one_form x y e = (in_table x).2 ∙ ap long_id e ∙ sym (in_table y).2

-- a kind of document 004 or 001
abbrev pub Own : ℕ → Type 0
Own k = is_on Older k ≡ true

pub own_kind : (m : Message) → Own (kind_of m)
own_kind m = (in_table m).3

-- ---- a message's labels are those of its signals, and its numbers make it again

labels_in : (m : Message) → labels_at (rows_of (kind_of m)) (raws_of m) ≡ true
unfolding raws_of
labels_in (SafetyControl s) = safety_control_ways.labelled s
labels_in (SafetyState s) = safety_state_ways.labelled s
labels_in (Probes s) = probes_ways.labelled s
labels_in (Status s) = status_ways.labelled s
labels_in (Limits s) = limits_ways.labelled s
labels_in (Sequence s) = sequence_ways.labelled s
labels_in (Outputs s) = outputs_ways.labelled s
labels_in (Session s) = session_ways.labelled s
labels_in (Insulation s) = insulation_ways.labelled s
labels_in (Precharge s) = precharge_ways.labelled s
labels_in (Change s) = change_ways.labelled s
labels_in (Charging s) = charging_ways.labelled s
labels_in (Stop s) = stop_ways.labelled s
labels_in (Finished s) = finished_ways.labelled s
labels_in (Controller s) = controller_ways.labelled s
labels_in (Cui s) = cui_ways.labelled s
labels_in (Secc s) = secc_ways.labelled s
labels_in (Id s) = id_ways.labelled s
labels_in (Spcc s) = spcc_ways.labelled s
labels_in (Ccs s) = ccs_ways.labelled s
labels_in (Mcs s) = mcs_ways.labelled s

pub there : (m : Message) → has_raws m ≡ true → all_take (rows_of (kind_of m)) (raws_of m) ≡ true → built_of (kind_of m) (at (raws_of m)) ≡ m
unfolding raws_of built_of
there (SafetyControl s) h e = ap SafetyControl (safety_control_ways.there s h e)
there (SafetyState s) h e = ap SafetyState (safety_state_ways.there s h e)
there (Probes s) h e = ap Probes (probes_ways.there s h e)
there (Status s) h e = ap Status (status_ways.there s h e)
there (Limits s) h e = ap Limits (limits_ways.there s h e)
there (Sequence s) h e = ap Sequence (sequence_ways.there s h e)
there (Outputs s) h e = ap Outputs (outputs_ways.there s h e)
there (Session s) h e = ap Session (session_ways.there s h e)
there (Insulation s) h e = ap Insulation (insulation_ways.there s h e)
there (Precharge s) h e = ap Precharge (precharge_ways.there s h e)
there (Change s) h e = ap Change (change_ways.there s h e)
there (Charging s) h e = ap Charging (charging_ways.there s h e)
there (Stop s) h e = ap Stop (stop_ways.there s h e)
there (Finished s) h e = ap Finished (finished_ways.there s h e)
there (Controller s) h e = ap Controller (controller_ways.there s h e)
there (Cui s) h e = ap Cui (cui_ways.there s h e)
there (Secc s) h e = ap Secc (secc_ways.there s h e)
there (Id s) h e = ap Id (id_ways.there s h e)
there (Spcc s) h e = ap Spcc (spcc_ways.there s h e)
there (Ccs s) h e = ap Ccs (ccs_ways.there s h e)
there (Mcs s) h e = ap Mcs (mcs_ways.there s h e)

-- ---- a payload's numbers are those of the message that they make

-- what is asked of the message that a payload number makes
abbrev pub Back : ℕ → List ℤ → Message → Type 0
Back k zs m = (kind_of m ≡ k) × (raws_of m ≡ zs) × (has_raws m ≡ true)

-- of kind k
abbrev Return : ℕ → ℕ → Type 0
Return n k = unlabelled n (rows_of k) ≡ false → Back k (wholes_of n (rows_of k)) (built_of k (at (wholes_of n (rows_of k))))

is : (n k : ℕ) → Return n k → Return n k
is n k r = r

returns : (n : ℕ) → From (Return n) rest_kind safety_kind
unfolding raws_of built_of
returns n =
    is n safety_control_kind (λ e. (refl, safety_control_ways.back n e, safety_control_ways.backed n))
    ⨾ is n safety_state_kind (λ e. (refl, safety_state_ways.back n e, safety_state_ways.backed n))
    ⨾ is n probes_kind (λ e. (refl, probes_ways.back n e, probes_ways.backed n))
    ⨾ is n status_kind (λ e. (refl, status_ways.back n e, status_ways.backed n))
    ⨾ is n limits_kind (λ e. (refl, limits_ways.back n e, limits_ways.backed n))
    ⨾ is n sequence_kind (λ e. (refl, sequence_ways.back n e, sequence_ways.backed n))
    ⨾ is n outputs_kind (λ e. (refl, outputs_ways.back n e, outputs_ways.backed n))
    ⨾ is n session_kind (λ e. (refl, session_ways.back n e, session_ways.backed n))
    ⨾ is n insulation_kind (λ e. (refl, insulation_ways.back n e, insulation_ways.backed n))
    ⨾ is n precharge_kind (λ e. (refl, precharge_ways.back n e, precharge_ways.backed n))
    ⨾ is n change_kind (λ e. (refl, change_ways.back n e, change_ways.backed n))
    ⨾ is n charging_kind (λ e. (refl, charging_ways.back n e, charging_ways.backed n))
    ⨾ is n stop_kind (λ e. (refl, stop_ways.back n e, stop_ways.backed n))
    ⨾ is n finished_kind (λ e. (refl, finished_ways.back n e, finished_ways.backed n))
    ⨾ is n controller_kind (λ e. (refl, controller_ways.back n e, controller_ways.backed n))
    ⨾ is n cui_kind (λ e. (refl, cui_ways.back n e, cui_ways.backed n))
    ⨾ is n secc_kind (λ e. (refl, secc_ways.back n e, secc_ways.backed n))
    ⨾ is n id_kind (λ e. (refl, id_ways.back n e, id_ways.backed n))
    ⨾ is n spcc_kind (λ e. (refl, spcc_ways.back n e, spcc_ways.backed n))
    ⨾ is n ccs_kind (λ e. (refl, ccs_ways.back n e, ccs_ways.backed n))
    ⨾ is n mcs_kind (λ e. (refl, mcs_ways.back n e, mcs_ways.backed n))
    ⨾ done

pub back : (k n : ℕ) → Own k → unlabelled n (rows_of k) ≡ false → Back k (wholes_of n (rows_of k)) (built_of k (at (wholes_of n (rows_of k))))
back k n h =
    let o = both_true (leb safety_kind k) (ltb k rest_kind) h in
    upto (returns n) k (leb-true safety_kind k o.0) (ltb-true k rest_kind o.1)

-- ---- together

pub codec : codecs.Codec kind_of raws_of has_raws built_of Own
codec = record { counted = counted; known = known_kind; labelled = labels_in; there = there; back = λ k n h. back k n h }
