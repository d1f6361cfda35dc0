-- What is said of each kind of message: the table has it, with as many signals as the kind has numbers, its labels are those of its signals, and its numbers go
-- there and back (`there`, `back`), by the ways of its kind. Together they make the messages a codec over the table (`codec`). Assumes nothing.
use mathlib.Core.Path.{◌≡◌, refl, sym, ap, ◌∙◌}
use mathlib.Core.Bool.{Bool, true, false, ◌||◌}
use mathlib.Core.List.{List}
use Prim.Native.Nat.{ℕ, ◌≤◌, ◌<◌}
use native.Mathlib.Omega.{arith}
use lib.Dec.{leb, ltb, lit≤}
use lib.ListN.{length}
use lib.IntN.{ℤ}
use borrow.Author.Tests.{leb-true, ltb-true}
use Rattle.page_table.specs.declared.Interface.TheVariants.{Newer}
use Rattle.page_table.specs.Interfaces.{is_on}
use Rattle.page_table.specs.Messages.{rest_kind}
use Rattle.page_table.specs.Table.{rows, of_kind, rows_of, identifier_of, extended_of}
use Rattle.page_read.specs.Judge.{unlabelled}
use Rattle.page_write.specs.Raws.{wholes_of, all_take}
use Rattle.message_fields.specs.Fields.{at}
use Rattle.message_laws.specs.Fits.{all_fit}
use Rattle.message_laws.proofs.Fitting.{labels_at}
use Rattle.message_laws.proofs.Codec as codecs
use Rattle.message_laws.proofs.Upto.{From, done, ◌⨾◌, upto}
use Rattle.message_types.specs.declared.Message.{Message}
use Rattle.message_types.specs.declared.Message.TheVariants.{Status, Parameters, Controller, Session, Change, Control, Finished, Stop, Id, SafetyControl, SafetyState, Probes, Sequence, Outputs, Battery, Voltages, ChargeLimits, DischargeLimits, Energy, Cui, Secc, Spcc, Ccs, Mcs, Ocpp}
use Rattle.message_types.specs.KindNumbers.{status_kind, parameters_kind, controller_kind, session_kind, change_kind, control_kind, finished_kind, stop_kind, id_kind, safety_control_kind, safety_state_kind, probes_kind, sequence_kind, outputs_kind, battery_kind, voltages_kind, charge_limits_kind, discharge_limits_kind, energy_kind, cui_kind, secc_kind, spcc_kind, ccs_kind, mcs_kind, ocpp_kind, kind_count, message_count, kind_of}
use Rattle.message_build.specs.Built.{built_of, message_of}
use Rattle.message_take.specs.Take.{raws_of, has_raws}
use Rattle.message_charger.proofs.Ways.{status_ways, parameters_ways, controller_ways, session_ways, change_ways, control_ways, finished_ways, stop_ways, id_ways}
use Rattle.message_safety.proofs.Ways.{safety_control_ways, safety_state_ways}
use Rattle.message_probes.proofs.Ways.{probes_ways}
use Rattle.message_inputs.proofs.Ways.{cui_ways, secc_ways}
use Rattle.message_extra.proofs.Ways.{spcc_ways, ccs_ways, mcs_ways}
use Rattle.message_sequence.proofs.Ways.{sequence_ways, outputs_ways}
use Rattle.message_vehicle.proofs.Ways.{battery_ways, voltages_ways, charge_limits_ways, discharge_limits_ways, energy_ways, ocpp_ways}

-- ---- the table has each kind

-- a standard identifier has 11 bits
abbrev long_id : ℕ → Bool
long_id m = leb 0x800 m

-- as many signals as the message has numbers, at least one, an identifier that tells the form by itself, and a kind of its interface
abbrev InTable : Message → Type 0
InTable m =
    (length (raws_of m) ≡ length (rows_of (kind_of m))) × (1 ≤ length (rows_of (kind_of m))) × (extended_of (kind_of m) ≡ long_id (identifier_of (kind_of m)))
    × (is_on Newer (kind_of m) ≡ true) × (kind_of m < message_count)

in_table : (m : Message) → InTable m
unfolding rows of_kind raws_of identifier_of extended_of
in_table (Status s) = (refl, lit≤ tt, refl, refl, lit≤ tt)
in_table (Parameters s) = (refl, lit≤ tt, refl, refl, lit≤ tt)
in_table (Controller s) = (refl, lit≤ tt, refl, refl, lit≤ tt)
in_table (Session s) = (refl, lit≤ tt, refl, refl, lit≤ tt)
in_table (Change s) = (refl, lit≤ tt, refl, refl, lit≤ tt)
in_table (Control s) = (refl, lit≤ tt, refl, refl, lit≤ tt)
in_table (Finished s) = (refl, lit≤ tt, refl, refl, lit≤ tt)
in_table (Stop s) = (refl, lit≤ tt, refl, refl, lit≤ tt)
in_table (Id s) = (refl, lit≤ tt, refl, refl, lit≤ tt)
in_table (SafetyControl s) = (refl, lit≤ tt, refl, refl, lit≤ tt)
in_table (SafetyState s) = (refl, lit≤ tt, refl, refl, lit≤ tt)
in_table (Probes s) = (refl, lit≤ tt, refl, refl, lit≤ tt)
in_table (Sequence s) = (refl, lit≤ tt, refl, refl, lit≤ tt)
in_table (Outputs s) = (refl, lit≤ tt, refl, refl, lit≤ tt)
in_table (Battery s) = (refl, lit≤ tt, refl, refl, lit≤ tt)
in_table (Voltages s) = (refl, lit≤ tt, refl, refl, lit≤ tt)
in_table (ChargeLimits s) = (refl, lit≤ tt, refl, refl, lit≤ tt)
in_table (DischargeLimits s) = (refl, lit≤ tt, refl, refl, lit≤ tt)
in_table (Energy s) = (refl, lit≤ tt, refl, refl, lit≤ tt)
in_table (Cui s) = (refl, lit≤ tt, refl, refl, lit≤ tt)
in_table (Secc s) = (refl, lit≤ tt, refl, refl, lit≤ tt)
in_table (Spcc s) = (refl, lit≤ tt, refl, refl, lit≤ tt)
in_table (Ccs s) = (refl, lit≤ tt, refl, refl, lit≤ tt)
in_table (Mcs s) = (refl, lit≤ tt, refl, refl, lit≤ tt)
in_table (Ocpp s) = (refl, lit≤ tt, refl, refl, lit≤ tt)

pub counted : (m : Message) → length (raws_of m) ≡ length (rows_of (kind_of m))
counted m = (in_table m).0

pub known_kind : (m : Message) → 1 ≤ length (rows_of (kind_of m))
known_kind m = (in_table m).1

-- messages of one identifier have one form
pub one_form : (x y : Message) → identifier_of (kind_of x) ≡ identifier_of (kind_of y) → extended_of (kind_of x) ≡ extended_of (kind_of y)
one_form x y e = (in_table x).2 ∙ ap long_id e ∙ sym (in_table y).2

-- a kind of document 000 or 004
abbrev pub Own : ℕ → Type 0
Own k = (is_on Newer k ≡ true) × (k < message_count)

pub own_kind : (m : Message) → Own (kind_of m)
own_kind m = ((in_table m).3, (in_table m).4)

-- ---- a message's labels are those of its signals, and its numbers make it again

labels_in : (m : Message) → labels_at (rows_of (kind_of m)) (raws_of m) ≡ true
unfolding raws_of
labels_in (Status s) = status_ways.labelled s
labels_in (Parameters s) = parameters_ways.labelled s
labels_in (Controller s) = controller_ways.labelled s
labels_in (Session s) = session_ways.labelled s
labels_in (Change s) = change_ways.labelled s
labels_in (Control s) = control_ways.labelled s
labels_in (Finished s) = finished_ways.labelled s
labels_in (Stop s) = stop_ways.labelled s
labels_in (Id s) = id_ways.labelled s
labels_in (SafetyControl s) = safety_control_ways.labelled s
labels_in (SafetyState s) = safety_state_ways.labelled s
labels_in (Probes s) = probes_ways.labelled s
labels_in (Sequence s) = sequence_ways.labelled s
labels_in (Outputs s) = outputs_ways.labelled s
labels_in (Battery s) = battery_ways.labelled s
labels_in (Voltages s) = voltages_ways.labelled s
labels_in (ChargeLimits s) = charge_limits_ways.labelled s
labels_in (DischargeLimits s) = discharge_limits_ways.labelled s
labels_in (Energy s) = energy_ways.labelled s
labels_in (Cui s) = cui_ways.labelled s
labels_in (Secc s) = secc_ways.labelled s
labels_in (Spcc s) = spcc_ways.labelled s
labels_in (Ccs s) = ccs_ways.labelled s
labels_in (Mcs s) = mcs_ways.labelled s
labels_in (Ocpp s) = ocpp_ways.labelled s

pub there : (m : Message) → has_raws m ≡ true → all_take (rows_of (kind_of m)) (raws_of m) ≡ true → built_of (kind_of m) (at (raws_of m)) ≡ m
unfolding raws_of built_of
there (Status s) h e = ap Status (status_ways.there s h e)
there (Parameters s) h e = ap Parameters (parameters_ways.there s h e)
there (Controller s) h e = ap Controller (controller_ways.there s h e)
there (Session s) h e = ap Session (session_ways.there s h e)
there (Change s) h e = ap Change (change_ways.there s h e)
there (Control s) h e = ap Control (control_ways.there s h e)
there (Finished s) h e = ap Finished (finished_ways.there s h e)
there (Stop s) h e = ap Stop (stop_ways.there s h e)
there (Id s) h e = ap Id (id_ways.there s h e)
there (SafetyControl s) h e = ap SafetyControl (safety_control_ways.there s h e)
there (SafetyState s) h e = ap SafetyState (safety_state_ways.there s h e)
there (Probes s) h e = ap Probes (probes_ways.there s h e)
there (Sequence s) h e = ap Sequence (sequence_ways.there s h e)
there (Outputs s) h e = ap Outputs (outputs_ways.there s h e)
there (Battery s) h e = ap Battery (battery_ways.there s h e)
there (Voltages s) h e = ap Voltages (voltages_ways.there s h e)
there (ChargeLimits s) h e = ap ChargeLimits (charge_limits_ways.there s h e)
there (DischargeLimits s) h e = ap DischargeLimits (discharge_limits_ways.there s h e)
there (Energy s) h e = ap Energy (energy_ways.there s h e)
there (Cui s) h e = ap Cui (cui_ways.there s h e)
there (Secc s) h e = ap Secc (secc_ways.there s h e)
there (Spcc s) h e = ap Spcc (spcc_ways.there s h e)
there (Ccs s) h e = ap Ccs (ccs_ways.there s h e)
there (Mcs s) h e = ap Mcs (mcs_ways.there s h e)
there (Ocpp s) h e = ap Ocpp (ocpp_ways.there s h e)

-- ---- a payload's numbers are those of the message that they make

-- what is asked of the message that a payload number makes
abbrev pub Back : ℕ → List ℤ → Message → Type 0
Back k zs m = (kind_of m ≡ k) × (raws_of m ≡ zs) × (has_raws m ≡ true)

-- of kind k
abbrev Return : ℕ → ℕ → Type 0
Return n k = unlabelled n (rows_of k) ≡ false → Back k (wholes_of n (rows_of k)) (built_of k (at (wholes_of n (rows_of k))))

is : (n k : ℕ) → Return n k → Return n k
is n k r = r

returns : (n : ℕ) → From (Return n) kind_count 0
unfolding raws_of built_of
returns n =
    is n status_kind (λ e. (refl, status_ways.back n e, status_ways.backed n))
    ⨾ is n parameters_kind (λ e. (refl, parameters_ways.back n e, parameters_ways.backed n))
    ⨾ is n controller_kind (λ e. (refl, controller_ways.back n e, controller_ways.backed n))
    ⨾ is n session_kind (λ e. (refl, session_ways.back n e, session_ways.backed n))
    ⨾ is n change_kind (λ e. (refl, change_ways.back n e, change_ways.backed n))
    ⨾ is n control_kind (λ e. (refl, control_ways.back n e, control_ways.backed n))
    ⨾ is n finished_kind (λ e. (refl, finished_ways.back n e, finished_ways.backed n))
    ⨾ is n stop_kind (λ e. (refl, stop_ways.back n e, stop_ways.backed n))
    ⨾ is n id_kind (λ e. (refl, id_ways.back n e, id_ways.backed n))
    ⨾ is n safety_control_kind (λ e. (refl, safety_control_ways.back n e, safety_control_ways.backed n))
    ⨾ is n safety_state_kind (λ e. (refl, safety_state_ways.back n e, safety_state_ways.backed n))
    ⨾ is n probes_kind (λ e. (refl, probes_ways.back n e, probes_ways.backed n))
    ⨾ done

rest_returns : (n : ℕ) → From (Return n) message_count rest_kind
unfolding raws_of built_of
rest_returns n =
    is n sequence_kind (λ e. (refl, sequence_ways.back n e, sequence_ways.backed n))
    ⨾ is n outputs_kind (λ e. (refl, outputs_ways.back n e, outputs_ways.backed n))
    ⨾ is n battery_kind (λ e. (refl, battery_ways.back n e, battery_ways.backed n))
    ⨾ is n voltages_kind (λ e. (refl, voltages_ways.back n e, voltages_ways.backed n))
    ⨾ is n charge_limits_kind (λ e. (refl, charge_limits_ways.back n e, charge_limits_ways.backed n))
    ⨾ is n discharge_limits_kind (λ e. (refl, discharge_limits_ways.back n e, discharge_limits_ways.backed n))
    ⨾ is n energy_kind (λ e. (refl, energy_ways.back n e, energy_ways.backed n))
    ⨾ is n cui_kind (λ e. (refl, cui_ways.back n e, cui_ways.backed n))
    ⨾ is n secc_kind (λ e. (refl, secc_ways.back n e, secc_ways.backed n))
    ⨾ is n spcc_kind (λ e. (refl, spcc_ways.back n e, spcc_ways.backed n))
    ⨾ is n ccs_kind (λ e. (refl, ccs_ways.back n e, ccs_ways.backed n))
    ⨾ is n mcs_kind (λ e. (refl, mcs_ways.back n e, mcs_ways.backed n))
    ⨾ is n ocpp_kind (λ e. (refl, ocpp_ways.back n e, ocpp_ways.backed n))
    ⨾ done

pub back : (k n : ℕ) → Own k → unlabelled n (rows_of k) ≡ false → Back k (wholes_of n (rows_of k)) (built_of k (at (wholes_of n (rows_of k))))
back k n (on, h) = go (ltb k kind_count) refl on
  where
    go : (b : Bool) → ltb k kind_count ≡ b → b || leb rest_kind k ≡ true → Return n k
    go true e o = upto (returns n) k (omega arith) (ltb-true k kind_count e)
    go false e o = upto (rest_returns n) k (leb-true rest_kind k o) h

-- ---- together

pub codec : codecs.Codec kind_of raws_of has_raws built_of Own
codec = record { counted = counted; known = known_kind; labelled = labels_in; there = there; back = λ k n h. back k n h }

pub labels_hold : (m : Message) → all_take (rows_of (kind_of m)) (raws_of m) ≡ all_fit (rows_of (kind_of m)) (raws_of m)
labels_hold = codecs.labels codec

-- the message of a payload number, of the signals' numbers alone
pub message_is : (k n : ℕ) → message_of k n ≡ built_of k (at (wholes_of n (rows_of k)))
unfolding message_of
message_is k n = codecs.of_wholes built_of k n
