-- A search of the messages by identifier, kind by kind: one that has it is what the table's search finds (`one_has`), and where none has it that finds nothing
-- (`none_has`). The newer messages with 004's, those of 001 and the rest of 000's are searched one behind the other, each by std's `position`
-- (`newer_has`, `older_has`, `rest_has`, `none_have`). Assumes nothing.
use Rattle.std.specs.Prelude.{Option}
use mathlib.Core.Path.{◌≡◌, refl, sym, ap, ap₂, ◌∙◌}
use mathlib.Core.Bool.{Bool, true, false, cond}
use mathlib.Core.Logic.{◌⊎◌, inl, inr}
use mathlib.Core.List.{List, ◌++◌}
use Prim.Native.Nat.{ℕ, ◌+◌, ◌-◌, ◌≤◌, ◌<◌}
use Rattle.std.proofs.Common.{Some, None}
use native.Mathlib.Omega.{arith}
use lib.Dec.{eqb}
use lib.ListN.{length, get_or}
use borrow.Author.Tests.{eqb-true, eq-eqb, lt-ltb}
use Rattle.std.specs.List.{position, position_or_len}
use Rattle.std.proofs.lemmas.List.Quantifiers.{position-Some}
use Rattle.std.proofs.lemmas.List.Sums.{fails_before_first}
use Rattle.signal.proofs.Complement.{half_of}
use Rattle.page_table.specs.declared.Message.{Message}
use Rattle.page_table.specs.Messages.{message_count, kind_count, rest_kind, charger_messages, safety_messages, older_messages, rest_messages, no_message, key_of}
use Rattle.page_table.specs.Table.{rows, row_at, first_at, has_id, kind_found}
use Rattle.page_table.proofs.Heads.{kind_key, id_place}
use Rattle.page_table.proofs.Interfaces.{newer_message, older_message, rest_message}
use Rattle.page_table.proofs.Listed.{found_listed}

pub one_has : (m : ℕ) (x : Bool) (k : ℕ) → k < message_count → kind_key k ≡ key_of m x → Some k ≡ kind_found (first_at (has_id m x) 0 rows)
one_has m x k h e = let p = id_place m x k h e in sym (ap kind_found p.0 ∙ ap Some p.1)

pub none_has : (m : ℕ) (x : Bool) → ((k : ℕ) → k < message_count → kind_key k ≡ key_of m x → ⊥) → None ≡ kind_found (first_at (has_id m x) 0 rows)
none_has m x none = go (first_at (has_id m x) 0 rows) refl
  where
    go : (f : Option ℕ) → first_at (has_id m x) 0 rows ≡ f → None ≡ kind_found f
    go (Some i) f = let l = (found_listed m x i f).listed in absurd (none (row_at i).kind l.in_table (ap₂ key_of l.identifier l.form))
    go None f = refl

-- a message has the identifier of a key
abbrev pub has_key : ℕ → Message → Bool
has_key w m = eqb (key_of m.0 m.1) w

-- std's search finds one that has it
at_place : (w : ℕ) (l : List Message) (k : ℕ) → position (has_key w) l ≡ Some k → (k < length l) × (key_of (get_or l k no_message).0 (get_or l k no_message).1 ≡ w)
at_place w l k e = let p = position-Some (has_key w) l k no_message e in (p.0, eqb-true _ w p.1)

-- and where it finds none, none has it
nowhere : (w : ℕ) (l : List Message) (k : ℕ) → position (has_key w) l ≡ None → k < length l → key_of (get_or l k no_message).0 (get_or l k no_message).1 ≡ w → ⊥
nowhere w l k e h s = go (half_of (length l) (position_or_len (has_key w) l))
  where
    go : (position_or_len (has_key w) l < length l) ⊎ (length l ≤ position_or_len (has_key w) l) → ⊥
    go (inl u) =
        let t : cond true (Some (position_or_len (has_key w) l)) None ≡ None
        = ap (λ (b : Bool). cond b (Some (position_or_len (has_key w) l)) None) (sym (lt-ltb _ _ u)) ∙ e in
        cc
    go (inr u) =
        let f : has_key w (get_or l k no_message) ≡ false = fails_before_first (has_key w) l k no_message (omega arith) in
        let g : has_key w (get_or l k no_message) ≡ true = eq-eqb _ w s in
        cc

abbrev key_at : Message → ℕ
key_at m = key_of m.0 m.1

pub newer_has : (m : ℕ) (x : Bool) (k : ℕ) → position (has_key (key_of m x)) (charger_messages ++ safety_messages) ≡ Some k → Some k ≡ kind_found (first_at (has_id m x) 0 rows)
newer_has m x k e =
    let p = at_place (key_of m x) (charger_messages ++ safety_messages) k e in
    one_has m x k (omega (arith, p.0)) (ap key_at (sym (newer_message k p.0)) ∙ p.1)

pub older_has : (m : ℕ) (x : Bool) (k : ℕ) → position (has_key (key_of m x)) older_messages ≡ Some k → Some (kind_count + k) ≡ kind_found (first_at (has_id m x) 0 rows)
older_has m x k e =
    let p = at_place (key_of m x) older_messages k e in
    one_has m x (kind_count + k) (omega (arith, p.0)) (ap key_at (sym (older_message k (omega (arith, p.0)))) ∙ p.1)

pub rest_has : (m : ℕ) (x : Bool) (k : ℕ) → position (has_key (key_of m x)) rest_messages ≡ Some k → Some (rest_kind + k) ≡ kind_found (first_at (has_id m x) 0 rows)
rest_has m x k e =
    let p = at_place (key_of m x) rest_messages k e in
    one_has m x (rest_kind + k) (omega (arith, p.0)) (ap key_at (sym (rest_message k)) ∙ p.1)

pub none_have : (m : ℕ) (x : Bool) → position (has_key (key_of m x)) (charger_messages ++ safety_messages) ≡ None → position (has_key (key_of m x)) older_messages ≡ None
    → position (has_key (key_of m x)) rest_messages ≡ None → None ≡ kind_found (first_at (has_id m x) 0 rows)
none_have m x a b d = none_has m x (λ k h e. first k h e (half_of kind_count k))
  where
    later : (k : ℕ) → k < message_count → kind_key k ≡ key_of m x → kind_count ≤ k → (k < rest_kind) ⊎ (rest_kind ≤ k) → ⊥
    later k h e l (inl u) =
        let s : kind_count + (k - kind_count) ≡ k = omega arith in
        nowhere (key_of m x) older_messages (k - kind_count) b (omega arith) (ap key_at (older_message (k - kind_count) (omega arith)) ∙ ap kind_key s ∙ e)
    later k h e l (inr u) =
        let s : rest_kind + (k - rest_kind) ≡ k = omega arith in
        nowhere (key_of m x) rest_messages (k - rest_kind) d (omega arith) (ap key_at (rest_message (k - rest_kind)) ∙ ap kind_key s ∙ e)

    first : (k : ℕ) → k < message_count → kind_key k ≡ key_of m x → (k < kind_count) ⊎ (kind_count ≤ k) → ⊥
    first k h e (inl u) = nowhere (key_of m x) (charger_messages ++ safety_messages) k a u (ap key_at (newer_message k u) ∙ e)
    first k h e (inr u) = later k h e u (half_of rest_kind k)
