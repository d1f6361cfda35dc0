-- What an interface finds by an identifier: a row of the table whose message it has (`own-found`, `found-own`), a message that it has (`found-has`,
-- `has-found`), or none (`on_none`). No row is found on an interface that does not have its message.
-- Assumes nothing.
use Rattle.std.specs.Prelude.{Some, None, Option}
use mathlib.Core.Path.{◌≡◌, refl, sym, ap, ◌∙◌}
use mathlib.Core.Bool.{Bool, true, false, cond}
use mathlib.Core.List.{List, [], ◌∷◌, ◌++◌}
use Prim.Native.Nat.{ℕ, zero, suc, ◌+◌, ◌<◌}
use native.Mathlib.Nat.{le_of_suc-le-suc, not-suc-le-zero, zero-add, suc-add}
use native.Mathlib.Omega.{arith}
use lib.ListN.{length, get_or}
use Rattle.page_table.specs.declared.Interface.{Interface}
use Rattle.page_table.specs.Messages.{kind_count, rest_kind, charger_messages, safety_messages, older_messages, rest_messages, no_message, message_of}
use Rattle.page_table.specs.Table.{rows, row_at, first_at, has_id, with_message}
use Rattle.page_table.specs.Interfaces.{is_on, found_on, with_id, Has}
use Rattle.page_table.proofs.Listed.{found_listed, listed_found}

-- ---- the messages of an interface, one behind the other

in_front : {A : Type 0} (xs ys : List A) (d : A) (k : ℕ) → k < length xs → get_or (xs ++ ys) k d ≡ get_or xs k d
in_front [] ys d k h = absurd (not-suc-le-zero h)
in_front (x ∷ xs) ys d zero h = refl
in_front (x ∷ xs) ys d (suc k) h = in_front xs ys d k (le_of_suc-le-suc h)

behind : {A : Type 0} (xs ys : List A) (d : A) (k : ℕ) → get_or (xs ++ ys) (length xs + k) d ≡ get_or ys k d
behind [] ys d k = ap (λ (j : ℕ). get_or ys j d) (zero-add k)
behind (x ∷ xs) ys d k = ap (λ (j : ℕ). get_or ((x ∷ xs) ++ ys) j d) (suc-add (length xs) k) ∙ behind xs ys d k

pub newer_message : (k : ℕ) → k < kind_count → get_or (charger_messages ++ safety_messages) k no_message ≡ message_of k
newer_message k h = sym (in_front (charger_messages ++ safety_messages) (older_messages ++ rest_messages) no_message k h)

pub older_message : (k : ℕ) → kind_count + k < rest_kind → get_or older_messages k no_message ≡ message_of (kind_count + k)
older_message k h =
    sym (behind (charger_messages ++ safety_messages) (older_messages ++ rest_messages) no_message k ∙ in_front older_messages rest_messages no_message k (omega arith))

pub rest_message : (k : ℕ) → get_or rest_messages k no_message ≡ message_of (rest_kind + k)
rest_message k = sym (behind (charger_messages ++ (safety_messages ++ older_messages)) rest_messages no_message k)

-- ---- what is found

-- what is found on an interface is what the table's first row with the identifier is, and one of the interface's
pub own_found : (iface : Interface) (f : Option ℕ) (i : ℕ) → found_on iface f ≡ Some i → (f ≡ Some i) × (is_on iface (row_at i).kind ≡ true)
own_found iface (Some j) i e = go (is_on iface (row_at j).kind) refl e
  where
    go : (b : Bool) → is_on iface (row_at j).kind ≡ b → cond b (Some j) None ≡ Some i → (Some j ≡ Some i) × (is_on iface (row_at i).kind ≡ true)
    go true o e = let s : j ≡ i = cc in (e, ap (λ (k : ℕ). is_on iface (row_at k).kind) (sym s) ∙ o)
    go false o e = absurd (let z : ◌≡◌ {A = ℕ} 0 1 = cc in omega arith)
own_found iface None i e = absurd (let z : ◌≡◌ {A = ℕ} 0 1 = cc in omega arith)

pub found_own : (iface : Interface) (f : Option ℕ) (i : ℕ) → f ≡ Some i → is_on iface (row_at i).kind ≡ true → found_on iface f ≡ Some i
found_own iface f i e o = ap (found_on iface) e ∙ ap (λ (b : Bool). cond b (Some i) None) o

-- what is told of a message that is found is said by the row
pub found_says : (j k i len : ℕ) (big : Bool) → with_message (Some j) ≡ Some (k, i, len, big)
    → ((row_at j).kind ≡ k) × (j ≡ i) × ((row_at j).bytes ≡ len) × ((row_at j).big ≡ big)
found_says j k i len big e =
    let p : ((row_at j).kind, j, (row_at j).bytes, (row_at j).big) ≡ (k, i, len, big) = cc in (
      ap (λ (q : ℕ × ℕ × ℕ × Bool). q.0) p,
      ap (λ (q : ℕ × ℕ × ℕ × Bool). q.1) p,
      ap (λ (q : ℕ × ℕ × ℕ × Bool). q.2) p,
      ap (λ (q : ℕ × ℕ × ℕ × Bool). q.3) p,
    )

-- the row that is found says what the list says of its kind, which the interface has
pub record Told (iface : Interface) (m : ℕ) (x : Bool) (i : ℕ) : Type 0 where
  pub first : first_at (has_id m x) 0 rows ≡ Some i
  pub has : Has iface m x (row_at i).kind
  pub bytes : (message_of (row_at i).kind).2 ≡ (row_at i).bytes
  pub big : (message_of (row_at i).kind).3 ≡ (row_at i).big

pub found_has : (iface : Interface) (m : ℕ) (x : Bool) (i : ℕ) → with_id iface m x ≡ Some i → Told iface m x i
found_has iface m x i f =
    let o = own_found iface (first_at (has_id m x) 0 rows) i f in
    let t = found_listed m x i o.0 in
    record { first = o.0; has = record { listed = t.listed; own = o.1 }; bytes = t.bytes; big = t.big }

pub has_found : (iface : Interface) (m : ℕ) (x : Bool) (k : ℕ) → Has iface m x k → (i : ℕ) × (with_id iface m x ≡ Some i) × ((row_at i).kind ≡ k)
has_found iface m x k h =
    let p = listed_found m x k h.listed in
    (p.0, found_own iface (first_at (has_id m x) 0 rows) p.0 p.1 (ap (is_on iface) p.2 ∙ h.own), p.2)

-- and where none of them has it
pub on_none : (iface : Interface) (m : ℕ) (x : Bool) → ((k : ℕ) → Has iface m x k → ⊥) → with_id iface m x ≡ None
on_none iface m x n = go (first_at (has_id m x) 0 rows) refl
  where
    own : (i : ℕ) (b : Bool) → first_at (has_id m x) 0 rows ≡ Some i → is_on iface (row_at i).kind ≡ b → cond b (Some i) None ≡ None
    own i true f o = absurd (n (row_at i).kind (record { listed = (found_listed m x i f).listed; own = o }))
    own i false f o = refl

    go : (f : Option ℕ) → first_at (has_id m x) 0 rows ≡ f → found_on iface f ≡ None
    go (Some i) f = own i (is_on iface (row_at i).kind) f refl
    go None f = refl
