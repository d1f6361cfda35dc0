-- Two records that stand in logs are the same where their bytes are, and not where their keys differ.
use mathlib.Core.Path.{◌≡◌, sym, ap, ap₂, ◌∙◌}
use mathlib.Core.Bool.{Bool, false}
use mathlib.Core.List.{List}
use Prim.Native.Nat.{ℕ}
use Rattle.log_records.specs.Record.{Rec, Loggable, record_bytes}
use Rattle.compare_rules.specs.Records.{same_bytes, same}
use Rattle.compare_rules.proofs.Sames.{same_not, by_bytes}
use Rattle.compare_logs.specs.Held.{key_of}

-- no record has another key
pub by_key : (x y : Rec) → (key_of x ≡ key_of y → ⊥) → false ≡ same x y
by_key x y h = sym (same_not x y (λ e. h (ap key_of e)))

-- what stands in two logs is told by the bytes
pub equal_is : (x y : Rec) (p q : List ℕ) {r : Bool} → Loggable x → Loggable y → p ≡ record_bytes x → q ≡ record_bytes y → r ≡ same_bytes p q → r ≡ same x y
equal_is x y p q hx hy ep eq e = e ∙ ap₂ same_bytes ep eq ∙ by_bytes x y hx hy
