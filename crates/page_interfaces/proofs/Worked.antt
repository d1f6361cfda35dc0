-- The laws on identifiers: 001's Sequence_Control on the newer interface, 000's Power_Modules_Status and Sequence_Control on the older one, and
-- ChargeControl1 on neither.
use Rattle.std.specs.Prelude.{Err}
use mathlib.Core.Path.{◌≡◌, refl}
use mathlib.Core.Bool.{true, false}
use mathlib.Core.List.{[], ◌∷◌}
use Prim.Native.Nat.{ℕ}
use Rattle.refusals.specs.declared.Refusal.TheVariants.{UnknownIdentifier}
use Rattle.page_table.specs.declared.Interface.TheVariants.{Newer, Older}
use Rattle.page_table.specs.Table.{rows, first_at}
use Rattle.page_table.specs.Interfaces.{Has}
use Rattle.page_read.specs.Judge.{judge_on}
use Rattle.page_interfaces.specs.Foreign.{is_foreign}
use Rattle.page_interfaces.proofs.Foreign.{foreign_has, foreign_not, foreign_refused}

-- a standard 0x60012 is neither's
pub told : (is_foreign Newer 0x60012 true ≡ true) × (is_foreign Older 0x63000 true ≡ true) × (is_foreign Newer 6 false ≡ false) × (is_foreign Older 6 false ≡ false)
    × (is_foreign Newer 0x60012 false ≡ false) × (is_foreign Newer 0x63000 true ≡ false) × (is_foreign Older 0x60012 true ≡ false)
    × (is_foreign Older 0x63002 true ≡ true) × (is_foreign Newer 0x63002 true ≡ false)
unfolding is_foreign rows first_at
told = (refl, refl, refl, refl, refl, refl, refl, refl, refl)

pub sequence_older : (k : ℕ) × Has Older 0x60012 true k
sequence_older = foreign_has Newer 0x60012 true told.0

pub sequence_newer : (k : ℕ) × Has Newer 0x63002 true k
sequence_newer = foreign_has Older 0x63002 true told.7

pub sequence_not_newer : (k : ℕ) → Has Newer 0x60012 true k → ⊥
sequence_not_newer = foreign_not Newer 0x60012 true told.0

-- one byte, where Power_Modules_Status has eight
pub status_refused : judge_on Older 0x63000 true (0 ∷ []) ≡ Err UnknownIdentifier
status_refused = foreign_refused Older 0x63000 true (0 ∷ []) told.1
