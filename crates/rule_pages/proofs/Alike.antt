-- Documents 000 and 001 lay Power_Modules_Status out alike, and protocol and plug of New_Charge_Session: whichever page a frame is read by, it says the same.
use Prim.Native.Nat.{ℕ}
use mathlib.Core.Path.{◌≡◌, refl}
use mathlib.Core.Bool.{Bool, true, false, cond}
use lib.Dec.{eqb}
use Rattle.page_table.specs.Table.{rows, of_kind}
use Rattle.page_write.specs.Raws.{wholes_of, pad, raws_of}
use Rattle.message_fields.specs.Fields.{at}
use Rattle.message_parts.specs.Watched.{status_of}
use Rattle.message_parts.specs.Parts.{status_in, session_in}
use Rattle.older_types.specs.KindNumbers as older
use Rattle.older_power.specs.Build as page
use Rattle.rule_pages.specs.Said.{same_status, status_by, protocol_and_plug, opening_by}

pub status_alike : (k n : ℕ) → status_by k n ≡ status_in n
unfolding status_by status_in raws_of rows of_kind wholes_of pad
status_alike k n = go (eqb k older.status_kind)
  where
    go : (b : Bool) → cond b (same_status (status_of (at (raws_of older.status_kind n)))) (status_in n) ≡ status_in n
    go true = refl
    go false = refl

pub opening_alike : (k n : ℕ) → opening_by k n ≡ session_in n
unfolding opening_by session_in raws_of rows of_kind wholes_of pad
opening_alike k n = go (eqb k older.session_kind)
  where
    go : (b : Bool) → cond b (protocol_and_plug (page.session_of (at (raws_of older.session_kind n)))) (session_in n) ≡ session_in n
    go true = refl
    go false = refl
