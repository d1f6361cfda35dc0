-- What the message of a kind says is what the kind's first row says. Assumes nothing.
use mathlib.Core.Path.{◌≡◌}
use Prim.Native.Nat.{ℕ}
use Rattle.page_charger.specs.page_table.specs.Messages.{message_of}
use Rattle.page_charger.specs.page_table.specs.Table.{identifier_of, extended_of, length_of, big_of}
use Rattle.page_charger.specs.page_table.proofs.Heads.{says}

pub id_said : (k : ℕ) → (message_of k).0 ≡ identifier_of k
id_said k = (says k).0

pub form_said : (k : ℕ) → (message_of k).1 ≡ extended_of k
form_said k = (says k).1

pub length_said : (k : ℕ) → (message_of k).2 ≡ length_of k
length_said k = (says k).2

pub order_said : (k : ℕ) → (message_of k).3 ≡ big_of k
order_said k = (says k).3
