-- The sizes of the layout are those of the types in memory, over which every entry that is lent a table is proved.
use mathlib.Core.Path.{◌≡◌, refl}
use prog.Memory.{size}
use Rattle.rules.proofs.Slot.TheLaws as slot
use Rattle.rules.proofs.Session.TheLaws as session
use Rattle.rules.proofs.Head.TheLaws as head
use Rattle.rules.proofs.Post.TheLaws as post
use Rattle.watch_rules.proofs.Table.TheLaws as table
use Rattle.lent_layout.specs.Layout.{slot_bytes, session_bytes, head_bytes, post_bytes, table_bytes}

pub sizes : (size slot.mir ≡ slot_bytes) × (size session.mir ≡ session_bytes) × (size head.mir ≡ head_bytes) × (size post.mir ≡ post_bytes) × (size table.mir ≡ table_bytes)
sizes = (refl, refl, refl, refl, refl)
