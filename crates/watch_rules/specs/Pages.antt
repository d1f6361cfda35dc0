-- 02, Req 11: "read by the post's own pages". Which of the messages a post has heard: those of its own interface.
use Rattle.std.specs.Prelude.{ℕ, ◌+◌, ◌-◌, ◌<◌, ◌≡◌, [], ◌∷◌, true, cond, eqb, ltb}
use Rattle.std.proofs.Math.Option.{Option, none, some}
use Rattle.page_table.specs.declared.Interface.{Interface}
use Rattle.page_table.specs.declared.Interface.TheVariants.{Newer, Older}
use Rattle.page_table.specs.Messages.{message_count}
use Rattle.page_table.specs.Interfaces.{is_on, interface_of}
use Rattle.message_types.specs.KindNumbers.{safety_control_kind, sequence_kind}
use Rattle.older_types.specs.KindNumbers as older
use Rattle.rules.specs.History.{frame, tick, History, Said}
use Rattle.watch_rules.specs.Steps.{Standing, free, held}

-- every frame of the history is of a message that the interface has
abbrev pub OnPages : Interface → History → Type 0
OnPages iface [] = Unit {0}
OnPages iface (frame t k raw ∷ h) = ((is_on iface k ≡ true) × (k < message_count)) × OnPages iface h
OnPages iface (tick t ∷ h) = OnPages iface h

-- on the interface that the post was set up with
abbrev pub OnOwn : Standing → Type 0
OnOwn free = Unit {0}
OnOwn (held c lim h) = OnPages (interface_of lim.interface) h

-- ---- places and kinds

-- the kind whose latest frame a place keeps, on a post of the interface
unfoldable pub kind_at : Interface → ℕ → ℕ
kind_at Newer j = cond (ltb j older.status_kind) j (sequence_kind + (j - older.status_kind))
kind_at Older j = cond (ltb j safety_control_kind) (j + older.status_kind) (cond (ltb j older.status_kind) j (j + safety_control_kind))

-- a frame, where it is of the kind k
abbrev pub only_of : ℕ → Option Said → Option Said
only_of k none = none
only_of k (some m) = cond (eqb m.kind k) (some m) none
