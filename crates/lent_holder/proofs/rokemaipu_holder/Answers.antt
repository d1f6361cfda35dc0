-- `lent_holder::rokemaipu_holder` meets its contract: the head at the place that the index names tells the word (`holder_same`, HolderLaws.antt).
use Prim.Native.Nat.{ℕ, ◌%◌}
use mathlib.Core.Path.{◌≡◌, ap, ◌∙◌}
use lib.ListN.{get_or}
use Rattle.watch_rules.specs.declared.Table.{Table}
use Rattle.watch_rules.specs.Table.{channel_count, place_named, some_place, post_in}
use Rattle.lent_holder.specs.Holder.{holder_at, holder_word}
use Rattle.lent_holder.proofs.HolderLaws.{holder_same}
use Rattle.lent_holder.proofs.rokemaipu_holder.Goals as goal

named : (t : Table) (c i : ℕ) → i ≡ place_named (get_or t.index (c % channel_count) 0) → holder_at (post_in t i).head i c ≡ holder_word t c
unfolding some_place
named t c i e = ap (λ (j : ℕ). holder_at (post_in t j).head j c) e ∙ holder_same t c

pub returns : goal.returns
returns c = c.answer_word.ensures ∙ c.holder_at.ensures ∙ named c.args.t.now c.args.channel c.indexed_place-i.result c.indexed_place-i.ensures.0
