-- The post that holds a channel, as a word. 01: "A frame or tick goes to the post that holds its channel", and "1: channel above 31, or held by no post".
use Rattle.std.specs.Prelude.{ℕ, cond, ◌&&◌, ltb}
use Rattle.refusals.specs.declared.Refusal.TheVariants.{ChannelFree}
use Rattle.rules.specs.declared.Head.{Head}
use Rattle.watch_rules.specs.declared.Table.{Table}
use Rattle.watch_rules.specs.Table.{post_count, is_channel, holds, place_in}
use Rattle.watch_rules.specs.Steps.{Steps, holder}
use Rattle.plain_words.specs.Words.{refusal_word}

-- for every table, by its index (02, Req 13): the post that it names, where that post holds the channel
unfoldable pub holder_word : Table → ℕ → ℕ
holder_word t c = cond (is_channel c && ltb (place_in t c) post_count) (place_in t c) (refusal_word ChannelFree)

-- the same of one head: place i is the one that the index names, and p the head there (`holder_same`, proofs/HolderLaws.antt)
unfoldable pub holder_at : Head → ℕ → ℕ → ℕ
holder_at p i c = cond (is_channel c && holds p c) i (refusal_word ChannelFree)

-- over accepted steps
unfoldable pub holder01 : Steps → ℕ → ℕ
holder01 s c = cond (is_channel c && ltb (holder s c) post_count) (holder s c) (refusal_word ChannelFree)
