-- Inner step: what comes, over one post's head, so that a frame or tick copies one head and not the table.
-- `feed-same` (watch_rules) shows that it is the table's step.
use Rattle.std.specs.Prelude.{ℕ, Bool, true, false, set, Ok, Err}
use Rattle.rules.specs.declared.Head.{Head}
use Rattle.rules.specs.declared.Post.{Post}
use Rattle.rules.specs.After.{stored}
use Rattle.watch_hear.specs.watch_rules.specs.declared.Table.{Table}
use Rattle.watch_hear.specs.watch_rules.specs.declared.Heard.{Heard}
use Rattle.watch_hear.specs.watch_rules.specs.Answer.{Answer}
use Rattle.watch_hear.specs.watch_rules.specs.declared.Arrival.{Arrival}
use Rattle.watch_hear.specs.watch_rules.specs.Table.{post_in, heard_of, refused_after}
use Rattle.lent_words.specs.Lent.{Lent}
use Rattle.lent_words.specs.Words.{answer_word}
use Rattle.lent_step.specs.declared.Worded.{Worded}

abbrev pub is_taken : Answer → Bool
is_taken (Ok f) = true
is_taken (Err w) = false

-- n of the table's frames and ticks were refused before
abbrev pub worded_by : ℕ → Heard → Worded
worded_by n r = record { head = r.head; slot = r.slot; at = r.at; refused = refused_after n r.answer; answer = answer_word r.answer; taken = is_taken r.answer }

abbrev pub heard_on : Head → ℕ → ℕ → ℕ → Arrival → Worded
heard_on p n c time a = worded_by n (heard_of p c time a)

-- the post with the stepped head, and the slot, and the table with that post in its place, and with the count
abbrev pub stored_by : Post → Worded → Post
stored_by p r = stored p r.head r.at r.slot

abbrev pub lent_at : Table → ℕ → Worded → Lent
lent_at t i r = record { table = record { posts = set t.posts i (stored_by (post_in t i) r); index = t.index; refused = r.refused }; answer = r.answer }
