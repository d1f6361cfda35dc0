-- The layout of the lent table as one word: its bytes, its posts, a post's places for latest frames, and the number of the layout.
-- That the bytes are those of the type that the entries are proved over is a law (proofs/Sizes.antt).
use Rattle.std.specs.Prelude.{ℕ, ◌+◌, ◌*◌, ◌^◌}
use Rattle.rules.specs.Record.{place_count}
use Rattle.rules.specs.After.{kept_count, count_count}
use Rattle.watch_rules.specs.Table.{post_count, channel_count}

-- a slot is known or not and a kind, a time, and a payload number; a session is three words, and what it keeps
abbrev pub slot_bytes : ℕ
slot_bytes = 24

abbrev pub session_bytes : ℕ
session_bytes = 24 + kept_count * slot_bytes

abbrev pub count_bytes : ℕ
count_bytes = 4

-- set up or not, and the channel; six limits; heard or not, and the counts; the time; the latest controller status and limits told; the session
abbrev pub head_bytes : ℕ
head_bytes = 8 + 24 + 4 + count_count * count_bytes + 8 + 2 * slot_bytes + session_bytes

abbrev pub post_bytes : ℕ
post_bytes = head_bytes + place_count * slot_bytes

abbrev pub entry_bytes : ℕ
entry_bytes = 4

-- the posts, the index, and the count of what was refused
abbrev pub table_bytes : ℕ
table_bytes = post_count * post_bytes + channel_count * entry_bytes + 8

-- another one wherever a place of the table means something else
abbrev pub layout_number : ℕ
layout_number = 7

abbrev pub layout_word : ℕ
layout_word = table_bytes + post_count * 2 ^ 32 + place_count * 2 ^ 40 + layout_number * 2 ^ 48
