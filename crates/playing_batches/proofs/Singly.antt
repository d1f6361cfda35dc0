-- A record of a batch is the record fed singly: its table, its word, its post and its line.
use Rattle.std.specs.Prelude.{Ok, Err}
use Rattle.std.proofs.Common.{◌≡◌, ℕ, suc, ◌+◌, ◌*◌, ◌^◌, ◌<◌, ◌≤◌, Bool, true, false, cond, ◌&&◌, eqb, ltb, List, [], ◌∷◌, ◌++◌, length, sym, refl, ap, ◌∙◌, ap₂, mod-lt, arith, length-append, lt-ltb}
use Rattle.refusals.specs.Refusals.{number_of, start_of}
use Rattle.plain_words.specs.Words.{refuses, refusal_word, number_in, start_in, Within}
use Rattle.plain_words.proofs.WordLaws.{either, number_small, word_tells}
use Rattle.rules.specs.declared.Post.{Post}
use Rattle.log_records.specs.Record.{Rec, tick, frame}
use Rattle.watch_rules.specs.declared.Table.{Table}
use Rattle.watch_rules.specs.Answer.{Answer, Fed}
use Rattle.watch_rules.specs.Table.{post_count, is_channel, holds, place_of, place_in, post_in, Arriving, feed_at, feed_of}
use Rattle.watch_rules.specs.Run as request
use Rattle.lent_runs.specs.lent_words.specs.Words.{answer_outcome, answer_word}
use Rattle.lent_runs.proofs.Lents.{lent_next, lent_word}
use Rattle.lent_runs.proofs.Small.{reply_within}
use Rattle.batch.specs.batch_rules.specs.Batch.{called_with, words_of}
use Rattle.batch.proofs.Joined.{place_set, heard_holds}
use Rattle.text_numbers.specs.Ascii.{space}
use Rattle.text_numbers.specs.Numbers.{numeral}
use Rattle.text_pen.specs.Pens.{text_of}
use Rattle.playing_line.specs.Lines.{line_room, refused_words, line_of, InWords}
use Rattle.playing_line.proofs.Lengths.{line_short}
use Rattle.playing_answers.specs.Texts.{start_text, refused_text, found_text, answer_text, post_text, word_line}
use Rattle.playing_nights.specs.declared.Replay.{Replay}
use Rattle.playing_nights.specs.Fed.{channel_of, arrival_in, time_of, fed_with, line_for}
use Rattle.playing_nights.specs.Call.{next_count}
use Rattle.playing_batches.specs.Batched.{fed_one, lines_on}
use Rattle.playing_batches.specs.Words.{word_lines}

-- ---- the single call

pub called_table : (t : Table) (x : Rec) → (called_with t x).table ≡ (fed_with t x).table
called_table t (tick time c) = lent_next t (request.tick c time)
called_table t (frame time c x m bs) = lent_next t (request.frame c time m x bs)

called_word : (t : Table) (x : Rec) → (called_with t x).answer ≡ answer_word (fed_with t x).answer
called_word t (tick time c) = lent_word t (request.tick c time)
called_word t (frame time c x m bs) = lent_word t (request.frame c time m x bs)

within : (t : Table) (x : Rec) → Within 4095 (answer_outcome (fed_with t x).answer)
within t (tick time c) = reply_within t (request.tick c time)
within t (frame time c x m bs) = reply_within t (request.frame c time m x bs)

-- ---- a record changes no post's channel

place_fed : (t : Table) (c time : ℕ) (a : Arriving) (d : ℕ) → place_of (feed_of t c time a).table.posts d ≡ place_of t.posts d
unfolding feed_of feed_at
place_fed t c time a d =
    let h = (post_in t (place_in t c)).head in
    either (λ (r : Fed). place_of r.table.posts d ≡ place_of t.posts d) (is_channel c && ltb (place_in t c) post_count)
    (place_set t.posts (place_in t c) _ d (heard_holds h c time d (a h.limits)))
    refl

pub place_kept : (t : Table) (x : Rec) (d : ℕ) → place_of (fed_with t x).table.posts d ≡ place_of t.posts d
place_kept t x d = place_fed t (channel_of x) (time_of x) (arrival_in x) d

pub place_low : (ps : List Post) (c : ℕ) → place_of ps c ≤ length ps
unfolding place_of
place_low [] c = omega arith
place_low (p ∷ ps) c = either (λ (n : ℕ). n ≤ suc (length ps)) (holds p.head c) (omega arith) (omega (arith, place_low ps c))

-- ---- the line of a word is the line of its answer

-- a refusal's line, by its number and its start
by_cases : (n i : ℕ) (w : _) (b d : Bool) → eqb (number_of w) 1 ≡ b → eqb (number_of w) 5 ≡ d
    → numeral 10 n ++ (space ∷ (post_text i (eqb (number_of w) 1) ++ (space ∷ refused_text (number_of w) (start_of w)))) ≡ line_of n i (Err w)
unfolding post_text start_text line_of refused_words text_of
by_cases n i w true true e f = rw (e, f)
by_cases n i w true false e f = rw (e, f)
by_cases n i w false true e f = rw (e, f)
by_cases n i w false false e f = rw (e, f)

pub line_of_word : (n i : ℕ) (a : Answer) → Within 4095 (answer_outcome a) → word_line n i (answer_word a) ≡ line_of n i a
unfolding word_line answer_text post_text line_of text_of
line_of_word n i (Ok f) h = let l : ltb f 65536 ≡ true = lt-ltb f 65536 (omega arith) in rw l
line_of_word n i (Err w) h =
    let t = word_tells 4095 (refuses w) (omega arith) h in
    ap (λ (x : List ℕ). numeral 10 n ++ (space ∷ (post_text i (eqb (number_in (refusal_word w)) 1) ++ (space ∷ x)))) (ap (λ (b : Bool). cond b (found_text (refusal_word w)) (refused_text (number_in (refusal_word w)) (start_in (refusal_word w)))) t.told)
    ∙ ap₂ (λ (k s : ℕ). numeral 10 n ++ (space ∷ (post_text i (eqb k 1) ++ (space ∷ refused_text k s)))) t.number t.start
    ∙ by_cases n i w (eqb (number_of w) 1) (eqb (number_of w) 5) refl refl

-- ---- all records

pub words_lines : (xs : List Rec) (r : Replay) (ps : List Post) (rest : List ℕ) → ((c : ℕ) → place_of ps c ≡ place_of r.table.posts c)
    → word_lines ps r.count xs (words_of r.table xs ++ rest) ≡ lines_on r xs
unfolding word_lines words_of lines_on
words_lines [] r ps rest h = refl
words_lines (x ∷ xs) r ps rest h =
    let t : Table = r.table in
    let n : ℕ = next_count r.count in
    ap₂ (λ (l : List ℕ) (ls : List (List ℕ)). l ∷ ls)
    (ap₂ (λ (i w : ℕ). word_line n i w) (h (channel_of x)) (called_word t x) ∙ line_of_word n (place_of t.posts (channel_of x)) (fed_with t x).answer (within t x))
    (ap (λ (u : Table). word_lines ps n xs (words_of u xs ++ rest)) (called_table t x) ∙ words_lines xs (fed_one r x) ps rest (λ c. h c ∙ sym (place_kept t x c)))

in_words : (a : Answer) → Within 4095 (answer_outcome a) → InWords a
in_words (Ok n) h = omega arith
in_words (Err w) h = (omega (arith, number_small w), omega arith)

-- no line has more than 40 bytes
pub lines_short : (xs : List Rec) (r : Replay) → ((c : ℕ) → place_of r.table.posts c < 100) → length (text_of (lines_on r xs)) ≤ line_room * length xs
unfolding lines_on text_of
lines_short [] r h = omega arith
lines_short (x ∷ xs) r h =
    let t : Table = r.table in
    let line : List ℕ = line_for t (next_count r.count) x in
    let low : next_count r.count < 2 ^ 64 = mod-lt (r.count + 1) (omega arith) in
    let one = line_short (next_count r.count) (place_of t.posts (channel_of x)) (fed_with t x).answer low (h (channel_of x)) (in_words (fed_with t x).answer (within t x)) in
    omega (arith, length-append line (text_of (lines_on (fed_one r x) xs)), one, lines_short xs (fed_one r x) (λ c. omega (arith, place_kept t x c, h c)))
