-- What `fed` and `write_batch` hand together, by the case that holds.
use Rattle.std.specs.Prelude.{Ok, Err}
use Rattle.std.proofs.Common.{◌≡◌, ℕ, ap₂, suc, ◌+◌, ◌/◌, ◌%◌, ◌^◌, ◌<◌, ◌≤◌, List, [], ◌∷◌, ◌++◌, length, drop, sym, refl, ap, ◌∙◌, subst, zero-add, arith, le-ltb, lt-ltb}
use mathlib.Core.Option.{Option, none, some}
use Rattle.refusals.specs.declared.Refusal.{Refusal}
use Rattle.refusals.specs.declared.Refusal.TheVariants.{BatchBytes, BatchRecord, BatchAnswers}
use Rattle.plain_words.specs.declared.Refused as word
use Rattle.plain_words.specs.Words.{refused_by, answer_in}
use Rattle.plain_words.proofs.WordLaws.{answer_back, refusal_back, answer_is}
use Rattle.log_records.specs.Record.{Rec}
use Rattle.log_records.specs.Reading.{log_of, records_in}
use Rattle.watch_rules.specs.declared.Table.{Table}
use Rattle.watch_rules.specs.Table.{place_of}
use Rattle.lent_runs.specs.lent_words.specs.Lent.{Lent}
use Rattle.batch.specs.batch_rules.specs.Batch.{table_after, words_of, why_batch, batch_by, answers_by as wordsBy, batch_of, answers_after}
use Rattle.batch.specs.batch_rules.specs.Cases.{Taken}
use Rattle.batch.specs.batch_rules.proofs.Laws.{by_why, few_records, accepted_word, accepted_batch, accepted_answers, answers_length}
use Rattle.batch.proofs.Judged.{why_none}
use Rattle.text_pen.specs.Pens.{text_of, moved_by, inked_by, new_pen, with_words, Wrote}
use Rattle.text_pen.specs.declared.Pen.{Pen}
use Rattle.text_pen.specs.declared.Sheet.{Sheet}
use Rattle.text_pen.proofs.Laws.{whole_text}
use Rattle.text_pen.proofs.Turns.{pen_after, text_after}
use Rattle.playing_line.specs.Lines.{laid}
use Rattle.playing_nights.specs.declared.Course.{Course}
use Rattle.playing_nights.specs.declared.Course.TheVariants as course
use Rattle.playing_nights.specs.declared.Replay.{Replay}
use Rattle.playing_nights.specs.Fed.{fed_with}
use Rattle.playing_nights.specs.Call.{next_count}
use Rattle.playing_batches.specs.declared.Unwritten.{Unwritten}
use Rattle.playing_batches.specs.declared.Unwritten.TheVariants.{SetUp, Refused}
use Rattle.playing_batches.specs.Batched.{Batched, fed_on, lines_on, room_for, why_of, on_course, why_not, batched_by, answers_by, lines_by, batched_of, answers_of, lines_of}
use Rattle.playing_batches.specs.Words.{word_lines}
use Rattle.playing_batches.proofs.Fours.{four_bytes}
use Rattle.playing_batches.proofs.Singly.{called_table, words_lines, lines_short}

-- ---- the replay behind records

count_on : (n l : ℕ) → ((n + 1) % 2 ^ 64 + l) % 2 ^ 64 ≡ (n + suc l) % 2 ^ 64
count_on n l = omega arith

fed_from : (xs : List Rec) (t : Table) (n : ℕ) → n < 2 ^ 64
    → fed_on (record { table = t; count = n; course = course.Records }) xs ≡ record { table = table_after t xs; count = (n + length xs) % 2 ^ 64; course = course.Records }
unfolding fed_on table_after
fed_from [] t n low = let e : n ≡ (n + 0) % 2 ^ 64 = omega arith in ap (λ (m : ℕ). record { table = t; count = m; course = course.Records }) e
fed_from (x ∷ xs) t n low =
    let q = sym (called_table t x) in
    fed_from xs (fed_with t x).table (next_count n) (omega arith)
    ∙ (λ i. record { table = table_after (q i) xs; count = count_on n (length xs) i; course = course.Records })

fed_some : (xs : List Rec) (r : Replay) → 0 < length xs
    → fed_on r xs ≡ record { table = table_after r.table xs; count = (r.count + length xs) % 2 ^ 64; course = course.Records }
unfolding fed_on table_after
fed_some [] r h = absurd (omega arith)
fed_some (x ∷ xs) r h =
    let q = sym (called_table r.table x) in
    fed_from xs (fed_with r.table x).table (next_count r.count) (omega arith)
    ∙ (λ i. record { table = table_after (q i) xs; count = count_on r.count (length xs) i; course = course.Records })

-- ---- a batch that the course lets through

module _ (r : Replay) (s ws out : List ℕ) where
  abbrev xs : List Rec
  xs = records_in (log_of s)

  abbrev t : Table
  t = r.table

  -- the answer b, the words a and the lines o are those of the case w
  abbrev Leaves : Option Unwritten → Batched → List ℕ → List ℕ → Type 0
  Leaves w b a o = (b ≡ batched_by w r xs) × (a ≡ answers_by w r xs ws) × (o ≡ lines_by w r xs out)

  abbrev pub Met : Batched → List ℕ → List ℕ → Type 0
  Met b a o = Leaves (why_of (why_batch s (length ws))) b a o

  -- where the batch's word in the case o tells the refusal w, its number is what the case leaves
  abbrev Numbered : Option Refusal → word.Refused → Type 0
  Numbered o w = answer_in (batch_by o t xs).answer ≡ Err w → Leaves (why_of o) (record { replay = r; answer = Err (Refused w.number) }) (wordsBy o t xs ws) out

  of_refusal : (v : Refusal) (w : word.Refused) → Numbered (some v) w
  of_refusal v w h =
      let k : refused_by v ≡ w = cc (refusal_back v) in
      (ap (λ (u : word.Refused). record { replay = r; answer = Err (Refused u.number) }) (sym k), refl, refl)

  pub refused : {f : Lent} {a : List ℕ} (w : word.Refused) → f ≡ batch_of t s (length ws) → a ≡ answers_after t s ws → answer_in f.answer ≡ Err w
      → Met (record { replay = r; answer = Err (Refused w.number) }) a out
  unfolding batch_of answers_after
  refused {f} {a} w e g = subst (λ (l : List ℕ). answer_in f.answer ≡ Err w → Met (record { replay = r; answer = Err (Refused w.number) }) l out) (sym g)
      (subst (λ (q : Lent). answer_in q.answer ≡ Err w → Met (record { replay = r; answer = Err (Refused w.number) }) (answers_after t s ws) out) (sym e)
      (by_why s (length ws) (λ o. Numbered o w) (λ l. of_refusal BatchBytes w) (λ b. of_refusal BatchRecord w) (λ n. of_refusal BatchAnswers w)
      (λ k h. let q = answer_back (length xs) (omega (arith, few_records s, k.0)) in cc)))

  module _ {f : Lent} {a : List ℕ} (e : f ≡ batch_of t s (length ws)) (g : a ≡ answers_after t s ws) (k : ℕ) (told : answer_in f.answer ≡ Ok k) where
    taken : Taken s (length ws)
    taken = (accepted_word s (length ws) t).0 (subst (λ (q : Lent). q.answer < 65536) e (answer_is f.answer k told).0)

    none-why : why_of (why_batch s (length ws)) ≡ none
    none-why = ap why_of (why_none s (length ws) taken.0 taken.1 taken.2)

    whole : f ≡ record { table = table_after t xs; answer = length xs }
    whole = e ∙ accepted_batch s (length ws) t taken

    count : k ≡ length xs
    count = sym (answer_is f.answer k told).1 ∙ ap (λ (q : Lent). q.answer) whole

    words : a ≡ words_of t xs ++ drop (length xs) ws
    words = g ∙ accepted_answers t s ws taken

    -- there is a word for each record
    pub enough : length (records_in (log_of s)) ≤ length a
    enough = omega (arith, taken.2, ap length g, answers_length t s ws)

    met : (b : Batched) (o : List ℕ) → Leaves none b a o → Met b a o
    met b o h = subst (λ (w : Option Unwritten). Leaves w b a o) (sym none-why) h

    no_record : (l : List Rec) → length l ≡ 0 → (record { replay = r; answer = Ok (record { records = 0; bytes = 0 }) } ≡ batched_by none r l) × (out ≡ lines_by none r l out)
    unfolding fed_on lines_on text_of
    no_record [] h = (refl, refl)
    no_record (x ∷ l) h = absurd (omega arith)

    pub nothing : k ≡ 0 → Met (record { replay = r; answer = Ok (record { records = 0; bytes = 0 }) }) a out
    nothing z =
        let n = no_record xs (sym count ∙ z) in
        met _ _ (n.0, words, n.1)

    module _ (room : room_for s ≤ length out) (places : (c : ℕ) → place_of r.table.posts c < 100) (y : Sheet) {z : Sheet} {o : List ℕ} (front : y.pen ≡ new_pen) (lent : y.out.now ≡ out)
        (wrote : Wrote y (word_lines t.posts r.count xs a) z) (kept : o ≡ z.out.now) where
      abbrev text : List ℕ
      text = text_of (lines_on r xs)

      lines : word_lines t.posts r.count xs a ≡ lines_on r xs
      lines = ap (word_lines t.posts r.count xs) words ∙ words_lines xs r t.posts (drop (length xs) ws) (λ c. refl)

      fits : 0 + length text ≤ length out
      fits = omega (arith, lines_short xs r places, four_bytes s)

      laid-text : (z.pen.at ≡ length text) × (o ≡ laid text out)
      laid-text =
          let ws : List (List ℕ) = lines_on r xs in
          let w : Wrote y ws z = wrote ∙ ap (with_words y) lines in
          let h = whole_text ws out 0 fits in
          let e : 0 + length text ≡ length text = zero-add (length text) in (
            ap (λ (q : Pen). q.at) (pen_after y ws w ∙ ap₂ (λ (l : List ℕ) (q : Pen). moved_by (length l) q ws) lent front ∙ h.0) ∙ e,
            kept ∙ text_after y ws w ∙ ap₂ (λ (l : List ℕ) (q : Pen). inked_by l q ws) lent front ∙ h.1 ∙ ap (λ (j : ℕ). text ++ drop j out) e,
          )

      pub some_lines : (k ≡ 0 → ⊥) → (n : ℕ) → n ≡ (r.count + k) % 2 ^ 64
          → Met (record { replay = record { table = f.table; count = n; course = course.Records }; answer = Ok (record { records = k; bytes = z.pen.at }) }) a o
      some_lines any n m =
          let l = count in
          let u : f.table ≡ table_after t xs = ap (λ (q : Lent). q.table) whole in
          let c : n ≡ (r.count + length xs) % 2 ^ 64 = m ∙ ap (λ (j : ℕ). (r.count + j) % 2 ^ 64) l in
          let x : 0 < length xs = omega arith in
          let b : record { replay = record { table = f.table; count = n; course = course.Records }; answer = Ok (record { records = k; bytes = z.pen.at }) } ≡ batched_by none r xs =
          (λ i. record { replay = record { table = u i; count = c i; course = course.Records }; answer = Ok (record { records = l i; bytes = laid-text.0 i }) })
          ∙ ap (λ (q : Replay). record { replay = q; answer = Ok (record { records = length xs; bytes = length text }) }) (sym (fed_some xs r x)) in
          met _ _ (b, words, laid-text.1)

-- ---- the cases before it

module _ (r : Replay) (s ws out : List ℕ) where
  -- what the case w leaves is what the batch leaves
  by_case : (w : Option Unwritten) (b : Batched) (a o : List ℕ) → why_not r s (length ws) (length out) ≡ w → Leaves r s ws out w b a o
      → (b ≡ batched_of r s (length ws) (length out)) × (a ≡ answers_of r s (length out) ws) × (o ≡ lines_of r s (length ws) out)
  unfolding batched_of answers_of lines_of
  by_case w b a o e h = (
    h.0 ∙ ap (λ (v : Option Unwritten). batched_by v r (records_in (log_of s))) (sym e),
    h.1 ∙ ap (λ (v : Option Unwritten). answers_by v r (records_in (log_of s)) ws) (sym e),
    h.2 ∙ ap (λ (v : Option Unwritten). lines_by v r (records_in (log_of s)) out) (sym e),
  )

  why-short : length out < room_for s → why_not r s (length ws) (length out) ≡ some (Refused 8)
  unfolding why_not
  why-short h = rw (lt-ltb (length out) (room_for s) h)

  why-on : (k : Course) → room_for s ≤ length out → r.course ≡ k → why_not r s (length ws) (length out) ≡ on_course k (why_of (why_batch s (length ws)))
  unfolding why_not
  why-on k h e = rw (le-ltb (length out) (room_for s) h, e)

  abbrev pub Written-by : Batched → List ℕ → List ℕ → Type 0
  Written-by b a o = (b ≡ batched_of r s (length ws) (length out)) × (a ≡ answers_of r s (length out) ws) × (o ≡ lines_of r s (length ws) out)

  pub short : length out / 10 < length s → Written-by (record { replay = r; answer = Err (Refused 8) }) ws out
  short h = by_case (some (Refused 8)) _ _ _ (why-short (omega arith)) (refl, refl, refl)

  module _ (h : length s ≤ length out / 10) where
    pub has_room_lem : room_for s ≤ length out
    has_room_lem = omega arith

    pub before_records : r.course ≡ course.SetUps → (b : Batched) (a o : List ℕ) → Met r s ws out b a o → Written-by b a o
    before_records e b a o m = by_case _ b a o (why-on course.SetUps has_room_lem e) m

    pub among_records : r.course ≡ course.Records → (b : Batched) (a o : List ℕ) → Met r s ws out b a o → Written-by b a o
    among_records e b a o m = by_case _ b a o (why-on course.Records has_room_lem e) m

    pub ended : (w : Refusal) → r.course ≡ course.Refused w → Written-by (record { replay = r; answer = Err (SetUp w) }) ws out
    ended w e = by_case _ _ _ _ (why-on (course.Refused w) has_room_lem e) (refl, refl, refl)
