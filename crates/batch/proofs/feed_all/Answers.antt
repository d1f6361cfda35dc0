-- `batch::feed_all` meets its contract: a record that is found is fed to its post as a single call would be, and where none is found nothing is left.
use Rattle.std.proofs.Common.{rules, arith, ◌≡◌, ◌<◌, sym, ap, ap₂, ◌∙◌, refl, ℕ, List, [], length}
use Rattle.std.proofs.Math.Option.{none}
use lib.ListN.{length-map}
use Rattle.rules.proofs.Unmapped.{unmapped}
use Rattle.rules.specs.declared.Post.{Post}
use Rattle.watch_rules.specs.declared.Table.{Table}
use Rattle.watch_rules.specs.Table.{post_count}
use Rattle.log_records.specs.declared.Entry.{Entry}
use Rattle.log_records.specs.declared.Found.{Found}
use Rattle.log_records.specs.declared.Found.TheVariants.{Record, End, Cut, Refused}
use Rattle.log_records.specs.Reading.{Log, onward, log_of, records_in}
use Rattle.log_records.proofs.Entries.{entry_lies}
use Rattle.log_read.proofs.Scans.{log_at}
use Rattle.batch_rules.specs.Batch.{table_after, answers_by}
use Rattle.batch.specs.Parts.{joined}
use Rattle.batch.proofs.Joined.{joined_posts, latest_kept, latest_left, heard_read}
use Rattle.batch.proofs.Turns.{start, has_place, turn, stop}
use Rattle.batch.proofs.feed_all.Goals as goal

pub loop-e-init : goal.loop-e-init
loop-e-init c =
    let a = c.args in
    let n : length a.t.posts ≡ post_count = search unmapped in
    let hs = c.heads_of-heads.result in
    let ls = c.latest_of-latest.result in
    let eh = c.heads_of-heads.ensures in
    let el = c.latest_of-latest.ensures in
    start (record { posts = joined hs ls; index = a.t.index; refused = a.t.refused }) a.log.now a.answers.now c.requires hs ls (ap length eh ∙ length-map a.t.posts (λ p. p.head) ∙ n) (ap length el ∙ length-map a.t.posts (λ p. p.latest) ∙ n)
    refl

-- where no record is found there is nothing left
none_found : (s : List ℕ) (go : ℕ → Log) (f : Found) → ((e : Entry) → f ≡ Record e → ⊥) → records_in (onward s go f) ≡ []
unfolding records_in
none_found s go (Record e) h = absurd (h e refl)
none_found s go End h = refl
none_found s go (Cut at) h = refl
none_found s go (Refused w at) h = refl

pub returns-in_default : goal.returns-in_default
returns-in_default c =
    let l = c.loop-e in
    let a = c.args in
    let w = stop _ a.log.now a.answers.now l.answers l.heads l.latest l.refused l.at l.n l.invariant c.record_at.result c.record_at.ensures (none_found a.log.now (log_at a.log.now) c.record_at.result c.in_default.not-Record) c.requires in
    let back = ap₂ joined c.heads_of-heads.ensures c.latest_of-latest.ensures ∙ joined_posts a.t.posts in
    let whole : List Post → Table = λ (ps : List Post). record { posts = ps; index = a.t.index; refused = a.t.refused } in (
      c.table_of.ensures ∙ w.0 ∙ ap (λ (ps : List Post). table_after (whole ps) (records_in (log_of a.log.now))) back,
      w.1 ∙ ap (λ (ps : List Post). answers_by none (whole ps) (records_in (log_of a.log.now)) a.answers.now) back,
    )

pub arrival_of-a-requires : goal.arrival_of-a-requires
arrival_of-a-requires c =
    let e = c.in-Record in
    (entry_lies c.args.log.now c.loop-e.at e.e (sym c.record_at.ensures ∙ e.is)).0

pub bounds-answers-n : goal.bounds-answers-n
bounds-answers-n c =
    let l = c.loop-e in
    let a = c.args in
    let e = c.in-Record in
    has_place _ a.log.now a.answers.now l.answers l.heads l.latest l.refused l.at l.n l.invariant e.e (sym c.record_at.ensures ∙ e.is)

pub overflow_add-n : goal.overflow_add-n
overflow_add-n c =
    let l = c.loop-e in
    let p : l.n < length l.answers = bounds-answers-n c in
    search (rules, l.invariant.2)

pub loop-e-smaller-then-k-lt-PLACES : goal.loop-e-smaller-then-k-lt-PLACES
loop-e-smaller-then-k-lt-PLACES c =
    let e = c.in-Record in
    let w = entry_lies c.args.log.now c.loop-e.at e.e (sym c.record_at.ensures ∙ e.is) in
    omega (arith, w.1, w.2)

pub loop-e-preserved-then-k-lt-PLACES : goal.loop-e-preserved-then-k-lt-PLACES
loop-e-preserved-then-k-lt-PLACES c =
    let l = c.loop-e in
    let a = c.args in
    let e = c.in-Record in
    let i = c.indexed_place-i in
    let r = c.hear-r in
    turn _ a.log.now a.answers.now l.answers l.heads l.latest l.refused l.at l.n l.invariant e.e (sym c.record_at.ensures ∙ e.is) i.result i.ensures.1 i.ensures.0 r.result (heard_read _ a.log.now e.e _ _ c.arrival_of-a.ensures r.ensures.by_record) c.refused_after-refused.result c.refused_after-refused.ensures c.answer_word.result c.answer_word.ensures _
    (latest_kept l.heads l.latest a.t.index l.refused i.result (omega (arith, l.invariant.0, i.ensures.1)) (omega (arith, l.invariant.1, i.ensures.1)) r.result c.if-k-lt-PLACES.true)

pub loop-e-smaller : goal.loop-e-smaller
loop-e-smaller c =
    let e = c.in-Record in
    let w = entry_lies c.args.log.now c.loop-e.at e.e (sym c.record_at.ensures ∙ e.is) in
    omega (arith, w.1, w.2)

pub loop-e-preserved : goal.loop-e-preserved
loop-e-preserved c =
    let l = c.loop-e in
    let a = c.args in
    let e = c.in-Record in
    let i = c.indexed_place-i in
    let r = c.hear-r in
    turn _ a.log.now a.answers.now l.answers l.heads l.latest l.refused l.at l.n l.invariant e.e (sym c.record_at.ensures ∙ e.is) i.result i.ensures.1 i.ensures.0 r.result (heard_read _ a.log.now e.e _ _ c.arrival_of-a.ensures r.ensures.by_record) c.refused_after-refused.result c.refused_after-refused.ensures c.answer_word.result c.answer_word.ensures _
    (latest_left l.heads l.latest a.t.index l.refused i.result (omega (arith, l.invariant.0, i.ensures.1)) (omega (arith, l.invariant.1, i.ensures.1)) r.result c.if-k-lt-PLACES.false)
