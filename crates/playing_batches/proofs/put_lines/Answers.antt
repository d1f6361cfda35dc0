-- `playing_batches::put_lines`: a turn, no record, and no word left (`Turns.antt`).
use Rattle.std.proofs.Common.{◌≡◌, ⊎_elim, length, refl, ap, ◌∙◌}
use Rattle.std.specs.Iterator.Adapters.{zip_first, zip_second}
use Rattle.std.specs.Slice.Iter.{iter_rest}
use Rattle.rules.proofs.Unmapped.{unmapped}
use Rattle.watch_rules.specs.Table.{post_count}
use Rattle.log_read.proofs.Scans.{over_start, over_more, over_end}
use Rattle.playing_batches.proofs.Turns.{start, turn, stop, stop_full}
use Rattle.playing_batches.proofs.put_lines.Goals as goal

pub loop-word-init : goal.loop-word-init
loop-word-init c =
    let e = c.into_iter-word-iterator.ensures.into_iter_gives in
    let z = c.zip-word-items.ensures in (
      0,
      over_start (ap zip_second e ∙ z.second) c.new.ensures,
      start c.args.t.posts c.args.count c.args.log.now c.args.words.now c.args.sheet.now (ap (λ w. iter_rest (zip_first w)) e ∙ ap iter_rest z.first ∙ c.iter.ensures.rest)
          c.requires,
    )

pub loop-word-preserved : goal.loop-word-preserved
loop-word-preserved c =
    let a = c.args in
    let l = c.loop-word in
    let z = c.in-Some.ensures.steps in
    let o = over_more l.invariant.1 z.1 refl in (
      c.in-Some.e.next,
      o.1,
      turn a.t.posts a.count a.log.now a.words.now a.sheet.now l.sheet l.k l.invariant.0 _ l.invariant.2 c.in-Some.e o.0 _ _ z.0 refl c.place-post.ensures.0 c.put_line.ensures,
    )

pub returns : goal.returns
returns c =
    let a = c.args in
    let l = c.loop-word in
    let w = c.well_formed in
    let n : length a.t.posts ≡ post_count = search (unmapped, w) in
    let z = c.in-None.ensures.steps in (
      ⊎_elim (λ u. stop_full a.t.posts a.count a.log.now a.words.now a.sheet.now l.sheet l.k l.invariant.0 _ l.invariant.2 u.1.0)
          (λ u. stop a.t.posts a.count a.log.now a.words.now a.sheet.now l.sheet l.k l.invariant.0 _ l.invariant.2 _ (over_end l.invariant.1 u.1 refl)) z,
      n,
    )
