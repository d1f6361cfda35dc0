-- A run of lent calls is the run by value, and its words tell the replies: what demand 3 says of `run` holds of the lent table.
use Rattle.std.specs.Prelude.{Ok, Err}
use Prim.Native.Nat.{◌≤◌, ◌<◌}
use native.Mathlib.Omega.{arith}
use mathlib.Core.Path.{◌≡◌, refl, ap, ◌∙◌, subst}
use mathlib.Core.List.{List, [], ◌∷◌}
use mathlib.Core.Bool.{Bool, true, false, not}
use lib.Dec.{ltb}
use borrow.Author.Tests.{ltb-true}
use Rattle.plain_words.specs.Words.{answers, is_accepted, Told}
use Rattle.plain_words.proofs.WordLaws.{word_tells}
use Rattle.watch_rules.specs.declared.Table.{Table}
use Rattle.watch_rules.specs.Run.{Request, setUp, release, frame, tick, Reply, set, fed, reply, next, run, reply01, accepted, after_refusal, is_refusal}
use Rattle.watch_rules.proofs.Refusing.{refused_table, refused_posts}
use Rattle.watch_rules.proofs.Demand.{every_answer}
use Rattle.lent_step.specs.lent_words.specs.Lent.{start_of, set_up_word, release_word}
use Rattle.lent_step.specs.Fed.{frame_word, tick_word}
use Rattle.lent_runs.specs.Runs.{lent_by, lent_run, outcome_of, word_of, most_of}
use Rattle.lent_runs.proofs.Small.{reply_within}

-- ---- one request, of any table

pub lent_next : (t : Table) (a : Request) → (lent_by t a).table ≡ next t a
unfolding set_up_word release_word frame_word tick_word
lent_next t (setUp i c lim) = refl
lent_next t (release i) = refl
lent_next t (frame c time m x bs) = refl
lent_next t (tick c time) = refl

pub lent_word : (t : Table) (a : Request) → (lent_by t a).answer ≡ word_of (reply t a)
unfolding set_up_word release_word frame_word tick_word
lent_word t (setUp i c lim) = refl
lent_word t (release i) = refl
lent_word t (frame c time m x bs) = refl
lent_word t (tick c time) = refl

most_small : (a : Request) → most_of a < 65536
most_small (setUp i c lim) = omega arith
most_small (release i) = omega arith
most_small (frame c time m x bs) = omega arith
most_small (tick c time) = omega arith

-- what a request's word tells, of every table: `Told` (plain_words)
pub lent_told : (t : Table) (a : Request) → Told (most_of a) (outcome_of (reply t a)) (lent_by t a).answer
lent_told t a = rw (lent_word t a) (word_tells (most_of a) (outcome_of (reply t a)) (most_small a) (reply_within t a))

pub start_told : (t : Table) → Told 0 (answers 0) (start_of t).answer
unfolding start_of
start_told t = word_tells 0 (answers 0) (omega arith) (omega arith)

accepted_not : (r : Reply) → is_accepted (outcome_of r) ≡ not (is_refusal r)
accepted_not (set (Ok tt)) = refl
accepted_not (set (Err w)) = refl
accepted_not (fed (Ok n)) = refl
accepted_not (fed (Err w)) = refl

-- "Below 65,536 a call was accepted" (the header), of every table
pub word_told : (t : Table) (a : Request) → ltb (lent_by t a).answer 65536 ≡ not (is_refusal (reply t a))
word_told t a = (lent_told t a).told ∙ accepted_not (reply t a)

refusal_told : (t : Table) (a : Request) → 65536 ≤ (lent_by t a).answer → is_refusal (reply t a) ≡ true
refusal_told t a l = go (is_refusal (reply t a)) refl
  where
    go : (b : Bool) → is_refusal (reply t a) ≡ b → is_refusal (reply t a) ≡ true
    go true e = e
    go false e = absurd (let z : ⊥ = omega (arith, ltb-true (lent_by t a).answer 65536 (word_told t a ∙ ap not e)) in z)

-- from there on a set-up or a release left the table as it was, and a frame or a tick with one more refused
pub lent_refused : (t : Table) (a : Request) → 65536 ≤ (lent_by t a).answer → (lent_by t a).table ≡ after_refusal t a
lent_refused t a l = lent_next t a ∙ refused_table t a (refusal_told t a l)

-- so that every post is as it was
pub refused_left : (t : Table) (a : Request) → 65536 ≤ (lent_by t a).answer → (lent_by t a).table.posts ≡ t.posts
refused_left t a l = ap (λ (u : Table). u.posts) (lent_next t a) ∙ refused_posts t a (refusal_told t a l)

-- ---- any requests

pub lent_run_lem : (t : Table) (rs : List Request) → lent_run t rs ≡ run rs
unfolding lent_run run start_of
lent_run_lem t [] = refl
lent_run_lem t (a ∷ rs) = lent_next (lent_run t rs) a ∙ ap (λ (u : Table). next u a) (lent_run_lem t rs)

-- each word is 01's reply, read afresh over the accepted requests
pub lent_answer : (t : Table) (rs : List Request) (a : Request) → (lent_by (lent_run t rs) a).answer ≡ word_of (reply01 (accepted rs) a)
lent_answer t rs a =
    lent_word (lent_run t rs) a ∙ ap (λ (u : Table). word_of (reply u a)) (lent_run_lem t rs) ∙ ap word_of (every_answer rs a)

-- and tells it
pub answer_told : (t : Table) (rs : List Request) (a : Request) → Told (most_of a) (outcome_of (reply01 (accepted rs) a)) (lent_by (lent_run t rs) a).answer
answer_told t rs a =
    subst (λ (r : Reply). Told (most_of a) (outcome_of r) (lent_by (lent_run t rs) a).answer) (ap (λ (u : Table). reply u a) (lent_run_lem t rs) ∙ every_answer rs a)
    (lent_told (lent_run t rs) a)
