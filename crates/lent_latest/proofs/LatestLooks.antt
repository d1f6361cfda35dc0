-- Over a post's history: what is handed out of a kind is its newest frame, since a post hears the messages of its own interface alone (`own_pages` and
-- `latest_of_kind`, watch_rules). A kind that the interface has not was never accepted, whatever stands in its place.
use Prim.Native.Nat.{ℕ, ◌<◌}
use native.Mathlib.Omega.{arith}
use mathlib.Core.Path.{◌≡◌, refl, ap, ◌∙◌, subst}
use mathlib.Core.Bool.{Bool, true, false, cond}
use mathlib.Core.List.{List}
use mathlib.Core.Option.{Option, none, some}
use lib.Dec.{eqb}
use lib.ListN.{get_or}
use Rattle.page_table.specs.Messages.{message_count}
use Rattle.rule_limits.specs.declared.PlainLimits.{PlainLimits}
use Rattle.page_table.specs.Interfaces.{interface_of}
use Rattle.rule_pages.specs.Places.{place_count, place_by}
use Rattle.rules.specs.declared.Post.{Post}
use Rattle.rules.specs.History.{History, Said, newest, of_kind}
use Rattle.rules.specs.Record.{at_place, unknown, slot_at, slot_of, latests}
use Rattle.rules.proofs.Counted.{count_at}
use Rattle.watch_rules.specs.declared.Table.{Table}
use Rattle.watch_rules.specs.Table.{post_count, no_post, post_in}
use Rattle.watch_rules.specs.Steps.{Steps, held, standing, kept_post, Kept}
use Rattle.watch_rules.specs.Run.{Request, run, accepted}
use Rattle.watch_rules.specs.Pages.{OnPages, OnOwn, only_of}
use Rattle.watch_rules.proofs.Placed.{post_at}
use Rattle.watch_rules.proofs.Demand.{run_kept}
use Rattle.watch_rules.proofs.Pages.{own_pages, latest_of_kind}
use Rattle.lent_latest.specs.Latest.{of_kind_in, kept_of}
use Rattle.rule_pages.proofs.Places.{place_small}

-- of what was found, what is of the kind
slot_only : (k : ℕ) (o : Option Said) → of_kind_in k (slot_of o) ≡ slot_of (only_of k o)
slot_only k none = go (eqb 0 k)
  where
    go : (b : Bool) → cond b unknown unknown ≡ unknown
    go true = refl
    go false = refl
slot_only k (some m) = go (eqb m.kind k)
  where
    go : (b : Bool) → cond b (slot_at m.time m.kind m.raw) unknown ≡ slot_of (cond b (some m) none)
    go true = refl
    go false = refl

module _ (t : Table) (s : Steps) (kept : Kept t s) (i c : ℕ) (lim : PlainLimits) (h : History) (low : i < post_count) (own : standing i s ≡ held c lim h) where
  in_place : (j : ℕ) → j < place_count → get_or (post_in t i).latest j unknown ≡ slot_of (newest (at_place j) h)
  unfolding latests
  in_place j l =
      ap (λ (p : Post). get_or p.latest j unknown) (ap (λ (ps : List Post). get_or ps i no_post) kept.posts ∙ post_at s i low ∙ ap kept_post own)
      ∙ count_at (λ m. slot_of (newest (at_place m) h)) unknown j 0 place_count j (omega arith) l

  -- of a history of its own interface's messages
  pub latest_right : OnPages (interface_of lim.interface) h → (k : ℕ) → k < message_count → kept_of t i k ≡ slot_of (newest (of_kind k) h)
  latest_right on k l =
      ap (of_kind_in k) (in_place (place_by k) (place_small k l)) ∙ slot_only k (newest (at_place (place_by k)) h)
      ∙ ap slot_of (latest_of_kind (interface_of lim.interface) h on k)

-- THEOREM: "the latest accepted message of each kind", after any requests
pub latest_of_run : (rs : List Request) (i c : ℕ) (lim : PlainLimits) (h : History) → i < post_count → standing i (accepted rs) ≡ held c lim h
    → (k : ℕ) → k < message_count → kept_of (run rs) i k ≡ slot_of (newest (of_kind k) h)
latest_of_run rs i c lim h low own = latest_right (run rs) (accepted rs) (run_kept rs) i c lim h low own (subst OnOwn own (own_pages rs i low))
