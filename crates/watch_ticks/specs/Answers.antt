-- The answers that the operations gave to a post's accepted events since its latest set-up, newest first, read off a run of requests.
use Rattle.std.specs.Prelude.{ℕ, ◌%◌, ◌≡◌, List, [], ◌∷◌, cond, not, ◌&&◌, Ok, Err}
use Rattle.rules.specs.History.{Event, History}
use Rattle.watch_rules.specs.Answer.{Answer}
use Rattle.watch_rules.specs.Run.{Request, Reply, set, fed, reply, run, accepted, is_refusal, concerns}

-- an accepted set-up starts an empty list, and a release leaves none
abbrev pub answers_after : Reply → List Answer → List Answer
answers_after (set r) l = []
answers_after (fed w) l = w ∷ l

abbrev pub answers_to : ℕ → List Request → List Answer
answers_to i [] = []
answers_to i (a ∷ rs) = cond (concerns (accepted rs) a i && not (is_refusal (reply (run rs) a))) (answers_after (reply (run rs) a) (answers_to i rs)) (answers_to i rs)

-- of some event of a history, over what came before it, and of the answer to it
pub data SomeAnswer (P : History → Event → Answer → Type 0) : History → List Answer → Type 0 where
  here : {e : Event} {h : History} {w : Answer} {l : List Answer} → P h e w → SomeAnswer P (e ∷ h) (w ∷ l)
  there : {e : Event} {h : History} {w : Answer} {l : List Answer} → SomeAnswer P h l → SomeAnswer P (e ∷ h) (w ∷ l)

-- an answer with finding 1, "bit k - 1 of the answer"
abbrev pub HasF1 : Answer → Type 0
HasF1 (Ok n) = n % 2 ≡ 1
HasF1 (Err w) = ⊥
