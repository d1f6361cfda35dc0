-- What need not be stored: a head that refuses is as it was and fills no slot; one that takes leaves the count of what was refused as it was.
-- So an entry stores the head and its slot where what comes is taken, and else the count alone.
--     Apart p n r      that, of the step r of the head p, where n were refused before
-- Assumes nothing.
use Prim.Native.Nat.{ℕ}
use mathlib.Core.Path.{◌≡◌, refl}
use mathlib.Core.Bool.{Bool, true, false, cond, not, ◌&&◌}
use lib.Dec.{T as Holds}
use Rattle.rules.specs.declared.Head.{Head}
use Rattle.rules.specs.Record.{place_count}
use Rattle.rules.specs.After.{is_early, is_full_in, after_tick, after_frame}
use Rattle.refusals.specs.declared.Refusal.{Refusal}
use Rattle.refusals.specs.declared.Refusal.TheVariants.{ChannelFree, Earlier, CountFull}
use Rattle.watch_hear.specs.watch_rules.specs.declared.Heard.{Heard}
use Rattle.watch_hear.specs.watch_rules.specs.declared.Arrival.{Arrival}
use Rattle.watch_hear.specs.watch_rules.specs.declared.Arrival.TheVariants.{Tick, Frame, Unread}
use Rattle.watch_hear.specs.watch_rules.specs.Table.{is_channel, holds, turned_away, heard_by, judged_of, heard_of}
use Rattle.lent_step.specs.One.{worded_by}
use Rattle.lent_step.specs.declared.Worded.{Worded}

abbrev pub Apart : Head → ℕ → Worded → Type 0
Apart p n r = (Holds r.taken → r.refused ≡ n) × (Holds (not r.taken) → (r.head ≡ p) × (r.at ≡ place_count))

module _ (p : Head) (n : ℕ) where
  turned_apart : (w : Refusal) → Apart p n (worded_by n (turned_away p w))
  turned_apart w = ((λ y. absurd y), (λ y. (refl, refl)))

  -- of two, whichever is chosen
  either : (y : Bool) (r s : Heard) → Apart p n (worded_by n r) → Apart p n (worded_by n s) → Apart p n (worded_by n (cond y r s))
  either true r s a b = a
  either false r s a b = b

  judged-apart : (t : ℕ) (a : Arrival) → Apart p n (worded_by n (judged_of p t a))
  judged-apart t Tick = either (is_full_in p) (turned_away p CountFull) (heard_by (after_tick p t)) (turned_apart CountFull) ((λ y. refl), (λ y. absurd y))
  judged-apart t (Frame k m) = either (is_full_in p) (turned_away p CountFull) (heard_by (after_frame p t k m)) (turned_apart CountFull) ((λ y. refl), (λ y. absurd y))
  judged-apart t (Unread w) = turned_apart w

  pub heard_apart : (c t : ℕ) (a : Arrival) → Apart p n (worded_by n (heard_of p c t a))
  unfolding heard_of
  heard_apart c t a =
      either (is_channel c && holds p c) (cond (is_early p t) (turned_away p Earlier) (judged_of p t a)) (turned_away p ChannelFree)
      (either (is_early p t) (turned_away p Earlier) (judged_of p t a) (turned_apart Earlier) (judged-apart t a)) (turned_apart ChannelFree)
