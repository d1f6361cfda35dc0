-- What a reader may rely on: words that fit are written whole. Assumes nothing.
use mathlib.Core.Path.{◌≡◌}
use mathlib.Core.List.{List, ◌++◌}
use Prim.Native.Nat.{ℕ, ◌+◌, ◌≤◌}
use lib.ListN.{length, take, drop}
use Rattle.text_pen.specs.Pens.{moved_by, inked_by, text_of}
use Rattle.text_pen.proofs.Written.{pen_at, in_turn_lem}

-- words that fit, put one after the other, are their text in one piece
pub whole_text : (ws : List (List ℕ)) (out : List ℕ) (at : ℕ) → at + length (text_of ws) ≤ length out
    → (moved_by (length out) (pen_at at) ws ≡ pen_at (at + length (text_of ws)))
    × (inked_by out (pen_at at) ws ≡ take at out ++ text_of ws ++ drop (at + length (text_of ws)) out)
whole_text = in_turn_lem
