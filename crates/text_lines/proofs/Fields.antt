-- A field by its word, for any way to read the word. Assumes nothing.
use mathlib.Core.Path.{◌≡◌}
use mathlib.Core.List.{List}
use Prim.Native.Nat.{ℕ, ◌+◌, ◌≤◌, ◌<◌}
use lib.ListN.{length}
use borrow.Author.Tests.{le-leb, lt-leb}
use Rattle.text_lines.specs.Lines.{word_end, word_at, as_field, field_by}
use Rattle.std.specs.Prelude.{Option, None}

module _ {A : Type 0} (read : List ℕ → Option A) (s : List ℕ) (at : ℕ) where
  pub past_end : length s < at → None ≡ field_by read s at
  past_end h = rw (lt-leb at (length s) h)

  pub in_line : (at ≤ length s) → (w : List ℕ) (next : ℕ) → w ≡ word_at s at → next ≡ word_end s at + 1 → as_field next (read w) ≡ field_by read s at
  in_line h w next e f = rw (e, f, le-leb at (length s) h)
