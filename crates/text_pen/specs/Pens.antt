-- A pen over a lent buffer: its place, and whether something did not fit. The two of them are a sheet.
use Rattle.std.specs.Prelude.{◌≡◌, ℕ, ◌+◌, Bool, true, false, cond, not, ◌&&◌, List, [], ◌∷◌, ◌++◌, leb, length, take, drop}
use Rattle.text_pen.specs.declared.Pen.{Pen}
use Rattle.text_pen.specs.declared.Sheet.{Sheet}

-- the pen at the buffer's front
abbrev pub new_pen : Pen
new_pen = record { at = 0; full = false }

-- n bytes more fit a buffer of room bytes
unfoldable pub has_room : ℕ → Pen → ℕ → Bool
has_room room p n = not p.full && leb (p.at + n) room

-- the pen after n bytes; where they do not fit it stays, and is full
unfoldable pub moved : ℕ → Pen → ℕ → Pen
moved room p n = cond (has_room room p n) (record { at = p.at + n; full = false }) (record { at = p.at; full = true })

-- the buffer then: text at the pen's place, and else as it was
unfoldable pub inked : List ℕ → Pen → List ℕ → List ℕ
inked out p text = cond (has_room (length out) p (length text)) (take p.at out ++ text ++ drop (p.at + length text) out) out

-- ---- words, each put after the one before; what follows a word that did not fit is left out

unfoldable pub moved_by : ℕ → Pen → List (List ℕ) → Pen
moved_by room p [] = p
moved_by room p (w ∷ ws) = moved_by room (moved room p (length w)) ws

unfoldable pub inked_by : List ℕ → Pen → List (List ℕ) → List ℕ
inked_by out p [] = out
inked_by out p (w ∷ ws) = inked_by (inked out p w) (moved (length out) p (length w)) ws

-- the words as one text: what stands in the buffer where there is room (the law `whole-text`)
unfoldable pub text_of : List (List ℕ) → List ℕ
text_of [] = []
text_of (w ∷ ws) = w ++ text_of ws

-- the sheet s with the words ws put on it
unfoldable pub with_words : Sheet → List (List ℕ) → Sheet
with_words s ws =
    record {
      out = record { ref_ptr = s.out.ref_ptr; ghost_name = s.out.ghost_name; now = inked_by s.out.now s.pen ws };
      pen = moved_by (length s.out.now) s.pen ws;
    }

-- the sheet s, on which the words ws were put, is t then
abbrev pub Wrote : Sheet → List (List ℕ) → Sheet → Type 0
Wrote s ws t = t ≡ with_words s ws
