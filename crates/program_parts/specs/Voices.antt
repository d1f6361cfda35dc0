-- A voice and its message.
use Rattle.std.specs.Prelude.{ℕ, List}
use Rattle.text_pen.specs.Pens.{new_pen, with_words}
use Rattle.program_parts.specs.declared.voice.Voice.{Voice}

-- the voice with these words behind its message so far
abbrev pub saying_more : Voice → List (List ℕ) → Voice
saying_more v ws = record v { sheet = with_words v.sheet ws }

-- the voice with a message of these words alone
abbrev pub saying : Voice → List (List ℕ) → Voice
saying v ws = record v { sheet = with_words (record { out = v.sheet.out; pen = new_pen }) ws }
