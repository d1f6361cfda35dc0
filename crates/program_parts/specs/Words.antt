-- What the programs print of a log, as the words that the pen puts one after the other.
use Rattle.std.specs.Prelude.{ℕ, Bool, cond, List, [], ◌∷◌, ◌++◌}
use Rattle.log_records.specs.declared.Entry.{Entry}
use Rattle.log_records.specs.Reading.{payload_of}
use Rattle.log_walk.specs.declared.Stand.{Stand}
use Rattle.log_walk.specs.declared.Stand.TheVariants as stand
use Rattle.notation_answers.specs.Answers.{named_words}
use Rattle.notation_endings.specs.Endings.{cut_words, bad_words}
use Rattle.text_numbers.specs.Ascii.{space}
use Rattle.text_numbers.specs.Numbers.{numeral}
use Rattle.text_written.specs.Words.{hex_words}

-- two numbers, and what stands between them
abbrev pub two_words : ℕ → List ℕ → ℕ → List (List ℕ)
two_words n between m = numeral 10 n ∷ between ∷ numeral 10 m ∷ []

-- ---- the words END, tick, frame and the forms of an identifier, as ASCII codes them

abbrev pub end_name : List ℕ
end_name = 69 ∷ 78 ∷ 68 ∷ []

abbrev pub tick_name : List ℕ
tick_name = 116 ∷ 105 ∷ 99 ∷ 107 ∷ 32 ∷ []

abbrev pub frame_name : List ℕ
frame_name = 102 ∷ 114 ∷ 97 ∷ 109 ∷ 101 ∷ 32 ∷ []

abbrev pub form_name : Bool → List ℕ
form_name extended = cond extended (32 ∷ 120 ∷ 32 ∷ []) (32 ∷ 115 ∷ 32 ∷ [])

-- ---- how a log ends, desk.md: `END`, `CUT@BYTE` or `BAD R<n>@BYTE`; a walk that is not at the log's end has no words

abbrev pub ending_words : Stand → ℕ → List (List ℕ)
ending_words stand.End at = end_name ∷ []
ending_words stand.Cut at = cut_words at
ending_words (stand.Bad why) at = bad_words why at
ending_words stand.Within at = []
ending_words stand.Seam at = []
ending_words stand.Short at = []

-- ---- a record: `tick CHANNEL TIME`, or `frame CHANNEL TIME ID x|s HEX`

abbrev pub stamp_words : List ℕ → Entry → List (List ℕ)
stamp_words word e = named_words word e.channel ++ named_words (space ∷ []) e.time

abbrev pub frame_words : List ℕ → Entry → List (List ℕ)
frame_words log e = (space ∷ []) ∷ numeral 16 e.id ∷ form_name e.extended ∷ hex_words (payload_of log e.start e.length)

unfoldable pub record_words : List ℕ → Entry → List (List ℕ)
record_words log e = cond e.tick (stamp_words tick_name e) (stamp_words frame_name e ++ frame_words log e)

-- ---- how a message begins: `PROGRAM: `, `PROGRAM: FILE` and words, or `PROGRAM: line N`

abbrev pub colon_space : List ℕ
colon_space = 58 ∷ 32 ∷ []

abbrev pub line_name : List ℕ
line_name = 108 ∷ 105 ∷ 110 ∷ 101 ∷ 32 ∷ []

abbrev pub program_words : List ℕ → List (List ℕ)
program_words program = program ∷ colon_space ∷ []

abbrev pub file_words : List ℕ → List ℕ → List ℕ → List (List ℕ)
file_words program name words = program ∷ colon_space ∷ name ∷ words ∷ []

abbrev pub line_words : List ℕ → ℕ → List (List ℕ)
line_words program line = program ∷ colon_space ∷ line_name ∷ numeral 10 line ∷ []

-- `PROGRAM: FILE: the file changed while it was read` and the line's end
abbrev pub changed_name : List ℕ
changed_name =
    58 ∷ 32 ∷ 116 ∷ 104 ∷ 101 ∷ 32 ∷ 102 ∷ 105 ∷ 108 ∷ 101 ∷ 32 ∷ 99 ∷ 104 ∷ 97 ∷ 110 ∷ 103 ∷ 101 ∷ 100 ∷ 32 ∷ 119 ∷ 104 ∷ 105 ∷ 108 ∷ 101 ∷ 32 ∷ 105 ∷ 116 ∷ 32 ∷ 119 ∷ 97 ∷ 115 ∷ 32 ∷ 114 ∷ 101 ∷ 97 ∷ 100 ∷ []

abbrev pub changed_words : List ℕ → List ℕ → List (List ℕ)
changed_words program name = file_words program name changed_name ++ [] ∷ (10 ∷ []) ∷ []
