-- The lines of a script that say nothing. desk.md: "Blank lines and lines whose first character is `#`, however long, are skipped".
use Rattle.std.specs.Prelude.{ℕ, Bool, true, List, [], ◌∷◌, eqb}

abbrev pub hash : ℕ
hash = 35

unfoldable pub skipped : List ℕ → Bool
skipped [] = true
skipped (c ∷ cs) = eqb c hash
