-- The lines that give the values of all variables: the format of the SAT competitions, in one form.
use Rattle.std.specs.Prelude.{ℕ, ◌+◌, Bool, List, [], ◌∷◌, ◌++◌, length, nat_le, if◌then◌else◌, codes}
use Rattle.sat_text.specs.Formulas.{lit_word}

-- the literal of each variable that is true, from variable i on, and a 0
abbrev pub value_words : ℕ → List Bool → List (List ℕ)
value_words i [] = codes "0" ∷ []
value_words i (value ∷ values) = lit_word (record { variable = i; positive = value }) ∷ value_words (i + 1) values

-- words behind so many columns of a line: each behind a space, or on the next line where it goes past 78
abbrev pub filled : ℕ → List (List ℕ) → List ℕ
filled column [] = codes "\n"
filled column (word ∷ words) =
    if nat_le (column + 1 + length word) 78 then codes " " ++ (word ++ filled (column + (1 + length word)) words) else codes "\nv " ++ (word ++ filled (2 + length word) words)

abbrev pub value_text : List Bool → List ℕ
value_text values = codes "v" ++ filled 1 (value_words 0 values)
