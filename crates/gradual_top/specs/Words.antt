-- The word that stands at a place of a text. This project's own.
use Rattle.std.specs.Prelude.{ℕ, zero, suc, ◌-◌, Bool, List, [], ◌∷◌, drop, nat_le, ◌==◌, ◌&&◌, ◌||◌, if◌then◌else◌}
use Rattle.gc0_base.specs.declared.place.Place.{Place}

-- the text behind the end of its first line
abbrev pub behind_line : List ℕ → List ℕ
behind_line [] = []
behind_line (b ∷ bs) = if b == 10 then bs else behind_line bs

-- the text behind so many line ends
abbrev pub behind_ends : ℕ → List ℕ → List ℕ
behind_ends zero text = text
behind_ends (suc n) text = behind_ends n (behind_line text)

-- the text from a line on, counted from 1
abbrev pub behind_lines : List ℕ → ℕ → List ℕ
behind_lines text line = behind_ends (line - 1) text

-- the text from a column on, counted from 1
abbrev pub behind_columns : List ℕ → ℕ → List ℕ
behind_columns text column = drop (column - 1) text

-- a letter, a digit or `_`
abbrev pub is_word_byte : ℕ → Bool
is_word_byte b = (nat_le 48 b && nat_le b 57) || ((nat_le 65 b && nat_le b 90) || ((nat_le 97 b && nat_le b 122) || b == 95))

-- the longest run of letters, digits and `_` in front of a text
abbrev pub front_word : List ℕ → List ℕ
front_word [] = []
front_word (b ∷ bs) = if is_word_byte b then b ∷ front_word bs else []

abbrev pub word_at : List ℕ → Place → List ℕ
word_at text place = front_word (behind_columns (behind_lines text place.line) place.column)
