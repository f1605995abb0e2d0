-- How a text is seen: as the words of its lines. Comments have no words.
use Rattle.std.specs.Prelude.{ℕ, Bool, List, [], ◌∷◌, ◌++◌, nat_le, ◌==◌, ◌&&◌, ◌||◌, if◌then◌else◌, map}

-- a space, or a byte from a tab to a carriage return
abbrev pub is_space : ℕ → Bool
is_space b = b == 32 || (nat_le 9 b && nat_le b 13)

-- what lies between line ends, where `line` has begun; the last line needs no end
abbrev pub lines_in : (line text : List ℕ) → List (List ℕ)
lines_in line [] = line ∷ []
lines_in line (b ∷ text) = if b == 10 then line ∷ lines_in [] text else lines_in (line ++ b ∷ []) text

abbrev pub lines_of : List ℕ → List (List ℕ)
lines_of text = lines_in [] text

-- a word that has ended, in front of those behind it; what has no byte is no word
abbrev pub ended : (word : List ℕ) → List (List ℕ) → List (List ℕ)
ended [] words = words
ended (b ∷ word) words = (b ∷ word) ∷ words

-- what lies between spaces, where `word` has begun
abbrev pub words_in : (word line : List ℕ) → List (List ℕ)
words_in word [] = ended word []
words_in word (b ∷ line) = if is_space b then ended word (words_in [] line) else words_in (word ++ b ∷ []) line

abbrev pub words_of : List ℕ → List (List ℕ)
words_of line = words_in [] line

-- the words of a line that isn't a comment; a comment begins with `c`
abbrev pub row_of : List ℕ → List (List ℕ)
row_of [] = []
row_of (b ∷ line) = if b == 99 then [] else words_of (b ∷ line)

abbrev pub rows_of : List ℕ → List (List (List ℕ))
rows_of text = map row_of (lines_of text)
