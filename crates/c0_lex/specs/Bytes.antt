-- The bytes of a text (C0 Reference, "Lexical structure").
use Rattle.std.specs.Prelude.{ℕ, ◌==◌, ◌&&◌, ◌||◌, Bool, true, false, not, nat_le, nat_eq, List, [], ◌∷◌}
use Rattle.std.specs.List.{starts_with}

abbrev pub is_newline : ℕ → Bool
is_newline b = b == 10

abbrev pub is_not_newline : ℕ → Bool
is_not_newline b = not (is_newline b)

-- the space, the tab, the newline, and what stands between them and the carriage return
abbrev pub is_space : ℕ → Bool
is_space b = (nat_le 9 b && nat_le b 13) || (b == 32)

abbrev pub is_digit : ℕ → Bool
is_digit b = nat_le 48 b && nat_le b 57

-- a letter or an underscore
abbrev pub is_letter : ℕ → Bool
is_letter b = (nat_le 65 b && nat_le b 90) || (nat_le 97 b && nat_le b 122) || (b == 95)

-- what a word is made of
abbrev pub is_word_byte : ℕ → Bool
is_word_byte b = is_digit b || is_letter b

abbrev pub is_hexadecimal_digit : ℕ → Bool
is_hexadecimal_digit b = is_digit b || (nat_le 65 b && nat_le b 70) || (nat_le 97 b && nat_le b 102)

-- what may stand in a string
abbrev pub is_printable : ℕ → Bool
is_printable b = nat_le 32 b && nat_le b 126

abbrev pub is_quote : ℕ → Bool
is_quote b = b == 34

abbrev pub is_backslash : ℕ → Bool
is_backslash b = b == 92

-- `@`
abbrev pub is_at_sign : ℕ → Bool
is_at_sign b = b == 64

-- the text begins with such a byte
abbrev pub begins_with : (ℕ → Bool) → List ℕ → Bool
begins_with test [] = false
begins_with test (b ∷ bs) = test b

-- the text begins with these bytes
abbrev pub begins : List ℕ → List ℕ → Bool
begins text front = starts_with nat_eq text front

-- no word goes on here
abbrev pub ends_word : List ℕ → Bool
ends_word text = not (begins_with is_word_byte text)

-- the line ends here, by its newline or by the end of the text
abbrev pub ends_line : List ℕ → Bool
ends_line [] = true
ends_line (b ∷ bs) = is_newline b
