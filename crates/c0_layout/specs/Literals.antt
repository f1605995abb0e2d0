-- How number literals and string literals are printed.
use Rattle.std.specs.Prelude.{ℕ, ◌+◌, ◌/◌, ◌%◌, ◌==◌, nat_lt, nat_le, List, [], ◌∷◌, ◌++◌, map, Option, Some, None, codes, decimal, if◌then◌else◌}
use Rattle.c0_layout.specs.Lists.{all_text}

-- a hexadecimal digit, with capital letters
abbrev pub capital_digit : ℕ → ℕ
capital_digit d = if nat_lt d 10 then 48 + d else 55 + d

abbrev pub eight_digits : ℕ → List ℕ
eight_digits n =
    map capital_digit (n / 268435456 ∷ n / 16777216 % 16 ∷ n / 1048576 % 16 ∷ n / 65536 % 16 ∷ n / 4096 % 16 ∷ n / 256 % 16 ∷ n / 16 % 16 ∷ n % 16 ∷ [])

-- decimal up to 2^31, the last literal in decimal that a text may have, and else hexadecimal
abbrev pub literal_text : ℕ → List ℕ
literal_text n = if nat_le n 2147483648 then decimal n else codes "0x" ++ eight_digits n

-- the letter of the escape by which a byte is printed: the quote, the backslash and the bytes that no
-- text may have stand for themselves in no string
abbrev pub escape_letter : ℕ → Option ℕ
escape_letter b =
    if b == 10 then Some 110  -- \n
    else if b == 9 then Some 116  -- \t
    else if b == 11 then Some 118  -- \v
    else if b == 8 then Some 98  -- \b
    else if b == 13 then Some 114  -- \r
    else if b == 12 then Some 102  -- \f
    else if b == 7 then Some 97  -- \a
    else if b == 92 then Some 92  -- \\
    else if b == 34 then Some 34  -- \"
    else None

abbrev pub escaped : ℕ → Option ℕ → List ℕ
escaped b (Some letter) = 92 ∷ letter ∷ []
escaped b None = b ∷ []

abbrev pub character_text : ℕ → List ℕ
character_text b = escaped b (escape_letter b)

abbrev pub string_text : List ℕ → List ℕ
string_text bytes = codes "\"" ++ (all_text character_text bytes ++ codes "\"")
