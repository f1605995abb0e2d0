-- What the words, symbols, numbers and strings of C0 are spelled as (C0 Reference, "Lexical structure").
use Rattle.std.specs.Prelude.{◌≡◌, ℕ, ◌+◌, ◌-◌, ◌*◌, ◌^◌, ◌==◌, ◌&&◌, ◌||◌, Bool, true, false, not, nat_le, List, [], ◌∷◌, length, drop, fold, codes, Option, Some, None, IsTrue, is_some, unwrap_or, if◌then◌else◌}
use Rattle.std.specs.List.{list_all}
use Rattle.c0_lex.specs.declared.token.Keyword.{Keyword}
use Rattle.c0_lex.specs.declared.token.Keyword.TheVariants as word
use Rattle.c0_lex.specs.declared.token.Symbol.{Symbol}
use Rattle.c0_lex.specs.declared.token.Symbol.TheVariants as sign
use Rattle.c0_lex.specs.Bytes.{is_digit, is_hexadecimal_digit, is_printable, is_quote, is_backslash, begins_with, begins}

abbrev pub keyword_bytes : Keyword → List ℕ
keyword_bytes word.Int = codes "int"
keyword_bytes word.Bool = codes "bool"
keyword_bytes word.Void = codes "void"
keyword_bytes word.Struct = codes "struct"
keyword_bytes word.Typedef = codes "typedef"
keyword_bytes word.If = codes "if"
keyword_bytes word.Else = codes "else"
keyword_bytes word.While = codes "while"
keyword_bytes word.For = codes "for"
keyword_bytes word.Return = codes "return"
keyword_bytes word.Assert = codes "assert"
keyword_bytes word.Error = codes "error"
keyword_bytes word.True = codes "true"
keyword_bytes word.False = codes "false"
keyword_bytes word.Null = codes "NULL"
keyword_bytes word.Alloc = codes "alloc"
keyword_bytes word.String = codes "string"
keyword_bytes word.Char = codes "char"
keyword_bytes word.Break = codes "break"
keyword_bytes word.Continue = codes "continue"
keyword_bytes word.AllocArray = codes "alloc_array"
keyword_bytes word.Requires = codes "requires"
keyword_bytes word.Ensures = codes "ensures"
keyword_bytes word.LoopInvariant = codes "loop_invariant"
keyword_bytes word.Fold = codes "fold"
keyword_bytes word.Unfold = codes "unfold"
keyword_bytes word.Predicate = codes "predicate"
keyword_bytes word.Acc = codes "acc"
keyword_bytes word.Outcome = 92 ∷ codes "result"

-- a keyword inside annotations alone
abbrev pub is_annotation_word : Keyword → Bool
is_annotation_word word.Requires = true
is_annotation_word word.Ensures = true
is_annotation_word word.LoopInvariant = true
is_annotation_word word.Fold = true
is_annotation_word word.Unfold = true
is_annotation_word word.Predicate = true
is_annotation_word word.Acc = true
is_annotation_word word.Outcome = true
is_annotation_word k = false

abbrev pub symbol_bytes : Symbol → List ℕ
symbol_bytes sign.OpenParen = codes "("
symbol_bytes sign.CloseParen = codes ")"
symbol_bytes sign.OpenBrace = codes "{"
symbol_bytes sign.CloseBrace = codes "}"
symbol_bytes sign.Comma = codes ","
symbol_bytes sign.Semicolon = codes ";"
symbol_bytes sign.Arrow = codes "->"
symbol_bytes sign.Assign = codes "="
symbol_bytes sign.AddAssign = codes "+="
symbol_bytes sign.SubAssign = codes "-="
symbol_bytes sign.MulAssign = codes "*="
symbol_bytes sign.DivAssign = codes "/="
symbol_bytes sign.RemAssign = codes "%="
symbol_bytes sign.AndAssign = codes "&="
symbol_bytes sign.XorAssign = codes "^="
symbol_bytes sign.OrAssign = codes "|="
symbol_bytes sign.ShlAssign = codes "<<="
symbol_bytes sign.ShrAssign = codes ">>="
symbol_bytes sign.Increment = codes "++"
symbol_bytes sign.Decrement = codes "--"
symbol_bytes sign.Not = codes "!"
symbol_bytes sign.Tilde = codes "~"
symbol_bytes sign.Minus = codes "-"
symbol_bytes sign.Star = codes "*"
symbol_bytes sign.Slash = codes "/"
symbol_bytes sign.Percent = codes "%"
symbol_bytes sign.Plus = codes "+"
symbol_bytes sign.ShiftLeft = codes "<<"
symbol_bytes sign.ShiftRight = codes ">>"
symbol_bytes sign.Less = codes "<"
symbol_bytes sign.LessEq = codes "<="
symbol_bytes sign.Greater = codes ">"
symbol_bytes sign.GreaterEq = codes ">="
symbol_bytes sign.Equal = codes "=="
symbol_bytes sign.NotEqual = codes "!="
symbol_bytes sign.And = codes "&"
symbol_bytes sign.Xor = codes "^"
symbol_bytes sign.Or = codes "|"
symbol_bytes sign.Both = codes "&&"
symbol_bytes sign.Either = codes "||"
symbol_bytes sign.Question = codes "?"
symbol_bytes sign.Colon = codes ":"

-- ---- Numbers
-- the number that decimal digits write
abbrev pub decimal_value : List ℕ → ℕ
decimal_value text = fold (λ n d. 10 * n + (d - 48)) 0 text

-- digits without a leading zero, up to 2^31
abbrev pub is_decimal : List ℕ → Bool
is_decimal text =
    list_all is_digit text && (nat_le (length text) 1 || not (begins_with (λ b. b == 48) text)) && nat_le (decimal_value text) (2 ^ 31)

-- what a hexadecimal digit stands for: behind the digits come the letters, in both cases
abbrev pub digit_value : ℕ → ℕ
digit_value b = if is_digit b then b - 48 else if nat_le 97 b then b - 87 else b - 55

-- the number that hexadecimal digits write
abbrev pub hexadecimal_value : List ℕ → ℕ
hexadecimal_value text = fold (λ n d. 16 * n + digit_value d) 0 text

-- `0x` or `0X`, and one to eight hexadecimal digits
abbrev pub is_hexadecimal : List ℕ → Bool
is_hexadecimal text =
    (begins text (codes "0x") || begins text (codes "0X")) && nat_le 3 (length text) && nat_le (length text) 10 && list_all is_hexadecimal_digit (drop 2 text)

-- the word that a number stands for; 2147483648 is the word of -2^31
abbrev pub number_of : List ℕ → Option ℕ
number_of text =
    if is_decimal text then Some (decimal_value text)
    else if is_hexadecimal text then Some (hexadecimal_value (drop 2 text))
    else None

-- ---- Strings
-- the byte that an escape stands for, by the byte behind its backslash
abbrev pub escape_value : ℕ → Option ℕ
escape_value b =
    if b == 110 then Some 10  -- \n
    else if b == 116 then Some 9  -- \t
    else if b == 118 then Some 11  -- \v
    else if b == 98 then Some 8  -- \b
    else if b == 114 then Some 13  -- \r
    else if b == 102 then Some 12  -- \f
    else if b == 97 then Some 7  -- \a
    else if b == 92 then Some 92  -- \\
    else if b == 39 then Some 39  -- \'
    else if b == 34 then Some 34  -- \"
    else None

abbrev pub is_escape : ℕ → Bool
is_escape b = is_some (escape_value b)

-- one character of a string: a byte that stands for itself, or an escape
pub data Character : Type 0 where
  plain : (byte : ℕ) → Character
  escape : (letter : ℕ) → (value : ℕ) → Character

abbrev pub IsCharacter : Character → Type 0
IsCharacter (plain b) = IsTrue (is_printable b && not (is_quote b) && not (is_backslash b))
IsCharacter (escape letter value) = escape_value letter ≡ Some value

abbrev pub AreCharacters : List Character → Type 0
AreCharacters [] = Unit {0}
AreCharacters (c ∷ cs) = IsCharacter c × AreCharacters cs

-- the bytes of characters, in front of others
abbrev pub spelled_string : List Character → List ℕ → List ℕ
spelled_string [] rest = rest
spelled_string (plain b ∷ cs) rest = b ∷ spelled_string cs rest
spelled_string (escape letter value ∷ cs) rest = 92 ∷ letter ∷ spelled_string cs rest

-- the bytes that characters stand for
abbrev pub character_values : List Character → List ℕ
character_values [] = []
character_values (plain b ∷ cs) = b ∷ character_values cs
character_values (escape letter value ∷ cs) = value ∷ character_values cs

-- a string with its quotes
abbrev pub quoted : List Character → List ℕ
quoted cs = 34 ∷ spelled_string cs (34 ∷ [])

-- the byte that an escape stands for, and any other byte itself
abbrev pub escape_byte : ℕ → ℕ
escape_byte b = unwrap_or (escape_value b) b

-- what bytes behind a first quote stand for, up to the next quote that is no escape's
abbrev pub contents : List ℕ → List ℕ
contents [] = []
contents (a ∷ []) = if is_quote a then [] else a ∷ []
contents (a ∷ b ∷ bs) =
    if is_quote a then []
    else if is_backslash a then escape_byte b ∷ contents bs
    else a ∷ contents (b ∷ bs)

-- what the text of a string stands for
abbrev pub unescaped : List ℕ → List ℕ
unescaped text = contents (drop 1 text)

-- of the characters of a string it is what they stand for
abbrev pub QuotedMeans : Type 0
QuotedMeans = (cs : List Character) → AreCharacters cs → unescaped (quoted cs) ≡ character_values cs
