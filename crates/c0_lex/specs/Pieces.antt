-- The pieces that a text is made of: tokens, and what stands between them.
use Rattle.std.specs.Prelude.{◌≡◌, ◌≢◌, ◌≤◌, ◌⊎◌, ℕ, ◌&&◌, ◌||◌, Bool, true, false, not, List, [], ◌∷◌, ◌++◌, length, codes, Some, IsTrue}
use Rattle.std.specs.List.{list_all}
use Rattle.c0_lex.specs.declared.token.Keyword.{Keyword}
use Rattle.c0_lex.specs.declared.token.Symbol.{Symbol}
use Rattle.c0_lex.specs.declared.token.TokenKind.{TokenKind}
use Rattle.c0_lex.specs.declared.token.TokenKind.TheVariants as kind
use Rattle.c0_lex.specs.declared.token.Mode.{Mode}
use Rattle.c0_lex.specs.declared.token.Mode.TheVariants.{Outside, InLine, InBlock}
use Rattle.c0_lex.specs.Bytes.{is_not_newline, is_space, is_digit, is_letter, is_word_byte, is_at_sign, begins_with, begins, ends_word, ends_line}
use Rattle.c0_lex.specs.Words.{keyword_bytes, is_annotation_word, symbol_bytes, number_of, Character, AreCharacters, quoted}

abbrev pub is_inside : Mode → Bool
is_inside Outside = false
is_inside InLine = true
is_inside (InBlock opened) = true

-- ---- What stands between tokens
-- white space: in an annotation `@` as well, but not the `@` of the `@*/` that closes it, nor the
-- newline that ends it
abbrev pub is_blank : Mode → ℕ → List ℕ → Bool
is_blank Outside b rest = is_space b
is_blank InLine b rest = (is_space b && is_not_newline b) || is_at_sign b
is_blank (InBlock opened) b rest = is_space b || (is_at_sign b && not (begins rest (codes "*/")))

-- what stands behind the `/*` of a comment, up to its own `*/`
pub data Comment : Type 0 where
  closes : Comment
  byte : ℕ → Comment → Comment
  inner : Comment → Comment → Comment

abbrev pub comment_bytes : Comment → List ℕ
comment_bytes closes = codes "*/"
comment_bytes (byte b more) = b ∷ comment_bytes more
comment_bytes (inner c more) = codes "/*" ++ (comment_bytes c ++ comment_bytes more)

-- a `/*` or `*/` is no two bytes of its own
abbrev pub IsComment : Comment → Type 0
IsComment closes = Unit {0}
IsComment (byte b more) = IsTrue (not (begins (b ∷ comment_bytes more) (codes "/*")) && not (begins (b ∷ comment_bytes more) (codes "*/"))) × IsComment more
IsComment (inner c more) = IsComment c × IsComment more

-- ---- Tokens
-- keywords of annotations are words like others outside them
abbrev pub is_in_force : Mode → Keyword → Bool
is_in_force mode k = is_inside mode || not (is_annotation_word k)

-- a letter or underscore, and letters, underscores and digits
abbrev pub is_identifier : List ℕ → Bool
is_identifier bytes = begins_with is_letter bytes && list_all is_word_byte bytes

-- what is a number or a bad one: a digit, and letters, underscores and digits
abbrev pub is_digit_run : List ℕ → Bool
is_digit_run bytes = begins_with is_digit bytes && list_all is_word_byte bytes

-- a `/` here begins a comment or an annotation
abbrev pub begins_comment : List ℕ → Bool
begins_comment text = begins text (codes "//") || begins text (codes "/*")

-- no longer symbol stands here
abbrev pub IsLongest : Symbol → List ℕ → Type 0
IsLongest s rest =
    (t : Symbol) (more : List ℕ) → symbol_bytes s ++ rest ≡ symbol_bytes t ++ more
    → length (symbol_bytes t) ≤ length (symbol_bytes s)

abbrev pub Opens : Mode → List ℕ → Type 0
Opens Outside bytes = (bytes ≡ codes "//@") ⊎ (bytes ≡ codes "/*@")
Opens InLine bytes = ⊥
Opens (InBlock opened) bytes = ⊥

abbrev pub Closes : Mode → List ℕ → List ℕ → Type 0
Closes Outside bytes rest = ⊥
Closes InLine bytes rest = (bytes ≡ []) × IsTrue (ends_line rest)
Closes (InBlock opened) bytes rest = bytes ≡ codes "@*/"

-- these bytes are a token of this kind, in this mode and in front of this rest
abbrev pub IsToken : Mode → List ℕ → TokenKind → List ℕ → Type 0
IsToken mode bytes kind.Name rest =
    IsTrue (is_identifier bytes) × IsTrue (ends_word rest) × ((k : Keyword) → IsTrue (is_in_force mode k) → bytes ≢ keyword_bytes k)
IsToken mode bytes (kind.Keyword k) rest =
    (bytes ≡ keyword_bytes k) × IsTrue (is_in_force mode k) × IsTrue (ends_word rest)
IsToken mode bytes (kind.Number w) rest =
    IsTrue (is_digit_run bytes) × IsTrue (ends_word rest) × (number_of bytes ≡ Some w.0)
IsToken mode bytes kind.Quoted rest = (cs : List Character) × AreCharacters cs × (bytes ≡ quoted cs)
IsToken mode bytes (kind.Symbol s) rest =
    (bytes ≡ symbol_bytes s) × IsLongest s rest × (begins_comment (bytes ++ rest) ≡ false)
IsToken mode bytes kind.Use rest = bytes ≡ codes "#use"
IsToken mode bytes kind.AnnotationBegin rest = Opens mode bytes
IsToken mode bytes kind.AnnotationEnd rest = Closes mode bytes rest
IsToken mode bytes kind.End rest = ⊥

-- ---- Pieces
pub data Piece : Type 0 where
  blank : (b : ℕ) → Piece
  line_comment : (body : List ℕ) → Piece
  comment : Comment → Piece
  lexeme : (bytes : List ℕ) → TokenKind → Piece

abbrev pub piece_bytes : Piece → List ℕ
piece_bytes (blank b) = b ∷ []
piece_bytes (line_comment body) = codes "//" ++ body
piece_bytes (comment c) = codes "/*" ++ comment_bytes c
piece_bytes (lexeme bytes k) = bytes

-- this piece stands in this mode and in front of this rest; `//@` and `/*@` begin no comment
abbrev pub IsPiece : Mode → Piece → List ℕ → Type 0
IsPiece mode (blank b) rest = IsTrue (is_blank mode b rest)
IsPiece mode (line_comment body) rest =
    IsTrue (list_all is_not_newline body) × (begins_with is_at_sign body ≡ false)
    × IsTrue (ends_line rest)
IsPiece mode (comment c) rest = IsComment c × (begins_with is_at_sign (comment_bytes c) ≡ false)
IsPiece mode (lexeme bytes k) rest = IsToken mode bytes k rest
