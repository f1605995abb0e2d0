-- Which tokens a text has, and what its first lexical fault is (C0 Reference, "Lexical structure").
use Rattle.std.specs.Prelude.{◌≡◌, ◌≢◌, ◌⊎◌, ℕ, ◌&&◌, ◌||◌, Bool, false, List, [], ◌∷◌, ◌++◌, drop, fold, codes, None, Result, Ok, Err, IsTrue, map, if◌then◌else◌}
use Rattle.std.specs.Str.{bytes_eq}
use Rattle.std.specs.declared.vec.Vec.{Vec}
use Rattle.std.specs.declared.alloc.Global.{Global}
use Rattle.gc0_base.specs.declared.place.Place.{Place}
use Rattle.gc0_base.specs.Places.{moved, place_after}
use Rattle.c0_lex.specs.declared.token.Symbol.{Symbol}
use Rattle.c0_lex.specs.declared.token.Token.{Token}
use Rattle.c0_lex.specs.declared.token.TokenKind.{TokenKind}
use Rattle.c0_lex.specs.declared.token.TokenKind.TheVariants as kind
use Rattle.c0_lex.specs.declared.token.Mode.{Mode}
use Rattle.c0_lex.specs.declared.token.Mode.TheVariants.{Outside, InLine, InBlock}
use Rattle.c0_lex.specs.declared.fault.LexFault.{LexFault}
use Rattle.c0_lex.specs.declared.fault.LexFault.TheVariants.{BadByte, BadNumber, BadEscape, OpenComment, OpenString, NestedAnnotation, Memory}
use Rattle.c0_lex.specs.Bytes.{is_space, is_word_byte, is_quote, is_at_sign, is_printable, begins_with, begins, ends_word}
use Rattle.c0_lex.specs.Words.{symbol_bytes, number_of, is_escape, Character, AreCharacters, spelled_string}
use Rattle.c0_lex.specs.Pieces.{is_inside, is_digit_run, Comment, comment_bytes, IsComment, Piece, lexeme, piece_bytes, IsPiece}

-- a token: its bytes, what it is, and the place of its first byte
pub record Lexeme : Type 0 where
  pub bytes : List ℕ
  pub kind : TokenKind
  pub place : Place

abbrev pub lexeme_of : Token → Lexeme
lexeme_of t = record { bytes = t.text.now; kind = t.kind; place = t.place }

-- where a text stands: in which mode, and at which place
pub record Spot : Type 0 where
  pub mode : Mode
  pub place : Place

abbrev pub start : Spot
start = record { mode = Outside; place = place_after [] }

-- `//@` opens an annotation up to the end of its line, `/*@` one that remembers where it began
abbrev pub mode_behind : Spot → List ℕ → TokenKind → Mode
mode_behind s bytes kind.AnnotationBegin =
    if bytes_eq bytes (codes "//@") then InLine else InBlock s.place
mode_behind s bytes kind.AnnotationEnd = Outside
mode_behind s bytes k = s.mode

abbrev pub mode_after : Spot → Piece → Mode
mode_after s (lexeme bytes k) = mode_behind s bytes k
mode_after s p = s.mode

-- what stands behind a piece
abbrev pub after : Spot → Piece → Spot
after s p = record { mode = mode_after s p; place = fold moved s.place (piece_bytes p) }

abbrev pub behind : Spot → List Piece → Spot
behind s [] = s
behind s (p ∷ ps) = behind (after s p) ps

-- the bytes of pieces, in front of others
abbrev pub spelled : List Piece → List ℕ → List ℕ
spelled [] rest = rest
spelled (p ∷ ps) rest = piece_bytes p ++ spelled ps rest

-- these pieces stand here, in front of this rest
abbrev pub ArePieces : Spot → List Piece → List ℕ → Type 0
ArePieces s [] rest = Unit {0}
ArePieces s (p ∷ ps) rest = IsPiece s.mode p (spelled ps rest) × ArePieces (after s p) ps rest

-- the token that a piece is, if it is one
abbrev pub token_of : Spot → Piece → List Lexeme
token_of s (lexeme bytes k) = record { bytes = bytes; kind = k; place = s.place } ∷ []
token_of s p = []

abbrev pub tokens_of : Spot → List Piece → List Lexeme
tokens_of s [] = []
tokens_of s (p ∷ ps) = token_of s p ++ tokens_of (after s p) ps

-- the end of a text
abbrev pub end_at : Place → Lexeme
end_at place = record { bytes = []; kind = kind.End; place = place }

-- The text has these tokens: it is a list of pieces, no annotation is open at its end, and the
-- tokens are those of the pieces, with the end of the text last.
pub record HasTokens (text : List ℕ) (tokens : List Lexeme) : Type 0 where
  pub pieces : List Piece
  pub fit : ArePieces start pieces []
  pub whole : spelled pieces [] ≡ text
  pub closed : (behind start pieces).mode ≡ Outside
  pub listed : tokens_of start pieces ++ end_at (place_after text) ∷ [] ≡ tokens

-- ---- Faults
-- `\result`, as a whole word
abbrev pub begins_outcome : List ℕ → Bool
begins_outcome text = begins text (92 ∷ codes "result") && ends_word (drop 7 text)

-- no piece begins with this byte
pub record BeginsNothing (mode : Mode) (text : List ℕ) (b : ℕ) (more : List ℕ) : Type 0 where
  pub split : text ≡ b ∷ more
  pub space : is_space b ≡ false
  pub word : is_word_byte b ≡ false
  pub quote : is_quote b ≡ false
  pub sign : (is_inside mode && is_at_sign b) ≡ false
  pub use_word : begins text (codes "#use") ≡ false
  pub outcome : (is_inside mode && begins_outcome text) ≡ false
  pub symbol : (s : Symbol) (rest : List ℕ) → text ≢ symbol_bytes s ++ rest

-- a whole word that begins with a digit and is no number
pub record BeginsBadNumber (text run rest : List ℕ) : Type 0 where
  pub split : text ≡ run ++ rest
  pub digits : IsTrue (is_digit_run run)
  pub whole : IsTrue (ends_word rest)
  pub none : number_of run ≡ None

-- a `"`, characters, and a `\` with which no escape begins
pub record BeginsBadEscape (text : List ℕ) (cs : List Character) (rest : List ℕ) : Type 0 where
  pub split : text ≡ 34 ∷ spelled_string cs (92 ∷ rest)
  pub characters : AreCharacters cs
  pub none : begins_with is_escape rest ≡ false

-- a `"`, characters, and then the end of the line or a byte that no string has
pub record BeginsOpenString (text : List ℕ) (cs : List Character) (rest : List ℕ) : Type 0 where
  pub split : text ≡ 34 ∷ spelled_string cs rest
  pub characters : AreCharacters cs
  pub none : begins_with is_printable rest ≡ false

-- a `/*` that begins no annotation, and no comment that is closed
pub record BeginsOpenComment (text body : List ℕ) : Type 0 where
  pub split : text ≡ codes "/*" ++ body
  pub sign : begins_with is_at_sign body ≡ false
  pub open_comment : (c : Comment) (rest : List ℕ) → IsComment c → body ≢ comment_bytes c ++ rest

-- What stands here is this fault. Each stands at the first byte of what it is about; a bad
-- escape at its backslash, and an open annotation, at the end of a text, where it was opened.
abbrev pub IsFault : Spot → List ℕ → LexFault → Type 0
IsFault s text (BadByte at) =
    (at ≡ s.place) × ((b : ℕ) × (more : List ℕ) × BeginsNothing s.mode text b more)
IsFault s text (BadNumber at) =
    (at ≡ s.place) × ((run : List ℕ) × (rest : List ℕ) × BeginsBadNumber text run rest)
IsFault s text (BadEscape at) =
    (cs : List Character) × (rest : List ℕ) × BeginsBadEscape text cs rest
    × (at ≡ fold moved s.place (34 ∷ spelled_string cs []))
IsFault s text (OpenString at) =
    (at ≡ s.place) × ((cs : List Character) × (rest : List ℕ) × BeginsOpenString text cs rest)
IsFault s text (OpenComment at) =
    ((at ≡ s.place) × ((body : List ℕ) × BeginsOpenComment text body))
    ⊎ ((text ≡ []) × (s.mode ≡ InBlock at))
IsFault s text (NestedAnnotation at) =
    (at ≡ s.place) × IsTrue (is_inside s.mode)
    × IsTrue (begins text (codes "//@") || begins text (codes "/*@"))
IsFault s text Memory = ⊥

-- The first fault of a text: pieces, and then what shows the fault.
pub record HasFault (text : List ℕ) (fault : LexFault) : Type 0 where
  pub pieces : List Piece
  pub rest : List ℕ
  pub fit : ArePieces start pieces rest
  pub whole : spelled pieces rest ≡ text
  pub shown : IsFault (behind start pieces) rest fault

-- ---- Answers
abbrev pub HasCause : List ℕ → LexFault → Type 0
HasCause text Memory = Unit {0}
HasCause text fault = HasFault text fault

abbrev pub IsMemory : LexFault → Type 0
IsMemory Memory = Unit {0}
IsMemory fault = ⊥

-- exactly these tokens, or want of memory
abbrev pub GivesOrMemory : List Lexeme → Result (Vec Token Global) LexFault → Type 0
GivesOrMemory tokens (Ok v) = map lexeme_of v.items ≡ tokens
GivesOrMemory tokens (Err e) = IsMemory e

-- exactly this fault, or want of memory
abbrev pub FailsOrMemory : LexFault → Result (Vec Token Global) LexFault → Type 0
FailsOrMemory fault (Ok v) = ⊥
FailsOrMemory fault (Err e) = (e ≡ fault) ⊎ IsMemory e

-- a text has at most one list of tokens
abbrev pub OneList : Type 0
OneList = (text : List ℕ) (a b : List Lexeme) → HasTokens text a → HasTokens text b → a ≡ b

-- a text has at most one fault
abbrev pub OneFault : Type 0
OneFault = (text : List ℕ) (a b : LexFault) → HasFault text a → HasFault text b → a ≡ b

-- no text has both
abbrev pub NeverBoth : Type 0
NeverBoth =
    (text : List ℕ) (tokens : List Lexeme) (fault : LexFault) → HasTokens text tokens
    → HasFault text fault → ⊥

-- each text has the one or the other
abbrev pub EachText : Type 0
EachText =
    (text : List ℕ)
    → ((tokens : List Lexeme) × HasTokens text tokens) ⊎ ((fault : LexFault) × HasFault text fault)

-- Which fault a text has is told by its shortest front that begins no text with tokens: all texts
-- that begin with such a front have the same. Where no front is such a one, its end tells it.
abbrev pub FirstShown : Type 0
FirstShown =
    (text : List ℕ) (fault : LexFault) → HasFault text fault
    → (front rest : List ℕ) → text ≡ front ++ rest
    → ((more : List ℕ) (tokens : List Lexeme) → HasTokens (front ++ more) tokens → ⊥)
    → (more : List ℕ) → HasFault (front ++ more) fault

-- each token is a slice of the text, at its place, and each begins where the one before it ends or later
pub record IsSlice (text before : List ℕ) (t : Lexeme) (gap rest : List ℕ) : Type 0 where
  pub split : text ≡ (before ++ gap) ++ (t.bytes ++ rest)
  pub at : t.place ≡ place_after (before ++ gap)

abbrev pub AreSlices : (text before : List ℕ) → List Lexeme → Type 0
AreSlices text before [] = Unit {0}
AreSlices text before (t ∷ ts) =
    (gap : List ℕ) × (rest : List ℕ) × IsSlice text before t gap rest
    × AreSlices text ((before ++ gap) ++ t.bytes) ts

-- the tokens of a text are slices of it, in order
abbrev pub Slices : Type 0
Slices = (text : List ℕ) (tokens : List Lexeme) → HasTokens text tokens → AreSlices text [] tokens
