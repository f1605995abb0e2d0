-- What stands at the front of a text, found byte by byte: what the functions of the crate compute.
-- That it is what the definitions of a text's pieces and faults say is proved of it.
use Rattle.std.specs.Prelude.{◌≤◌, ◌<◌, ℕ, suc, ◌+◌, ◌-◌, ◌==◌, ◌&&◌, ◌||◌, Bool, List, [], ◌∷◌, take, drop, fold, codes, Option, Some, None, if◌then◌else◌}
use Rattle.std.specs.Str.{bytes_eq}
use Rattle.gc0_base.specs.declared.place.Place.{Place}
use Rattle.gc0_base.specs.Places.{moved}
use Rattle.c0_lex.specs.declared.token.Keyword.{Keyword}
use Rattle.c0_lex.specs.declared.token.Keyword.TheVariants as word
use Rattle.c0_lex.specs.declared.token.Symbol.{Symbol}
use Rattle.c0_lex.specs.declared.token.Symbol.TheVariants as sign
use Rattle.c0_lex.specs.declared.token.TokenKind.{TokenKind}
use Rattle.c0_lex.specs.declared.token.TokenKind.TheVariants as kind
use Rattle.c0_lex.specs.declared.token.Mode.{Mode}
use Rattle.c0_lex.specs.declared.token.Mode.TheVariants.{Outside, InLine, InBlock}
use Rattle.c0_lex.specs.declared.fault.LexFault.TheVariants.{BadByte, BadNumber, BadEscape, OpenComment, OpenString, NestedAnnotation}
use Rattle.c0_lex.specs.declared.front.Front.{Front}
use Rattle.c0_lex.specs.declared.front.Front.TheVariants.{Gap, Found, Fault, Finish}
use Rattle.c0_lex.specs.declared.strings.StringEnd.{StringEnd}
use Rattle.c0_lex.specs.declared.strings.StringEnd.TheVariants.{Closed, Escape, Open}
use Rattle.c0_lex.specs.Bytes.{is_newline, is_space, is_digit, is_word_byte, is_quote, is_backslash, is_printable, is_at_sign, begins_with, begins}
use Rattle.c0_lex.specs.Words.{keyword_bytes, symbol_bytes, number_of, is_escape}
use Rattle.c0_lex.specs.Pieces.{is_inside}
use Rattle.c0_lex.specs.Texts.{begins_outcome}

-- ---- Words
-- how many bytes of a word stand at the front
abbrev pub word_length : List ℕ → ℕ
word_length [] = 0
word_length (b ∷ bs) = if is_word_byte b then suc (word_length bs) else 0

abbrev pub keyword_among : List Keyword → List ℕ → Option Keyword
keyword_among [] bytes = None
keyword_among (k ∷ ks) bytes =
    if bytes_eq bytes (keyword_bytes k) then Some k else keyword_among ks bytes

-- the keywords outside annotations, and those that annotations add but `\result`
abbrev pub code_words : List Keyword
code_words = word.Int ∷ word.Bool ∷ word.Void ∷ word.Struct ∷ word.Typedef ∷ word.If ∷ word.Else ∷ word.While ∷ word.For ∷ word.Return ∷ word.Assert ∷ word.Error ∷ word.True ∷ word.False ∷ word.Null ∷ word.Alloc ∷ word.String ∷ word.Char ∷ word.Break ∷ word.Continue ∷ word.AllocArray ∷ []

abbrev pub annotation_words : List Keyword
annotation_words = word.Requires ∷ word.Ensures ∷ word.LoopInvariant ∷ word.Fold ∷ word.Unfold ∷ word.Predicate ∷ word.Acc ∷ []

abbrev pub keyword_kind : Option Keyword → TokenKind → TokenKind
keyword_kind (Some k) other = kind.Keyword k
keyword_kind None other = other

-- what a word of letters and digits is, inside annotations or outside
abbrev pub word_kind : Bool → List ℕ → TokenKind
word_kind inside bytes =
    keyword_kind (keyword_among code_words bytes)
    (if inside then keyword_kind (keyword_among annotation_words bytes) kind.Name else kind.Name)

abbrev pub number_front : Place → ℕ → Option ℕ → Front
number_front place size (Some n) = Found size (kind.Number (record { 0 = n }))
number_front place size None = Fault (BadNumber place)

abbrev pub word_front : Mode → Place → List ℕ → Front
word_front mode place text =
    if begins_with is_digit text then number_front place (word_length text) (number_of (take (word_length text) text))
    else Found (word_length text) (word_kind (is_inside mode) (take (word_length text) text))

-- ---- Symbols
abbrev pub symbol_among : List Symbol → List ℕ → Option Symbol
symbol_among [] bytes = None
symbol_among (s ∷ ss) bytes =
    if bytes_eq bytes (symbol_bytes s) then Some s else symbol_among ss bytes

-- the symbols of three bytes, of two, and of one
abbrev pub triples : List Symbol
triples = sign.ShlAssign ∷ sign.ShrAssign ∷ []

abbrev pub pairs : List Symbol
pairs = sign.Arrow ∷ sign.AddAssign ∷ sign.SubAssign ∷ sign.MulAssign ∷ sign.DivAssign ∷ sign.RemAssign ∷ sign.AndAssign ∷ sign.XorAssign ∷ sign.OrAssign ∷ sign.Increment ∷ sign.Decrement ∷ sign.ShiftLeft ∷ sign.ShiftRight ∷ sign.LessEq ∷ sign.GreaterEq ∷ sign.Equal ∷ sign.NotEqual ∷ sign.Both ∷ sign.Either ∷ []

abbrev pub singles : List Symbol
singles = sign.OpenParen ∷ sign.CloseParen ∷ sign.OpenBrace ∷ sign.CloseBrace ∷ sign.Comma ∷ sign.Semicolon ∷ sign.Assign ∷ sign.Not ∷ sign.Tilde ∷ sign.Minus ∷ sign.Star ∷ sign.Slash ∷ sign.Percent ∷ sign.Plus ∷ sign.Less ∷ sign.Greater ∷ sign.And ∷ sign.Xor ∷ sign.Or ∷ sign.Question ∷ sign.Colon ∷ []

abbrev pub symbol_found : ℕ → Option Symbol → Front → Front
symbol_found size (Some s) other = Found size (kind.Symbol s)
symbol_found size None other = other

-- the longest first
abbrev pub symbol_front : Place → List ℕ → Front
symbol_front place text =
    symbol_found 3 (symbol_among triples (take 3 text))
    (symbol_found 2 (symbol_among pairs (take 2 text))
    (symbol_found 1 (symbol_among singles (take 1 text))
    (Fault (BadByte place))))

-- ---- Comments
-- how many bytes stand before the end of the line
abbrev pub line_length : List ℕ → ℕ
line_length [] = 0
line_length (b ∷ bs) = if is_newline b then 0 else suc (line_length bs)

abbrev pub longer : ℕ → Option ℕ → Option ℕ
longer n (Some size) = Some (n + size)
longer n None = None

-- how many bytes lead out of a comment, that stands within so many others
abbrev pub comment_length : List ℕ → ℕ → Option ℕ
comment_length [] depth = None
comment_length (a ∷ []) depth = None
comment_length (a ∷ b ∷ bs) depth =
    if begins (a ∷ b ∷ bs) (codes "/*") then longer 2 (comment_length bs (depth + 1))
    else if begins (a ∷ b ∷ bs) (codes "*/") then (if depth == 0 then Some 2 else longer 2 (comment_length bs (depth - 1)))
    else longer 1 (comment_length (b ∷ bs) depth)

-- ---- Strings
abbrev pub further : ℕ → StringEnd → StringEnd
further n (Closed size) = Closed (n + size)
further n (Escape size) = Escape (n + size)
further n Open = Open

-- how a string goes on behind its first quote
abbrev pub string_end : List ℕ → StringEnd
string_end [] = Open
string_end (a ∷ []) = if is_quote a then Closed 1 else if is_backslash a then Escape 0 else Open
string_end (a ∷ b ∷ bs) =
    if is_quote a then Closed 1
    else if is_backslash a then (if is_escape b then further 2 (string_end bs) else Escape 0)
    else if is_printable a then further 1 (string_end (b ∷ bs))
    else Open

-- the end stands in so many bytes
abbrev pub IsWithin : ℕ → StringEnd → Type 0
IsWithin n (Closed size) = size ≤ n
IsWithin n (Escape size) = size < n
IsWithin n Open = Unit {0}

abbrev pub string_found : Place → List ℕ → StringEnd → Front
string_found place text (Closed size) = Found (size + 1) kind.Quoted
string_found place text (Escape size) = Fault (BadEscape (fold moved place (take (size + 1) text)))
string_found place text Open = Fault (OpenString place)

-- ---- The front of a text
abbrev pub annotation_front : Mode → Place → Front
annotation_front mode place =
    if is_inside mode then Fault (NestedAnnotation place) else Found 3 kind.AnnotationBegin

abbrev pub comment_found : Place → Option ℕ → Front
comment_found place (Some size) = Gap (size + 2)
comment_found place None = Fault (OpenComment place)

-- behind `//` or `/*`
abbrev pub comment_front : Mode → Place → List ℕ → Front
comment_front mode place text =
    if begins text (codes "//@") || begins text (codes "/*@") then annotation_front mode place
    else if begins text (codes "//") then Gap (line_length text)
    else comment_found place (comment_length (drop 2 text) 0)

abbrev pub at_front : Mode → Place → List ℕ → Front
at_front Outside place text = Fault (BadByte place)
at_front InLine place text = Gap 1
at_front (InBlock opened) place text =
    if begins text (codes "@*/") then Found 3 kind.AnnotationEnd else Gap 1

-- what begins with a byte that is neither white space nor of a word
abbrev pub mark_front : Mode → Place → List ℕ → Front
mark_front mode place text =
    if begins_with is_quote text then string_found place text (string_end (drop 1 text))
    else if begins text (codes "//") || begins text (codes "/*") then comment_front mode place text
    else if begins_with is_at_sign text then at_front mode place text
    else if begins text (codes "#use") then Found 4 kind.Use
    else if begins_outcome text && is_inside mode then Found 7 (kind.Keyword word.Outcome)
    else symbol_front place text

abbrev pub space_front : Mode → ℕ → Front
space_front InLine b = if is_newline b then Found 0 kind.AnnotationEnd else Gap 1
space_front mode b = Gap 1

-- the end of a text
abbrev pub last_front : Mode → Front
last_front Outside = Finish
last_front InLine = Found 0 kind.AnnotationEnd
last_front (InBlock opened) = Fault (OpenComment opened)

abbrev pub front : Mode → Place → List ℕ → Front
front mode place [] = last_front mode
front mode place (b ∷ bs) =
    if is_word_byte b then word_front mode place (b ∷ bs)
    else if is_space b then space_front mode b
    else mark_front mode place (b ∷ bs)

-- what is found stands within so many bytes
abbrev pub IsWithinText : ℕ → Front → Type 0
IsWithinText n (Gap size) = (0 < size) × (size ≤ n)
IsWithinText n (Found size k) = size ≤ n
IsWithinText n (Fault fault) = Unit {0}
IsWithinText n Finish = Unit {0}
