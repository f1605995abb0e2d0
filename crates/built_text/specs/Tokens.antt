-- What the tokens of a text are to the grammar of what is built.
use Rattle.std.specs.Prelude.{◌≡◌, ℕ, Bool, ◌||◌, List, [], ◌∷◌, ◌++◌, map, codes, if◌then◌else◌}
use Rattle.std.specs.Str.{bytes_eq}
use Rattle.gc0_base.specs.declared.place.Place.{Place}
use Rattle.c0_lex.specs.declared.token.Token.{Token as LexToken}
use Rattle.c0_lex.specs.declared.token.TokenKind.{TokenKind}
use Rattle.c0_lex.specs.declared.token.TokenKind.TheVariants as lexed
use Rattle.c0_lex.specs.declared.token.Keyword.{Keyword}
use Rattle.c0_lex.specs.declared.token.Keyword.TheVariants as key
use Rattle.c0_lex.specs.declared.token.Symbol.{Symbol}
use Rattle.c0_lex.specs.declared.token.Symbol.TheVariants as sign
use Rattle.c0_lex.specs.Texts.{Lexeme, lexeme_of, HasTokens}
use Rattle.built_text.specs.declared.token.Token.{Token}
use Rattle.built_text.specs.declared.token.Kind.{Kind}
use Rattle.built_text.specs.declared.token.Kind.TheVariants.{Known, Name, Number, Foreign, End}
use Rattle.built_text.specs.declared.token.Fixed.TheVariants as mark

-- the keywords that the grammar shows
abbrev pub keyword_kind : Keyword → Kind
keyword_kind key.Int = Known mark.Int
keyword_kind key.Bool = Known mark.Bool
keyword_kind key.If = Known mark.If
keyword_kind key.Else = Known mark.Else
keyword_kind key.While = Known mark.While
keyword_kind key.Return = Known mark.Return
keyword_kind key.Assert = Known mark.Assert
keyword_kind key.True = Known mark.True
keyword_kind key.False = Known mark.False
keyword_kind key.Requires = Known mark.Requires
keyword_kind key.Ensures = Known mark.Ensures
keyword_kind key.LoopInvariant = Known mark.LoopInvariant
keyword_kind key.Outcome = Known mark.Outcome
keyword_kind k = Foreign

-- its symbols
abbrev pub symbol_kind : Symbol → Kind
symbol_kind sign.OpenParen = Known mark.Open
symbol_kind sign.CloseParen = Known mark.Close
symbol_kind sign.Comma = Known mark.Comma
symbol_kind sign.OpenBrace = Known mark.OpenBrace
symbol_kind sign.CloseBrace = Known mark.CloseBrace
symbol_kind sign.Semicolon = Known mark.Semicolon
symbol_kind sign.Assign = Known mark.Assign
symbol_kind sign.Plus = Known mark.Plus
symbol_kind sign.Minus = Known mark.Minus
symbol_kind sign.Star = Known mark.Star
symbol_kind sign.Not = Known mark.Not
symbol_kind sign.Both = Known mark.And
symbol_kind sign.Question = Known mark.Question
symbol_kind sign.Equal = Known mark.Equal
symbol_kind sign.NotEqual = Known mark.NotEqual
symbol_kind sign.Less = Known mark.Less
symbol_kind sign.LessEq = Known mark.LessEq
symbol_kind sign.Greater = Known mark.Greater
symbol_kind sign.GreaterEq = Known mark.GreaterEq
symbol_kind s = Foreign

-- the library calls that no statement of the grammar shows
abbrev pub is_unbuilt_call : List ℕ → Bool
is_unbuilt_call name =
    bytes_eq name (codes "print") || (bytes_eq name (codes "println") || (bytes_eq name (codes "readint") || bytes_eq name (codes "moreint")))

-- the library's names are no identifiers; two of them begin statements
abbrev pub name_kind : List ℕ → Kind
name_kind name =
    if bytes_eq name (codes "printint") then Known mark.PrintInt
    else if bytes_eq name (codes "printbool") then Known mark.PrintBool
    else if is_unbuilt_call name then Foreign
    else Name name

-- what a token of this kind and these bytes is
abbrev pub built_kind : TokenKind → List ℕ → Kind
built_kind lexed.Name bytes = name_kind bytes
built_kind (lexed.Keyword k) bytes = keyword_kind k
built_kind (lexed.Number w) bytes = Number w
built_kind lexed.Quoted bytes = Foreign
built_kind (lexed.Symbol s) bytes = symbol_kind s
built_kind lexed.Use bytes = Foreign
built_kind lexed.AnnotationBegin bytes = Known mark.Annotation
built_kind lexed.AnnotationEnd bytes = Known mark.LineEnd
built_kind lexed.End bytes = End

abbrev pub built_lexeme : Lexeme → Token
built_lexeme l = record { kind = built_kind l.kind l.bytes; place = l.place }

abbrev pub built : LexToken → Token
built t = built_lexeme (lexeme_of t)

abbrev pub all_built : List LexToken → List Token
all_built ts = map built ts

-- the tokens end with the end of the text
pub record EndsLast (ts : List Token) : Type 0 where
  pub front : List Token
  pub last : Place
  pub split : ts ≡ front ++ record { kind = End; place = last } ∷ []

-- the tokens that a text is cut into end with its end
abbrev pub CutEndsLast : Type 0
CutEndsLast =
    (text : List ℕ) (ls : List Lexeme) → HasTokens text ls → EndsLast (map built_lexeme ls)
