-- What the tokens of a text are to the grammar.
use Rattle.std.specs.Prelude.{ℕ, List, map}
use Rattle.c0_lex.specs.declared.token.Token.{Token as LexToken}
use Rattle.c0_lex.specs.declared.token.TokenKind.{TokenKind}
use Rattle.c0_lex.specs.declared.token.TokenKind.TheVariants as kind
use Rattle.c0_lex.specs.Words.{unescaped}
use Rattle.c0_grammar.specs.Tokens.{word_mark, sign_mark, use_mark, open_mark, close_mark, end_mark, What, fixed, name_what, number_what, text_what, Token}

abbrev pub what_of : TokenKind → List ℕ → What
what_of kind.Name bytes = name_what bytes
what_of (kind.Keyword k) bytes = fixed (word_mark k)
what_of (kind.Number w) bytes = number_what w
what_of kind.Quoted bytes = text_what (unescaped bytes)
what_of (kind.Symbol s) bytes = fixed (sign_mark s)
what_of kind.Use bytes = fixed use_mark
what_of kind.AnnotationBegin bytes = fixed open_mark
what_of kind.AnnotationEnd bytes = fixed close_mark
what_of kind.End bytes = fixed end_mark

abbrev pub seen : LexToken → Token
seen t = record { what = what_of t.kind t.text.now; place = t.place }

abbrev pub all_seen : List LexToken → List Token
all_seen ts = map seen ts
