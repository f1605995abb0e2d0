-- What a token of a text is to the whole grammar, told by what it is to the small one.
use Rattle.std.proofs.Common.{◌≡◌, ℕ, Bool, true, false, ◌||◌, List, codes, refl, ap, if◌then◌else◌}
use Rattle.std.specs.Str.{bytes_eq}
use Rattle.std.proofs.lemmas.Slice.Eq.{bytes_eq-Decides}
use Rattle.c0_lex.specs.declared.token.TokenKind.{TokenKind}
use Rattle.c0_lex.specs.declared.token.TokenKind.TheVariants as lexed
use Rattle.c0_lex.specs.declared.token.Keyword.{Keyword}
use Rattle.c0_lex.specs.declared.token.Keyword.TheVariants as key
use Rattle.c0_lex.specs.declared.token.Symbol.{Symbol}
use Rattle.c0_lex.specs.declared.token.Symbol.TheVariants as sign
use Rattle.c0_grammar.specs.Tokens as seen_as
use Rattle.c0_grammar.specs.Tokens.{word_mark, sign_mark, open_mark, close_mark, end_mark, What, name_what, number_what}
use Rattle.c0_grammar.specs.Seen.{what_of}
use Rattle.built_text.specs.declared.token.Kind.{Kind}
use Rattle.built_text.specs.declared.token.Kind.TheVariants.{Known, Name, Number, Foreign, End}
use Rattle.built_text.specs.declared.token.Fixed.{Fixed}
use Rattle.built_text.specs.declared.token.Fixed.TheVariants as mark
use Rattle.built_text.specs.Tokens.{keyword_kind, symbol_kind, is_unbuilt_call, built_kind}
use Rattle.built_text.specs.Forms.{is_library}

abbrev pub fixed_what : Fixed → What
fixed_what mark.Int = seen_as.fixed (word_mark key.Int)
fixed_what mark.Bool = seen_as.fixed (word_mark key.Bool)
fixed_what mark.If = seen_as.fixed (word_mark key.If)
fixed_what mark.Else = seen_as.fixed (word_mark key.Else)
fixed_what mark.While = seen_as.fixed (word_mark key.While)
fixed_what mark.Return = seen_as.fixed (word_mark key.Return)
fixed_what mark.Assert = seen_as.fixed (word_mark key.Assert)
fixed_what mark.True = seen_as.fixed (word_mark key.True)
fixed_what mark.False = seen_as.fixed (word_mark key.False)
fixed_what mark.PrintInt = name_what (codes "printint")
fixed_what mark.PrintBool = name_what (codes "printbool")
fixed_what mark.Requires = seen_as.fixed (word_mark key.Requires)
fixed_what mark.Ensures = seen_as.fixed (word_mark key.Ensures)
fixed_what mark.LoopInvariant = seen_as.fixed (word_mark key.LoopInvariant)
fixed_what mark.Outcome = seen_as.fixed (word_mark key.Outcome)
fixed_what mark.Open = seen_as.fixed (sign_mark sign.OpenParen)
fixed_what mark.Close = seen_as.fixed (sign_mark sign.CloseParen)
fixed_what mark.Comma = seen_as.fixed (sign_mark sign.Comma)
fixed_what mark.OpenBrace = seen_as.fixed (sign_mark sign.OpenBrace)
fixed_what mark.CloseBrace = seen_as.fixed (sign_mark sign.CloseBrace)
fixed_what mark.Semicolon = seen_as.fixed (sign_mark sign.Semicolon)
fixed_what mark.Assign = seen_as.fixed (sign_mark sign.Assign)
fixed_what mark.Plus = seen_as.fixed (sign_mark sign.Plus)
fixed_what mark.Minus = seen_as.fixed (sign_mark sign.Minus)
fixed_what mark.Star = seen_as.fixed (sign_mark sign.Star)
fixed_what mark.Not = seen_as.fixed (sign_mark sign.Not)
fixed_what mark.And = seen_as.fixed (sign_mark sign.Both)
fixed_what mark.Question = seen_as.fixed (sign_mark sign.Question)
fixed_what mark.Equal = seen_as.fixed (sign_mark sign.Equal)
fixed_what mark.NotEqual = seen_as.fixed (sign_mark sign.NotEqual)
fixed_what mark.Less = seen_as.fixed (sign_mark sign.Less)
fixed_what mark.LessEq = seen_as.fixed (sign_mark sign.LessEq)
fixed_what mark.Greater = seen_as.fixed (sign_mark sign.Greater)
fixed_what mark.GreaterEq = seen_as.fixed (sign_mark sign.GreaterEq)
fixed_what mark.Annotation = seen_as.fixed open_mark
fixed_what mark.LineEnd = seen_as.fixed close_mark

-- nothing is known of what is foreign to the small grammar
abbrev pub Shows : Kind → What → Type 0
Shows (Known f) w = w ≡ fixed_what f
Shows (Name n) w = (w ≡ name_what n) × (is_library n ≡ false)
Shows (Number v) w = w ≡ number_what v
Shows Foreign w = Unit {0}
Shows End w = w ≡ seen_as.fixed end_mark

keyword_shows : (k : Keyword) → Shows (keyword_kind k) (seen_as.fixed (word_mark k))
keyword_shows key.Int = refl
keyword_shows key.Bool = refl
keyword_shows key.If = refl
keyword_shows key.Else = refl
keyword_shows key.While = refl
keyword_shows key.Return = refl
keyword_shows key.Assert = refl
keyword_shows key.True = refl
keyword_shows key.False = refl
keyword_shows key.Requires = refl
keyword_shows key.Ensures = refl
keyword_shows key.LoopInvariant = refl
keyword_shows key.Outcome = refl
keyword_shows k = tt

symbol_shows : (s : Symbol) → Shows (symbol_kind s) (seen_as.fixed (sign_mark s))
symbol_shows sign.OpenParen = refl
symbol_shows sign.CloseParen = refl
symbol_shows sign.Comma = refl
symbol_shows sign.OpenBrace = refl
symbol_shows sign.CloseBrace = refl
symbol_shows sign.Semicolon = refl
symbol_shows sign.Assign = refl
symbol_shows sign.Plus = refl
symbol_shows sign.Minus = refl
symbol_shows sign.Star = refl
symbol_shows sign.Not = refl
symbol_shows sign.Both = refl
symbol_shows sign.Question = refl
symbol_shows sign.Equal = refl
symbol_shows sign.NotEqual = refl
symbol_shows sign.Less = refl
symbol_shows sign.LessEq = refl
symbol_shows sign.Greater = refl
symbol_shows sign.GreaterEq = refl
symbol_shows s = tt

name_shows : (a b c : Bool) (name : List ℕ) → (a ≡ true → name ≡ codes "printint") → (b ≡ true → name ≡ codes "printbool") → is_library name ≡ ((a || b) || c) → Shows (if a then Known mark.PrintInt else if b then Known mark.PrintBool else if c then Foreign else Name name) (name_what name)
name_shows true b c name p q r = ap name_what (p refl)
name_shows false true c name p q r = ap name_what (q refl)
name_shows false false true name p q r = tt
name_shows false false false name p q r = (refl, r)

pub kind_shows : (k : TokenKind) (bytes : List ℕ) → Shows (built_kind k bytes) (what_of k bytes)
kind_shows lexed.Name bytes = name_shows (bytes_eq bytes (codes "printint")) (bytes_eq bytes (codes "printbool")) (is_unbuilt_call bytes) bytes ((bytes_eq-Decides bytes (codes "printint")).0) ((bytes_eq-Decides bytes (codes "printbool")).0) refl
kind_shows (lexed.Keyword k) bytes = keyword_shows k
kind_shows (lexed.Number w) bytes = refl
kind_shows lexed.Quoted bytes = tt
kind_shows (lexed.Symbol s) bytes = symbol_shows s
kind_shows lexed.Use bytes = tt
kind_shows lexed.AnnotationBegin bytes = refl
kind_shows lexed.AnnotationEnd bytes = refl
kind_shows lexed.End bytes = refl
