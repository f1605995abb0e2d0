-- How the tokens that a text is cut into are read: as tokens of the grammar, with the end last.
use Rattle.std.specs.Prelude.{◌≡◌, ℕ, List, [], ◌∷◌, map, refl}
use Rattle.std.proofs.Common.{ap}
use Rattle.c0_lex.specs.declared.token.Token.{Token as LexToken}
use Rattle.c0_lex.specs.Texts.{Lexeme, lexeme_of, HasTokens}
use Rattle.c0_lex.specs.Ends.{tokens_end_last, taken_end_last}
use Rattle.c0_grammar.specs.Tokens.{What, Token}
use Rattle.c0_grammar.specs.Seen.{what_of, all_seen}
use Rattle.c0_grammar.specs.Reads.{EndsLast}

abbrev pub read_what : Lexeme → What
read_what l = what_of l.kind l.bytes

abbrev pub read_token : Lexeme → Token
read_token l = record { what = read_what l; place = l.place }

abbrev pub read_tokens : List Lexeme → List Token
read_tokens ls = map read_token ls

-- what the grammar sees of tokens in memory is what they are read as
pub seen_read : (ts : List LexToken) → all_seen ts ≡ read_tokens (map lexeme_of ts)
seen_read [] = refl
seen_read (t ∷ ts) = ap (λ l. read_token (lexeme_of t) ∷ l) (seen_read ts)

-- the tokens of a text end with its end
pub read_ends_last : (text : List ℕ) (ls : List Lexeme) → HasTokens text ls → EndsLast (read_tokens ls)
read_ends_last text ls has =
    let e = tokens_end_last text ls has in
    record { front = read_tokens e.front; last = e.last; split = taken_end_last read_token ls e }
