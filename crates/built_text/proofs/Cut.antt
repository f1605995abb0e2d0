-- The tokens that a text is cut into end with its end.
use Rattle.std.proofs.Common.{map}
use Rattle.c0_lex.specs.Ends.{tokens_end_last, taken_end_last}
use Rattle.built_text.specs.Tokens.{built_lexeme, CutEndsLast}

pub cut_ends : CutEndsLast
cut_ends text ls has =
    let e = tokens_end_last text ls has in
    record { front = map built_lexeme e.front; last = e.last; split = taken_end_last built_lexeme ls e }
