-- What is printed for the tree of a text has the tokens that are written for it.
use Rattle.std.proofs.Common.{false, List, sym, subst, ◌∙◌}
use Rattle.parsed_tree.specs.Tree.{ProgramTree}
use Rattle.c0_lex.specs.Words.{QuotedMeans}
use Rattle.c0_grammar.specs.Tokens.{Token}
use Rattle.c0_grammar.specs.Texts.{spell_program}
use Rattle.c0_print.specs.Printing.{text_of}
use Rattle.c0_print.specs.Laws.{whats, PrintsTokens}
use Rattle.c0_print.proofs.Legible.{LegibleProgram}
use Rattle.c0_print.proofs.Sources.{CanAll, seen_whats, text_stands}
use Rattle.c0_print.proofs.PrintedTexts.{program_shown}
use Rattle.c0_print.proofs.ItemParts.{program_whats}

pub prints_tokens : QuotedMeans → PrintsTokens
prints_tokens means text ts p nodes has is =
    let all = text_stands means text ts has in
    let spelled : CanAll false (whats (spell_program is.text)) = subst (λ (us : List Token). CanAll false (whats us)) (sym is.tokens) all in
    let legible : LegibleProgram (text_of p) = subst (λ (q : ProgramTree). LegibleProgram (text_of q)) is.tree (program_shown is.text spelled) in
    let h = program_whats means (text_of p) legible in
    record { tokens = h.lexemes; lexed = h.tokens; same = seen_whats h.lexemes ∙ h.same }
