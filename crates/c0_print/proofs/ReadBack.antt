-- What is printed is read again, once the printed text has the tokens that are written for the tree.
use Rattle.std.proofs.Common.{◌≡◌, ℕ, List, Result, Ok, Err, IfOk, subst, sym}
use Rattle.parsed_tree.specs.Tree.{ProgramTree}
use Rattle.c0_lex.specs.Texts.{Lexeme, HasTokens}
use Rattle.c0_grammar.specs.Grammar.{IsProgram}
use Rattle.c0_print.specs.Printing.{printed}
use Rattle.c0_grammar.specs.Lexemes.{read_tokens}
use Rattle.c0_print.specs.Laws.{HasPrinted, PrintsTokens, IsReadBack, AreReadBack, ReadsBack}
use Rattle.c0_print.proofs.Anywhere.{anywhere}

pub read_back : PrintsTokens → ReadsBack
read_back lexes p text ts nodes h g =
    let t : HasPrinted p = lexes text ts p nodes h g in
    record { tokens = t.tokens; lexed = t.lexed; read = anywhere (read_tokens ts) p nodes g (read_tokens t.tokens) t.same }

-- bytes that are those which are printed for a tree
pub bytes_read_back : {A E : Type 0} (bytes : A → List ℕ) (r : Result A E) (p : ProgramTree) → IfOk r (λ a. bytes a ≡ printed p) → ReadsBack → IfOk r (λ a. AreReadBack (bytes a) p)
bytes_read_back bytes (Ok a) p e law = subst (λ b. AreReadBack b p) (sym e) (law p)
bytes_read_back bytes (Err x) p e law = tt
