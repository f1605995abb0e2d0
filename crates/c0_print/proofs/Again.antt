-- The tokens that are written for the tree of a program are a program with that tree, places aside.
use Rattle.std.proofs.Common.{◌≡◌, ℕ, ◌≤◌, List, [], refl, subst, arith}
use Rattle.parsed_tree.specs.Tree.{ProgramTree}
use Rattle.c0_grammar.specs.Tokens.{Token}
use Rattle.c0_grammar.specs.Texts.{ProgramText, spell_program, program_tree, depth_program}
use Rattle.c0_grammar.specs.Grammar.{GoodItems, IsProgram}
use Rattle.c0_print.specs.Printing.{text_of}
use Rattle.c0_print.specs.Erased.{erased_program}
use Rattle.c0_print.specs.Laws.{IsAgain}
use Rattle.c0_print.proofs.StatementTrees.{program_again}
use Rattle.c0_print.proofs.AllowedTexts.{program_good}
use Rattle.c0_print.proofs.DepthTexts.{program_thin}

within : (a b c : ℕ) → a ≤ b → b ≡ c → a ≤ c
within a b c h e = omega arith

of_text : (t : ProgramText) (nodes : ℕ) → GoodItems [] t.items → depth_program t ≡ nodes → IsAgain (spell_program (text_of (program_tree t))) (program_tree t) nodes
of_text t nodes g d = record {
  tree = program_tree (text_of (program_tree t));
  depth = depth_program (text_of (program_tree t));
  program = record { text = text_of (program_tree t); good = program_good t g; tokens = refl; tree = refl; depth = refl };
  same = program_again t;
  within = within (depth_program (text_of (program_tree t))) (depth_program t) nodes (program_thin t g) d;
}

pub again : (ts : List Token) (p : ProgramTree) (nodes : ℕ) → IsProgram ts p nodes → IsAgain (spell_program (text_of p)) p nodes
again ts p nodes h = let P : ProgramTree → Type 0 = λ q. IsAgain (spell_program (text_of q)) q nodes in subst P h.tree (of_text h.text nodes h.good h.depth)
