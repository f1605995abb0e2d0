-- What is known of a text once its program is resolved, as the stages behind it need it. No clause of the top call speaks of it.
use Rattle.std.specs.Prelude.{◌≡◌, ℕ, List, [], map}
use Rattle.c0_lex.specs.declared.token.Token.{Token}
use Rattle.c0_lex.specs.Texts.{lexeme_of, HasTokens}
use Rattle.parsed_tree.specs.Tree.{ProgramTree}
use Rattle.c0_grammar.specs.Reads.{Reads}
use Rattle.c0_grammar.specs.Seen.{all_seen}
use Rattle.parse_faults.specs.TreeFaults.{tree_faults}
use Rattle.c0_rules.specs.Rules.{violations}
use Rattle.c0_numbers.specs.Resolved.{resolved}
use Rattle.gc0_tree.specs.Tree.{Program}
use Rattle.gradual_top.specs.Source.{most_nodes}

-- what is known of a text where its program was resolved: its tokens, its tree, which breaks no rule so far, and the program
pub record IsResolved (text : List ℕ) (tokens : List Token) (program : Program) : Type 0 where
  pub tree : ProgramTree
  pub lexed : HasTokens text (map lexeme_of tokens)
  pub reads : Reads most_nodes (all_seen tokens) tree
  pub faultless : tree_faults tree ≡ []
  pub typed : violations tree ≡ []
  pub resolves : program ≡ resolved tree
