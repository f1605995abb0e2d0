-- What is printed is read again.
use Rattle.std.specs.Prelude.{◌≡◌, ◌≤◌, ℕ, List, [], map}
use Rattle.c0_lex.specs.Texts.{Lexeme, HasTokens}
use Rattle.parsed_tree.specs.Tree.{ProgramTree}
use Rattle.c0_grammar.specs.Tokens.{What, Token}
use Rattle.c0_grammar.specs.Lexemes.{read_tokens}
use Rattle.c0_grammar.specs.Texts.{ProgramText, spell_program, program_tree, depth_program}
use Rattle.c0_grammar.specs.Grammar.{GoodItems, IsProgram}
use Rattle.c0_print.specs.Printing.{text_of, printed}
use Rattle.c0_print.specs.Erased.{erased_program}

-- what is written for the tree of a text is that tree, places aside
abbrev pub WritesTree : Type 0
WritesTree =
    (p : ProgramText) → program_tree (text_of (program_tree p)) ≡ erased_program (program_tree p)

-- what is written for the tree of a text that the grammar allows is allowed
abbrev pub WritesGood : Type 0
WritesGood =
    (p : ProgramText) → GoodItems [] p.items → GoodItems [] (text_of (program_tree p)).items

-- and no deeper
abbrev pub WritesNoDeeper : Type 0
WritesNoDeeper =
    (p : ProgramText) → GoodItems [] p.items
    → depth_program (text_of (program_tree p)) ≤ depth_program p

-- The tokens that are written for the tree of a program are a program of the grammar with that tree,
-- places aside, and no path in it has more nodes.
pub record IsAgain (us : List Token) (p : ProgramTree) (nodes : ℕ) : Type 0 where
  pub tree : ProgramTree
  pub depth : ℕ
  pub program : IsProgram us tree depth
  pub same : tree ≡ erased_program p
  pub within : depth ≤ nodes

abbrev pub WritesAgain : Type 0
WritesAgain =
    (ts : List Token) (p : ProgramTree) (nodes : ℕ) → IsProgram ts p nodes
    → IsAgain (spell_program (text_of p)) p nodes

-- what tokens are, wherever they stand
abbrev pub whats : List Token → List What
whats ts = map (λ (t : Token). t.what) ts

-- Tokens that are those which are written for the tree of a program, wherever they stand, are a program
-- with that tree, places aside, and no path in it has more nodes.
pub record IsSame (us : List Token) (p : ProgramTree) (nodes : ℕ) : Type 0 where
  pub tree : ProgramTree
  pub depth : ℕ
  pub program : IsProgram us tree depth
  pub same : erased_program tree ≡ erased_program p
  pub within : depth ≤ nodes

abbrev pub ReadsAnywhere : Type 0
ReadsAnywhere =
    (ts : List Token) (p : ProgramTree) (nodes : ℕ) → IsProgram ts p nodes
    → (us : List Token) → whats us ≡ whats (spell_program (text_of p)) → IsSame us p nodes

-- ---- a printed text is read back
-- The printed text has tokens, and they are those which are written for the tree.
pub record HasPrinted (p : ProgramTree) : Type 0 where
  pub tokens : List Lexeme
  pub lexed : HasTokens (printed p) tokens
  pub same : whats (read_tokens tokens) ≡ whats (spell_program (text_of p))

-- What is printed of a tree that was read from a text has the tokens that are written for the tree.
abbrev pub PrintsTokens : Type 0
PrintsTokens =
    (text : List ℕ) (ts : List Lexeme) (p : ProgramTree) (nodes : ℕ)
    → HasTokens text ts → IsProgram (read_tokens ts) p nodes → HasPrinted p

-- The bytes have tokens, and these are a program with this tree, places aside, and no path in it has
-- more nodes.
pub record IsReadBack (bytes : List ℕ) (p : ProgramTree) (nodes : ℕ) : Type 0 where
  pub tokens : List Lexeme
  pub lexed : HasTokens bytes tokens
  pub read : IsSame (read_tokens tokens) p nodes

-- the bytes are read as this tree, if it was read from a text
abbrev pub AreReadBack : List ℕ → ProgramTree → Type 0
AreReadBack bytes p =
    (text : List ℕ) (ts : List Lexeme) (nodes : ℕ)
    → HasTokens text ts → IsProgram (read_tokens ts) p nodes → IsReadBack bytes p nodes

-- what is printed of a tree that was read from a text is read again as the same tree, places aside
abbrev pub ReadsBack : Type 0
ReadsBack = (p : ProgramTree) → AreReadBack (printed p) p
