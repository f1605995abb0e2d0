-- What the text of a source file is: its tree, why it is refused, and whether it is built. This project's own.
use Rattle.std.specs.Prelude.{◌≡◌, ℕ, List, [], map, Some, None}
use Rattle.std.specs.Option.{option_map}
use Rattle.gc0_base.specs.declared.place.Place.{Place}
use Rattle.gc0_base.specs.declared.limits.TheConstants.Limits as limits
use Rattle.c0_lex.specs.declared.fault.LexFault.{LexFault}
use Rattle.c0_lex.specs.Texts.{Lexeme, HasTokens, HasFault}
use Rattle.parsed_tree.specs.Tree.{ProgramTree}
use Rattle.c0_grammar.specs.Lexemes.{read_tokens}
use Rattle.c0_grammar.specs.Reads.{Reads}
use Rattle.parse_faults.specs.declared.fault.ParseFault.{ParseFault}
use Rattle.parse_faults.specs.declared.fault.ParseFault.TheVariants as parse
use Rattle.parse_faults.specs.TreeFaults.{tree_faults}
use Rattle.c0_parse.specs.Causes.{HasCause}
use Rattle.c0_value_rules.specs.declared.violation.TypeFault.{TypeFault}
use Rattle.c0_value_rules.specs.Violations.{least_of, fault_of}
use Rattle.c0_rules.specs.Rules.{violations}
use Rattle.c0_numbers.specs.Resolved.{resolved}
use Rattle.self_framing.specs.declared.fault.FrameFault.{FrameFault}
use Rattle.self_framing.specs.FrameFaults.{frame_faults, first_fault}
use Rattle.program_limits.specs.declared.passed.Limit.{Limit}
use Rattle.program_limits.specs.Counts.{limit_passed}
use Rattle.built_text.specs.declared.token.Token.{Token as SmallToken}
use Rattle.built_text.specs.Tree.{ProgramTree as SmallTree}
use Rattle.built_text.specs.Grammar.{IsProgram}
use Rattle.built_text.specs.Reads.{FirstFault}
use Rattle.built_text.specs.Tokens.{built_lexeme}

-- the tokens of a text, as the grammar of what is built so far sees them
abbrev pub small_tokens : List Lexeme → List SmallToken
small_tokens ls = map built_lexeme ls

-- how many nodes may stand on a path of a tree
abbrev pub most_nodes : ℕ
most_nodes = limits.NESTING

-- the text has this tree, which is not too deep
pub record HasTree (text : List ℕ) (tree : ProgramTree) : Type 0 where
  pub lexemes : List Lexeme
  pub tokens : HasTokens text lexemes
  pub reads : Reads most_nodes (read_tokens lexemes) tree

-- the text has tokens, and the parser's fault in them is this
pub record HasParseFault (text : List ℕ) (fault : ParseFault) : Type 0 where
  pub lexemes : List Lexeme
  pub tokens : HasTokens text lexemes
  pub cause : HasCause (read_tokens lexemes) fault

-- a tree that no rule refuses: neither those of formulas and prototypes, nor those of types and scopes, nor those of framing
-- and guards
pub record IsSound (tree : ProgramTree) : Type 0 where
  pub faultless : tree_faults tree ≡ []
  pub typed : violations tree ≡ []
  pub framed : frame_faults (resolved tree) ≡ []

-- the text has a tree, and this is its first violation of a typing rule
pub record HasTypeFault (text : List ℕ) (fault : TypeFault) : Type 0 where
  pub tree : ProgramTree
  pub has : HasTree text tree
  pub faultless : tree_faults tree ≡ []
  pub least : option_map fault_of (least_of (violations tree)) ≡ Some fault

-- the text has a tree that breaks no typing rule, and this is its first fault of framing or guards
pub record HasFrameFault (text : List ℕ) (fault : FrameFault) : Type 0 where
  pub tree : ProgramTree
  pub has : HasTree text tree
  pub faultless : tree_faults tree ≡ []
  pub typed : violations tree ≡ []
  pub least : first_fault (frame_faults (resolved tree)) ≡ Some fault

-- why a text is refused
pub data Refusal : Type 0 where
  lexical : LexFault → Refusal
  parsing : ParseFault → Refusal
  typing : TypeFault → Refusal
  framing : FrameFault → Refusal

-- The text is refused for this. Want of memory is no such cause, and that a text is too deep passes a limit.
abbrev pub IsRefused : List ℕ → Refusal → Type 0
IsRefused text (lexical f) = HasFault text f
IsRefused text (parsing (parse.Syntax at)) = HasParseFault text (parse.Syntax at)
IsRefused text (parsing (parse.TooDeep at)) = ⊥
IsRefused text (parsing (parse.ContractOnPrototype at)) = HasParseFault text (parse.ContractOnPrototype at)
IsRefused text (parsing (parse.DeepRead at)) = HasParseFault text (parse.DeepRead at)
IsRefused text (parsing parse.Memory) = ⊥
IsRefused text (typing f) = HasTypeFault text f
IsRefused text (framing f) = HasFrameFault text f

-- each tree of the text is too deep
pub record IsTooDeep (text : List ℕ) : Type 0 where
  pub at : Place
  pub fault : HasParseFault text (parse.TooDeep at)

-- the text is one of the grammar that is built so far
pub record IsSmall (text : List ℕ) : Type 0 where
  pub lexemes : List Lexeme
  pub tokens : HasTokens text lexemes
  pub tree : SmallTree
  pub program : IsProgram (small_tokens lexemes) tree

-- it is none of that grammar, and the first token that shows it stands here
pub record IsUnbuilt (text : List ℕ) (place : Place) : Type 0 where
  pub lexemes : List Lexeme
  pub tokens : HasTokens text lexemes
  pub fault : FirstFault (small_tokens lexemes) place

-- the text has this tree, no rule refuses it, and this is the first limit of counts that it passes
pub record IsPast (text : List ℕ) (tree : ProgramTree) (limit : Limit) : Type 0 where
  pub has : HasTree text tree
  pub sound : IsSound tree
  pub passed : limit_passed (resolved tree) ≡ Some limit

-- the text has this tree, no rule refuses it, it is within the limits, and it is built
pub record IsRunnable (text : List ℕ) (tree : ProgramTree) : Type 0 where
  pub has : HasTree text tree
  pub sound : IsSound tree
  pub within : limit_passed (resolved tree) ≡ None
  pub small : IsSmall text

-- what a text is to this program
pub data Verdict : Type 0 where
  refused : Refusal → Verdict
  -- each tree of it is too deep
  too_deep : Verdict
  -- it passes a limit of counts
  past : (tree : ProgramTree) → Limit → Verdict
  unbuilt : Place → Verdict
  runs : ProgramTree → Verdict

-- the text has a tree that no rule refuses, within the limits, but is none of the grammar that is built so far
pub record IsSoundUnbuilt (text : List ℕ) (place : Place) : Type 0 where
  pub tree : ProgramTree
  pub has : HasTree text tree
  pub sound : IsSound tree
  pub within : limit_passed (resolved tree) ≡ None
  pub unbuilt : IsUnbuilt text place

abbrev pub IsVerdict : List ℕ → Verdict → Type 0
IsVerdict text (refused r) = IsRefused text r
IsVerdict text too_deep = IsTooDeep text
IsVerdict text (past tree l) = IsPast text tree l
IsVerdict text (unbuilt at) = IsSoundUnbuilt text at
IsVerdict text (runs tree) = IsRunnable text tree

-- a text has at most one verdict
abbrev pub OneVerdict : Type 0
OneVerdict = (text : List ℕ) (v w : Verdict) → IsVerdict text v → IsVerdict text w → v ≡ w

-- and each text has one
abbrev pub EachVerdict : Type 0
EachVerdict = (text : List ℕ) → (v : Verdict) × IsVerdict text v
