-- What a list of tokens is read as, and its first fault.
use Rattle.std.specs.Prelude.{◌≡◌, ℕ, ◌≤◌, ◌<◌, List, [], ◌∷◌, ◌++◌, Result, Ok, Err}
use Rattle.gc0_base.specs.declared.place.Place.{Place}
use Rattle.parsed_tree.specs.Tree.{ProgramTree}
use Rattle.c0_grammar.specs.Tokens.{Token, end_token}
use Rattle.c0_grammar.specs.Grammar.{IsProgram, Begins}
use Rattle.c0_grammar.specs.Faults.{Fault, syntax_at, deep_at}

-- the tokens have this tree, and at most so many nodes stand on a path
pub record Reads (limit : ℕ) (ts : List Token) (p : ProgramTree) : Type 0 where
  pub nodes : ℕ
  pub program : IsProgram ts p nodes
  pub within : nodes ≤ limit

-- some program begins so and has at most so many nodes on a path
abbrev pub CanBe : ℕ → List Token → Type 0
CanBe limit ts = (more : List Token) × (p : ProgramTree) × Reads limit (ts ++ more) p

-- every program that begins so has more nodes on a path
abbrev pub IsDeep : ℕ → List Token → Type 0
IsDeep limit ts = (more : List Token) (p : ProgramTree) (nodes : ℕ) → IsProgram (ts ++ more) p nodes → limit < nodes

-- a token of these at this place, and those before it
pub record Splits (ts before : List Token) (bad : Token) (at : Place) : Type 0 where
  pub after : List Token
  pub whole : ts ≡ before ++ bad ∷ after
  pub place : bad.place ≡ at

-- The first token that, with those before it, begins no program stands here; those before it begin one
-- that is not too deep.
pub record FirstSyntax (limit : ℕ) (ts : List Token) (at : Place) : Type 0 where
  pub before : List Token
  pub bad : Token
  pub splits : Splits ts before bad at
  pub can_be : CanBe limit before
  pub none : Begins (before ++ bad ∷ []) → ⊥

-- The first token such that every program that begins so is too deep stands here; some program does
-- begin so.
pub record FirstDeep (limit : ℕ) (ts : List Token) (at : Place) : Type 0 where
  pub before : List Token
  pub bad : Token
  pub splits : Splits ts before bad at
  pub can_be : CanBe limit before
  pub begins : Begins (before ++ bad ∷ [])
  pub deep : IsDeep limit (before ++ bad ∷ [])

-- the tokens end with the end of the text
pub record EndsLast (ts : List Token) : Type 0 where
  pub front : List Token
  pub last : Place
  pub split : ts ≡ front ++ end_token last ∷ []

abbrev pub HasFault : ℕ → List Token → Fault → Type 0
HasFault limit ts (syntax_at at) = FirstSyntax limit ts at
HasFault limit ts (deep_at at) = FirstDeep limit ts at

-- a tree, or a first fault
abbrev pub Answers : ℕ → List Token → Result ProgramTree Fault → Type 0
Answers limit ts (Ok p) = Reads limit ts p
Answers limit ts (Err f) = HasFault limit ts f

-- a text has at most one tree
abbrev pub OneTree : Type 0
OneTree = (ts : List Token) (p q : ProgramTree) (c d : ℕ) → IsProgram ts p c → IsProgram ts q d → p ≡ q
