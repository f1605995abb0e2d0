-- What tokens are read as, and where they first go wrong.
use Rattle.std.specs.Prelude.{◌≡◌, ◌⊎◌, List, [], ◌∷◌, ◌++◌}
use Rattle.gc0_base.specs.declared.place.Place.{Place}
use Rattle.built_text.specs.declared.token.Token.{Token}
use Rattle.built_text.specs.declared.tree.ReadFault.{ReadFault}
use Rattle.built_text.specs.declared.tree.ReadFault.TheVariants.{NotBuilt, Memory}
use Rattle.built_text.specs.Tree.{ProgramTree}
use Rattle.built_text.specs.Tokens.{EndsLast}
use Rattle.built_text.specs.Grammar.{IsProgram}

-- some program begins so
abbrev pub Begins : List Token → Type 0
Begins ts = (more : List Token) × (p : ProgramTree) × IsProgram (ts ++ more) p

-- the first token that, with those before it, begins no program stands here
pub record FirstFault (tokens : List Token) (place : Place) : Type 0 where
  pub before : List Token
  pub bad : Token
  pub after : List Token
  pub split : tokens ≡ before ++ bad ∷ after
  pub begins : Begins before
  pub none : Begins (before ++ bad ∷ []) → ⊥
  pub at : bad.place ≡ place

-- why tokens were not read: a first fault, or want of memory
abbrev pub HasReadCause : List Token → ReadFault → Type 0
HasReadCause ts (NotBuilt place) = FirstFault ts place
HasReadCause ts Memory = Unit {0}

-- tokens have at most one tree
abbrev pub OneTree : Type 0
OneTree = (ts : List Token) (p q : ProgramTree) → IsProgram ts p → IsProgram ts q → p ≡ q

-- tokens have at most one first fault, and those that have a tree have none
abbrev pub OneFault : Type 0
OneFault =
    ((ts : List Token) (a b : Place) → FirstFault ts a → FirstFault ts b → a ≡ b)
    × ((ts : List Token) (p : ProgramTree) (a : Place) → IsProgram ts p → FirstFault ts a → ⊥)

-- tokens that end with the end of the text have a tree or a first fault
abbrev pub EachTokens : Type 0
EachTokens =
    (ts : List Token) → EndsLast ts
    → ((p : ProgramTree) × IsProgram ts p) ⊎ ((at : Place) × FirstFault ts at)
