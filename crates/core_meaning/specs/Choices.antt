-- The choices of formulas, and what a run decides of them.
use Rattle.std.specs.Prelude.{ℕ, suc, Bool, false, not, eqb, List, [], ◌∷◌, ◌++◌, map, Option, Some, None, slice_get, slice_set}
use Rattle.gc0_base.specs.declared.place.Place.{Place}
use Rattle.gc0_tree.specs.Tree.{Tree, Trees, no_trees, Conjuncts, no_parts, value_part, acc_part, instance_part, choice_part, Predicate}
use Rattle.c0_meaning.specs.Heaps.{Heap, Cells}
use Rattle.c0_meaning.specs.Holds.{value_in, values_in}
use Rattle.core_meaning.specs.CoreRuns.{Outcomes}

-- a choice: the place of its `?` or `||`, and its condition
pub record ChoiceOf : Type 0 where
  pub place : Place
  pub condition : Tree

-- the choices in reading order, each before those in its branches
abbrev pub choices : Conjuncts → List ChoiceOf
choices no_parts = []
choices (value_part e rest) = choices rest
choices (acc_part e field rest) = choices rest
choices (instance_part at q args rest) = choices rest
choices (choice_part at c these those rest) = record { place = at; condition = c } ∷ (choices these ++ (choices those ++ choices rest))

abbrev pub is_so : Option ℕ → Bool
is_so None = false
is_so (Some x) = not (eqb x 0)

-- What a choice is over some words: its condition, and false where that reads through `NULL` or what isn't owned, or where
-- there are no words.
abbrev pub outcome : Heap → Cells → Option (List ℕ) → ChoiceOf → Bool
outcome heap owned None c = false
outcome heap owned (Some words) c = is_so (value_in heap owned words c.condition)

abbrev pub outcomes_of : Heap → Cells → Option (List ℕ) → Conjuncts → List Bool
outcomes_of heap owned words parts = map (outcome heap owned words) (choices parts)

-- the outcomes with those of the decisions from a number on
abbrev pub with_outcomes : ℕ → List Bool → Outcomes → Outcomes
with_outcomes first [] outcomes = outcomes
with_outcomes first (b ∷ bs) outcomes = with_outcomes (suc first) bs (slice_set outcomes first (Some b))

-- ---- a fold and an unfold: their choices are those of the body of the one instance
abbrev pub body_of : Option Predicate → Conjuncts
body_of None = no_parts
body_of (Some q) = q.body

abbrev pub instance_body : List Predicate → Conjuncts → Conjuncts
instance_body qs (instance_part at q args rest) = body_of (slice_get qs q)
instance_body qs parts = no_parts

abbrev pub arguments_of : Conjuncts → Trees
arguments_of (instance_part at q args rest) = args
arguments_of parts = no_trees

-- what the body speaks of, and none where an argument has no value
abbrev pub instance_words : Heap → Cells → List ℕ → Conjuncts → Option (List ℕ)
instance_words heap owned words parts = values_in heap owned words (arguments_of parts)
