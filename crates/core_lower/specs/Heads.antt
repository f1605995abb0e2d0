-- What is known of a test, and of a loop up to its body.
use Rattle.std.specs.Prelude.{◌≡◌, ℕ}
use Rattle.gc0_tree.specs.Tree.{Tree, Formula}
use Rattle.core_tree.specs.CoreTree.{do_step, code_and}
use Rattle.core_tree.specs.CoreViews.{code_view}
use Rattle.formula_choices.specs.ChoicePlaces.{choice_places}
use Rattle.lowering_laws.specs.Counts.{Counts, fresh, counted}
use Rattle.lowering_laws.specs.Trees.{decision, value_of, tree_code}
use Rattle.lowering_laws.specs.Statements.{headed}
use Rattle.core_expressions.specs.declared.within.Within.{Within}
use Rattle.core_expressions.specs.Writing.{program_of, room_in, target_of}
use Rattle.core_lower.specs.declared.loops.Test.{Test}
use Rattle.core_lower.specs.declared.loops.LoopTest.{LoopTest}
use Rattle.core_lower.specs.declared.loops.Head.{Head}

-- the value of a condition behind its code, and the decision of its branch
pub record IsTest (w : Within) (c : Counts) (e : Tree) (t : Test) : Type 0 where
  pub value : t.value ≡ value_of (program_of w) (room_in w) (target_of w) c e
  pub decision : t.decision ≡ decision (target_of w) (counted (program_of w) (room_in w) c e)

-- the test of a loop, with its own step
pub record IsLoopTest (w : Within) (c : Counts) (e : Tree) (t : LoopTest) : Type 0 where
  pub code : code_view t.code ≡ code_and do_step (tree_code (program_of w) (room_in w) (target_of w) c e)
  pub truth : IsTest w c e t.truth

-- a loop whose own step comes behind so many decisions
pub record IsHead (w : Within) (n : ℕ) (inv : Formula) (e : Tree) (h : Head) : Type 0 where
  pub places : h.places ≡ choice_places inv.parts
  pub test : IsLoopTest w (fresh (headed n inv)) e h.test
