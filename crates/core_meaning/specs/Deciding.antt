-- The decisions that a function of a core is to have, in the order of its text.
use Rattle.std.specs.Prelude.{◌≡◌, ℕ, suc, List, [], ◌∷◌, ◌++◌, Option, Some, None, IfSome, if◌then◌else◌, eqb, slice_get}
use Rattle.gc0_base.specs.declared.place.Place.{Place}
use Rattle.gc0_base.specs.declared.site.Site.{Site}
use Rattle.gc0_base.specs.declared.site.Decision.{Decision}
use Rattle.gc0_tree.specs.Tree.{Formula, NoteKind, assert_note, fold_note, unfold_note}
use Rattle.core_tree.specs.declared.Phase.{Phase}
use Rattle.core_tree.specs.declared.Phase.TheVariants.{Produce, Consume}
use Rattle.core_tree.specs.declared.Origin.{Origin}
use Rattle.core_tree.specs.declared.Origin.TheVariants.{Branch, Choice}
use Rattle.core_tree.specs.declared.DecisionAt.{DecisionAt}
use Rattle.core_tree.specs.CoreTree.{CoreStmt, do_step, do_set, do_unary, do_binary, do_load, do_store, do_new, do_call, do_library, do_if, do_loop, do_return, do_assert, do_raise, do_note, Code, no_code, code_and, CoreFunction, Core}
use Rattle.core_tree.specs.CoreSites.{choice_decision}
use Rattle.core_meaning.specs.Choices.{ChoiceOf, choices, instance_body}
use Rattle.core_meaning.specs.CoreRunning.{before_of, after_of, start_at}

-- a branch or a choice of the code: the decision that it has there, what it is, and the place of a choice
pub record Due : Type 0 where
  pub decision : Decision
  pub origin : Origin
  pub place : Option Place

abbrev pub branch_due : Decision → List Due
branch_due d = record { decision = d; origin = Branch; place = None } ∷ []

-- the choices of a formula at one point, from a number on
abbrev pub choices_due : Core → Site → Phase → ℕ → List ChoiceOf → List Due
choices_due c site phase k [] = []
choices_due c site phase k (x ∷ xs) =
    record { decision = choice_decision c site phase k; origin = Choice site phase k; place = Some x.place } ∷ choices_due c site phase (suc k) xs

abbrev pub formula_due : Core → Site → Phase → Formula → List Due
formula_due c site phase formula = choices_due c site phase 0 (choices formula.parts)

-- the same of the body of the one instance of a fold or an unfold
abbrev pub body_due : Core → Site → Phase → Formula → List Due
body_due c site phase formula = choices_due c site phase 0 (choices (instance_body c.predicates formula.parts))

-- an assert and a fold consume, an unfold produces
abbrev pub note_due : Core → NoteKind → Formula → Site → List Due
note_due c assert_note formula site = formula_due c site Consume formula
note_due c fold_note formula site = body_due c site Consume formula
note_due c unfold_note formula site = body_due c site Produce formula

-- the decisions of statements, in the order of the text
abbrev mutual
  pub stmt_due : Core → CoreFunction → CoreStmt → List Due
  stmt_due c f do_step = []
  stmt_due c f (do_set to a) = []
  stmt_due c f (do_unary to o a) = []
  stmt_due c f (do_binary to o a b site) = []
  stmt_due c f (do_load to base k field site) = []
  stmt_due c f (do_store base k field value site) = []
  stmt_due c f (do_new to k) = []
  stmt_due c f (do_call to g args site) =
      formula_due c site Consume (before_of (slice_get c.functions g)) ++ formula_due c site Produce (after_of (slice_get c.functions g))
  stmt_due c f (do_library to l a t site) = []
  stmt_due c f (do_if d a these those) = branch_due d ++ (code_due c f these ++ code_due c f those)
  stmt_due c f (do_loop entry again inv d test a body) =
      formula_due c entry Consume inv ++ (formula_due c entry Produce inv
      ++ (code_due c f test ++ (branch_due d ++ (code_due c f body ++ formula_due c again Consume inv))))
  stmt_due c f (do_return a site) = formula_due c site Consume f.after
  stmt_due c f (do_assert a site) = []
  stmt_due c f (do_raise t site) = []
  stmt_due c f (do_note k formula site) = note_due c k formula site

  pub code_due : Core → CoreFunction → Code → List Due
  code_due c f no_code = []
  code_due c f (code_and s rest) = stmt_due c f s ++ code_due c f rest

-- at the start: `main` consumes its `requires`, and each function produces its own
abbrev pub start_due : Core → ℕ → CoreFunction → List Due
start_due c g f = (if eqb g c.main then formula_due c (start_at g) Consume f.before else []) ++ formula_due c (start_at g) Produce f.before

-- all decisions of a function
abbrev pub function_due : Core → ℕ → CoreFunction → List Due
function_due c g f = start_due c g f ++ code_due c f f.body

-- Each of them has the next number, from a number on, and is kept there with its origin: so the numbers ascend in the order
-- of the text, and no two branches or choices share one.
abbrev pub AreNumbered : (function number : ℕ) → List Due → List DecisionAt → Type 0
AreNumbered g n [] [] = Unit {0}
AreNumbered g n [] (d ∷ ds) = ⊥
AreNumbered g n (x ∷ xs) [] = ⊥
AreNumbered g n (x ∷ xs) (d ∷ ds) =
    (x.decision ≡ record { function = g; number = n }) × (d.origin ≡ x.origin) × IfSome x.place (λ place. d.place ≡ place) × AreNumbered g (suc n) xs ds
