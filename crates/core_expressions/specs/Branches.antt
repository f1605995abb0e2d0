-- The branches of expressions, whose sides set a temporary.
use Rattle.std.specs.Prelude.{◌≡◌, ℕ}
use Rattle.gc0_base.specs.declared.site.Decision.{Decision}
use Rattle.gc0_tree.specs.declared.Shape.{Shape}
use Rattle.gc0_tree.specs.declared.Shape.TheVariants.{Bool as Truth}
use Rattle.gc0_tree.specs.Tree.{Tree}
use Rattle.gc0_tree.specs.Fits.{common}
use Rattle.core_tree.specs.declared.Simple.{Simple}
use Rattle.core_tree.specs.CoreTree.{do_set, do_if, Code}
use Rattle.core_tree.specs.CoreViews.{code_view}
use Rattle.lowering_laws.specs.Counts.{Counts, or_int, decided}
use Rattle.lowering_laws.specs.Trees.{join, one, constant, decision}
use Rattle.core_expressions.specs.declared.within.Within.{Within}
use Rattle.core_expressions.specs.declared.branches.Aside.{Aside}
use Rattle.core_expressions.specs.Writing.{target_of, counts_behind, shape_in, value_in, code_in, temp_in}

-- the code of an expression, apart from other code
pub record IsAside (w : Within) (c : Counts) (e : Tree) (x : Aside) : Type 0 where
  pub value : x.value ≡ value_in w c e
  pub shape : x.shape ≡ shape_in w e
  pub code : code_view x.code ≡ code_in w c e

-- a side of a branch
abbrev pub side : Code → (to : ℕ) → Simple → Code
side code to a = join code (one (do_set to a))

-- a branch whose sides have their code already
abbrev pub branch_code : Decision → (condition : Simple) → (to : ℕ) → (these those : Aside) → Code
branch_code d condition to these those = one (do_if d condition (side (code_view these.code) to these.value) (side (code_view those.code) to those.value))

-- `left && b`, behind the left operand
abbrev pub both_code : Within → Counts → (left : Simple) → Tree → Code
both_code w c left b =
    let to : ℕ = temp_in w Truth (counts_behind w (decided 1 c) b) in
    one (do_if (decision (target_of w) c) left (side (code_in w (decided 1 c) b) to (value_in w (decided 1 c) b)) (one (do_set to (constant 0))))

-- `left || b`, behind the left operand
abbrev pub either_code : Within → Counts → (left : Simple) → Tree → Code
either_code w c left b =
    let to : ℕ = temp_in w Truth (counts_behind w (decided 1 c) b) in
    one (do_if (decision (target_of w) c) left (one (do_set to left)) (side (code_in w (decided 1 c) b) to (value_in w (decided 1 c) b)))

-- the shape of a value that is chosen, where one side has this shape
abbrev pub shape_with : Within → Shape → Tree → Shape
shape_with w s b = or_int (common s (shape_in w b))

-- `truth ? these : b`, behind the code of the first side
abbrev pub other_code : Within → Counts → Decision → (truth : Simple) → (to : ℕ) → (these : Aside) → Tree → Code
other_code w c d truth to these b = one (do_if d truth (side (code_view these.code) to these.value) (side (code_in w c b) to (value_in w c b)))

-- `truth ? a : b`, behind the truth
abbrev pub choice_code : Within → Counts → (truth : Simple) → (to : ℕ) → (a b : Tree) → Code
choice_code w c truth to a b =
    let c2 : Counts = counts_behind w (decided 1 c) a in
    one (do_if (decision (target_of w) c) truth (side (code_in w (decided 1 c) a) to (value_in w (decided 1 c) a)) (side (code_in w c2 b) to (value_in w c2 b)))
