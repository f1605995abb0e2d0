-- What code is written within, and what was written.
use Rattle.std.specs.Prelude.{◌≡◌, ℕ, List, ◌++◌, length}
use Rattle.gc0_base.specs.declared.site.Kind.{Kind}
use Rattle.gc0_base.specs.declared.site.Kind.TheVariants as kind
use Rattle.gc0_tree.specs.declared.Shape.{Shape}
use Rattle.core_tree.specs.declared.Simple.{Simple}
use Rattle.gc0_tree.specs.declared.Function.{Function}
use Rattle.gc0_tree.specs.declared.numbers.SiteNumbers.{SiteNumbers}
use Rattle.gc0_tree.specs.Tree as tree
use Rattle.gc0_tree.specs.Fits.{Room}
use Rattle.gc0_tree.specs.Sites.{Places, sites_of}
use Rattle.gc0_tree.specs.Views.{function_view, program_view}
use Rattle.core_tree.specs.declared.DecisionAt.{DecisionAt}
use Rattle.core_tree.specs.CoreTree.{Code}
use Rattle.core_tree.specs.CoreViews.{code_view}
use Rattle.core_tables.specs.declared.PlacedSite.{PlacedSite}
use Rattle.formula_choices.specs.ChoicePlaces.{AreChoices}
use Rattle.temp_counts.specs.Used.{used_in, AreTemps}
use Rattle.lowering_laws.specs.Counts.{Counts, counted, tree_shape}
use Rattle.lowering_laws.specs.Trees.{Target, join, temp, value_of, tree_code}
use Rattle.lowering_laws.specs.Statements.{room_of}
use Rattle.lowering_laws.specs.Lowering.{target}
use Rattle.lowering_laws.specs.Tables.{tree_decisions, tree_placed}
use Rattle.core_expressions.specs.declared.within.Within.{Within}
use Rattle.core_expressions.specs.declared.written.Written.{Written}
use Rattle.core_expressions.specs.declared.operand.Operand.{Operand}

-- ---- within
abbrev pub program_of : Within → tree.Program
program_of w = program_view w.program.now

abbrev pub function_of : Within → tree.Function
function_of w = function_view w.function.now

abbrev pub places_of : Within → Places
places_of w = sites_of w.number (function_of w)

abbrev pub room_in : Within → Room
room_in w = room_of (function_of w)

abbrev pub target_of : Within → Target
target_of w = target (program_of w) w.number (function_of w)

-- the numbers of one kind in a function
pub record AreOf (f : Function) (g : ℕ) (k : Kind) (n : SiteNumbers) : Type 0 where
  pub function : n.function.now ≡ f
  pub number : n.number ≡ g
  pub kind : n.kind ≡ k

pub record IsWithin (w : Within) : Type 0 where
  pub calls : AreOf w.function.now w.number kind.Requires w.calls
  pub returns : AreOf w.function.now w.number kind.Ensures w.returns
  pub entry : AreOf w.function.now w.number kind.Entry w.entry
  pub again : AreOf w.function.now w.number kind.Again w.again
  pub asserts : AreOf w.function.now w.number kind.Assert w.asserts
  pub folds : AreOf w.function.now w.number kind.Fold w.folds
  pub unfolds : AreOf w.function.now w.number kind.Unfold w.unfolds
  pub accesses : AreOf w.function.now w.number kind.Access w.accesses
  pub traps : AreOf w.function.now w.number kind.Trap w.traps
  pub temps : AreTemps w.temps.now (program_of w) (function_of w)
  pub choices : AreChoices w.choices.now (program_of w)

-- ---- what was written
-- counts stand for what a statement used so far, and for the decisions so far
pub record StandsFor (out : Written) (c : Counts) : Type 0 where
  pub used : (s : Shape) → used_in out.temps s ≡ c.used s
  pub next : length out.decisions ≡ c.next

-- this code, these decisions and these sites came, and counts stand for what is used then
pub record IsWritten (before after : Written) (c : Counts) (more : Code) (ds : List DecisionAt) (ps : List PlacedSite) : Type 0 where
  pub counts : StandsFor after c
  pub code : code_view after.code ≡ join (code_view before.code) more
  pub decisions : after.decisions ≡ before.decisions ++ ds
  pub placed : after.placed ≡ before.placed ++ ps

-- where the value of an expression is, and what was written for it
pub record IsOperand (before after : Written) (x : Operand) (v : Simple) (s : Shape) (c : Counts) (more : Code) (ds : List DecisionAt) (ps : List PlacedSite) : Type 0 where
  pub value : x.value ≡ v
  pub shape : x.shape ≡ s
  pub written : IsWritten before after c more ds ps

-- ---- of an expression within a function
abbrev pub counts_behind : Within → Counts → tree.Tree → Counts
counts_behind w c e = counted (program_of w) (room_in w) c e

abbrev pub shape_in : Within → tree.Tree → Shape
shape_in w e = tree_shape (program_of w) (room_in w) e

abbrev pub value_in : Within → Counts → tree.Tree → Simple
value_in w c e = value_of (program_of w) (room_in w) (target_of w) c e

abbrev pub code_in : Within → Counts → tree.Tree → Code
code_in w c e = tree_code (program_of w) (room_in w) (target_of w) c e

abbrev pub decisions_for : Within → tree.Tree → List DecisionAt
decisions_for w e = tree_decisions (program_of w) (places_of w) e

abbrev pub placed_for : Within → tree.Tree → List PlacedSite
placed_for w e = tree_placed (places_of w) e

-- the next temporary of a shape
abbrev pub temp_in : Within → Shape → Counts → ℕ
temp_in w s c = temp (target_of w) s c
