-- Formulas with numbers in place of names: their conjuncts in reading order.
-- Source: Gradual C0, "Formulas"; that `a || b` is a choice is this project's own.
use Rattle.std.specs.Prelude.{ℕ, Bool, true, false, ◌||◌, List, [], ◌∷◌, ◌++◌, Option, Some, None, if◌then◌else◌}
use Rattle.gc0_base.specs.declared.place.Place.{Place}
use Rattle.parsed_tree.specs.declared.expressions.Operator.{Operator}
use Rattle.parsed_tree.specs.declared.expressions.Operator.TheVariants as op
use Rattle.parsed_tree.specs.declared.items.Side.{Side}
use Rattle.parsed_tree.specs.declared.items.Side.TheVariants.{Requires, Ensures}
use Rattle.parsed_tree.specs.Tree.{ExprTree, number, truth, null, local, outcome, unary, binary, choose, arrow, call, call_text, alloc, acc, ExprTrees, FormulaTree, InstanceTree, InvariantTree, InvariantsTree, ClauseTree, ContractTree}
use Rattle.gc0_tree.specs.Tree as gc0
use Rattle.c0_names.specs.declared.tables.Tables.{Tables}
use Rattle.c0_value_numbers.specs.declared.frame.Frame.{Frame}
use Rattle.c0_value_numbers.specs.Values.{number_in, accessed, type_in_frame}
use Rattle.c0_value_numbers.specs.Expressions.{expr_tree, exprs_tree}

-- a value of a formula, in which no text stands
abbrev pub value_tree : Tables → Frame → ExprTree → gc0.Tree
value_tree t f e = expr_tree t f [] e

abbrev pub values_tree : Tables → Frame → ExprTrees → gc0.Trees
values_tree t f es = exprs_tree t f [] es

-- `e || those`, with the `||` at this place: the choice `e ? true : those`. `(a || b) || those` is `a || (b || those)`.
abbrev pub choices : Tables → Frame → Place → ExprTree → (those : gc0.Conjuncts) → gc0.Conjuncts → gc0.Conjuncts
choices t f at (binary s op.Either a b) those rest = choices t f s.place a (choices t f at b those gc0.no_parts) rest
choices t f at e those rest = gc0.choice_part at (value_tree t f e) (gc0.value_part (gc0.truth_at at true) gc0.no_parts) those rest

-- the conjuncts of a formula's parts before others
abbrev pub parts : Tables → Frame → ExprTree → gc0.Conjuncts → gc0.Conjuncts
parts t f (binary s op.Both a b) rest = parts t f a (parts t f b rest)
parts t f (binary s op.Either a b) rest = choices t f s.place a (parts t f b gc0.no_parts) rest
parts t f (choose s c a b) rest = gc0.choice_part s.place (value_tree t f c) (parts t f a gc0.no_parts) (parts t f b gc0.no_parts) rest
parts t f (acc s path p n) rest = gc0.acc_part (value_tree t f path) (accessed t (type_in_frame t f path) n.name).field rest
parts t f (call s n args) rest = gc0.instance_part s.place (number_in t.predicates.names n) (values_tree t f args) rest
parts t f e rest = gc0.value_part (value_tree t f e) rest

abbrev pub optional_parts : Tables → Frame → Option ExprTree → gc0.Conjuncts → gc0.Conjuncts
optional_parts t f None rest = rest
optional_parts t f (Some e) rest = parts t f e rest

abbrev pub formula_tree : Tables → Frame → FormulaTree → gc0.Formula
formula_tree t f g = record { imprecise = g.imprecise; parts = optional_parts t f g.parts gc0.no_parts }

-- the instance of a `fold` or an `unfold`, as the one conjunct of a formula
abbrev pub instance_tree : Tables → Frame → InstanceTree → gc0.Formula
instance_tree t f i = record { imprecise = false; parts = gc0.instance_part i.name.place (number_in t.predicates.names i.name.name) (values_tree t f i.arguments) gc0.no_parts }

-- ---- clauses joined in their order: imprecise where there is none, or where one of them is
abbrev pub are_none : List FormulaTree → Bool
are_none [] = true
are_none (g ∷ gs) = false

abbrev pub any_imprecise : List FormulaTree → Bool
any_imprecise [] = false
any_imprecise (g ∷ gs) = g.imprecise || any_imprecise gs

abbrev pub all_parts : Tables → Frame → List FormulaTree → gc0.Conjuncts → gc0.Conjuncts
all_parts t f [] rest = rest
all_parts t f (g ∷ gs) rest = optional_parts t f g.parts (all_parts t f gs rest)

abbrev pub joined : Tables → Frame → List FormulaTree → gc0.Formula
joined t f gs = record { imprecise = are_none gs || any_imprecise gs; parts = all_parts t f gs gc0.no_parts }

-- the clauses of one side of a contract
abbrev pub is_of : Side → Side → Bool
is_of Requires Requires = true
is_of Requires Ensures = false
is_of Ensures Requires = false
is_of Ensures Ensures = true

abbrev pub side_clauses : Side → List ClauseTree → List FormulaTree
side_clauses side [] = []
side_clauses side (c ∷ cs) = if is_of side c.side then c.formula ∷ side_clauses side cs else side_clauses side cs

abbrev pub side_contracts : Side → List ContractTree → List FormulaTree
side_contracts side [] = []
side_contracts side (c ∷ cs) = side_clauses side c.clauses ++ side_contracts side cs

-- the invariants of a loop
abbrev pub invariant_clauses : List InvariantTree → List FormulaTree
invariant_clauses [] = []
invariant_clauses (i ∷ is) = i.formula ∷ invariant_clauses is

abbrev pub invariants : List InvariantsTree → List FormulaTree
invariants [] = []
invariants (i ∷ is) = invariant_clauses i.clauses ++ invariants is
