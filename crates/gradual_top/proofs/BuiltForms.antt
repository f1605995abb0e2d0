-- Values, formulas and calls of the built forms have code.
use Rattle.std.proofs.Common.{◌≡◌, ℕ, suc, ◌+◌, Bool, true, false, ◌&&◌, ◌||◌, if◌then◌else◌, List, [], ◌∷◌, ◌++◌, Option, Some, None, is_some, slice_get, option_and_then, option_map, IsTrue, codes, bytes_eq, refl, sym, subst, ap, ◌∙◌, inl, inr}
use Rattle.std.specs.Prelude.{◌⊎◌}
use Rattle.gc0_base.specs.declared.place.Place.{Place}
use Rattle.parsed_tree.specs.declared.expressions.UnaryOperator.{UnaryOperator}
use Rattle.parsed_tree.specs.declared.expressions.UnaryOperator.TheVariants as unary_op
use Rattle.parsed_tree.specs.declared.expressions.Operator.{Operator}
use Rattle.parsed_tree.specs.declared.expressions.Operator.TheVariants as op
use Rattle.parsed_tree.specs.declared.items.Side.{Side}
use Rattle.parsed_tree.specs.Tree.{ExprTree, number, truth, local, outcome, unary, binary, call, spot_of, ExprTrees, no_exprs, expr_and, FormulaTree, InvariantTree, InvariantsTree, ClauseTree, ContractTree}
use Rattle.c0_names.specs.declared.types.ValueType.{ValueType}
use Rattle.c0_names.specs.declared.tables.Signature.{Signature}
use Rattle.c0_names.specs.declared.tables.Tables.{Tables}
use Rattle.c0_names.specs.Names.{last_place, or_here}
use Rattle.c0_names.specs.Tables.{signature_in}
use Rattle.c0_names.specs.Types.{fits, unary_type, binary_type, library_signature, library, or_else, callee}
use Rattle.c0_value_rules.specs.declared.violation.Rule.{Rule}
use Rattle.c0_value_rules.specs.declared.violation.Rule.TheVariants as rule
use Rattle.c0_value_rules.specs.declared.violation.Violation.{Violation}
use Rattle.c0_value_rules.specs.declared.scope.Standing.{Standing}
use Rattle.c0_value_rules.specs.declared.scope.Scope.{Scope}
use Rattle.c0_value_rules.specs.Violations.{violation, unless}
use Rattle.c0_value_rules.specs.Scopes.{is_read_well, standing_of, held_type}
use Rattle.c0_names.specs.Typing.{unary_typed, binary_typed, argument_fits, params_of, takes, count_of}
use Rattle.c0_value_rules.specs.Expressions.{type_here, arguments_fit_here, operand_violations, operands_violations, due_violations, argument_violations, callee_violations, counted_violations, expr_violations, arguments_violations}
use Rattle.gc0_tree.specs.declared.LibraryCall.{LibraryCall}
use Rattle.gc0_tree.specs.declared.LibraryCall.TheVariants as library_call
use Rattle.gc0_tree.specs.Calls.{library_named}
use Rattle.gc0_tree.specs.Tree as gc0
use Rattle.c0_value_numbers.specs.declared.frame.Frame.{Frame}
use Rattle.c0_value_numbers.specs.Values.{number_in}
use Rattle.c0_value_numbers.specs.Texts.{Texts, expr_texts}
use Rattle.c0_value_numbers.specs.Expressions.{unary_of, binary_tree, call_tree, expr_tree, exprs_tree}
use Rattle.c0_value_numbers.specs.Formulas.{value_tree, parts, optional_parts, all_parts, is_of, side_clauses, side_contracts, invariant_clauses, invariants}
use Rattle.stack_code.specs.Built.{built_unary, built_library, IsFormulaTree, AreValues, Takes, IsBuiltTree, AreBuiltTrees, IsBuiltPlain}
use Rattle.stack_code.specs.Built as code
use Rattle.built_text.specs.Forms.{is_built_unary, is_built_operator, IsBuiltValue, AreBuiltValues, is_printed, is_library, IsBuiltRight, IsBuiltCall, AreBuiltParts, IsBuiltOption, AreAll, IsBuiltFormula, IsBuiltInvariant, AreBuiltInvariants, is_ensures, IsBuiltClause, IsBuiltContract}

-- ---- lists without violations
pub left_none : (a b : List Violation) → a ++ b ≡ [] → a ≡ []
left_none [] b e = refl
left_none (v ∷ a) b e = let n : ⊥ = cc in absurd n

pub right_none : (a b : List Violation) → a ++ b ≡ [] → b ≡ []
right_none [] b e = e
right_none (v ∷ a) b e = let n : ⊥ = cc in absurd n

pub kept : (b : Bool) (r : Rule) (p : Place) → unless b r p ≡ [] → b ≡ true
kept true r p e = refl
kept false r p e = let n : ⊥ = cc in absurd n

-- ---- each local in scope has a standing: there are as many standings as names
abbrev pub Beside : List (List ℕ) → List Standing → Type 0
Beside [] [] = Unit {0}
Beside [] (s ∷ ss) = ⊥
Beside (n ∷ ns) [] = ⊥
Beside (n ∷ ns) (s ∷ ss) = Beside ns ss

abbrev pub IsEven : Scope → Type 0
IsEven scope = Beside scope.names scope.standings

here_or_below : (s : Standing) (ss : List Standing) (b : Bool) (i : Option ℕ) → is_some (or_here b i) ≡ true → (is_some i ≡ true → is_some (option_and_then (slice_get ss) i) ≡ true) → is_some (option_and_then (slice_get (s ∷ ss)) (or_here b i)) ≡ true
here_or_below s ss true None h below = refl
here_or_below s ss false None h below = let n : ⊥ = cc in absurd n
here_or_below s ss b (Some i) h below = below refl

standing_some : (ns : List (List ℕ)) (ss : List Standing) (name : List ℕ) → Beside ns ss → is_some (last_place ns name) ≡ true → is_some (option_and_then (slice_get ss) (last_place ns name)) ≡ true
standing_some [] ss name b h = let n : ⊥ = cc in absurd n
standing_some (n ∷ ns) [] name b h = absurd b
standing_some (n ∷ ns) (s ∷ ss) name b h = here_or_below s ss (bytes_eq n name) (last_place ns name) h (standing_some ns ss name b)

held_some : (k : Option Standing) → is_some k ≡ true → is_some (option_map (λ s. s.holds) k) ≡ true
held_some None e = let n : ⊥ = cc in absurd n
held_some (Some k) e = refl

local_some : (at : Place) (known well : Bool) (v : Option ValueType) → (if known then unless well rule.Unassigned at else (violation rule.Unknown at ∷ [])) ≡ [] → (known ≡ true → is_some v ≡ true) → is_some (if well then v else None) ≡ true
local_some at false well v h held = let n : ⊥ = cc in absurd n
local_some at true false v h held = let n : ⊥ = cc in absurd n
local_some at true true v h held = held refl

-- ---- an expression without violations has a type
unary_some : (at : Place) (o : UnaryOperator) (v : Option ValueType) → is_some v ≡ true → operand_violations at o v ≡ [] → is_some (unary_typed o v) ≡ true
unary_some at o None s e = let n : ⊥ = cc in absurd n
unary_some at o (Some v) s e = kept (is_some (unary_type o v)) rule.WrongType at e

binary_some : (at : Place) (o : Operator) (v w : Option ValueType) → is_some v ≡ true → is_some w ≡ true → operands_violations at o v w ≡ [] → is_some (binary_typed o v w) ≡ true
binary_some at o None w s q e = let n : ⊥ = cc in absurd n
binary_some at o (Some v) None s q e = let n : ⊥ = cc in absurd n
binary_some at o (Some v) (Some w) s q e = kept (is_some (binary_type o v w)) rule.WrongType at e

typed : (t : Tables) (scope : Scope) → IsEven scope → (e : ExprTree) → IsBuiltValue false e → expr_violations t scope None e ≡ [] → is_some (type_here t scope None e) ≡ true
typed t scope v (number s w) g h = refl
typed t scope v (truth s b) g h = refl
typed t scope v (local s n) g h = local_some s.place (is_some (last_place scope.names n)) (is_read_well scope n) (held_type scope n) h (λ k. held_some (standing_of scope n) (standing_some scope.names scope.standings n v k))
typed t scope v (outcome s) g h = let n : ⊥ = cc in absurd n
typed t scope v (unary s o x) g h =
    let a = expr_violations t scope None x in
    let b = operand_violations s.place o (type_here t scope None x) in
    unary_some s.place o (type_here t scope None x) (typed t scope v x g.1 (left_none a b h)) (right_none a b h)
typed t scope v (binary s o x y) g h =
    let a = expr_violations t scope None x in
    let b = expr_violations t scope None y in
    let c = operands_violations s.place o (type_here t scope None x) (type_here t scope None y) in
    let k = right_none a (b ++ c) h in
    binary_some s.place o (type_here t scope None x) (type_here t scope None y) (typed t scope v x g.1 (left_none a (b ++ c) h)) (typed t scope v y g.2 (left_none b c k)) (right_none b c k)
typed t scope v e g h = absurd g

-- ---- values have code, in statements and in formulas
unary_built : (o : UnaryOperator) → IsTrue (is_built_unary o) → IsTrue (built_unary (unary_of o))
unary_built unary_op.Negate g = refl
unary_built unary_op.Not g = g
unary_built unary_op.Flip g = refl

binary_built : (fs : List gc0.Function) (p : Place) (o : Operator) (x y : gc0.Tree) → IsTrue (is_built_operator o) → IsBuiltTree fs x → IsBuiltTree fs y → IsBuiltTree fs (binary_tree p o x y)
binary_built fs p op.Mul x y g a b = (refl, a, b)
binary_built fs p op.Add x y g a b = (refl, a, b)
binary_built fs p op.Sub x y g a b = (refl, a, b)
binary_built fs p op.Less x y g a b = (refl, a, b)
binary_built fs p op.LessEq x y g a b = (refl, a, b)
binary_built fs p op.Greater x y g a b = (refl, a, b)
binary_built fs p op.GreaterEq x y g a b = (refl, a, b)
binary_built fs p op.Equal x y g a b = (refl, a, b)
binary_built fs p op.NotEqual x y g a b = (refl, a, b)
binary_built fs p o x y g a b = let n : ⊥ = cc in absurd n

pub value_built : (fs : List gc0.Function) (u : Tables) (f : Frame) (ts : Texts) (e : ExprTree) → IsBuiltValue false e → IsBuiltTree fs (expr_tree u f ts e)
value_built fs u f ts (number s w) g = tt
value_built fs u f ts (truth s b) g = tt
value_built fs u f ts (local s n) g = tt
value_built fs u f ts (outcome s) g = let n : ⊥ = cc in absurd n
value_built fs u f ts (unary s o x) g = (unary_built o g.0, value_built fs u f ts x g.1)
value_built fs u f ts (binary s o x y) g = binary_built fs s.place o (expr_tree u f ts x) (expr_tree u f (expr_texts ts x) y) g.0 (value_built fs u f ts x g.1) (value_built fs u f (expr_texts ts x) y g.2)
value_built fs u f ts e g = absurd g

pub values_built : (fs : List gc0.Function) (u : Tables) (f : Frame) (ts : Texts) (es : ExprTrees) → AreBuiltValues es → AreBuiltTrees fs (exprs_tree u f ts es)
values_built fs u f ts no_exprs g = tt
values_built fs u f ts (expr_and e es) g = (value_built fs u f ts e g.0, values_built fs u f (expr_texts ts e) es g.1)

binary_stated : (p : Place) (o : Operator) (x y : gc0.Tree) → IsTrue (is_built_operator o) → IsFormulaTree x → IsFormulaTree y → IsFormulaTree (binary_tree p o x y)
binary_stated p op.Mul x y g a b = (refl, a, b)
binary_stated p op.Add x y g a b = (refl, a, b)
binary_stated p op.Sub x y g a b = (refl, a, b)
binary_stated p op.Less x y g a b = (refl, a, b)
binary_stated p op.LessEq x y g a b = (refl, a, b)
binary_stated p op.Greater x y g a b = (refl, a, b)
binary_stated p op.GreaterEq x y g a b = (refl, a, b)
binary_stated p op.Equal x y g a b = (refl, a, b)
binary_stated p op.NotEqual x y g a b = (refl, a, b)
binary_stated p o x y g a b = let n : ⊥ = cc in absurd n

stated : (u : Tables) (f : Frame) (ts : Texts) (r : Bool) (e : ExprTree) → IsBuiltValue r e → IsFormulaTree (expr_tree u f ts e)
stated u f ts r (number s w) g = tt
stated u f ts r (truth s b) g = tt
stated u f ts r (local s n) g = tt
stated u f ts r (outcome s) g = tt
stated u f ts r (unary s o x) g = (unary_built o g.0, stated u f ts r x g.1)
stated u f ts r (binary s o x y) g = binary_stated s.place o (expr_tree u f ts x) (expr_tree u f (expr_texts ts x) y) g.0 (stated u f ts r x g.1) (stated u f (expr_texts ts x) r y g.2)
stated u f ts r e g = absurd g

-- ---- formulas
-- a built operator joins no conjuncts
joins_none : (u : Tables) (f : Frame) (r : Bool) (e : ExprTree) → IsBuiltValue r e → (rest : gc0.Conjuncts) → parts u f e rest ≡ gc0.value_part (value_tree u f e) rest
joins_none u f r (binary s op.Mul x y) g rest = refl
joins_none u f r (binary s op.Add x y) g rest = refl
joins_none u f r (binary s op.Sub x y) g rest = refl
joins_none u f r (binary s op.Less x y) g rest = refl
joins_none u f r (binary s op.LessEq x y) g rest = refl
joins_none u f r (binary s op.Greater x y) g rest = refl
joins_none u f r (binary s op.GreaterEq x y) g rest = refl
joins_none u f r (binary s op.Equal x y) g rest = refl
joins_none u f r (binary s op.NotEqual x y) g rest = refl
joins_none u f r (binary s o x y) g rest = let w = g.0 in let n : ⊥ = cc in absurd n
joins_none u f r (number s w) g rest = refl
joins_none u f r (truth s b) g rest = refl
joins_none u f r (local s n) g rest = refl
joins_none u f r (outcome s) g rest = refl
joins_none u f r (unary s o x) g rest = refl
joins_none u f r e g rest = absurd g

part_built : (u : Tables) (f : Frame) (r : Bool) (e : ExprTree) → IsBuiltValue r e → (rest : gc0.Conjuncts) → AreValues rest → AreValues (parts u f e rest)
part_built u f r e g rest h = subst AreValues (sym (joins_none u f r e g rest)) (stated u f [] r e g, h)

parts_built : (u : Tables) (f : Frame) (r : Bool) (e : ExprTree) → AreBuiltParts r e → (rest : gc0.Conjuncts) → AreValues rest → AreValues (parts u f e rest)
parts_built u f r (binary s op.Both x y) g rest h = parts_built u f r x g.0 (parts u f y rest) (part_built u f r y g.1 rest h)
parts_built u f r e g rest h = part_built u f r e g rest h

pub optional_built : (u : Tables) (f : Frame) (r : Bool) (g : FormulaTree) → IsBuiltFormula r g → (rest : gc0.Conjuncts) → AreValues rest → AreValues (optional_parts u f g.parts rest)
optional_built u f r g = of_parts g.parts
  where
    of_parts : (e : Option ExprTree) → IsBuiltOption (AreBuiltParts r) e → (rest : gc0.Conjuncts) → AreValues rest → AreValues (optional_parts u f e rest)
    of_parts None b rest h = h
    of_parts (Some e) b rest h = parts_built u f r e b rest h

-- a formula with `\result` or without
abbrev pub IsEither : FormulaTree → Type 0
IsEither g = (r : Bool) × IsBuiltFormula r g

pub joined_built : (u : Tables) (f : Frame) (gs : List FormulaTree) → AreAll IsEither gs → AreValues (all_parts u f gs gc0.no_parts)
joined_built u f [] a = tt
joined_built u f (g ∷ gs) a = let b = a.0 in optional_built u f b.0 g b.1 (all_parts u f gs gc0.no_parts) (joined_built u f gs a.1)

all_both : (a b : List FormulaTree) → AreAll IsEither a → AreAll IsEither b → AreAll IsEither (a ++ b)
all_both [] b x y = y
all_both (g ∷ a) b x y = (x.0, all_both a b x.1 y)

clauses_built : (side : Side) (cs : List ClauseTree) → AreAll IsBuiltClause cs → AreAll IsEither (side_clauses side cs)
clauses_built side [] a = tt
clauses_built side (c ∷ cs) a =
    (elim (is_of side c.side) as (λ b. AreAll IsEither (if b then c.formula ∷ side_clauses side cs else side_clauses side cs)) [
      | true ↦ ((is_ensures c.side, a.0), clauses_built side cs a.1)
      | false ↦ clauses_built side cs a.1
    ])

pub contracts_built : (side : Side) (cs : List ContractTree) → AreAll IsBuiltContract cs → AreAll IsEither (side_contracts side cs)
contracts_built side [] a = tt
contracts_built side (c ∷ cs) a = all_both (side_clauses side c.clauses) (side_contracts side cs) (clauses_built side c.clauses a.0) (contracts_built side cs a.1)

one_invariants : (is : List InvariantTree) → AreAll IsBuiltInvariant is → AreAll IsEither (invariant_clauses is)
one_invariants [] a = tt
one_invariants (i ∷ is) a = ((false, a.0), one_invariants is a.1)

pub invariants_built : (is : List InvariantsTree) → AreAll AreBuiltInvariants is → AreAll IsEither (invariants is)
invariants_built [] a = tt
invariants_built (i ∷ is) a = all_both (invariant_clauses i.clauses) (invariants is) (one_invariants i.clauses a.0) (invariants_built is a.1)

-- ---- calls
due_fits : (at : Place) (due : ValueType) (v : Option ValueType) → is_some v ≡ true → due_violations at due v ≡ [] → argument_fits (Some due) v ≡ true
due_fits at due None s e = let n : ⊥ = cc in absurd n
due_fits at due (Some v) s e = kept (fits due v) rule.WrongType at e

one_fits : (at : Place) (due v : Option ValueType) → is_some v ≡ true → argument_violations at due v ≡ [] → argument_fits due v ≡ true
one_fits at None None s e = let n : ⊥ = cc in absurd n
one_fits at None (Some v) s e = refl
one_fits at (Some due) v s e = due_fits at due v s e

both : (a b : Bool) → a ≡ true → b ≡ true → a && b ≡ true
both true b x y = y
both false b x y = x

all_fit : (t : Tables) (scope : Scope) → IsEven scope → (ps : List ValueType) (i : ℕ) (es : ExprTrees) → AreBuiltValues es → arguments_violations t scope None ps i es ≡ [] → arguments_fit_here t scope None ps i es ≡ true
all_fit t scope v ps i no_exprs g h = refl
all_fit t scope v ps i (expr_and e es) g h =
    let a = expr_violations t scope None e in
    let b = argument_violations (spot_of e).first (slice_get ps i) (type_here t scope None e) in
    let c = arguments_violations t scope None ps (i + 1) es in
    let k = left_none (a ++ b) c h in
    both (argument_fits (slice_get ps i) (type_here t scope None e)) (arguments_fit_here t scope None ps (i + 1) es) (one_fits (spot_of e).first (slice_get ps i) (type_here t scope None e) (typed t scope v e g.0 (left_none a b k)) (right_none a b k)) (all_fit t scope v ps (i + 1) es g.1 (right_none (a ++ b) c h))

callee_takes : (at : Place) (s : Option Signature) (n : ℕ) → callee_violations at s n ≡ [] → takes s n ≡ true
callee_takes at None n e = let x : ⊥ = cc in absurd x
callee_takes at (Some s) n e = kept (takes (Some s) n) rule.WrongCount at e

counted : (u : Tables) (f : Frame) (ts : Texts) (es : ExprTrees) → code.count_of (exprs_tree u f ts es) ≡ count_of es
counted u f ts no_exprs = refl
counted u f ts (expr_and e es) = ap suc (counted u f (expr_texts ts e) es)

-- ---- the calls of the library. A name that is none of the six is none of its calls, and has no signature of it.
none_free : {A : Type 0} (i b p l r m : Bool) (of_int of_truth of_text of_line to_int to_truth : A) → (i || b) || (p || (l || (r || m))) ≡ false → (if i then Some of_int else if b then Some of_truth else if p then Some of_text else if l then Some of_line else if r then Some to_int else if m then Some to_truth else None) ≡ None
none_free true b p l r m of_int of_truth of_text of_line to_int to_truth h = let n : ⊥ = cc in absurd n
none_free false true p l r m of_int of_truth of_text of_line to_int to_truth h = let n : ⊥ = cc in absurd n
none_free false false true l r m of_int of_truth of_text of_line to_int to_truth h = let n : ⊥ = cc in absurd n
none_free false false false true r m of_int of_truth of_text of_line to_int to_truth h = let n : ⊥ = cc in absurd n
none_free false false false false true m of_int of_truth of_text of_line to_int to_truth h = let n : ⊥ = cc in absurd n
none_free false false false false false true of_int of_truth of_text of_line to_int to_truth h = let n : ⊥ = cc in absurd n
none_free false false false false false false of_int of_truth of_text of_line to_int to_truth h = refl

named_free : (n : List ℕ) → is_library n ≡ false → library_named n ≡ None
named_free n h = none_free (bytes_eq n (codes "printint")) (bytes_eq n (codes "printbool")) (bytes_eq n (codes "print")) (bytes_eq n (codes "println")) (bytes_eq n (codes "readint")) (bytes_eq n (codes "moreint")) library_call.PrintInt library_call.PrintBool library_call.Print library_call.PrintLine library_call.ReadInt library_call.MoreInt h

library_free : (n : List ℕ) → is_library n ≡ false → library n ≡ None
library_free n h = ap (option_map library_signature) (named_free n h)

-- a name that prints is one of the first two, and not one of the others
abbrev printed_or : (i b : Bool) → Option LibraryCall → Option LibraryCall
printed_or i b others = if i then Some library_call.PrintInt else if b then Some library_call.PrintBool else others

abbrev others : List ℕ → Option LibraryCall
others n = if bytes_eq n (codes "print") then Some library_call.Print else if bytes_eq n (codes "println") then Some library_call.PrintLine else if bytes_eq n (codes "readint") then Some library_call.ReadInt else if bytes_eq n (codes "moreint") then Some library_call.MoreInt else None

one_printed : (P : Option LibraryCall → Type 0) (i b : Bool) (o : Option LibraryCall) → i || b ≡ true → P (Some library_call.PrintInt) → P (Some library_call.PrintBool) → P (printed_or i b o)
one_printed P true b o h x y = x
one_printed P false true o h x y = y
one_printed P false false o h x y = let n : ⊥ = cc in absurd n

printed_built : (fs : List gc0.Function) (u : Tables) (p : Place) (n : List ℕ) (x : gc0.Tree) → is_printed n ≡ true → IsBuiltTree fs x → IsBuiltPlain fs (call_tree u p n (library_named n) (gc0.tree_and x gc0.no_trees))
printed_built fs u p n x h g = one_printed (λ c. IsBuiltPlain fs (call_tree u p n c (gc0.tree_and x gc0.no_trees))) (bytes_eq n (codes "printint")) (bytes_eq n (codes "printbool")) (others n) h (refl, refl, (g, tt)) (refl, refl, (g, tt))

-- ---- the calls of functions. A function that is known by the tables `t`, with so many parameters, stands at its number by the tables `u`, and takes so many arguments.
abbrev pub Known : List gc0.Function → (t u : Tables) → Type 0
Known fs t u = (name : List ℕ) (n : ℕ) → takes (signature_in t.functions name) n ≡ true → Takes (slice_get fs (number_in u.functions.names name)) n

call_built : (fs : List gc0.Function) (t u : Tables) → Known fs t u → (scope : Scope) → IsEven scope → (f : Frame) (ts : Texts) (p : Place) (n : List ℕ) (es : ExprTrees) → is_library n ≡ false → AreBuiltValues es → arguments_violations t scope None (params_of (callee t.functions n)) 0 es ++ counted_violations (arguments_fit_here t scope None (params_of (callee t.functions n)) 0 es) p (callee t.functions n) (count_of es) ≡ [] → IsBuiltTree fs (call_tree u p n (library_named n) (exprs_tree u f ts es))
call_built fs t u known scope v f ts p n es q g h =
    let s = callee t.functions n in
    let a = arguments_violations t scope None (params_of s) 0 es in
    let b = counted_violations (arguments_fit_here t scope None (params_of s) 0 es) p s (count_of es) in
    let fit = all_fit t scope v (params_of s) 0 es g (left_none a b h) in
    let hs : callee_violations p s (count_of es) ≡ [] = ap (λ x. counted_violations x p s (count_of es)) (sym fit) ∙ right_none a b h in
    let ht : takes (signature_in t.functions n) (count_of es) ≡ true = subst (λ l. takes (or_else l (signature_in t.functions n)) (count_of es) ≡ true) (library_free n q) (callee_takes p s (count_of es) hs) in
    let hc = subst (λ c. Takes (slice_get fs (number_in u.functions.names n)) c) (sym (counted u f ts es)) (known n (count_of es) ht) in
    subst (λ l. IsBuiltTree fs (call_tree u p n l (exprs_tree u f ts es))) (sym (named_free n q)) (hc, values_built fs u f ts es g)

pub right_built : (fs : List gc0.Function) (t u : Tables) → Known fs t u → (scope : Scope) → IsEven scope → (f : Frame) (ts : Texts) (e : ExprTree) → IsBuiltRight e → expr_violations t scope None e ≡ [] → IsBuiltTree fs (expr_tree u f ts e)
right_built fs t u known scope v f ts (call s n es) g h = call_built fs t u known scope v f ts s.place n es g.0 g.1 h
right_built fs t u known scope v f ts e g h = value_built fs u f ts e g

-- an expression of the code is no call of the library
alone_built : (fs : List gc0.Function) (x : gc0.Tree) → IsBuiltTree fs x → IsBuiltPlain fs x
alone_built fs (gc0.library_at p c es n) g = absurd g
alone_built fs x g = g

pub plain_built : (fs : List gc0.Function) (t u : Tables) → Known fs t u → (scope : Scope) → IsEven scope → (f : Frame) (ts : Texts) (e : ExprTree) → IsBuiltCall e → expr_violations t scope None e ≡ [] → IsBuiltPlain fs (expr_tree u f ts e)
plain_built fs t u known scope v f ts (call s n no_exprs) g h = alone_built fs (expr_tree u f ts (call s n no_exprs)) (call_built fs t u known scope v f ts s.place n no_exprs g.1 g.0 h)
plain_built fs t u known scope v f ts (call s n (expr_and x no_exprs)) g h = of_name g.1
  where
    of_name : (is_printed n ≡ true) ⊎ (is_library n ≡ false) → IsBuiltPlain fs (expr_tree u f ts (call s n (expr_and x no_exprs)))
    of_name (inl i) = printed_built fs u s.place n (expr_tree u f ts x) i (value_built fs u f ts x g.0)
    of_name (inr o) = alone_built fs (expr_tree u f ts (call s n (expr_and x no_exprs))) (call_built fs t u known scope v f ts s.place n (expr_and x no_exprs) o (g.0, tt) h)
plain_built fs t u known scope v f ts (call s n (expr_and x (expr_and y es))) g h = alone_built fs (expr_tree u f ts (call s n (expr_and x (expr_and y es)))) (call_built fs t u known scope v f ts s.place n (expr_and x (expr_and y es)) g.1 g.0 h)
plain_built fs t u known scope v f ts e g h = absurd g
