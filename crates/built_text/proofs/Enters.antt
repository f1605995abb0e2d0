-- What the grammar spells, a plan reads, up to the rest.
use Rattle.std.proofs.Common.{◌≡◌, ◌≢◌, ℕ, zero, suc, ◌+◌, ◌≤◌, ◌<◌, Bool, true, false, cond, ◌==◌, List, [], ◌∷◌, Option, Some, None, Ok, refl, sym, ap, ◌∙◌, arith, eqb→eq, false-eqb}
use Rattle.std.proofs.lemmas.Float.{T_from_true}
use Rattle.gc0_base.specs.declared.place.Place.{Place}
use Rattle.built_text.specs.declared.token.Token.{Token}
use Rattle.built_text.specs.declared.token.Kind.{Kind}
use Rattle.built_text.specs.declared.token.Kind.TheVariants.{Known, Name, End}
use Rattle.built_text.specs.declared.token.Fixed.{Fixed}
use Rattle.built_text.specs.declared.token.Fixed.TheVariants as mark
use Rattle.built_text.specs.declared.tree.Shape.{Shape}
use Rattle.built_text.specs.declared.tree.Shape.TheVariants as shape
use Rattle.built_text.specs.declared.tree.UnaryOperator.{UnaryOperator}
use Rattle.built_text.specs.declared.tree.UnaryOperator.TheVariants as unary_op
use Rattle.built_text.specs.declared.tree.Operator.{Operator}
use Rattle.built_text.specs.declared.tree.Operator.TheVariants as op
use Rattle.built_text.specs.declared.tree.ClauseKind.{ClauseKind}
use Rattle.built_text.specs.declared.tree.ClauseKind.TheVariants as side
use Rattle.built_text.specs.declared.tree.Parameter.{Parameter}
use Rattle.built_text.specs.Tree.{ExprTree, number, truth, local, outcome, unary, from, RightTree, value, call, FormulaTree, NoteTree, StmtTree, declare, assign, call_stmt, print_stmt, return_stmt, if_stmt, while_stmt, assert_stmt, StmtTrees, no_stmts, stmt, ClauseTree, FunctionTree, ProgramTree}
use Rattle.built_text.specs.Grammar.{token, fixed, type_word, operator_mark, clause_word, Written, digits, truth_word, word, result_word, before, between, round, spell, spot, joined, tree_of, rank, height, operators, Good, most_operators, most_nested, body_room, GoodExpr, Chain, no_link, link, spell_chain, chain_trees, GoodChain, Args, no_args, some_args, spell_args, args_trees, GoodArgs, named_at, RightText, plain, invoked, spell_right, right_tree, GoodRight, FormulaText, precise, gradual, spell_formula, formula_tree, GoodFormula, NoteText, note_tree, spell_notes, note_trees, GoodNotes, Line, declares, assigns, calls, prints, returns, ifs, whiles, asserts, Otherwise, no_else, elses, Lines, no_lines, line, spell_line, spell_otherwise, spell_lines, typed_at, line_tree, otherwise_trees, line_trees, GoodLine, GoodOtherwise, GoodLines, is_return, last_returns, spell_parameter, parameter_tree, MoreParameters, no_parameter, parameter, spell_more, more_trees, Parameters, no_parameters, parameters, spell_parameters, parameter_trees, ClauseText, spell_contract, clause_tree, contract_trees, is_ensures, GoodContract, FunctionText, function_tree, GoodFunction, spell_functions, function_trees, GoodFunctions, IsProgram}
use Rattle.built_text.specs.Plan.{is, operator_of, operator_at, of_rank, Plan, await, peek, operand, ops, chain, right_side, notes, contract, lines, more_parameters, functions, behind, climb, expr, ops_step, arguments, called, formula, noted, clause, assigned, condition, block, otherwise, after_line, parameter_plan, parameters_plan, body, function, after_function, after_note, after_clause, after_link, step, go, run, program, start}
use Rattle.built_text.proofs.Marks.{is_same, rank_at, no_rank, height_low}
use Rattle.std.proofs.Common.{zero-add, ◌-◌}
use Rattle.built_text.proofs.Takes.{last_closes}
use Rattle.built_text.specs.Plan.{starts, name_first, call_first}

-- ---- what stands first
abbrev pub first_operator : List Token → Option Operator
first_operator [] = None
first_operator (t ∷ ts) = operator_at t.kind

-- no operator of a rank below r is first
abbrev pub Free : ℕ → List Token → Type 0
Free r rest = (q : ℕ) → q < r → of_rank q (first_operator rest) ≡ None

free_mark : (k : Fixed) (at : Place) (rest : List Token) (r : ℕ) → operator_of k ≡ None → Free r (fixed k at ∷ rest)
free_mark k at rest r e q lt = ap (of_rank q) e

free_none : (rest : List Token) → Free 0 rest
free_none rest q lt = absurd (not_less q lt)
  where
    not_less : (q : ℕ) → q < 0 → ⊥
    not_less q lt = omega (arith, lt)

pub skip : (f : Fixed) (these : Place → Plan) (others : Plan) (ts : List Token) → starts f ts ≡ false → run (peek f these others) ts ≡ run others ts
skip f these others [] e = refl
skip f these others (t ∷ ts) e = ap (λ b. go (cond b (Some (these t.place)) (step others t)) (λ q. run q ts) t.place) e

pub fall : (r : ℕ) (f : Bool) (room left : ℕ) (e : ExprTree) (next : ExprTree → ℕ → Plan) (ts : List Token) → of_rank r (first_operator ts) ≡ None → run (ops r f room left e next) ts ≡ run (next e left) ts
fall r f room left e next [] h = refl
fall r f room left e next (t ∷ ts) h = ap (λ o. go (ops_step r f room left e next (step (next e left) t) o t.place) (λ q. run q ts) t.place) h

behind_fall : (r : ℕ) (f : Bool) (room left : ℕ) (e : ExprTree) (next : ExprTree → ℕ → Plan) (ts : List Token) → Free r ts → run (behind r f room next e left) ts ≡ run (next e left) ts
behind_fall zero f room left e next ts h = refl
behind_fall (suc r) f room left e next ts h =
    behind_fall r f room left e (λ e' l. ops r f room l e' next) ts (λ q lt. h q (omega (arith, lt))) ∙ fall r f room left e next ts (h r (omega arith))

take_op : (r : ℕ) (f : Bool) (room left : ℕ) (e : ExprTree) (next : ExprTree → ℕ → Plan) (o : Operator) (at : Place) (ts : List Token) → rank o ≡ r → run (ops r f room (suc left) e next) (fixed (operator_mark o) at ∷ ts) ≡ run (climb r f room left (λ e' l'. ops r f room l' (joined at o e e') next)) ts
take_op r f room left e next o at ts h = ap (λ p. go (ops_step r f room (suc left) e next (step (next e (suc left)) (fixed (operator_mark o) at)) p at) (λ q. run q ts) at) (rank_at r o h)

-- ---- expressions
abbrev Base : Written → Bool → ℕ → Type 0
Base w f room = (left : ℕ) (next : ExprTree → ℕ → Plan) (rest : List Token) → run (operand f room (operators w + left) next) (spell w rest) ≡ run (next (tree_of w) left) rest

abbrev Enters : Written → Bool → ℕ → ℕ → Type 0
Enters w f room r = (left : ℕ) (next : ExprTree → ℕ → Plan) (rest : List Token) → Free r rest → run (climb r f room (operators w + left) next) (spell w rest) ≡ run (next (tree_of w) left) rest

abbrev Extends : Written → Bool → ℕ → ℕ → Type 0
Extends w f room r = (left : ℕ) (next : ExprTree → ℕ → Plan) (rest : List Token) → Free r rest → run (climb (suc r) f room (operators w + left) next) (spell w rest) ≡ run (ops r f room left (tree_of w) next) rest

record Reading (w : Written) : Type 0 where
  enters : (f : Bool) (room : ℕ) → Good f room w → (r : ℕ) → height w ≤ r → Enters w f room r
  extends : (f : Bool) (room : ℕ) → Good f room w → (r : ℕ) → height w ≤ suc r → Extends w f room r

-- what needs no parentheses behind a unary operator
flat : (w : Written) → ((f : Bool) (room : ℕ) → Good f room w → Base w f room) → Reading w
flat w base = record {
  enters = λ f room g r h left next rest free. base f room g left (behind r f room next) rest ∙ behind_fall r f room left (tree_of w) next rest free;
  extends = λ f room g r h left next rest free. base f room g left (behind (suc r) f room next) rest ∙ behind_fall r f room left (tree_of w) (λ e l. ops r f room l e next) rest free;
}

one_token : (next : ExprTree → ℕ → Plan) (e : ExprTree) (left : ℕ) (rest : List Token) → run (next e (0 + left)) rest ≡ run (next e left) rest
one_token next e left rest = ap (λ l. run (next e l) rest) (zero-add left)

truth_base : (at : Place) (b f : Bool) (room : ℕ) → Base (truth_word at b) f room
truth_base at true f room left next rest = one_token next (truth (spot at) true) left rest
truth_base at false f room left next rest = one_token next (truth (spot at) false) left rest

result_base : (at : Place) (f : Bool) (room : ℕ) → f ≡ true → Base (result_word at) f room
result_base at f room e left next rest =
    ap (λ b. go (cond b (Some (next (outcome (spot at)) (0 + left))) None) (λ q. run q rest) at) e ∙ one_token next (outcome (spot at)) left rest

before_base : (at : Place) (o : UnaryOperator) (x : Written) → Reading x → (f : Bool) (room : ℕ) → Good f room (before at o x) → Base (before at o x) f room
before_base at o x ih f zero g left next rest = absurd g
before_base at unary_op.Not x ih f (suc r) g left next rest = ih.enters f r g.0 0 (omega (arith, g.1)) left (λ e l. next (unary (spot at) unary_op.Not e) l) rest (free_none rest)
before_base at unary_op.Negate x ih f (suc r) g left next rest = ih.enters f r g.0 0 (omega (arith, g.1)) left (λ e l. next (unary (spot at) unary_op.Negate e) l) rest (free_none rest)

round_base : (a : Place) (x : Written) (b : Place) → Reading x → (f : Bool) (room : ℕ) → Good f room (round a x b) → Base (round a x b) f room
round_base a x b ih f zero g left next rest = absurd g
round_base a x b ih f (suc r) g left next rest = ih.enters f r g 4 (height_low x) left (λ e l. await mark.Close (λ c. next (from a e) l)) (fixed mark.Close b ∷ rest) (free_mark mark.Close b rest 4 refl)

free_op : (r : ℕ) (o : Operator) (at : Place) (rest : List Token) → rank o ≡ r → Free r (fixed (operator_mark o) at ∷ rest)
free_op r o at rest same q lt = no_rank q o (λ z. let bad : q ≡ r = sym z ∙ same in omega (arith, lt, bad))

two_extends : (x : Written) (at : Place) (o : Operator) (y : Written) → Reading x → Reading y → (f : Bool) (room : ℕ) → Good f room (between x at o y) → (r : ℕ) → (suc (rank o) ≤ r → Enters (between x at o y) f room r) → suc (rank o) ≤ suc r → Extends (between x at o y) f room r
two_extends x at o y ix iy f room g r enter h left next rest free =
    elim (rank o == r) as (λ t. (rank o == r) ≡ t → run (climb (suc r) f room (operators (between x at o y) + left) next) (spell (between x at o y) rest) ≡ run (ops r f room left (tree_of (between x at o y)) next) rest) [
      | true ↦ λ e.
          let same : rank o ≡ r = eqb→eq (rank o) r (T_from_true _ e) in
          let count : operators x + suc (operators y) + left ≡ operators x + suc (operators y + left) = omega arith in
          let low : height x ≤ suc r = omega (arith, g.2, same) in
          let high : height y ≤ r = omega (arith, g.3, same) in
          ap (λ n. run (climb (suc r) f room n next) (spell x (fixed (operator_mark o) at ∷ spell y rest))) count
          ∙ ix.extends f room g.0 r low (suc (operators y + left)) next (fixed (operator_mark o) at ∷ spell y rest) (free_op r o at (spell y rest) same)
          ∙ take_op r f room (operators y + left) (tree_of x) next o at (spell y rest) same
          ∙ iy.enters f room g.1 r high left (λ e' l'. ops r f room l' (joined at o (tree_of x) e') next) rest free
      | false ↦ λ e.
          let ne : rank o ≢ r = false-eqb (rank o) r (sym e) in
          enter (omega (arith, h, ne)) left (λ e' l. ops r f room l e' next) rest free
    ] refl

two_enters : (x : Written) (at : Place) (o : Operator) (y : Written) → Reading x → Reading y → (f : Bool) (room : ℕ) → Good f room (between x at o y) → (r : ℕ) → suc (rank o) ≤ r → Enters (between x at o y) f room r
two_enters x at o y ix iy f room g zero h left next rest free = absurd (omega (arith, h))
two_enters x at o y ix iy f room g (suc r) h left next rest free =
    two_extends x at o y ix iy f room g r (two_enters x at o y ix iy f room g r) h left next rest (λ q lt. free q (omega (arith, lt)))
    ∙ fall r f room left (tree_of (between x at o y)) next rest (free r (omega arith))

reading : (w : Written) → Reading w
reading (digits at n) = flat (digits at n) (λ f room g left next rest. one_token next (number (spot at) n) left rest)
reading (truth_word at b) = flat (truth_word at b) (λ f room g. truth_base at b f room)
reading (word at n) = flat (word at n) (λ f room g left next rest. one_token next (local (spot at) n) left rest)
reading (result_word at) = flat (result_word at) (λ f room g. result_base at f room g)
reading (before at o x) = flat (before at o x) (before_base at o x (reading x))
reading (between x at o y) = record {
  enters = λ f room g r h. two_enters x at o y (reading x) (reading y) f room g r h;
  extends = λ f room g r h. two_extends x at o y (reading x) (reading y) f room g r (two_enters x at o y (reading x) (reading y) f room g r) h;
}
reading (round a x b) = flat (round a x b) (round_base a x b (reading x))

-- a whole expression, in front of what is no operator
pub expr_enters : (f : Bool) (room : ℕ) (next : ExprTree → Plan) (w : Written) (rest : List Token) → GoodExpr f room w → Free 4 rest → run (expr f room next) (spell w rest) ≡ run (next (tree_of w)) rest
expr_enters f room next w rest g free =
    let short : operators w ≤ most_operators = g.short in
    let count : most_operators ≡ operators w + (most_operators - operators w) = omega (arith, short) in
    ap (λ n. run (climb 4 f room n (λ e l. next e)) (spell w rest)) count
    ∙ (reading w).enters f room g.good 4 (height_low w) (most_operators - operators w) (λ e l. next e) rest free

expr_mark : (f : Bool) (room : ℕ) (next : ExprTree → Plan) (w : Written) (k : Fixed) (at : Place) (rest : List Token) → GoodExpr f room w → operator_of k ≡ None → run (expr f room next) (spell w (fixed k at ∷ rest)) ≡ run (next (tree_of w)) (fixed k at ∷ rest)
expr_mark f room next w k at rest g e = expr_enters f room next w (fixed k at ∷ rest) g (free_mark k at rest 4 e)

-- ---- { separator expr }
free_chain : (s : Fixed) (xs : Chain) (k : Fixed) (at : Place) (rest : List Token) → operator_of s ≡ None → operator_of k ≡ None → Free 4 (spell_chain s xs (fixed k at ∷ rest))
free_chain s no_link k at rest e h = free_mark k at rest 4 h
free_chain s (link a x xs) k at rest e h = free_mark s a (spell x (spell_chain s xs (fixed k at ∷ rest))) 4 e

chain_enters : (s : Fixed) (f : Bool) (room : ℕ) (next : List ExprTree → Plan) (xs : Chain) (k : Fixed) (at : Place) (rest : List Token) → operator_of s ≡ None → operator_of k ≡ None → is s (Known k) ≡ false → GoodChain f room xs → run (chain s f room next) (spell_chain s xs (fixed k at ∷ rest)) ≡ run (next (chain_trees xs)) (fixed k at ∷ rest)
chain_enters s f room next no_link k at rest e h n g = ap (λ b. go (cond b (Some (expr f room (after_link s f room next))) (step (next []) (fixed k at))) (λ q. run q rest) at) n
chain_enters s f room next (link a x xs) k at rest e h n g =
    let ts = spell x (spell_chain s xs (fixed k at ∷ rest)) in
    ap (λ b. go (cond b (Some (expr f room (after_link s f room next))) (step (next []) (fixed s a))) (λ q. run q ts) a) (is_same s)
    ∙ expr_enters f room (after_link s f room next) x (spell_chain s xs (fixed k at ∷ rest)) g.0 (free_chain s xs k at rest e h)
    ∙ chain_enters s f room (λ es. next (tree_of x ∷ es)) xs k at rest e h n g.1

-- ---- what no expression begins with
not_close : (w : Written) (rest : List Token) → starts mark.Close (spell w rest) ≡ false
not_close (digits at n) rest = refl
not_close (truth_word at true) rest = refl
not_close (truth_word at false) rest = refl
not_close (word at n) rest = refl
not_close (result_word at) rest = refl
not_close (before at unary_op.Not x) rest = refl
not_close (before at unary_op.Negate x) rest = refl
not_close (between x at o y) rest = not_close x (fixed (operator_mark o) at ∷ spell y rest)
not_close (round a x b) rest = refl

not_question : (w : Written) (rest : List Token) → starts mark.Question (spell w rest) ≡ false
not_question (digits at n) rest = refl
not_question (truth_word at true) rest = refl
not_question (truth_word at false) rest = refl
not_question (word at n) rest = refl
not_question (result_word at) rest = refl
not_question (before at unary_op.Not x) rest = refl
not_question (before at unary_op.Negate x) rest = refl
not_question (between x at o y) rest = not_question x (fixed (operator_mark o) at ∷ spell y rest)
not_question (round a x b) rest = refl

-- ---- calls and right sides
args_enters : (room : ℕ) (next : List ExprTree → Plan) (args : Args) (b : Place) (rest : List Token) → GoodArgs room args → run (arguments room next) (spell_args args (fixed mark.Close b ∷ rest)) ≡ run (next (args_trees args)) rest
args_enters room next no_args b rest g = refl
args_enters room next (some_args x xs) b rest g =
    let more : ExprTree → Plan = λ e. chain mark.Comma false room (λ es. await mark.Close (λ c. next (e ∷ es))) in
    let ts = spell_chain mark.Comma xs (fixed mark.Close b ∷ rest) in
    skip mark.Close (λ c. next []) (expr false room more) (spell x ts) (not_close x ts)
    ∙ expr_enters false room more x ts g.0 (free_chain mark.Comma xs mark.Close b rest refl refl)
    ∙ chain_enters mark.Comma false room (λ es. await mark.Close (λ c. next (tree_of x ∷ es))) xs mark.Close b rest refl refl refl g.1

operator_no_open : (o : Operator) → is mark.Open (Known (operator_mark o)) ≡ false
operator_no_open op.Mul = refl
operator_no_open op.Add = refl
operator_no_open op.Sub = refl
operator_no_open op.Less = refl
operator_no_open op.LessEq = refl
operator_no_open op.Greater = refl
operator_no_open op.GreaterEq = refl
operator_no_open op.Equal = refl
operator_no_open op.NotEqual = refl

no_call : (w : Written) (rest : List Token) → starts mark.Open rest ≡ false → call_first (spell w rest) ≡ false
no_call (digits at n) rest e = refl
no_call (truth_word at true) rest e = refl
no_call (truth_word at false) rest e = refl
no_call (word at n) rest e = e
no_call (result_word at) rest e = refl
no_call (before at unary_op.Not x) rest e = refl
no_call (before at unary_op.Negate x) rest e = refl
no_call (between x at o y) rest e = no_call x (fixed (operator_mark o) at ∷ spell y rest) (operator_no_open o)
no_call (round a x b) rest e = refl

abbrev pub valued : (RightTree → Plan) → ExprTree → Plan
valued next e = next (value e)

pub right_at : (room : ℕ) (next : RightTree → Plan) (k : Kind) (at : Place) (ts : List Token) → name_first k ts ≡ false → run (right_side room next) (token k at ∷ ts) ≡ run (expr false room (valued next)) (token k at ∷ ts)
right_at room next (Name n) at ts e = skip mark.Open (λ a. called at n room (λ c. next (call c))) (behind 4 false room (λ e l. next (value e)) (local (spot at) n) most_operators) ts e
right_at room next k at ts e = refl

pub right_any : (room : ℕ) (next : RightTree → Plan) (ts : List Token) → call_first ts ≡ false → run (right_side room next) ts ≡ run (expr false room (valued next)) ts
right_any room next [] e = refl
right_any room next (t ∷ ts) e = right_at room next t.kind t.place ts e

right_enters : (room : ℕ) (next : RightTree → Plan) (r : RightText) (c : Place) (rest : List Token) → GoodRight room r → run (right_side room next) (spell_right r (fixed mark.Semicolon c ∷ rest)) ≡ run (next (right_tree r)) (fixed mark.Semicolon c ∷ rest)
right_enters room next (plain x) c rest g =
    right_any room next (spell x (fixed mark.Semicolon c ∷ rest)) (no_call x (fixed mark.Semicolon c ∷ rest) refl)
    ∙ expr_mark false room (valued next) x mark.Semicolon c rest g refl
right_enters room next (invoked k) c rest g = args_enters room (λ es. next (call (record { name = named_at k.at k.name; arguments = es }))) k.args k.b (fixed mark.Semicolon c ∷ rest) g

-- ---- formulas and annotations
formula_enters : (f : Bool) (room : ℕ) (next : FormulaTree → Plan) (p : FormulaText) (c : Place) (rest : List Token) → GoodFormula f room p → run (formula f room next) (spell_formula p (fixed mark.Semicolon c ∷ rest)) ≡ run (next (formula_tree p)) (fixed mark.Semicolon c ∷ rest)
formula_enters f room next (precise x xs) c rest g =
    let more : ExprTree → Plan = λ e. chain mark.And f room (λ es. next (record { imprecise = false; conjuncts = e ∷ es })) in
    let ts = spell_chain mark.And xs (fixed mark.Semicolon c ∷ rest) in
    skip mark.Question (λ at. chain mark.And f room (λ es. next (record { imprecise = true; conjuncts = es }))) (expr f room more) (spell x ts) (not_question x ts)
    ∙ expr_enters f room more x ts g.0 (free_chain mark.And xs mark.Semicolon c rest refl refl)
    ∙ chain_enters mark.And f room (λ es. next (record { imprecise = false; conjuncts = tree_of x ∷ es })) xs mark.Semicolon c rest refl refl refl g.1
formula_enters f room next (gradual at xs) c rest g = chain_enters mark.And f room (λ es. next (record { imprecise = true; conjuncts = es })) xs mark.Semicolon c rest refl refl refl g

noted_enters : (f : Bool) (room : ℕ) (at : Place) (next : NoteTree → Plan) (p : FormulaText) (c l : Place) (rest : List Token) → GoodFormula f room p → run (noted f room at next) (spell_formula p (fixed mark.Semicolon c ∷ fixed mark.LineEnd l ∷ rest)) ≡ run (next (record { place = at; formula = formula_tree p })) rest
noted_enters f room at next p c l rest g = formula_enters f room (λ q. await mark.Semicolon (λ s. await mark.LineEnd (λ e. next (record { place = at; formula = q })))) p c (fixed mark.LineEnd l ∷ rest) g

notes_enters : (room : ℕ) (next : List NoteTree → Plan) (ns : List NoteText) (o : Place) (rest : List Token) → GoodNotes room ns → run (notes room next) (spell_notes ns (fixed mark.OpenBrace o ∷ rest)) ≡ run (next (note_trees ns)) (fixed mark.OpenBrace o ∷ rest)
notes_enters room next [] o rest g = refl
notes_enters room next (n ∷ ns) o rest g =
    noted_enters false room n.at (after_note room next) n.formula n.c n.l (spell_notes ns (fixed mark.OpenBrace o ∷ rest)) g.0
    ∙ notes_enters room (λ ms. next (note_tree n ∷ ms)) ns o rest g.1

clause_enters : (next : ClauseTree → Plan) (kind : ClauseKind) (n : NoteText) (rest : List Token) → GoodFormula (is_ensures kind) most_nested n.formula → run (clause next) (fixed (clause_word kind) n.at ∷ spell_formula n.formula (fixed mark.Semicolon n.c ∷ fixed mark.LineEnd n.l ∷ rest)) ≡ run (next (record { kind = kind; note = note_tree n })) rest
clause_enters next side.Requires n rest g = noted_enters false most_nested n.at (λ m. next (record { kind = side.Requires; note = m })) n.formula n.c n.l rest g
clause_enters next side.Ensures n rest g = noted_enters true most_nested n.at (λ m. next (record { kind = side.Ensures; note = m })) n.formula n.c n.l rest g

contract_enters : (next : List ClauseTree → Plan) (cs : List ClauseText) (o : Place) (rest : List Token) → GoodContract cs → run (contract next) (spell_contract cs (fixed mark.OpenBrace o ∷ rest)) ≡ run (next (contract_trees cs)) (fixed mark.OpenBrace o ∷ rest)
contract_enters next [] o rest g = refl
contract_enters next (c ∷ cs) o rest g =
    clause_enters (after_clause next) c.kind c.note (spell_contract cs (fixed mark.OpenBrace o ∷ rest)) g.0
    ∙ contract_enters (λ ms. next (clause_tree c ∷ ms)) cs o rest g.1

-- ---- statements
no_else_line : (l : Line) (rest : List Token) → starts mark.Else (spell_line l rest) ≡ false
no_else_line (declares t shape.Int n name q r c) rest = refl
no_else_line (declares t shape.Bool n name q r c) rest = refl
no_else_line (assigns n name q r c) rest = refl
no_else_line (calls k c) rest = refl
no_else_line (prints p shape.Int a x b c) rest = refl
no_else_line (prints p shape.Bool a x b c) rest = refl
no_else_line (returns r x c) rest = refl
no_else_line (ifs i a x b o ls e m) rest = refl
no_else_line (whiles w a x b ns o ls e) rest = refl
no_else_line (asserts n) rest = refl

no_else_lines : (ls : Lines) (e : Place) (rest : List Token) → starts mark.Else (spell_lines ls (fixed mark.CloseBrace e ∷ rest)) ≡ false
no_else_lines no_lines e rest = refl
no_else_lines (line l ls) e rest = no_else_line l (spell_lines ls (fixed mark.CloseBrace e ∷ rest))

any_closes : (b : Bool) (ss : StmtTrees) → b ≡ true → last_closes true b ss ≡ true
any_closes b no_stmts e = e
any_closes b (stmt s ss) e = any_closes true ss refl

assigned_enters : (room : ℕ) (next : Place → RightTree → Plan) (q : Place) (r : RightText) (c : Place) (rest : List Token) → GoodRight room r → run (assigned room next) (fixed mark.Assign q ∷ spell_right r (fixed mark.Semicolon c ∷ rest)) ≡ run (next q (right_tree r)) rest
assigned_enters room next q r c rest g = right_enters room (λ v. await mark.Semicolon (λ s. next q v)) r c rest g

condition_enters : (room : ℕ) (next : ExprTree → Plan) (a : Place) (x : Written) (b : Place) (rest : List Token) → GoodExpr false room x → run (condition room next) (fixed mark.Open a ∷ spell x (fixed mark.Close b ∷ rest)) ≡ run (next (tree_of x)) rest
condition_enters room next a x b rest g = expr_mark false room (λ e. await mark.Close (λ c. next e)) x mark.Close b rest g refl

-- one statement, in front of what is no `else`
abbrev LineEnters : Line → Type 0
LineEnters l = (room : ℕ) (any now : Bool) (next : StmtTrees → Place → Plan) (rest : List Token) → GoodLine room l → starts mark.Else rest ≡ false → run (lines room any now next) (spell_line l rest) ≡ run (after_line room any next (line_tree l)) rest

declares_enters : (t : Place) (s : Shape) (n : Place) (name : List ℕ) (q : Place) (r : RightText) (c : Place) → LineEnters (declares t s n name q r c)
declares_enters t shape.Int n name q r c room any now next rest g free = assigned_enters room (λ q r. after_line room any next (declare (typed_at t shape.Int) (named_at n name) q r)) q r c rest g
declares_enters t shape.Bool n name q r c room any now next rest g free = assigned_enters room (λ q r. after_line room any next (declare (typed_at t shape.Bool) (named_at n name) q r)) q r c rest g

prints_enters : (p : Place) (s : Shape) (a : Place) (x : Written) (b c : Place) → LineEnters (prints p s a x b c)
prints_enters p shape.Int a x b c room any now next rest g free = condition_enters room (λ e. await mark.Semicolon (λ d. after_line room any next (print_stmt p shape.Int e))) a x b (fixed mark.Semicolon c ∷ rest) g
prints_enters p shape.Bool a x b c room any now next rest g free = condition_enters room (λ e. await mark.Semicolon (λ d. after_line room any next (print_stmt p shape.Bool e))) a x b (fixed mark.Semicolon c ∷ rest) g

mutual
  line_enters : (l : Line) → LineEnters l
  line_enters (declares t s n name q r c) room any now next rest g free = declares_enters t s n name q r c room any now next rest g free
  line_enters (assigns n name q r c) room any now next rest g free = assigned_enters room (λ q r. after_line room any next (assign (named_at n name) q r)) q r c rest g
  line_enters (calls k c) room any now next rest g free = args_enters room (λ es. await mark.Semicolon (λ s. after_line room any next (call_stmt (record { name = named_at k.at k.name; arguments = es })))) k.args k.b (fixed mark.Semicolon c ∷ rest) g
  line_enters (prints p s a x b c) room any now next rest g free = prints_enters p s a x b c room any now next rest g free
  line_enters (returns r x c) room any now next rest g free = expr_mark false room (λ e. await mark.Semicolon (λ s. after_line room any next (return_stmt r e))) x mark.Semicolon c rest g refl
  line_enters (ifs i a x b o ls e m) zero any now next rest g free = absurd g.1
  line_enters (ifs i a x b o ls e m) (suc r) any now next rest g free =
      let done : StmtTree → Plan = after_line (suc r) any next in
      condition_enters (suc r) (λ t. block r (λ ss. otherwise r (λ os. done (if_stmt i t ss os)))) a x b (fixed mark.OpenBrace o ∷ spell_lines ls (fixed mark.CloseBrace e ∷ spell_otherwise m rest)) g.0
      ∙ lines_enters ls r true true (λ ss c. otherwise r (λ os. done (if_stmt i (tree_of x) ss os))) e (spell_otherwise m rest) g.1.0 (any_closes true (line_trees ls) refl)
      ∙ otherwise_enters m r (λ os. done (if_stmt i (tree_of x) (line_trees ls) os)) rest g.1.1 free
  line_enters (whiles w a x b ns o ls e) zero any now next rest g free = absurd g.2
  line_enters (whiles w a x b ns o ls e) (suc r) any now next rest g free =
      let done : StmtTree → Plan = after_line (suc r) any next in
      condition_enters (suc r) (λ t. notes (suc r) (λ ms. block r (λ ss. done (while_stmt w t ms ss)))) a x b (spell_notes ns (fixed mark.OpenBrace o ∷ spell_lines ls (fixed mark.CloseBrace e ∷ rest))) g.0
      ∙ notes_enters (suc r) (λ ms. block r (λ ss. done (while_stmt w (tree_of x) ms ss))) ns o (spell_lines ls (fixed mark.CloseBrace e ∷ rest)) g.1
      ∙ lines_enters ls r true true (λ ss c. done (while_stmt w (tree_of x) (note_trees ns) ss)) e rest g.2 (any_closes true (line_trees ls) refl)
  line_enters (asserts n) room any now next rest g free = noted_enters false room n.at (λ m. after_line room any next (assert_stmt m)) n.formula n.c n.l rest g

  otherwise_enters : (m : Otherwise) (room : ℕ) (next : StmtTrees → Plan) (rest : List Token) → GoodOtherwise room m → starts mark.Else rest ≡ false → run (otherwise room next) (spell_otherwise m rest) ≡ run (next (otherwise_trees m)) rest
  otherwise_enters no_else room next rest g free = skip mark.Else (λ s. block room next) (next no_stmts) rest free
  otherwise_enters (elses s o ls e) room next rest g free = lines_enters ls room true true (λ ss c. next ss) e rest g (any_closes true (line_trees ls) refl)

  lines_enters : (ls : Lines) (room : ℕ) (any now : Bool) (next : StmtTrees → Place → Plan) (e : Place) (rest : List Token) → GoodLines room ls → last_closes any now (line_trees ls) ≡ true → run (lines room any now next) (spell_lines ls (fixed mark.CloseBrace e ∷ rest)) ≡ run (next (line_trees ls) e) rest
  lines_enters no_lines room any now next e rest g h = ap (λ b. go (cond b (Some (next no_stmts e)) None) (λ q. run q rest) e) h
  lines_enters (line l ls) room any now next e rest g h =
      line_enters l room any now next (spell_lines ls (fixed mark.CloseBrace e ∷ rest)) g.0 (no_else_lines ls e rest)
      ∙ lines_enters ls room any (cond any true (is_return (line_tree l))) (λ ss c. next (stmt (line_tree l) ss) c) e rest g.1 h

-- ---- functions
parameter_enters : (next : Parameter → Plan) (t : Place) (s : Shape) (n : Place) (name : List ℕ) (rest : List Token) → run (parameter_plan next) (fixed (type_word s) t ∷ token (Name name) n ∷ rest) ≡ run (next (record { typed = typed_at t s; name = named_at n name })) rest
parameter_enters next t shape.Int n name rest = refl
parameter_enters next t shape.Bool n name rest = refl

more_enters : (next : List Parameter → Plan) (ps : MoreParameters) (b : Place) (rest : List Token) → run (more_parameters next) (spell_more ps (fixed mark.Close b ∷ rest)) ≡ run (next (more_trees ps)) rest
more_enters next no_parameter b rest = refl
more_enters next (parameter at q ps) b rest =
    parameter_enters (λ p. more_parameters (λ l. next (p ∷ l))) q.t q.shape q.n q.name (spell_more ps (fixed mark.Close b ∷ rest))
    ∙ more_enters (λ l. next (parameter_tree q ∷ l)) ps b rest

type_no_close : (s : Shape) → is mark.Close (Known (type_word s)) ≡ false
type_no_close shape.Int = refl
type_no_close shape.Bool = refl

parameters_enters : (next : List Parameter → Plan) (ps : Parameters) (b : Place) (rest : List Token) → run (parameters_plan next) (spell_parameters ps (fixed mark.Close b ∷ rest)) ≡ run (next (parameter_trees ps)) rest
parameters_enters next no_parameters b rest = refl
parameters_enters next (parameters q ps) b rest =
    let more : Parameter → Plan = λ p. more_parameters (λ l. next (p ∷ l)) in
    let ts = spell_more ps (fixed mark.Close b ∷ rest) in
    skip mark.Close (λ c. next []) (parameter_plan more) (spell_parameter q ts) (type_no_close q.shape)
    ∙ parameter_enters more q.t q.shape q.n q.name ts
    ∙ more_enters (λ l. next (parameter_tree q ∷ l)) ps b rest

returns_closes : (b : Bool) (ss : StmtTrees) → last_closes false b ss ≡ last_returns b ss
returns_closes b no_stmts = refl
returns_closes b (stmt s ss) = returns_closes (is_return s) ss

function_enters : (next : FunctionTree → Plan) (g : FunctionText) (rest : List Token) → GoodFunction g → run (function next (typed_at g.t g.shape)) (token (Name g.name) g.n ∷ fixed mark.Open g.a ∷ spell_parameters g.parameters (fixed mark.Close g.b ∷ spell_contract g.contract (fixed mark.OpenBrace g.o ∷ spell_lines g.lines (fixed mark.CloseBrace g.e ∷ rest)))) ≡ run (next (function_tree g)) rest
function_enters next g rest good =
    let made : List Parameter → List ClauseTree → StmtTrees → Place → FunctionTree = λ ps cs ss e. record { typed = typed_at g.t g.shape; name = named_at g.n g.name; parameters = ps; contract = cs; body = ss; close = e } in
    let inside = spell_lines g.lines (fixed mark.CloseBrace g.e ∷ rest) in
    parameters_enters (λ ps. contract (λ cs. body (λ ss e. next (made ps cs ss e)))) g.parameters g.b (spell_contract g.contract (fixed mark.OpenBrace g.o ∷ inside))
    ∙ contract_enters (λ cs. body (λ ss e. next (made (parameter_trees g.parameters) cs ss e))) g.contract g.o inside good.contract
    ∙ lines_enters g.lines body_room false false (λ ss e. next (made (parameter_trees g.parameters) (contract_trees g.contract) ss e)) g.e rest good.lines (returns_closes false (line_trees g.lines) ∙ good.returned)

functions_at : (next : List FunctionTree → Plan) (s : Shape) (at : Place) (ts : List Token) → run (functions next) (fixed (type_word s) at ∷ ts) ≡ run (function (after_function next) (typed_at at s)) ts
functions_at next shape.Int at ts = refl
functions_at next shape.Bool at ts = refl

functions_enters : (next : List FunctionTree → Plan) (fs : List FunctionText) (last : Place) (rest : List Token) → GoodFunctions fs → run (functions next) (spell_functions fs (token End last ∷ rest)) ≡ run (next (function_trees fs)) rest
functions_enters next [] last rest g = refl
functions_enters next (f ∷ fs) last rest g =
    let ts = spell_functions fs (token End last ∷ rest) in
    functions_at next f.shape f.t (token (Name f.name) f.n ∷ fixed mark.Open f.a ∷ spell_parameters f.parameters (fixed mark.Close f.b ∷ spell_contract f.contract (fixed mark.OpenBrace f.o ∷ spell_lines f.lines (fixed mark.CloseBrace f.e ∷ ts))))
    ∙ function_enters (after_function next) f ts g.0
    ∙ functions_enters (λ l. next (function_tree f ∷ l)) fs last rest g.1

-- each text of the grammar is read as its tree
pub complete : (ts : List Token) (p : ProgramTree) → IsProgram ts p → run start ts ≡ Ok p
complete ts p x = ap (run start) x.tokens ∙ functions_enters program x.functions x.last [] x.good ∙ ap (λ q. Ok q) (sym x.tree)
