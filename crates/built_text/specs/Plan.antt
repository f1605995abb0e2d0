-- How tokens are taken one by one: what may come next, and the tree that results. The reader's
-- contracts say what it does by these plans; that they take exactly the texts of the grammar is
-- proved (this project's own).
use Rattle.std.specs.Prelude.{◌≡◌, ℕ, zero, suc, Bool, true, false, ◌==◌, cond, List, [], ◌∷◌, Option, Some, None, Result, Ok, Err}
use Rattle.gc0_base.specs.declared.place.Place.{Place}
use Rattle.built_text.specs.declared.token.Token.{Token}
use Rattle.built_text.specs.declared.token.Kind.{Kind}
use Rattle.built_text.specs.declared.token.Kind.TheVariants.{Known, Name, Number, End}
use Rattle.built_text.specs.declared.token.Fixed.{Fixed}
use Rattle.built_text.specs.declared.token.Fixed.TheVariants as mark
use Rattle.built_text.specs.declared.tree.Shape.{Shape}
use Rattle.built_text.specs.declared.tree.Shape.TheVariants as shape
use Rattle.built_text.specs.declared.tree.Typed.{Typed}
use Rattle.built_text.specs.declared.tree.Named.{Named}
use Rattle.built_text.specs.declared.tree.UnaryOperator.TheVariants as unary_op
use Rattle.built_text.specs.declared.tree.Operator.{Operator}
use Rattle.built_text.specs.declared.tree.Operator.TheVariants as op
use Rattle.built_text.specs.declared.tree.ClauseKind.TheVariants as side
use Rattle.built_text.specs.declared.tree.Parameter.{Parameter}
use Rattle.built_text.specs.declared.tree.ReadFault.{ReadFault}
use Rattle.built_text.specs.declared.tree.ReadFault.TheVariants.{NotBuilt, Memory}
use Rattle.built_text.specs.Tree.{ExprTree, number, truth, local, outcome, unary, from, CallTree, RightTree, value, call, FormulaTree, NoteTree, StmtTree, declare, assign, call_stmt, print_stmt, return_stmt, if_stmt, while_stmt, assert_stmt, StmtTrees, no_stmts, stmt, ClauseTree, FunctionTree, ProgramTree}
use Rattle.built_text.specs.Grammar.{spot, joined, rank, typed_at, named_at, is_return, most_operators, most_nested, body_room}

abbrev pub fixed_code : Fixed → ℕ
fixed_code mark.Int = 0
fixed_code mark.Bool = 1
fixed_code mark.If = 2
fixed_code mark.Else = 3
fixed_code mark.While = 4
fixed_code mark.Return = 5
fixed_code mark.Assert = 6
fixed_code mark.True = 7
fixed_code mark.False = 8
fixed_code mark.PrintInt = 9
fixed_code mark.PrintBool = 10
fixed_code mark.Requires = 11
fixed_code mark.Ensures = 12
fixed_code mark.LoopInvariant = 13
fixed_code mark.Outcome = 14
fixed_code mark.Open = 15
fixed_code mark.Close = 16
fixed_code mark.Comma = 17
fixed_code mark.OpenBrace = 18
fixed_code mark.CloseBrace = 19
fixed_code mark.Semicolon = 20
fixed_code mark.Assign = 21
fixed_code mark.Plus = 22
fixed_code mark.Minus = 23
fixed_code mark.Star = 24
fixed_code mark.Not = 25
fixed_code mark.And = 26
fixed_code mark.Question = 27
fixed_code mark.Equal = 28
fixed_code mark.NotEqual = 29
fixed_code mark.Less = 30
fixed_code mark.LessEq = 31
fixed_code mark.Greater = 32
fixed_code mark.GreaterEq = 33
fixed_code mark.Annotation = 34
fixed_code mark.LineEnd = 35

-- the token is this keyword or symbol
abbrev pub is : Fixed → Kind → Bool
is f (Known g) = fixed_code f == fixed_code g
is f k = false

-- this keyword or symbol stands first
abbrev pub starts : Fixed → List Token → Bool
starts f [] = false
starts f (t ∷ ts) = is f t.kind

abbrev pub operator_of : Fixed → Option Operator
operator_of mark.Star = Some op.Mul
operator_of mark.Plus = Some op.Add
operator_of mark.Minus = Some op.Sub
operator_of mark.Less = Some op.Less
operator_of mark.LessEq = Some op.LessEq
operator_of mark.Greater = Some op.Greater
operator_of mark.GreaterEq = Some op.GreaterEq
operator_of mark.Equal = Some op.Equal
operator_of mark.NotEqual = Some op.NotEqual
operator_of f = None

abbrev pub operator_at : Kind → Option Operator
operator_at (Known f) = operator_of f
operator_at k = None

-- an operator, if it is of this rank
abbrev pub of_rank : ℕ → Option Operator → Option Operator
of_rank r None = None
of_rank r (Some o) = cond (rank o == r) (Some o) None

-- what is still to come; each goes on with what follows from the part that it reads
pub data Plan : Type 0 where
  -- one token
  await : Fixed → (Place → Plan) → Plan
  named : (Named → Plan) → Plan
  typed : (Typed → Plan) → Plan
  -- this token, and else something else
  peek : Fixed → (Place → Plan) → Plan → Plan
  -- a unary expression, and operators of one rank behind a left side; `ensures`, the room, and
  -- how many operators the expression may still have
  operand : Bool → (room left : ℕ) → (ExprTree → ℕ → Plan) → Plan
  ops : (r : ℕ) → Bool → (room left : ℕ) → ExprTree → (ExprTree → ℕ → Plan) → Plan
  -- { separator expr }
  chain : Fixed → Bool → (room : ℕ) → (List ExprTree → Plan) → Plan
  right_side : (room : ℕ) → (RightTree → Plan) → Plan
  notes : (room : ℕ) → (List NoteTree → Plan) → Plan
  contract : (List ClauseTree → Plan) → Plan
  -- statements and the closing brace; whether it may come behind any of them, and may now
  lines : (room : ℕ) → (any now : Bool) → (StmtTrees → Place → Plan) → Plan
  more_parameters : (List Parameter → Plan) → Plan
  functions : (List FunctionTree → Plan) → Plan
  finished : ProgramTree → Plan

-- behind a unary expression: operators of the ranks below r
abbrev pub behind : ℕ → Bool → ℕ → (ExprTree → ℕ → Plan) → ExprTree → ℕ → Plan
behind zero f room next = next
behind (suc r) f room next = behind r f room (λ e left. ops r f room left e next)

abbrev pub climb : ℕ → Bool → (room left : ℕ) → (ExprTree → ℕ → Plan) → Plan
climb r f room left next = operand f room left (behind r f room next)

-- a whole expression
abbrev pub expr : Bool → ℕ → (ExprTree → Plan) → Plan
expr f room next = climb 4 f room most_operators (λ e left. next e)

abbrev pub deeper : ℕ → (ℕ → Plan) → Option Plan
deeper zero next = None
deeper (suc room) next = Some (next room)

abbrev pub operand_step : Bool → (room left : ℕ) → (ExprTree → ℕ → Plan) → Kind → Place
    → Option Plan
operand_step f room left next (Number w) at = Some (next (number (spot at) w) left)
operand_step f room left next (Name n) at = Some (next (local (spot at) n) left)
operand_step f room left next (Known mark.True) at = Some (next (truth (spot at) true) left)
operand_step f room left next (Known mark.False) at = Some (next (truth (spot at) false) left)
operand_step f room left next (Known mark.Outcome) at =
    cond f (Some (next (outcome (spot at)) left)) None
operand_step f room left next (Known mark.Not) at =
    deeper room (λ r. operand f r left (λ e l. next (unary (spot at) unary_op.Not e) l))
operand_step f room left next (Known mark.Minus) at =
    deeper room (λ r. operand f r left (λ e l. next (unary (spot at) unary_op.Negate e) l))
operand_step f room left next (Known mark.Open) at =
    deeper room (λ r. climb 4 f r left (λ e l. await mark.Close (λ b. next (from at e) l)))
operand_step f room left next k at = None

abbrev pub ops_step : ℕ → Bool → (room left : ℕ) → ExprTree → (ExprTree → ℕ → Plan) → Option Plan
    → Option Operator → Place → Option Plan
ops_step r f room left e next other None at = other
ops_step r f room left e next other (Some o) at =
    deeper left (λ l. climb r f room l (λ e' l'. ops r f room l' (joined at o e e') next))

abbrev pub arguments : ℕ → (List ExprTree → Plan) → Plan
arguments room next = peek mark.Close (λ b. next []) (expr false room (λ e. chain mark.Comma false room (λ es. await mark.Close (λ b. next (e ∷ es)))))

-- behind the name of a call and its parenthesis
abbrev pub called : Place → List ℕ → ℕ → (CallTree → Plan) → Plan
called at n room next =
    arguments room (λ es. next (record { name = named_at at n; arguments = es }))

-- behind a name on a right side: a call, or the rest of an expression
abbrev pub behind_name : Place → List ℕ → ℕ → (RightTree → Plan) → Plan
behind_name at n room next = peek mark.Open (λ a. called at n room (λ c. next (call c))) (behind 4 false room (λ e left. next (value e)) (local (spot at) n) most_operators)

abbrev pub right_step : ℕ → (RightTree → Plan) → Kind → Place → Option Plan
right_step room next (Name n) at = Some (behind_name at n room next)
right_step room next k at =
    operand_step false room most_operators (behind 4 false room (λ e left. next (value e))) k at

abbrev pub formula : Bool → ℕ → (FormulaTree → Plan) → Plan
formula f room next =
    peek mark.Question (λ at. chain mark.And f room (λ es. next (record { imprecise = true; conjuncts = es })))
    (expr f room (λ e. chain mark.And f room (λ es. next (record { imprecise = false; conjuncts = e ∷ es }))))

-- behind the word of an annotation, which stands at this place
abbrev pub noted : Bool → ℕ → Place → (NoteTree → Plan) → Plan
noted f room at next = formula f room (λ p. await mark.Semicolon (λ c. await mark.LineEnd (λ l. next (record { place = at; formula = p }))))

-- behind the `//@` of a contract
abbrev pub clause : (ClauseTree → Plan) → Plan
clause next =
    peek mark.Requires (λ at. noted false most_nested at (λ n. next (record { kind = side.Requires; note = n })))
    (await mark.Ensures (λ at. noted true most_nested at (λ n. next (record { kind = side.Ensures; note = n }))))

-- the rest of a statement that assigns: `=`, a right side and `;`
abbrev pub assigned : ℕ → (Place → RightTree → Plan) → Plan
assigned room next =
    await mark.Assign (λ q. right_side room (λ r. await mark.Semicolon (λ c. next q r)))

-- a condition in parentheses
abbrev pub condition : ℕ → (ExprTree → Plan) → Plan
condition room next = await mark.Open (λ a. expr false room (λ e. await mark.Close (λ b. next e)))

-- a block, whose statements have this room
abbrev pub block : ℕ → (StmtTrees → Plan) → Plan
block room next = await mark.OpenBrace (λ o. lines room true true (λ ss e. next ss))

abbrev pub otherwise : ℕ → (StmtTrees → Plan) → Plan
otherwise room next = peek mark.Else (λ s. block room next) (next no_stmts)

abbrev pub declared : ℕ → (StmtTree → Plan) → Typed → Plan
declared room next t = named (λ n. assigned room (λ q r. next (declare t n q r)))

abbrev pub behind_first : ℕ → (StmtTree → Plan) → Place → List ℕ → Plan
behind_first room next at n = peek mark.Open (λ a. called at n room (λ c. await mark.Semicolon (λ s. next (call_stmt c)))) (assigned room (λ q r. next (assign (named_at at n) q r)))

abbrev pub printed : ℕ → (StmtTree → Plan) → Place → Shape → Plan
printed room next at s = condition room (λ e. await mark.Semicolon (λ c. next (print_stmt at s e)))

abbrev pub returned : ℕ → (StmtTree → Plan) → Place → Plan
returned room next at = expr false room (λ e. await mark.Semicolon (λ c. next (return_stmt at e)))

-- the blocks have one level less
abbrev pub conditional : (room less : ℕ) → (StmtTree → Plan) → Place → Plan
conditional room less next at =
    condition room (λ e. block less (λ ss. otherwise less (λ os. next (if_stmt at e ss os))))

abbrev pub looped : (room less : ℕ) → (StmtTree → Plan) → Place → Plan
looped room less next at =
    condition room (λ e. notes room (λ ns. block less (λ ss. next (while_stmt at e ns ss))))

abbrev pub asserted : ℕ → (StmtTree → Plan) → Plan
asserted room next = await mark.Assert (λ w. noted false room w (λ n. next (assert_stmt n)))

-- an invariant behind its `//@`
abbrev pub invariant : ℕ → (NoteTree → Plan) → Plan
invariant room next = await mark.LoopInvariant (λ at. noted false room at next)

abbrev pub line_step : ℕ → (StmtTree → Plan) → Kind → Place → Option Plan
line_step room next (Known mark.Int) at = Some (declared room next (typed_at at shape.Int))
line_step room next (Known mark.Bool) at = Some (declared room next (typed_at at shape.Bool))
line_step room next (Name n) at = Some (behind_first room next at n)
line_step room next (Known mark.PrintInt) at = Some (printed room next at shape.Int)
line_step room next (Known mark.PrintBool) at = Some (printed room next at shape.Bool)
line_step room next (Known mark.Return) at = Some (returned room next at)
line_step room next (Known mark.If) at = deeper room (λ r. conditional room r next at)
line_step room next (Known mark.While) at = deeper room (λ r. looped room r next at)
line_step room next (Known mark.Annotation) at = Some (asserted room next)
line_step room next k at = None

-- behind a statement
abbrev pub after_line : ℕ → Bool → (StmtTrees → Place → Plan) → StmtTree → Plan
after_line room any next s =
    lines room any (cond any true (is_return s)) (λ ss e. next (stmt s ss) e)

abbrev pub lines_step : ℕ → (any now : Bool) → (StmtTrees → Place → Plan) → Kind → Place
    → Option Plan
lines_step room any now next (Known mark.CloseBrace) at = cond now (Some (next no_stmts at)) None
lines_step room any now next k at = line_step room (after_line room any next) k at

abbrev pub parameter_plan : (Parameter → Plan) → Plan
parameter_plan next = typed (λ t. named (λ n. next (record { typed = t; name = n })))

abbrev pub parameters_plan : (List Parameter → Plan) → Plan
parameters_plan next =
    peek mark.Close (λ b. next []) (parameter_plan (λ p. more_parameters (λ ps. next (p ∷ ps))))

abbrev pub more_step : (List Parameter → Plan) → Kind → Option Plan
more_step next (Known mark.Close) = Some (next [])
more_step next (Known mark.Comma) =
    Some (parameter_plan (λ p. more_parameters (λ ps. next (p ∷ ps))))
more_step next k = None

-- a function's body, which is a block whose last statement is a `return`
abbrev pub body : (StmtTrees → Place → Plan) → Plan
body next = await mark.OpenBrace (λ o. lines body_room false false next)

abbrev pub function : (FunctionTree → Plan) → Typed → Plan
function next t =
    named (λ n. await mark.Open (λ a. parameters_plan (λ ps. contract (λ cs. body (λ ss e.
    next (record { typed = t; name = n; parameters = ps; contract = cs; body = ss; close = e }))))))

abbrev pub after_function : (List FunctionTree → Plan) → FunctionTree → Plan
after_function next f = functions (λ fs. next (f ∷ fs))

abbrev pub is_end : Kind → Bool
is_end End = true
is_end k = false

abbrev pub functions_step : (List FunctionTree → Plan) → Kind → Place → Option Plan
functions_step next End at = Some (next [])
functions_step next (Known mark.Int) at =
    Some (function (after_function next) (typed_at at shape.Int))
functions_step next (Known mark.Bool) at =
    Some (function (after_function next) (typed_at at shape.Bool))
functions_step next k at = None

abbrev pub named_step : (Named → Plan) → Kind → Place → Option Plan
named_step next (Name n) at = Some (next (named_at at n))
named_step next k at = None

abbrev pub typed_step : (Typed → Plan) → Kind → Place → Option Plan
typed_step next (Known mark.Int) at = Some (next (typed_at at shape.Int))
typed_step next (Known mark.Bool) at = Some (next (typed_at at shape.Bool))
typed_step next k at = None

-- a list that goes on behind `//@`, and its end elsewhere
abbrev pub after_note : ℕ → (List NoteTree → Plan) → NoteTree → Plan
after_note room next n = notes room (λ ns. next (n ∷ ns))

abbrev pub after_clause : (List ClauseTree → Plan) → ClauseTree → Plan
after_clause next c = contract (λ cs. next (c ∷ cs))

abbrev pub after_link : Fixed → Bool → ℕ → (List ExprTree → Plan) → ExprTree → Plan
after_link s f room next e = chain s f room (λ es. next (e ∷ es))

-- what comes behind a token; None where it may not come
abbrev pub step : Plan → Token → Option Plan
step (await f next) t = cond (is f t.kind) (Some (next t.place)) None
step (named next) t = named_step next t.kind t.place
step (typed next) t = typed_step next t.kind t.place
step (peek f these others) t = cond (is f t.kind) (Some (these t.place)) (step others t)
step (operand f room left next) t = operand_step f room left next t.kind t.place
step (ops r f room left e next) t =
    ops_step r f room left e next (step (next e left) t) (of_rank r (operator_at t.kind)) t.place
step (chain s f room next) t =
    cond (is s t.kind) (Some (expr f room (after_link s f room next))) (step (next []) t)
step (right_side room next) t = right_step room next t.kind t.place
step (notes room next) t = cond (is mark.Annotation t.kind) (Some (invariant room (after_note room next))) (step (next []) t)
step (contract next) t =
    cond (is mark.Annotation t.kind) (Some (clause (after_clause next))) (step (next []) t)
step (lines room any now next) t = lines_step room any now next t.kind t.place
step (more_parameters next) t = more_step next t.kind
step (functions next) t = functions_step next t.kind t.place
step (finished p) t = None

abbrev pub nowhere : Place
nowhere = record { line = 0; column = 0 }

abbrev pub finish : Plan → Result ProgramTree Place
finish (finished p) = Ok p
finish (peek f these others) = finish others
finish (ops r f room left e next) = finish (next e left)
finish (chain s f room next) = finish (next [])
finish (notes room next) = finish (next [])
finish (contract next) = finish (next [])
finish plan = Err nowhere

abbrev pub go : Option Plan → (Plan → Result ProgramTree Place) → Place → Result ProgramTree Place
go None more at = Err at
go (Some plan) more at = more plan

-- the program that the tokens give, or the place of the token that may not come
abbrev pub run : Plan → List Token → Result ProgramTree Place
run plan [] = finish plan
run plan (t ∷ ts) = go (step plan t) (λ q. run q ts) t.place

-- a name and a parenthesis stand first
abbrev pub name_first : Kind → List Token → Bool
name_first (Name n) ts = starts mark.Open ts
name_first k ts = false

abbrev pub call_first : List Token → Bool
call_first [] = false
call_first (t ∷ ts) = name_first t.kind ts

abbrev pub is_name : Kind → Bool
is_name (Name n) = true
is_name k = false

-- a name stands first
abbrev pub starts_name : List Token → Bool
starts_name [] = false
starts_name (t ∷ ts) = is_name t.kind

-- a call from its name on
abbrev pub whole_call : ℕ → (CallTree → Plan) → Plan
whole_call room next = named (λ n. await mark.Open (λ a. arguments room (λ es. next (record { name = n; arguments = es }))))

-- what the tokens give where a statement stands first
abbrev pub line_run : ℕ → (StmtTree → Plan) → List Token → Result ProgramTree Place
line_run room next [] = Err nowhere
line_run room next (t ∷ ts) = go (line_step room next t.kind t.place) (λ q. run q ts) t.place

abbrev pub program : List FunctionTree → Plan
program fs = finished (record { functions = fs })

abbrev pub start : Plan
start = functions program

-- the reading of the whole fails with this fault, of which want of memory says nothing
abbrev pub FailsAs : Result ProgramTree Place → ReadFault → Type 0
FailsAs whole (NotBuilt at) = whole ≡ Err at
FailsAs whole Memory = Unit {0}

-- what a part of the reading answers: what the rest gives, or the fault of the whole
abbrev pub Answers : {X : Type 0} → (X → Result ProgramTree Place) → Result ProgramTree Place
    → Result X ReadFault → Type 0
Answers rest whole (Ok x) = whole ≡ rest x
Answers rest whole (Err e) = FailsAs whole e
