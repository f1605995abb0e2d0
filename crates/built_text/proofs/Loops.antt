-- Lists that a loop fills, and the choices that it makes by a look at the next tokens.
use Rattle.std.proofs.Common.{◌≡◌, ℕ, suc, ◌<◌, Bool, true, false, cond, List, [], ◌∷◌, ◌++◌, Some, None, Err, refl, sym, ap, ◌-◌, map, length, ◌∙◌, arith, append_assoc, append-nil}
use Rattle.gc0_base.specs.declared.place.Place.{Place}
use Rattle.built_text.specs.declared.token.Token.{Token}
use Rattle.built_text.specs.declared.token.Kind.{Kind}
use Rattle.built_text.specs.declared.token.Kind.TheVariants.{Known, Name, Number, Foreign, End}
use Rattle.built_text.specs.declared.token.Fixed.{Fixed}
use Rattle.built_text.specs.declared.token.Fixed.TheVariants as mark
use Rattle.built_text.specs.declared.tree.Named.{Named}
use Rattle.built_text.specs.declared.tree.Operator.{Operator}
use Rattle.built_text.specs.declared.tree.Parameter.{Parameter}
use Rattle.built_text.specs.Tree.{ExprTree, local, from, CallTree, RightTree, value, call, NoteTree, StmtTree, assign, call_stmt, StmtTrees, no_stmts, stmt, ClauseTree, FunctionTree}
use Rattle.built_text.specs.Grammar.{token, fixed, spot, joined, most_operators, named_at}
use Rattle.built_text.specs.Plan.{is, operator_at, of_rank, Plan, await, named, typed, peek, operand, ops, chain, right_side, notes, contract, lines, more_parameters, functions, behind, climb, expr, deeper, operand_step, ops_step, called, clause, assigned, line_step, after_line, lines_step, parameter_plan, more_step, function, after_function, after_note, after_clause, after_link, step, go, run}
use Rattle.built_text.specs.declared.tree.Expr.{Expr}
use Rattle.built_text.specs.declared.tree.Note.{Note}
use Rattle.built_text.specs.declared.tree.Clause.{Clause}
use Rattle.built_text.specs.declared.tree.Function.{Function}
use Rattle.built_text.specs.declared.tree.Stmt.{Stmt}
use Rattle.built_text.specs.Views.{expr_view, exprs_view, notes_view, note_view, clauses_view, clause_view, function_view, stmt_view, stmts_view}
use Rattle.built_text.specs.Plan.{starts, name_first, call_first, whole_call, line_run, conditional, looped, invariant, starts_name, is_name, is_end}
use Rattle.built_text.proofs.Enters.{skip}
use Rattle.built_text.proofs.Marks.{is_same, is_kind}

-- one level less
pub climb_less : (r : ℕ) (f : Bool) (room left : ℕ) (next : ExprTree → ℕ → Plan) → (r ≡ 0 → ⊥) → climb r f room left next ≡ climb (r - 1) f room left (λ e l. ops (r - 1) f room l e next)
climb_less r f room left next ne = let less : r ≡ suc (r - 1) = omega (arith, ne) in ap (λ z. climb z f room left next) less

pub op_step : (r : ℕ) (f : Bool) (room left : ℕ) (e : ExprTree) (next : ExprTree → ℕ → Plan) (o : Operator) (t : Token) (ts : List Token) → of_rank r (operator_at t.kind) ≡ Some o → (left ≡ 0 → ⊥) → run (ops r f room left e next) (t ∷ ts) ≡ run (climb r f room (left - 1) (λ e' l'. ops r f room l' (joined t.place o e e') next)) ts
op_step r f room left e next o t ts h ne =
    let less : left ≡ suc (left - 1) = omega (arith, ne) in
    ap (λ p. go (ops_step r f room left e next (step (next e left) t) p t.place) (λ q. run q ts) t.place) h
    ∙ ap (λ n. go (deeper n (λ l. climb r f room l (λ e' l'. ops r f room l' (joined t.place o e e') next))) (λ q. run q ts) t.place) less

pub round_step : (f : Bool) (room left : ℕ) (next : ExprTree → ℕ → Plan) (t : Token) (ts : List Token) → t.kind ≡ Known mark.Open → 0 < room → run (operand f room left next) (t ∷ ts) ≡ run (climb 4 f (room - 1) left (λ e l. await mark.Close (λ b. next (from t.place e) l))) ts
round_step f room left next t ts k h =
    let less : room ≡ suc (room - 1) = omega (arith, h) in
    ap (λ z. go (operand_step f room left next z t.place) (λ q. run q ts) t.place) k
    ∙ ap (λ n. go (deeper n (λ r. climb 4 f r left (λ e l. await mark.Close (λ b. next (from t.place e) l)))) (λ q. run q ts) t.place) less

-- a list so far, in front of what follows
abbrev pub onto : {A : Type 0} → List A → (List A → Plan) → List A → Plan
onto so_far next more = next (so_far ++ more)

pub onto_more : {A : Type 0} (so_far : List A) (next : List A → Plan) (x : A) → ◌≡◌ {A = List A → Plan} (λ more. onto so_far next (x ∷ more)) (onto (so_far ++ x ∷ []) next)
onto_more so_far next x = λ i more. next (sym (append_assoc so_far (x ∷ []) more) i)

pub onto_none : {A : Type 0} (so_far : List A) (next : List A → Plan) → onto so_far next [] ≡ next so_far
onto_none so_far next = ap next (append-nil so_far)

pub exprs_push : (xs : List Expr) (e : Expr) → exprs_view (xs ++ e ∷ []) ≡ exprs_view xs ++ expr_view e ∷ []
exprs_push [] e = refl
exprs_push (x ∷ xs) e = ap (λ l. expr_view x ∷ l) (exprs_push xs e)

pub notes_push : (xs : List Note) (e : Note) → notes_view (xs ++ e ∷ []) ≡ notes_view xs ++ note_view e ∷ []
notes_push [] e = refl
notes_push (x ∷ xs) e = ap (λ l. note_view x ∷ l) (notes_push xs e)

pub clauses_push : (xs : List Clause) (e : Clause) → clauses_view (xs ++ e ∷ []) ≡ clauses_view xs ++ clause_view e ∷ []
clauses_push [] e = refl
clauses_push (x ∷ xs) e = ap (λ l. clause_view x ∷ l) (clauses_push xs e)

pub functions_push : (xs : List Function) (e : Function) → map function_view (xs ++ e ∷ []) ≡ map function_view xs ++ function_view e ∷ []
functions_push [] e = refl
functions_push (x ∷ xs) e = ap (λ l. function_view x ∷ l) (functions_push xs e)

-- the same for statements
abbrev pub joins : StmtTrees → StmtTrees → StmtTrees
joins no_stmts more = more
joins (stmt s ss) more = stmt s (joins ss more)

abbrev pub behind_stmts : StmtTrees → (StmtTrees → Place → Plan) → StmtTrees → Place → Plan
behind_stmts so_far next more at = next (joins so_far more) at

joins_none : (a : StmtTrees) → joins a no_stmts ≡ a
joins_none no_stmts = refl
joins_none (stmt s ss) = ap (stmt s) (joins_none ss)

joins_push : (a : StmtTrees) (s : StmtTree) (b : StmtTrees) → joins (joins a (stmt s no_stmts)) b ≡ joins a (stmt s b)
joins_push no_stmts s b = refl
joins_push (stmt x ss) s b = ap (stmt x) (joins_push ss s b)

pub stmts_more : (a : StmtTrees) (next : StmtTrees → Place → Plan) (s : StmtTree) → ◌≡◌ {A = StmtTrees → Place → Plan} (λ ss e. behind_stmts a next (stmt s ss) e) (behind_stmts (joins a (stmt s no_stmts)) next)
stmts_more a next s = λ i ss e. next (sym (joins_push a s ss) i) e

pub stmts_none : (a : StmtTrees) (next : StmtTrees → Place → Plan) (at : Place) → behind_stmts a next no_stmts at ≡ next a at
stmts_none a next at = ap (λ z. next z at) (joins_none a)

pub stmts_push : (xs : List Stmt) (e : Stmt) → stmts_view (xs ++ e ∷ []) ≡ joins (stmts_view xs) (stmt (stmt_view e) no_stmts)
stmts_push [] e = refl
stmts_push (x ∷ xs) e = ap (stmt (stmt_view x)) (stmts_push xs e)

pub none_left : (ts : List Token) → length ts ≡ 0 → ts ≡ []
none_left [] e = refl
none_left (t ∷ ts) e = absurd (omega (arith, e))

-- ---- looks
pub chain_link : (s : Fixed) (f : Bool) (room : ℕ) (next : List ExprTree → Plan) (t : Token) (ts : List Token) → is s t.kind ≡ true → run (chain s f room next) (t ∷ ts) ≡ run (expr f room (after_link s f room next)) ts
chain_link s f room next t ts e = ap (λ b. go (cond b (Some (expr f room (after_link s f room next))) (step (next []) t)) (λ q. run q ts) t.place) e

pub chain_end : (s : Fixed) (f : Bool) (room : ℕ) (next : List ExprTree → Plan) (ts : List Token) → starts s ts ≡ false → run (chain s f room next) ts ≡ run (next []) ts
chain_end s f room next [] e = refl
chain_end s f room next (t ∷ ts) e = ap (λ b. go (cond b (Some (expr f room (after_link s f room next))) (step (next []) t)) (λ q. run q ts) t.place) e

pub peek_these : (f : Fixed) (these : Place → Plan) (others : Plan) (at : Place) (ts : List Token) → run (peek f these others) (fixed f at ∷ ts) ≡ run (these at) ts
peek_these f these others at ts = ap (λ b. go (cond b (Some (these at)) (step others (fixed f at))) (λ q. run q ts) at) (is_same f)

pub peek_await : (f : Fixed) (these : Place → Plan) (others : Plan) (ts : List Token) → starts f ts ≡ true → run (peek f these others) ts ≡ run (await f these) ts
peek_await f these others [] e = cc
peek_await f these others (t ∷ ts) e =
    ap (λ b. go (cond b (Some (these t.place)) (step others t)) (λ q. run q ts) t.place) e
    ∙ sym (ap (λ b. go (cond b (Some (these t.place)) None) (λ q. run q ts) t.place) e)

pub not_first : (f : Fixed) (these : Place → Plan) (others : Plan) (ts : List Token) → starts f ts ≡ false → run (peek f these others) ts ≡ run others ts
not_first f these others ts e = skip f these others ts e

-- a call stands first
name_whole : (room : ℕ) (next : RightTree → Plan) (k : Kind) (at : Place) (ts : List Token) → name_first k ts ≡ true → run (right_side room next) (token k at ∷ ts) ≡ run (whole_call room (λ c. next (call c))) (token k at ∷ ts)
name_whole room next (Name n) at [] e = cc
name_whole room next (Name n) at (t ∷ ts) e =
    ap (λ b. go (cond b (Some (called at n room (λ c. next (call c)))) (step (behind 4 false room (λ v l. next (value v)) (local (spot at) n) most_operators) t)) (λ q. run q ts) t.place) e
    ∙ sym (ap (λ b. go (cond b (Some (called at n room (λ c. next (call c)))) None) (λ q. run q ts) t.place) e)
name_whole room next (Known f) at ts e = cc
name_whole room next (Number w) at ts e = cc
name_whole room next Foreign at ts e = cc
name_whole room next End at ts e = cc

pub right_call : (room : ℕ) (next : RightTree → Plan) (ts : List Token) → call_first ts ≡ true → run (right_side room next) ts ≡ run (whole_call room (λ c. next (call c))) ts
right_call room next [] e = cc
right_call room next (t ∷ ts) e = name_whole room next t.kind t.place ts e

abbrev pub call_line : ℕ → (StmtTree → Plan) → CallTree → Plan
call_line room next c = await mark.Semicolon (λ s. next (call_stmt c))

line_whole : (room : ℕ) (next : StmtTree → Plan) (k : Kind) (at : Place) (ts : List Token) → name_first k ts ≡ true → line_run room next (token k at ∷ ts) ≡ run (whole_call room (call_line room next)) (token k at ∷ ts)
line_whole room next (Name n) at [] e = cc
line_whole room next (Name n) at (t ∷ ts) e =
    ap (λ b. go (cond b (Some (called at n room (call_line room next))) (step (assigned room (λ q r. next (assign (named_at at n) q r))) t)) (λ q. run q ts) t.place) e
    ∙ sym (ap (λ b. go (cond b (Some (called at n room (call_line room next))) None) (λ q. run q ts) t.place) e)
line_whole room next (Known f) at ts e = cc
line_whole room next (Number w) at ts e = cc
line_whole room next Foreign at ts e = cc
line_whole room next End at ts e = cc

pub line_call : (room : ℕ) (next : StmtTree → Plan) (ts : List Token) → call_first ts ≡ true → line_run room next ts ≡ run (whole_call room (call_line room next)) ts
line_call room next [] e = cc
line_call room next (t ∷ ts) e = line_whole room next t.kind t.place ts e

-- a name that begins an assignment
abbrev pub assignment : ℕ → (StmtTree → Plan) → Named → Plan
assignment room next n = assigned room (λ q r. next (assign n q r))

line_other : (room : ℕ) (next : StmtTree → Plan) (k : Kind) (at : Place) (ts : List Token) → is_name k ≡ true → name_first k ts ≡ false → line_run room next (token k at ∷ ts) ≡ run (named (assignment room next)) (token k at ∷ ts)
line_other room next (Name n) at ts i e = skip mark.Open (λ a. called at n room (λ c. await mark.Semicolon (λ s. next (call_stmt c)))) (assigned room (λ q r. next (assign (named_at at n) q r))) ts e
line_other room next (Known f) at ts i e = cc
line_other room next (Number w) at ts i e = cc
line_other room next Foreign at ts i e = cc
line_other room next End at ts i e = cc

pub line_assign : (room : ℕ) (next : StmtTree → Plan) (ts : List Token) → starts_name ts ≡ true → call_first ts ≡ false → line_run room next ts ≡ run (named (assignment room next)) ts
line_assign room next [] i e = cc
line_assign room next (t ∷ ts) i e = line_other room next t.kind t.place ts i e

pub line_name : (room : ℕ) (next : StmtTree → Plan) (n : List ℕ) (at : Place) (ts : List Token) → starts mark.Open ts ≡ false → line_run room next (token (Name n) at ∷ ts) ≡ run (assigned room (λ q r. next (assign (named_at at n) q r))) ts
line_name room next n at ts e = skip mark.Open (λ a. called at n room (λ c. await mark.Semicolon (λ s. next (call_stmt c)))) (assigned room (λ q r. next (assign (named_at at n) q r))) ts e

pub brace_or_line : (room : ℕ) (any now : Bool) (next : StmtTrees → Place → Plan) (t : Token) (ts : List Token) → is mark.CloseBrace t.kind ≡ false → run (lines room any now next) (t ∷ ts) ≡ line_run room (after_line room any next) (t ∷ ts)
brace_or_line room any now next t ts e = ap (λ s. go s (λ q. run q ts) t.place) (line_not_brace room any now next t.kind t.place e)
  where
    line_not_brace : (room : ℕ) (any now : Bool) (next : StmtTrees → Place → Plan) (k : Kind) (at : Place) → is mark.CloseBrace k ≡ false → lines_step room any now next k at ≡ line_step room (after_line room any next) k at
    line_not_brace room any now next (Known mark.CloseBrace) at e = cc
    line_not_brace room any now next k at e = refl

pub brace_ends : (room : ℕ) (any now : Bool) (next : StmtTrees → Place → Plan) (at : Place) (ts : List Token) → now ≡ true → run (lines room any now next) (fixed mark.CloseBrace at ∷ ts) ≡ run (next no_stmts at) ts
brace_ends room any now next at ts e = ap (λ b. go (cond b (Some (next no_stmts at)) None) (λ q. run q ts) at) e

pub brace_early : (room : ℕ) (any now : Bool) (next : StmtTrees → Place → Plan) (at : Place) (ts : List Token) → now ≡ false → run (lines room any now next) (fixed mark.CloseBrace at ∷ ts) ≡ Err at
brace_early room any now next at ts e = ap (λ b. go (cond b (Some (next no_stmts at)) None) (λ q. run q ts) at) e

-- ---- one more, in a list of the program
pub exprs_pushed : (old new : List Expr) (e : Expr) → new ≡ old ++ e ∷ [] → exprs_view new ≡ exprs_view old ++ expr_view e ∷ []
exprs_pushed old new e h = ap exprs_view h ∙ exprs_push old e

pub notes_pushed : (old new : List Note) (e : Note) → new ≡ old ++ e ∷ [] → notes_view new ≡ notes_view old ++ note_view e ∷ []
notes_pushed old new e h = ap notes_view h ∙ notes_push old e

pub clauses_pushed : (old new : List Clause) (e : Clause) → new ≡ old ++ e ∷ [] → clauses_view new ≡ clauses_view old ++ clause_view e ∷ []
clauses_pushed old new e h = ap clauses_view h ∙ clauses_push old e

pub functions_pushed : (old new : List Function) (e : Function) → new ≡ old ++ e ∷ [] → map function_view new ≡ map function_view old ++ function_view e ∷ []
functions_pushed old new e h = ap (λ l. map function_view l) h ∙ functions_push old e

pub stmts_pushed : (old new : List Stmt) (e : Stmt) → new ≡ old ++ e ∷ [] → stmts_view new ≡ joins (stmts_view old) (stmt (stmt_view e) no_stmts)
stmts_pushed old new e h = ap stmts_view h ∙ stmts_push old e

-- ---- statements by their first token
pub line_at : (room : ℕ) (next : StmtTree → Plan) (t : Token) (ts : List Token) (k : Kind) → t.kind ≡ k → line_run room next (t ∷ ts) ≡ go (line_step room next k t.place) (λ q. run q ts) t.place
line_at room next t ts k e = ap (λ z. go (line_step room next z t.place) (λ q. run q ts) t.place) e

pub if_at : (room : ℕ) (next : StmtTree → Plan) (t : Token) (ts : List Token) → t.kind ≡ Known mark.If → 0 < room → line_run room next (t ∷ ts) ≡ run (conditional room (room - 1) next t.place) ts
if_at room next t ts e h =
    let less : room ≡ suc (room - 1) = omega (arith, h) in
    line_at room next t ts (Known mark.If) e ∙ ap (λ n. go (deeper n (λ r. conditional room r next t.place)) (λ q. run q ts) t.place) less

pub while_at : (room : ℕ) (next : StmtTree → Plan) (t : Token) (ts : List Token) → t.kind ≡ Known mark.While → 0 < room → line_run room next (t ∷ ts) ≡ run (looped room (room - 1) next t.place) ts
while_at room next t ts e h =
    let less : room ≡ suc (room - 1) = omega (arith, h) in
    line_at room next t ts (Known mark.While) e ∙ ap (λ n. go (deeper n (λ r. looped room r next t.place)) (λ q. run q ts) t.place) less

-- ---- parameters, annotations and functions
pub more_close : (next : List Parameter → Plan) (t : Token) (ts : List Token) → is mark.Close t.kind ≡ true → run (more_parameters next) (t ∷ ts) ≡ run (next []) ts
more_close next t ts e = ap (λ k. go (more_step next k) (λ q. run q ts) t.place) (is_kind mark.Close t.kind e)

pub more_comma : (next : List Parameter → Plan) (t : Token) (ts : List Token) → is mark.Comma t.kind ≡ true → run (more_parameters next) (t ∷ ts) ≡ run (parameter_plan (λ p. more_parameters (λ ps. next (p ∷ ps)))) ts
more_comma next t ts e = ap (λ k. go (more_step next k) (λ q. run q ts) t.place) (is_kind mark.Comma t.kind e)

pub more_neither : (next : List Parameter → Plan) (t : Token) (ts : List Token) → is mark.Close t.kind ≡ false → is mark.Comma t.kind ≡ false → run (more_parameters next) (t ∷ ts) ≡ Err t.place
more_neither next t ts a b = ap (λ s. go s (λ q. run q ts) t.place) (neither t.kind a b)
  where
    neither : (k : Kind) → is mark.Close k ≡ false → is mark.Comma k ≡ false → more_step next k ≡ None
    neither (Known mark.Close) a b = cc
    neither (Known mark.Comma) a b = cc
    neither k a b = refl

pub notes_on : (room : ℕ) (next : List NoteTree → Plan) (t : Token) (ts : List Token) → is mark.Annotation t.kind ≡ true → run (notes room next) (t ∷ ts) ≡ run (invariant room (after_note room next)) ts
notes_on room next t ts e = ap (λ b. go (cond b (Some (invariant room (after_note room next))) (step (next []) t)) (λ q. run q ts) t.place) e

pub notes_end : (room : ℕ) (next : List NoteTree → Plan) (t : Token) (ts : List Token) → is mark.Annotation t.kind ≡ false → run (notes room next) (t ∷ ts) ≡ run (next []) (t ∷ ts)
notes_end room next t ts e = ap (λ b. go (cond b (Some (invariant room (after_note room next))) (step (next []) t)) (λ q. run q ts) t.place) e

pub contract_on : (next : List ClauseTree → Plan) (t : Token) (ts : List Token) → is mark.Annotation t.kind ≡ true → run (contract next) (t ∷ ts) ≡ run (clause (after_clause next)) ts
contract_on next t ts e = ap (λ b. go (cond b (Some (clause (after_clause next))) (step (next []) t)) (λ q. run q ts) t.place) e

pub contract_end : (next : List ClauseTree → Plan) (t : Token) (ts : List Token) → is mark.Annotation t.kind ≡ false → run (contract next) (t ∷ ts) ≡ run (next []) (t ∷ ts)
contract_end next t ts e = ap (λ b. go (cond b (Some (clause (after_clause next))) (step (next []) t)) (λ q. run q ts) t.place) e

function_kind : (next : List FunctionTree → Plan) (k : Kind) (at : Place) (ts : List Token) → is_end k ≡ false → run (functions next) (token k at ∷ ts) ≡ run (typed (function (after_function next))) (token k at ∷ ts)
function_kind next End at ts e = cc
function_kind next (Known mark.Int) at ts e = refl
function_kind next (Known mark.Bool) at ts e = refl
function_kind next k at ts e = refl

-- what isn't the end is the type of a function
pub function_first : (next : List FunctionTree → Plan) (t : Token) (ts : List Token) → is_end t.kind ≡ false → run (functions next) (t ∷ ts) ≡ run (typed (function (after_function next))) (t ∷ ts)
function_first next t ts e = function_kind next t.kind t.place ts e

end_kind : (next : List FunctionTree → Plan) (k : Kind) (at : Place) (ts : List Token) → is_end k ≡ true → run (functions next) (token k at ∷ ts) ≡ run (next []) ts
end_kind next End at ts e = refl
end_kind next (Known f) at ts e = cc
end_kind next (Name n) at ts e = cc
end_kind next (Number w) at ts e = cc
end_kind next Foreign at ts e = cc

pub functions_done : (next : List FunctionTree → Plan) (t : Token) (ts : List Token) → is_end t.kind ≡ true → run (functions next) (t ∷ ts) ≡ run (next []) ts
functions_done next t ts e = end_kind next t.kind t.place ts e
