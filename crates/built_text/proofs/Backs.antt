-- One token back: what a plan's next step takes, the plan takes behind that token.
use Rattle.std.proofs.Common.{◌≡◌, ℕ, zero, suc, ◌+◌, ◌≤◌, Bool, true, false, cond, List, [], ◌∷◌, Some, None, inl, inr, refl, sym, ap, ◌∙◌, subst, arith}
use Rattle.gc0_base.specs.declared.place.Place.{Place}
use Rattle.built_text.specs.declared.token.Token.{Token}
use Rattle.built_text.specs.declared.token.Kind.{Kind}
use Rattle.built_text.specs.declared.token.Kind.TheVariants.{Known, Name, Number, End}
use Rattle.built_text.specs.declared.token.Fixed.{Fixed}
use Rattle.built_text.specs.declared.token.Fixed.TheVariants as mark
use Rattle.built_text.specs.declared.tree.Shape.{Shape}
use Rattle.built_text.specs.declared.tree.Shape.TheVariants as shape
use Rattle.built_text.specs.declared.tree.Typed.{Typed}
use Rattle.built_text.specs.declared.tree.Named.{Named}
use Rattle.built_text.specs.declared.tree.UnaryOperator.{UnaryOperator}
use Rattle.built_text.specs.declared.tree.UnaryOperator.TheVariants as unary_op
use Rattle.built_text.specs.declared.tree.ClauseKind.TheVariants as side
use Rattle.built_text.specs.declared.tree.Parameter.{Parameter}
use Rattle.built_text.specs.Tree.{ExprTree, outcome, unary, from, CallTree, RightTree, value, call, FormulaTree, NoteTree, StmtTree, declare, assign, call_stmt, print_stmt, return_stmt, if_stmt, while_stmt, assert_stmt, StmtTrees, no_stmts, stmt, ClauseTree, FunctionTree, ProgramTree}
use Rattle.built_text.specs.Grammar.{token, fixed, type_word, print_word, unary_mark, operator_mark, clause_word, Written, digits, truth_word, word, result_word, before, between, round, spell, spot, joined, tree_of, rank, height, operators, Deeper, Good, most_operators, most_nested, GoodExpr, no_link, link, spell_chain, Args, no_args, some_args, spell_args, args_trees, GoodArgs, CallText, spell_call, named_at, call_tree, RightText, plain, invoked, spell_right, right_tree, GoodRight, FormulaText, precise, gradual, spell_formula, formula_tree, GoodFormula, NoteText, spell_note, note_tree, spell_notes, note_trees, Line, declares, assigns, calls, prints, returns, ifs, whiles, asserts, Otherwise, no_else, elses, Lines, no_lines, line, spell_line, spell_otherwise, spell_lines, typed_at, line_tree, otherwise_trees, line_trees, GoodLine, GoodOtherwise, GoodLines, is_return, last_returns, ParameterText, spell_parameter, parameter_tree, no_parameter, parameter, Parameters, no_parameters, parameters, spell_parameters, parameter_trees, ClauseText, spell_contract, clause_tree, is_ensures, FunctionText, spell_function, function_tree, GoodFunction}
use Rattle.built_text.specs.Plan.{is, operator_at, of_rank, Plan, await, named, typed, peek, operand, ops, chain, right_side, notes, contract, lines, more_parameters, functions, finished, behind, climb, expr, deeper, operand_step, ops_step, arguments, called, behind_name, right_step, formula, noted, clause, assigned, condition, block, otherwise, declared, behind_first, printed, line_step, after_line, lines_step, parameter_plan, parameters_plan, more_step, body, function, after_function, functions_step, named_step, typed_step, after_note, after_clause, after_link, step}
use Rattle.built_text.proofs.Takes.{Tail, no_tail, tail, spell_tail, tail_tree, tail_operators, GoodTail, last_closes, Takes, TakesNext}
use Rattle.built_text.proofs.Marks.{is_token, op_is}

-- ---- expressions
pub record AtExpr (r : ℕ) (f : Bool) (room left : ℕ) (K : ExprTree → ℕ → List Token → Type 0) (ts : List Token) : Type 0 where
  pub w : Written
  pub rest : List Token
  pub spare : ℕ
  pub good : Good f room w
  pub low : height w ≤ r
  pub count : left ≡ operators w + spare
  pub split : ts ≡ spell w rest
  pub after : K (tree_of w) spare rest

fold_tail : (r : ℕ) (f : Bool) (room left : ℕ) (K : ExprTree → ℕ → List Token → Type 0) (ts rest : List Token) (spare : ℕ) (tl : Tail) (w : Written) → Good f room w → height w ≤ suc r → GoodTail r f room tl → left ≡ operators w + tail_operators tl + spare → ts ≡ spell w (spell_tail tl rest) → K (tail_tree (tree_of w) tl) spare rest → AtExpr (suc r) f room left K ts
fold_tail r f room left K ts rest spare no_tail w g h t c s k = record { w = w; rest = rest; spare = spare; good = g; low = h; count = omega (arith, c); split = s; after = k }
fold_tail r f room left K ts rest spare (tail at o y tl) w g h t c s k =
    let e : rank o ≡ r = t.0 in
    let a : height w ≤ suc (rank o) = omega (arith, h, e) in
    let b : height y ≤ rank o = omega (arith, t.2, e) in
    let d : suc (rank o) ≤ suc r = omega (arith, e) in
    let n : left ≡ operators w + suc (operators y) + tail_operators tl + spare = omega (arith, c) in
    fold_tail r f room left K ts rest spare tl (between w at o y) (g, t.1, a, b) d t.3 n s k

pub leaves : (r : ℕ) (f : Bool) (room left : ℕ) (next : ExprTree → ℕ → Plan) (ts : List Token) (p : ProgramTree) → Takes (climb r f room left next) ts p → AtExpr r f room left (λ e l rest. Takes (next e l) rest p) ts
leaves zero f room left next ts p x = record { w = x.w; rest = x.rest; spare = x.spare; good = x.good; low = omega (arith, x.flat); count = x.count; split = x.split; after = x.after }
leaves (suc r) f room left next ts p x =
    let y = leaves r f room left (λ e l. ops r f room l e next) ts p x in
    let o = y.after in
    fold_tail r f room left (λ e l rest. Takes (next e l) rest p) ts o.rest o.spare o.tl y.w y.good (omega (arith, y.low)) o.good (omega (arith, y.count, o.count)) (y.split ∙ ap (spell y.w) o.split) o.after

pub record AtWhole (f : Bool) (room : ℕ) (K : ExprTree → List Token → Type 0) (ts : List Token) : Type 0 where
  pub w : Written
  pub rest : List Token
  pub good : GoodExpr f room w
  pub split : ts ≡ spell w rest
  pub after : K (tree_of w) rest

pub whole : (f : Bool) (room : ℕ) (next : ExprTree → Plan) (ts : List Token) (p : ProgramTree) → Takes (expr f room next) ts p → AtWhole f room (λ e rest. Takes (next e) rest p) ts
whole f room next ts p x =
    let y = leaves 4 f room most_operators (λ e l. next e) ts p x in
    let short : operators y.w ≤ most_operators = omega (arith, y.count) in
    record { w = y.w; rest = y.rest; good = record { good = y.good; short = short }; split = y.split; after = y.after }

deeper_is : (room : ℕ) (plan : ℕ → Plan) (ts : List Token) (p : ProgramTree) → TakesNext (deeper room plan) ts p → (r : ℕ) × (room ≡ suc r) × Takes (plan r) ts p
deeper_is zero plan ts p x = absurd x
deeper_is (suc r) plan ts p x = (r, refl, x)

deeper_good : (room r : ℕ) (F : ℕ → Type 0) → room ≡ suc r → F r → Deeper room F
deeper_good room r F e g = subst (λ n. Deeper n F) (sym e) g

unary_back : (o : UnaryOperator) (f : Bool) (room left : ℕ) (next : ExprTree → ℕ → Plan) (at : Place) (ts : List Token) (p : ProgramTree) → TakesNext (deeper room (λ r. operand f r left (λ e l. next (unary (spot at) o e) l))) ts p → Takes (operand f room left next) (fixed (unary_mark o) at ∷ ts) p
unary_back o f room left next at ts p x =
    let d = deeper_is room (λ r. operand f r left (λ e l. next (unary (spot at) o e) l)) ts p x in
    let y = d.2 in
    record { w = before at o y.w; rest = y.rest; spare = y.spare; good = deeper_good room d.0 (λ r. Good f r y.w × (height y.w ≡ 0)) d.1 (y.good, y.flat); flat = refl; count = y.count; split = ap (λ l. fixed (unary_mark o) at ∷ l) y.split; after = y.after }

round_back : (f : Bool) (room left : ℕ) (next : ExprTree → ℕ → Plan) (at : Place) (ts : List Token) (p : ProgramTree) → TakesNext (deeper room (λ r. climb 4 f r left (λ e l. await mark.Close (λ b. next (from at e) l)))) ts p → Takes (operand f room left next) (fixed mark.Open at ∷ ts) p
round_back f room left next at ts p x =
    let d = deeper_is room (λ r. climb 4 f r left (λ e l. await mark.Close (λ b. next (from at e) l))) ts p x in
    let y = leaves 4 f d.0 left (λ e l. await mark.Close (λ b. next (from at e) l)) ts p d.2 in
    let c = y.after in
    record { w = round at y.w c.at; rest = c.rest; spare = y.spare; good = deeper_good room d.0 (λ r. Good f r y.w) d.1 y.good; flat = refl; count = y.count; split = ap (λ l. fixed mark.Open at ∷ l) (y.split ∙ ap (spell y.w) c.split); after = c.after }

result_back : (f : Bool) (room left : ℕ) (next : ExprTree → ℕ → Plan) (at : Place) (ts : List Token) (p : ProgramTree) → TakesNext (cond f (Some (next (outcome (spot at)) left)) None) ts p → Takes (operand f room left next) (fixed mark.Outcome at ∷ ts) p
result_back true room left next at ts p x = record { w = result_word at; rest = ts; spare = left; good = refl; flat = refl; count = omega arith; split = refl; after = x }
result_back false room left next at ts p x = absurd x

pub operand_back : (f : Bool) (room left : ℕ) (next : ExprTree → ℕ → Plan) (k : Kind) (at : Place) (ts : List Token) (p : ProgramTree) → TakesNext (operand_step f room left next k at) ts p → Takes (operand f room left next) (token k at ∷ ts) p
operand_back f room left next (Number w) at ts p x = record { w = digits at w; rest = ts; spare = left; good = tt; flat = refl; count = omega arith; split = refl; after = x }
operand_back f room left next (Name n) at ts p x = record { w = word at n; rest = ts; spare = left; good = tt; flat = refl; count = omega arith; split = refl; after = x }
operand_back f room left next (Known mark.True) at ts p x = record { w = truth_word at true; rest = ts; spare = left; good = tt; flat = refl; count = omega arith; split = refl; after = x }
operand_back f room left next (Known mark.False) at ts p x = record { w = truth_word at false; rest = ts; spare = left; good = tt; flat = refl; count = omega arith; split = refl; after = x }
operand_back f room left next (Known mark.Outcome) at ts p x = result_back f room left next at ts p x
operand_back f room left next (Known mark.Not) at ts p x = unary_back unary_op.Not f room left next at ts p x
operand_back f room left next (Known mark.Minus) at ts p x = unary_back unary_op.Negate f room left next at ts p x
operand_back f room left next (Known mark.Open) at ts p x = round_back f room left next at ts p x
operand_back f room left next k at ts p x = absurd x

-- ---- plans that may pass a token on
abbrev pub Back : Plan → Token → List Token → ProgramTree → Type 0
Back plan t ts p = TakesNext (step plan t) ts p → Takes plan (t ∷ ts) p

ops_back : (r : ℕ) (f : Bool) (room left : ℕ) (e : ExprTree) (next : ExprTree → ℕ → Plan) (t : Token) (ts : List Token) (p : ProgramTree) → Back (next e left) t ts p → Back (ops r f room left e next) t ts p
ops_back r f room left e next t ts p ih x =
    elim (of_rank r (operator_at t.kind)) as (λ o. of_rank r (operator_at t.kind) ≡ o → TakesNext (ops_step r f room left e next (step (next e left) t) o t.place) ts p → Takes (ops r f room left e next) (t ∷ ts) p) [
      | None ↦ λ i y. record { tl = no_tail; rest = t ∷ ts; spare = left; good = tt; count = omega arith; split = refl; after = ih y }
      | Some o ↦ λ i y.
          let d = deeper_is left (λ l. climb r f room l (λ e' l'. ops r f room l' (joined t.place o e e') next)) ts p y in
          let z = leaves r f room d.0 (λ e' l'. ops r f room l' (joined t.place o e e') next) ts p d.2 in
          let tl = z.after in
          let k = op_is r t.kind o i in
          record {
            tl = tail t.place o z.w tl.tl;
            rest = tl.rest;
            spare = tl.spare;
            good = (k.1, z.good, z.low, tl.good);
            count = omega (arith, d.1, z.count, tl.count);
            split = ap (λ k. token k t.place ∷ ts) k.0 ∙ ap (λ l. fixed (operator_mark o) t.place ∷ l) (z.split ∙ ap (spell z.w) tl.split);
            after = tl.after;
          }
    ] refl x

chain_back : (s : Fixed) (f : Bool) (room : ℕ) (next : List ExprTree → Plan) (t : Token) (ts : List Token) (p : ProgramTree) → Back (next []) t ts p → Back (chain s f room next) t ts p
chain_back s f room next t ts p ih x =
    elim (is s t.kind) as (λ b. is s t.kind ≡ b → TakesNext (cond b (Some (expr f room (after_link s f room next))) (step (next []) t)) ts p → Takes (chain s f room next) (t ∷ ts) p) [
      | true ↦ λ i y.
          let z = whole f room (after_link s f room next) ts p y in
          let m = z.after in
          record { xs = link t.place z.w m.xs; rest = m.rest; good = (z.good, m.good); split = is_token s t ts i ∙ ap (λ l. fixed s t.place ∷ l) (z.split ∙ ap (spell z.w) m.split); after = m.after }
      | false ↦ λ i y. record { xs = no_link; rest = t ∷ ts; good = tt; split = refl; after = ih y }
    ] refl x

peek_back : (f : Fixed) (these : Place → Plan) (others : Plan) (t : Token) (ts : List Token) (p : ProgramTree) → Back others t ts p → Back (peek f these others) t ts p
peek_back f these others t ts p ih x =
    elim (is f t.kind) as (λ b. is f t.kind ≡ b → TakesNext (cond b (Some (these t.place)) (step others t)) ts p → Takes (peek f these others) (t ∷ ts) p) [
      | true ↦ λ i y. inl (record { at = t.place; rest = ts; split = is_token f t ts i; after = y })
      | false ↦ λ i y. inr (ih y)
    ] refl x

-- ---- calls and right sides
record AtArgs (room : ℕ) (K : List ExprTree → List Token → Type 0) (ts : List Token) : Type 0 where
  args : Args
  b : Place
  rest : List Token
  good : GoodArgs room args
  split : ts ≡ spell_args args (fixed mark.Close b ∷ rest)
  after : K (args_trees args) rest

args_back : (room : ℕ) (next : List ExprTree → Plan) (ts : List Token) (p : ProgramTree) → Takes (arguments room next) ts p → AtArgs room (λ es r. Takes (next es) r p) ts
args_back room next ts p (inl m) = record { args = no_args; b = m.at; rest = m.rest; good = tt; split = m.split; after = m.after }
args_back room next ts p (inr y) =
    let z = whole false room (λ e. chain mark.Comma false room (λ es. await mark.Close (λ b. next (e ∷ es)))) ts p y in
    let c = z.after in
    let m = c.after in
    record { args = some_args z.w c.xs; b = m.at; rest = m.rest; good = (z.good, c.good); split = z.split ∙ ap (spell z.w) (c.split ∙ ap (spell_chain mark.Comma c.xs) m.split); after = m.after }

-- behind the name of a call
record AtCall (at : Place) (n : List ℕ) (room : ℕ) (K : CallTree → List Token → Type 0) (ts : List Token) : Type 0 where
  c : CallText
  rest : List Token
  good : GoodArgs room c.args
  split : ◌≡◌ {A = List Token} (token (Name n) at ∷ ts) (spell_call c rest)
  after : K (call_tree c) rest

call_back : (at a : Place) (n : List ℕ) (room : ℕ) (next : CallTree → Plan) (ts rest : List Token) (p : ProgramTree) → ts ≡ fixed mark.Open a ∷ rest → Takes (called at n room next) rest p → AtCall at n room (λ c r. Takes (next c) r p) ts
call_back at a n room next ts rest p s x =
    let y = args_back room (λ es. next (record { name = named_at at n; arguments = es })) rest p x in
    record { c = record { at = at; name = n; a = a; args = y.args; b = y.b }; rest = y.rest; good = y.good; split = ap (λ l. token (Name n) at ∷ l) (s ∙ ap (λ l. fixed mark.Open a ∷ l) y.split); after = y.after }

abbrev valued : (RightTree → Plan) → ExprTree → Plan
valued next e = next (value e)

right_plain : (room : ℕ) (next : RightTree → Plan) (ts : List Token) (p : ProgramTree) → Takes (expr false room (valued next)) ts p → Takes (right_side room next) ts p
right_plain room next ts p x = let z = whole false room (valued next) ts p x in record { r = plain z.w; rest = z.rest; good = z.good; split = z.split; after = z.after }

name_back : (at : Place) (n : List ℕ) (room : ℕ) (next : RightTree → Plan) (ts : List Token) (p : ProgramTree) → Takes (behind_name at n room next) ts p → Takes (right_side room next) (token (Name n) at ∷ ts) p
name_back at n room next ts p (inl m) =
    let c = call_back at m.at n room (λ c. next (call c)) ts m.rest p m.split m.after in
    record { r = invoked c.c; rest = c.rest; good = c.good; split = c.split; after = c.after }
name_back at n room next ts p (inr y) =
    right_plain room next (token (Name n) at ∷ ts) p (record { w = word at n; rest = ts; spare = most_operators; good = tt; flat = refl; count = refl; split = refl; after = y })

right_back : (room : ℕ) (next : RightTree → Plan) (k : Kind) (at : Place) (ts : List Token) (p : ProgramTree) → TakesNext (right_step room next k at) ts p → Takes (right_side room next) (token k at ∷ ts) p
right_back room next (Name n) at ts p x = name_back at n room next ts p x
right_back room next k at ts p x = right_plain room next (token k at ∷ ts) p (operand_back false room most_operators (behind 4 false room (λ e l. valued next e)) k at ts p x)

-- ---- formulas and annotations
record AtFormula (f : Bool) (room : ℕ) (K : FormulaTree → List Token → Type 0) (ts : List Token) : Type 0 where
  text : FormulaText
  rest : List Token
  good : GoodFormula f room text
  split : ts ≡ spell_formula text rest
  after : K (formula_tree text) rest

formula_back : (f : Bool) (room : ℕ) (next : FormulaTree → Plan) (ts : List Token) (p : ProgramTree) → Takes (formula f room next) ts p → AtFormula f room (λ q r. Takes (next q) r p) ts
formula_back f room next ts p (inl m) =
    let c = m.after in
    record { text = gradual m.at c.xs; rest = c.rest; good = c.good; split = m.split ∙ ap (λ l. fixed mark.Question m.at ∷ l) c.split; after = c.after }
formula_back f room next ts p (inr y) =
    let z = whole f room (λ e. chain mark.And f room (λ es. next (record { imprecise = false; conjuncts = e ∷ es }))) ts p y in
    let c = z.after in
    record { text = precise z.w c.xs; rest = c.rest; good = (z.good, c.good); split = z.split ∙ ap (spell z.w) c.split; after = c.after }

-- behind `//@` and the word
record AtNote (w : Fixed) (f : Bool) (room : ℕ) (a at : Place) (K : NoteTree → List Token → Type 0) (ts : List Token) : Type 0 where
  n : NoteText
  rest : List Token
  good : GoodFormula f room n.formula
  split : ◌≡◌ {A = List Token} (fixed mark.Annotation a ∷ fixed w at ∷ ts) (spell_note w n rest)
  after : K (note_tree n) rest

note_back : (w : Fixed) (f : Bool) (room : ℕ) (a at : Place) (next : NoteTree → Plan) (ts : List Token) (p : ProgramTree) → Takes (noted f room at next) ts p → AtNote w f room a at (λ n r. Takes (next n) r p) ts
note_back w f room a at next ts p x =
    let y = formula_back f room (λ q. await mark.Semicolon (λ c. await mark.LineEnd (λ l. next (record { place = at; formula = q })))) ts p x in
    let c = y.after in
    let l = c.after in
    record { n = record { a = a; at = at; formula = y.text; c = c.at; l = l.at }; rest = l.rest; good = y.good; split = ap (λ z. fixed mark.Annotation a ∷ fixed w at ∷ z) (y.split ∙ ap (spell_formula y.text) (c.split ∙ ap (λ z. fixed mark.Semicolon c.at ∷ z) l.split)); after = l.after }

notes_back : (room : ℕ) (next : List NoteTree → Plan) (t : Token) (ts : List Token) (p : ProgramTree) → Back (next []) t ts p → Back (notes room next) t ts p
notes_back room next t ts p ih x =
    elim (is mark.Annotation t.kind) as (λ b. is mark.Annotation t.kind ≡ b → TakesNext (cond b (Some (await mark.LoopInvariant (λ at. noted false room at (after_note room next)))) (step (next []) t)) ts p → Takes (notes room next) (t ∷ ts) p) [
      | true ↦ λ i y.
          let z = note_back mark.LoopInvariant false room t.place y.at (after_note room next) y.rest p y.after in
          let m = z.after in
          record { ns = z.n ∷ m.ns; rest = m.rest; good = (z.good, m.good); split = is_token mark.Annotation t ts i ∙ ap (λ l. fixed mark.Annotation t.place ∷ l) y.split ∙ z.split ∙ ap (spell_note mark.LoopInvariant z.n) m.split; after = m.after }
      | false ↦ λ i y. record { ns = []; rest = t ∷ ts; good = tt; split = refl; after = ih y }
    ] refl x

-- behind the `//@` of a contract
record AtClause (a : Place) (K : ClauseTree → List Token → Type 0) (ts : List Token) : Type 0 where
  c : ClauseText
  rest : List Token
  good : GoodFormula (is_ensures c.kind) most_nested c.note.formula
  split : ◌≡◌ {A = List Token} (fixed mark.Annotation a ∷ ts) (spell_note (clause_word c.kind) c.note rest)
  after : K (clause_tree c) rest

clause_back : (a : Place) (next : ClauseTree → Plan) (ts : List Token) (p : ProgramTree) → Takes (clause next) ts p → AtClause a (λ c r. Takes (next c) r p) ts
clause_back a next ts p (inl m) =
    let z = note_back mark.Requires false most_nested a m.at (λ n. next (record { kind = side.Requires; note = n })) m.rest p m.after in
    record { c = record { kind = side.Requires; note = z.n }; rest = z.rest; good = z.good; split = ap (λ l. fixed mark.Annotation a ∷ l) m.split ∙ z.split; after = z.after }
clause_back a next ts p (inr m) =
    let z = note_back mark.Ensures true most_nested a m.at (λ n. next (record { kind = side.Ensures; note = n })) m.rest p m.after in
    record { c = record { kind = side.Ensures; note = z.n }; rest = z.rest; good = z.good; split = ap (λ l. fixed mark.Annotation a ∷ l) m.split ∙ z.split; after = z.after }

contract_back : (next : List ClauseTree → Plan) (t : Token) (ts : List Token) (p : ProgramTree) → Back (next []) t ts p → Back (contract next) t ts p
contract_back next t ts p ih x =
    elim (is mark.Annotation t.kind) as (λ b. is mark.Annotation t.kind ≡ b → TakesNext (cond b (Some (clause (after_clause next))) (step (next []) t)) ts p → Takes (contract next) (t ∷ ts) p) [
      | true ↦ λ i y.
          let z = clause_back t.place (after_clause next) ts p y in
          let m = z.after in
          record { cs = z.c ∷ m.cs; rest = m.rest; good = (z.good, m.good); split = is_token mark.Annotation t ts i ∙ z.split ∙ ap (spell_note (clause_word z.c.kind) z.c.note) m.split; after = m.after }
      | false ↦ λ i y. record { cs = []; rest = t ∷ ts; good = tt; split = refl; after = ih y }
    ] refl x

-- ---- statements
record AtLine (room : ℕ) (K : StmtTree → List Token → Type 0) (ts : List Token) : Type 0 where
  l : Line
  rest : List Token
  good : GoodLine room l
  split : ts ≡ spell_line l rest
  after : K (line_tree l) rest

-- `=`, a right side and `;`
record AtAssigned (room : ℕ) (K : Place → RightTree → List Token → Type 0) (ts : List Token) : Type 0 where
  q : Place
  r : RightText
  c : Place
  rest : List Token
  good : GoodRight room r
  split : ts ≡ fixed mark.Assign q ∷ spell_right r (fixed mark.Semicolon c ∷ rest)
  after : K q (right_tree r) rest

assigned_back : (room : ℕ) (next : Place → RightTree → Plan) (ts : List Token) (p : ProgramTree) → Takes (assigned room next) ts p → AtAssigned room (λ q r l. Takes (next q r) l p) ts
assigned_back room next ts p x =
    let r = x.after in
    let c = r.after in
    record { q = x.at; r = r.r; c = c.at; rest = c.rest; good = r.good; split = x.split ∙ ap (λ l. fixed mark.Assign x.at ∷ l) (r.split ∙ ap (spell_right r.r) c.split); after = c.after }

declared_back : (room : ℕ) (next : StmtTree → Plan) (at : Place) (s : Shape) (ts : List Token) (p : ProgramTree) → Takes (declared room next (typed_at at s)) ts p → AtLine room (λ l r. Takes (next l) r p) (fixed (type_word s) at ∷ ts)
declared_back room next at s ts p x =
    let y = assigned_back room (λ q r. next (declare (typed_at at s) (named_at x.at x.name) q r)) x.rest p x.after in
    record { l = declares at s x.at x.name y.q y.r y.c; rest = y.rest; good = y.good; split = ap (λ l. fixed (type_word s) at ∷ l) (x.split ∙ ap (λ l. token (Name x.name) x.at ∷ l) y.split); after = y.after }

first_back : (room : ℕ) (next : StmtTree → Plan) (at : Place) (n : List ℕ) (ts : List Token) (p : ProgramTree) → Takes (behind_first room next at n) ts p → AtLine room (λ l r. Takes (next l) r p) (token (Name n) at ∷ ts)
first_back room next at n ts p (inl m) =
    let c = call_back at m.at n room (λ c. await mark.Semicolon (λ s. next (call_stmt c))) ts m.rest p m.split m.after in
    let s = c.after in
    record { l = calls c.c s.at; rest = s.rest; good = c.good; split = c.split ∙ ap (spell_call c.c) s.split; after = s.after }
first_back room next at n ts p (inr x) =
    let y = assigned_back room (λ q r. next (assign (named_at at n) q r)) ts p x in
    record { l = assigns at n y.q y.r y.c; rest = y.rest; good = y.good; split = ap (λ l. token (Name n) at ∷ l) y.split; after = y.after }

-- a condition in parentheses
record AtCondition (room : ℕ) (K : ExprTree → List Token → Type 0) (ts : List Token) : Type 0 where
  a : Place
  w : Written
  b : Place
  rest : List Token
  good : GoodExpr false room w
  split : ts ≡ fixed mark.Open a ∷ spell w (fixed mark.Close b ∷ rest)
  after : K (tree_of w) rest

condition_back : (room : ℕ) (next : ExprTree → Plan) (ts : List Token) (p : ProgramTree) → Takes (condition room next) ts p → AtCondition room (λ e r. Takes (next e) r p) ts
condition_back room next ts p x =
    let z = whole false room (λ e. await mark.Close (λ b. next e)) x.rest p x.after in
    let c = z.after in
    record { a = x.at; w = z.w; b = c.at; rest = c.rest; good = z.good; split = x.split ∙ ap (λ l. fixed mark.Open x.at ∷ l) (z.split ∙ ap (spell z.w) c.split); after = c.after }

printed_back : (room : ℕ) (next : StmtTree → Plan) (at : Place) (s : Shape) (ts : List Token) (p : ProgramTree) → Takes (printed room next at s) ts p → AtLine room (λ l r. Takes (next l) r p) (fixed (print_word s) at ∷ ts)
printed_back room next at s ts p x =
    let y = condition_back room (λ e. await mark.Semicolon (λ c. next (print_stmt at s e))) ts p x in
    let c = y.after in
    record { l = prints at s y.a y.w y.b c.at; rest = c.rest; good = y.good; split = ap (λ l. fixed (print_word s) at ∷ l) (y.split ∙ ap (λ l. fixed mark.Open y.a ∷ spell y.w (fixed mark.Close y.b ∷ l)) c.split); after = c.after }

record AtBlock (room : ℕ) (K : StmtTrees → List Token → Type 0) (ts : List Token) : Type 0 where
  o : Place
  ls : Lines
  e : Place
  rest : List Token
  good : GoodLines room ls
  split : ts ≡ fixed mark.OpenBrace o ∷ spell_lines ls (fixed mark.CloseBrace e ∷ rest)
  after : K (line_trees ls) rest

block_back : (room : ℕ) (next : StmtTrees → Plan) (ts : List Token) (p : ProgramTree) → Takes (block room next) ts p → AtBlock room (λ ss r. Takes (next ss) r p) ts
block_back room next ts p x =
    let y = x.after in
    record { o = x.at; ls = y.ls; e = y.e; rest = y.rest; good = y.good; split = x.split ∙ ap (λ l. fixed mark.OpenBrace x.at ∷ l) y.split; after = y.after }

record AtOtherwise (room : ℕ) (K : StmtTrees → List Token → Type 0) (ts : List Token) : Type 0 where
  m : Otherwise
  rest : List Token
  good : GoodOtherwise room m
  split : ts ≡ spell_otherwise m rest
  after : K (otherwise_trees m) rest

otherwise_back : (room : ℕ) (next : StmtTrees → Plan) (ts : List Token) (p : ProgramTree) → Takes (otherwise room next) ts p → AtOtherwise room (λ ss r. Takes (next ss) r p) ts
otherwise_back room next ts p (inl x) =
    let y = block_back room next x.rest p x.after in
    record { m = elses x.at y.o y.ls y.e; rest = y.rest; good = y.good; split = x.split ∙ ap (λ l. fixed mark.Else x.at ∷ l) y.split; after = y.after }
otherwise_back room next ts p (inr x) = record { m = no_else; rest = ts; good = tt; split = refl; after = x }

abbrev if_rest : (StmtTree → Plan) → Place → ℕ → ExprTree → Plan
if_rest next at r e = block r (λ ss. otherwise r (λ os. next (if_stmt at e ss os)))

if_back : (room : ℕ) (next : StmtTree → Plan) (at : Place) (ts : List Token) (p : ProgramTree) → TakesNext (deeper room (λ r. condition room (if_rest next at r))) ts p → AtLine room (λ l r. Takes (next l) r p) (fixed mark.If at ∷ ts)
if_back room next at ts p x =
    let d = deeper_is room (λ r. condition room (if_rest next at r)) ts p x in
    let c = condition_back room (if_rest next at d.0) ts p d.2 in
    let b = block_back d.0 (λ ss. otherwise d.0 (λ os. next (if_stmt at (tree_of c.w) ss os))) c.rest p c.after in
    let m = otherwise_back d.0 (λ os. next (if_stmt at (tree_of c.w) (line_trees b.ls) os)) b.rest p b.after in
    record {
      l = ifs at c.a c.w c.b b.o b.ls b.e m.m;
      rest = m.rest;
      good = (c.good, deeper_good room d.0 (λ r. GoodLines r b.ls × GoodOtherwise r m.m) d.1 (b.good, m.good));
      split = ap (λ l. fixed mark.If at ∷ l) (c.split ∙ ap (λ l. fixed mark.Open c.a ∷ spell c.w (fixed mark.Close c.b ∷ l)) (b.split ∙ ap (λ l. fixed mark.OpenBrace b.o ∷ spell_lines b.ls (fixed mark.CloseBrace b.e ∷ l)) m.split));
      after = m.after;
    }

abbrev while_rest : (StmtTree → Plan) → Place → ℕ → ℕ → ExprTree → Plan
while_rest next at room r e = notes room (λ ns. block r (λ ss. next (while_stmt at e ns ss)))

while_back : (room : ℕ) (next : StmtTree → Plan) (at : Place) (ts : List Token) (p : ProgramTree) → TakesNext (deeper room (λ r. condition room (while_rest next at room r))) ts p → AtLine room (λ l r. Takes (next l) r p) (fixed mark.While at ∷ ts)
while_back room next at ts p x =
    let d = deeper_is room (λ r. condition room (while_rest next at room r)) ts p x in
    let c = condition_back room (while_rest next at room d.0) ts p d.2 in
    let n = c.after in
    let b = block_back d.0 (λ ss. next (while_stmt at (tree_of c.w) (note_trees n.ns) ss)) n.rest p n.after in
    record {
      l = whiles at c.a c.w c.b n.ns b.o b.ls b.e;
      rest = b.rest;
      good = (c.good, n.good, deeper_good room d.0 (λ r. GoodLines r b.ls) d.1 b.good);
      split = ap (λ l. fixed mark.While at ∷ l) (c.split ∙ ap (λ l. fixed mark.Open c.a ∷ spell c.w (fixed mark.Close c.b ∷ l)) (n.split ∙ ap (spell_notes n.ns) b.split));
      after = b.after;
    }

return_back : (room : ℕ) (next : StmtTree → Plan) (at : Place) (ts : List Token) (p : ProgramTree) → Takes (expr false room (λ e. await mark.Semicolon (λ c. next (return_stmt at e)))) ts p → AtLine room (λ l r. Takes (next l) r p) (fixed mark.Return at ∷ ts)
return_back room next at ts p x =
    let z = whole false room (λ e. await mark.Semicolon (λ c. next (return_stmt at e))) ts p x in
    let c = z.after in
    record { l = returns at z.w c.at; rest = c.rest; good = z.good; split = ap (λ l. fixed mark.Return at ∷ l) (z.split ∙ ap (spell z.w) c.split); after = c.after }

assert_back : (room : ℕ) (next : StmtTree → Plan) (at : Place) (ts : List Token) (p : ProgramTree) → Takes (await mark.Assert (λ w. noted false room w (λ n. next (assert_stmt n)))) ts p → AtLine room (λ l r. Takes (next l) r p) (fixed mark.Annotation at ∷ ts)
assert_back room next at ts p x =
    let z = note_back mark.Assert false room at x.at (λ n. next (assert_stmt n)) x.rest p x.after in
    record { l = asserts z.n; rest = z.rest; good = z.good; split = ap (λ l. fixed mark.Annotation at ∷ l) x.split ∙ z.split; after = z.after }

line_back : (room : ℕ) (next : StmtTree → Plan) (k : Kind) (at : Place) (ts : List Token) (p : ProgramTree) → TakesNext (line_step room next k at) ts p → AtLine room (λ l r. Takes (next l) r p) (token k at ∷ ts)
line_back room next (Known mark.Int) at ts p x = declared_back room next at shape.Int ts p x
line_back room next (Known mark.Bool) at ts p x = declared_back room next at shape.Bool ts p x
line_back room next (Name n) at ts p x = first_back room next at n ts p x
line_back room next (Known mark.PrintInt) at ts p x = printed_back room next at shape.Int ts p x
line_back room next (Known mark.PrintBool) at ts p x = printed_back room next at shape.Bool ts p x
line_back room next (Known mark.Return) at ts p x = return_back room next at ts p x
line_back room next (Known mark.If) at ts p x = if_back room next at ts p x
line_back room next (Known mark.While) at ts p x = while_back room next at ts p x
line_back room next (Known mark.Annotation) at ts p x = assert_back room next at ts p x
line_back room next k at ts p x = absurd x

brace_back : (room : ℕ) (any now : Bool) (next : StmtTrees → Place → Plan) (at : Place) (ts : List Token) (p : ProgramTree) → TakesNext (cond now (Some (next no_stmts at)) None) ts p → Takes (lines room any now next) (fixed mark.CloseBrace at ∷ ts) p
brace_back room any true next at ts p x = record { ls = no_lines; e = at; rest = ts; good = tt; closes = refl; split = refl; after = x }
brace_back room any false next at ts p x = absurd x

lines_back : (room : ℕ) (any now : Bool) (next : StmtTrees → Place → Plan) (k : Kind) (at : Place) (ts : List Token) (p : ProgramTree) → TakesNext (lines_step room any now next k at) ts p → Takes (lines room any now next) (token k at ∷ ts) p
lines_back room any now next (Known mark.CloseBrace) at ts p x = brace_back room any now next at ts p x
lines_back room any now next k at ts p x =
    let y = line_back room (after_line room any next) k at ts p x in
    let z = y.after in
    record { ls = line y.l z.ls; e = z.e; rest = z.rest; good = (y.good, z.good); closes = z.closes; split = y.split ∙ ap (spell_line y.l) z.split; after = z.after }

-- ---- parameters and functions
record AtParameter (K : Parameter → List Token → Type 0) (ts : List Token) : Type 0 where
  q : ParameterText
  rest : List Token
  split : ts ≡ spell_parameter q rest
  after : K (parameter_tree q) rest

parameter_back : (next : Parameter → Plan) (ts : List Token) (p : ProgramTree) → Takes (parameter_plan next) ts p → AtParameter (λ q r. Takes (next q) r p) ts
parameter_back next ts p x =
    let n = x.after in
    record { q = record { t = x.at; shape = x.shape; n = n.at; name = n.name }; rest = n.rest; split = x.split ∙ ap (λ l. fixed (type_word x.shape) x.at ∷ l) n.split; after = n.after }

more_back : (next : List Parameter → Plan) (k : Kind) (at : Place) (ts : List Token) (p : ProgramTree) → TakesNext (more_step next k) ts p → Takes (more_parameters next) (token k at ∷ ts) p
more_back next (Known mark.Close) at ts p x = record { ps = no_parameter; b = at; rest = ts; split = refl; after = x }
more_back next (Known mark.Comma) at ts p x =
    let y = parameter_back (λ q. more_parameters (λ ps. next (q ∷ ps))) ts p x in
    let m = y.after in
    record { ps = parameter at y.q m.ps; b = m.b; rest = m.rest; split = ap (λ l. fixed mark.Comma at ∷ l) (y.split ∙ ap (spell_parameter y.q) m.split); after = m.after }
more_back next k at ts p x = absurd x

record AtParameters (K : List Parameter → List Token → Type 0) (ts : List Token) : Type 0 where
  ps : Parameters
  b : Place
  rest : List Token
  split : ts ≡ spell_parameters ps (fixed mark.Close b ∷ rest)
  after : K (parameter_trees ps) rest

parameters_back : (next : List Parameter → Plan) (ts : List Token) (p : ProgramTree) → Takes (parameters_plan next) ts p → AtParameters (λ ps r. Takes (next ps) r p) ts
parameters_back next ts p (inl m) = record { ps = no_parameters; b = m.at; rest = m.rest; split = m.split; after = m.after }
parameters_back next ts p (inr x) =
    let y = parameter_back (λ q. more_parameters (λ ps. next (q ∷ ps))) ts p x in
    let m = y.after in
    record { ps = parameters y.q m.ps; b = m.b; rest = m.rest; split = y.split ∙ ap (spell_parameter y.q) m.split; after = m.after }

closes_returns : (b : Bool) (ss : StmtTrees) → last_closes false b ss ≡ last_returns b ss
closes_returns b no_stmts = refl
closes_returns b (stmt s ss) = closes_returns (is_return s) ss

abbrev function_rest : (FunctionTree → Plan) → Typed → Named → List Parameter → Plan
function_rest next t n ps = contract (λ cs. body (λ ss e. next (record { typed = t; name = n; parameters = ps; contract = cs; body = ss; close = e })))

record AtFunction (K : FunctionTree → List Token → Type 0) (ts : List Token) : Type 0 where
  g : FunctionText
  rest : List Token
  good : GoodFunction g
  split : ts ≡ spell_function g rest
  after : K (function_tree g) rest

function_back : (next : FunctionTree → Plan) (at : Place) (s : Shape) (ts : List Token) (p : ProgramTree) → Takes (function next (typed_at at s)) ts p → AtFunction (λ g r. Takes (next g) r p) (fixed (type_word s) at ∷ ts)
function_back next at s ts p x =
    let a = x.after in
    let y = parameters_back (function_rest next (typed_at at s) (named_at x.at x.name)) a.rest p a.after in
    let c = y.after in
    let o = c.after in
    let l = o.after in
    record {
      g = record { t = at; shape = s; n = x.at; name = x.name; a = a.at; parameters = y.ps; b = y.b; contract = c.cs; o = o.at; lines = l.ls; e = l.e };
      rest = l.rest;
      good = record { contract = c.good; lines = l.good; returned = sym (closes_returns false (line_trees l.ls)) ∙ l.closes };
      split = ap (λ z. fixed (type_word s) at ∷ z) (x.split ∙ ap (λ z. token (Name x.name) x.at ∷ z) (a.split ∙ ap (λ z. fixed mark.Open a.at ∷ z) (y.split ∙ ap (λ z. spell_parameters y.ps (fixed mark.Close y.b ∷ z)) (c.split ∙ ap (spell_contract c.cs) (o.split ∙ ap (λ z. fixed mark.OpenBrace o.at ∷ z) l.split)))));
      after = l.after;
    }

one_function : (next : List FunctionTree → Plan) (at : Place) (s : Shape) (ts : List Token) (p : ProgramTree) → Takes (function (after_function next) (typed_at at s)) ts p → Takes (functions next) (fixed (type_word s) at ∷ ts) p
one_function next at s ts p x =
    let y = function_back (after_function next) at s ts p x in
    let m = y.after in
    record { fs = y.g ∷ m.fs; last = m.last; rest = m.rest; good = (y.good, m.good); split = y.split ∙ ap (spell_function y.g) m.split; after = m.after }

functions_back : (next : List FunctionTree → Plan) (k : Kind) (at : Place) (ts : List Token) (p : ProgramTree) → TakesNext (functions_step next k at) ts p → Takes (functions next) (token k at ∷ ts) p
functions_back next End at ts p x = record { fs = []; last = at; rest = ts; good = tt; split = refl; after = x }
functions_back next (Known mark.Int) at ts p x = one_function next at shape.Int ts p x
functions_back next (Known mark.Bool) at ts p x = one_function next at shape.Bool ts p x
functions_back next k at ts p x = absurd x

-- ---- single tokens
named_back : (next : Named → Plan) (k : Kind) (at : Place) (ts : List Token) (p : ProgramTree) → TakesNext (named_step next k at) ts p → Takes (named next) (token k at ∷ ts) p
named_back next (Name n) at ts p x = record { at = at; name = n; rest = ts; split = refl; after = x }
named_back next k at ts p x = absurd x

typed_back : (next : Typed → Plan) (k : Kind) (at : Place) (ts : List Token) (p : ProgramTree) → TakesNext (typed_step next k at) ts p → Takes (typed next) (token k at ∷ ts) p
typed_back next (Known mark.Int) at ts p x = record { at = at; shape = shape.Int; rest = ts; split = refl; after = x }
typed_back next (Known mark.Bool) at ts p x = record { at = at; shape = shape.Bool; rest = ts; split = refl; after = x }
typed_back next k at ts p x = absurd x

await_back : (f : Fixed) (next : Place → Plan) (t : Token) (ts : List Token) (p : ProgramTree) → Back (await f next) t ts p
await_back f next t ts p x =
    elim (is f t.kind) as (λ b. is f t.kind ≡ b → TakesNext (cond b (Some (next t.place)) None) ts p → Takes (await f next) (t ∷ ts) p) [
      | true ↦ λ i y. record { at = t.place; rest = ts; split = is_token f t ts i; after = y }
      | false ↦ λ i y. absurd y
    ] refl x

-- ---- all plans
pub backward : (plan : Plan) (t : Token) (ts : List Token) (p : ProgramTree) → TakesNext (step plan t) ts p → Takes plan (t ∷ ts) p
backward (await f next) t ts p x = await_back f next t ts p x
backward (named next) t ts p x = named_back next t.kind t.place ts p x
backward (typed next) t ts p x = typed_back next t.kind t.place ts p x
backward (peek f these others) t ts p x = peek_back f these others t ts p (λ y. backward others t ts p y) x
backward (operand f room left next) t ts p x = operand_back f room left next t.kind t.place ts p x
backward (ops r f room left e next) t ts p x = ops_back r f room left e next t ts p (λ y. backward (next e left) t ts p y) x
backward (chain s f room next) t ts p x = chain_back s f room next t ts p (λ y. backward (next []) t ts p y) x
backward (right_side room next) t ts p x = right_back room next t.kind t.place ts p x
backward (notes room next) t ts p x = notes_back room next t ts p (λ y. backward (next []) t ts p y) x
backward (contract next) t ts p x = contract_back next t ts p (λ y. backward (next []) t ts p y) x
backward (lines room any now next) t ts p x = lines_back room any now next t.kind t.place ts p x
backward (more_parameters next) t ts p x = more_back next t.kind t.place ts p x
backward (functions next) t ts p x = functions_back next t.kind t.place ts p x
backward (finished q) t ts p x = absurd x
