-- One token back in statements: what a plan's next step takes, the plan takes behind that token.
use Rattle.std.proofs.Common.{◌≡◌, ℕ, ◌+◌, max, Bool, true, false, ◌||◌, not, List, [], ◌∷◌, map, Option, Some, None, ◌⊎◌, inl, inr, refl, sym, ap, ◌∙◌}
use Rattle.gc0_base.specs.declared.place.Place.{Place}
use Rattle.c0_lex.specs.declared.token.Keyword.{Keyword}
use Rattle.c0_lex.specs.declared.token.Keyword.TheVariants as key
use Rattle.c0_lex.specs.declared.token.Symbol.{Symbol}
use Rattle.c0_lex.specs.declared.token.Symbol.TheVariants as mark
use Rattle.parsed_tree.specs.Tree.{ExprTree, assert_note, fold_note, unfold_note, NoteTree, InvariantsTree, SimpleTree, declare, assign, plain, StmtTree, if_stmt, while_stmt, for_stmt, return_stmt, assert_stmt, notes_stmt, StmtTrees, no_stmts, stmt_and, ProgramTree}
use Rattle.c0_grammar.specs.Tokens.{word_mark, sign_mark, open_mark, close_mark, What, fixed, Token, token, keyword, symbol, name_token, text_token, begins_annotation, ends_annotation}
use Rattle.c0_grammar.specs.Lists.{spell_all, Each, depth_all}
use Rattle.c0_grammar.specs.Written.{spell_type, type_tree, named_at, Written, spell, tree_of, depth, spell_formula}
use Rattle.c0_grammar.specs.Allowed.{code, Good}
use Rattle.c0_grammar.specs.Texts.{NoteText, asserts_note, folds_note, unfolds_note, spell_note, note_tree, depth_note, InvariantText, spell_invariant, invariant_tree, depth_invariant, update_symbol, SimpleText, declares, declares_as, assigns, steps, evaluates, spell_simple, simple_tree, depth_simple, spell_option, tree_option, depth_option, Line, simple_line, braces, ifs, ifs_else, whiles, fors, returns, asserts, raises, notes, no_lines, line_and, spell_line, line_tree, depth_line}
use Rattle.c0_grammar.specs.Grammar.{GoodNote, GoodInvariant, is_place, GoodSimple, is_declaration, GoodOption, GoodLast, is_open}
use Rattle.c0_grammar.specs.Plan.{update_at, step_at, invariant_loop, Plan, await, peek, simple_end, body, loop_body, lines, many, Step, step_if, or_step, type_step, expr, note_at, assert_plan, fold_plan, unfold_plan, other_notes, notes_plan, declared, begun_simple, evaluated_step, simple_step, assign_step, by_one_step, condition, block_plan, if_plan, while_plan, optional_simple, for_plan, return_plan, assert_stmt_plan, error_plan, word_line_step, simple_line as simple_line_plan, annotation_plan, compound_step, line_step, after_line, lines_step, invariant_at, after_invariants, head_annotation, loop_body_step, step}
use Rattle.c0_grammar.proofs.Takes.{starts_else, Quiet, AtMark, AtAssign, AtStepped, AtSimple, AtLine, AtLoop, Takes, TakesNext}
use Rattle.c0_grammar.proofs.Marks.{update_is, step_is}
use Rattle.c0_grammar.proofs.BacksExpr.{if_taken, not_true, AtType, type_step_back, AtWhole, whole, operand_back, Back, stated_back, instance_back}

or_back : (s other : Step) (ts : List Token) (p : ProgramTree) (n : ℕ) → TakesNext (or_step s other) ts p n → TakesNext s ts p n ⊎ TakesNext other ts p n
or_back (Some s) other ts p n x = inl x
or_back None other ts p n x = inr x

-- ---- notes
pub record AtNote (names : List (List ℕ)) (K : NoteTree → ℕ → List Token → Type 0) (ts : List Token) : Type 0 where
  pub note : NoteText
  pub rest : List Token
  pub good : GoodNote names note
  pub split : ts ≡ spell_note note rest
  pub after : K (note_tree note) (depth_note note) rest

pub assert_note_back : (names : List (List ℕ)) (up : ℕ) (next : NoteTree → ℕ → Plan) (at : Place) (ts rest : List Token) (p : ProgramTree) (n : ℕ) → ts ≡ keyword key.Assert at ∷ rest → Takes (assert_plan names up next at) rest p n → AtNote names (λ x d r. Takes (next x d) r p n) ts
assert_note_back names up next at ts rest p n s x =
    let y = stated_back names up (λ f d. next (note_at at (assert_note f)) d) rest p n x in
    record { note = asserts_note at y.f y.c; rest = y.rest; good = y.good; split = s ∙ ap (λ l. keyword key.Assert at ∷ l) y.split; after = y.after }

pub fold_note_back : (names : List (List ℕ)) (up : ℕ) (next : NoteTree → ℕ → Plan) (at : Place) (ts rest : List Token) (p : ProgramTree) (n : ℕ) → ts ≡ keyword key.Fold at ∷ rest → Takes (fold_plan names up next at) rest p n → AtNote names (λ x d r. Takes (next x d) r p n) ts
fold_note_back names up next at ts rest p n s x =
    let y = instance_back names up (λ i d. next (note_at at (fold_note i)) d) rest p n x in
    record { note = folds_note at y.n y.name y.a y.args y.b y.c; rest = y.rest; good = (y.free, y.good); split = s ∙ ap (λ l. keyword key.Fold at ∷ l) y.split; after = y.after }

pub unfold_note_back : (names : List (List ℕ)) (up : ℕ) (next : NoteTree → ℕ → Plan) (at : Place) (ts rest : List Token) (p : ProgramTree) (n : ℕ) → ts ≡ keyword key.Unfold at ∷ rest → Takes (unfold_plan names up next at) rest p n → AtNote names (λ x d r. Takes (next x d) r p n) ts
unfold_note_back names up next at ts rest p n s x =
    let y = instance_back names up (λ i d. next (note_at at (unfold_note i)) d) rest p n x in
    record { note = unfolds_note at y.n y.name y.a y.args y.b y.c; rest = y.rest; good = (y.free, y.good); split = s ∙ ap (λ l. keyword key.Unfold at ∷ l) y.split; after = y.after }

-- ---- an annotation among the statements, behind what opens it
pub record AtNotes (names : List (List ℕ)) (at : Place) (K : StmtTree → ℕ → List Token → Type 0) (ts : List Token) : Type 0 where
  pub note : NoteText
  pub more : List NoteText
  pub e : Place
  pub rest : List Token
  pub good : GoodNote names note
  pub goods : Each (GoodNote names) more
  pub split : ts ≡ spell_note note (spell_all spell_note more (ends_annotation e ∷ rest))
  pub after : K (notes_stmt at (note_tree note ∷ map note_tree more)) (max (depth_note note) (depth_all depth_note more) + 1) rest

first_back : (names : List (List ℕ)) (up : ℕ) (next : StmtTree → ℕ → Plan) (at : Place) (ts : List Token) (p : ProgramTree) (n : ℕ) → AtNote names (λ x d r. Takes (other_notes names up next at x d) r p n) ts → AtNotes names at (λ s d r. Takes (next s d) r p n) ts
first_back names up next at ts p n x =
    let m = x.after in
    let e = m.after in
    record { note = x.note; more = m.xs; e = e.at; rest = e.rest; good = x.good; goods = m.good; split = x.split ∙ ap (spell_note x.note) (m.split ∙ ap (spell_all spell_note m.xs) e.split); after = e.after }

pub notes_back : (names : List (List ℕ)) (up : ℕ) (next : StmtTree → ℕ → Plan) (at : Place) (ts : List Token) (p : ProgramTree) (n : ℕ) → Takes (notes_plan names up next at) ts p n → AtNotes names at (λ s d r. Takes (next s d) r p n) ts
notes_back names up next at ts p n (inl m) = first_back names up next at ts p n (fold_note_back names (up + 1) (other_notes names up next at) m.at ts m.rest p n m.split m.after)
notes_back names up next at ts p n (inr (q, inl m)) = first_back names up next at ts p n (unfold_note_back names (up + 1) (other_notes names up next at) m.at ts m.rest p n m.split m.after)
notes_back names up next at ts p n (inr (q, inr (u, m))) = first_back names up next at ts p n (assert_note_back names (up + 1) (other_notes names up next at) m.at ts m.rest p n m.split m.after)

some_notes : (names : List (List ℕ)) (whole : Bool) (at : Place) (K : StmtTree → ℕ → List Token → Type 0) (ts : List Token) → AtNotes names at K ts → AtLine names whole K (begins_annotation at ∷ ts)
some_notes names true at K ts x = record { l = notes at (x.note ∷ x.more) x.e; rest = x.rest; good = (x.good, x.goods); allowed = refl; quiet = λ e. cc; split = ap (λ l. begins_annotation at ∷ l) x.split; after = x.after }
some_notes names false at K ts x = record { l = notes at (x.note ∷ x.more) x.e; rest = x.rest; good = (x.good, x.goods); allowed = refl; quiet = λ e. cc; split = ap (λ l. begins_annotation at ∷ l) x.split; after = x.after }

annotation_back : (names : List (List ℕ)) (whole : Bool) (up : ℕ) (next : StmtTree → ℕ → Plan) (at : Place) (ts : List Token) (p : ProgramTree) (n : ℕ) → Takes (annotation_plan names whole up next at) ts p n → AtLine names whole (λ s d r. Takes (next s d) r p n) (begins_annotation at ∷ ts)
annotation_back names false up next at ts p n x = some_notes names false at (λ s d r. Takes (next s d) r p n) ts (notes_back names up next at ts p n x)
annotation_back names true up next at ts p n (inl m) = some_notes names true at (λ s d r. Takes (next s d) r p n) ts (first_back names up next at ts p n (fold_note_back names (up + 1) (other_notes names up next at) m.at ts m.rest p n m.split m.after))
annotation_back names true up next at ts p n (inr (q, inl m)) = some_notes names true at (λ s d r. Takes (next s d) r p n) ts (first_back names up next at ts p n (unfold_note_back names (up + 1) (other_notes names up next at) m.at ts m.rest p n m.split m.after))
annotation_back names true up next at ts p n (inr (q, inr (u, inl m))) = some_notes names true at (λ s d r. Takes (next s d) r p n) ts (first_back names up next at ts p n (assert_note_back names (up + 1) (other_notes names up next at) m.at ts m.rest p n m.split m.after))
annotation_back names true up next at ts p n (inr (q, inr (u, inr (v, m)))) = record { l = notes at [] m.at; rest = m.rest; good = tt; allowed = refl; quiet = λ e. cc; split = ap (λ l. begins_annotation at ∷ l) m.split; after = m.after }

-- ---- simple statements
declared_back : (names : List (List ℕ)) (up : ℕ) (next : SimpleTree → ℕ → Plan) (ts : List Token) (p : ProgramTree) (n : ℕ) → AtType names (λ t r. Takes (declared names up next t) r p n) ts → AtSimple names true (λ s d r. Takes (next s d) r p n) ts
declared_back names up next ts p n t = by t.after
  where
    by : Takes (declared names up next (type_tree t.t)) t.rest p n → AtSimple names true (λ s d r. Takes (next s d) r p n) ts
    by x = valued x.after
      where
        valued : Takes (peek 0 (sign_mark mark.Assign) (λ q. expr names code up (λ e d. next (declare (type_tree t.t) (named_at x.at x.name) (Some (q, e))) d)) (next (declare (type_tree t.t) (named_at x.at x.name) None) 0)) x.rest p n → AtSimple names true (λ s d r. Takes (next s d) r p n) ts
        valued (inl m) =
            let z = whole names code up (λ e d. next (declare (type_tree t.t) (named_at x.at x.name) (Some (m.at, e))) d) m.rest p n m.after in
            record { s = declares_as t.t x.at x.name m.at z.w; rest = z.rest; good = (t.good, x.free, z.good); allowed = refl; split = t.split ∙ ap (spell_type t.t) (x.split ∙ ap (λ l. name_token x.name x.at ∷ l) (m.split ∙ ap (λ l. symbol mark.Assign m.at ∷ l) z.split)); after = z.after }
        valued (inr (q, y)) = record { s = declares t.t x.at x.name; rest = x.rest; good = (t.good, x.free); allowed = refl; split = t.split ∙ ap (spell_type t.t) x.split; after = y }

or_true : (b : Bool) → (b || true) ≡ true
or_true true = refl
or_true false = refl

ended_back : (names : List (List ℕ)) (may : Bool) (up : ℕ) (next : SimpleTree → ℕ → Plan) (ts : List Token) (p : ProgramTree) (n : ℕ) (w : Written) (rest : List Token) → Good names code w → ts ≡ spell w rest → Takes (simple_end names up (tree_of w) (depth w) next) rest p n → AtSimple names may (λ s d r. Takes (next s d) r p n) ts
ended_back names may up next ts p n w rest g s (inl x) = record { s = evaluates w; rest = rest; good = g; allowed = or_true may; split = s; after = x }
ended_back names may up next ts p n w rest g s (inr (inl x)) = record { s = assigns w x.q x.o x.y; rest = x.rest; good = (g, x.place, x.good); allowed = or_true may; split = s ∙ ap (spell w) x.split; after = x.after }
ended_back names may up next ts p n w rest g s (inr (inr x)) = record { s = steps w x.q x.o; rest = x.rest; good = (g, x.place); allowed = or_true may; split = s ∙ ap (spell w) x.split; after = x.after }

evaluated_back : (names : List (List ℕ)) (may : Bool) (up : ℕ) (next : SimpleTree → ℕ → Plan) (w : What) (at : Place) (ts : List Token) (p : ProgramTree) (n : ℕ) → TakesNext (evaluated_step names up next w at) ts p n → AtSimple names may (λ s d r. Takes (next s d) r p n) (token w at ∷ ts)
evaluated_back names may up next w at ts p n x =
    let z = whole names code up (λ e d. simple_end names up e d next) (token w at ∷ ts) p n (operand_back names code up (begun_simple names up next) w at ts p n x) in
    ended_back names may up next (token w at ∷ ts) p n z.w z.rest z.good z.split z.after

pub simple_back : (names : List (List ℕ)) (may : Bool) (up : ℕ) (next : SimpleTree → ℕ → Plan) (w : What) (at : Place) (ts : List Token) (p : ProgramTree) (n : ℕ) → TakesNext (simple_step names may up next w at) ts p n → AtSimple names may (λ s d r. Takes (next s d) r p n) (token w at ∷ ts)
simple_back names false up next w at ts p n x = evaluated_back names false up next w at ts p n x
simple_back names true up next w at ts p n x = by (or_back (type_step names up (declared names up next) w at) (evaluated_step names up next w at) ts p n x)
  where
    by : TakesNext (type_step names up (declared names up next) w at) ts p n ⊎ TakesNext (evaluated_step names up next w at) ts p n → AtSimple names true (λ s d r. Takes (next s d) r p n) (token w at ∷ ts)
    by (inl y) = declared_back names up next (token w at ∷ ts) p n (type_step_back names up (declared names up next) w at ts p n y)
    by (inr y) = evaluated_back names true up next w at ts p n y

assign_back : (names : List (List ℕ)) (up : ℕ) (e : ExprTree) (d : ℕ) (next : SimpleTree → ℕ → Plan) (w : What) (at : Place) (ts : List Token) (p : ProgramTree) (n : ℕ) → is_place e ≡ true → TakesNext (assign_step names up e d next (update_at w) at) ts p n → AtAssign names e d (λ s d' r. Takes (next s d') r p n) (token w at ∷ ts)
assign_back names up e d next w at ts p n g x =
    elim (update_at w) as (λ o. update_at w ≡ o → TakesNext (assign_step names up e d next o at) ts p n → AtAssign names e d (λ s d' r. Takes (next s d') r p n) (token w at ∷ ts)) [
      | None ↦ λ i y. absurd y
      | Some o ↦ λ i y.
          let z = whole names code up (λ y dy. next (assign e at o y) (max d dy)) ts p n y in
          record { q = at; o = o; y = z.w; rest = z.rest; place = g; good = z.good; split = ap (λ k. token k at ∷ ts) (update_is w o i) ∙ ap (λ l. symbol (update_symbol o) at ∷ l) z.split; after = z.after }
    ] refl x

by_one_back : (e : ExprTree) (d : ℕ) (next : SimpleTree → ℕ → Plan) (w : What) (at : Place) (ts : List Token) (p : ProgramTree) (n : ℕ) → is_place e ≡ true → TakesNext (by_one_step e d next (step_at w) at) ts p n → AtStepped e d (λ s d' r. Takes (next s d') r p n) (token w at ∷ ts)
by_one_back e d next w at ts p n g x =
    elim (step_at w) as (λ o. step_at w ≡ o → TakesNext (by_one_step e d next o at) ts p n → AtStepped e d (λ s d' r. Takes (next s d') r p n) (token w at ∷ ts)) [
      | None ↦ λ i y. absurd y
      | Some o ↦ λ i y. record { q = at; o = o; rest = ts; place = g; split = ap (λ k. token k at ∷ ts) (step_is w o i); after = y }
    ] refl x

pub simple_end_back : (names : List (List ℕ)) (up : ℕ) (e : ExprTree) (d : ℕ) (next : SimpleTree → ℕ → Plan) (t : Token) (ts : List Token) (p : ProgramTree) (n : ℕ) → Back (next (plain e) d) t ts p n → Back (simple_end names up e d next) t ts p n
simple_end_back names up e d next t ts p n ih x = by (or_back (step_if (is_place e) both) (step (next (plain e) d) t) ts p n x)
  where
    both : Step
    both = or_step (assign_step names up e d next (update_at t.what) t.place) (by_one_step e d next (step_at t.what) t.place)

    set : is_place e ≡ true → TakesNext (assign_step names up e d next (update_at t.what) t.place) ts p n ⊎ TakesNext (by_one_step e d next (step_at t.what) t.place) ts p n → Takes (simple_end names up e d next) (t ∷ ts) p n
    set g (inl y) = inr (inl (assign_back names up e d next t.what t.place ts p n g y))
    set g (inr y) = inr (inr (by_one_back e d next t.what t.place ts p n g y))

    by : TakesNext (step_if (is_place e) both) ts p n ⊎ TakesNext (step (next (plain e) d) t) ts p n → Takes (simple_end names up e d next) (t ∷ ts) p n
    by (inl y) =
        let z = if_taken (is_place e) both ts p n y in
        set z.0 (or_back (assign_step names up e d next (update_at t.what) t.place) (by_one_step e d next (step_at t.what) t.place) ts p n z.1)
    by (inr y) = inl (ih y)

-- ---- compound statements
record AtCondition (names : List (List ℕ)) (K : ExprTree → ℕ → List Token → Type 0) (ts : List Token) : Type 0 where
  a : Place
  w : Written
  b : Place
  rest : List Token
  good : Good names code w
  split : ts ≡ symbol mark.OpenParen a ∷ spell w (symbol mark.CloseParen b ∷ rest)
  after : K (tree_of w) (depth w) rest

condition_back : (names : List (List ℕ)) (up : ℕ) (next : ExprTree → ℕ → Plan) (ts : List Token) (p : ProgramTree) (n : ℕ) → Takes (condition names up next) ts p n → AtCondition names (λ e d r. Takes (next e d) r p n) ts
condition_back names up next ts p n x =
    let z = whole names code up (λ e d. await 0 (sign_mark mark.CloseParen) (λ b. next e d)) x.rest p n x.after in
    let c = z.after in
    record { a = x.at; w = z.w; b = c.at; rest = c.rest; good = z.good; split = x.split ∙ ap (λ l. symbol mark.OpenParen x.at ∷ l) (z.split ∙ ap (spell z.w) c.split); after = c.after }

-- a statement where one begins; `whole` where it may be a declaration or an annotation without clauses
abbrev Line_at : List (List ℕ) → (StmtTree → ℕ → Plan) → ProgramTree → ℕ → List Token → Type 0
Line_at names next p n ts = AtLine names false (λ s d r. Takes (next s d) r p n) ts

any_line : (names : List (List ℕ)) (whole : Bool) (K : StmtTree → ℕ → List Token → Type 0) (ts : List Token) → AtLine names false K ts → AtLine names whole K ts
any_line names true K ts x = record { l = x.l; rest = x.rest; good = x.good; allowed = refl; quiet = x.quiet; split = x.split; after = x.after }
any_line names false K ts x = x

block_back : (names : List (List ℕ)) (up : ℕ) (next : StmtTree → ℕ → Plan) (at : Place) (ts : List Token) (p : ProgramTree) (n : ℕ) → Takes (block_plan names up next at) ts p n → Line_at names next p n (symbol mark.OpenBrace at ∷ ts)
block_back names up next at ts p n x = record { l = braces at x.ls x.e; rest = x.rest; good = x.good; allowed = refl; quiet = λ e. cc; split = ap (λ l. symbol mark.OpenBrace at ∷ l) x.split; after = x.after }

-- the `else` that stands first
first_else : (l : Line) (at : Place) (ts rest : List Token) → Quiet l ts → ts ≡ keyword key.Else at ∷ rest → is_open l ≡ false
first_else l at ts rest q s =
    elim (is_open l) as (λ b. is_open l ≡ b → b ≡ false) [
      | true ↦ λ i. absurd (clash (sym (ap starts_else s) ∙ q i))
      | false ↦ λ i. refl
    ] refl
  where
    clash : true ≡ false → ⊥
    clash e = cc

if_back : (names : List (List ℕ)) (up : ℕ) (next : StmtTree → ℕ → Plan) (at : Place) (ts : List Token) (p : ProgramTree) (n : ℕ) → Takes (if_plan names up next at) ts p n → Line_at names next p n (keyword key.If at ∷ ts)
if_back names up next at ts p n x = ends b.after
  where
    e_next : ExprTree → ℕ → Plan
    e_next e d = body names (up + 1) (λ s d1.
        peek 0 (word_mark key.Else) (λ w. body names (up + 1) (λ o d2. next (if_stmt at e s (stmt_and o no_stmts)) (max d (max d1 d2) + 1)))
        (next (if_stmt at e s no_stmts) (max d d1 + 1)))

    c : AtCondition names (λ e d r. Takes (e_next e d) r p n) ts
    c = condition_back names (up + 1) e_next ts p n x

    b : AtLine names false (λ s d r. Takes (peek 0 (word_mark key.Else) (λ w. body names (up + 1) (λ o d2. next (if_stmt at (tree_of c.w) s (stmt_and o no_stmts)) (max (depth c.w) (max d d2) + 1))) (next (if_stmt at (tree_of c.w) s no_stmts) (max (depth c.w) d + 1))) r p n) c.rest
    b = c.after

    front : (r : List Token) → c.rest ≡ r → ◌≡◌ {A = List Token} (keyword key.If at ∷ ts) (keyword key.If at ∷ symbol mark.OpenParen c.a ∷ spell c.w (symbol mark.CloseParen c.b ∷ r))
    front r s = ap (λ l. keyword key.If at ∷ l) (c.split ∙ ap (λ l. symbol mark.OpenParen c.a ∷ spell c.w (symbol mark.CloseParen c.b ∷ l)) s)

    ends : Takes (peek 0 (word_mark key.Else) (λ w. body names (up + 1) (λ o d2. next (if_stmt at (tree_of c.w) (line_tree b.l) (stmt_and o no_stmts)) (max (depth c.w) (max (depth_line b.l) d2) + 1))) (next (if_stmt at (tree_of c.w) (line_tree b.l) no_stmts) (max (depth c.w) (depth_line b.l) + 1))) b.rest p n → Line_at names next p n (keyword key.If at ∷ ts)
    ends (inl m) =
        let o = m.after in
        record {
          l = ifs_else at c.a c.w c.b b.l m.at o.l;
          rest = o.rest;
          good = (c.good, b.good, b.allowed, first_else b.l m.at b.rest m.rest b.quiet m.split, o.good, o.allowed);
          allowed = refl;
          quiet = o.quiet;
          split = front (spell_line b.l (keyword key.Else m.at ∷ spell_line o.l o.rest)) (b.split ∙ ap (spell_line b.l) (m.split ∙ ap (λ l. keyword key.Else m.at ∷ l) o.split));
          after = o.after;
        }
    ends (inr (q, y)) = record {
      l = ifs at c.a c.w c.b b.l;
      rest = b.rest;
      good = (c.good, b.good, b.allowed);
      allowed = refl;
      quiet = λ e. q;
      split = front (spell_line b.l b.rest) b.split;
      after = y;
    }

while_back : (names : List (List ℕ)) (up : ℕ) (next : StmtTree → ℕ → Plan) (at : Place) (ts : List Token) (p : ProgramTree) (n : ℕ) → Takes (while_plan names up next at) ts p n → Line_at names next p n (keyword key.While at ∷ ts)
while_back names up next at ts p n x =
    let c = condition_back names (up + 1) (λ e d. loop_body names (up + 1) (λ is di s ds. next (while_stmt at e is s) (max d (max di ds) + 1))) ts p n x in
    let b = c.after in
    record { l = whiles at c.a c.w c.b b.is b.l; rest = b.rest; good = (c.good, b.invariants, b.good, b.body); allowed = refl; quiet = b.quiet; split = ap (λ l. keyword key.While at ∷ l) (c.split ∙ ap (λ l. symbol mark.OpenParen c.a ∷ spell c.w (symbol mark.CloseParen c.b ∷ l)) b.split); after = b.after }

-- [ simple ] and a symbol
record AtOptional (names : List (List ℕ)) (may : Bool) (s : Symbol) (K : Option SimpleTree → ℕ → List Token → Type 0) (ts : List Token) : Type 0 where
  x : Option SimpleText
  c : Place
  rest : List Token
  good : GoodOption (λ y. GoodSimple names y × ((may || not (is_declaration y)) ≡ true)) x
  split : ts ≡ spell_option spell_simple x (symbol s c ∷ rest)
  after : K (tree_option simple_tree x) (depth_option depth_simple x) rest

optional_back : (names : List (List ℕ)) (may : Bool) (up : ℕ) (s : Symbol) (next : Option SimpleTree → ℕ → Plan) (ts : List Token) (p : ProgramTree) (n : ℕ) → Takes (optional_simple names may up s next) ts p n → AtOptional names may s (λ x d r. Takes (next x d) r p n) ts
optional_back names may up s next ts p n (inl m) = record { x = None; c = m.at; rest = m.rest; good = tt; split = m.split; after = m.after }
optional_back names may up s next ts p n (inr (q, y)) =
    let c = y.after in
    record { x = Some y.s; c = c.at; rest = c.rest; good = (y.good, y.allowed); split = y.split ∙ ap (spell_simple y.s) c.split; after = c.after }

first_part : (names : List (List ℕ)) (x : Option SimpleText) → GoodOption (λ y. GoodSimple names y × ((true || not (is_declaration y)) ≡ true)) x → GoodOption (GoodSimple names) x
first_part names None g = tt
first_part names (Some y) g = g.0

last_part : (names : List (List ℕ)) (x : Option SimpleText) → GoodOption (λ y. GoodSimple names y × ((false || not (is_declaration y)) ≡ true)) x → GoodOption (GoodLast names) x
last_part names None g = tt
last_part names (Some y) g = (g.0, not_true (is_declaration y) g.1)

for_back : (names : List (List ℕ)) (up : ℕ) (next : StmtTree → ℕ → Plan) (at : Place) (ts : List Token) (p : ProgramTree) (n : ℕ) → Takes (for_plan names up next at) ts p n → Line_at names next p n (keyword key.For at ∷ ts)
for_back names up next at ts p n x = record {
  l = fors at x.at a.x a.c e.w s.at z.x z.c b.is b.l;
  rest = b.rest;
  good = (first_part names a.x a.good, e.good, last_part names z.x z.good, b.invariants, b.good, b.body);
  allowed = refl;
  quiet = b.quiet;
  split = ap (λ l. keyword key.For at ∷ l) (x.split ∙ ap (λ l. symbol mark.OpenParen x.at ∷ l) (a.split ∙ ap (λ l. spell_option spell_simple a.x (symbol mark.Semicolon a.c ∷ l)) (e.split ∙ ap (spell e.w) (s.split ∙ ap (λ l. symbol mark.Semicolon s.at ∷ l) (z.split ∙ ap (λ l. spell_option spell_simple z.x (symbol mark.CloseParen z.c ∷ l)) b.split)))));
  after = b.after;
}
  where
    last : Option SimpleTree → ℕ → ExprTree → ℕ → Option SimpleTree → ℕ → Plan
    last x dx e d y dy = loop_body names (up + 1) (λ is di s ds. next (for_stmt at x e y is s) (max dx (max d (max dy (max di ds))) + 1))

    tested : Option SimpleTree → ℕ → ExprTree → ℕ → Plan
    tested x dx e d = await 0 (sign_mark mark.Semicolon) (λ c. optional_simple names false (up + 1) mark.CloseParen (last x dx e d))

    a : AtOptional names true mark.Semicolon (λ x dx r. Takes (expr names code (up + 1) (tested x dx)) r p n) x.rest
    a = optional_back names true (up + 1) mark.Semicolon (λ x dx. expr names code (up + 1) (tested x dx)) x.rest p n x.after

    e : AtWhole names code (λ e d r. Takes (tested (tree_option simple_tree a.x) (depth_option depth_simple a.x) e d) r p n) a.rest
    e = whole names code (up + 1) (tested (tree_option simple_tree a.x) (depth_option depth_simple a.x)) a.rest p n a.after

    s : AtMark (sign_mark mark.Semicolon) (λ c r. Takes (optional_simple names false (up + 1) mark.CloseParen (last (tree_option simple_tree a.x) (depth_option depth_simple a.x) (tree_of e.w) (depth e.w))) r p n) e.rest
    s = e.after

    z : AtOptional names false mark.CloseParen (λ y dy r. Takes (last (tree_option simple_tree a.x) (depth_option depth_simple a.x) (tree_of e.w) (depth e.w) y dy) r p n) s.rest
    z = optional_back names false (up + 1) mark.CloseParen (last (tree_option simple_tree a.x) (depth_option depth_simple a.x) (tree_of e.w) (depth e.w)) s.rest p n s.after

    b : AtLoop names (λ is di l dl r. Takes (next (for_stmt at (tree_option simple_tree a.x) (tree_of e.w) (tree_option simple_tree z.x) is l) (max (depth_option depth_simple a.x) (max (depth e.w) (max (depth_option depth_simple z.x) (max di dl))) + 1)) r p n) z.rest
    b = z.after

return_back : (names : List (List ℕ)) (up : ℕ) (next : StmtTree → ℕ → Plan) (at : Place) (ts : List Token) (p : ProgramTree) (n : ℕ) → Takes (return_plan names up next at) ts p n → Line_at names next p n (keyword key.Return at ∷ ts)
return_back names up next at ts p n (inl m) = record { l = returns at None m.at; rest = m.rest; good = tt; allowed = refl; quiet = λ e. cc; split = ap (λ l. keyword key.Return at ∷ l) m.split; after = m.after }
return_back names up next at ts p n (inr (q, y)) =
    let z = whole names code (up + 1) (λ e d. await 0 (sign_mark mark.Semicolon) (λ c. next (return_stmt at (Some e)) (d + 1))) ts p n y in
    let c = z.after in
    record { l = returns at (Some z.w) c.at; rest = c.rest; good = z.good; allowed = refl; quiet = λ e. cc; split = ap (λ l. keyword key.Return at ∷ l) (z.split ∙ ap (spell z.w) c.split); after = c.after }

assert_back : (names : List (List ℕ)) (up : ℕ) (next : StmtTree → ℕ → Plan) (at : Place) (ts : List Token) (p : ProgramTree) (n : ℕ) → Takes (assert_stmt_plan names up next at) ts p n → Line_at names next p n (keyword key.Assert at ∷ ts)
assert_back names up next at ts p n x =
    let z = condition_back names (up + 1) (λ e d. await 0 (sign_mark mark.Semicolon) (λ c. next (assert_stmt at e) (d + 1))) ts p n x in
    let c = z.after in
    record { l = asserts at z.a z.w z.b c.at; rest = c.rest; good = z.good; allowed = refl; quiet = λ e. cc; split = ap (λ l. keyword key.Assert at ∷ l) (z.split ∙ ap (λ l. symbol mark.OpenParen z.a ∷ spell z.w (symbol mark.CloseParen z.b ∷ l)) c.split); after = c.after }

error_back : (names : List (List ℕ)) (next : StmtTree → ℕ → Plan) (at : Place) (ts : List Token) (p : ProgramTree) (n : ℕ) → Takes (error_plan next at) ts p n → Line_at names next p n (keyword key.Error at ∷ ts)
error_back names next at ts p n x =
    let t = x.after in
    let b = t.after in
    let c = b.after in
    record { l = raises at x.at t.at t.bytes b.at c.at; rest = c.rest; good = tt; allowed = refl; quiet = λ e. cc; split = ap (λ l. keyword key.Error at ∷ l) (x.split ∙ ap (λ l. symbol mark.OpenParen x.at ∷ l) (t.split ∙ ap (λ l. text_token t.bytes t.at ∷ l) (b.split ∙ ap (λ l. symbol mark.CloseParen b.at ∷ l) c.split))); after = c.after }

word_line_back : (names : List (List ℕ)) (up : ℕ) (next : StmtTree → ℕ → Plan) (k : Keyword) (at : Place) (ts : List Token) (p : ProgramTree) (n : ℕ) → TakesNext (word_line_step names up next k at) ts p n → Line_at names next p n (keyword k at ∷ ts)
word_line_back names up next key.If at ts p n x = if_back names up next at ts p n x
word_line_back names up next key.While at ts p n x = while_back names up next at ts p n x
word_line_back names up next key.For at ts p n x = for_back names up next at ts p n x
word_line_back names up next key.Return at ts p n x = return_back names up next at ts p n x
word_line_back names up next key.Assert at ts p n x = assert_back names up next at ts p n x
word_line_back names up next key.Error at ts p n x = error_back names next at ts p n x
word_line_back names up next k at ts p n x = absurd x

compound_back : (names : List (List ℕ)) (w_may : Bool) (up : ℕ) (next : StmtTree → ℕ → Plan) (w : What) (at : Place) (ts : List Token) (p : ProgramTree) (n : ℕ) → TakesNext (compound_step names w_may up next w at) ts p n → AtLine names w_may (λ s d r. Takes (next s d) r p n) (token w at ∷ ts)
compound_back names may up next (fixed (word_mark k)) at ts p n x = any_line names may (λ s d r. Takes (next s d) r p n) (keyword k at ∷ ts) (word_line_back names up next k at ts p n x)
compound_back names may up next (fixed (sign_mark mark.OpenBrace)) at ts p n x = any_line names may (λ s d r. Takes (next s d) r p n) (symbol mark.OpenBrace at ∷ ts) (block_back names up next at ts p n x)
compound_back names may up next (fixed open_mark) at ts p n x = annotation_back names may up next at ts p n x
compound_back names may up next w at ts p n x = absurd x

simple_line_back : (names : List (List ℕ)) (may : Bool) (up : ℕ) (next : StmtTree → ℕ → Plan) (w : What) (at : Place) (ts : List Token) (p : ProgramTree) (n : ℕ) → TakesNext (simple_step names may (up + 1) (simple_line_plan next) w at) ts p n → AtLine names may (λ s d r. Takes (next s d) r p n) (token w at ∷ ts)
simple_line_back names may up next w at ts p n x =
    let y = simple_back names may (up + 1) (simple_line_plan next) w at ts p n x in
    let c = y.after in
    record { l = simple_line y.s c.at; rest = c.rest; good = y.good; allowed = y.allowed; quiet = λ e. cc; split = y.split ∙ ap (spell_simple y.s) c.split; after = c.after }

pub line_back : (names : List (List ℕ)) (may : Bool) (up : ℕ) (next : StmtTree → ℕ → Plan) (w : What) (at : Place) (ts : List Token) (p : ProgramTree) (n : ℕ) → TakesNext (line_step names may up next w at) ts p n → AtLine names may (λ s d r. Takes (next s d) r p n) (token w at ∷ ts)
line_back names may up next w at ts p n x = by (or_back (compound_step names may up next w at) (simple_step names may (up + 1) (simple_line_plan next) w at) ts p n x)
  where
    by : TakesNext (compound_step names may up next w at) ts p n ⊎ TakesNext (simple_step names may (up + 1) (simple_line_plan next) w at) ts p n → AtLine names may (λ s d r. Takes (next s d) r p n) (token w at ∷ ts)
    by (inl y) = compound_back names may up next w at ts p n y
    by (inr y) = simple_line_back names may up next w at ts p n y

pub lines_back : (names : List (List ℕ)) (up : ℕ) (next : StmtTrees → ℕ → Place → Plan) (w : What) (at : Place) (ts : List Token) (p : ProgramTree) (n : ℕ) → TakesNext (lines_step names up next w at) ts p n → Takes (lines names up next) (token w at ∷ ts) p n
lines_back names up next (fixed (sign_mark mark.CloseBrace)) at ts p n x = record { ls = no_lines; e = at; rest = ts; good = tt; split = refl; after = x }
lines_back names up next w at ts p n x =
    let y = line_back names true up (after_line names up next) w at ts p n x in
    let z = y.after in
    record { ls = line_and y.l z.ls; e = z.e; rest = z.rest; good = (y.good, z.good); split = y.split ∙ ap (spell_line y.l) z.split; after = z.after }

-- ---- what stands behind the head of a loop
after_back : (names : List (List ℕ)) (up : ℕ) (next : List InvariantsTree → ℕ → StmtTree → ℕ → Plan) (at e : Place) (cs : List InvariantText) (ts rest : List Token) (p : ProgramTree) (n : ℕ) → Each (GoodInvariant names) cs → ts ≡ spell_all spell_invariant cs (ends_annotation e ∷ rest) → Takes (after_invariants names up next at (map invariant_tree cs) (depth_all depth_invariant cs)) rest p n → Takes (loop_body names up next) (begins_annotation at ∷ ts) p n
after_back names up next at e cs ts rest p n g s x = record { is = record { o = at; clauses = cs; e = e } ∷ x.is; l = x.l; rest = x.rest; invariants = (g, x.invariants); good = x.good; body = x.body; quiet = x.quiet; split = ap (λ l. begins_annotation at ∷ l) (s ∙ ap (λ l. spell_all spell_invariant cs (ends_annotation e ∷ l)) x.split); after = x.after }

head_back : (names : List (List ℕ)) (up : ℕ) (next : List InvariantsTree → ℕ → StmtTree → ℕ → Plan) (at : Place) (ts : List Token) (p : ProgramTree) (n : ℕ) → Takes (head_annotation names up next at) ts p n → Takes (loop_body names up next) (begins_annotation at ∷ ts) p n
head_back names up next at ts p n (inl m) = after_back names up next at m.at [] ts m.rest p n tt m.split m.after
head_back names up next at ts p n (inr (q, inl m)) =
    let y = stated_back names up (λ f d. many (invariant_loop names up) (λ cs d'. await 0 close_mark (λ e. after_invariants names up next at (invariant_at m.at f ∷ cs) (max d d')))) m.rest p n m.after in
    let z = y.after in
    let e = z.after in
    let i : InvariantText = record { at = m.at; formula = y.f; c = y.c } in
    after_back names up next at e.at (i ∷ z.xs) ts e.rest p n (y.good, z.good) (m.split ∙ ap (λ l. keyword key.LoopInvariant m.at ∷ l) (y.split ∙ ap (λ l. spell_formula y.f (symbol mark.Semicolon y.c ∷ l)) (z.split ∙ ap (spell_all spell_invariant z.xs) e.split))) e.after
head_back names up next at ts p n (inr (q, inr (u, y))) =
    let z = notes_back names up (λ s d. next [] 0 s d) at ts p n y in
    record { is = []; l = notes at (z.note ∷ z.more) z.e; rest = z.rest; invariants = tt; good = (z.good, z.goods); body = refl; quiet = λ e. cc; split = ap (λ l. begins_annotation at ∷ l) z.split; after = z.after }

plain_back : (names : List (List ℕ)) (up : ℕ) (next : List InvariantsTree → ℕ → StmtTree → ℕ → Plan) (w : What) (at : Place) (ts : List Token) (p : ProgramTree) (n : ℕ) → TakesNext (line_step names false up (λ s d. next [] 0 s d) w at) ts p n → Takes (loop_body names up next) (token w at ∷ ts) p n
plain_back names up next w at ts p n x =
    let y = line_back names false up (λ s d. next [] 0 s d) w at ts p n x in
    record { is = []; l = y.l; rest = y.rest; invariants = tt; good = y.good; body = y.allowed; quiet = y.quiet; split = y.split; after = y.after }

pub loop_body_back : (names : List (List ℕ)) (up : ℕ) (next : List InvariantsTree → ℕ → StmtTree → ℕ → Plan) (w : What) (at : Place) (ts : List Token) (p : ProgramTree) (n : ℕ) → TakesNext (loop_body_step names up next w at) ts p n → Takes (loop_body names up next) (token w at ∷ ts) p n
loop_body_back names up next (fixed open_mark) at ts p n x = head_back names up next at ts p n x
loop_body_back names up next w at ts p n x = plain_back names up next w at ts p n x
