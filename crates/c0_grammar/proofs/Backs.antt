-- One token back: what a plan's next step takes, the plan takes behind that token.
use Rattle.std.proofs.Common.{◌≡◌, ℕ, ◌+◌, max, true, false, not, cond, List, [], ◌∷◌, map, Some, None, inl, inr, refl, sym, ap, ◌∙◌, subst}
use Rattle.gc0_base.specs.declared.place.Place.{Place}
use Rattle.c0_lex.specs.declared.token.Keyword.{Keyword}
use Rattle.c0_lex.specs.declared.token.Keyword.TheVariants as key
use Rattle.c0_lex.specs.declared.token.Symbol.TheVariants as mark
use Rattle.parsed_tree.specs.declared.expressions.Named.{Named}
use Rattle.parsed_tree.specs.declared.expressions.Text.{Text}
use Rattle.parsed_tree.specs.declared.expressions.Base.TheVariants as base
use Rattle.parsed_tree.specs.declared.items.Library.{Library}
use Rattle.parsed_tree.specs.declared.items.Field.{Field}
use Rattle.parsed_tree.specs.declared.items.Param.{Param}
use Rattle.parsed_tree.specs.declared.items.Side.{Side}
use Rattle.parsed_tree.specs.declared.items.Side.TheVariants as side
use Rattle.parsed_tree.specs.Tree.{ExprTree, plain, ClauseTree, ContractTree, PredicateTree, ItemTree, struct_name, typedef_item, prototype_item, function_item, ProgramTree}
use Rattle.c0_grammar.specs.Tokens.{Fixed, word_mark, sign_mark, use_mark, open_mark, end_mark, What, fixed, name_what, text_what, Token, token, keyword, symbol, name_token, use_token, begins_annotation, is_among}
use Rattle.c0_grammar.specs.Lists.{spell_all, depth_all}
use Rattle.c0_grammar.specs.Written.{struct_word, spell_type, named_at, spell, tree_of, depth}
use Rattle.c0_grammar.specs.Allowed.{conjunct}
use Rattle.c0_grammar.specs.Texts.{spell_clause, spell_contract, contract_tree, depth_contract, ParamText, spell_param, param_tree, spell_next, Params, no_params, some_params, spell_params, params_trees, ResultText, void_word, gives, spell_result, result_tree, HeadText, spell_head, head_tree, spell_predicate, spell_field, spell_lines, ItemText, names_struct, defines_struct, defines_type, declares_function, defines_function, defines_predicates, spell_item, item_tree, depth_item, library_name, side_word}
use Rattle.c0_grammar.specs.Grammar.{GoodParam, GoodParams, GoodResult, GoodHead, GoodItem, names_behind, GoodItems}
use Rattle.c0_grammar.specs.Plan.{Loop, star_loop, invariant_loop, note_loop, clause_loop, contract_loop, predicate_loop, field_loop, param_loop, use_loop, Part, Plan, await, peek, name, alias, text, peek_text, library_name_of, operand, arrows, acc_arrows, ops, quest, more_args, simple_end, simple, body, loop_body, lines, many, items, finished, or_step, stars, expr, invariant_plan, param_plan, params_plan, clause_at, clause_plan, contract_plan, predicate_plan, field_behind, behind_head, head_plan, typed_head, fields_plan, struct_plan, after_item, typedef_plan, predicates_plan, items_step, note_enter, clause_enter, use_plan, enter_at, enter_name, enter, after_part, name_step, alias_step, text_step, library_of, library_named, library_step, step, is}
use Rattle.c0_grammar.proofs.Takes.{PartText, spell_part, part_tree, depth_part, GoodPart, AtMark, AtMany, Takes, TakesNext}
use Rattle.c0_grammar.proofs.Marks.{is_token, library_is}
use Rattle.c0_grammar.proofs.BacksExpr.{if_taken, not_true, AtType, stars_back, typed_back, type_step_back, AtWhole, whole, operand_back, Back, peek_back, arrows_back, acc_arrows_back, ops_back, quest_back, more_args_back, stated_back}
use Rattle.c0_grammar.proofs.BacksStmt.{AtNote, assert_note_back, fold_note_back, unfold_note_back, simple_back, simple_end_back, line_back, lines_back, loop_body_back}

-- ---- parameters
record AtParam (names : List (List ℕ)) (K : Param → List Token → Type 0) (ts : List Token) : Type 0 where
  q : ParamText
  rest : List Token
  good : GoodParam names q
  split : ts ≡ spell_param q rest
  after : K (param_tree q) rest

param_back : (names : List (List ℕ)) (next : Param → Plan) (ts : List Token) (p : ProgramTree) (n : ℕ) → Takes (param_plan names next) ts p n → AtParam names (λ q r. Takes (next q) r p n) ts
param_back names next ts p n x =
    let t = typed_back names (λ t. name names (λ a. next (record { typed = t; name = a }))) ts p n x in
    let a = t.after in
    record { q = record { typed = t.t; n = a.at; name = a.name }; rest = a.rest; good = (t.good, a.free); split = t.split ∙ ap (spell_type t.t) a.split; after = a.after }

record AtParams (names : List (List ℕ)) (K : List Param → List Token → Type 0) (ts : List Token) : Type 0 where
  ps : Params
  b : Place
  rest : List Token
  good : GoodParams names ps
  split : ts ≡ spell_params ps (symbol mark.CloseParen b ∷ rest)
  after : K (params_trees ps) rest

params_back : (names : List (List ℕ)) (next : List Param → Plan) (ts : List Token) (p : ProgramTree) (n : ℕ) → Takes (params_plan names next) ts p n → AtParams names (λ ps r. Takes (next ps) r p n) ts
params_back names next ts p n (inl m) = record { ps = no_params; b = m.at; rest = m.rest; good = tt; split = m.split; after = m.after }
params_back names next ts p n (inr (q, y)) =
    let a = param_back names (λ a. many (param_loop names) (λ ps d. await 0 (sign_mark mark.CloseParen) (λ b. next (a ∷ ps)))) ts p n y in
    let m = a.after in
    let b = m.after in
    record { ps = some_params a.q m.xs; b = b.at; rest = b.rest; good = (a.good, m.good); split = a.split ∙ ap (spell_param a.q) (m.split ∙ ap (spell_all spell_next m.xs) b.split); after = b.after }

-- ---- the parts of lists
-- a part that begins here
record AtPart (l : Loop) (K : Part l → ℕ → List Token → Type 0) (ts : List Token) : Type 0 where
  x : PartText l
  rest : List Token
  good : GoodPart l x
  split : ts ≡ spell_part l x rest
  after : K (part_tree l x) (depth_part l x) rest

clause_back : (names : List (List ℕ)) (next : ClauseTree → ℕ → Plan) (s : Side) (at : Place) (ts : List Token) (p : ProgramTree) (n : ℕ) → Takes (clause_plan names next s at) ts p n → AtPart (clause_loop names) (λ c d r. Takes (next c d) r p n) (keyword (side_word s) at ∷ ts)
clause_back names next s at ts p n x =
    let y = stated_back names 0 (λ f d. next (clause_at at s f) d) ts p n x in
    record { x = record { at = at; side = s; formula = y.f; c = y.c }; rest = y.rest; good = y.good; split = ap (λ l. keyword (side_word s) at ∷ l) y.split; after = y.after }

contract_back : (names : List (List ℕ)) (next : ContractTree → ℕ → Plan) (at : Place) (ts : List Token) (p : ProgramTree) (n : ℕ) → Takes (contract_plan names next at) ts p n → AtPart (contract_loop names) (λ c d r. Takes (next c d) r p n) (begins_annotation at ∷ ts)
contract_back names next at ts p n x =
    let e = x.after in
    record { x = record { o = at; clauses = x.xs; e = e.at }; rest = e.rest; good = x.good; split = ap (λ l. begins_annotation at ∷ l) (x.split ∙ ap (spell_all spell_clause x.xs) e.split); after = e.after }

predicate_back : (names : List (List ℕ)) (next : PredicateTree → ℕ → Plan) (at : Place) (ts : List Token) (p : ProgramTree) (n : ℕ) → Takes (predicate_plan names next at) ts p n → AtPart (predicate_loop names) (λ c d r. Takes (next c d) r p n) (keyword key.Predicate at ∷ ts)
predicate_back names next at ts p n x = record {
  x = record { at = at; n = x.at; name = x.name; a = a.at; params = ps.ps; b = ps.b; q = q.at; body = w.w; c = c.at };
  rest = c.rest;
  good = record { name = x.free; params = ps.good; body = w.good };
  split = ap (λ l. keyword key.Predicate at ∷ l) (x.split ∙ ap (λ l. name_token x.name x.at ∷ l) (a.split ∙ ap (λ l. symbol mark.OpenParen a.at ∷ l) (ps.split ∙ ap (λ l. spell_params ps.ps (symbol mark.CloseParen ps.b ∷ l)) (q.split ∙ ap (λ l. symbol mark.Assign q.at ∷ l) (w.split ∙ ap (spell w.w) c.split)))));
  after = c.after;
}
  where
    ends : List Param → ExprTree → ℕ → Plan
    ends ps e d = await 0 (sign_mark mark.Semicolon) (λ c. next (record { place = at; name = named_at x.at x.name; params = ps; body = e }) d)

    bodied : List Param → Plan
    bodied ps = await 0 (sign_mark mark.Assign) (λ q. expr names conjunct 0 (ends ps))

    a : AtMark (sign_mark mark.OpenParen) (λ a r. Takes (params_plan names bodied) r p n) x.rest
    a = x.after

    ps : AtParams names (λ ps r. Takes (bodied ps) r p n) a.rest
    ps = params_back names bodied a.rest p n a.after

    q : AtMark (sign_mark mark.Assign) (λ q r. Takes (expr names conjunct 0 (ends (params_trees ps.ps))) r p n) ps.rest
    q = ps.after

    w : AtWhole names conjunct (λ e d r. Takes (ends (params_trees ps.ps) e d) r p n) q.rest
    w = whole names conjunct 0 (ends (params_trees ps.ps)) q.rest p n q.after

    c : AtMark (sign_mark mark.Semicolon) (λ c r. Takes (next (record { place = at; name = named_at x.at x.name; params = params_trees ps.ps; body = tree_of w.w }) (depth w.w)) r p n) w.rest
    c = w.after

field_back : (names : List (List ℕ)) (next : Field → ℕ → Plan) (ts : List Token) (p : ProgramTree) (n : ℕ) → AtType names (λ t r. Takes (field_behind next t) r p n) ts → AtPart (field_loop names) (λ c d r. Takes (next c d) r p n) ts
field_back names next ts p n t =
    let a = t.after in
    let c = a.after in
    record { x = record { typed = t.t; n = a.at; name = a.name; c = c.at }; rest = c.rest; good = t.good; split = t.split ∙ ap (spell_type t.t) (a.split ∙ ap (λ l. name_token a.name a.at ∷ l) c.split); after = c.after }

note_part : (names : List (List ℕ)) (up : ℕ) (next : Part (note_loop names up) → ℕ → Plan) (ts : List Token) (p : ProgramTree) (n : ℕ) → AtNote names (λ x d r. Takes (next x d) r p n) ts → AtPart (note_loop names up) (λ x d r. Takes (next x d) r p n) ts
note_part names up next ts p n x = record { x = x.note; rest = x.rest; good = x.good; split = x.split; after = x.after }

note_enter_back : (names : List (List ℕ)) (up : ℕ) (next : Part (note_loop names up) → ℕ → Plan) (k : Keyword) (at : Place) (ts : List Token) (p : ProgramTree) (n : ℕ) → TakesNext (note_enter names up next k at) ts p n → AtPart (note_loop names up) (λ x d r. Takes (next x d) r p n) (keyword k at ∷ ts)
note_enter_back names up next key.Assert at ts p n x = note_part names up next (keyword key.Assert at ∷ ts) p n (assert_note_back names up next at (keyword key.Assert at ∷ ts) ts p n refl x)
note_enter_back names up next key.Fold at ts p n x = note_part names up next (keyword key.Fold at ∷ ts) p n (fold_note_back names up next at (keyword key.Fold at ∷ ts) ts p n refl x)
note_enter_back names up next key.Unfold at ts p n x = note_part names up next (keyword key.Unfold at ∷ ts) p n (unfold_note_back names up next at (keyword key.Unfold at ∷ ts) ts p n refl x)
note_enter_back names up next k at ts p n x = absurd x

clause_enter_back : (names : List (List ℕ)) (next : ClauseTree → ℕ → Plan) (k : Keyword) (at : Place) (ts : List Token) (p : ProgramTree) (n : ℕ) → TakesNext (clause_enter names next k at) ts p n → AtPart (clause_loop names) (λ x d r. Takes (next x d) r p n) (keyword k at ∷ ts)
clause_enter_back names next key.Requires at ts p n x = clause_back names next side.Requires at ts p n x
clause_enter_back names next key.Ensures at ts p n x = clause_back names next side.Ensures at ts p n x
clause_enter_back names next k at ts p n x = absurd x

use_back : (next : Library → ℕ → Plan) (at : Place) (ts : List Token) (p : ProgramTree) (n : ℕ) → Takes (use_plan next) ts p n → AtPart use_loop (λ x d r. Takes (next x d) r p n) (use_token at ∷ ts)
use_back next at ts p n x =
    let l = x.after in
    let b = l.after in
    record { x = record { at = at; a = x.at; n = l.at; library = l.library; b = b.at }; rest = b.rest; good = tt; split = ap (λ k. use_token at ∷ k) (x.split ∙ ap (λ k. symbol mark.Less x.at ∷ k) (l.split ∙ ap (λ k. name_token (library_name l.library) l.at ∷ k) b.split)); after = b.after }

param_next_back : (names : List (List ℕ)) (next : Param → ℕ → Plan) (at : Place) (ts : List Token) (p : ProgramTree) (n : ℕ) → Takes (param_plan names (λ q. next q 0)) ts p n → AtPart (param_loop names) (λ x d r. Takes (next x d) r p n) (symbol mark.Comma at ∷ ts)
param_next_back names next at ts p n x =
    let y = param_back names (λ q. next q 0) ts p n x in
    record { x = record { comma = at; param = y.q }; rest = y.rest; good = y.good; split = ap (λ l. symbol mark.Comma at ∷ l) y.split; after = y.after }

invariant_back : (names : List (List ℕ)) (up : ℕ) (next : Part (invariant_loop names up) → ℕ → Plan) (at : Place) (ts : List Token) (p : ProgramTree) (n : ℕ) → Takes (invariant_plan names up next at) ts p n → AtPart (invariant_loop names up) (λ x d r. Takes (next x d) r p n) (keyword key.LoopInvariant at ∷ ts)
invariant_back names up next at ts p n x =
    let y = stated_back names up (λ f d. next (record { place = at; formula = f }) d) ts p n x in
    record { x = record { at = at; formula = y.f; c = y.c }; rest = y.rest; good = y.good; split = ap (λ l. keyword key.LoopInvariant at ∷ l) y.split; after = y.after }

enter_at_back : (l : Loop) (next : Part l → ℕ → Plan) (f : Fixed) (at : Place) (ts : List Token) (p : ProgramTree) (n : ℕ) → TakesNext (enter_at l next f at) ts p n → AtPart l (λ x d r. Takes (next x d) r p n) (token (fixed f) at ∷ ts)
enter_at_back star_loop next (sign_mark mark.Star) at ts p n x = record { x = at; rest = ts; good = tt; split = refl; after = x }
enter_at_back (invariant_loop names up) next (word_mark key.LoopInvariant) at ts p n x = invariant_back names up next at ts p n x
enter_at_back (note_loop names up) next (word_mark k) at ts p n x = note_enter_back names up next k at ts p n x
enter_at_back (clause_loop names) next (word_mark k) at ts p n x = clause_enter_back names next k at ts p n x
enter_at_back (contract_loop names) next open_mark at ts p n x = contract_back names next at ts p n x
enter_at_back (predicate_loop names) next (word_mark key.Predicate) at ts p n x = predicate_back names next at ts p n x
enter_at_back (field_loop names) next f at ts p n x = field_back names next (token (fixed f) at ∷ ts) p n (type_step_back names 0 (field_behind next) (fixed f) at ts p n x)
enter_at_back (param_loop names) next (sign_mark mark.Comma) at ts p n x = param_next_back names next at ts p n x
enter_at_back use_loop next use_mark at ts p n x = use_back next at ts p n x
enter_at_back l next f at ts p n x = absurd x

enter_name_back : (l : Loop) (next : Part l → ℕ → Plan) (a : List ℕ) (at : Place) (ts : List Token) (p : ProgramTree) (n : ℕ) → TakesNext (enter_name l next a at) ts p n → AtPart l (λ x d r. Takes (next x d) r p n) (name_token a at ∷ ts)
enter_name_back (field_loop names) next a at ts p n x = field_back names next (name_token a at ∷ ts) p n (type_step_back names 0 (field_behind next) (name_what a) at ts p n x)
enter_name_back l next a at ts p n x = absurd x

enter_back : (l : Loop) (next : Part l → ℕ → Plan) (w : What) (at : Place) (ts : List Token) (p : ProgramTree) (n : ℕ) → TakesNext (enter l next w at) ts p n → AtPart l (λ x d r. Takes (next x d) r p n) (token w at ∷ ts)
enter_back l next (fixed f) at ts p n x = enter_at_back l next f at ts p n x
enter_back l next (name_what a) at ts p n x = enter_name_back l next a at ts p n x
enter_back l next w at ts p n x = absurd x

many_back : (l : Loop) (next : List (Part l) → ℕ → Plan) (t : Token) (ts : List Token) (p : ProgramTree) (n : ℕ) → Back (next [] 0) t ts p n → Back (many l next) t ts p n
many_back l next t ts p n ih x =
    elim (enter l (after_part l next) t.what t.place) as (λ s. enter l (after_part l next) t.what t.place ≡ s → TakesNext (or_step s (step (next [] 0) t)) ts p n → Takes (many l next) (t ∷ ts) p n) [
      | None ↦ λ i y. record { xs = []; rest = t ∷ ts; good = tt; split = refl; after = ih y }
      | Some q ↦ λ i y.
          let z = enter_back l (after_part l next) t.what t.place ts p n (subst (λ s. TakesNext s ts p n) (sym i) y) in
          let m = z.after in
          record { xs = z.x ∷ m.xs; rest = m.rest; good = (z.good, m.good); split = z.split ∙ ap (spell_part l z.x) m.split; after = m.after }
    ] refl x

-- ---- items
record AtItem (names : List (List ℕ)) (K : ItemTree → ℕ → List Token → Type 0) (ts : List Token) : Type 0 where
  i : ItemText
  rest : List Token
  good : GoodItem names i
  same : names_behind names i ≡ names
  split : ts ≡ spell_item i rest
  after : K (item_tree i) (depth_item i) rest

-- a function's head, behind its result
head_back : (names : List (List ℕ)) (next : ItemTree → ℕ → Plan) (r : ResultText) (ts rest : List Token) (p : ProgramTree) (n : ℕ) → GoodResult names r → ts ≡ spell_result r rest → Takes (head_plan names next (result_tree r)) rest p n → AtItem names (λ i d l. Takes (next i d) l p n) ts
head_back names next r ts rest p n g s x = by c.after
  where
    headed : List Param → Plan
    headed ps = behind_head names next (record { result = result_tree r; name = named_at x.at x.name; params = ps })

    a : AtMark (sign_mark mark.OpenParen) (λ a l. Takes (params_plan names headed) l p n) x.rest
    a = x.after

    ps : AtParams names (λ ps l. Takes (headed ps) l p n) a.rest
    ps = params_back names headed a.rest p n a.after

    h : HeadText
    h = record { gives_what = r; n = x.at; name = x.name; a = a.at; params = ps.ps; b = ps.b }

    good : GoodHead names h
    good = record { gives_what = g; name = x.free; params = ps.good }

    c : AtMany (contract_loop names) (λ cs dc l. Takes (peek 1 (sign_mark mark.OpenBrace) (λ o. lines names 1 (λ ss d e. next (function_item (head_tree h) cs ss e) (max dc (d + 1)))) (await 0 (sign_mark mark.Semicolon) (λ c. next (prototype_item (head_tree h) cs) dc))) l p n) ps.rest
    c = ps.after

    front : (l : List Token) → c.rest ≡ l → ts ≡ spell_head h (spell_all spell_contract c.xs l)
    front l e = s ∙ ap (spell_result r) (x.split ∙ ap (λ l. name_token x.name x.at ∷ l) (a.split ∙ ap (λ l. symbol mark.OpenParen a.at ∷ l) (ps.split ∙ ap (λ l. spell_params ps.ps (symbol mark.CloseParen ps.b ∷ l)) (c.split ∙ ap (spell_all spell_contract c.xs) e))))

    by : Takes (peek 1 (sign_mark mark.OpenBrace) (λ o. lines names 1 (λ ss d e. next (function_item (head_tree h) (map contract_tree c.xs) ss e) (max (depth_all depth_contract c.xs) (d + 1)))) (await 0 (sign_mark mark.Semicolon) (λ b. next (prototype_item (head_tree h) (map contract_tree c.xs)) (depth_all depth_contract c.xs)))) c.rest p n → AtItem names (λ i d l. Takes (next i d) l p n) ts
    by (inl o) =
        let l = o.after in
        record { i = defines_function h c.xs o.at l.ls l.e; rest = l.rest; good = (good, c.good, l.good); same = refl; split = front (symbol mark.OpenBrace o.at ∷ spell_lines l.ls (symbol mark.CloseBrace l.e ∷ l.rest)) (o.split ∙ ap (λ k. symbol mark.OpenBrace o.at ∷ k) l.split); after = l.after }
    by (inr (q, m)) = record { i = declares_function h c.xs m.at; rest = m.rest; good = (good, c.good); same = refl; split = front (symbol mark.Semicolon m.at ∷ m.rest) m.split; after = m.after }

typed_head_back : (names : List (List ℕ)) (next : ItemTree → ℕ → Plan) (ts : List Token) (p : ProgramTree) (n : ℕ) → AtType names (λ t r. Takes (typed_head names next t) r p n) ts → AtItem names (λ i d l. Takes (next i d) l p n) ts
typed_head_back names next ts p n t = head_back names next (gives t.t) ts t.rest p n t.good t.split t.after

struct_item_back : (names : List (List ℕ)) (next : ItemTree → ℕ → Plan) (at : Place) (ts : List Token) (p : ProgramTree) (n : ℕ) → Takes (struct_plan names next at) ts p n → AtItem names (λ i d l. Takes (next i d) l p n) (keyword key.Struct at ∷ ts)
struct_item_back names next at ts p n x = by x.after
  where
    front : (l : List Token) → x.rest ≡ l → ◌≡◌ {A = List Token} (keyword key.Struct at ∷ ts) (keyword key.Struct at ∷ name_token x.name x.at ∷ l)
    front l e = ap (λ k. keyword key.Struct at ∷ k) (x.split ∙ ap (λ k. name_token x.name x.at ∷ k) e)

    by : Takes (peek 0 (sign_mark mark.Semicolon) (λ c. next (struct_name at (named_at x.at x.name)) 0) (peek 0 (sign_mark mark.OpenBrace) (λ a. fields_plan names next at (named_at x.at x.name)) (stars at (base.Struct (named_at x.at x.name)) (typed_head names next)))) x.rest p n → AtItem names (λ i d l. Takes (next i d) l p n) (keyword key.Struct at ∷ ts)
    by (inl m) = record { i = names_struct at x.at x.name m.at; rest = m.rest; good = tt; same = refl; split = front (symbol mark.Semicolon m.at ∷ m.rest) m.split; after = m.after }
    by (inr (q, inl a)) =
        let m = a.after in
        let b = m.after in
        let c = b.after in
        record { i = defines_struct at x.at x.name a.at m.xs b.at c.at; rest = c.rest; good = m.good; same = refl; split = front (symbol mark.OpenBrace a.at ∷ spell_all spell_field m.xs (symbol mark.CloseBrace b.at ∷ symbol mark.Semicolon c.at ∷ c.rest)) (a.split ∙ ap (λ k. symbol mark.OpenBrace a.at ∷ k) (m.split ∙ ap (spell_all spell_field m.xs) (b.split ∙ ap (λ k. symbol mark.CloseBrace b.at ∷ k) c.split))); after = c.after }
    by (inr (q, inr (u, y))) = typed_head_back names next (keyword key.Struct at ∷ ts) p n (stars_back names (struct_word at x.at x.name) (typed_head names next) (keyword key.Struct at ∷ ts) x.rest p n tt (front x.rest refl) y)

-- an item before others
item_back : (names : List (List ℕ)) (next : List ItemTree → ℕ → Plan) (ts : List Token) (p : ProgramTree) (n : ℕ) → AtItem names (λ i d l. Takes (after_item names next i d) l p n) ts → Takes (items names next) ts p n
item_back names next ts p n x =
    let y = x.after in
    record { is = x.i ∷ y.is; last = y.last; rest = y.rest; good = (x.good, subst (λ k. GoodItems k y.is) (sym x.same) y.good); split = x.split ∙ ap (spell_item x.i) y.split; after = y.after }

typedef_back : (names : List (List ℕ)) (next : List ItemTree → ℕ → Plan) (at : Place) (ts : List Token) (p : ProgramTree) (n : ℕ) → Takes (typedef_plan names next at) ts p n → Takes (items names next) (keyword key.Typedef at ∷ ts) p n
typedef_back names next at ts p n x =
    let t = typed_back names (λ t. name names (λ a. await 0 (sign_mark mark.Semicolon) (λ c. after_item (a.name ∷ names) next (typedef_item at t a) 0))) ts p n x in
    let a = t.after in
    let c = a.after in
    let y = c.after in
    record { is = defines_type at t.t a.at a.name c.at ∷ y.is; last = y.last; rest = y.rest; good = ((t.good, a.free), y.good); split = ap (λ l. keyword key.Typedef at ∷ l) (t.split ∙ ap (spell_type t.t) (a.split ∙ ap (λ l. name_token a.name a.at ∷ l) (c.split ∙ ap (λ l. symbol mark.Semicolon c.at ∷ l) y.split))); after = y.after }

predicates_back : (names : List (List ℕ)) (next : ItemTree → ℕ → Plan) (at : Place) (ts : List Token) (p : ProgramTree) (n : ℕ) → Takes (predicates_plan names next at) ts p n → AtItem names (λ i d l. Takes (next i d) l p n) (begins_annotation at ∷ ts)
predicates_back names next at ts p n x =
    let e = x.after in
    record { i = defines_predicates at x.xs e.at; rest = e.rest; good = x.good; same = refl; split = ap (λ l. begins_annotation at ∷ l) (x.split ∙ ap (spell_all spell_predicate x.xs) e.split); after = e.after }

items_back : (names : List (List ℕ)) (next : List ItemTree → ℕ → Plan) (w : What) (at : Place) (ts : List Token) (p : ProgramTree) (n : ℕ) → TakesNext (items_step names next w at) ts p n → Takes (items names next) (token w at ∷ ts) p n
items_back names next (fixed end_mark) at ts p n x = record { is = []; last = at; rest = ts; good = tt; split = refl; after = x }
items_back names next (fixed open_mark) at ts p n x = item_back names next (begins_annotation at ∷ ts) p n (predicates_back names (after_item names next) at ts p n x)
items_back names next (fixed (word_mark key.Struct)) at ts p n x = item_back names next (keyword key.Struct at ∷ ts) p n (struct_item_back names (after_item names next) at ts p n x)
items_back names next (fixed (word_mark key.Typedef)) at ts p n x = typedef_back names next at ts p n x
items_back names next (fixed (word_mark key.Void)) at ts p n x = item_back names next (keyword key.Void at ∷ ts) p n (head_back names (after_item names next) (void_word at) (keyword key.Void at ∷ ts) ts p n tt refl x)
items_back names next w at ts p n x = item_back names next (token w at ∷ ts) p n (typed_head_back names (after_item names next) (token w at ∷ ts) p n (type_step_back names 0 (typed_head names (after_item names next)) w at ts p n x))

-- ---- single tokens
await_back : (reach : ℕ) (f : Fixed) (next : Place → Plan) (t : Token) (ts : List Token) (p : ProgramTree) (n : ℕ) → Back (await reach f next) t ts p n
await_back reach f next t ts p n x =
    elim (is f t.what) as (λ b. is f t.what ≡ b → TakesNext (cond b (Some (reach, next t.place)) None) ts p n → Takes (await reach f next) (t ∷ ts) p n) [
      | true ↦ λ i y. record { at = t.place; rest = ts; split = is_token f t ts i; after = y }
      | false ↦ λ i y. absurd y
    ] refl x

name_back : (names : List (List ℕ)) (next : Named → Plan) (w : What) (at : Place) (ts : List Token) (p : ProgramTree) (n : ℕ) → TakesNext (name_step names next w at) ts p n → Takes (name names next) (token w at ∷ ts) p n
name_back names next (name_what a) at ts p n x =
    let y = if_taken (not (is_among names a)) (Some (0, next (named_at at a))) ts p n x in
    record { at = at; name = a; rest = ts; free = not_true (is_among names a) y.0; split = refl; after = y.1 }
name_back names next w at ts p n x = absurd x

alias_back : (reach : ℕ) (names : List (List ℕ)) (these : Place → List ℕ → Plan) (others : Plan) (w : What) (at : Place) (ts : List Token) (p : ProgramTree) (n : ℕ) → Back others (token w at) ts p n → TakesNext (alias_step reach names these (step others (token w at)) w at) ts p n → Takes (alias reach names these others) (token w at ∷ ts) p n
alias_back reach names these others (name_what a) at ts p n ih x =
    elim (is_among names a) as (λ b. is_among names a ≡ b → TakesNext (cond b (Some (reach, these at a)) (step others (token (name_what a) at))) ts p n → Takes (alias reach names these others) (name_token a at ∷ ts) p n) [
      | true ↦ λ i y. inl (record { at = at; name = a; rest = ts; among = i; split = refl; after = y })
      | false ↦ λ i y. inr (ih y)
    ] refl x
alias_back reach names these others w at ts p n ih x = inr (ih x)

text_back : (next : Text → Plan) (w : What) (at : Place) (ts : List Token) (p : ProgramTree) (n : ℕ) → TakesNext (text_step next None w at) ts p n → Takes (text next) (token w at ∷ ts) p n
text_back next (text_what b) at ts p n x = record { at = at; bytes = b; rest = ts; split = refl; after = x }
text_back next w at ts p n x = absurd x

peek_text_back : (these : Text → Plan) (others : Plan) (w : What) (at : Place) (ts : List Token) (p : ProgramTree) (n : ℕ) → Back others (token w at) ts p n → TakesNext (text_step these (step others (token w at)) w at) ts p n → Takes (peek_text these others) (token w at ∷ ts) p n
peek_text_back these others (text_what b) at ts p n ih x = inl (record { at = at; bytes = b; rest = ts; split = refl; after = x })
peek_text_back these others w at ts p n ih x = inr (ih x)

library_back : (next : Library → Plan) (w : What) (at : Place) (ts : List Token) (p : ProgramTree) (n : ℕ) → TakesNext (library_step next w) ts p n → Takes (library_name_of next) (token w at ∷ ts) p n
library_back next (name_what a) at ts p n x =
    elim (library_of a) as (λ o. library_of a ≡ o → TakesNext (library_named next o) ts p n → Takes (library_name_of next) (name_token a at ∷ ts) p n) [
      | None ↦ λ i y. absurd y
      | Some l ↦ λ i y. record { at = at; library = l; rest = ts; split = ap (λ k. name_token k at ∷ ts) (library_is a l i); after = y }
    ] refl x
library_back next w at ts p n x = absurd x

-- ---- each plan
pub backward : (plan : Plan) (t : Token) (ts : List Token) (p : ProgramTree) (n : ℕ) → Back plan t ts p n
backward (await reach f next) t ts p n x = await_back reach f next t ts p n x
backward (peek reach f these others) t ts p n x = peek_back reach f these others t ts p n (λ y. backward others t ts p n y) x
backward (name names next) t ts p n x = name_back names next t.what t.place ts p n x
backward (alias reach names these others) t ts p n x = alias_back reach names these others t.what t.place ts p n (λ y. backward others t ts p n y) x
backward (text next) t ts p n x = text_back next t.what t.place ts p n x
backward (peek_text these others) t ts p n x = peek_text_back these others t.what t.place ts p n (λ y. backward others t ts p n y) x
backward (library_name_of next) t ts p n x = library_back next t.what t.place ts p n x
backward (operand names m up next) t ts p n x = operand_back names m up next t.what t.place ts p n x
backward (arrows up e d next) t ts p n x = arrows_back up e d next t ts p n (λ y. backward (next e d) t ts p n y) x
backward (acc_arrows up e d q f next) t ts p n x = acc_arrows_back up e d q f next t.what t.place ts p n x
backward (ops r names m up e d next) t ts p n x = ops_back r names m up e d next t ts p n (λ y. backward (next e d) t ts p n y) x
backward (quest names m up e d next) t ts p n x = quest_back names m up e d next t ts p n (λ y. backward (next e d) t ts p n y) x
backward (more_args names m up next) t ts p n x = more_args_back names m up next t.what t.place ts p n x
backward (simple_end names up e d next) t ts p n x = simple_end_back names up e d next t ts p n (λ y. backward (next (plain e) d) t ts p n y) x
backward (simple names may up next) t ts p n x = simple_back names may up next t.what t.place ts p n x
backward (body names up next) t ts p n x = line_back names false up next t.what t.place ts p n x
backward (loop_body names up next) t ts p n x = loop_body_back names up next t.what t.place ts p n x
backward (lines names up next) t ts p n x = lines_back names up next t.what t.place ts p n x
backward (many l next) t ts p n x = many_back l next t ts p n (λ y. backward (next [] 0) t ts p n y) x
backward (items names next) t ts p n x = items_back names next t.what t.place ts p n x
backward (finished q d) t ts p n x = absurd x
