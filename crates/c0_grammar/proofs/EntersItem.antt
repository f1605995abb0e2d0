-- What the grammar spells for an item, a plan reads, up to the rest.
use Rattle.std.proofs.Common.{◌≡◌, ℕ, ◌+◌, ◌≤◌, max, false, List, [], ◌∷◌, length, map, refl, ap, ◌∙◌, arith}
use Rattle.gc0_base.specs.declared.place.Place.{Place}
use Rattle.c0_lex.specs.declared.token.Symbol.TheVariants as mark
use Rattle.parsed_tree.specs.declared.expressions.Named.{Named}
use Rattle.parsed_tree.specs.declared.expressions.Base.TheVariants as base
use Rattle.parsed_tree.specs.declared.expressions.TypeName.{TypeName}
use Rattle.parsed_tree.specs.declared.items.Field.{Field}
use Rattle.parsed_tree.specs.declared.items.Param.{Param}
use Rattle.parsed_tree.specs.declared.items.ResultType.TheVariants as result
use Rattle.parsed_tree.specs.declared.items.Head.{Head}
use Rattle.parsed_tree.specs.declared.items.Side.{Side}
use Rattle.parsed_tree.specs.declared.items.Side.TheVariants as side
use Rattle.parsed_tree.specs.Tree.{ExprTree, ClauseTree, ContractTree, PredicateTree, ItemTree, struct_name, struct_item, typedef_item, prototype_item, function_item, predicates_item}
use Rattle.c0_grammar.specs.Tokens.{sign_mark, close_mark, What, Token, token, keyword, symbol, name_token, ends_annotation, end_token}
use Rattle.c0_grammar.specs.Lists.{spell_all, depth_all}
use Rattle.c0_grammar.specs.Written.{BaseText, int_word, bool_word, struct_word, alias_word, spell_base, spell_star, spell_type, named_at, base_place, base_tree, type_tree, spell, spell_formula}
use Rattle.c0_grammar.specs.Allowed.{conjunct, GoodBase}
use Rattle.c0_grammar.specs.Texts.{spell_lines, side_word, spell_clause, spell_contract, contract_tree, depth_contract, ParamText, spell_param, param_tree, NextParam, spell_next, next_tree, Params, no_params, some_params, spell_params, params_trees, ResultText, void_word, gives, spell_result, result_tree, HeadText, spell_head, head_tree, spell_predicate, predicate_tree, depth_predicate, FieldText, spell_field, field_tree, ItemText, names_struct, defines_struct, defines_type, declares_function, defines_function, defines_predicates, spell_item, item_tree, depth_item}
use Rattle.c0_grammar.specs.Grammar.{GoodParam, GoodParams, GoodResult, GoodHead, GoodItem, names_behind, GoodItems}
use Rattle.c0_grammar.specs.Plan.{is, clause_loop, contract_loop, predicate_loop, field_loop, param_loop, Plan, peek, name, lines, many, items, expect, expect_sign, peek_sign, stars, expr, param_plan, params_plan, clause_at, clause_plan, contract_plan, predicate_plan, field_behind, behind_head, head_plan, typed_head, fields_plan, struct_plan, after_item, typedef_plan, predicates_plan, enter, after_part, or_step, node, step_if, step, go, run}
use Rattle.c0_grammar.proofs.Takes.{depth_part}
use Rattle.c0_grammar.proofs.EntersTokens.{first, differs, pass_on, eat_on, take, take_on, skip, eat_name, eat_any_name, ends_semicolon}
use Rattle.c0_grammar.proofs.EntersType.{stars_enter, base_first, base_more, behind_base, base_split, type_at, base_enters, typed_enters}
use Rattle.c0_grammar.proofs.EntersExpr.{expr_enters}
use Rattle.c0_grammar.proofs.EntersNote.{PartEnters, list_enters, stated_enters}
use Rattle.c0_grammar.proofs.EntersSimple.{begins_simple, declared_begins}
use Rattle.c0_grammar.proofs.EntersStmt.{lines_enter}

-- ---- parameters
param_enters : (limit : ℕ) (names : List (List ℕ)) (next : Param → Plan) (p : ParamText) (rest : List Token) → GoodParam names p → run limit (param_plan names next) (spell_param p rest) ≡ run limit (next (param_tree p)) rest
param_enters limit names next p rest g =
    typed_enters limit names (λ t. name names (λ n. next (record { typed = t; name = n }))) p.typed (name_token p.name p.n ∷ rest) g.0 (λ k q. refl)
    ∙ eat_name limit names (λ n. next (record { typed = type_tree p.typed; name = n })) p.name p.n rest g.1

param_part : (names : List (List ℕ)) → PartEnters (param_loop names)
param_part names limit next x rest g h =
    pass_on limit (param_plan names (λ p. after_part (param_loop names) next p 0)) x.comma (spell_param x.param rest)
    ∙ param_enters limit names (λ p. after_part (param_loop names) next p 0) x.param rest g

no_depth : (names : List (List ℕ)) (limit : ℕ) (xs : List NextParam) → 0 + depth_all (depth_part (param_loop names)) xs ≤ limit
no_depth names limit [] = omega arith
no_depth names limit (x ∷ xs) = omega (arith, no_depth names limit xs)

params_enter : (limit : ℕ) (names : List (List ℕ)) (next : List Param → Plan) (ps : Params) (b : Place) (rest : List Token) → GoodParams names ps → run limit (params_plan names next) (spell_params ps (symbol mark.CloseParen b ∷ rest)) ≡ run limit (next (params_trees ps)) rest
params_enter limit names next no_params b rest g = take_on limit (sign_mark mark.CloseParen) (λ q. next []) (param_plan names (λ p. many (param_loop names) (λ ps d. expect_sign mark.CloseParen (λ q. next (p ∷ ps))))) b rest
params_enter limit names next (some_params p ps) b rest g =
    let made : Param → Plan = λ x. many (param_loop names) (λ xs d. expect_sign mark.CloseParen (λ q. next (x ∷ xs))) in
    let ts = spell_all spell_next ps (symbol mark.CloseParen b ∷ rest) in
    skip limit 0 (sign_mark mark.CloseParen) (λ q. next []) (param_plan names made) (spell_param p ts) (differs (begins_simple names) (sign_mark mark.CloseParen) (first (spell_param p ts)) refl (declared_begins names p.typed (name_token p.name p.n ∷ ts) g.0.0))
    ∙ param_enters limit names made p ts g.0
    ∙ list_enters (param_loop names) (param_part names) limit (λ xs d. expect_sign mark.CloseParen (λ q. next (param_tree p ∷ xs))) ps (symbol mark.CloseParen b ∷ rest) g.1 (no_depth names limit ps) (λ n q. refl)
    ∙ eat_on limit (sign_mark mark.CloseParen) (λ q. next (param_tree p ∷ map next_tree ps)) b rest

-- ---- the parts of contracts, of annotations with predicates, and of structs
clause_part : (names : List (List ℕ)) → PartEnters (clause_loop names)
clause_part names limit next x rest g h = begun x.side ∙ stated_enters limit names 0 (λ f d. after_part (clause_loop names) next (clause_at x.at x.side f) d) x.formula x.c rest g h
  where
    begun : (s : Side) → run limit (many (clause_loop names) next) (keyword (side_word s) x.at ∷ spell_formula x.formula (symbol mark.Semicolon x.c ∷ rest)) ≡ run limit (clause_plan names (after_part (clause_loop names) next) s x.at) (spell_formula x.formula (symbol mark.Semicolon x.c ∷ rest))
    begun side.Requires = pass_on limit (clause_plan names (after_part (clause_loop names) next) side.Requires x.at) x.at (spell_formula x.formula (symbol mark.Semicolon x.c ∷ rest))
    begun side.Ensures = pass_on limit (clause_plan names (after_part (clause_loop names) next) side.Ensures x.at) x.at (spell_formula x.formula (symbol mark.Semicolon x.c ∷ rest))

contract_part : (names : List (List ℕ)) → PartEnters (contract_loop names)
contract_part names limit next x rest g h =
    let made : List ClauseTree → ℕ → Plan = λ cs d. after_part (contract_loop names) next (record { place = x.o; clauses = cs }) d in
    pass_on limit (contract_plan names (after_part (contract_loop names) next) x.o) x.o (spell_all spell_clause x.clauses (ends_annotation x.e ∷ rest))
    ∙ list_enters (clause_loop names) (clause_part names) limit (λ cs d. expect close_mark (λ q. made cs d)) x.clauses (ends_annotation x.e ∷ rest) g h (λ n q. refl)
    ∙ eat_on limit close_mark (λ q. after_part (contract_loop names) next (contract_tree x) (depth_contract x)) x.e rest

predicate_part : (names : List (List ℕ)) → PartEnters (predicate_loop names)
predicate_part names limit next x rest g h =
    let after : PredicateTree → ℕ → Plan = after_part (predicate_loop names) next in
    let done : Named → List Param → ExprTree → ℕ → Plan = λ n ps e d. expect_sign mark.Semicolon (λ c. after (record { place = x.at; name = n; params = ps; body = e }) d) in
    let given : Named → List Param → Plan = λ n ps. expect_sign mark.Assign (λ q. expr names conjunct 0 (done n ps)) in
    let inside = spell x.body (symbol mark.Semicolon x.c ∷ rest) in
    let behind = spell_params x.params (symbol mark.CloseParen x.b ∷ symbol mark.Assign x.q ∷ inside) in
    pass_on limit (predicate_plan names after x.at) x.at (name_token x.name x.n ∷ symbol mark.OpenParen x.a ∷ behind)
    ∙ eat_name limit names (λ n. expect_sign mark.OpenParen (λ a. params_plan names (given n))) x.name x.n (symbol mark.OpenParen x.a ∷ behind) g.name
    ∙ eat_on limit (sign_mark mark.OpenParen) (λ a. params_plan names (given (named_at x.n x.name))) x.a behind
    ∙ params_enter limit names (given (named_at x.n x.name)) x.params x.b (symbol mark.Assign x.q ∷ inside) g.params
    ∙ eat_on limit (sign_mark mark.Assign) (λ q. expr names conjunct 0 (done (named_at x.n x.name) (params_trees x.params))) x.q inside
    ∙ expr_enters limit names conjunct 0 (done (named_at x.n x.name) (params_trees x.params)) x.body (symbol mark.Semicolon x.c ∷ rest) g.body h ends_semicolon
    ∙ eat_on limit (sign_mark mark.Semicolon) (λ c. after (predicate_tree x) (depth_predicate x)) x.c rest

field_enter : (names : List (List ℕ)) (next : Field → ℕ → Plan) (b : BaseText) → GoodBase names b → enter (field_loop names) next (base_first b) (base_place b) ≡ node 0 (behind_base b (field_behind next))
field_enter names next (int_word at) g = refl
field_enter names next (bool_word at) g = refl
field_enter names next (struct_word at n v) g = refl
field_enter names next (alias_word at v) g = type_at names 0 (field_behind next) (alias_word at v) g

field_part : (names : List (List ℕ)) → PartEnters (field_loop names)
field_part names limit next x rest g h =
    let after : Field → ℕ → Plan = after_part (field_loop names) next in
    let ts = name_token x.name x.n ∷ symbol mark.Semicolon x.c ∷ rest in
    let w : What = base_first x.typed.base in
    let at : Place = base_place x.typed.base in
    let more = base_more x.typed.base (spell_all spell_star x.typed.stars ts) in
    ap (run limit (many (field_loop names) next)) (base_split x.typed.base (spell_all spell_star x.typed.stars ts))
    ∙ ap (λ s. go limit (or_step s (step (next [] 0) (token w at))) (λ q. run limit q more) at) (field_enter names after x.typed.base g)
    ∙ pass_on limit (behind_base x.typed.base (field_behind after)) at more
    ∙ base_enters limit (field_behind after) x.typed ts (λ n q. refl)
    ∙ eat_any_name limit (λ n. expect_sign mark.Semicolon (λ c. after (record { typed = type_tree x.typed; name = n }) 0)) x.name x.n (symbol mark.Semicolon x.c ∷ rest)
    ∙ eat_on limit (sign_mark mark.Semicolon) (λ c. after (field_tree x) 0) x.c rest

field_depth : (names : List (List ℕ)) (limit : ℕ) (xs : List FieldText) → 0 + depth_all (depth_part (field_loop names)) xs ≤ limit
field_depth names limit [] = omega arith
field_depth names limit (x ∷ xs) = omega (arith, field_depth names limit xs)

-- ---- heads
-- at the front of an item: the result of a function, and what is behind it
result_enters : (limit : ℕ) (names : List (List ℕ)) (next : List ItemTree → ℕ → Plan) (r : ResultText) (v : List ℕ) (n : Place) (rest : List Token) → GoodResult names r → run limit (items names next) (spell_result r (name_token v n ∷ rest)) ≡ run limit (head_plan names (after_item names next) (result_tree r)) (name_token v n ∷ rest)
result_enters limit names next (void_word at) v n rest g = pass_on limit (head_plan names (after_item names next) (result.Void at)) at (name_token v n ∷ rest)
result_enters limit names next (gives t) v n rest g = by t.base g
  where
    no_semicolon : (ps : List Place) → is (sign_mark mark.Semicolon) (first (spell_all spell_star ps (name_token v n ∷ rest))) ≡ false
    no_semicolon [] = refl
    no_semicolon (p ∷ ps) = refl

    no_brace : (ps : List Place) → is (sign_mark mark.OpenBrace) (first (spell_all spell_star ps (name_token v n ∷ rest))) ≡ false
    no_brace [] = refl
    no_brace (p ∷ ps) = refl

    by : (b : BaseText) → GoodBase names b → run limit (items names next) (spell_base b (spell_all spell_star t.stars (name_token v n ∷ rest))) ≡ run limit (typed_head names (after_item names next) (record { place = base_place b; base = base_tree b; stars = length t.stars })) (name_token v n ∷ rest)
    by (int_word at) i =
        pass_on limit (stars at base.Int (typed_head names (after_item names next))) at (spell_all spell_star t.stars (name_token v n ∷ rest))
        ∙ stars_enter limit at base.Int (typed_head names (after_item names next)) t.stars (name_token v n ∷ rest) (λ k q. refl)
    by (bool_word at) i =
        pass_on limit (stars at base.Bool (typed_head names (after_item names next))) at (spell_all spell_star t.stars (name_token v n ∷ rest))
        ∙ stars_enter limit at base.Bool (typed_head names (after_item names next)) t.stars (name_token v n ∷ rest) (λ k q. refl)
    by (struct_word at m s) i =
        let stars_plan : Plan = stars at (base.Struct (named_at m s)) (typed_head names (after_item names next)) in
        let brace_plan : Plan = peek_sign mark.OpenBrace (λ a. fields_plan names (after_item names next) at (named_at m s)) stars_plan in
        pass_on limit (struct_plan names (after_item names next) at) at (name_token s m ∷ spell_all spell_star t.stars (name_token v n ∷ rest))
        ∙ eat_any_name limit (λ k. peek_sign mark.Semicolon (λ c. after_item names next (struct_name at k) 0) (peek_sign mark.OpenBrace (λ a. fields_plan names (after_item names next) at k) (stars at (base.Struct k) (typed_head names (after_item names next))))) s m (spell_all spell_star t.stars (name_token v n ∷ rest))
        ∙ skip limit 0 (sign_mark mark.Semicolon) (λ c. after_item names next (struct_name at (named_at m s)) 0) brace_plan (spell_all spell_star t.stars (name_token v n ∷ rest)) (no_semicolon t.stars)
        ∙ skip limit 0 (sign_mark mark.OpenBrace) (λ a. fields_plan names (after_item names next) at (named_at m s)) stars_plan (spell_all spell_star t.stars (name_token v n ∷ rest)) (no_brace t.stars)
        ∙ stars_enter limit at (base.Struct (named_at m s)) (typed_head names (after_item names next)) t.stars (name_token v n ∷ rest) (λ k q. refl)
    by (alias_word at s) i =
        ap (λ b. go limit (step_if b (node 0 (stars at (base.Alias s) (typed_head names (after_item names next))))) (λ q. run limit q (spell_all spell_star t.stars (name_token v n ∷ rest))) at) i
        ∙ pass_on limit (stars at (base.Alias s) (typed_head names (after_item names next))) at (spell_all spell_star t.stars (name_token v n ∷ rest))
        ∙ stars_enter limit at (base.Alias s) (typed_head names (after_item names next)) t.stars (name_token v n ∷ rest) (λ k q. refl)

head_enters : (limit : ℕ) (names : List (List ℕ)) (next : List ItemTree → ℕ → Plan) (h : HeadText) (rest : List Token) → GoodHead names h → run limit (items names next) (spell_head h rest) ≡ run limit (behind_head names (after_item names next) (head_tree h)) rest
head_enters limit names next h rest g =
    let made : Named → List Param → Head = λ n ps. record { result = result_tree h.gives_what; name = n; params = ps } in
    let given : Named → Plan = λ n. params_plan names (λ ps. behind_head names (after_item names next) (made n ps)) in
    let inside = spell_params h.params (symbol mark.CloseParen h.b ∷ rest) in
    result_enters limit names next h.gives_what h.name h.n (symbol mark.OpenParen h.a ∷ inside) g.gives_what
    ∙ eat_name limit names (λ n. expect_sign mark.OpenParen (λ a. given n)) h.name h.n (symbol mark.OpenParen h.a ∷ inside) g.name
    ∙ eat_on limit (sign_mark mark.OpenParen) (λ a. given (named_at h.n h.name)) h.a inside
    ∙ params_enter limit names (λ ps. behind_head names (after_item names next) (made (named_at h.n h.name) ps)) h.params h.b rest g.params

-- ---- items
-- one item, and the names of typedefs behind it
item_enters : (limit : ℕ) (names : List (List ℕ)) (next : List ItemTree → ℕ → Plan) (i : ItemText) (rest : List Token) → GoodItem names i → depth_item i ≤ limit → run limit (items names next) (spell_item i rest) ≡ run limit (after_item (names_behind names i) next (item_tree i) (depth_item i)) rest
item_enters limit names next (names_struct at n v c) rest g h =
    let after : ItemTree → ℕ → Plan = after_item names next in
    let others : Named → Plan = λ k. peek_sign mark.OpenBrace (λ a. fields_plan names after at k) (stars at (base.Struct k) (typed_head names after)) in
    pass_on limit (struct_plan names after at) at (name_token v n ∷ symbol mark.Semicolon c ∷ rest)
    ∙ eat_any_name limit (λ k. peek_sign mark.Semicolon (λ q. after (struct_name at k) 0) (others k)) v n (symbol mark.Semicolon c ∷ rest)
    ∙ take_on limit (sign_mark mark.Semicolon) (λ q. after (struct_name at (named_at n v)) 0) (others (named_at n v)) c rest
item_enters limit names next (defines_struct at n v a fs b c) rest g h =
    let after : ItemTree → ℕ → Plan = after_item names next in
    let head : Named → Plan = λ k. stars at (base.Struct k) (typed_head names after) in
    let others : Named → Plan = λ k. peek_sign mark.OpenBrace (λ p. fields_plan names after at k) (head k) in
    let closed : List Field → Plan = λ xs. expect_sign mark.Semicolon (λ q. after (struct_item at (named_at n v) xs) 0) in
    let ts = spell_all spell_field fs (symbol mark.CloseBrace b ∷ symbol mark.Semicolon c ∷ rest) in
    pass_on limit (struct_plan names after at) at (name_token v n ∷ symbol mark.OpenBrace a ∷ ts)
    ∙ eat_any_name limit (λ k. peek_sign mark.Semicolon (λ q. after (struct_name at k) 0) (others k)) v n (symbol mark.OpenBrace a ∷ ts)
    ∙ skip limit 0 (sign_mark mark.Semicolon) (λ q. after (struct_name at (named_at n v)) 0) (others (named_at n v)) (symbol mark.OpenBrace a ∷ ts) refl
    ∙ take_on limit (sign_mark mark.OpenBrace) (λ p. fields_plan names after at (named_at n v)) (head (named_at n v)) a ts
    ∙ list_enters (field_loop names) (field_part names) limit (λ xs d. expect_sign mark.CloseBrace (λ q. closed xs)) fs (symbol mark.CloseBrace b ∷ symbol mark.Semicolon c ∷ rest) g (field_depth names limit fs) (λ k q. refl)
    ∙ eat_on limit (sign_mark mark.CloseBrace) (λ q. closed (map field_tree fs)) b (symbol mark.Semicolon c ∷ rest)
    ∙ eat_on limit (sign_mark mark.Semicolon) (λ q. after (struct_item at (named_at n v) (map field_tree fs)) 0) c rest
item_enters limit names next (defines_type at t n v c) rest g h =
    let done : TypeName → Named → Plan = λ x k. expect_sign mark.Semicolon (λ q. after_item (k.name ∷ names) next (typedef_item at x k) 0) in
    let ts = name_token v n ∷ symbol mark.Semicolon c ∷ rest in
    pass_on limit (typedef_plan names next at) at (spell_type t ts)
    ∙ typed_enters limit names (λ x. name names (done x)) t ts g.0 (λ k q. refl)
    ∙ eat_name limit names (done (type_tree t)) v n (symbol mark.Semicolon c ∷ rest) g.1
    ∙ eat_on limit (sign_mark mark.Semicolon) (λ q. after_item (v ∷ names) next (typedef_item at (type_tree t) (named_at n v)) 0) c rest
item_enters limit names next (declares_function f cs c) rest g h =
    let after : ItemTree → ℕ → Plan = after_item names next in
    let defined : List ContractTree → ℕ → Place → Plan = λ xs dc o. lines names 1 (λ ss d e. after (function_item (head_tree f) xs ss e) (max dc (d + 1))) in
    let declared : List ContractTree → ℕ → Plan = λ xs dc. expect_sign mark.Semicolon (λ q. after (prototype_item (head_tree f) xs) dc) in
    let ts = symbol mark.Semicolon c ∷ rest in
    head_enters limit names next f (spell_all spell_contract cs ts) g.0
    ∙ list_enters (contract_loop names) (contract_part names) limit (λ xs dc. peek 1 (sign_mark mark.OpenBrace) (defined xs dc) (declared xs dc)) cs ts g.1 (omega (arith, h)) (λ k q. refl)
    ∙ skip limit 1 (sign_mark mark.OpenBrace) (defined (map contract_tree cs) (depth_all depth_contract cs)) (declared (map contract_tree cs) (depth_all depth_contract cs)) ts refl
    ∙ eat_on limit (sign_mark mark.Semicolon) (λ q. after (prototype_item (head_tree f) (map contract_tree cs)) (depth_all depth_contract cs)) c rest
item_enters limit names next (defines_function f cs a ls b) rest g h =
    let after : ItemTree → ℕ → Plan = after_item names next in
    let defined : List ContractTree → ℕ → Place → Plan = λ xs dc o. lines names 1 (λ ss d e. after (function_item (head_tree f) xs ss e) (max dc (d + 1))) in
    let declared : List ContractTree → ℕ → Plan = λ xs dc. expect_sign mark.Semicolon (λ q. after (prototype_item (head_tree f) xs) dc) in
    let inside = spell_lines ls (symbol mark.CloseBrace b ∷ rest) in
    head_enters limit names next f (spell_all spell_contract cs (symbol mark.OpenBrace a ∷ inside)) g.0
    ∙ list_enters (contract_loop names) (contract_part names) limit (λ xs dc. peek 1 (sign_mark mark.OpenBrace) (defined xs dc) (declared xs dc)) cs (symbol mark.OpenBrace a ∷ inside) g.1 (omega (arith, h)) (λ k q. refl)
    ∙ take limit 1 (sign_mark mark.OpenBrace) (defined (map contract_tree cs) (depth_all depth_contract cs)) (declared (map contract_tree cs) (depth_all depth_contract cs)) a inside (omega (arith, h))
    ∙ lines_enter limit names 1 (λ ss d e. after (function_item (head_tree f) (map contract_tree cs) ss e) (max (depth_all depth_contract cs) (d + 1))) ls b rest g.2 (omega (arith, h))
item_enters limit names next (defines_predicates o ps e) rest g h =
    let after : ItemTree → ℕ → Plan = after_item names next in
    pass_on limit (predicates_plan names after o) o (spell_all spell_predicate ps (ends_annotation e ∷ rest))
    ∙ list_enters (predicate_loop names) (predicate_part names) limit (λ xs d. expect close_mark (λ q. after (predicates_item o xs) d)) ps (ends_annotation e ∷ rest) g (omega (arith, h)) (λ k q. refl)
    ∙ eat_on limit close_mark (λ q. after (predicates_item o (map predicate_tree ps)) (depth_all depth_predicate ps)) e rest

pub items_enter : (limit : ℕ) (names : List (List ℕ)) (next : List ItemTree → ℕ → Plan) (is : List ItemText) (last : Place) (rest : List Token) → GoodItems names is → depth_all depth_item is ≤ limit → run limit (items names next) (spell_all spell_item is (end_token last ∷ rest)) ≡ run limit (next (map item_tree is) (depth_all depth_item is)) rest
items_enter limit names next [] last rest g h = pass_on limit (next [] 0) last rest
items_enter limit names next (i ∷ is) last rest g h =
    item_enters limit names next i (spell_all spell_item is (end_token last ∷ rest)) g.0 (omega (arith, h))
    ∙ items_enter limit (names_behind names i) (λ xs d. next (item_tree i ∷ xs) (max (depth_item i) d)) is last rest g.1 (omega (arith, h))
