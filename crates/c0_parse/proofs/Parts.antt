-- The parts of annotations, heads and structs, by the token that each begins with.
use Rattle.std.proofs.Common.{◌≡◌, ℕ, Bool, true, false, cond, ◌||◌, List, [], ◌∷◌, None, refl, ap, ◌∙◌}
use Rattle.gc0_base.specs.declared.place.Place.{Place}
use Rattle.c0_lex.specs.declared.token.Token.{Token}
use Rattle.c0_lex.specs.declared.token.Keyword.TheVariants as key
use Rattle.c0_lex.specs.declared.token.Symbol.TheVariants as mark
use Rattle.parsed_tree.specs.declared.items.Field.{Field}
use Rattle.parsed_tree.specs.declared.items.Param.{Param}
use Rattle.parsed_tree.specs.declared.items.Side.TheVariants as side
use Rattle.parsed_tree.specs.declared.expressions.TypeName.{TypeName}
use Rattle.parsed_tree.specs.Tree.{InvariantTree, ClauseTree, ContractTree, PredicateTree}
use Rattle.c0_grammar.specs.Tokens.{word_mark, sign_mark, open_mark, What, fixed, name_what, number_what, text_what, token}
use Rattle.c0_grammar.specs.Plan.{is, invariant_loop, clause_loop, contract_loop, predicate_loop, field_loop, param_loop, Plan, await, many, Step, on, node, typed, type_step, or_step, invariant_plan, param_plan, clause_plan, contract_plan, predicate_plan, field_behind, enter, after_part, step}
use Rattle.c0_cursor.specs.Seen.{starts, reading, stepping}
use Rattle.c0_parse.specs.Seen.{one_clause}
use Rattle.c0_grammar.specs.Seen.{what_of, seen}
use Rattle.c0_expressions.specs.Laws.{Enters, or_none}

-- ---- parts that begin with one fixed token
pub invariant_enters : (names : List (List ℕ)) (up : ℕ) → Enters (invariant_loop names up) (word_mark key.LoopInvariant) (invariant_plan names up)
invariant_enters names up = record { step = enters }
  where
    enters : (next : InvariantTree → ℕ → Plan) (w : What) (at : Place) → enter (invariant_loop names up) next w at ≡ cond (is (word_mark key.LoopInvariant) w) (on (invariant_plan names up next at)) None
    enters next (fixed (word_mark key.LoopInvariant)) at = refl
    enters next (fixed f) at = refl
    enters next (name_what n) at = refl
    enters next (number_what w) at = refl
    enters next (text_what b) at = refl

pub contract_enters : (names : List (List ℕ)) → Enters (contract_loop names) open_mark (contract_plan names)
contract_enters names = record { step = enters }
  where
    enters : (next : ContractTree → ℕ → Plan) (w : What) (at : Place) → enter (contract_loop names) next w at ≡ cond (is open_mark w) (on (contract_plan names next at)) None
    enters next (fixed open_mark) at = refl
    enters next (fixed f) at = refl
    enters next (name_what n) at = refl
    enters next (number_what w) at = refl
    enters next (text_what b) at = refl

pub predicate_enters : (names : List (List ℕ)) → Enters (predicate_loop names) (word_mark key.Predicate) (predicate_plan names)
predicate_enters names = record { step = enters }
  where
    enters : (next : PredicateTree → ℕ → Plan) (w : What) (at : Place) → enter (predicate_loop names) next w at ≡ cond (is (word_mark key.Predicate) w) (on (predicate_plan names next at)) None
    enters next (fixed (word_mark key.Predicate)) at = refl
    enters next (fixed f) at = refl
    enters next (name_what n) at = refl
    enters next (number_what w) at = refl
    enters next (text_what b) at = refl

abbrev pub param_behind : List (List ℕ) → (Param → ℕ → Plan) → Place → Plan
param_behind names next at = param_plan names (λ p. next p 0)

pub param_enters : (names : List (List ℕ)) → Enters (param_loop names) (sign_mark mark.Comma) (param_behind names)
param_enters names = record { step = enters }
  where
    enters : (next : Param → ℕ → Plan) (w : What) (at : Place) → enter (param_loop names) next w at ≡ cond (is (sign_mark mark.Comma) w) (on (param_behind names next at)) None
    enters next (fixed (sign_mark mark.Comma)) at = refl
    enters next (fixed f) at = refl
    enters next (name_what n) at = refl
    enters next (number_what w) at = refl
    enters next (text_what b) at = refl

-- ---- clauses of a contract
clause_step : (names : List (List ℕ)) (next : ClauseTree → ℕ → Plan) (w : What) (at : Place) → enter (clause_loop names) next w at ≡ step (one_clause names next) (token w at)
clause_step names next (fixed (word_mark key.Requires)) at = refl
clause_step names next (fixed (word_mark key.Ensures)) at = refl
clause_step names next (fixed f) at = refl
clause_step names next (name_what n) at = refl
clause_step names next (number_what w) at = refl
clause_step names next (text_what b) at = refl

one_of_two : (a b : Bool) (p q : Plan) (other : Step) → (a || b) ≡ true → or_step (cond a (on p) (cond b (on q) None)) other ≡ cond a (on p) (cond b (on q) None)
one_of_two true b p q other e = refl
one_of_two false true p q other e = refl
one_of_two false false p q other e = cc

neither : (a b : Bool) (p q : Plan) (other : Step) → (a || b) ≡ false → or_step (cond a (on p) (cond b (on q) None)) other ≡ other
neither true b p q other e = cc
neither false true p q other e = cc
neither false false p q other e = refl

pub clause_on : (names : List (List ℕ)) (next : List ClauseTree → ℕ → Plan) (ts : List Token) → (starts (word_mark key.Requires) ts || starts (word_mark key.Ensures) ts) ≡ true → reading (many (clause_loop names) next) ts ≡ reading (one_clause names (after_part (clause_loop names) next)) ts
clause_on names next [] e = cc
clause_on names next (t ∷ ts) e =
    let w = what_of t.kind t.text.now in
    let N : ClauseTree → ℕ → Plan = after_part (clause_loop names) next in
    ap (λ s. stepping (or_step s (step (next [] 0) (seen t))) t.place ts) (clause_step names N w t.place)
    ∙ ap (λ s. stepping s t.place ts) (one_of_two (is (word_mark key.Requires) w) (is (word_mark key.Ensures) w) (clause_plan names N side.Requires t.place) (clause_plan names N side.Ensures t.place) (step (next [] 0) (seen t)) e)

pub clause_off : (names : List (List ℕ)) (next : List ClauseTree → ℕ → Plan) (ts : List Token) → (starts (word_mark key.Requires) ts || starts (word_mark key.Ensures) ts) ≡ false → reading (many (clause_loop names) next) ts ≡ reading (next [] 0) ts
clause_off names next [] e = refl
clause_off names next (t ∷ ts) e =
    let w = what_of t.kind t.text.now in
    let N : ClauseTree → ℕ → Plan = after_part (clause_loop names) next in
    ap (λ s. stepping (or_step s (step (next [] 0) (seen t))) t.place ts) (clause_step names N w t.place)
    ∙ ap (λ s. stepping s t.place ts) (neither (is (word_mark key.Requires) w) (is (word_mark key.Ensures) w) (clause_plan names N side.Requires t.place) (clause_plan names N side.Ensures t.place) (step (next [] 0) (seen t)) e)

-- ---- fields of a struct
pub typed_step : (names : List (List ℕ)) (next : TypeName → Plan) (w : What) (at : Place) → type_step names 0 next w at ≡ step (typed names next) (token w at)
typed_step names next (fixed (word_mark key.Int)) at = refl
typed_step names next (fixed (word_mark key.Bool)) at = refl
typed_step names next (fixed (word_mark key.Struct)) at = refl
typed_step names next (fixed f) at = refl
typed_step names next (name_what n) at = refl
typed_step names next (number_what w) at = refl
typed_step names next (text_what b) at = refl

field_step : (names : List (List ℕ)) (next : Field → ℕ → Plan) (w : What) (at : Place) → enter (field_loop names) next w at ≡ type_step names 0 (field_behind next) w at
field_step names next (fixed f) at = refl
field_step names next (name_what n) at = refl
field_step names next (number_what w) at = refl
field_step names next (text_what b) at = refl

pub field_on : (names : List (List ℕ)) (next : List Field → ℕ → Plan) (these : Place → Plan) (ts : List Token) → next [] 0 ≡ await 0 (sign_mark mark.CloseBrace) these → starts (sign_mark mark.CloseBrace) ts ≡ false → reading (many (field_loop names) next) ts ≡ reading (typed names (field_behind (after_part (field_loop names) next))) ts
field_on names next these [] n e = ap (λ q. reading q []) n
field_on names next these (t ∷ ts) n e =
    let w = what_of t.kind t.text.now in
    let N : Field → ℕ → Plan = after_part (field_loop names) next in
    ap (λ q. stepping (or_step (enter (field_loop names) N w t.place) (step q (seen t))) t.place ts) n
    ∙ ap (λ b. stepping (or_step (enter (field_loop names) N w t.place) (cond b (node 0 (these t.place)) None)) t.place ts) e
    ∙ ap (λ s. stepping s t.place ts) (or_none (enter (field_loop names) N w t.place) ∙ field_step names N w t.place ∙ typed_step names (field_behind N) w t.place)

no_field : (names : List (List ℕ)) (next : Field → ℕ → Plan) (w : What) (at : Place) → is (sign_mark mark.CloseBrace) w ≡ true → enter (field_loop names) next w at ≡ None
no_field names next (fixed (sign_mark s)) at e = refl
no_field names next (fixed f) at e = cc
no_field names next (name_what n) at e = cc
no_field names next (number_what w) at e = cc
no_field names next (text_what b) at e = cc

pub field_off : (names : List (List ℕ)) (next : List Field → ℕ → Plan) (ts : List Token) → starts (sign_mark mark.CloseBrace) ts ≡ true → reading (many (field_loop names) next) ts ≡ reading (next [] 0) ts
field_off names next [] e = cc
field_off names next (t ∷ ts) e =
    ap (λ s. stepping (or_step s (step (next [] 0) (seen t))) t.place ts) (no_field names (after_part (field_loop names) next) (what_of t.kind t.text.now) t.place e)
