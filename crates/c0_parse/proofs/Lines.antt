-- Statements by their first token, lists of them, and what stands behind the head of a loop.
use Rattle.std.proofs.Common.{◌≡◌, ℕ, ◌+◌, max, Bool, true, false, cond, ◌&&◌, ◌||◌, List, [], ◌∷◌, ◌++◌, Some, None, Result, refl, sym, ap, ◌∙◌, arith, append_assoc, append-nil}
use Rattle.gc0_base.specs.declared.place.Place.{Place}
use Rattle.c0_lex.specs.declared.token.Token.{Token}
use Rattle.c0_lex.specs.declared.token.TokenKind.{TokenKind}
use Rattle.c0_lex.specs.declared.token.Keyword.TheVariants as key
use Rattle.c0_lex.specs.declared.token.Symbol.TheVariants as mark
use Rattle.parsed_tree.specs.declared.statements.Stmt.{Stmt}
use Rattle.parsed_tree.specs.Tree.{ProgramTree, InvariantsTree, StmtTree, StmtTrees, no_stmts, stmt_and}
use Rattle.parsed_tree.specs.Views.{stmt_view, stmts_view}
use Rattle.c0_grammar.specs.Tokens.{word_mark, sign_mark, open_mark, close_mark, What, fixed, name_what, number_what, text_what}
use Rattle.c0_grammar.specs.Plan.{is, invariant_loop, Plan, await, peek, many, simple, body, loop_body, lines, or_step, notes_plan, simple_line, compound_step, line_step, simple_step, lines_step, after_line, invariant_plan, after_invariants, head_annotation, loop_body_step, Fault}
use Rattle.c0_cursor.specs.Seen.{starts, reading, stepping}
use Rattle.c0_parse.specs.Seen.{line_reading, opens_invariants, invariants_plan}
use Rattle.c0_grammar.specs.Seen.{what_of}
use Rattle.c0_parse.specs.Read.{onto_loop}
use Rattle.c0_cursor.specs.Laws.{peek_await, not_first}

-- ---- a statement by its first token
pub line_at : (names : List (List ℕ)) (whole : Bool) (up : ℕ) (next : StmtTree → ℕ → Plan) (t : Token) (ts : List Token) (k : TokenKind) → t.kind ≡ k → line_reading names whole up next (t ∷ ts) ≡ stepping (line_step names whole up next (what_of k t.text.now) t.place) t.place ts
line_at names whole up next t ts k e = ap (λ z. stepping (line_step names whole up next (what_of z t.text.now) t.place) t.place ts) e

pub line_simple : (names : List (List ℕ)) (whole : Bool) (up : ℕ) (next : StmtTree → ℕ → Plan) (t : Token) (ts : List Token) → compound_step names whole up next (what_of t.kind t.text.now) t.place ≡ None → line_reading names whole up next (t ∷ ts) ≡ reading (simple names whole (up + 1) (simple_line next)) (t ∷ ts)
line_simple names whole up next t ts e =
    let w = what_of t.kind t.text.now in
    ap (λ s. stepping (or_step s (simple_step names whole (up + 1) (simple_line next) w t.place)) t.place ts) e

pub body_line : (names : List (List ℕ)) (up : ℕ) (next : StmtTree → ℕ → Plan) (ts : List Token) → reading (body names up next) ts ≡ line_reading names false up next ts
body_line names up next [] = refl
body_line names up next (t ∷ ts) = refl

-- ---- statements so far
abbrev pub joins : StmtTrees → StmtTrees → StmtTrees
joins no_stmts others = others
joins (stmt_and s ss) others = stmt_and s (joins ss others)

abbrev pub onto_lines : StmtTrees → ℕ → (StmtTrees → ℕ → Place → Plan) → StmtTrees → ℕ → Place → Plan
onto_lines ss d next others d' e = next (joins ss others) (max d d') e

joins_none : (ss : StmtTrees) → joins ss no_stmts ≡ ss
joins_none no_stmts = refl
joins_none (stmt_and s ss) = ap (stmt_and s) (joins_none ss)

joins_push : (ss : StmtTrees) (s : StmtTree) (others : StmtTrees) → joins ss (stmt_and s others) ≡ joins (joins ss (stmt_and s no_stmts)) others
joins_push no_stmts s others = refl
joins_push (stmt_and x ss) s others = ap (stmt_and x) (joins_push ss s others)

max_more : (a b c : ℕ) → max a (max b c) ≡ max (max a b) c
max_more a b c = omega arith

max_none : (a : ℕ) → max a 0 ≡ a
max_none a = omega arith

none_max : (a : ℕ) → a ≡ max 0 a
none_max a = omega arith

pub lines_start : (next : StmtTrees → ℕ → Place → Plan) → ◌≡◌ {A = StmtTrees → ℕ → Place → Plan} next (onto_lines no_stmts 0 next)
lines_start next = λ i ss d e. next ss (none_max d i) e

pub lines_more : (ss : StmtTrees) (d : ℕ) (next : StmtTrees → ℕ → Place → Plan) (s : StmtTree) (ds : ℕ) → ◌≡◌ {A = StmtTrees → ℕ → Place → Plan} (λ others d' e. onto_lines ss d next (stmt_and s others) (max ds d') e) (onto_lines (joins ss (stmt_and s no_stmts)) (max d ds) next)
lines_more ss d next s ds = λ i others d' e. next (joins_push ss s others i) (max_more d ds d' i) e

pub lines_done : (ss : StmtTrees) (d : ℕ) (next : StmtTrees → ℕ → Place → Plan) (e : Place) → onto_lines ss d next no_stmts 0 e ≡ next ss d e
lines_done ss d next e = λ i. next (joins_none ss i) (max_none d i) e

stmts_push : (xs : List Stmt) (s : Stmt) → stmts_view (xs ++ s ∷ []) ≡ joins (stmts_view xs) (stmt_and (stmt_view s) no_stmts)
stmts_push [] s = refl
stmts_push (x ∷ xs) s = ap (stmt_and (stmt_view x)) (stmts_push xs s)

pub stmts_pushed : (old new : List Stmt) (s : Stmt) → new ≡ old ++ s ∷ [] → stmts_view new ≡ joins (stmts_view old) (stmt_and (stmt_view s) no_stmts)
stmts_pushed old new s h = ap stmts_view h ∙ stmts_push old s

pub same_lines : (F : StmtTrees → ℕ → Result ProgramTree Fault) (xs ys : StmtTrees) (c d : ℕ) → xs ≡ ys → c ≡ d → F xs c ≡ F ys d
same_lines F xs ys c d p q = λ i. F (p i) (q i)

-- ---- a brace, or a statement
abbrev pub ended : (StmtTrees → ℕ → Place → Plan) → Place → Plan
ended next at = next no_stmts 0 at

brace_step : (names : List (List ℕ)) (up : ℕ) (next : StmtTrees → ℕ → Place → Plan) (w : What) (at : Place) (ts : List Token) → is (sign_mark mark.CloseBrace) w ≡ true → lines_step names up next w at ≡ cond (is (sign_mark mark.CloseBrace) w) (Some (0, ended next at)) None
brace_step names up next (fixed (sign_mark mark.CloseBrace)) at ts e = refl
brace_step names up next (fixed f) at ts e = cc
brace_step names up next (name_what n) at ts e = cc
brace_step names up next (number_what w) at ts e = cc
brace_step names up next (text_what b) at ts e = cc

pub lines_end : (names : List (List ℕ)) (up : ℕ) (next : StmtTrees → ℕ → Place → Plan) (ts : List Token) → starts (sign_mark mark.CloseBrace) ts ≡ true → reading (lines names up next) ts ≡ reading (await 0 (sign_mark mark.CloseBrace) (ended next)) ts
lines_end names up next [] e = cc
lines_end names up next (t ∷ ts) e = ap (λ s. stepping s t.place ts) (brace_step names up next (what_of t.kind t.text.now) t.place ts e)

line_step_on : (names : List (List ℕ)) (up : ℕ) (next : StmtTrees → ℕ → Place → Plan) (w : What) (at : Place) → is (sign_mark mark.CloseBrace) w ≡ false → lines_step names up next w at ≡ line_step names true up (after_line names up next) w at
line_step_on names up next (fixed (sign_mark mark.CloseBrace)) at e = cc
line_step_on names up next (fixed f) at e = refl
line_step_on names up next (name_what n) at e = refl
line_step_on names up next (number_what w) at e = refl
line_step_on names up next (text_what b) at e = refl

pub lines_on : (names : List (List ℕ)) (up : ℕ) (next : StmtTrees → ℕ → Place → Plan) (ts : List Token) → starts (sign_mark mark.CloseBrace) ts ≡ false → reading (lines names up next) ts ≡ line_reading names true up (after_line names up next) ts
lines_on names up next [] e = refl
lines_on names up next (t ∷ ts) e = ap (λ s. stepping s t.place ts) (line_step_on names up next (what_of t.kind t.text.now) t.place e)

-- ---- behind the head of a loop
pub loop_start : (next : List InvariantsTree → ℕ → StmtTree → ℕ → Plan) → ◌≡◌ {A = List InvariantsTree → ℕ → StmtTree → ℕ → Plan} next (onto_loop [] 0 next)
loop_start next = λ i is d s ds. next is (none_max d i) s ds

pub loop_more : (is : List InvariantsTree) (d : ℕ) (next : List InvariantsTree → ℕ → StmtTree → ℕ → Plan) (x : InvariantsTree) (dx : ℕ) → ◌≡◌ {A = List InvariantsTree → ℕ → StmtTree → ℕ → Plan} (onto_loop (x ∷ []) dx (onto_loop is d next)) (onto_loop (is ++ x ∷ []) (max d dx) next)
loop_more is d next x dx = λ i others d' s ds. next (sym (append_assoc is (x ∷ []) others) i) (max_more d dx d' i) s ds

-- no more of them
abbrev pub only_body : (List InvariantsTree → ℕ → StmtTree → ℕ → Plan) → StmtTree → ℕ → Plan
only_body next s ds = next [] 0 s ds

pub loop_done : (is : List InvariantsTree) (d : ℕ) (next : List InvariantsTree → ℕ → StmtTree → ℕ → Plan) → ◌≡◌ {A = StmtTree → ℕ → Plan} (only_body (onto_loop is d next)) (next is d)
loop_done is d next = λ i s ds. next (append-nil is i) (max_none d i) s ds

-- the rest of a loop behind one more annotation
abbrev pub after_one : List (List ℕ) → ℕ → (List InvariantsTree → ℕ → StmtTree → ℕ → Plan) → InvariantsTree → ℕ → Plan
after_one names up next x dx = loop_body names up (onto_loop (x ∷ []) dx next)

abbrev pub empty_one : List (List ℕ) → ℕ → (List InvariantsTree → ℕ → StmtTree → ℕ → Plan) → Place → Place → Plan
empty_one names up next at e = after_invariants names up next at [] 0

abbrev pub first_one : List (List ℕ) → ℕ → (List InvariantsTree → ℕ → StmtTree → ℕ → Plan) → Place → Place → Plan
first_one names up next at = invariant_plan names up (λ c d. many (invariant_loop names up) (λ cs d'. await 0 close_mark (λ e. after_invariants names up next at (c ∷ cs) (max d d'))))

abbrev pub noted_body : List (List ℕ) → ℕ → (List InvariantsTree → ℕ → StmtTree → ℕ → Plan) → Place → Plan
noted_body names up next at = notes_plan names up (only_body next) at

opened : (w : What) → is open_mark w ≡ true → w ≡ fixed open_mark
opened (fixed open_mark) e = refl
opened (fixed f) e = cc
opened (name_what n) e = cc
opened (number_what w) e = cc
opened (text_what b) e = cc

head_on : (names : List (List ℕ)) (up : ℕ) (next : List InvariantsTree → ℕ → StmtTree → ℕ → Plan) (at : Place) (ts : List Token) (a b : Bool) → starts close_mark ts ≡ a → starts (word_mark key.LoopInvariant) ts ≡ b → (a || b) ≡ true → reading (head_annotation names up next at) ts ≡ reading (peek 0 close_mark (empty_one names up next at) (await 0 (word_mark key.LoopInvariant) (first_one names up next at))) ts
head_on names up next at ts true b c l e =
    peek_await 0 close_mark (empty_one names up next at) (peek 0 (word_mark key.LoopInvariant) (first_one names up next at) (noted_body names up next at)) ts c
    ∙ sym (peek_await 0 close_mark (empty_one names up next at) (await 0 (word_mark key.LoopInvariant) (first_one names up next at)) ts c)
head_on names up next at ts false true c l e =
    not_first 0 close_mark (empty_one names up next at) (peek 0 (word_mark key.LoopInvariant) (first_one names up next at) (noted_body names up next at)) ts c
    ∙ peek_await 0 (word_mark key.LoopInvariant) (first_one names up next at) (noted_body names up next at) ts l
    ∙ sym (not_first 0 close_mark (empty_one names up next at) (await 0 (word_mark key.LoopInvariant) (first_one names up next at)) ts c)
head_on names up next at ts false false c l e = cc

head_off : (names : List (List ℕ)) (up : ℕ) (next : List InvariantsTree → ℕ → StmtTree → ℕ → Plan) (at : Place) (ts : List Token) (a b : Bool) → starts close_mark ts ≡ a → starts (word_mark key.LoopInvariant) ts ≡ b → (a || b) ≡ false → reading (head_annotation names up next at) ts ≡ reading (noted_body names up next at) ts
head_off names up next at ts true b c l e = cc
head_off names up next at ts false true c l e = cc
head_off names up next at ts false false c l e =
    not_first 0 close_mark (empty_one names up next at) (peek 0 (word_mark key.LoopInvariant) (first_one names up next at) (noted_body names up next at)) ts c
    ∙ not_first 0 (word_mark key.LoopInvariant) (first_one names up next at) (noted_body names up next at) ts l

and_first : (a b : Bool) → (a && b) ≡ true → a ≡ true
and_first true b e = refl
and_first false b e = cc

and_second : (a b : Bool) → (a && b) ≡ true → b ≡ true
and_second true b e = e
and_second false b e = cc

-- one more annotation with invariants
pub loop_on : (names : List (List ℕ)) (up : ℕ) (next : List InvariantsTree → ℕ → StmtTree → ℕ → Plan) (ts : List Token) → opens_invariants ts ≡ true → reading (loop_body names up next) ts ≡ reading (invariants_plan names up (after_one names up next)) ts
loop_on names up next [] e = cc
loop_on names up next (t ∷ ts) e =
    let w = what_of t.kind t.text.now in
    let o : w ≡ fixed open_mark = opened w (and_first (is open_mark w) _ e) in
    ap (λ z. stepping (loop_body_step names up next z t.place) t.place ts) o
    ∙ head_on names up next t.place ts (starts close_mark ts) (starts (word_mark key.LoopInvariant) ts) refl refl (and_second (is open_mark w) _ e)
    ∙ sym (ap (λ z. stepping (cond (is open_mark z) (Some (0, peek 0 close_mark (empty_one names up next t.place) (await 0 (word_mark key.LoopInvariant) (first_one names up next t.place)))) None) t.place ts) o)

-- the body
body_first : (names : List (List ℕ)) (up : ℕ) (next : List InvariantsTree → ℕ → StmtTree → ℕ → Plan) (w : What) (at : Place) (ts : List Token) → (is open_mark w && (starts close_mark ts || starts (word_mark key.LoopInvariant) ts)) ≡ false → stepping (loop_body_step names up next w at) at ts ≡ stepping (line_step names false up (only_body next) w at) at ts
body_first names up next (fixed open_mark) at ts e = head_off names up next at ts (starts close_mark ts) (starts (word_mark key.LoopInvariant) ts) refl refl e
body_first names up next (fixed f) at ts e = refl
body_first names up next (name_what n) at ts e = refl
body_first names up next (number_what w) at ts e = refl
body_first names up next (text_what b) at ts e = refl

pub loop_off : (names : List (List ℕ)) (up : ℕ) (next : List InvariantsTree → ℕ → StmtTree → ℕ → Plan) (ts : List Token) → opens_invariants ts ≡ false → reading (loop_body names up next) ts ≡ line_reading names false up (only_body next) ts
loop_off names up next [] e = refl
loop_off names up next (t ∷ ts) e = body_first names up next (what_of t.kind t.text.now) t.place ts e
