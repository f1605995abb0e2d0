-- What the grammar spells for a statement, a plan reads, up to the rest.
use Rattle.std.proofs.Common.{◌≡◌, ℕ, ◌+◌, ◌≤◌, max, Bool, true, false, true≢false, not, ◌||◌, List, [], ◌∷◌, map, Option, Some, None, Result, Err, refl, sym, ap, ◌∙◌, arith}
use Rattle.gc0_base.specs.declared.place.Place.{Place}
use Rattle.c0_lex.specs.declared.token.Keyword.TheVariants as key
use Rattle.c0_lex.specs.declared.token.Symbol.TheVariants as mark
use Rattle.parsed_tree.specs.declared.expressions.Text.{Text}
use Rattle.parsed_tree.specs.Tree.{ExprTree, InvariantTree, InvariantsTree, SimpleTree, StmtTree, simple_stmt, block_stmt, if_stmt, while_stmt, for_stmt, return_stmt, assert_stmt, error_stmt, StmtTrees, no_stmts, stmt_and, ProgramTree}
use Rattle.c0_grammar.specs.Tokens.{Fixed, word_mark, sign_mark, open_mark, close_mark, What, fixed, Token, keyword, symbol, text_token, ends_annotation}
use Rattle.c0_grammar.specs.Lists.{spell_all, Each, depth_all}
use Rattle.c0_grammar.specs.Written.{text_at, Written, spell, tree_of, depth, spell_formula}
use Rattle.c0_grammar.specs.Allowed.{code, Good}
use Rattle.c0_grammar.specs.Texts.{NoteText, asserts_note, folds_note, unfolds_note, spell_note, InvariantText, spell_invariant, invariant_tree, depth_invariant, InvariantsText, spell_invariants, invariants_tree, depth_invariants, SimpleText, spell_simple, simple_tree, depth_simple, spell_option, tree_option, depth_option, Line, simple_line, braces, ifs, ifs_else, whiles, fors, returns, asserts, raises, notes, Lines, no_lines, line_and, spell_line, spell_lines, line_tree, line_trees, depth_line, depth_lines}
use Rattle.c0_grammar.specs.Grammar.{GoodInvariant, GoodInvariants, GoodSimple, is_declaration, GoodOption, GoodLast, is_open, is_body, GoodLine, GoodLines}
use Rattle.c0_grammar.specs.Plan.{is, invariant_loop, Plan, text, simple, body, loop_body, lines, many, expect, expect_sign, peek_word, expr, notes_plan, condition, block_plan, if_plan, while_plan, for_plan, return_plan, assert_stmt_plan, error_plan, optional_simple, annotation_plan, compound_step, line_step, simple_step, after_line, lines_step, invariant_at, invariant_plan, after_invariants, head_annotation, loop_body_step, or_step, Step, Fault, syntax_at, nowhere, go, run}
use Rattle.c0_grammar.specs.Plan.{simple_line as behind_simple_line}
use Rattle.c0_grammar.proofs.EntersTokens.{first, differs, pass, pass_on, eat_on, take_on, skip, eat_text, ends_close, ends_semicolon}
use Rattle.c0_grammar.proofs.EntersExpr.{not_first, expr_enters}
use Rattle.c0_grammar.proofs.EntersNote.{list_enters, stated_enters, invariant_part, notes_enter, no_notes_enter}
use Rattle.c0_grammar.proofs.EntersSimple.{begins_simple, simple_begins, not_simple, stops_semicolon, stops_close, simple_enters, optional_enters}

-- ---- a statement by its first token
-- the run over tokens whose first does this step
abbrev pub start_with : ℕ → (What → Place → Step) → List Token → Result ProgramTree Fault
start_with limit f [] = Err (syntax_at nowhere)
start_with limit f (t ∷ ts) = go limit (f t.what t.place) (λ q. run limit q ts) t.place

body_starts : (limit : ℕ) (names : List (List ℕ)) (up : ℕ) (next : StmtTree → ℕ → Plan) (ts : List Token) → run limit (body names up next) ts ≡ start_with limit (line_step names false up next) ts
body_starts limit names up next [] = refl
body_starts limit names up next (t ∷ ts) = refl

no_brace_step : (names : List (List ℕ)) (up : ℕ) (next : StmtTrees → ℕ → Place → Plan) (w : What) (at : Place) → is (sign_mark mark.CloseBrace) w ≡ false → lines_step names up next w at ≡ line_step names true up (after_line names up next) w at
no_brace_step names up next (fixed (sign_mark mark.CloseBrace)) at e = absurd (true≢false e)
no_brace_step names up next w at e = refl

lines_start : (limit : ℕ) (names : List (List ℕ)) (up : ℕ) (next : StmtTrees → ℕ → Place → Plan) (ts : List Token) → is (sign_mark mark.CloseBrace) (first ts) ≡ false → run limit (lines names up next) ts ≡ start_with limit (line_step names true up (after_line names up next)) ts
lines_start limit names up next [] e = refl
lines_start limit names up next (t ∷ ts) e = ap (λ s. go limit s (λ q. run limit q ts) t.place) (no_brace_step names up next t.what t.place e)

no_open_step : (names : List (List ℕ)) (up : ℕ) (next : List InvariantsTree → ℕ → StmtTree → ℕ → Plan) (w : What) (at : Place) → is open_mark w ≡ false → loop_body_step names up next w at ≡ line_step names false up (λ s d. next [] 0 s d) w at
no_open_step names up next (fixed open_mark) at e = absurd (true≢false e)
no_open_step names up next w at e = refl

loop_starts : (limit : ℕ) (names : List (List ℕ)) (up : ℕ) (next : List InvariantsTree → ℕ → StmtTree → ℕ → Plan) (ts : List Token) → is open_mark (first ts) ≡ false → run limit (loop_body names up next) ts ≡ run limit (body names up (λ s d. next [] 0 s d)) ts
loop_starts limit names up next [] e = refl
loop_starts limit names up next (t ∷ ts) e = ap (λ s. go limit s (λ q. run limit q ts) t.place) (no_open_step names up next t.what t.place e)

abbrev begins_compound : What → Bool
begins_compound (fixed (word_mark key.If)) = true
begins_compound (fixed (word_mark key.While)) = true
begins_compound (fixed (word_mark key.For)) = true
begins_compound (fixed (word_mark key.Return)) = true
begins_compound (fixed (word_mark key.Assert)) = true
begins_compound (fixed (word_mark key.Error)) = true
begins_compound (fixed (sign_mark mark.OpenBrace)) = true
begins_compound (fixed open_mark) = true
begins_compound w = false

compound_none : (names : List (List ℕ)) (whole : Bool) (up : ℕ) (next : StmtTree → ℕ → Plan) (w : What) (at : Place) → begins_compound w ≡ false → compound_step names whole up next w at ≡ None
compound_none names whole up next (fixed (word_mark key.If)) at e = cc
compound_none names whole up next (fixed (word_mark key.While)) at e = cc
compound_none names whole up next (fixed (word_mark key.For)) at e = cc
compound_none names whole up next (fixed (word_mark key.Return)) at e = cc
compound_none names whole up next (fixed (word_mark key.Assert)) at e = cc
compound_none names whole up next (fixed (word_mark key.Error)) at e = cc
compound_none names whole up next (fixed (sign_mark mark.OpenBrace)) at e = cc
compound_none names whole up next (fixed open_mark) at e = cc
compound_none names whole up next w at e = refl

simple_no_compound : (names : List (List ℕ)) (w : What) → begins_simple names w ≡ true → begins_compound w ≡ false
simple_no_compound names (fixed (word_mark key.If)) e = cc
simple_no_compound names (fixed (word_mark key.While)) e = cc
simple_no_compound names (fixed (word_mark key.For)) e = cc
simple_no_compound names (fixed (word_mark key.Return)) e = cc
simple_no_compound names (fixed (word_mark key.Assert)) e = cc
simple_no_compound names (fixed (word_mark key.Error)) e = cc
simple_no_compound names (fixed (sign_mark mark.OpenBrace)) e = cc
simple_no_compound names (fixed open_mark) e = cc
simple_no_compound names w e = refl

simple_starts : (limit : ℕ) (names : List (List ℕ)) (whole : Bool) (up : ℕ) (next : StmtTree → ℕ → Plan) (ts : List Token) → begins_compound (first ts) ≡ false → start_with limit (line_step names whole up next) ts ≡ run limit (simple names whole (up + 1) (behind_simple_line next)) ts
simple_starts limit names whole up next [] e = refl
simple_starts limit names whole up next (t ∷ ts) e = ap (λ s. go limit (or_step s (simple_step names whole (up + 1) (behind_simple_line next) t.what t.place)) (λ q. run limit q ts) t.place) (compound_none names whole up next t.what t.place e)

-- ---- what no statement begins with
line_not : (names : List (List ℕ)) (f : Fixed) (l : Line) (rest : List Token) → GoodLine names l → begins_simple names (fixed f) ≡ false → begins_compound (fixed f) ≡ false → is f (first (spell_line l rest)) ≡ false
line_not names f (simple_line s c) rest g e h = not_simple names f s (symbol mark.Semicolon c ∷ rest) g e
line_not names f (braces a ls b) rest g e h = differs begins_compound f (fixed (sign_mark mark.OpenBrace)) h refl
line_not names f (ifs at a x b l) rest g e h = differs begins_compound f (fixed (word_mark key.If)) h refl
line_not names f (ifs_else at a x b l o m) rest g e h = differs begins_compound f (fixed (word_mark key.If)) h refl
line_not names f (whiles at a x b is l) rest g e h = differs begins_compound f (fixed (word_mark key.While)) h refl
line_not names f (fors at a s c x d t b is l) rest g e h = differs begins_compound f (fixed (word_mark key.For)) h refl
line_not names f (returns at x c) rest g e h = differs begins_compound f (fixed (word_mark key.Return)) h refl
line_not names f (asserts at a x b c) rest g e h = differs begins_compound f (fixed (word_mark key.Assert)) h refl
line_not names f (raises at a t bytes b c) rest g e h = differs begins_compound f (fixed (word_mark key.Error)) h refl
line_not names f (notes o ns z) rest g e h = differs begins_compound f (fixed open_mark) h refl

abbrev no_else : List Token → Type 0
no_else ts = is (word_mark key.Else) (first ts) ≡ false

no_else_lines : (names : List (List ℕ)) (ls : Lines) (e : Place) (rest : List Token) → GoodLines names ls → no_else (spell_lines ls (symbol mark.CloseBrace e ∷ rest))
no_else_lines names no_lines e rest g = refl
no_else_lines names (line_and l ls) e rest g = line_not names (word_mark key.Else) l (spell_lines ls (symbol mark.CloseBrace e ∷ rest)) g.0 refl refl

-- ---- the readings of a statement
abbrev ReadsLine : Line → Type 0
ReadsLine l = (limit : ℕ) (names : List (List ℕ)) (whole : Bool) (up : ℕ) (next : StmtTree → ℕ → Plan) (rest : List Token) → GoodLine names l → (whole || is_body l) ≡ true → up + depth_line l ≤ limit → (is_open l ≡ true → no_else rest) → start_with limit (line_step names whole up next) (spell_line l rest) ≡ run limit (next (line_tree l) (depth_line l)) rest

abbrev ReadsLines : Lines → Type 0
ReadsLines ls = (limit : ℕ) (names : List (List ℕ)) (up : ℕ) (next : StmtTrees → ℕ → Place → Plan) (e : Place) (rest : List Token) → GoodLines names ls → up + depth_lines ls ≤ limit → run limit (lines names up next) (spell_lines ls (symbol mark.CloseBrace e ∷ rest)) ≡ run limit (next (line_trees ls) (depth_lines ls) e) rest

-- a body is a statement, and so a node
body_deep : (l : Line) → is_body l ≡ true → 1 ≤ depth_line l
body_deep (simple_line s c) e = omega arith
body_deep (braces a ls b) e = omega arith
body_deep (ifs at a x b l) e = omega arith
body_deep (ifs_else at a x b l o m) e = omega arith
body_deep (whiles at a x b is l) e = omega arith
body_deep (fors at a s c x d t b is l) e = omega arith
body_deep (returns at x c) e = omega arith
body_deep (asserts at a x b c) e = omega arith
body_deep (raises at a t bytes b c) e = omega arith
body_deep (notes o [] z) e = absurd (true≢false (sym e))
body_deep (notes o (n ∷ ns) z) e = omega arith

body_enters : (l : Line) → ReadsLine l → (limit : ℕ) (names : List (List ℕ)) (up : ℕ) (next : StmtTree → ℕ → Plan) (rest : List Token) → GoodLine names l → is_body l ≡ true → up + depth_line l ≤ limit → (is_open l ≡ true → no_else rest) → run limit (body names up next) (spell_line l rest) ≡ run limit (next (line_tree l) (depth_line l)) rest
body_enters l il limit names up next rest g is_one h free = body_starts limit names up next (spell_line l rest) ∙ il limit names false up next rest g is_one h free

condition_enters : (limit : ℕ) (names : List (List ℕ)) (up : ℕ) (next : ExprTree → ℕ → Plan) (a : Place) (x : Written) (b : Place) (rest : List Token) → Good names code x → up + depth x ≤ limit → run limit (condition names up next) (symbol mark.OpenParen a ∷ spell x (symbol mark.CloseParen b ∷ rest)) ≡ run limit (next (tree_of x) (depth x)) rest
condition_enters limit names up next a x b rest g h =
    eat_on limit (sign_mark mark.OpenParen) (λ p. expr names code up (λ e d. expect_sign mark.CloseParen (λ q. next e d))) a (spell x (symbol mark.CloseParen b ∷ rest))
    ∙ expr_enters limit names code up (λ e d. expect_sign mark.CloseParen (λ q. next e d)) x (symbol mark.CloseParen b ∷ rest) g h ends_close
    ∙ eat_on limit (sign_mark mark.CloseParen) (λ q. next (tree_of x) (depth x)) b rest

-- ---- { inv } stmt
-- behind the invariants, if there are any, the body
loop_any : (l : Line) (limit : ℕ) (names : List (List ℕ)) (up : ℕ) (next : List InvariantsTree → ℕ → StmtTree → ℕ → Plan) (rest : List Token) → GoodLine names l → is_body l ≡ true → run limit (loop_body names up next) (spell_line l rest) ≡ run limit (body names up (λ s d. next [] 0 s d)) (spell_line l rest)
loop_any (notes o [] z) limit names up next rest g is_one = absurd (true≢false (sym is_one))
loop_any (notes o (n ∷ ns) z) limit names up next rest g is_one =
    let ts = spell_all spell_note (n ∷ ns) (ends_annotation z ∷ rest) in
    let none : StmtTree → ℕ → Plan = λ s d. next [] 0 s d in
    let found : Place → Plan = invariant_plan names up (λ c d. many (invariant_loop names up) (λ cs d'. expect close_mark (λ e. after_invariants names up next o (c ∷ cs) (max d d')))) in
    pass_on limit (head_annotation names up next o) o ts
    ∙ skip limit 0 close_mark (λ e. after_invariants names up next o [] 0) (peek_word key.LoopInvariant found (notes_plan names up none o)) ts (no_close n)
    ∙ skip limit 0 (word_mark key.LoopInvariant) found (notes_plan names up none o) ts (no_invariant n)
    ∙ sym (pass_on limit (notes_plan names up none o) o ts)
  where
    no_close : (x : NoteText) → is close_mark (first (spell_note x (spell_all spell_note ns (ends_annotation z ∷ rest)))) ≡ false
    no_close (asserts_note at f c) = refl
    no_close (folds_note at k v a xs b c) = refl
    no_close (unfolds_note at k v a xs b c) = refl

    no_invariant : (x : NoteText) → is (word_mark key.LoopInvariant) (first (spell_note x (spell_all spell_note ns (ends_annotation z ∷ rest)))) ≡ false
    no_invariant (asserts_note at f c) = refl
    no_invariant (folds_note at k v a xs b c) = refl
    no_invariant (unfolds_note at k v a xs b c) = refl
loop_any (simple_line s c) limit names up next rest g is_one = loop_starts limit names up next (spell_line (simple_line s c) rest) (not_simple names open_mark s (symbol mark.Semicolon c ∷ rest) g refl)
loop_any (braces a ls b) limit names up next rest g is_one = loop_starts limit names up next (spell_line (braces a ls b) rest) refl
loop_any (ifs at a x b l) limit names up next rest g is_one = loop_starts limit names up next (spell_line (ifs at a x b l) rest) refl
loop_any (ifs_else at a x b l e m) limit names up next rest g is_one = loop_starts limit names up next (spell_line (ifs_else at a x b l e m) rest) refl
loop_any (whiles at a x b is l) limit names up next rest g is_one = loop_starts limit names up next (spell_line (whiles at a x b is l) rest) refl
loop_any (fors at a s c x d t b is l) limit names up next rest g is_one = loop_starts limit names up next (spell_line (fors at a s c x d t b is l) rest) refl
loop_any (returns at x c) limit names up next rest g is_one = loop_starts limit names up next (spell_line (returns at x c) rest) refl
loop_any (asserts at a x b c) limit names up next rest g is_one = loop_starts limit names up next (spell_line (asserts at a x b c) rest) refl
loop_any (raises at a t bytes b c) limit names up next rest g is_one = loop_starts limit names up next (spell_line (raises at a t bytes b c) rest) refl

-- an annotation with invariants
invariants_enter : (limit : ℕ) (names : List (List ℕ)) (up : ℕ) (next : List InvariantsTree → ℕ → StmtTree → ℕ → Plan) (o : Place) (cs : List InvariantText) (e : Place) (rest : List Token) → Each (GoodInvariant names) cs → up + depth_all depth_invariant cs ≤ limit → run limit (head_annotation names up next o) (spell_all spell_invariant cs (ends_annotation e ∷ rest)) ≡ run limit (after_invariants names up next o (map invariant_tree cs) (depth_all depth_invariant cs)) rest
invariants_enter limit names up next o [] e rest g h =
    take_on limit close_mark (λ z. after_invariants names up next o [] 0) (peek_word key.LoopInvariant (invariant_plan names up (λ c d. many (invariant_loop names up) (λ cs d'. expect close_mark (λ z. after_invariants names up next o (c ∷ cs) (max d d'))))) (notes_plan names up (λ s d. next [] 0 s d) o)) e rest
invariants_enter limit names up next o (c ∷ cs) e rest g h =
    let made : List InvariantTree → ℕ → Plan = λ ys d'. expect close_mark (λ z. after_invariants names up next o (invariant_tree c ∷ ys) (max (depth_invariant c) d')) in
    let found : Place → Plan = invariant_plan names up (λ y d. many (invariant_loop names up) (λ ys d'. expect close_mark (λ z. after_invariants names up next o (y ∷ ys) (max d d')))) in
    let others : Plan = notes_plan names up (λ s d. next [] 0 s d) o in
    let more = spell_all spell_invariant cs (ends_annotation e ∷ rest) in
    skip limit 0 close_mark (λ z. after_invariants names up next o [] 0) (peek_word key.LoopInvariant found others) (spell_invariant c more) refl
    ∙ take_on limit (word_mark key.LoopInvariant) found others c.at (spell_formula c.formula (symbol mark.Semicolon c.c ∷ more))
    ∙ stated_enters limit names up (λ f d. many (invariant_loop names up) (λ ys d'. expect close_mark (λ z. after_invariants names up next o (invariant_at c.at f ∷ ys) (max d d')))) c.formula c.c more g.0 (omega (arith, h))
    ∙ list_enters (invariant_loop names up) (invariant_part names up) limit made cs (ends_annotation e ∷ rest) g.1 (omega (arith, h)) (λ n p. refl)
    ∙ eat_on limit close_mark (λ z. after_invariants names up next o (invariant_tree c ∷ map invariant_tree cs) (max (depth_invariant c) (depth_all depth_invariant cs))) e rest

loop_enters : (is : List InvariantsText) (l : Line) → ReadsLine l → (limit : ℕ) (names : List (List ℕ)) (up : ℕ) (next : List InvariantsTree → ℕ → StmtTree → ℕ → Plan) (rest : List Token) → Each (GoodInvariants names) is → GoodLine names l → is_body l ≡ true → up + max (depth_all depth_invariants is) (depth_line l) ≤ limit → (is_open l ≡ true → no_else rest) → run limit (loop_body names up next) (spell_all spell_invariants is (spell_line l rest)) ≡ run limit (next (map invariants_tree is) (depth_all depth_invariants is) (line_tree l) (depth_line l)) rest
loop_enters [] l il limit names up next rest gs g is_one h free =
    loop_any l limit names up next rest g is_one
    ∙ body_enters l il limit names up (λ s d. next [] 0 s d) rest g is_one (omega (arith, h)) free
loop_enters (i ∷ is) l il limit names up next rest gs g is_one h free =
    let ts = spell_all spell_invariants is (spell_line l rest) in
    pass_on limit (head_annotation names up next i.o) i.o (spell_all spell_invariant i.clauses (ends_annotation i.e ∷ ts))
    ∙ invariants_enter limit names up next i.o i.clauses i.e ts gs.0 (omega (arith, h))
    ∙ loop_enters is l il limit names up (λ ys di s ds. next (invariants_tree i ∷ ys) (max (depth_invariants i) di) s ds) rest gs.1 g is_one (omega (arith, h)) free

-- ---- statements by their kinds
simple_reading : (s : SimpleText) (c : Place) → ReadsLine (simple_line s c)
simple_reading s c limit names whole up next rest g allowed h free =
    let ts = symbol mark.Semicolon c ∷ rest in
    simple_starts limit names whole up next (spell_simple s ts) (simple_no_compound names (first (spell_simple s ts)) (simple_begins names s ts g))
    ∙ simple_enters limit names whole (up + 1) (behind_simple_line next) s ts g allowed (omega (arith, h)) stops_semicolon
    ∙ eat_on limit (sign_mark mark.Semicolon) (λ p. next (simple_stmt (simple_tree s)) (depth_simple s + 1)) c rest

block_reading : (a : Place) (ls : Lines) (b : Place) → ReadsLines ls → ReadsLine (braces a ls b)
block_reading a ls b ils limit names whole up next rest g allowed h free =
    pass limit (up + 1) (block_plan names up next a) a (spell_lines ls (symbol mark.CloseBrace b ∷ rest)) (omega (arith, h))
    ∙ ils limit names (up + 1) (λ ss d e. next (block_stmt a ss) (d + 1)) b rest g (omega (arith, h))

abbrev with_else : List (List ℕ) → ℕ → (StmtTree → ℕ → Plan) → Place → ExprTree → ℕ → StmtTree → ℕ → Place → Plan
with_else names up next at e d s d1 w = body names (up + 1) (λ o d2. next (if_stmt at e s (stmt_and o no_stmts)) (max d (max d1 d2) + 1))

abbrev behind_then : List (List ℕ) → ℕ → (StmtTree → ℕ → Plan) → Place → ExprTree → ℕ → StmtTree → ℕ → Plan
behind_then names up next at e d s d1 = peek_word key.Else (with_else names up next at e d s d1) (next (if_stmt at e s no_stmts) (max d d1 + 1))

-- the front of an `if`, up to what may be its `else`
then_enters : (at a : Place) (x : Written) (b : Place) (l : Line) → ReadsLine l → (limit : ℕ) (names : List (List ℕ)) (whole : Bool) (up : ℕ) (next : StmtTree → ℕ → Plan) (rest : List Token) → Good names code x → GoodLine names l → is_body l ≡ true → up + (max (depth x) (depth_line l) + 1) ≤ limit → (is_open l ≡ true → no_else rest) → start_with limit (line_step names whole up next) (keyword key.If at ∷ symbol mark.OpenParen a ∷ spell x (symbol mark.CloseParen b ∷ spell_line l rest)) ≡ run limit (behind_then names up next at (tree_of x) (depth x) (line_tree l) (depth_line l)) rest
then_enters at a x b l il limit names whole up next rest gx g is_one h free =
    let deep : 1 ≤ depth_line l = body_deep l is_one in
    pass limit (up + 2) (if_plan names up next at) at (symbol mark.OpenParen a ∷ spell x (symbol mark.CloseParen b ∷ spell_line l rest)) (omega (arith, h, deep))
    ∙ condition_enters limit names (up + 1) (λ e d. body names (up + 1) (λ s d1. behind_then names up next at e d s d1)) a x b (spell_line l rest) gx (omega (arith, h))
    ∙ body_enters l il limit names (up + 1) (λ s d1. behind_then names up next at (tree_of x) (depth x) s d1) rest g is_one (omega (arith, h)) free

if_reading : (at a : Place) (x : Written) (b : Place) (l : Line) → ReadsLine l → ReadsLine (ifs at a x b l)
if_reading at a x b l il limit names whole up next rest g allowed h free =
    then_enters at a x b l il limit names whole up next rest g.0 g.1 g.2 h (λ o. free refl)
    ∙ skip limit 0 (word_mark key.Else) (with_else names up next at (tree_of x) (depth x) (line_tree l) (depth_line l)) (next (if_stmt at (tree_of x) (line_tree l) no_stmts) (max (depth x) (depth_line l) + 1)) rest (free refl)

closed_first : (b : Bool) (ts : List Token) → b ≡ false → b ≡ true → no_else ts
closed_first b ts f t = absurd (true≢false (sym t ∙ f))

if_else_reading : (at a : Place) (x : Written) (b : Place) (l : Line) (e : Place) (m : Line) → ReadsLine l → ReadsLine m → ReadsLine (ifs_else at a x b l e m)
if_else_reading at a x b l e m il im limit names whole up next rest g allowed h free =
    let ts = keyword key.Else e ∷ spell_line m rest in
    then_enters at a x b l il limit names whole up next ts g.0 g.1 g.2 (omega (arith, h)) (closed_first (is_open l) ts g.3)
    ∙ take_on limit (word_mark key.Else) (with_else names up next at (tree_of x) (depth x) (line_tree l) (depth_line l)) (next (if_stmt at (tree_of x) (line_tree l) no_stmts) (max (depth x) (depth_line l) + 1)) e (spell_line m rest)
    ∙ body_enters m im limit names (up + 1) (λ o d2. next (if_stmt at (tree_of x) (line_tree l) (stmt_and o no_stmts)) (max (depth x) (max (depth_line l) d2) + 1)) rest g.4 g.5 (omega (arith, h)) free

while_reading : (at a : Place) (x : Written) (b : Place) (is : List InvariantsText) (l : Line) → ReadsLine l → ReadsLine (whiles at a x b is l)
while_reading at a x b is l il limit names whole up next rest g allowed h free =
    let deep : 1 ≤ depth_line l = body_deep l g.3 in
    let ts = spell_all spell_invariants is (spell_line l rest) in
    pass limit (up + 2) (while_plan names up next at) at (symbol mark.OpenParen a ∷ spell x (symbol mark.CloseParen b ∷ ts)) (omega (arith, h, deep))
    ∙ condition_enters limit names (up + 1) (λ e d. loop_body names (up + 1) (λ ys di s ds. next (while_stmt at e ys s) (max d (max di ds) + 1))) a x b ts g.0 (omega (arith, h))
    ∙ loop_enters is l il limit names (up + 1) (λ ys di s ds. next (while_stmt at (tree_of x) ys s) (max (depth x) (max di ds) + 1)) rest g.1 g.2 g.3 (omega (arith, h)) free

first_allowed : (names : List (List ℕ)) (s : Option SimpleText) → GoodOption (GoodSimple names) s → GoodOption (λ x. GoodSimple names x × ((true || not (is_declaration x)) ≡ true)) s
first_allowed names None g = tt
first_allowed names (Some s) g = (g, refl)

last_allowed : (names : List (List ℕ)) (s : Option SimpleText) → GoodOption (GoodLast names) s → GoodOption (λ x. GoodSimple names x × ((false || not (is_declaration x)) ≡ true)) s
last_allowed names None g = tt
last_allowed names (Some s) g = (g.0, ap not g.1)

for_reading : (at a : Place) (s : Option SimpleText) (c : Place) (x : Written) (d : Place) (t : Option SimpleText) (b : Place) (is : List InvariantsText) (l : Line) → ReadsLine l → ReadsLine (fors at a s c x d t b is l)
for_reading at a s c x d t b is l il limit names whole up next rest g allowed h free =
    let deep : 1 ≤ depth_line l = body_deep l g.5 in
    let rounds = spell_all spell_invariants is (spell_line l rest) in
    let behind_test = spell_option spell_simple t (symbol mark.CloseParen b ∷ rounds) in
    let behind_first = spell x (symbol mark.Semicolon d ∷ behind_test) in
    let made : Option SimpleTree → ℕ → ExprTree → ℕ → Option SimpleTree → ℕ → Plan = λ y dy e de z dz. loop_body names (up + 1) (λ ys di w dw. next (for_stmt at y e z ys w) (max dy (max de (max dz (max di dw))) + 1)) in
    let last : Option SimpleTree → ℕ → ExprTree → ℕ → Plan = λ y dy e de. expect_sign mark.Semicolon (λ p. optional_simple names false (up + 1) mark.CloseParen (made y dy e de)) in
    let test : Option SimpleTree → ℕ → Plan = λ y dy. expr names code (up + 1) (last y dy) in
    pass limit (up + 2) (for_plan names up next at) at (symbol mark.OpenParen a ∷ spell_option spell_simple s (symbol mark.Semicolon c ∷ behind_first)) (omega (arith, h, deep))
    ∙ eat_on limit (sign_mark mark.OpenParen) (λ p. optional_simple names true (up + 1) mark.Semicolon test) a (spell_option spell_simple s (symbol mark.Semicolon c ∷ behind_first))
    ∙ optional_enters limit names true (up + 1) mark.Semicolon test s c behind_first (first_allowed names s g.0) (omega (arith, h)) stops_semicolon refl
    ∙ expr_enters limit names code (up + 1) (last (tree_option simple_tree s) (depth_option depth_simple s)) x (symbol mark.Semicolon d ∷ behind_test) g.1 (omega (arith, h)) ends_semicolon
    ∙ eat_on limit (sign_mark mark.Semicolon) (λ p. optional_simple names false (up + 1) mark.CloseParen (made (tree_option simple_tree s) (depth_option depth_simple s) (tree_of x) (depth x))) d behind_test
    ∙ optional_enters limit names false (up + 1) mark.CloseParen (made (tree_option simple_tree s) (depth_option depth_simple s) (tree_of x) (depth x)) t b rounds (last_allowed names t g.2) (omega (arith, h)) stops_close refl
    ∙ loop_enters is l il limit names (up + 1) (λ ys di w dw. next (for_stmt at (tree_option simple_tree s) (tree_of x) (tree_option simple_tree t) ys w) (max (depth_option depth_simple s) (max (depth x) (max (depth_option depth_simple t) (max di dw))) + 1)) rest g.3 g.4 g.5 (omega (arith, h)) free

return_reading : (at : Place) (x : Option Written) (c : Place) → ReadsLine (returns at x c)
return_reading at None c limit names whole up next rest g allowed h free =
    pass limit (up + 1) (return_plan names up next at) at (symbol mark.Semicolon c ∷ rest) (omega (arith, h))
    ∙ take_on limit (sign_mark mark.Semicolon) (λ p. next (return_stmt at None) 1) (expr names code (up + 1) (λ e d. expect_sign mark.Semicolon (λ p. next (return_stmt at (Some e)) (d + 1)))) c rest
return_reading at (Some x) c limit names whole up next rest g allowed h free =
    let made : ExprTree → ℕ → Plan = λ e d. expect_sign mark.Semicolon (λ p. next (return_stmt at (Some e)) (d + 1)) in
    let ts = symbol mark.Semicolon c ∷ rest in
    pass limit (up + 1) (return_plan names up next at) at (spell x ts) (omega (arith, h))
    ∙ skip limit 0 (sign_mark mark.Semicolon) (λ p. next (return_stmt at None) 1) (expr names code (up + 1) made) (spell x ts) (not_first names code (sign_mark mark.Semicolon) x ts g refl)
    ∙ expr_enters limit names code (up + 1) made x ts g (omega (arith, h)) ends_semicolon
    ∙ eat_on limit (sign_mark mark.Semicolon) (λ p. next (return_stmt at (Some (tree_of x))) (depth x + 1)) c rest

assert_reading : (at a : Place) (x : Written) (b c : Place) → ReadsLine (asserts at a x b c)
assert_reading at a x b c limit names whole up next rest g allowed h free =
    pass limit (up + 1) (assert_stmt_plan names up next at) at (symbol mark.OpenParen a ∷ spell x (symbol mark.CloseParen b ∷ symbol mark.Semicolon c ∷ rest)) (omega (arith, h))
    ∙ condition_enters limit names (up + 1) (λ e d. expect_sign mark.Semicolon (λ p. next (assert_stmt at e) (d + 1))) a x b (symbol mark.Semicolon c ∷ rest) g (omega (arith, h))
    ∙ eat_on limit (sign_mark mark.Semicolon) (λ p. next (assert_stmt at (tree_of x)) (depth x + 1)) c rest

error_reading : (at a t : Place) (bytes : List ℕ) (b c : Place) → ReadsLine (raises at a t bytes b c)
error_reading at a t bytes b c limit names whole up next rest g allowed h free =
    let done : Text → Plan = λ x. expect_sign mark.Semicolon (λ p. next (error_stmt at x) 1) in
    pass limit (up + 1) (error_plan next at) at (symbol mark.OpenParen a ∷ text_token bytes t ∷ symbol mark.CloseParen b ∷ symbol mark.Semicolon c ∷ rest) (omega (arith, h))
    ∙ eat_on limit (sign_mark mark.OpenParen) (λ p. text (λ x. expect_sign mark.CloseParen (λ q. done x))) a (text_token bytes t ∷ symbol mark.CloseParen b ∷ symbol mark.Semicolon c ∷ rest)
    ∙ eat_text limit (λ x. expect_sign mark.CloseParen (λ q. done x)) bytes t (symbol mark.CloseParen b ∷ symbol mark.Semicolon c ∷ rest)
    ∙ eat_on limit (sign_mark mark.CloseParen) (λ q. done (text_at t bytes)) b (symbol mark.Semicolon c ∷ rest)
    ∙ eat_on limit (sign_mark mark.Semicolon) (λ p. next (error_stmt at (text_at t bytes)) 1) c rest

notes_reading : (o : Place) (ns : List NoteText) (e : Place) → ReadsLine (notes o ns e)
notes_reading o [] e limit names true up next rest g allowed h free =
    pass_on limit (annotation_plan names true up next o) o (ends_annotation e ∷ rest)
    ∙ no_notes_enter limit names up next o e rest
notes_reading o [] e limit names false up next rest g allowed h free = absurd (true≢false (sym allowed))
notes_reading o (n ∷ ns) e limit names whole up next rest g allowed h free =
    pass_on limit (annotation_plan names whole up next o) o (spell_all spell_note (n ∷ ns) (ends_annotation e ∷ rest))
    ∙ notes_enter limit names whole up next o n ns e rest g h

-- ---- every statement
mutual
  line_reading : (l : Line) → ReadsLine l
  line_reading (simple_line s c) = simple_reading s c
  line_reading (braces a ls b) = block_reading a ls b (lines_reading ls)
  line_reading (ifs at a x b l) = if_reading at a x b l (line_reading l)
  line_reading (ifs_else at a x b l e m) = if_else_reading at a x b l e m (line_reading l) (line_reading m)
  line_reading (whiles at a x b is l) = while_reading at a x b is l (line_reading l)
  line_reading (fors at a s c x d t b is l) = for_reading at a s c x d t b is l (line_reading l)
  line_reading (returns at x c) = return_reading at x c
  line_reading (asserts at a x b c) = assert_reading at a x b c
  line_reading (raises at a t bytes b c) = error_reading at a t bytes b c
  line_reading (notes o ns e) = notes_reading o ns e

  lines_reading : (ls : Lines) → ReadsLines ls
  lines_reading no_lines = λ limit names up next e rest g h. pass_on limit (next no_stmts 0 e) e rest
  lines_reading (line_and l ls) = λ limit names up next e rest g h.
      let ts = spell_lines ls (symbol mark.CloseBrace e ∷ rest) in
      lines_start limit names up next (spell_line l ts) (line_not names (sign_mark mark.CloseBrace) l ts g.0 refl refl)
      ∙ line_reading l limit names true up (after_line names up next) ts g.0 refl (omega (arith, h)) (λ o. no_else_lines names ls e rest g.1)
      ∙ lines_reading ls limit names up (λ ss d p. next (stmt_and (line_tree l) ss) (max (depth_line l) d) p) e rest g.1 (omega (arith, h))

pub lines_enter : (limit : ℕ) (names : List (List ℕ)) (up : ℕ) (next : StmtTrees → ℕ → Place → Plan) (ls : Lines) (e : Place) (rest : List Token) → GoodLines names ls → up + depth_lines ls ≤ limit → run limit (lines names up next) (spell_lines ls (symbol mark.CloseBrace e ∷ rest)) ≡ run limit (next (line_trees ls) (depth_lines ls) e) rest
lines_enter limit names up next ls e rest g h = lines_reading ls limit names up next e rest g h
