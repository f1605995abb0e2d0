-- What the grammar spells for a list, a formula and an annotation, a plan reads, up to the rest.
use Rattle.std.proofs.Common.{◌≡◌, ℕ, ◌+◌, ◌≤◌, max, Bool, true, false, List, [], ◌∷◌, map, Some, None, refl, ◌∙◌, arith}
use Rattle.gc0_base.specs.declared.place.Place.{Place}
use Rattle.c0_lex.specs.declared.token.Keyword.TheVariants as key
use Rattle.c0_lex.specs.declared.token.Symbol.TheVariants as mark
use Rattle.parsed_tree.specs.declared.expressions.Named.{Named}
use Rattle.parsed_tree.specs.Tree.{ExprTrees, FormulaTree, InstanceTree, assert_note, fold_note, unfold_note, NoteTree, StmtTree, notes_stmt}
use Rattle.c0_grammar.specs.Tokens.{word_mark, sign_mark, close_mark, Token, symbol, ends_annotation}
use Rattle.c0_grammar.specs.Lists.{spell_all, Each, depth_all}
use Rattle.c0_grammar.specs.Written.{named_at, spell, Args, spell_args, args_trees, depth_args, FormulaText, unknown, unknown_and, known, spell_formula, formula_tree, depth_formula}
use Rattle.c0_grammar.specs.Allowed.{conjunct, value, GoodArgs, GoodFormula}
use Rattle.c0_grammar.specs.Texts.{NoteText, asserts_note, folds_note, unfolds_note, spell_instance, spell_note, instance_tree, note_tree, depth_note, depth_notes}
use Rattle.c0_grammar.specs.Grammar.{IsFree, GoodNote}
use Rattle.c0_grammar.specs.Plan.{is, Loop, invariant_loop, note_loop, Part, Plan, await, peek, many, expect, expect_sign, peek_sign, expr, arguments, formula, stated, instance, note_at, assert_plan, fold_plan, unfold_plan, folding, other_notes, annotation_plan, invariant_at, invariant_plan, after_part, run}
use Rattle.c0_grammar.proofs.Takes.{PartText, spell_part, part_tree, depth_part, GoodPart}
use Rattle.c0_grammar.proofs.EntersTokens.{first, pass, pass_on, eat, eat_on, take, take_on, skip, eat_name, EndsList, fall_many, Ends, ends_semicolon}
use Rattle.c0_grammar.proofs.EntersExpr.{not_first, expr_enters, args_enter}

-- ---- lists
-- how many nodes stand above the parts of a list
abbrev pub loop_up : Loop → ℕ
loop_up (invariant_loop names up) = up
loop_up (note_loop names up) = up
loop_up l = 0

abbrev pub PartEnters : Loop → Type 0
PartEnters l = (limit : ℕ) (next : List (Part l) → ℕ → Plan) (x : PartText l) (rest : List Token) → GoodPart l x → loop_up l + depth_part l x ≤ limit → run limit (many l next) (spell_part l x rest) ≡ run limit (after_part l next (part_tree l x) (depth_part l x)) rest

pub list_enters : (l : Loop) → PartEnters l → (limit : ℕ) (next : List (Part l) → ℕ → Plan) (xs : List (PartText l)) (rest : List Token) → Each (GoodPart l) xs → loop_up l + depth_all (depth_part l) xs ≤ limit → EndsList l (first rest) → run limit (many l next) (spell_all (spell_part l) xs rest) ≡ run limit (next (map (part_tree l) xs) (depth_all (depth_part l) xs)) rest
list_enters l part limit next [] rest g h e = fall_many limit l next rest e
list_enters l part limit next (x ∷ xs) rest g h e =
    part limit next x (spell_all (spell_part l) xs rest) g.0 (omega (arith, h))
    ∙ list_enters l part limit (λ ys d. next (part_tree l x ∷ ys) (max (depth_part l x) d)) xs rest g.1 (omega (arith, h)) e

-- ---- formulas
formula_enters : (limit : ℕ) (names : List (List ℕ)) (up : ℕ) (next : FormulaTree → ℕ → Plan) (f : FormulaText) (rest : List Token) → GoodFormula names f → up + depth_formula f ≤ limit → Ends (first rest) → is (sign_mark mark.Both) (first rest) ≡ false → run limit (formula names up next) (spell_formula f rest) ≡ run limit (next (formula_tree f) (depth_formula f)) rest
formula_enters limit names up next (unknown at) rest g h ends alone =
    let more : Plan = expr names conjunct up (λ e d. next (record { imprecise = true; parts = Some e }) d) in
    let none : Plan = next (record { imprecise = true; parts = None }) 0 in
    take_on limit (sign_mark mark.Question) (λ q. peek_sign mark.Both (λ a. more) none) (expr names conjunct up (λ e d. next (record { imprecise = false; parts = Some e }) d)) at rest
    ∙ skip limit 0 (sign_mark mark.Both) (λ a. more) none rest alone
formula_enters limit names up next (unknown_and at a x) rest g h ends alone =
    let more : Plan = expr names conjunct up (λ e d. next (record { imprecise = true; parts = Some e }) d) in
    let none : Plan = next (record { imprecise = true; parts = None }) 0 in
    take_on limit (sign_mark mark.Question) (λ q. peek_sign mark.Both (λ a. more) none) (expr names conjunct up (λ e d. next (record { imprecise = false; parts = Some e }) d)) at (symbol mark.Both a ∷ spell x rest)
    ∙ take_on limit (sign_mark mark.Both) (λ a. more) none a (spell x rest)
    ∙ expr_enters limit names conjunct up (λ e d. next (record { imprecise = true; parts = Some e }) d) x rest g h ends
formula_enters limit names up next (known x) rest g h ends alone =
    let more : Plan = expr names conjunct up (λ e d. next (record { imprecise = true; parts = Some e }) d) in
    let none : Plan = next (record { imprecise = true; parts = None }) 0 in
    skip limit 0 (sign_mark mark.Question) (λ q. peek_sign mark.Both (λ a. more) none) (expr names conjunct up (λ e d. next (record { imprecise = false; parts = Some e }) d)) (spell x rest) (not_first names conjunct (sign_mark mark.Question) x rest g refl)
    ∙ expr_enters limit names conjunct up (λ e d. next (record { imprecise = false; parts = Some e }) d) x rest g h ends

pub stated_enters : (limit : ℕ) (names : List (List ℕ)) (up : ℕ) (next : FormulaTree → ℕ → Plan) (f : FormulaText) (c : Place) (rest : List Token) → GoodFormula names f → up + depth_formula f ≤ limit → run limit (stated names up next) (spell_formula f (symbol mark.Semicolon c ∷ rest)) ≡ run limit (next (formula_tree f) (depth_formula f)) rest
stated_enters limit names up next f c rest g h =
    formula_enters limit names up (λ p d. expect_sign mark.Semicolon (λ s. next p d)) f (symbol mark.Semicolon c ∷ rest) g h ends_semicolon refl
    ∙ eat_on limit (sign_mark mark.Semicolon) (λ s. next (formula_tree f) (depth_formula f)) c rest

instance_enters : (limit : ℕ) (names : List (List ℕ)) (up : ℕ) (next : InstanceTree → ℕ → Plan) (n : Place) (v : List ℕ) (a : Place) (xs : Args) (b c : Place) (rest : List Token) → IsFree names v → GoodArgs names value xs → up + (depth_args xs + 1) ≤ limit → run limit (instance names up next) (spell_instance n v a xs b c rest) ≡ run limit (next (instance_tree n v xs) (depth_args xs + 1)) rest
instance_enters limit names up next n v a xs b c rest free g h =
    let made : Named → ExprTrees → ℕ → Plan = λ k es d. next (record { name = k; arguments = es }) (d + 1) in
    let more : Named → ExprTrees → ℕ → Plan = λ k es d. expect_sign mark.Semicolon (λ s. made k es d) in
    let ts = spell_args xs (symbol mark.CloseParen b ∷ symbol mark.Semicolon c ∷ rest) in
    eat_name limit names (λ k. expect_sign mark.OpenParen (λ p. arguments names value (up + 1) (more k))) v n (symbol mark.OpenParen a ∷ ts) free
    ∙ eat_on limit (sign_mark mark.OpenParen) (λ p. arguments names value (up + 1) (more (named_at n v))) a ts
    ∙ args_enter limit names value (up + 1) (more (named_at n v)) xs b (symbol mark.Semicolon c ∷ rest) g (omega (arith, h))
    ∙ eat_on limit (sign_mark mark.Semicolon) (λ s. made (named_at n v) (args_trees xs) (depth_args xs)) c rest

-- ---- the parts of annotations
pub invariant_part : (names : List (List ℕ)) (up : ℕ) → PartEnters (invariant_loop names up)
invariant_part names up limit next x rest g h =
    pass_on limit (invariant_plan names up (after_part (invariant_loop names up) next) x.at) x.at (spell_formula x.formula (symbol mark.Semicolon x.c ∷ rest))
    ∙ stated_enters limit names up (λ f d. after_part (invariant_loop names up) next (invariant_at x.at f) d) x.formula x.c rest g h

note_part : (names : List (List ℕ)) (up : ℕ) → PartEnters (note_loop names up)
note_part names up limit next (asserts_note at f c) rest g h =
    pass_on limit (assert_plan names up (after_part (note_loop names up) next) at) at (spell_formula f (symbol mark.Semicolon c ∷ rest))
    ∙ stated_enters limit names up (λ p d. after_part (note_loop names up) next (note_at at (assert_note p)) d) f c rest g h
note_part names up limit next (folds_note at n v a xs b c) rest g h =
    pass limit (up + 1) (fold_plan names up (after_part (note_loop names up) next) at) at (spell_instance n v a xs b c rest) (omega (arith, h))
    ∙ instance_enters limit names up (λ i d. after_part (note_loop names up) next (note_at at (fold_note i)) d) n v a xs b c rest g.0 g.1 h
note_part names up limit next (unfolds_note at n v a xs b c) rest g h =
    pass limit (up + 1) (unfold_plan names up (after_part (note_loop names up) next) at) at (spell_instance n v a xs b c rest) (omega (arith, h))
    ∙ instance_enters limit names up (λ i d. after_part (note_loop names up) next (note_at at (unfold_note i)) d) n v a xs b c rest g.0 g.1 h

-- ---- an annotation among statements: its first note, behind which the others come
abbrev assert_await : List (List ℕ) → ℕ → (NoteTree → ℕ → Plan) → Plan
assert_await names up more = await (up + 1) (word_mark key.Assert) (assert_plan names (up + 1) more)

abbrev assert_peek : List (List ℕ) → ℕ → (StmtTree → ℕ → Plan) → Place → Plan
assert_peek names up next o = peek (up + 1) (word_mark key.Assert) (assert_plan names (up + 1) (other_notes names up next o)) (expect close_mark (λ e. next (notes_stmt o []) 0))

first_folding : (limit : ℕ) (names : List (List ℕ)) (up : ℕ) (more : NoteTree → ℕ → Plan) (others : Plan) (ts : List Token) → is (word_mark key.Fold) (first ts) ≡ false → is (word_mark key.Unfold) (first ts) ≡ false → run limit (folding names up more others) ts ≡ run limit others ts
first_folding limit names up more others ts no_fold no_unfold =
    skip limit (up + 2) (word_mark key.Fold) (fold_plan names (up + 1) more) (peek (up + 2) (word_mark key.Unfold) (unfold_plan names (up + 1) more) others) ts no_fold
    ∙ skip limit (up + 2) (word_mark key.Unfold) (unfold_plan names (up + 1) more) others ts no_unfold

folds_enter : (limit : ℕ) (names : List (List ℕ)) (up : ℕ) (more : NoteTree → ℕ → Plan) (others : Plan) (at n : Place) (v : List ℕ) (a : Place) (xs : Args) (b c : Place) (rest : List Token) → IsFree names v → GoodArgs names value xs → up + 1 + (depth_args xs + 1) ≤ limit → run limit (folding names up more others) (spell_note (folds_note at n v a xs b c) rest) ≡ run limit (more (note_tree (folds_note at n v a xs b c)) (depth_args xs + 1)) rest
folds_enter limit names up more others at n v a xs b c rest free g h =
    take limit (up + 2) (word_mark key.Fold) (fold_plan names (up + 1) more) (peek (up + 2) (word_mark key.Unfold) (unfold_plan names (up + 1) more) others) at (spell_instance n v a xs b c rest) (omega (arith, h))
    ∙ instance_enters limit names (up + 1) (λ i d. more (note_at at (fold_note i)) d) n v a xs b c rest free g h

unfolds_enter : (limit : ℕ) (names : List (List ℕ)) (up : ℕ) (more : NoteTree → ℕ → Plan) (others : Plan) (at n : Place) (v : List ℕ) (a : Place) (xs : Args) (b c : Place) (rest : List Token) → IsFree names v → GoodArgs names value xs → up + 1 + (depth_args xs + 1) ≤ limit → run limit (folding names up more others) (spell_note (unfolds_note at n v a xs b c) rest) ≡ run limit (more (note_tree (unfolds_note at n v a xs b c)) (depth_args xs + 1)) rest
unfolds_enter limit names up more others at n v a xs b c rest free g h =
    skip limit (up + 2) (word_mark key.Fold) (fold_plan names (up + 1) more) (peek (up + 2) (word_mark key.Unfold) (unfold_plan names (up + 1) more) others) (spell_note (unfolds_note at n v a xs b c) rest) refl
    ∙ take limit (up + 2) (word_mark key.Unfold) (unfold_plan names (up + 1) more) others at (spell_instance n v a xs b c rest) (omega (arith, h))
    ∙ instance_enters limit names (up + 1) (λ i d. more (note_at at (unfold_note i)) d) n v a xs b c rest free g h

first_note : (limit : ℕ) (names : List (List ℕ)) (whole : Bool) (up : ℕ) (next : StmtTree → ℕ → Plan) (o : Place) (x : NoteText) (rest : List Token) → GoodNote names x → up + 1 + depth_note x ≤ limit → run limit (annotation_plan names whole up next o) (spell_note x rest) ≡ run limit (other_notes names up next o (note_tree x) (depth_note x)) rest
first_note limit names true up next o (asserts_note at f c) rest g h =
    let more : NoteTree → ℕ → Plan = other_notes names up next o in
    let ts = spell_formula f (symbol mark.Semicolon c ∷ rest) in
    first_folding limit names up more (assert_peek names up next o) (spell_note (asserts_note at f c) rest) refl refl
    ∙ take limit (up + 1) (word_mark key.Assert) (assert_plan names (up + 1) more) (expect close_mark (λ e. next (notes_stmt o []) 0)) at ts (omega (arith, h))
    ∙ stated_enters limit names (up + 1) (λ p d. more (note_at at (assert_note p)) d) f c rest g h
first_note limit names false up next o (asserts_note at f c) rest g h =
    let more : NoteTree → ℕ → Plan = other_notes names up next o in
    let ts = spell_formula f (symbol mark.Semicolon c ∷ rest) in
    first_folding limit names up more (assert_await names up more) (spell_note (asserts_note at f c) rest) refl refl
    ∙ eat limit (up + 1) (word_mark key.Assert) (assert_plan names (up + 1) more) at ts (omega (arith, h))
    ∙ stated_enters limit names (up + 1) (λ p d. more (note_at at (assert_note p)) d) f c rest g h
first_note limit names true up next o (folds_note at n v a xs b c) rest g h = folds_enter limit names up (other_notes names up next o) (assert_peek names up next o) at n v a xs b c rest g.0 g.1 h
first_note limit names false up next o (folds_note at n v a xs b c) rest g h = folds_enter limit names up (other_notes names up next o) (assert_await names up (other_notes names up next o)) at n v a xs b c rest g.0 g.1 h
first_note limit names true up next o (unfolds_note at n v a xs b c) rest g h = unfolds_enter limit names up (other_notes names up next o) (assert_peek names up next o) at n v a xs b c rest g.0 g.1 h
first_note limit names false up next o (unfolds_note at n v a xs b c) rest g h = unfolds_enter limit names up (other_notes names up next o) (assert_await names up (other_notes names up next o)) at n v a xs b c rest g.0 g.1 h

pub notes_enter : (limit : ℕ) (names : List (List ℕ)) (whole : Bool) (up : ℕ) (next : StmtTree → ℕ → Plan) (o : Place) (x : NoteText) (xs : List NoteText) (e : Place) (rest : List Token) → Each (GoodNote names) (x ∷ xs) → up + depth_notes (x ∷ xs) ≤ limit → run limit (annotation_plan names whole up next o) (spell_all spell_note (x ∷ xs) (ends_annotation e ∷ rest)) ≡ run limit (next (notes_stmt o (map note_tree (x ∷ xs))) (depth_notes (x ∷ xs))) rest
notes_enter limit names whole up next o x xs e rest g h =
    let made : List NoteTree → ℕ → Plan = λ ns d. next (notes_stmt o (note_tree x ∷ ns)) (max (depth_note x) d + 1) in
    first_note limit names whole up next o x (spell_all spell_note xs (ends_annotation e ∷ rest)) g.0 (omega (arith, h))
    ∙ list_enters (note_loop names (up + 1)) (note_part names (up + 1)) limit (λ ns d. expect close_mark (λ z. made ns d)) xs (ends_annotation e ∷ rest) g.1 (omega (arith, h)) (λ n p. refl)
    ∙ eat_on limit close_mark (λ z. made (map note_tree xs) (depth_all depth_note xs)) e rest

-- an annotation without clauses
pub no_notes_enter : (limit : ℕ) (names : List (List ℕ)) (up : ℕ) (next : StmtTree → ℕ → Plan) (o e : Place) (rest : List Token) → run limit (annotation_plan names true up next o) (ends_annotation e ∷ rest) ≡ run limit (next (notes_stmt o []) 0) rest
no_notes_enter limit names up next o e rest =
    first_folding limit names up (other_notes names up next o) (assert_peek names up next o) (ends_annotation e ∷ rest) refl refl
    ∙ skip limit (up + 1) (word_mark key.Assert) (assert_plan names (up + 1) (other_notes names up next o)) (expect close_mark (λ z. next (notes_stmt o []) 0)) (ends_annotation e ∷ rest) refl
    ∙ eat_on limit close_mark (λ z. next (notes_stmt o []) 0) e rest
