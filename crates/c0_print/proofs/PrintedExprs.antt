-- What is written for the tree of a text can be shown, as what its tokens are can be: types, expressions
-- and formulas.
use Rattle.std.proofs.Common.{◌≡◌, ℕ, Bool, true, false, List, [], ◌∷◌, map, cond, refl, sym, subst, arith}
use Rattle.std.specs.Prelude.{nat_le}
use Rattle.std.proofs.lemmas.Bool.{leb-true}
use Rattle.gc0_base.specs.declared.place.Place.{Place}
use Rattle.parsed_tree.specs.Tree.{ExprTree, number, truth, null, local, outcome, unary, binary, choose, arrow, call, call_text, alloc, acc, from}
use Rattle.c0_grammar.specs.Tokens.{Token}
use Rattle.c0_grammar.specs.Lists.{Each, spell_all}
use Rattle.c0_grammar.specs.Written.{BaseText, int_word, bool_word, struct_word, alias_word, spell_base, base_tree, spell_star, TypeText, spell_type, type_tree, Written, digits, truth_token, null_token, word, result_word, before, between, choice, round, called, called_text, allocated, arrow_to, permission, Args, no_args, some_args, More, no_more, more_and, spell, spell_args, spell_more, tree_of, args_trees, more_trees, FormulaText, unknown, unknown_and, known, spell_formula, formula_tree}
use Rattle.c0_grammar.specs.Allowed.{ranks, height, is_primary}
use Rattle.c0_print.specs.Laws.{whats}
use Rattle.c0_print.specs.Printing.{base_of, type_of, written, args_of, more_of, formula_of}
use Rattle.c0_layout.specs.Rounding.{rounded, is_wide, closed, is_no_primary, based}
use Rattle.c0_print.proofs.Legible.{LegibleBase, LegibleType, Legible, LegibleArgs, LegibleMore, LegibleFormula}
use Rattle.c0_print.proofs.Sources.{CanAll}

-- ---- one after another
pub all_shown : {A B C : Type 0} (inside : Bool) (s : A → List Token → List Token) (g : A → B) (f : B → C) (P : C → Type 0) → ((x : A) (ts : List Token) → CanAll inside (whats (s x ts)) → P (f (g x)) × CanAll inside (whats ts))
    → (xs : List A) (ts : List Token) → CanAll inside (whats (spell_all s xs ts)) → Each P (map f (map g xs)) × CanAll inside (whats ts)
all_shown inside s g f P one [] ts h = (tt, h)
all_shown inside s g f P one (x ∷ xs) ts h =
    let first = one x (spell_all s xs ts) h in
    let more = all_shown inside s g f P one xs ts first.1 in
    ((first.0, more.0), more.1)

-- ---- types
base_shown : (inside : Bool) (b : BaseText) (ts : List Token) → CanAll inside (whats (spell_base b ts)) → LegibleBase inside (base_of (base_tree b)) × CanAll inside (whats ts)
base_shown inside (int_word at) ts h = (tt, h.1)
base_shown inside (bool_word at) ts h = (tt, h.1)
base_shown inside (struct_word at n name) ts h = (h.1.0, h.1.1)
base_shown inside (alias_word at name) ts h = (h.0, h.1)

stars_shown : (inside : Bool) (stars : List Place) (ts : List Token) → CanAll inside (whats (spell_all spell_star stars ts)) → CanAll inside (whats ts)
stars_shown inside [] ts h = h
stars_shown inside (at ∷ stars) ts h = stars_shown inside stars ts h.1

pub type_shown : (inside : Bool) (t : TypeText) (ts : List Token) → CanAll inside (whats (spell_type t ts)) → LegibleType inside (type_of (type_tree t)) × CanAll inside (whats ts)
type_shown inside t ts h =
    let base = base_shown inside t.base (spell_all spell_star t.stars ts) h in
    (base.0, stars_shown inside t.stars ts base.1)

-- ---- parentheses
rounded_shown : (inside : Bool) (b : Bool) (w : Written) → Legible inside w → Legible inside (rounded b w)
rounded_shown inside true w l = l
rounded_shown inside false w l = l

closed_shown : (inside : Bool) (k : ℕ) (w : Written) → Legible inside w → Legible inside (closed k w)
closed_shown inside k w l = rounded_shown inside (is_wide k w) w l

closed_flat : (w : Written) → height (closed 0 w) ≡ 0
closed_flat w =
    elim (nat_le (height w) 0) as (λ t. nat_le (height w) 0 ≡ t → height (rounded (cond t false true) w) ≡ 0) [
      | true ↦ λ e. let low = leb-true (height w) 0 e in omega arith
      | false ↦ λ e. refl
    ] refl

based_primary : (w : Written) → is_primary (based w) ≡ true
based_primary w =
    elim (is_primary w) as (λ t. is_primary w ≡ t → is_primary (rounded (cond t false true) w) ≡ true) [
      | true ↦ λ e. e
      | false ↦ λ e. refl
    ] refl

-- parentheses in the text are none in the tree
written_from : (a : Place) (e : ExprTree) → written (from a e) ≡ written e
written_from a (number s w) = refl
written_from a (truth s b) = refl
written_from a (null s) = refl
written_from a (local s n) = refl
written_from a (outcome s) = refl
written_from a (unary s o x) = refl
written_from a (binary s o x y) = refl
written_from a (choose s x y z) = refl
written_from a (arrow s x n) = refl
written_from a (call s n xs) = refl
written_from a (call_text s n t) = refl
written_from a (alloc s t) = refl
written_from a (acc s x p n) = refl

-- ---- expressions
module _ (inside : Bool) where
  mutual
    pub expr_shown : (x : Written) (ts : List Token) → CanAll inside (whats (spell x ts)) → Legible inside (written (tree_of x)) × CanAll inside (whats ts)
    expr_shown (digits at w) ts h = (h.0, h.1)
    expr_shown (truth_token at b) ts h = (tt, h.1)
    expr_shown (null_token at) ts h = (tt, h.1)
    expr_shown (word at n) ts h = (h.0, h.1)
    expr_shown (result_word at) ts h = (h.0, h.1)
    expr_shown (before at o x) ts h =
        let r = expr_shown x ts h.1 in
        let w = written (tree_of x) in
        ((closed_shown inside 0 w r.0, closed_flat w), r.1)
    expr_shown (between x at o y) ts h =
        let r = expr_shown x _ h in
        let q = expr_shown y ts r.1.1 in
        ((closed_shown inside _ (written (tree_of x)) r.0, closed_shown inside _ (written (tree_of y)) q.0), q.1)
    expr_shown (choice x q y c z) ts h =
        let r = expr_shown x _ h in
        let s = expr_shown y _ r.1.1 in
        let t = expr_shown z ts s.1.1 in
        ((closed_shown inside ranks (written (tree_of x)) r.0, s.0, t.0), t.1)
    expr_shown (round a x b) ts h =
        let r = expr_shown x _ h.1 in
        (subst (λ (w : Written). Legible inside w) (sym (written_from a (tree_of x))) r.0, r.1.1)
    expr_shown (called at n a xs b) ts h =
        let r = args_shown xs _ h.1.1 in
        ((h.0, r.0), r.1.1)
    expr_shown (called_text at n a t bytes b) ts h = ((h.0, h.1.1.0), h.1.1.1.1)
    expr_shown (allocated at a t b) ts h =
        let r = type_shown inside t _ h.1.1 in
        (r.0, r.1.1)
    expr_shown (arrow_to x at f n) ts h =
        let r = expr_shown x _ h in
        let w = written (tree_of x) in
        ((rounded_shown inside (is_no_primary w) w r.0, r.1.1.0, based_primary w), r.1.1.1)
    expr_shown (permission at a x p f n b) ts h =
        let r = expr_shown x _ h.1.1 in
        ((h.0, r.0, r.1.1.0), r.1.1.1.1)

    pub args_shown : (xs : Args) (ts : List Token) → CanAll inside (whats (spell_args xs ts)) → LegibleArgs inside (args_of (args_trees xs)) × CanAll inside (whats ts)
    args_shown no_args ts h = (tt, h)
    args_shown (some_args x xs) ts h =
        let r = expr_shown x (spell_more xs ts) h in
        let q = more_shown xs ts r.1 in
        ((r.0, q.0), q.1)

    more_shown : (xs : More) (ts : List Token) → CanAll inside (whats (spell_more xs ts)) → LegibleMore inside (more_of (more_trees xs)) × CanAll inside (whats ts)
    more_shown no_more ts h = (tt, h)
    more_shown (more_and at x xs) ts h =
        let r = expr_shown x (spell_more xs ts) h.1 in
        let q = more_shown xs ts r.1 in
        ((r.0, q.0), q.1)

pub formula_shown : (f : FormulaText) (ts : List Token) → CanAll true (whats (spell_formula f ts)) → LegibleFormula (formula_of (formula_tree f)) × CanAll true (whats ts)
formula_shown (unknown at) ts h = (tt, h.1)
formula_shown (unknown_and at a x) ts h = expr_shown true x ts h.1.1
formula_shown (known x) ts h = expr_shown true x ts h
