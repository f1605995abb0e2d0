-- What is written for an expression that the grammar allows is no deeper.
use Rattle.std.proofs.Common.{◌≡◌, ℕ, zero, suc, ◌+◌, ◌≤◌, max, Bool, true, false, cond, nat_le, List, [], ◌∷◌, map, Option, Some, None, refl, sym, ap, ◌∙◌, subst, arith}
use Rattle.std.proofs.lemmas.Bool.{le-leb}
use Rattle.gc0_base.specs.declared.place.Place.{Place}
use Rattle.c0_grammar.specs.Written.{Written, digits, truth_token, null_token, word, result_word, before, between, choice, round, called, called_text, allocated, arrow_to, permission, Args, no_args, some_args, More, no_more, more_and, tree_of, args_trees, more_trees, depth, depth_args, depth_more, FormulaText, unknown, unknown_and, known, formula_tree, depth_formula}
use Rattle.c0_grammar.specs.Allowed.{rank, ranks, height, is_primary, is_path, Mode, code, conjunct, value, inside, right_of, base_fits, Good, GoodArgs, GoodMore, GoodFormula}
use Rattle.c0_layout.specs.Rounding.{rounded, is_wide, closed, is_no_primary, based}
use Rattle.c0_print.specs.Printing.{written, args_of, more_of, formula_of}
use Rattle.c0_print.proofs.Allowed.{from_same, primary_based, path_primary}

pub up : (a b : ℕ) → a ≤ b → a + 1 ≤ b + 1
up a b h = omega arith

pub max_le : (a b c d : ℕ) → a ≤ c → b ≤ d → max a b ≤ max c d
max_le a b c d h k = omega arith

rounded_depth : (b : Bool) (w : Written) → depth (rounded b w) ≤ depth w + 1
rounded_depth true w = omega arith
rounded_depth false w = omega arith

closed_same : (k : ℕ) (w : Written) → height w ≤ k → closed k w ≡ w
closed_same k w h = ap (λ b. rounded (cond b false true) w) (le-leb (height w) k h)

-- what is written for it is no deeper, also where it has to bind so much or to stand before a `->`
record Thin (w : Written) : Type 0 where
  plain : depth (written (tree_of w)) ≤ depth w
  within : (k : ℕ) → height w ≤ k → depth (closed k (written (tree_of w))) ≤ depth w
  before_arrow : is_primary w ≡ true → depth (based (written (tree_of w))) ≤ depth w

le_along : (a b c : ℕ) → a ≡ b → b ≤ c → a ≤ c
le_along a b c e h = omega arith

-- one that stands without parentheses binds as it did
kept : (w : Written) → height (written (tree_of w)) ≡ height w → is_primary (written (tree_of w)) ≡ is_primary w → depth (written (tree_of w)) ≤ depth w → Thin w
kept w h p d = record {
  plain = d;
  within = λ k l. le_along (depth (closed k (written (tree_of w)))) (depth (written (tree_of w))) (depth w) (ap depth (closed_same k (written (tree_of w)) (omega arith))) d;
  before_arrow = λ q. le_along (depth (based (written (tree_of w)))) (depth (written (tree_of w))) (depth w) (ap depth (primary_based (written (tree_of w)) (p ∙ q))) d;
}

-- a pair of parentheses has room for a pair
in_round : (a : Place) (x : Written) (b : Place) → Thin x → Thin (round a x b)
in_round a x b t =
    let e = from_same a (tree_of x) in
    let u = written (tree_of x) in
    let p : depth u ≤ depth x = t.plain in
    record {
      plain = le_along (depth (written (tree_of (round a x b)))) (depth u) (depth x + 1) (ap depth e) (omega arith);
      within = λ k l.
          let r : depth (closed k u) ≤ depth u + 1 = rounded_depth (is_wide k u) u in
          le_along (depth (closed k (written (tree_of (round a x b))))) (depth (closed k u)) (depth x + 1) (ap (λ v. depth (closed k v)) e) (omega arith);
      before_arrow = λ q.
          let r : depth (based u) ≤ depth u + 1 = rounded_depth (is_no_primary u) u in
          le_along (depth (based (written (tree_of (round a x b))))) (depth (based u)) (depth x + 1) (ap (λ v. depth (based v)) e) (omega arith);
    }

fits_primary : (m : Mode) (x : Written) → base_fits m x ≡ true → is_primary x ≡ true
fits_primary code x h = h
fits_primary conjunct x h = path_primary x h
fits_primary value x h = path_primary x h

two : (a b : ℕ) → a ≤ b → a + 2 ≤ b + 2
two a b h = omega arith

at_zero : (a : ℕ) → a ≡ 0 → a ≤ 0
at_zero a h = omega arith

rank_up : (a k : ℕ) → a ≤ suc k → a ≤ k + 1
rank_up a k h = omega arith

module _ (names : List (List ℕ)) where
  mutual
    thin : (m : Mode) (w : Written) → Good names m w → Thin w
    thin m (digits at w) g = kept (digits at w) refl refl (omega arith)
    thin m (truth_token at b) g = kept (truth_token at b) refl refl (omega arith)
    thin m (null_token at) g = kept (null_token at) refl refl (omega arith)
    thin m (word at n) g = kept (word at n) refl refl (omega arith)
    thin m (result_word at) g = kept (result_word at) refl refl (omega arith)
    thin m (before at o x) g =
        kept (before at o x) refl refl (up (depth (closed 0 (written (tree_of x)))) (depth x) ((thin (inside m) x g.0).within 0 (at_zero (height x) g.1)))
    thin m (between x at o y) g =
        let u = depth (closed (rank o + 1) (written (tree_of x))) in
        let v = depth (closed (rank o) (written (tree_of y))) in
        kept (between x at o y) refl refl
        (up (max u v) (max (depth x) (depth y))
        (max_le u v (depth x) (depth y) ((thin m x g.0).within (rank o + 1) (rank_up (height x) (rank o) g.2)) ((thin (right_of m o) y g.1).within (rank o) g.3)))
    thin m (choice x q y c z) g =
        let u = depth (closed ranks (written (tree_of x))) in
        let v = depth (written (tree_of y)) in
        let w = depth (written (tree_of z)) in
        kept (choice x q y c z) refl refl
        (up (max u (max v w)) (max (depth x) (max (depth y) (depth z)))
        (max_le u (max v w) (depth x) (max (depth y) (depth z)) ((thin m x g.0).within ranks g.3) (max_le v w (depth y) (depth z) (thin m y g.1).plain (thin m z g.2).plain)))
    thin m (round a x b) g = in_round a x b (thin m x g)
    thin m (called at n a xs b) g = kept (called at n a xs b) refl refl (up (depth_args (args_of (args_trees xs))) (depth_args xs) (thin_args (inside m) xs g.2))
    thin m (called_text at n a t bytes b) g = kept (called_text at n a t bytes b) refl refl (omega arith)
    thin m (allocated at a t b) g = kept (allocated at a t b) refl refl (omega arith)
    thin m (arrow_to x at f n) g =
        kept (arrow_to x at f n) refl refl (up (depth (based (written (tree_of x)))) (depth x) ((thin m x g.0).before_arrow (fits_primary m x g.1)))
    thin m (permission at a x p f n b) g = kept (permission at a x p f n b) refl refl (two (depth (written (tree_of x))) (depth x) (thin value x g.1).plain)

    pub thin_args : (m : Mode) (xs : Args) → GoodArgs names m xs → depth_args (args_of (args_trees xs)) ≤ depth_args xs
    thin_args m no_args g = omega arith
    thin_args m (some_args x xs) g = max_le (depth (written (tree_of x))) (depth_more (more_of (more_trees xs))) (depth x) (depth_more xs) (thin m x g.0).plain (thin_more m xs g.1)

    pub thin_more : (m : Mode) (xs : More) → GoodMore names m xs → depth_more (more_of (more_trees xs)) ≤ depth_more xs
    thin_more m no_more g = omega arith
    thin_more m (more_and at x xs) g = max_le (depth (written (tree_of x))) (depth_more (more_of (more_trees xs))) (depth x) (depth_more xs) (thin m x g.0).plain (thin_more m xs g.1)

  pub thin_expr : (m : Mode) (w : Written) → Good names m w → depth (written (tree_of w)) ≤ depth w
  thin_expr m w g = (thin m w g).plain

  pub thin_formula : (f : FormulaText) → GoodFormula names f → depth_formula (formula_of (formula_tree f)) ≤ depth_formula f
  thin_formula (unknown at) g = omega arith
  thin_formula (unknown_and at a x) g = thin_expr conjunct x g
  thin_formula (known x) g = thin_expr conjunct x g
