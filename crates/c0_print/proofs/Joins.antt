-- Texts that grow at their end, part by part.
use Rattle.std.proofs.Common.{◌≡◌, ℕ, zero, suc, ◌+◌, Bool, true, false, List, [], ◌∷◌, ◌++◌, Option, Some, None, refl, sym, ap, ◌∙◌, append_assoc, arith}
use Rattle.std.proofs.lemmas.List.{append-nil}
use Rattle.std.specs.Prelude.{codes}
use Rattle.parsed_tree.specs.declared.expressions.Named.{Named}
use Rattle.parsed_tree.specs.declared.expressions.TypeName.{TypeName}
use Rattle.gc0_base.specs.declared.place.Place.{Place}
use Rattle.parsed_tree.specs.Tree.{ExprTree, declare, StmtTree, StmtTrees, no_stmts, stmt_and, if_stmt}
use Rattle.c0_grammar.specs.Written.{Written}
use Rattle.c0_layout.specs.Lists.{all_text}
use Rattle.c0_layout.specs.Layout.{expr_text, star_text, typed_text, simple_text, line_text, test_text}
use Rattle.c0_print.specs.Printing.{nowheres, written, type_of, initial_text, simple_of, else_text, line_of}
use Rattle.c0_layout.specs.Rounding.{rounded, open_text, close_text}

pub initial_joined : (t : TypeName) (n : Named) (v : Option (Place × ExprTree)) → typed_text (type_of t) n.name ++ initial_text v ≡ simple_text (simple_of (declare t n v))
initial_joined t n None = append-nil (typed_text (type_of t) n.name)
initial_joined t n (Some v) = refl

pub else_joined : (p : Place) (e : ExprTree) (s : StmtTree) (os : StmtTrees) → test_text (codes "if") (written e) ++ (line_text (line_of s) ++ else_text os) ≡ line_text (line_of (if_stmt p e s os))
else_joined p e s no_stmts = ap (λ l. test_text (codes "if") (written e) ++ l) (append-nil (line_text (line_of s)))
else_joined p e s (stmt_and m ms) = refl

more_stars : (n : ℕ) → all_text star_text (nowheres (suc n)) ≡ all_text star_text (nowheres n) ++ 42 ∷ []
more_stars zero = refl
more_stars (suc n) = ap (λ l. 42 ∷ l) (more_stars n)

pub stars_more : (n : ℕ) → all_text star_text (nowheres (n + 1)) ≡ all_text star_text (nowheres n) ++ 42 ∷ []
stars_more n =
    let e : n + 1 ≡ suc n = omega arith in
    ap (λ m. all_text star_text (nowheres m)) e ∙ more_stars n

-- one more star behind those that stand there
pub one_more_star : (front text : List ℕ) (n : ℕ) → text ≡ front ++ all_text star_text (nowheres n) → text ++ 42 ∷ [] ≡ front ++ all_text star_text (nowheres (n + 1))
one_more_star front text n h =
    ap (λ l. l ++ 42 ∷ []) h
    ∙ append_assoc front (all_text star_text (nowheres n)) (42 ∷ [])
    ∙ ap (λ l. front ++ l) (sym (stars_more n))
