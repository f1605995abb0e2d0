-- In lowered code an operator has a site exactly where it may fault, and both heads of a loop have one ordinal.
use Rattle.std.proofs.Common.{◌≡◌, ℕ, ◌+◌, Bool, true, false, ◌&&◌, eqb, List, ◌∷◌, ◌++◌, Option, Some, None, is_some, refl, sym, ap, ◌∙◌}
use Rattle.std.proofs.lemmas.Bool.{eq-eqb}
use Rattle.std.specs.Prelude.{IsTrue, count_by}
use Rattle.gc0_base.specs.declared.place.Place.{Place}
use Rattle.gc0_base.specs.declared.site.Site.{Site}
use Rattle.gc0_base.specs.declared.site.Decision.{Decision}
use Rattle.gc0_base.specs.declared.site.Kind.TheVariants as kind
use Rattle.gc0_tree.specs.declared.Shape.{Shape}
use Rattle.gc0_tree.specs.declared.Shape.TheVariants.{Int}
use Rattle.gc0_tree.specs.declared.ExprOp.{ExprOp}
use Rattle.gc0_tree.specs.declared.ExprOp.TheVariants as op
use Rattle.gc0_tree.specs.Tree.{Tree, number_at, truth_at, null_at, local_at, result_at, unary_at, binary_at, both_at, either_at, choose_at, read_at, call_at, library_at, alloc_at, Trees, no_trees, tree_and, Formula, assert_note, fold_note, unfold_note, Stmt, declare_at, assign_at, write_at, plain_at, block_at, if_at, while_at, for_at, return_at, assert_at, raise_at, note_at, Stmts, no_stmts, stmt_and, Function, Program}
use Rattle.gc0_tree.specs.Fits.{Room}
use Rattle.gc0_tree.specs.Sites.{sites_of, reads_input, second, tree_tokens, trees_tokens, stmt_tokens, stmts_tokens, tokens, is_before}
use Rattle.core_tree.specs.declared.Simple.{Simple}
use Rattle.core_tree.specs.declared.Simple.TheVariants as simple
use Rattle.core_tree.specs.CoreTree.{do_step, do_load, do_store, do_if, Code, no_code, code_and}
use Rattle.core_meaning.specs.CoreSited.{same_truth, stmt_sited, code_sited}
use Rattle.lowering_laws.specs.Counts.{Counts, fresh, with_temp, with_constant, decided, counted, is_constant, tree_shape}
use Rattle.lowering_laws.specs.Trees.{Target, join, one, temp, value_of, argument_code, site_if, operator_code, tree_code, args_code, first_code}
use Rattle.lowering_laws.specs.Statements.{room_of, headed, stmt_next, stmts_next, declare_code, assign_code, write_code, loop_code, stmt_code, stmts_code}
use Rattle.lowering_laws.specs.Lowering.{target, close_code, start_choices, body_code}

-- ---- the first head and the later ones have the same tokens
same_both : (a b c d : List Place) → a ≡ b → c ≡ d → a ++ c ≡ b ++ d
same_both a b c d h k = ap (λ l. l ++ c) h ∙ ap (λ l. b ++ l) k

mutual
  tree_heads : (e : Tree) → tree_tokens kind.Entry e ≡ tree_tokens kind.Again e
  tree_heads (number_at at n) = refl
  tree_heads (truth_at at b) = refl
  tree_heads (null_at at) = refl
  tree_heads (local_at at i) = refl
  tree_heads (result_at at) = refl
  tree_heads (unary_at at o a) = tree_heads a
  tree_heads (binary_at at o a b) = same_both _ _ _ _ (tree_heads a) (tree_heads b)
  tree_heads (both_at at a b) = same_both _ _ _ _ (tree_heads a) (tree_heads b)
  tree_heads (either_at at a b) = same_both _ _ _ _ (tree_heads a) (tree_heads b)
  tree_heads (choose_at at x a b) = same_both _ _ _ _ (tree_heads x) (same_both _ _ _ _ (tree_heads a) (tree_heads b))
  tree_heads (read_at at a s f) = tree_heads a
  tree_heads (call_at at g es) = trees_heads es
  tree_heads (library_at at l es t) = trees_heads es
  tree_heads (alloc_at at s) = refl

  trees_heads : (es : Trees) → trees_tokens kind.Entry es ≡ trees_tokens kind.Again es
  trees_heads no_trees = refl
  trees_heads (tree_and e es) = same_both _ _ _ _ (tree_heads e) (trees_heads es)

mutual
  stmt_heads : (a : Stmt) → stmt_tokens kind.Entry a ≡ stmt_tokens kind.Again a
  stmt_heads (declare_at at i es) = trees_heads es
  stmt_heads (assign_at at i None op_at e) = tree_heads e
  stmt_heads (assign_at at i (Some o) op_at e) = tree_heads e
  stmt_heads (write_at at base s f arrow None op_at e) = same_both _ _ _ _ (tree_heads base) (tree_heads e)
  stmt_heads (write_at at base s f arrow (Some o) op_at e) = same_both _ _ _ _ (tree_heads base) (tree_heads e)
  stmt_heads (plain_at at e) = tree_heads e
  stmt_heads (block_at at ss) = stmts_heads ss
  stmt_heads (if_at at c a b) = same_both _ _ _ _ (tree_heads c) (same_both _ _ _ _ (stmt_heads a) (stmts_heads b))
  stmt_heads (while_at at inv c a) = same_both (at ∷ tree_tokens kind.Entry c) (at ∷ tree_tokens kind.Again c) _ _ (ap (λ l. at ∷ l) (tree_heads c)) (stmt_heads a)
  stmt_heads (for_at at first c last inv a) =
      ap (λ l. at ∷ l) (same_both _ _ _ _ (stmts_heads first) (same_both _ _ _ _ (tree_heads c) (same_both _ _ _ _ (stmts_heads last) (stmt_heads a))))
  stmt_heads (return_at at es) = trees_heads es
  stmt_heads (assert_at at e) = tree_heads e
  stmt_heads (raise_at at t) = refl
  stmt_heads (note_at at assert_note formula) = refl
  stmt_heads (note_at at fold_note formula) = refl
  stmt_heads (note_at at unfold_note formula) = refl

  stmts_heads : (ss : Stmts) → stmts_tokens kind.Entry ss ≡ stmts_tokens kind.Again ss
  stmts_heads no_stmts = refl
  stmts_heads (stmt_and a ss) = same_both _ _ _ _ (stmt_heads a) (stmts_heads ss)

pub same_heads : (f : Function) → tokens f kind.Entry ≡ tokens f kind.Again
same_heads f = stmts_heads f.body

pub one_ordinal : (g : ℕ) (f : Function) (at : Place) → eqb (sites_of g f kind.Entry at).ordinal (sites_of g f kind.Again at).ordinal ≡ true
one_ordinal g f at = eq-eqb _ _ (ap (λ (l : List Place). count_by (λ t. is_before t at) l) (same_heads f))

-- ---- code
record IsSited (a : Code) : Type 0 where
  is : IsTrue (code_sited a)

pub true_both : (a b : Bool) → a ≡ true → b ≡ true → (a && b) ≡ true
true_both true b h k = k
true_both false b h k = h

and_assoc : (a b c : Bool) → ((a && b) && c) ≡ (a && (b && c))
and_assoc true b c = refl
and_assoc false b c = refl

sited_join : (a b : Code) → code_sited (join a b) ≡ (code_sited a && code_sited b)
sited_join no_code b = refl
sited_join (code_and s a) b = ap (λ t. stmt_sited s && t) (sited_join a b) ∙ sym (and_assoc (stmt_sited s) (code_sited a) (code_sited b))

both : (a b : Code) → IsSited a → IsSited b → IsSited (join a b)
both a b h k = record { is = sited_join a b ∙ true_both (code_sited a) (code_sited b) h.is k.is }

branches : (d : Decision) (v : Simple) (these those : Code) → IsSited these → IsSited those → IsSited (one (do_if d v these those))
branches d v these those h k = record { is = true_both (code_sited these && code_sited those) true (true_both (code_sited these) (code_sited those) h.is k.is) refl }

stepped : (a : Code) → IsSited a → IsSited (code_and do_step a)
stepped a h = record { is = h.is }

argument_quiet : (b : Bool) (to : ℕ) (v : Simple) → IsSited (argument_code b to v)
argument_quiet true to v = record { is = refl }
argument_quiet false to v = record { is = refl }

operator_sited : (to : ℕ) (o : ExprOp) (site : Site) (a b : Simple) → IsSited (operator_code to o site a b)
operator_sited to op.Add site a b = record { is = refl }
operator_sited to op.Sub site a b = record { is = refl }
operator_sited to op.Mul site a b = record { is = refl }
operator_sited to op.Div site a b = record { is = refl }
operator_sited to op.Rem site a b = record { is = refl }
operator_sited to op.Shl site a b = record { is = refl }
operator_sited to op.Shr site a b = record { is = refl }
operator_sited to op.And site a b = record { is = refl }
operator_sited to op.Or site a b = record { is = refl }
operator_sited to op.Xor site a b = record { is = refl }
operator_sited to op.Less site a b = record { is = refl }
operator_sited to op.LessEq site a b = record { is = refl }
operator_sited to op.Greater site a b = record { is = refl }
operator_sited to op.GreaterEq site a b = record { is = refl }
operator_sited to op.Equal site a b = record { is = refl }
operator_sited to op.NotEqual site a b = record { is = refl }

input_sited : (b : Bool) (site : Site) → (same_truth (is_some (site_if b site)) b && true) ≡ true
input_sited true site = refl
input_sited false site = refl

module _ (p : Program) (g : ℕ) (f : Function) (slot : Shape → ℕ → ℕ) where
  abbrev w : Target
  w = record { function = g; at = sites_of g f; slot = slot }

  module _ (r : Room) where
    mutual
      tree_sited : (c : Counts) (e : Tree) → IsSited (tree_code p r w c e)
      tree_sited c (number_at at n) = record { is = refl }
      tree_sited c (truth_at at b) = record { is = refl }
      tree_sited c (null_at at) = record { is = refl }
      tree_sited c (local_at at i) = record { is = refl }
      tree_sited c (result_at at) = record { is = refl }
      tree_sited c (unary_at at o a) = both (tree_code p r w c a) _ (tree_sited c a) (record { is = refl })
      tree_sited c (binary_at at o a b) =
          both (tree_code p r w c a) _ (tree_sited c a) (both (tree_code p r w (counted p r c a) b) _ (tree_sited (counted p r c a) b) (operator_sited _ o _ _ _))
      tree_sited c (both_at at a b) =
          let c1 : Counts = decided 1 (counted p r c a) in
          both (tree_code p r w c a) _ (tree_sited c a) (branches _ _ _ _ (both (tree_code p r w c1 b) _ (tree_sited c1 b) (record { is = refl })) (record { is = refl }))
      tree_sited c (either_at at a b) =
          let c1 : Counts = decided 1 (counted p r c a) in
          both (tree_code p r w c a) _ (tree_sited c a) (branches _ _ _ _ (record { is = refl }) (both (tree_code p r w c1 b) _ (tree_sited c1 b) (record { is = refl })))
      tree_sited c (choose_at at x a b) =
          let c1 : Counts = decided 1 (counted p r c x) in
          let c2 : Counts = counted p r c1 a in
          both (tree_code p r w c x) _ (tree_sited c x)
          (branches _ _ _ _ (both (tree_code p r w c1 a) _ (tree_sited c1 a) (record { is = refl })) (both (tree_code p r w c2 b) _ (tree_sited c2 b) (record { is = refl })))
      tree_sited c (read_at at a k field) = both (tree_code p r w c a) _ (tree_sited c a) (record { is = refl })
      tree_sited c (call_at at h es) = both (args_code p r w c es) _ (args_sited c es) (record { is = refl })
      tree_sited c (library_at at l es t) = both (first_code p r w c es) _ (first_sited c es) (record { is = input_sited (reads_input l) _ })
      tree_sited c (alloc_at at k) = record { is = refl }

      args_sited : (c : Counts) (es : Trees) → IsSited (args_code p r w c es)
      args_sited c no_trees = record { is = refl }
      args_sited c (tree_and e es) =
          let c1 : Counts = counted p r c e in
          both (tree_code p r w c e) _ (tree_sited c e)
          (both (argument_code (is_constant e) (temp w (tree_shape p r e) c1) (value_of p r w c e)) _ (argument_quiet (is_constant e) _ _)
          (args_sited (with_constant (is_constant e) (tree_shape p r e) c1) es))

      first_sited : (c : Counts) (es : Trees) → IsSited (first_code p r w c es)
      first_sited c no_trees = record { is = refl }
      first_sited c (tree_and e es) = tree_sited c e

    declare_sited : (c : Counts) (i : ℕ) (es : Trees) → IsSited (declare_code p r w c i es)
    declare_sited c i no_trees = record { is = refl }
    declare_sited c i (tree_and e es) = both (tree_code p r w c e) _ (tree_sited c e) (record { is = refl })

    assign_sited : (c : Counts) (i : ℕ) (o : Option ExprOp) (op_at : Place) (e : Tree) → IsSited (assign_code p r w c i o op_at e)
    assign_sited c i None op_at e = both (tree_code p r w c e) _ (tree_sited c e) (record { is = refl })
    assign_sited c i (Some o) op_at e = both (tree_code p r w c e) _ (tree_sited c e) (operator_sited i o _ _ _)

    write_sited : (c : Counts) (base : Tree) (k field : ℕ) (arrow : Place) (o : Option ExprOp) (op_at : Place) (e : Tree) → IsSited (write_code p r w c base k field arrow o op_at e)
    write_sited c base k field arrow None op_at e =
        both (tree_code p r w c base) _ (tree_sited c base) (both (tree_code p r w (counted p r c base) e) _ (tree_sited (counted p r c base) e) (record { is = refl }))
    write_sited c base k field arrow (Some o) op_at e =
        let to : ℕ = temp w Int (counted p r c base) in
        let c1 : Counts = with_temp Int (counted p r c base) in
        let store : Code = one (do_store (value_of p r w c base) k field (simple.Local to) (second (sites_of g f kind.Access arrow))) in
        both (tree_code p r w c base) _ (tree_sited c base)
        (both (one (do_load to (value_of p r w c base) k field (sites_of g f kind.Access arrow))) _ (record { is = refl })
        (both (tree_code p r w c1 e) _ (tree_sited c1 e)
        (both (operator_code to o (sites_of g f kind.Trap op_at) (simple.Local to) (value_of p r w c1 e)) store (operator_sited to o _ _ _) (record { is = refl }))))

    loop_sited : (n : ℕ) (place : Place) (inv : Formula) (e : Tree) (body : Code) → IsSited body → IsSited (loop_code p r w n place inv e body)
    loop_sited n place inv e body h = record {
      is =
          true_both _ true
          (true_both (eqb (sites_of g f kind.Entry place).ordinal (sites_of g f kind.Again place).ordinal) _ (one_ordinal g f place)
          (true_both (code_sited (tree_code p r w (fresh (headed n inv)) e)) (code_sited body) (tree_sited (fresh (headed n inv)) e).is h.is))
          refl;
    }

  abbrev r : Room
  r = room_of f

  mutual
    stmt_due : (n : ℕ) (s : Stmt) → IsSited (stmt_code p f w n s)
    stmt_due n (declare_at at i es) = stepped _ (declare_sited r (fresh n) i es)
    stmt_due n (assign_at at i o op_at e) = stepped _ (assign_sited r (fresh n) i o op_at e)
    stmt_due n (write_at at base k field arrow o op_at e) = stepped _ (write_sited r (fresh n) base k field arrow o op_at e)
    stmt_due n (plain_at at e) = stepped _ (tree_sited r (fresh n) e)
    stmt_due n (block_at at ss) = stmts_due n ss
    stmt_due n (if_at at e a b) =
        let n1 : ℕ = (counted p r (fresh n) e).next + 1 in
        stepped _ (both (tree_code p r w (fresh n) e) _ (tree_sited r (fresh n) e) (branches _ _ _ _ (stmt_due n1 a) (stmts_due (stmt_next p f n1 a) b)))
    stmt_due n (while_at at inv e a) = loop_sited r n at inv e _ (stmt_due ((counted p r (fresh (headed n inv)) e).next + 1) a)
    stmt_due n (for_at at first e last inv a) =
        let n1 : ℕ = stmts_next p f n first in
        let n2 : ℕ = (counted p r (fresh (headed n1 inv)) e).next + 1 in
        both (stmts_code p f w n first) _ (stmts_due n first)
        (loop_sited r n1 at inv e _ (both (stmt_code p f w n2 a) _ (stmt_due n2 a) (stmts_due (stmt_next p f n2 a) last)))
    stmt_due n (return_at at es) = stepped _ (both (first_code p r w (fresh n) es) _ (first_sited r (fresh n) es) (record { is = refl }))
    stmt_due n (assert_at at e) = stepped _ (both (tree_code p r w (fresh n) e) _ (tree_sited r (fresh n) e) (record { is = refl }))
    stmt_due n (raise_at at t) = record { is = refl }
    stmt_due n (note_at at k formula) = record { is = refl }

    stmts_due : (n : ℕ) (ss : Stmts) → IsSited (stmts_code p f w n ss)
    stmts_due n no_stmts = record { is = refl }
    stmts_due n (stmt_and s ss) = both (stmt_code p f w n s) _ (stmt_due n s) (stmts_due (stmt_next p f n s) ss)

close_due : (t : Target) (f : Function) (o : Option Shape) → IsSited (close_code t f o)
close_due t f None = record { is = refl }
close_due t f (Some s) = record { is = refl }

-- the operators, library calls and loops of a body have the sites that they are to have
pub body_sited : (p : Program) (g : ℕ) (f : Function) → IsTrue (code_sited (body_code p g f))
body_sited p g f =
    (both (stmts_code p f (target p g f) (start_choices p g f) f.body) _ (stmts_due p g f (target p g f).slot (start_choices p g f) f.body) (close_due (target p g f) f f.result)).is
