-- The sites of lowered code are those that are placed, in their order.
use Rattle.std.proofs.Common.{◌≡◌, ℕ, ◌+◌, Bool, true, false, List, [], ◌∷◌, ◌++◌, map, Option, Some, None, refl, sym, ap, ◌∙◌, append_assoc}
use Rattle.std.proofs.lemmas.List.{append-nil, map-append}
use Rattle.gc0_base.specs.declared.place.Place.{Place}
use Rattle.gc0_base.specs.declared.site.Decision.{Decision}
use Rattle.gc0_base.specs.declared.site.Kind.TheVariants as kind
use Rattle.gc0_tree.specs.declared.Shape.{Shape}
use Rattle.gc0_tree.specs.declared.Shape.TheVariants.{Int}
use Rattle.gc0_tree.specs.declared.ExprOp.{ExprOp}
use Rattle.gc0_tree.specs.declared.ExprOp.TheVariants as op
use Rattle.gc0_tree.specs.Tree.{Tree, number_at, truth_at, null_at, local_at, result_at, unary_at, binary_at, both_at, either_at, choose_at, read_at, call_at, library_at, alloc_at, Trees, no_trees, tree_and, Formula, NoteKind, assert_note, fold_note, unfold_note, Stmt, declare_at, assign_at, write_at, plain_at, block_at, if_at, while_at, for_at, return_at, assert_at, raise_at, note_at, Stmts, no_stmts, stmt_and, Function, Program}
use Rattle.gc0_tree.specs.Fits.{Room}
use Rattle.gc0_tree.specs.Sites.{sites_of, may_fault, reads_input, second}
use Rattle.core_tree.specs.declared.Simple.{Simple}
use Rattle.core_tree.specs.declared.Simple.TheVariants as simple
use Rattle.core_tree.specs.CoreTree.{do_step, do_load, do_store, do_if, Code, no_code, code_and}
use Rattle.core_meaning.specs.CoreSited.{Sited, maybe_sited, stmt_sites, code_sites}
use Rattle.core_tables.specs.declared.PlacedSite.{PlacedSite}
use Rattle.lowering_laws.specs.Counts.{Counts, fresh, with_temp, with_constant, decided, counted, is_constant, tree_shape}
use Rattle.lowering_laws.specs.Trees.{Target, join, one, temp, value_of, argument_code, site_if, operator_code, tree_code, args_code, first_code}
use Rattle.lowering_laws.specs.Statements.{room_of, headed, stmt_next, stmts_next, declare_code, assign_code, write_code, loop_code, stmt_code, stmts_code}
use Rattle.lowering_laws.specs.Lowering.{target, close_code, start_choices, body_code}
use Rattle.lowering_laws.specs.Tables.{placed, placed_if, tree_placed, trees_placed, first_placed, op_placed, write_placed, loop_placed, stmt_placed, stmts_placed, close_placed, placed_of}

-- what the code is to have at a placed site
abbrev pub sited_of : PlacedSite → Sited
sited_of x = record { site = x.site; kind = x.site.kind; about = x.about }

pub record AreThere (a : Code) (xs : List PlacedSite) : Type 0 where
  pub is : code_sites a ≡ map sited_of xs

here : (a : Code) (xs : List PlacedSite) → code_sites a ≡ map sited_of xs → AreThere a xs
here a xs h = record { is = h }

pub sites_join : (a b : Code) → code_sites (join a b) ≡ code_sites a ++ code_sites b
sites_join no_code b = refl
sites_join (code_and s a) b = ap (λ l. stmt_sites s ++ l) (sites_join a b) ∙ sym (append_assoc (stmt_sites s) (code_sites a) (code_sites b))

both : (a b : Code) (xs ys : List PlacedSite) → AreThere a xs → AreThere b ys → AreThere (join a b) (xs ++ ys)
both a b xs ys h k = record { is = sites_join a b ∙ ap (λ l. l ++ code_sites b) h.is ∙ ap (λ l. map sited_of xs ++ l) k.is ∙ sym (map-append sited_of xs ys) }

no_more : (a : Code) (xs : List PlacedSite) → AreThere a (xs ++ []) → AreThere a xs
no_more a xs h = record { is = h.is ∙ ap (map sited_of) (append-nil xs) }

-- nothing is sited behind it
before : (a b : Code) (xs : List PlacedSite) → AreThere a xs → AreThere b [] → AreThere (join a b) xs
before a b xs h k = no_more (join a b) xs (both a b xs [] h k)

branches : (d : Decision) (v : Simple) (these those : Code) (xs ys : List PlacedSite) → AreThere these xs → AreThere those ys → AreThere (one (do_if d v these those)) (xs ++ ys)
branches d v these those xs ys h k =
    record { is = append-nil (code_sites these ++ code_sites those) ∙ ap (λ l. l ++ code_sites those) h.is ∙ ap (λ l. map sited_of xs ++ l) k.is ∙ sym (map-append sited_of xs ys) }

stepped : (a : Code) (xs : List PlacedSite) → AreThere a xs → AreThere (code_and do_step a) xs
stepped a xs h = record { is = h.is }

argument_quiet : (b : Bool) (to : ℕ) (v : Simple) → AreThere (argument_code b to v) []
argument_quiet true to v = record { is = refl }
argument_quiet false to v = record { is = refl }

module _ (p : Program) (g : ℕ) (f : Function) (slot : Shape → ℕ → ℕ) where
  abbrev w : Target
  w = record { function = g; at = sites_of g f; slot = slot }

  operator_there : (to : ℕ) (o : ExprOp) (place : Place) (a b : Simple) → AreThere (operator_code to o (sites_of g f kind.Trap place) a b) (placed_if (may_fault o) (sites_of g f kind.Trap place) place)
  operator_there to op.Add place a b = record { is = refl }
  operator_there to op.Sub place a b = record { is = refl }
  operator_there to op.Mul place a b = record { is = refl }
  operator_there to op.Div place a b = record { is = refl }
  operator_there to op.Rem place a b = record { is = refl }
  operator_there to op.Shl place a b = record { is = refl }
  operator_there to op.Shr place a b = record { is = refl }
  operator_there to op.And place a b = record { is = refl }
  operator_there to op.Or place a b = record { is = refl }
  operator_there to op.Xor place a b = record { is = refl }
  operator_there to op.Less place a b = record { is = refl }
  operator_there to op.LessEq place a b = record { is = refl }
  operator_there to op.Greater place a b = record { is = refl }
  operator_there to op.GreaterEq place a b = record { is = refl }
  operator_there to op.Equal place a b = record { is = refl }
  operator_there to op.NotEqual place a b = record { is = refl }

  input_there : (b : Bool) (place : Place) → maybe_sited (site_if b (sites_of g f kind.Trap place)) kind.Trap ++ [] ≡ map sited_of (placed_if b (sites_of g f kind.Trap place) place)
  input_there true place = refl
  input_there false place = refl

  module _ (r : Room) where
    mutual
      tree_there : (c : Counts) (e : Tree) → AreThere (tree_code p r w c e) (tree_placed (sites_of g f) e)
      tree_there c (number_at at n) = record { is = refl }
      tree_there c (truth_at at b) = record { is = refl }
      tree_there c (null_at at) = record { is = refl }
      tree_there c (local_at at i) = record { is = refl }
      tree_there c (result_at at) = record { is = refl }
      tree_there c (unary_at at o a) = before (tree_code p r w c a) _ (tree_placed (sites_of g f) a) (tree_there c a) (record { is = refl })
      tree_there c (binary_at at o a b) =
          both (tree_code p r w c a) _ (tree_placed (sites_of g f) a) _ (tree_there c a)
          (both (tree_code p r w (counted p r c a) b) _ (tree_placed (sites_of g f) b) _ (tree_there (counted p r c a) b) (operator_there _ o at _ _))
      tree_there c (both_at at a b) =
          let c1 : Counts = decided 1 (counted p r c a) in
          both (tree_code p r w c a) _ (tree_placed (sites_of g f) a) _ (tree_there c a)
          (no_more _ (tree_placed (sites_of g f) b) (branches _ _ _ _ (tree_placed (sites_of g f) b) [] (before (tree_code p r w c1 b) _ (tree_placed (sites_of g f) b) (tree_there c1 b) (record { is = refl })) (record { is = refl })))
      tree_there c (either_at at a b) =
          let c1 : Counts = decided 1 (counted p r c a) in
          both (tree_code p r w c a) _ (tree_placed (sites_of g f) a) _ (tree_there c a)
          (branches _ _ _ _ [] (tree_placed (sites_of g f) b) (record { is = refl }) (before (tree_code p r w c1 b) _ (tree_placed (sites_of g f) b) (tree_there c1 b) (record { is = refl })))
      tree_there c (choose_at at x a b) =
          let c1 : Counts = decided 1 (counted p r c x) in
          let c2 : Counts = counted p r c1 a in
          both (tree_code p r w c x) _ (tree_placed (sites_of g f) x) _ (tree_there c x)
          (branches _ _ _ _ (tree_placed (sites_of g f) a) (tree_placed (sites_of g f) b)
          (before (tree_code p r w c1 a) _ (tree_placed (sites_of g f) a) (tree_there c1 a) (record { is = refl }))
          (before (tree_code p r w c2 b) _ (tree_placed (sites_of g f) b) (tree_there c2 b) (record { is = refl })))
      tree_there c (read_at at a k field) = both (tree_code p r w c a) _ (tree_placed (sites_of g f) a) _ (tree_there c a) (record { is = refl })
      tree_there c (call_at at h es) = both (args_code p r w c es) _ (trees_placed (sites_of g f) es) _ (args_there c es) (record { is = refl })
      tree_there c (library_at at l es t) = both (first_code p r w c es) _ (first_placed (sites_of g f) es) _ (first_there c es) (record { is = input_there (reads_input l) at })
      tree_there c (alloc_at at k) = record { is = refl }

      args_there : (c : Counts) (es : Trees) → AreThere (args_code p r w c es) (trees_placed (sites_of g f) es)
      args_there c no_trees = record { is = refl }
      args_there c (tree_and e es) =
          let c1 : Counts = counted p r c e in
          both (tree_code p r w c e) _ (tree_placed (sites_of g f) e) _ (tree_there c e)
          (both (argument_code (is_constant e) (temp w (tree_shape p r e) c1) (value_of p r w c e)) _ [] (trees_placed (sites_of g f) es) (argument_quiet (is_constant e) _ _)
          (args_there (with_constant (is_constant e) (tree_shape p r e) c1) es))

      first_there : (c : Counts) (es : Trees) → AreThere (first_code p r w c es) (first_placed (sites_of g f) es)
      first_there c no_trees = record { is = refl }
      first_there c (tree_and e es) = tree_there c e

    declare_there : (c : Counts) (i : ℕ) (es : Trees) → AreThere (declare_code p r w c i es) (first_placed (sites_of g f) es)
    declare_there c i no_trees = record { is = refl }
    declare_there c i (tree_and e es) = before (tree_code p r w c e) _ (tree_placed (sites_of g f) e) (tree_there c e) (record { is = refl })

    assign_there : (c : Counts) (i : ℕ) (o : Option ExprOp) (op_at : Place) (e : Tree) → AreThere (assign_code p r w c i o op_at e) (tree_placed (sites_of g f) e ++ op_placed (sites_of g f) o op_at)
    assign_there c i None op_at e = both (tree_code p r w c e) _ (tree_placed (sites_of g f) e) [] (tree_there c e) (record { is = refl })
    assign_there c i (Some o) op_at e = both (tree_code p r w c e) _ (tree_placed (sites_of g f) e) _ (tree_there c e) (operator_there i o op_at _ _)

    write_there : (c : Counts) (base : Tree) (k field : ℕ) (arrow : Place) (o : Option ExprOp) (op_at : Place) (e : Tree) →
        AreThere (write_code p r w c base k field arrow o op_at e) (write_placed (sites_of g f) base arrow o op_at e)
    write_there c base k field arrow None op_at e =
        both (tree_code p r w c base) _ (tree_placed (sites_of g f) base) _ (tree_there c base)
        (both (tree_code p r w (counted p r c base) e) _ (tree_placed (sites_of g f) e) _ (tree_there (counted p r c base) e) (record { is = refl }))
    write_there c base k field arrow (Some o) op_at e =
        let to : ℕ = temp w Int (counted p r c base) in
        let c1 : Counts = with_temp Int (counted p r c base) in
        let store : Code = one (do_store (value_of p r w c base) k field (simple.Local to) (second (sites_of g f kind.Access arrow))) in
        both (tree_code p r w c base) _ (tree_placed (sites_of g f) base) _ (tree_there c base)
        (both (one (do_load to (value_of p r w c base) k field (sites_of g f kind.Access arrow))) _ (placed (sites_of g f kind.Access arrow) arrow) _ (record { is = refl })
        (both (tree_code p r w c1 e) _ (tree_placed (sites_of g f) e) _ (tree_there c1 e)
        (both (operator_code to o (sites_of g f kind.Trap op_at) (simple.Local to) (value_of p r w c1 e)) store (op_placed (sites_of g f) (Some o) op_at) _ (operator_there to o op_at _ _) (record { is = refl }))))

    loop_there : (n : ℕ) (place : Place) (inv : Formula) (e : Tree) (body : Code) (ys : List PlacedSite) → AreThere body ys → AreThere (loop_code p r w n place inv e body) (loop_placed (sites_of g f) place e ys)
    loop_there n place inv e body ys h =
        let xs : List PlacedSite = tree_placed (sites_of g f) e in
        record {
          is = ap (λ l. sited_of (entry place) ∷ sited_of (again place) ∷ l)
              (append-nil (code_sites (tree_code p r w (fresh (headed n inv)) e) ++ code_sites body)
              ∙ ap (λ l. l ++ code_sites body) (tree_there (fresh (headed n inv)) e).is ∙ ap (λ l. map sited_of xs ++ l) h.is ∙ sym (map-append sited_of xs ys));
        }
      where
        entry : Place → PlacedSite
        entry place = record { site = sites_of g f kind.Entry place; about = None; place = place }

        again : Place → PlacedSite
        again place = record { site = sites_of g f kind.Again place; about = None; place = place }

  note_there : (k : NoteKind) (formula : Formula) (place : Place) (n : ℕ) → AreThere (stmt_code p f w n (note_at place k formula)) (stmt_placed (sites_of g f) (note_at place k formula))
  note_there assert_note formula place n = record { is = refl }
  note_there fold_note formula place n = record { is = refl }
  note_there unfold_note formula place n = record { is = refl }

  abbrev r : Room
  r = room_of f

  mutual
    stmt_there : (n : ℕ) (s : Stmt) → AreThere (stmt_code p f w n s) (stmt_placed (sites_of g f) s)
    stmt_there n (declare_at at i es) = stepped _ _ (declare_there r (fresh n) i es)
    stmt_there n (assign_at at i o op_at e) = stepped _ _ (assign_there r (fresh n) i o op_at e)
    stmt_there n (write_at at base k field arrow o op_at e) = stepped _ _ (write_there r (fresh n) base k field arrow o op_at e)
    stmt_there n (plain_at at e) = stepped _ _ (tree_there r (fresh n) e)
    stmt_there n (block_at at ss) = stmts_there n ss
    stmt_there n (if_at at e a b) =
        let n1 : ℕ = (counted p r (fresh n) e).next + 1 in
        stepped _ _ (both (tree_code p r w (fresh n) e) _ (tree_placed (sites_of g f) e) _ (tree_there r (fresh n) e)
        (branches _ _ _ _ (stmt_placed (sites_of g f) a) (stmts_placed (sites_of g f) b) (stmt_there n1 a) (stmts_there (stmt_next p f n1 a) b)))
    stmt_there n (while_at at inv e a) =
        loop_there r n at inv e _ (stmt_placed (sites_of g f) a) (stmt_there ((counted p r (fresh (headed n inv)) e).next + 1) a)
    stmt_there n (for_at at first e last inv a) =
        let n1 : ℕ = stmts_next p f n first in
        let n2 : ℕ = (counted p r (fresh (headed n1 inv)) e).next + 1 in
        both (stmts_code p f w n first) _ (stmts_placed (sites_of g f) first) _ (stmts_there n first)
        (loop_there r n1 at inv e _ (stmt_placed (sites_of g f) a ++ stmts_placed (sites_of g f) last)
        (both (stmt_code p f w n2 a) _ (stmt_placed (sites_of g f) a) (stmts_placed (sites_of g f) last) (stmt_there n2 a) (stmts_there (stmt_next p f n2 a) last)))
    stmt_there n (return_at at es) = stepped _ _ (both (first_code p r w (fresh n) es) _ (first_placed (sites_of g f) es) _ (first_there r (fresh n) es) (record { is = refl }))
    stmt_there n (assert_at at e) = stepped _ _ (both (tree_code p r w (fresh n) e) _ (tree_placed (sites_of g f) e) _ (tree_there r (fresh n) e) (record { is = refl }))
    stmt_there n (raise_at at t) = record { is = refl }
    stmt_there n (note_at at k formula) = note_there k formula at n

    stmts_there : (n : ℕ) (ss : Stmts) → AreThere (stmts_code p f w n ss) (stmts_placed (sites_of g f) ss)
    stmts_there n no_stmts = record { is = refl }
    stmts_there n (stmt_and s ss) = both (stmt_code p f w n s) _ (stmt_placed (sites_of g f) s) _ (stmt_there n s) (stmts_there (stmt_next p f n s) ss)

close_there : (g : ℕ) (f : Function) (w : Target) → w.at ≡ sites_of g f → (o : Option Shape) → AreThere (close_code w f o) (close_placed (sites_of g f) f o)
close_there g f w e None = here _ _ (ap (λ at. record { site = at kind.Ensures f.close; kind = kind.Ensures; about = None } ∷ []) e)
close_there g f w e (Some s) = record { is = refl }

-- the sites of a body are those that are placed
pub body_sites : (p : Program) (g : ℕ) (f : Function) → code_sites (body_code p g f) ≡ map sited_of (placed_of g f)
body_sites p g f =
    (both (stmts_code p f (target p g f) (start_choices p g f) f.body) _ (stmts_placed (sites_of g f) f.body) (close_placed (sites_of g f) f f.result)
    (stmts_there p g f (target p g f).slot (start_choices p g f) f.body) (close_there g f (target p g f) refl f.result)).is
