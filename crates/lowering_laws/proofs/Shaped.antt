-- The code of statements fits, and so does the core of a program.
use Rattle.std.proofs.Common.{◌≡◌, ℕ, zero, suc, ◌+◌, ◌⊎◌, inl, inr, max, List, [], ◌∷◌, length, All, Option, Some, None, refl, sym, ap, ◌∙◌, subst, arith}
use Rattle.std.specs.Prelude.{Bool as Bit, slice_get, slice_index_or, ◌&&◌, IsTrue}
use Rattle.std.proofs.lemmas.List.Elements.{All-nil, All-cons}
use Rattle.gc0_base.specs.declared.place.Place.{Place}
use Rattle.gc0_base.specs.declared.site.Site.{Site}
use Rattle.gc0_base.specs.declared.site.Kind.TheVariants as kind
use Rattle.gc0_tree.specs.declared.Shape.{Shape}
use Rattle.gc0_tree.specs.declared.Shape.TheVariants.{Int, Bool as Truth, Pointer, Null}
use Rattle.gc0_tree.specs.declared.ExprOp.{ExprOp}
use Rattle.gc0_tree.specs.Tree.{Tree, call_at, library_at, Trees, no_trees, tree_and, Conjuncts, Formula, Stmt, declare_at, assign_at, write_at, plain_at, block_at, if_at, while_at, for_at, return_at, assert_at, raise_at, note_at, Stmts, no_stmts, stmt_and, Function, Program}
use Rattle.gc0_tree.specs.Fits as tree
use Rattle.gc0_tree.specs.Fits.{Room, HasShape, IsVoidCall, PutFits, PartsFit, StmtFits, StmtsFit, IsHeld, StructFits, PredicateFits, FunctionFits, Fits, takes, gives, field_shape, shapes_in}
use Rattle.gc0_tree.specs.Sites.{second}
use Rattle.core_tree.specs.declared.Simple.{Simple}
use Rattle.core_tree.specs.declared.Simple.TheVariants as simple
use Rattle.core_tree.specs.CoreTree.{do_set, do_load, do_store, do_if, do_return, do_assert, Code, code_and, CoreFunction, Core}
use Rattle.core_meaning.specs.CoreFits as core
use Rattle.core_meaning.specs.CoreFits.{around, SimpleFits, note_fits, word_shapes, CodeFits, IsTemporary, CoreFunctionFits, CoreFits}
use Rattle.lowering_laws.specs.Counts.{Counts, fresh, with_temp, counted, first_counted, one_more}
use Rattle.lowering_laws.specs.Trees.{Target, join, one, temp, value_of, first_value, operator_code, tree_code, first_code, decision}
use Rattle.lowering_laws.specs.Statements.{room_of, headed, write_counted, stmt_next, stmts_next, stmt_uses, stmts_use, loop_code, stmt_code, stmts_code}
use Rattle.lowering_laws.specs.Tables.{core_of}
use Rattle.lowering_laws.specs.Lowering.{temps_of, uses, target, close_code, start_choices, body_code, Beside, lowered_function, lowered_from, lowered}
use Rattle.lowering_laws.proofs.Counting.{Within, within_trans, counted_grows, same_is, used_alike, first_alike, IsTemp, some_is, none_some}
use Rattle.lowering_laws.proofs.Expressions.{IsFirst}
use Rattle.lowering_laws.proofs.Statements.{left_within, right_within}
use Rattle.lowering_laws.specs.Words.{tree_words, trees_words, gives_int, stmt_words, stmts_words, WordsFit}
use Rattle.lowering_laws.specs.Formulas.{parts_without_calls, stmt_formulas, stmts_formulas, FunctionFormulas, FormulasFit}
use Rattle.lowering_laws.proofs.Suits.{and_left, and_right, local_may, join_fits, takes_ints, operator_fits}
use Rattle.lowering_laws.proofs.FormulaShapes.{all_held, struct_around, result_around, parts_around, predicate_around}
use Rattle.lowering_laws.proofs.TemporaryShapes.{get_left, slot_there, all_temps}
use Rattle.lowering_laws.proofs.ValueShapes.{Stands, LoweredIn, room_before, temp_at, value_fits, given_fits, field_there, tree_fits, first_fits, called_fits, asked_fits}

return_first : (p : Program) (r : Room) (due : Option Shape) (es : Trees) → tree.ReturnFits p r due es → IsFirst p r es
return_first p r None no_trees h = tt
return_first p r None (tree_and e es) h = absurd h
return_first p r (Some s) no_trees h = absurd h
return_first p r (Some s) (tree_and e no_trees) h = (h.0, h.1)
return_first p r (Some s) (tree_and e (tree_and d ds)) h = absurd h

-- ---- statements
module _ (p : Program) (c : Core) (fn : Function) (f : CoreFunction) (w : Target) (room : Shape → ℕ) (known : LoweredIn p c f (room_of fn) w room) (same_result : f.result ≡ fn.result)
    (parts : (formula : Conjuncts) → IsTrue (parts_without_calls formula) → PartsFit p (room_of fn) formula → PartsFit (around c) (core.room_of f) formula) where
  abbrev r : Room
  r = room_of fn

  abbrev W : List Shape
  W = word_shapes f

  -- the counts of a statement begin anew
  room_at : (e : Tree) (n : ℕ) → Within (counted p r (fresh 0) e).used room → Within (counted p r (fresh n) e).used room
  room_at e n h = subst (λ (a : Shape → ℕ). Within a room) (used_alike p r e (fresh 0) (fresh n) refl) h

  first_room : (es : Trees) (n : ℕ) → Within (first_counted p r (fresh 0) es).used room → Within (first_counted p r (fresh n) es).used room
  first_room es n h = subst (λ (a : Shape → ℕ). Within a room) (first_alike p r es (fresh 0) (fresh n) refl) h

  write_room : (base : Tree) (o : Option ExprOp) (e : Tree) (n : ℕ) → Within (write_counted p r (fresh 0) base o e).used room → Within (write_counted p r (fresh n) base o e).used room
  write_room base None e n h = subst (λ (a : Shape → ℕ). Within a room) (used_alike p r e (counted p r (fresh 0) base) (counted p r (fresh n) base) (used_alike p r base (fresh 0) (fresh n) refl)) h
  write_room base (Some o) e n h =
      subst (λ (a : Shape → ℕ). Within a room) (used_alike p r e (with_temp Int (counted p r (fresh 0) base)) (with_temp Int (counted p r (fresh n) base)) (ap (one_more Int) (used_alike p r base (fresh 0) (fresh n) refl))) h

  -- a value, and code that takes it
  then_fits : (e : Tree) (s : Shape) (c0 : Counts) (rest : Code) → HasShape p r e s → IsTrue (tree_words e) → Within (counted p r c0 e).used room → CodeFits c f rest → CodeFits c f (join (tree_code p r w c0 e) rest)
  then_fits e s c0 rest h k in_room g = join_fits c f (tree_code p r w c0 e) rest (tree_fits p c f r w room known e s c0 h k in_room) g

  declare_fits : (at : Place) (i : ℕ) (es : Trees) (n : ℕ) → StmtFits p r fn.result (declare_at at i es) → IsTrue (trees_words es) → Within (first_counted p r (fresh 0) es).used room → CodeFits c f (stmt_code p fn w n (declare_at at i es))
  declare_fits at i no_trees n h k in_room = (tt, tt)
  declare_fits at i (tree_and e (tree_and d ds)) n h k in_room = absurd h.2
  declare_fits at i (tree_and e no_trees) n h k in_room =
      let ke : IsTrue (tree_words e) = and_left (tree_words e) (trees_words no_trees) k in
      let in0 = room_at e n in_room in
      let g = h.2 in
      (tt, then_fits e g.0 (fresh n) (one (do_set i (value_of p r w (fresh n) e))) g.1 ke in0 ((h.0, known.locals i h.0 h.1, given_fits p c f r w room known e h.0 g.0 (fresh n) g.1 g.2 ke in0), tt))

  assign_fits : (at : Place) (i : ℕ) (o : Option ExprOp) (op_at : Place) (e : Tree) (n : ℕ) → StmtFits p r fn.result (assign_at at i o op_at e) → IsTrue (gives_int o && tree_words e) → Within (counted p r (fresh 0) e).used room → CodeFits c f (stmt_code p fn w n (assign_at at i o op_at e))
  assign_fits at i None op_at e n h k in_room =
      let ke : IsTrue (tree_words e) = and_right (gives_int None) (tree_words e) k in
      let in0 = room_at e n in_room in
      let g = h.2 in
      (tt, then_fits e g.0 (fresh n) (one (do_set i (value_of p r w (fresh n) e))) g.1 ke in0 ((h.0, known.locals i h.0 h.1, given_fits p c f r w room known e h.0 g.0 (fresh n) g.1 g.2 ke in0), tt))
  assign_fits at i (Some o) op_at e n h k in_room =
      let ko : gives o ≡ Int = same_is (gives o) Int (and_left (gives_int (Some o)) (tree_words e) k) in
      let ke : IsTrue (tree_words e) = and_right (gives_int (Some o)) (tree_words e) k in
      let in0 = room_at e n in_room in
      let g = h.2 in
      let there : slice_get W i ≡ Some Int = known.locals i h.0 h.1 ∙ ap (λ s. Some s) g.0 in
      let site : Site = w.at kind.Trap op_at in
      let v : Simple = value_of p r w (fresh n) e in
      (tt, then_fits e Int (fresh n) (operator_code i o site (simple.Local i) v) g.1 ke in0 (operator_fits c f i site (simple.Local i) v Int Int (local_may W i Int there) (value_fits p c f r w room known e Int (fresh n) g.1 ke in0) o (takes_ints o) (there ∙ ap (λ s. Some s) (sym ko))))

  write_fits : (at : Place) (base : Tree) (i field : ℕ) (arrow : Place) (o : Option ExprOp) (op_at : Place) (e : Tree) (n : ℕ) → StmtFits p r fn.result (write_at at base i field arrow o op_at e) → IsTrue (gives_int o && (tree_words base && tree_words e)) → Within (write_counted p r (fresh 0) base o e).used room →
      CodeFits c f (stmt_code p fn w n (write_at at base i field arrow o op_at e))
  write_fits at base i field arrow None op_at e n h k in_room =
      let k1 : IsTrue (tree_words base && tree_words e) = and_right (gives_int None) (tree_words base && tree_words e) k in
      let kb : IsTrue (tree_words base) = and_left (tree_words base) (tree_words e) k1 in
      let ke : IsTrue (tree_words e) = and_right (tree_words base) (tree_words e) k1 in
      let c1 : Counts = counted p r (fresh n) base in
      let in1 : Within (counted p r c1 e).used room = write_room base None e n in_room in
      let in0 : Within c1.used room = within_trans c1.used (counted p r c1 e).used room (counted_grows p r c1 e) in1 in
      let s : Shape = h.1 in
      let g = h.3 in
      let vb : Simple = value_of p r w (fresh n) base in
      let ve : Simple = value_of p r w c1 e in
      let own : Code = one (do_store vb i field ve (w.at kind.Access arrow)) in (
        tt,
        then_fits base (Pointer i) (fresh n) (join (tree_code p r w c1 e) own) h.0 kb in0
            (then_fits e g.0 c1 own g.1 ke in1
            ((value_fits p c f r w room known base (Pointer i) (fresh n) h.0 kb in0, s, field_there p c f r w room known i field s h.2, given_fits p c f r w room known e s g.0 c1 g.1 g.2 ke in1), tt)),
      )
  write_fits at base i field arrow (Some o) op_at e n h k in_room =
      let ko : gives o ≡ Int = same_is (gives o) Int (and_left (gives_int (Some o)) (tree_words base && tree_words e) k) in
      let k1 : IsTrue (tree_words base && tree_words e) = and_right (gives_int (Some o)) (tree_words base && tree_words e) k in
      let kb : IsTrue (tree_words base) = and_left (tree_words base) (tree_words e) k1 in
      let ke : IsTrue (tree_words e) = and_right (tree_words base) (tree_words e) k1 in
      let c1 : Counts = counted p r (fresh n) base in
      let c2 : Counts = with_temp Int c1 in
      let in2 : Within (counted p r c2 e).used room = write_room base (Some o) e n in_room in
      let in1 : Within c2.used room = within_trans c2.used (counted p r c2 e).used room (counted_grows p r c2 e) in2 in
      let in0 : Within c1.used room = room_before p c f r w room known Int c1 in1 in
      let g = h.3 in
      let to : ℕ = temp w Int c1 in
      let there : slice_get W to ≡ Some Int = temp_at p c f r w room known Int Int c1 refl tt in1 in
      let has_field : field_shape (around c) i field ≡ Some Int = field_there p c f r w room known i field Int (h.2 ∙ ap (λ s. Some s) g.0) in
      let vb : Simple = value_of p r w (fresh n) base in
      let ve : Simple = value_of p r w c2 e in
      let site : Site = w.at kind.Trap op_at in
      let fits_b : SimpleFits W (Pointer i) vb = value_fits p c f r w room known base (Pointer i) (fresh n) h.0 kb in0 in
      let last : Code = one (do_store vb i field (simple.Local to) (second (w.at kind.Access arrow))) in
      let own : Code = operator_code to o site (simple.Local to) ve in (
        tt,
        then_fits base (Pointer i) (fresh n) (code_and (do_load to vb i field (w.at kind.Access arrow)) (join (tree_code p r w c2 e) (join own last))) h.0 kb in0 (
          (fits_b, Int, has_field, (Int, there, refl)),
          then_fits e Int c2 (join own last) g.1 ke in2
              (join_fits c f own last
              (operator_fits c f to site (simple.Local to) ve Int Int (local_may W to Int there) (value_fits p c f r w room known e Int c2 g.1 ke in2) o (takes_ints o) (there ∙ ap (λ s. Some s) (sym ko)))
              ((fits_b, Int, has_field, local_may W to Int there), tt)),
        ),
      )

  void_fits : (e : Tree) (c0 : Counts) → IsVoidCall p r e → IsTrue (tree_words e) → Within (counted p r c0 e).used room → CodeFits c f (tree_code p r w c0 e)
  void_fits (call_at at g es) c0 h k in_room = called_fits p c f r w room known at g es c0 h.0 h.1 h.2 k in_room
  void_fits (library_at at l es t) c0 h k in_room = asked_fits p c f r w room known at l es t c0 h.1 h.2 k in_room
  void_fits e c0 h k in_room = absurd h

  plain_fits : (e : Tree) (c0 : Counts) → ((s : Shape) × HasShape p r e s) ⊎ IsVoidCall p r e → IsTrue (tree_words e) → Within (counted p r c0 e).used room → CodeFits c f (tree_code p r w c0 e)
  plain_fits e c0 (inl h) k in_room = tree_fits p c f r w room known e h.0 c0 h.1 k in_room
  plain_fits e c0 (inr h) k in_room = void_fits e c0 h k in_room

  value_returned : (due : Option Shape) (es : Trees) (c0 : Counts) → tree.ReturnFits p r due es → IsTrue (trees_words es) → Within (first_counted p r c0 es).used room → core.ReturnFits W due (first_value p r w c0 es)
  value_returned None no_trees c0 h k in_room = tt
  value_returned None (tree_and e es) c0 h k in_room = absurd h
  value_returned (Some s) no_trees c0 h k in_room = absurd h
  value_returned (Some s) (tree_and e no_trees) c0 h k in_room = given_fits p c f r w room known e s h.0 c0 h.1 h.2 (and_left (tree_words e) (trees_words no_trees) k) in_room
  value_returned (Some s) (tree_and e (tree_and d ds)) c0 h k in_room = absurd h

  return_fits : (at : Place) (es : Trees) (n : ℕ) → tree.ReturnFits p r fn.result es → IsTrue (trees_words es) → Within (first_counted p r (fresh 0) es).used room → CodeFits c f (stmt_code p fn w n (return_at at es))
  return_fits at es n h k in_room =
      let in0 = first_room es n in_room in
      let v : Option Simple = first_value p r w (fresh n) es in (
        tt,
        join_fits c f (first_code p r w (fresh n) es) (one (do_return v (w.at kind.Ensures at))) (first_fits p c f r w room known es (fresh n) (return_first p r fn.result es h) k in0)
            (subst (λ due. core.ReturnFits W due v) (sym same_result) (value_returned fn.result es (fresh n) h k in0), tt),
      )

  loop_fits : (n : ℕ) (place : Place) (inv : Formula) (e : Tree) (body : Code) → PartsFit p r inv.parts → IsTrue (parts_without_calls inv.parts) → HasShape p r e Truth → IsTrue (tree_words e) → Within (counted p r (fresh 0) e).used room → CodeFits c f body → CodeFits c f (loop_code p r w n place inv e body)
  loop_fits n place inv e body fits no_calls h k in_room g =
      let c0 : Counts = fresh (headed n inv) in
      let in0 = room_at e (headed n inv) in_room in
      (tt, ((parts inv.parts no_calls fits, (tt, tree_fits p c f r w room known e Truth c0 h k in0), value_fits p c f r w room known e Truth c0 h k in0, g), tt))

  mutual
    pub stmt_fits : (a : Stmt) (n : ℕ) → StmtFits p r fn.result a → IsTrue (stmt_words a) → IsTrue (stmt_formulas a) → Within (stmt_uses p r a) room → CodeFits c f (stmt_code p fn w n a)
    stmt_fits (declare_at at i es) n h k m in_room = declare_fits at i es n h k in_room
    stmt_fits (assign_at at i o op_at e) n h k m in_room = assign_fits at i o op_at e n h k in_room
    stmt_fits (write_at at base i field arrow o op_at e) n h k m in_room = write_fits at base i field arrow o op_at e n h k in_room
    stmt_fits (plain_at at e) n h k m in_room = (tt, plain_fits e (fresh n) h k (room_at e n in_room))
    stmt_fits (block_at at ss) n h k m in_room = stmts_fit ss n h k m in_room
    stmt_fits (if_at at e a ss) n h k m in_room =
        let u1 : Shape → ℕ = (counted p r (fresh 0) e).used in
        let u2 : Shape → ℕ = stmt_uses p r a in
        let u3 : Shape → ℕ = stmts_use p r ss in
        let c1 : Counts = counted p r (fresh n) e in
        let n1 : ℕ = c1.next + 1 in
        let ke : IsTrue (tree_words e) = and_left (tree_words e) (stmt_words a && stmts_words ss) k in
        let k1 : IsTrue (stmt_words a && stmts_words ss) = and_right (tree_words e) (stmt_words a && stmts_words ss) k in
        let in0 = room_at e n (left_within u1 (λ s. max (u2 s) (u3 s)) room in_room) in
        let in1 = right_within u1 (λ s. max (u2 s) (u3 s)) room in_room in
        let v : Simple = value_of p r w (fresh n) e in
        let these : Code = stmt_code p fn w n1 a in
        let those : Code = stmts_code p fn w (stmt_next p fn n1 a) ss in (
          tt,
          then_fits e Truth (fresh n) (one (do_if (decision w c1) v these those)) h.0 ke in0 (
            (
              value_fits p c f r w room known e Truth (fresh n) h.0 ke in0,
              stmt_fits a n1 h.1 (and_left (stmt_words a) (stmts_words ss) k1) (and_left (stmt_formulas a) (stmts_formulas ss) m) (left_within u2 u3 room in1),
              stmts_fit ss (stmt_next p fn n1 a) h.2 (and_right (stmt_words a) (stmts_words ss) k1) (and_right (stmt_formulas a) (stmts_formulas ss) m) (right_within u2 u3 room in1),
            ),
            tt,
          ),
        )
    stmt_fits (while_at at inv e a) n h k m in_room =
        let u1 : Shape → ℕ = (counted p r (fresh 0) e).used in
        let u2 : Shape → ℕ = stmt_uses p r a in
        let n1 : ℕ = (counted p r (fresh (headed n inv)) e).next + 1 in
        loop_fits n at inv e (stmt_code p fn w n1 a) h.0 (and_left (parts_without_calls inv.parts) (stmt_formulas a) m) h.1 (and_left (tree_words e) (stmt_words a) k) (left_within u1 u2 room in_room)
        (stmt_fits a n1 h.2 (and_right (tree_words e) (stmt_words a) k) (and_right (parts_without_calls inv.parts) (stmt_formulas a) m) (right_within u1 u2 room in_room))
    stmt_fits (for_at at first e last inv a) n h k m in_room =
        let u1 : Shape → ℕ = stmts_use p r first in
        let u2 : Shape → ℕ = (counted p r (fresh 0) e).used in
        let u3 : Shape → ℕ = stmt_uses p r a in
        let u4 : Shape → ℕ = stmts_use p r last in
        let n1 : ℕ = stmts_next p fn n first in
        let n2 : ℕ = (counted p r (fresh (headed n1 inv)) e).next + 1 in
        let n3 : ℕ = stmt_next p fn n2 a in
        let k1 = and_right (stmts_words first) (tree_words e && (stmts_words last && stmt_words a)) k in
        let k2 = and_right (tree_words e) (stmts_words last && stmt_words a) k1 in
        let m1 = and_right (stmts_formulas first) (stmts_formulas last && (parts_without_calls inv.parts && stmt_formulas a)) m in
        let m2 = and_right (stmts_formulas last) (parts_without_calls inv.parts && stmt_formulas a) m1 in
        let in1 = right_within u1 (λ s. max (u2 s) (max (u3 s) (u4 s))) room in_room in
        let in2 = right_within u2 (λ s. max (u3 s) (u4 s)) room in1 in
        let body : Code = join (stmt_code p fn w n2 a) (stmts_code p fn w n3 last) in
        join_fits c f (stmts_code p fn w n first) (loop_code p r w n1 at inv e body)
        (stmts_fit first n h.0 (and_left (stmts_words first) (tree_words e && (stmts_words last && stmt_words a)) k) (and_left (stmts_formulas first) (stmts_formulas last && (parts_without_calls inv.parts && stmt_formulas a)) m) (left_within u1 (λ s. max (u2 s) (max (u3 s) (u4 s))) room in_room))
        (loop_fits n1 at inv e body h.3 (and_left (parts_without_calls inv.parts) (stmt_formulas a) m2) h.1 (and_left (tree_words e) (stmts_words last && stmt_words a) k1) (left_within u2 (λ s. max (u3 s) (u4 s)) room in1)
        (join_fits c f (stmt_code p fn w n2 a) (stmts_code p fn w n3 last)
        (stmt_fits a n2 h.4 (and_right (stmts_words last) (stmt_words a) k2) (and_right (parts_without_calls inv.parts) (stmt_formulas a) m2) (left_within u3 u4 room in2))
        (stmts_fit last n3 h.2 (and_left (stmts_words last) (stmt_words a) k2) (and_left (stmts_formulas last) (parts_without_calls inv.parts && stmt_formulas a) m1) (right_within u3 u4 room in2))))
    stmt_fits (return_at at es) n h k m in_room = return_fits at es n h k in_room
    stmt_fits (assert_at at e) n h k m in_room =
        let in0 = room_at e n in_room in
        (tt, then_fits e Truth (fresh n) (one (do_assert (value_of p r w (fresh n) e) (w.at kind.Trap at))) h k in0 (value_fits p c f r w room known e Truth (fresh n) h k in0, tt))
    stmt_fits (raise_at at t) n h k m in_room = (tt, (tt, tt))
    stmt_fits (note_at at kind formula) n h k m in_room =
        ((parts formula.parts (and_left (parts_without_calls formula.parts) (note_fits kind formula) m) h, and_right (parts_without_calls formula.parts) (note_fits kind formula) m), tt)

    pub stmts_fit : (ss : Stmts) (n : ℕ) → StmtsFit p r fn.result ss → IsTrue (stmts_words ss) → IsTrue (stmts_formulas ss) → Within (stmts_use p r ss) room → CodeFits c f (stmts_code p fn w n ss)
    stmts_fit no_stmts n h k m in_room = tt
    stmts_fit (stmt_and a ss) n h k m in_room =
        let u1 : Shape → ℕ = stmt_uses p r a in
        let u2 : Shape → ℕ = stmts_use p r ss in
        join_fits c f (stmt_code p fn w n a) (stmts_code p fn w (stmt_next p fn n a) ss)
        (stmt_fits a n h.0 (and_left (stmt_words a) (stmts_words ss) k) (and_left (stmt_formulas a) (stmts_formulas ss) m) (left_within u1 u2 room in_room))
        (stmts_fit ss (stmt_next p fn n a) h.1 (and_right (stmt_words a) (stmts_words ss) k) (and_right (stmt_formulas a) (stmts_formulas ss) m) (right_within u1 u2 room in_room))

  -- the closing brace
  pub close_fits : (o : Option Shape) → fn.result ≡ o → CodeFits c f (close_code w fn o)
  close_fits None e = (subst (λ due. core.ReturnFits W due None) (sym (same_result ∙ e)) tt, tt)
  close_fits (Some s) e = tt

-- ---- functions
-- what holds of each lowered function holds of each function of the core
pub all_lowered : (b : Beside) (p : Program) (P : CoreFunction → Type 0) (Q : Function → Type 0) → ((g : ℕ) (fn : Function) → Q fn → P (lowered_function b p g fn)) → (fs : List Function) (g : ℕ) → All Q fs → All P (lowered_from b p g fs)
all_lowered b p P Q each [] g h = All-nil P
all_lowered b p P Q each (fn ∷ fs) g h =
    All-cons P (lowered_function b p g fn) (lowered_from b p (suc g) fs) (each g fn (h 0 fn (omega arith))) (all_lowered b p P Q each fs (suc g) (λ k d lt. h (suc k) d (omega arith)))

-- a function of the core by its number
pub lowered_there : (b : Beside) (p : Program) (fs : List Function) (g n : ℕ) (h : Function) → slice_get fs n ≡ Some h → slice_get (lowered_from b p g fs) n ≡ Some (lowered_function b p (g + n) h)
lowered_there b p [] g n h e = absurd (none_some h e)
lowered_there b p (fn ∷ fs) g zero h e = let i : g ≡ g + 0 = omega arith in (λ x. Some (lowered_function b p (i x) (some_is fn h e x)))
lowered_there b p (fn ∷ fs) g (suc n) h e = let i : suc g + n ≡ g + suc n = omega arith in lowered_there b p fs (suc g) n h e ∙ ap (λ i. Some (lowered_function b p i h)) i

module _ (b : Beside) (p : Program) (fits : Fits p) where
  abbrev c : Core
  c = lowered b p

  stands : (g : ℕ) (h : Function) → slice_get p.functions g ≡ Some h → Stands c g h
  stands g h e = record { function = lowered_function b p (0 + g) h; there = lowered_there b p p.functions 0 g h e; params = refl; result = refl }

  temporary : (s : Shape) → IsTemp p s → IsTemporary c s
  temporary Int h = tt
  temporary Truth h = tt
  temporary Null h = tt
  temporary (Pointer k) h = h

  lowered_in : (g : ℕ) (fn : Function) → FunctionFits p fn → LoweredIn p c (lowered_function b p g fn) (room_of fn) (target p g fn) (uses p fn)
  lowered_in g fn h = record {
    structs = fits.structs;
    functions = fits.functions;
    held = h.locals;
    outcome = refl;
    locals = λ i s e. get_left (shapes_in fn.locals) (temps_of (uses p fn) (length p.structs)) i s e;
    temps = λ s i t lt. slot_there p fn s i t lt;
    same_structs = refl;
    callees = stands;
  }

  body_fits : (g : ℕ) (fn : Function) → FunctionFits p fn → WordsFit fn → FunctionFormulas fn → CodeFits c (lowered_function b p g fn) (body_code p g fn)
  body_fits g fn h k m =
      let f : CoreFunction = lowered_function b p g fn in
      let w : Target = target p g fn in
      let known = lowered_in g fn h in
      let parts = parts_around b p (room_of fn) in
      join_fits c f (stmts_code p fn w (start_choices p g fn) fn.body) (close_code w fn fn.result)
      (stmts_fit p c fn f w (uses p fn) known refl parts fn.body (start_choices p g fn) h.body k m.body (λ u. omega arith))
      (close_fits p c fn f w (uses p fn) known refl parts fn.result refl)

  pub function_fits : (g : ℕ) (fn : Function) → FunctionFits p fn → WordsFit fn → FunctionFormulas fn → CoreFunctionFits (lowered b p) (lowered_function b p g fn)
  function_fits g fn h k m = record {
    params = h.params;
    locals = all_held b p (shapes_in fn.locals) h.locals;
    temps = all_temps (uses p fn) (IsTemporary c) p temporary;
    result = result_around b p fn.result h.result;
    before = parts_around b p _ fn.before.parts m.before h.before;
    after = parts_around b p _ fn.after.parts m.after h.after;
    body = body_fits g fn h k m;
  }

-- the core of a program fits, whatever stands beside the code
pub lowered_fits : (b : Beside) (p : Program) → Fits p → All WordsFit p.functions → FormulasFit p → CoreFits (lowered b p)
lowered_fits b p fits words formulas = record {
  structs = λ k d lt. struct_around b p (slice_index_or p.structs k d) (fits.structs k d lt);
  predicates = λ k d lt. predicate_around b p (slice_index_or p.predicates k d) (formulas.predicates k d lt) (fits.predicates k d lt);
  functions =
      all_lowered b p (CoreFunctionFits (lowered b p)) (λ fn. FunctionFits p fn × WordsFit fn × FunctionFormulas fn) (λ g fn h. function_fits b p fits g fn h.0 h.1 h.2) p.functions 0
      (λ k d lt. (fits.functions k d lt, words k d lt, formulas.functions k d lt));
}

pub shaped : (p : Program) → Fits p → All WordsFit p.functions → FormulasFit p → (plain : ℕ → Bit) (paths : ℕ → ℕ) → CoreFits (core_of plain paths p)
shaped p fits words formulas plain paths = lowered_fits _ p fits words formulas
