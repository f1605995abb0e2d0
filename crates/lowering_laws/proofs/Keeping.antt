-- No parameter that `ensures` names is set in a lowered body: only the locals of the program and temporaries are set.
use Rattle.std.proofs.Common.{◌≡◌, ◌+◌, ◌<◌, ◌≤◌, ℕ, Bool, false, not, ◌||◌, List, [], ◌∷◌, ◌++◌, length, min, All, Option, Some, None, IsTrue, refl, arith}
use Rattle.std.proofs.lemmas.Bool.{and_parts, and_from, or_parts, or_from, not-true, not_from_false, ne_eqb}
use Rattle.std.proofs.lemmas.List.{length-map, length-take}
use Rattle.std.proofs.lemmas.Option.{slice_get_within}
use Rattle.std.specs.List.{list_all, AllByRecursion}
use Rattle.gc0_base.specs.declared.place.Place.{Place}
use Rattle.gc0_tree.specs.declared.Shape.{Shape}
use Rattle.gc0_tree.specs.declared.Shape.TheVariants.{Bool as Truth, Pointer}
use Rattle.gc0_tree.specs.Tree.{Tree, number_at, truth_at, null_at, local_at, result_at, unary_at, binary_at, both_at, either_at, choose_at, read_at, call_at, library_at, alloc_at, Trees, no_trees, tree_and, Conjuncts, no_parts, value_part, acc_part, instance_part, choice_part, Formula, Stmt, declare_at, assign_at, write_at, plain_at, block_at, if_at, while_at, for_at, return_at, assert_at, raise_at, note_at, Stmts, no_stmts, stmt_and, Function, Program}
use Rattle.gc0_tree.specs.Fits.{Fits, FunctionFits, PartsFit, HasShape, AreGiven, Room, shapes_in, params_in, unary_shape, library_params}
use Rattle.core_tree.specs.CoreTree.{Code, no_code, code_and}
use Rattle.core_meaning.specs.Assigned as core
use Rattle.core_meaning.specs.Assigned.{tree_names, trees_names, parts_names, code_sets}
use Rattle.core_meaning.specs.Stepped.{EachFunction}
use Rattle.lowering_laws.specs.Counts.{Counts, fresh, counted}
use Rattle.lowering_laws.specs.Trees.{Target, join, tree_code, first_code}
use Rattle.lowering_laws.specs.Statements.{room_of, headed, stmt_next, stmts_next, declare_code, assign_code, write_code, loop_code, stmt_code, stmts_code}
use Rattle.lowering_laws.specs.Lowering.{target, close_code, start_choices, body_code}
use Rattle.lowering_laws.specs.Tables.{core_of}
use Rattle.lowering_laws.specs.Kept as source
use Rattle.lowering_laws.specs.Kept.{stmts_set, KeepsParams}
use Rattle.lowering_laws.proofs.Counting.{all_at}
use Rattle.lowering_laws.proofs.Each.{each_lowered}
use Rattle.lowering_laws.proofs.Flat.{Other, leaves, tree_flat, first_flat, declare_flat, assign_flat, write_flat}

-- ---- the locals that a formula names
abbrev AllBelow : ℕ → List ℕ → Type 0
AllBelow m is = AllByRecursion (λ i. i < m) is

both_below : (m : ℕ) (is js : List ℕ) → AllBelow m is → AllBelow m js → AllBelow m (is ++ js)
both_below m [] js h k = k
both_below m (i ∷ is) js h k = (h.0, both_below m is js h.1 k)

module _ (p : Program) (r : Room) where
  mutual
    tree_below : (e : Tree) (s : Shape) → HasShape p r e s → AllBelow (length r.locals) (tree_names e)
    tree_below (number_at at n) s h = tt
    tree_below (truth_at at b) s h = tt
    tree_below (null_at at) s h = tt
    tree_below (local_at at i) s h = (slice_get_within r.locals i s h, tt)
    tree_below (result_at at) s h = tt
    tree_below (unary_at at o x) s h = tree_below x (unary_shape o) h.1
    tree_below (binary_at at o x y) s h = both_below (length r.locals) (tree_names x) (tree_names y) (tree_below x h.1 h.3) (tree_below y h.2 h.4)
    tree_below (both_at at x y) s h = both_below (length r.locals) (tree_names x) (tree_names y) (tree_below x Truth h.1) (tree_below y Truth h.2)
    tree_below (either_at at x y) s h = both_below (length r.locals) (tree_names x) (tree_names y) (tree_below x Truth h.1) (tree_below y Truth h.2)
    tree_below (choose_at at x y z) s h =
        both_below (length r.locals) (tree_names x) (tree_names y ++ tree_names z) (tree_below x Truth h.0) (both_below (length r.locals) (tree_names y) (tree_names z) (tree_below y h.1 h.3) (tree_below z h.2 h.4))
    tree_below (read_at at x k field) s h = tree_below x (Pointer k) h.0
    tree_below (call_at at g es) s h = trees_below (params_in h.0) es h.2
    tree_below (library_at at l es t) s h = trees_below (library_params l) es h.1
    tree_below (alloc_at at k) s h = tt

    trees_below : (due : List Shape) (es : Trees) → AreGiven p r due es → AllBelow (length r.locals) (trees_names es)
    trees_below [] no_trees h = tt
    trees_below [] (tree_and e es) h = absurd h
    trees_below (s ∷ ss) no_trees h = absurd h
    trees_below (s ∷ ss) (tree_and e es) h = both_below (length r.locals) (tree_names e) (trees_names es) (tree_below e h.0.0 h.0.1) (trees_below ss es h.1)

  parts_below : (formula : Conjuncts) → PartsFit p r formula → AllBelow (length r.locals) (parts_names formula)
  parts_below no_parts h = tt
  parts_below (value_part e rest) h = both_below (length r.locals) (tree_names e) (parts_names rest) (tree_below e Truth h.0) (parts_below rest h.1)
  parts_below (acc_part e field rest) h = both_below (length r.locals) (tree_names e) (parts_names rest) (tree_below e (Pointer h.0.0) h.0.1) (parts_below rest h.1)
  parts_below (instance_part at q es rest) h = both_below (length r.locals) (trees_names es) (parts_names rest) (trees_below (shapes_in h.0.0.params) es h.0.2) (parts_below rest h.1)
  parts_below (choice_part at e these those rest) h =
      let m : ℕ = length r.locals in
      both_below m (tree_names e) (parts_names these ++ (parts_names those ++ parts_names rest)) (tree_below e Truth h.0)
      (both_below m (parts_names these) (parts_names those ++ parts_names rest) (parts_below these h.1) (both_below m (parts_names those) (parts_names rest) (parts_below those h.2) (parts_below rest h.3)))

-- ---- code
module _ (i : ℕ) where
  abbrev Leaves : Code → Type 0
  Leaves c = code_sets i c ≡ false

  join_leaves : (c d : Code) → Leaves c → Leaves d → Leaves (join c d)
  join_leaves no_code d h k = k
  join_leaves (code_and s c) d h k =
      let parts = or_parts (core.stmt_sets i s) (code_sets i c) h in
      or_from (core.stmt_sets i s) (code_sets i (join c d)) parts.0 (join_leaves c d parts.1 k)

  -- one statement with two parts
  two_parts : (x y : Bool) → x ≡ false → y ≡ false → ((x || y) || false) ≡ false
  two_parts x y h k = or_from (x || y) false (or_from x y h k) refl

  module _ (p : Program) (w : Target) (temps : (s : Shape) (k : ℕ) → Other i (w.slot s k)) where
    module _ (r : Room) where
      tree_leaves : (c : Counts) (e : Tree) → Leaves (tree_code p r w c e)
      tree_leaves c e = leaves i (tree_code p r w c e) (tree_flat (Other i) p w temps r c e)

      loop_leaves : (n : ℕ) (place : Place) (inv : Formula) (e : Tree) (body : Code) → Leaves body → Leaves (loop_code p r w n place inv e body)
      loop_leaves n place inv e body h =
          two_parts (code_sets i (tree_code p r w (fresh (headed n inv)) e)) (code_sets i body) (tree_leaves (fresh (headed n inv)) e) h

    module _ (f : Function) where
      mutual
        stmt_leaves : (n : ℕ) (s : Stmt) → source.stmt_sets i s ≡ false → Leaves (stmt_code p f w n s)
        stmt_leaves n (declare_at at j es) h = leaves i (declare_code p (room_of f) w (fresh n) j es) (declare_flat (Other i) p w temps (room_of f) (fresh n) j es h)
        stmt_leaves n (assign_at at j o op_at e) h =
            leaves i (assign_code p (room_of f) w (fresh n) j o op_at e) (assign_flat (Other i) p w temps (room_of f) (fresh n) j o op_at e h)
        stmt_leaves n (write_at at base k field arrow o op_at e) h =
            leaves i (write_code p (room_of f) w (fresh n) base k field arrow o op_at e) (write_flat (Other i) p w temps (room_of f) (fresh n) base k field arrow o op_at e)
        stmt_leaves n (plain_at at e) h = tree_leaves (room_of f) (fresh n) e
        stmt_leaves n (block_at at ss) h = stmts_leave n ss h
        stmt_leaves n (if_at at e x ss) h =
            let n1 : ℕ = (counted p (room_of f) (fresh n) e).next + 1 in
            let parts = or_parts (source.stmt_sets i x) (stmts_set i ss) h in
            join_leaves (tree_code p (room_of f) w (fresh n) e) _ (tree_leaves (room_of f) (fresh n) e) (two_parts _ _ (stmt_leaves n1 x parts.0) (stmts_leave (stmt_next p f n1 x) ss parts.1))
        stmt_leaves n (while_at at inv e x) h =
            let n1 : ℕ = (counted p (room_of f) (fresh (headed n inv)) e).next + 1 in
            loop_leaves (room_of f) n at inv e (stmt_code p f w n1 x) (stmt_leaves n1 x h)
        stmt_leaves n (for_at at first e last inv x) h =
            let n1 : ℕ = stmts_next p f n first in
            let n2 : ℕ = (counted p (room_of f) (fresh (headed n1 inv)) e).next + 1 in
            let more : Code = stmts_code p f w (stmt_next p f n2 x) last in
            let parts = or_parts (stmts_set i first) (stmts_set i last || source.stmt_sets i x) h in
            let later = or_parts (stmts_set i last) (source.stmt_sets i x) parts.1 in
            join_leaves (stmts_code p f w n first) _ (stmts_leave n first parts.0)
            (loop_leaves (room_of f) n1 at inv e (join (stmt_code p f w n2 x) more) (join_leaves (stmt_code p f w n2 x) more (stmt_leaves n2 x later.1) (stmts_leave (stmt_next p f n2 x) last later.0)))
        stmt_leaves n (return_at at es) h =
            join_leaves (first_code p (room_of f) w (fresh n) es) _ (leaves i (first_code p (room_of f) w (fresh n) es) (first_flat (Other i) p w temps (room_of f) (fresh n) es)) refl
        stmt_leaves n (assert_at at e) h = join_leaves (tree_code p (room_of f) w (fresh n) e) _ (tree_leaves (room_of f) (fresh n) e) refl
        stmt_leaves n (raise_at at t) h = refl
        stmt_leaves n (note_at at k formula) h = refl

        stmts_leave : (n : ℕ) (ss : Stmts) → stmts_set i ss ≡ false → Leaves (stmts_code p f w n ss)
        stmts_leave n no_stmts h = refl
        stmts_leave n (stmt_and s ss) h =
            let parts = or_parts (source.stmt_sets i s) (stmts_set i ss) h in
            join_leaves (stmt_code p f w n s) (stmts_code p f w (stmt_next p f n s) ss) (stmt_leaves n s parts.0) (stmts_leave (stmt_next p f n s) ss parts.1)

  close_leaves : (w : Target) (f : Function) (o : Option Shape) → Leaves (close_code w f o)
  close_leaves w f None = refl
  close_leaves w f (Some s) = refl

  -- the temporaries come behind the locals
  temps_other : (p : Program) (g : ℕ) (f : Function) → i < length f.locals → (s : Shape) (k : ℕ) → Other i ((target p g f).slot s k)
  temps_other p g f lt s k = ne_eqb ((target p g f).slot s k) i (λ e. omega (arith, lt, e))

  body_leaves : (p : Program) (g : ℕ) (f : Function) → i < length f.locals → stmts_set i f.body ≡ false → Leaves (body_code p g f)
  body_leaves p g f lt h =
      join_leaves (stmts_code p f (target p g f) (start_choices p g f) f.body) (close_code (target p g f) f f.result)
      (stmts_leave p (target p g f) (temps_other p g f lt) f (start_choices p g f) f.body h) (close_leaves (target p g f) f f.result)

-- ---- functions
names_kept : (p : Program) (g : ℕ) (f : Function) (m : ℕ) → m ≤ length f.locals → (is : List ℕ) → AllBelow m is → IsTrue (list_all (λ i. not (stmts_set i f.body)) is) → IsTrue (list_all (λ i. not (code_sets i (body_code p g f))) is)
names_kept p g f m le [] below h = refl
names_kept p g f m le (i ∷ is) below h =
    let parts = and_parts (not (stmts_set i f.body)) (list_all (λ i. not (stmts_set i f.body)) is) h in
    let lt : i < length f.locals = omega (arith, le, below.0) in
    and_from (not (code_sets i (body_code p g f))) (list_all (λ i. not (code_sets i (body_code p g f))) is)
    (not_from_false (code_sets i (body_code p g f)) (body_leaves i p g f lt (not-true (stmts_set i f.body) parts.0)))
    (names_kept p g f m le is below.1 parts.1)

-- parameters are locals
params_locals : (f : Function) → length (params_in f) ≤ length f.locals
params_locals f =
    let taken : length (params_in f) ≡ min f.params (length (shapes_in f.locals)) = length-take f.params (shapes_in f.locals) in
    let all : length (shapes_in f.locals) ≡ length f.locals = length-map f.locals (λ (x : List ℕ × Shape). x.1) in
    omega (arith, taken, all)

pub kept : (plain : ℕ → Bool) (paths : ℕ → ℕ) (p : Program) → Fits p → All KeepsParams p.functions →
    EachFunction (core_of plain paths p) (λ g f. IsTrue (list_all (λ i. not (code_sets i f.body)) (parts_names f.after.parts)))
kept plain paths p fits keeps =
    each_lowered _ p (λ g f. IsTrue (list_all (λ i. not (code_sets i f.body)) (parts_names f.after.parts)))
    (λ g f there.
    let fit : FunctionFits p f = all_at (FunctionFits p) p.functions g f fits.functions there in
    names_kept p g f (length (params_in f)) (params_locals f) (parts_names f.after.parts) (parts_below p (record { locals = params_in f; outcome = f.result }) f.after.parts fit.after) (all_at KeepsParams p.functions g f keeps there))
