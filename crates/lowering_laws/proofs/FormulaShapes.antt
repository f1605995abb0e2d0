-- Formulas without calls look at structs and predicates alone.
use Rattle.std.proofs.Common.{◌≡◌, true, false, List, [], ◌∷◌, All, Option, Some, None, IfSome}
use Rattle.std.specs.Prelude.{IsTrue}
use Rattle.gc0_tree.specs.declared.Shape.{Shape}
use Rattle.gc0_tree.specs.declared.Shape.TheVariants.{Int, Bool as Truth, Pointer, Null}
use Rattle.gc0_tree.specs.Tree.{Tree, number_at, truth_at, null_at, local_at, result_at, unary_at, binary_at, both_at, either_at, choose_at, read_at, call_at, library_at, alloc_at, Trees, no_trees, tree_and, Conjuncts, no_parts, value_part, acc_part, instance_part, choice_part, Predicate, Struct, Program}
use Rattle.gc0_tree.specs.Fits.{Room, HasShape, AreGiven, PartsFit, IsHeld, StructFits, PredicateFits, shapes_in, unary_shape, library_params}
use Rattle.core_meaning.specs.CoreFits.{around}
use Rattle.lowering_laws.specs.Lowering.{Beside, lowered}
use Rattle.lowering_laws.specs.Formulas.{tree_without_calls, trees_without_calls, parts_without_calls, PredicateFormula}
use Rattle.lowering_laws.proofs.Suits.{and_left, and_right}

module _ (b : Beside) (p : Program) where
  abbrev q : Program
  q = around (lowered b p)

  pub held_around : (s : Shape) → IsHeld p s → IsHeld (around (lowered b p)) s
  held_around Int h = tt
  held_around Truth h = tt
  held_around (Pointer k) h = h
  held_around Null h = absurd h

  pub all_held : (ss : List Shape) → All (IsHeld p) ss → All (IsHeld (around (lowered b p))) ss
  all_held ss h k d lt = held_around _ (h k d lt)

  pub struct_around : (s : Struct) → StructFits p s → StructFits (around (lowered b p)) s
  struct_around s h = all_held (shapes_in s.fields) h

  pub result_around : (o : Option Shape) → IfSome o (IsHeld p) → IfSome o (IsHeld (around (lowered b p)))
  result_around None h = tt
  result_around (Some s) h = held_around s h

  module _ (r : Room) where
    mutual
      tree_around : (e : Tree) (s : Shape) → IsTrue (tree_without_calls e) → HasShape p r e s → HasShape q r e s
      tree_around (number_at at n) s k h = h
      tree_around (truth_at at t) s k h = h
      tree_around (null_at at) s k h = h
      tree_around (local_at at i) s k h = h
      tree_around (result_at at) s k h = h
      tree_around (unary_at at o a) s k h = (h.0, tree_around a (unary_shape o) k h.1)
      tree_around (binary_at at o x y) s k h =
          (h.0, h.1, h.2, tree_around x h.1 (and_left (tree_without_calls x) (tree_without_calls y) k) h.3, tree_around y h.2 (and_right (tree_without_calls x) (tree_without_calls y) k) h.4, h.5)
      tree_around (both_at at x y) s k h =
          (h.0, tree_around x Truth (and_left (tree_without_calls x) (tree_without_calls y) k) h.1, tree_around y Truth (and_right (tree_without_calls x) (tree_without_calls y) k) h.2)
      tree_around (either_at at x y) s k h =
          (h.0, tree_around x Truth (and_left (tree_without_calls x) (tree_without_calls y) k) h.1, tree_around y Truth (and_right (tree_without_calls x) (tree_without_calls y) k) h.2)
      tree_around (choose_at at e x y) s k h =
          let k1 = and_right (tree_without_calls e) _ k in (
            tree_around e Truth (and_left (tree_without_calls e) _ k) h.0,
            h.1,
            h.2,
            tree_around x h.1 (and_left (tree_without_calls x) (tree_without_calls y) k1) h.3,
            tree_around y h.2 (and_right (tree_without_calls x) (tree_without_calls y) k1) h.4,
            h.5,
          )
      tree_around (read_at at x i f) s k h = (tree_around x (Pointer i) k h.0, h.1)
      tree_around (call_at at g es) s k h = absurd (let f : false ≡ true = k in cc)
      tree_around (library_at at l es t) s k h = (h.0, given_around (library_params l) es k h.1, h.2)
      tree_around (alloc_at at i) s k h = h

      given_around : (due : List Shape) (es : Trees) → IsTrue (trees_without_calls es) → AreGiven p r due es → AreGiven q r due es
      given_around [] no_trees k h = h
      given_around [] (tree_and e es) k h = absurd h
      given_around (s ∷ due) no_trees k h = absurd h
      given_around (s ∷ due) (tree_and e es) k h =
          ((h.0.0, tree_around e h.0.0 (and_left (tree_without_calls e) (trees_without_calls es) k) h.0.1, h.0.2), given_around due es (and_right (tree_without_calls e) (trees_without_calls es) k) h.1)

    pub parts_around : (parts : Conjuncts) → IsTrue (parts_without_calls parts) → PartsFit p r parts → PartsFit (around (lowered b p)) r parts
    parts_around no_parts k h = h
    parts_around (value_part e rest) k h =
        (tree_around e Truth (and_left (tree_without_calls e) (parts_without_calls rest) k) h.0, parts_around rest (and_right (tree_without_calls e) (parts_without_calls rest) k) h.1)
    parts_around (acc_part e f rest) k h =
        ((h.0.0, tree_around e (Pointer h.0.0) (and_left (tree_without_calls e) (parts_without_calls rest) k) h.0.1, h.0.2), parts_around rest (and_right (tree_without_calls e) (parts_without_calls rest) k) h.1)
    parts_around (instance_part at i es rest) k h =
        ((h.0.0, h.0.1, given_around (shapes_in h.0.0.params) es (and_left (trees_without_calls es) (parts_without_calls rest) k) h.0.2), parts_around rest (and_right (trees_without_calls es) (parts_without_calls rest) k) h.1)
    parts_around (choice_part at e these those rest) k h =
        let k1 = and_right (tree_without_calls e) _ k in
        let k2 = and_right (parts_without_calls these) _ k1 in (
          tree_around e Truth (and_left (tree_without_calls e) _ k) h.0,
          parts_around these (and_left (parts_without_calls these) _ k1) h.1,
          parts_around those (and_left (parts_without_calls those) (parts_without_calls rest) k2) h.2,
          parts_around rest (and_right (parts_without_calls those) (parts_without_calls rest) k2) h.3,
        )

  pub predicate_around : (d : Predicate) → PredicateFormula d → PredicateFits p d → PredicateFits (around (lowered b p)) d
  predicate_around d k h = record { params = all_held (shapes_in d.params) h.params; body = parts_around (record { locals = shapes_in d.params; outcome = None }) d.body k h.body }
