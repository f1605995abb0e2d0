-- The counts along each form of expression.
use Rattle.std.proofs.Common.{◌≡◌, ℕ, ◌+◌, ◌<◌, ◌≤◌, Bool, Option, List, ◌∷◌, length, get_or, drop, add-one, drop-cons, sym, ap, ◌∙◌, subst}
use Rattle.std.proofs.lemmas.List.{drop_all}
use Rattle.std.specs.Prelude.{slice_get}
use Rattle.gc0_base.specs.declared.place.Place.{Place}
use Rattle.gc0_tree.specs.declared.Shape.{Shape}
use Rattle.gc0_tree.specs.declared.Shape.TheVariants.{Bool as Truth}
use Rattle.gc0_tree.specs.declared.ExprOp.{ExprOp}
use Rattle.gc0_tree.specs.declared.LibraryCall.{LibraryCall}
use Rattle.gc0_tree.specs.declared.Expr.{Expr}
use Rattle.gc0_tree.specs.Views.{expr_view, exprs_view}
use Rattle.gc0_tree.specs.Tree.{Tree, binary_at, both_at, either_at, choose_at, call_at, library_at, Trees, no_trees, tree_and, Program}
use Rattle.gc0_tree.specs.Fits.{gives, library_gives, Room}
use Rattle.lowering_laws.specs.Counts.{tree_shape, chosen_shape, result_of, is_constant, call_choices, with_temp, with_result, with_constant, decided, counted, args_counted, first_counted}
use Rattle.temp_counts.specs.declared.tally.Tally.{Tally}
use Rattle.temp_counts.specs.Counting.{Counting}
use Rattle.temp_counts.proofs.Steps.{still, behind, past_decisions}

-- an expression is counted
abbrev pub Tried : Program → Room → (t u : Tally) → Tree → Type 0
Tried p r t u e = Counting t u (λ c. counted p r c e)

module _ (p : Program) (r : Room) (t u v : Tally) (e : Tree) where
  pub binary_counted : (w : Tally) (shape : Shape) (at : Place) (o : ExprOp) (a b : Tree)
      → e ≡ binary_at at o a b → shape ≡ gives o → Tried p r t u a → Tried p r u v b → Counting v w (with_temp shape) → Tried p r t w e
  binary_counted w shape at o a b view is first second third =
      let temp : Counting v w (with_temp (gives o)) = subst (λ (s : Shape). Counting v w (with_temp s)) is third in
      subst (Tried p r t w) (sym view) (behind t v w (λ c. counted p r (counted p r c a) b) (with_temp (gives o)) (behind t u v (λ c. counted p r c a) (λ c. counted p r c b) first second) temp)

  pub both_counted : (w : Tally) (at : Place) (a b : Tree)
      → e ≡ both_at at a b → Tried p r t u a → Tried p r u v b → Counting v w (with_temp Truth) → Tried p r t w e
  both_counted w at a b view first second third =
      let decides : Counting t u (λ c. decided 1 (counted p r c a)) = past_decisions t u (λ c. counted p r c a) 1 first in
      let parts : Counting t v (λ c. counted p r (decided 1 (counted p r c a)) b) = behind t u v (λ c. decided 1 (counted p r c a)) (λ c. counted p r c b) decides second in
      subst (Tried p r t w) (sym view) (behind t v w (λ c. counted p r (decided 1 (counted p r c a)) b) (with_temp Truth) parts third)

  pub either_counted : (w : Tally) (at : Place) (a b : Tree)
      → e ≡ either_at at a b → Tried p r t u a → Tried p r u v b → Counting v w (with_temp Truth) → Tried p r t w e
  either_counted w at a b view first second third =
      let decides : Counting t u (λ c. decided 1 (counted p r c a)) = past_decisions t u (λ c. counted p r c a) 1 first in
      let parts : Counting t v (λ c. counted p r (decided 1 (counted p r c a)) b) = behind t u v (λ c. decided 1 (counted p r c a)) (λ c. counted p r c b) decides second in
      subst (Tried p r t w) (sym view) (behind t v w (λ c. counted p r (decided 1 (counted p r c a)) b) (with_temp Truth) parts third)

  pub choose_counted : (w x : Tally) (shape : Shape) (at : Place) (a b d : Tree)
      → e ≡ choose_at at a b d → shape ≡ chosen_shape p r b d → Tried p r t u a → Tried p r u v b → Tried p r v w d
      → Counting w x (with_temp shape) → Tried p r t x e
  choose_counted w x shape at a b d view is first second third fourth =
      let temp : Counting w x (with_temp (chosen_shape p r b d)) = subst (λ (s : Shape). Counting w x (with_temp s)) is fourth in
      let decides : Counting t u (λ c. decided 1 (counted p r c a)) = past_decisions t u (λ c. counted p r c a) 1 first in
      let two : Counting t v (λ c. counted p r (decided 1 (counted p r c a)) b) = behind t u v (λ c. decided 1 (counted p r c a)) (λ c. counted p r c b) decides second in
      let three : Counting t w (λ c. counted p r (counted p r (decided 1 (counted p r c a)) b) d) = behind t v w (λ c. counted p r (decided 1 (counted p r c a)) b) (λ c. counted p r c d) two third in
      subst (Tried p r t x) (sym view) (behind t w x (λ c. counted p r (counted p r (decided 1 (counted p r c a)) b) d) (with_temp (chosen_shape p r b d)) three temp)

  pub call_counted : (given : Option Shape) (at : Place) (g : ℕ) (es : Trees)
      → e ≡ call_at at g es → given ≡ result_of (slice_get p.functions g) → Counting t u (λ c. args_counted p r c es)
      → Counting u v (with_result given) → Tried p r t v e
  call_counted given at g es view is first second =
      let temp : Counting u v (with_result (result_of (slice_get p.functions g))) = subst (λ (s : Option Shape). Counting u v (with_result s)) is second in
      let n : ℕ = call_choices (slice_get p.functions g) in
      let decides : Counting t u (λ c. decided n (args_counted p r c es)) = past_decisions t u (λ c. args_counted p r c es) n first in
      subst (Tried p r t v) (sym view) (behind t u v (λ c. decided n (args_counted p r c es)) (with_result (result_of (slice_get p.functions g))) decides temp)

  pub library_counted : (given : Option Shape) (at : Place) (l : LibraryCall) (es : Trees) (text : Option ℕ)
      → e ≡ library_at at l es text → given ≡ library_gives l → Counting t u (λ c. first_counted p r c es)
      → Counting u v (with_result given) → Tried p r t v e
  library_counted given at l es text view is first second =
      let temp : Counting u v (with_result (library_gives l)) = subst (λ (s : Option Shape). Counting u v (with_result s)) is second in
      subst (Tried p r t v) (sym view) (behind t u v (λ c. first_counted p r c es) (with_result (library_gives l)) first temp)

  -- one argument more
  pub argument_counted : (w : Tally) (constant : Bool) (shape : Shape) (es all : Trees)
      → all ≡ tree_and e es → constant ≡ is_constant e → shape ≡ tree_shape p r e → Tried p r t u e → Counting u v (with_constant constant shape)
      → Counting v w (λ c. args_counted p r c es) → Counting t w (λ c. args_counted p r c all)
  argument_counted w constant shape es all view fixed is first second third =
      let kept : Counting u v (with_constant (is_constant e) shape) = subst (λ (b : Bool). Counting u v (with_constant b shape)) fixed second in
      let held : Counting u v (with_constant (is_constant e) (tree_shape p r e)) = subst (λ (s : Shape). Counting u v (with_constant (is_constant e) s)) is kept in
      let one : Counting t v (λ c. with_constant (is_constant e) (tree_shape p r e) (counted p r c e)) = behind t u v (λ c. counted p r c e) (with_constant (is_constant e) (tree_shape p r e)) first held in
      subst (λ (ts : Trees). Counting t w (λ c. args_counted p r c ts)) (sym view) (behind t v w (λ c. with_constant (is_constant e) (tree_shape p r e) (counted p r c e)) (λ c. args_counted p r c es) one third)

-- no argument is left
pub none_counted : (p : Program) (r : Room) (t : Tally) (all : Trees) → all ≡ no_trees → Counting t t (λ c. args_counted p r c all)
none_counted p r t all view = subst (λ (ts : Trees). Counting t t (λ c. args_counted p r c ts)) (sym view) (still t)

-- the first argument of those that are left
pub next_argument : (es : List Expr) (i : ℕ) (e : Expr) → i < length es → e ≡ get_or es i e
    → exprs_view (drop i es) ≡ tree_and (expr_view e) (exprs_view (drop (i + 1) es))
next_argument es i e within is =
    let cut : drop i es ≡ get_or es i e ∷ drop (i + 1) es = rw add-one (drop-cons es i e within) in
    ap exprs_view cut ∙ ap (λ (x : Expr). tree_and (expr_view x) (exprs_view (drop (i + 1) es))) (sym is)

pub last_argument : (es : List Expr) (i : ℕ) → length es ≤ i → exprs_view (drop i es) ≡ no_trees
last_argument es i past = ap exprs_view (drop_all i es past)
