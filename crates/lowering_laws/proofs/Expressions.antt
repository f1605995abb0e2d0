-- The code of an expression does what the expression does.
use Rattle.std.proofs.Common.{◌≡◌, ℕ, suc, ◌<◌, ◌≤◌, Bool, true, false, List, [], ◌∷◌, ◌++◌, length, map, take, All, Option, Some, None, IfSome, refl, sym, ap, ◌∙◌, subst, arith}
use Rattle.std.proofs.lemmas.List.{get_or-take, length-map, length-take}
use Rattle.std.specs.Prelude.{slice_get, slice_index, slice_set}
use Rattle.gc0_base.specs.declared.place.Place.{Place}
use Rattle.gc0_base.specs.declared.site.Site.{Site}
use Rattle.gc0_base.specs.declared.site.Kind.TheVariants as kind
use Rattle.gc0_tree.specs.declared.Shape.{Shape}
use Rattle.gc0_tree.specs.declared.Shape.TheVariants.{Bool as Truth, Pointer}
use Rattle.gc0_tree.specs.declared.LibraryCall.{LibraryCall}
use Rattle.gc0_tree.specs.declared.LibraryCall.TheVariants as library
use Rattle.gc0_tree.specs.Tree.{Tree, number_at, truth_at, null_at, local_at, result_at, unary_at, binary_at, both_at, either_at, choose_at, read_at, call_at, library_at, alloc_at, Trees, no_trees, tree_and, Function, Program}
use Rattle.gc0_tree.specs.Fits.{Room, HasShape, AreGiven, IsHeld, StructFits, FunctionFits, unary_shape, gives, library_gives, library_params, params_in, shapes_in}
use Rattle.gc0_tree.specs.Sites.{reads_input}
use Rattle.c0_meaning.specs.Operators.{unary_word, pick}
use Rattle.c0_meaning.specs.Heaps.{Cell, Cells, cell_value}
use Rattle.c0_meaning.specs.Runs.{State, Next, Run, go_on, chain, give, end, get, change, take_step}
use Rattle.c0_meaning.specs.Running.{Calls, decide, access, allocate, apply, or_0, fields_of, before_of, text_of, text_at, first_of, next_of, library_does, eval, eval_all}
use Rattle.core_tree.specs.declared.Phase.TheVariants.{Produce}
use Rattle.core_tree.specs.declared.Simple.{Simple}
use Rattle.core_tree.specs.declared.Simple.TheVariants as simple
use Rattle.core_tree.specs.CoreTree.{do_step, do_set, do_unary, do_load, do_new, do_call, do_library, do_if, Code, code_and, CoreFunction, Core}
use Rattle.core_meaning.specs.CoreRuns as core
use Rattle.core_meaning.specs.CoreRuns.{Outcomes, Visit, CoreState}
use Rattle.core_meaning.specs.CoreRunning as cored
use Rattle.core_meaning.specs.CoreRunning.{Flow, On, word_of, word_in, core_exec_all, called_at, consume, mark, put_if}
use Rattle.lowering_laws.specs.Counts.{result_of, read_shape, chosen_shape, tree_shape, Counts, with_temp, with_result, with_constant, decided, call_choices, is_constant, counted, args_counted, first_counted}
use Rattle.lowering_laws.specs.Trees.{Target, join, one, temp, temp_if, constant, held, value_of, first_value, argument, argument_code, arguments, decision, site_if, operator_code, tree_code, args_code, first_code}
use Rattle.lowering_laws.proofs.Agree.{More, beside, sites_in, Agree, agree_then, agree_to, agree_source, Fit, good_sites, good_counts, Called, turn_by}
use Rattle.lowering_laws.proofs.Counting.{Within, within_trans, counted_grows, args_grow, first_grows, constant_grows, one_has, some_is, none_some, shape_is, IsTemp, unary_temp, gives_temp, library_temp, result_temp, shape_temp}
use Rattle.lowering_laws.proofs.Codes.{word_same, consume_then, access_then, runs, nothing, then_code, then_last, step_code, branch_code, operator_agrees}
use Rattle.lowering_laws.proofs.Values.{Slots, Keeps, keeps_refl, keeps_trans, InRoom, Has, put_has, room_before, room_of_temp, value_keeps, local_is, local_within}

-- what a core has of its program
pub record IsCoreOf (p : Program) (c : Core) : Type 0 where
  pub structs : c.structs ≡ p.structs
  pub predicates : c.predicates ≡ p.predicates
  pub texts : c.texts ≡ p.texts
  pub befores : (g : ℕ) → cored.before_of (slice_get c.functions g) ≡ before_of (slice_get p.functions g)

-- what is known of the program and the locals
pub record Known (p : Program) (r : Room) (m : ℕ) : Type 0 where
  pub structs : All (StructFits p) p.structs
  pub functions : All (FunctionFits p) p.functions
  pub locals : All (IsHeld p) r.locals
  pub outcome : IfSome r.outcome (IsTemp p)
  pub size : length r.locals ≤ m

-- what calls do that begin with fewer steps and turns
abbrev pub CallsAgree : Program → Calls → cored.Calls → (most most' : ℕ) → Type 0
CallsAgree p go go' most most' = (g : ℕ) (xs : List ℕ) (start : Cells) (s : State) (e : More) → ((h : Function) → slice_get p.functions g ≡ Some h → length xs ≤ length h.locals) →
    s.steps ≤ e.turns → s.sites ≡ sites_in e.visits → s.steps < most → e.turns < most' → Agree (Called s e) (go g xs start s) (go' g xs start (beside s e))

-- a value that may be absent: at most one expression
abbrev pub IsFirst : Program → Room → Trees → Type 0
IsFirst p r no_trees = Unit {0}
IsFirst p r (tree_and e no_trees) = (s : Shape) × HasShape p r e s
IsFirst p r (tree_and e (tree_and d ds)) = ⊥

pub library_first : (p : Program) (r : Room) (l : LibraryCall) (es : Trees) → AreGiven p r (library_params l) es → IsFirst p r es
library_first p r library.PrintInt (tree_and e no_trees) h = (h.0.0, h.0.1)
library_first p r library.PrintBool (tree_and e no_trees) h = (h.0.0, h.0.1)
library_first p r library.PrintInt no_trees h = tt
library_first p r library.PrintBool no_trees h = tt
library_first p r library.PrintInt (tree_and e (tree_and d ds)) h = h.1
library_first p r library.PrintBool (tree_and e (tree_and d ds)) h = h.1
library_first p r library.Print no_trees h = tt
library_first p r library.PrintLine no_trees h = tt
library_first p r library.ReadInt no_trees h = tt
library_first p r library.MoreInt no_trees h = tt
library_first p r library.Print (tree_and e es) h = absurd h
library_first p r library.PrintLine (tree_and e es) h = absurd h
library_first p r library.ReadInt (tree_and e es) h = absurd h
library_first p r library.MoreInt (tree_and e es) h = absurd h

args_count : (p : Program) (r : Room) (w : Target) (c : Counts) (due : List Shape) (es : Trees) → AreGiven p r due es → length (arguments p r w c es) ≡ length due
args_count p r w c [] no_trees h = refl
args_count p r w c (s ∷ due) (tree_and e es) h = ap suc (args_count p r w (with_constant (is_constant e) (tree_shape p r e) (counted p r c e)) due es h.1)
args_count p r w c [] (tree_and e es) h = absurd h
args_count p r w c (s ∷ due) no_trees h = absurd h

params_few : (h : Function) → length (params_in h) ≤ length h.locals
params_few h = omega (arith, length-take h.params (shapes_in h.locals), length-map h.locals (λ (q : List ℕ × Shape). q.1))

module _ (p : Program) (c : Core) (is_core : IsCoreOf p c) (f : CoreFunction) (r : Room) (w : Target) (m all : ℕ) (room : Shape → ℕ) (slots : Slots p w m all room) (known : Known p r m)
    (go : Calls) (go' : cored.Calls) (most most' : ℕ) (calls : CallsAgree p go go' most most') where
  abbrev FitsHere : State → More → Type 0
  FitsHere s e = Fit m all most most' s e

  abbrev pub HasFirst : (Shape → ℕ) → List ℕ → Option Simple → List ℕ → State → Flow → More → Type 0
  HasFirst used old v ys s fl e = (fl ≡ On) × Fit m all most most' s e × Keeps w m used old e.words × (word_in v (beside s e) ≡ first_of ys)

  abbrev pub HasAll : (Shape → ℕ) → List ℕ → List ℕ → List ℕ → State → Flow → More → Type 0
  HasAll used old is ys s fl e = (fl ≡ On) × Fit m all most most' s e × Keeps w m used old e.words × (map (slice_index e.words) is ≡ ys)

  abbrev pub HasIf : (Shape → ℕ) → List ℕ → Option ℕ → ℕ → State → Flow → More → Type 0
  HasIf used old to y s fl e = (fl ≡ On) × Fit m all most most' s e × Keeps w m used old e.words × IfSome to (λ i. slice_index e.words i ≡ y)

  to_has : (used : Shape → ℕ) (old : List ℕ) (o : Option Shape) (c1 : Counts) (u : Shape) (y : ℕ) (s : State) (fl : Flow) (e : More) → o ≡ Some u → HasIf used old (temp_if w o c1) y s fl e → Has p w m all most most' room slots used old (held (temp_if w o c1)) y s fl e
  to_has used old None c1 u y s fl e h g = absurd (none_some u h)
  to_has used old (Some v) c1 u y s fl e h g = g

  is_temp : (e : Tree) (s : Shape) → HasShape p r e s → IsTemp p (tree_shape p r e)
  is_temp e s h = subst (IsTemp p) (sym (shape_is p r e s h)) (shape_temp p known.structs known.functions r known.locals known.outcome e s h)

  pub step_fit : (s : State) (e : More) (i : ℕ) → s.steps ≡ suc i → FitsHere s e → FitsHere (record s { steps = i }) e
  step_fit s e i h fit = let a = fit.turns in let b = fit.few in good_counts m all most most' most most' s.locals s.steps i s.sites e.words e.turns e.turns e.visits fit (omega arith) (omega arith) fit.few'

  pub within_words : (u : Shape) (c1 : Counts) (e : More) → InRoom p w m all most most' room slots (with_temp u c1) → IsTemp p u → length e.words ≡ all → temp w u c1 < length e.words
  within_words u c1 e in_room t l = let b : temp w u c1 < all = slots.below u (c1.used u) t (room_of_temp p w m all most most' room slots u c1 in_room) in omega arith

  -- a result is put where there is one
  put_result : (used : Shape → ℕ) (c1 : Counts) (o : Option Shape) (old : List ℕ) (n : ℕ) (s1 s2 s3 : State) (e1 e2 e3 : More) (y y' : ℕ) → Within (with_result o (decided n c1)).used room → IfSome o (IsTemp p) → Within used c1.used → FitsHere s1 e1 → Keeps w m used old e1.words →
      s2.locals ≡ s1.locals → e2.words ≡ e1.words → s2.steps ≤ s1.steps → e2.turns ≤ e1.turns → Called s2 e2 y s3 y' e3 → Agree (HasIf used old (temp_if w o c1)) (Next y s3) (put_if (temp_if w o c1) y' (beside s3 e3))
  unfolding core.chain core.give core.change
  put_result used c1 o old n s1 s2 s3 e1 e2 e3 y y' in_room temps le fit keeps ls ws few few' k =
      let words : e3.words ≡ e1.words = k.words ∙ ws in
      let a = k.few in let b = k.few' in let x = fit.few in let z = fit.few' in
      let fit3 : FitsHere s3 e3 = record { locals = ap (take m) words ∙ fit.locals ∙ sym (k.locals ∙ ls); words = ap length words ∙ fit.words; turns = k.turns; few = omega arith; few' = omega arith; sites = k.sites } in
      let keeps3 : Keeps w m used old e3.words = subst (Keeps w m used old) (sym words) keeps in
      by_result o in_room temps fit3 keeps3
    where
      by_result : (o : Option Shape) → Within (with_result o (decided n c1)).used room → IfSome o (IsTemp p) → FitsHere s3 e3 → Keeps w m used old e3.words → Agree (HasIf used old (temp_if w o c1)) (Next y s3) (put_if (temp_if w o c1) y' (beside s3 e3))
      by_result None in_room temps fit3 keeps3 = (refl, (refl, fit3, keeps3, tt))
      by_result (Some u) in_room temps fit3 keeps3 = (refl, put_has p w m all most most' room slots used c1 u old s3 e3 y' y in_room temps le fit3 keeps3 (sym k.value))

  -- ---- calls, behind their arguments
  called_agrees : (site : Site) (g : ℕ) (ws : List ℕ) (s : State) (e : More) → ((h : Function) → slice_get p.functions g ≡ Some h → length ws ≤ length h.locals) → s.steps < e.turns → s.sites ≡ sites_in e.visits → s.steps < most → e.turns ≤ most' →
      Agree (Called s e) (go_on (decide p site (before_of (slice_get p.functions g)) [] ws s) (go g ws)) (called_at c go' site g (slice_get c.functions g) ws (beside s e))
  unfolding core.chain core.give core.change mark
  called_agrees site g ws s e takes lt sites few few' =
      let after : ℕ → core.Run ℕ = λ v. core.chain (cored.mark_over c site Produce (cored.after_of (slice_get c.functions g)) (ws ++ cored.results_of (slice_get c.functions g) v)) (λ _. core.give v) in
      turn_by (Called s e) e.turns (go_on (decide p site (before_of (slice_get p.functions g)) [] ws s) (go g ws)) (beside s e)
      (λ t. core.go_on (consume c site (cored.before_of (slice_get c.functions g)) [] ws t) (λ start t. core.go_on (go' g ws start t) after)) (omega arith) (λ j e1.
      subst (λ φ. Agree (Called s e) (go_on (decide p site (before_of (slice_get p.functions g)) [] ws s) (go g ws)) (core.go_on (consume c site φ [] ws (beside s (record e { turns = j }))) (λ start t. core.go_on (go' g ws start t) after))) (sym (is_core.befores g))
      (consume_then p c is_core.predicates (Called s e) site (before_of (slice_get p.functions g)) [] ws s (record e { turns = j }) (go g ws) (λ start t. core.go_on (go' g ws start t) after) sites
      (λ start os vs seen.
      let s1 : State = record s { sites = s.sites ++ site ∷ [] } in
      let e2 : More = record e { turns = j; outcomes = os; visits = vs } in
      agree_then (Called s1 e2) (Called s e) (go g ws start s1) (go' g ws start (beside s1 e2)) after (calls g ws start s1 e2 takes (omega arith) seen few (omega arith))
      (λ v s3 v' e3 k. let b = k.few' in (refl, record { value = k.value; locals = k.locals; words = k.words; turns = k.turns; few = k.few; few' = omega arith; sites = k.sites })))))

  pub call_by : (place : Place) (g : ℕ) (es : Trees) (c0 : Counts) (h : Function) → slice_get p.functions g ≡ Some h → AreGiven p r (params_in h) es → InRoom p w m all most most' room slots (counted p r c0 (call_at place g es)) → (s : State) (e : More) →
      Agree (HasAll c0.used e.words (arguments p r w c0 es)) (eval_all p w.at go es s) (runs c f go' (args_code p r w c0 es) (beside s e)) →
      Agree (HasIf c0.used e.words (temp_if w (result_of (slice_get p.functions g)) (args_counted p r c0 es))) (eval p w.at go (call_at place g es) s) (runs c f go' (tree_code p r w c0 (call_at place g es)) (beside s e))
  unfolding chain core.chain core.get core.give
  call_by place g es c0 h there given in_room s e agreed =
      let o : Option Shape = result_of (slice_get p.functions g) in
      let c1 : Counts = args_counted p r c0 es in
      let site : Site = w.at kind.Requires place in
      let args : List ℕ = arguments p r w c0 es in
      let to : Option ℕ = temp_if w o c1 in
      let Q : ℕ → State → Flow → More → Type 0 = HasIf c0.used e.words to in
      let rest : List ℕ → Run ℕ = λ ys s. go_on (decide p site (before_of (slice_get p.functions g)) [] ys s) (go g ys) in
      let callee : Code = one (do_call to g args site) in
      then_code c f go' (HasAll c0.used e.words args) Q (eval_all p w.at go es s) (args_code p r w c0 es) (code_and do_step callee) (λ ys s1. go_on (take_step s1.steps s1) (λ _. rest ys)) (beside s e) agreed
      (λ ys s1 fl e1 g1. (
        g1.0,
        step_code c f go' Q s1 e1 (rest ys) callee g1.1.sites (λ i is_suc.
            let s2 : State = record s1 { steps = i } in
            let ws : List ℕ = map (slice_index e1.words) args in
            let turns = g1.1.turns in let few = g1.1.few in let few' = g1.1.few' in
            let count : length ws ≡ length (params_in h) = length-map args (slice_index e1.words) ∙ args_count p r w c0 (params_in h) es given in
            let takes : (h1 : Function) → slice_get p.functions g ≡ Some h1 → length ws ≤ length h1.locals = λ h1 there1. subst (λ (h1 : Function). length ws ≤ length h1.locals) (some_is h h1 (sym there ∙ there1)) (omega (arith, params_few h)) in
            let called : core.Out ℕ = called_at c go' site g (slice_get c.functions g) ws (beside s2 e1) in
            subst (λ ys. Agree Q (rest ys s2) (runs c f go' callee (beside s2 e1))) g1.3
            (subst (λ q. Agree Q (rest ws s2) q) (sym (nothing c f go' (core.go_on called (put_if to))))
            (agree_then (Called s2 e1) Q (rest ws s2) called (put_if to) (called_agrees site g ws s2 e1 takes (omega arith) g1.1.sites (omega arith) few')
            (λ v s3 v' e3 k. put_result c0.used c1 o e.words (call_choices (slice_get p.functions g)) s1 s2 s3 e1 e1 e3 v v' in_room (result_temp p known.structs known.functions g) (args_grow p r c0 es) g1.1 g1.2 refl refl (omega arith) (omega arith) k)))),
      ))

  -- ---- library calls, behind their argument
  text_same : (t : Option ℕ) → cored.text_of c t ≡ text_of p t
  text_same None = refl
  text_same (Some k) = ap (λ ts. text_at (slice_get ts k)) is_core.texts

  next_agrees : (site : Site) (input : List ℕ) (s : State) (e : More) → s.steps ≤ e.turns → s.sites ≡ sites_in e.visits → Agree (Called s e) (next_of site input s) (cored.next_of (Some site) input (beside s e))
  unfolding chain give end change core.chain core.give core.end core.change
  next_agrees site [] s e turns sites = (refl, refl, sites)
  next_agrees site (x ∷ xs) s e turns sites = (refl, record { value = refl; locals = refl; words = refl; turns = turns; few = omega arith; few' = omega arith; sites = sites })

  library_agrees : (site : Site) (l : LibraryCall) (ys : List ℕ) (t : Option ℕ) (s : State) (e : More) → s.steps ≤ e.turns → s.sites ≡ sites_in e.visits →
      Agree (Called s e) (library_does p site l ys t s) (cored.library_does c (site_if (reads_input l) site) l (first_of ys) t (beside s e))
  unfolding chain give end get change core.chain core.give core.end core.get core.change
  library_agrees site library.PrintInt ys t s e turns sites = (refl, record { value = refl; locals = refl; words = refl; turns = turns; few = omega arith; few' = omega arith; sites = sites })
  library_agrees site library.PrintBool ys t s e turns sites = (refl, record { value = refl; locals = refl; words = refl; turns = turns; few = omega arith; few' = omega arith; sites = sites })
  library_agrees site library.Print ys t s e turns sites =
      (ap (λ b. beside (record s { output = s.output ++ b }) e) (sym (text_same t)), record { value = refl; locals = refl; words = refl; turns = turns; few = omega arith; few' = omega arith; sites = sites })
  library_agrees site library.PrintLine ys t s e turns sites =
      (ap (λ b. beside (record s { output = s.output ++ (b ++ 10 ∷ []) }) e) (sym (text_same t)), record { value = refl; locals = refl; words = refl; turns = turns; few = omega arith; few' = omega arith; sites = sites })
  library_agrees site library.ReadInt ys t s e turns sites = next_agrees site s.input s e turns sites
  library_agrees site library.MoreInt ys t s e turns sites = (refl, record { value = refl; locals = refl; words = refl; turns = turns; few = omega arith; few' = omega arith; sites = sites })

  pub library_by : (place : Place) (l : LibraryCall) (es : Trees) (t : Option ℕ) (c0 : Counts) → InRoom p w m all most most' room slots (counted p r c0 (library_at place l es t)) → (s : State) (e : More) →
      Agree (HasFirst c0.used e.words (first_value p r w c0 es)) (eval_all p w.at go es s) (runs c f go' (first_code p r w c0 es) (beside s e)) →
      Agree (HasIf c0.used e.words (temp_if w (library_gives l) (first_counted p r c0 es))) (eval p w.at go (library_at place l es t) s) (runs c f go' (tree_code p r w c0 (library_at place l es t)) (beside s e))
  unfolding chain core.chain core.get core.give
  library_by place l es t c0 in_room s e agreed =
      let o : Option Shape = library_gives l in
      let c1 : Counts = first_counted p r c0 es in
      let site : Site = w.at kind.Trap place in
      let v : Option Simple = first_value p r w c0 es in
      let to : Option ℕ = temp_if w o c1 in
      let Q : ℕ → State → Flow → More → Type 0 = HasIf c0.used e.words to in
      let rest : List ℕ → Run ℕ = λ ys. library_does p site l ys t in
      let callee : Code = one (do_library to l v t (site_if (reads_input l) site)) in
      then_code c f go' (HasFirst c0.used e.words v) Q (eval_all p w.at go es s) (first_code p r w c0 es) (code_and do_step callee) (λ ys s1. go_on (take_step s1.steps s1) (λ _. rest ys)) (beside s e) agreed
      (λ ys s1 fl e1 g1. (
        g1.0,
        step_code c f go' Q s1 e1 (rest ys) callee g1.1.sites (λ i is_suc.
            let s2 : State = record s1 { steps = i } in
            let turns = g1.1.turns in
            let same : word_in v (beside s2 e1) ≡ first_of ys = word_in_same v (beside s2 e1) (beside s1 e1) refl ∙ g1.3 in
            let does : ℕ → core.Out ℕ = λ x. cored.library_does c (site_if (reads_input l) site) l x t (beside s2 e1) in
            subst (λ q. Agree Q (rest ys s2) q) (sym (nothing c f go' (core.go_on (does (word_in v (beside s2 e1))) (put_if to))))
            (subst (λ x. Agree Q (rest ys s2) (core.go_on (does x) (put_if to))) (sym same)
            (agree_then (Called s2 e1) Q (rest ys s2) (does (first_of ys)) (put_if to) (library_agrees site l ys t s2 e1 (omega arith) g1.1.sites)
            (λ v s3 v' e3 k. put_result c0.used c1 o e.words 0 s1 s2 s3 e1 e1 e3 v v' (lib_room o c1 in_room) (library_temp p l) (first_grows p r c0 es) g1.1 g1.2 refl refl (omega arith) (omega arith) k)))),
      ))
    where
      word_in_same : (v : Option Simple) (t t' : CoreState) → t.words ≡ t'.words → word_in v t ≡ word_in v t'
      word_in_same None t t' h = refl
      word_in_same (Some v) t t' h = word_same v t t' h

      lib_room : (o : Option Shape) (c1 : Counts) → Within (with_result o c1).used room → Within (with_result o (decided 0 c1)).used room
      lib_room None c1 h = h
      lib_room (Some u) c1 h = h

  pub result_room : (o : Option Shape) (n : ℕ) (c1 : Counts) → Within (with_result o (decided n c1)).used room → Within c1.used room
  result_room None n c1 h = h
  result_room (Some u) n c1 h = room_before p w m all most most' room slots u c1 h

  pub plain_room : (o : Option Shape) (c1 : Counts) → Within (with_result o c1).used room → Within c1.used room
  plain_room None c1 h = h
  plain_room (Some u) c1 h = room_before p w m all most most' room slots u c1 h

  -- an argument is put into a local where it is constant; there it stays
  argument_then : (e : Tree) (c0 : Counts) (u : Shape) → HasShape p r e u → (y : ℕ) (s : State) (e1 : More) (b : Bool) → is_constant e ≡ b →
      Within (with_constant b (tree_shape p r e) (counted p r c0 e)).used room → FitsHere s e1 → word_of (value_of p r w c0 e) (beside s e1) ≡ y → {old : List ℕ} → Keeps w m c0.used old e1.words →
      {A : Type 0} (Q : A → State → Flow → More → Type 0) (F : Run A) (rest : Code) →
      ((e2 : More) → FitsHere s e2 → Keeps w m c0.used old e2.words → slice_index e2.words (argument b (temp w (tree_shape p r e) (counted p r c0 e)) (value_of p r w c0 e)) ≡ y →
      ((s3 : State) (e3 : More) → Keeps w m (with_constant b (tree_shape p r e) (counted p r c0 e)).used e2.words e3.words →
      slice_index e3.words (argument b (temp w (tree_shape p r e) (counted p r c0 e)) (value_of p r w c0 e)) ≡ slice_index e2.words (argument b (temp w (tree_shape p r e) (counted p r c0 e)) (value_of p r w c0 e))) →
      Agree Q (F s) (runs c f go' rest (beside s e2))) →
      Agree Q (F s) (runs c f go' (join (argument_code b (temp w (tree_shape p r e) (counted p r c0 e)) (value_of p r w c0 e)) rest) (beside s e1))
  unfolding core.chain core.give core.get core.change
  argument_then e c0 u has y s e1 true is_b in_room fit is_y {old} keeps {A} Q F rest k =
      let c1 : Counts = counted p r c0 e in
      let shape : Shape = tree_shape p r e in
      let z : ℕ = word_of (value_of p r w c0 e) (beside s e1) in
      let done = put_has p w m all most most' room slots c0.used c1 shape old s e1 z y in_room (is_temp e u has) (counted_grows p r c0 e) fit keeps is_y in
      k (record e1 { words = slice_set e1.words (temp w shape c1) z }) done.1 done.2 done.3
      (λ s3 e3 h. let o = one_has shape c1.used in let lt : c1.used shape < (with_temp shape c1).used shape = omega arith in h.temps shape (c1.used shape) lt)
  argument_then e c0 u has y s e1 false is_b in_room fit is_y {old} keeps {A} Q F rest k =
      let v : Simple = value_of p r w c0 e in
      k e1 fit keeps (local_is p w m all most most' room slots r known.size c0 e u (beside s e1) has is_b ∙ is_y)
      (λ s3 e3 h. local_is p w m all most most' room slots r known.size c0 e u (beside s3 e3) has is_b ∙ value_keeps p w m all most most' room slots r known.size (counted p r c0 e).used c0 e u (beside s e1) (beside s3 e3) has (λ n. omega arith) h ∙ sym (local_is p w m all most most' room slots r known.size c0 e u (beside s e1) has is_b))

  -- ---- expressions
  mutual
    unfolding chain give get core.chain core.give core.get core.change allocate cored.allocate

    pub tree_agrees : (e : Tree) (c0 : Counts) (u : Shape) → HasShape p r e u → InRoom p w m all most most' room slots (counted p r c0 e) → (s : State) (x : More) → FitsHere s x →
        Agree (Has p w m all most most' room slots c0.used x.words (value_of p r w c0 e)) (eval p w.at go e s) (runs c f go' (tree_code p r w c0 e) (beside s x))
    tree_agrees (number_at at n) c0 u has in_room s x fit = (refl, (refl, fit, keeps_refl w m c0.used x.words, refl))
    tree_agrees (truth_at at b) c0 u has in_room s x fit = (refl, (refl, fit, keeps_refl w m c0.used x.words, refl))
    tree_agrees (null_at at) c0 u has in_room s x fit = (refl, (refl, fit, keeps_refl w m c0.used x.words, refl))
    tree_agrees (result_at at) c0 u has in_room s x fit = (refl, (refl, fit, keeps_refl w m c0.used x.words, refl))
    tree_agrees (local_at at i) c0 u has in_room s x fit =
        (refl, (refl, fit, keeps_refl w m c0.used x.words, sym (get_or-take m x.words i 0 (local_within p w m all most most' room slots r known.size i u has)) ∙ ap (λ l. slice_index l i) fit.locals))
    tree_agrees (unary_at at o a) c0 u has in_room s x fit =
        let c1 : Counts = counted p r c0 a in
        let to : ℕ = temp w (unary_shape o) c1 in
        let v : Simple = value_of p r w c0 a in
        then_code c f go' (Has p w m all most most' room slots c0.used x.words v) (Has p w m all most most' room slots c0.used x.words (simple.Local to)) (eval p w.at go a s) (tree_code p r w c0 a) (one (do_unary to o v)) (λ y s1. Next (unary_word o y) s1) (beside s x)
        (tree_agrees a c0 (unary_shape o) has.1 (room_before p w m all most most' room slots (unary_shape o) c1 in_room) s x fit)
        (λ y s1 fl e1 g. (g.0, (refl, put_has p w m all most most' room slots c0.used c1 (unary_shape o) x.words s1 e1 (unary_word o (word_of v (beside s1 e1))) (unary_word o y) in_room (unary_temp p o) (counted_grows p r c0 a) g.1 g.2 (ap (unary_word o) g.3))))
    tree_agrees (binary_at at o a b) c0 u has in_room s x fit =
        let c1 : Counts = counted p r c0 a in
        let c2 : Counts = counted p r c1 b in
        let to : ℕ = temp w (gives o) c2 in
        let va : Simple = value_of p r w c0 a in
        let vb : Simple = value_of p r w c1 b in
        let Q : ℕ → State → Flow → More → Type 0 = Has p w m all most most' room slots c0.used x.words (simple.Local to) in
        let opc : Code = operator_code to o (w.at kind.Trap at) va vb in
        let g01 : Within c0.used c1.used = counted_grows p r c0 a in
        let g12 : Within c1.used c2.used = counted_grows p r c1 b in
        let in2 : InRoom p w m all most most' room slots c2 = room_before p w m all most most' room slots (gives o) c2 in_room in
        then_code c f go' (Has p w m all most most' room slots c0.used x.words va) Q (eval p w.at go a s) (tree_code p r w c0 a) (join (tree_code p r w c1 b) opc) (λ y s1. go_on (eval p w.at go b s1) (λ z. apply w.at at o y z)) (beside s x)
        (tree_agrees a c0 has.1 has.3 (within_trans c1.used c2.used room g12 in2) s x fit)
        (λ y s1 fl e1 g. (
          g.0,
          then_code c f go' (Has p w m all most most' room slots c1.used e1.words vb) Q (eval p w.at go b s1) (tree_code p r w c1 b) opc (λ z. apply w.at at o y z) (beside s1 e1)
              (tree_agrees b c1 has.2 has.4 in2 s1 e1 g.1)
              (λ z s2 fl2 e2 h. (
                h.0,
                (let first : word_of va (beside s2 e2) ≡ y = value_keeps p w m all most most' room slots r known.size c1.used c0 a has.1 (beside s1 e1) (beside s2 e2) has.3 (λ n. omega arith) h.2 ∙ g.3 in
                    subst (λ y. Agree Q (apply w.at at o y z s2) (runs c f go' opc (beside s2 e2))) first
                    (subst (λ z. Agree Q (apply w.at at o (word_of va (beside s2 e2)) z s2) (runs c f go' opc (beside s2 e2))) h.3
                    (operator_agrees c f go' Q w.at at o to va vb s2 e2 h.1.sites (within_words (gives o) c2 e2 in_room (gives_temp p o) h.1.words)
                    (λ n. put_has p w m all most most' room slots c0.used c2 (gives o) x.words s2 e2 n n in_room (gives_temp p o) (within_trans c0.used c1.used c2.used g01 g12) h.1 (keeps_trans w m c0.used c1.used x.words e1.words e2.words g01 g.2 h.2) refl)))),
              )),
        ))
    tree_agrees (both_at at a b) c0 u has in_room s x fit =
        let c1 : Counts = counted p r c0 a in
        let d1 : Counts = decided 1 c1 in
        let c2 : Counts = counted p r d1 b in
        let to : ℕ = temp w Truth c2 in
        let va : Simple = value_of p r w c0 a in
        let vb : Simple = value_of p r w d1 b in
        let Q : ℕ → State → Flow → More → Type 0 = Has p w m all most most' room slots c0.used x.words (simple.Local to) in
        let these : Code = join (tree_code p r w d1 b) (one (do_set to vb)) in
        let those : Code = one (do_set to (constant 0)) in
        let g01 : Within c0.used c1.used = counted_grows p r c0 a in
        let g12 : Within c1.used c2.used = counted_grows p r d1 b in
        let in2 : InRoom p w m all most most' room slots c2 = room_before p w m all most most' room slots Truth c2 in_room in
        let le : Within c0.used c2.used = within_trans c0.used c1.used c2.used g01 g12 in
        then_code c f go' (Has p w m all most most' room slots c0.used x.words va) Q (eval p w.at go a s) (tree_code p r w c0 a) (one (do_if (decision w c1) va these those)) (λ y. pick y (give 0) (eval p w.at go b)) (beside s x)
        (tree_agrees a c0 Truth has.1 (within_trans c1.used c2.used room g12 in2) s x fit)
        (λ y s1 fl e1 g. (
          g.0,
          branch_code c f go' Q y (give 0) (eval p w.at go b) (decision w c1) va these those s1 e1 g.3
              (λ os. (refl, put_has p w m all most most' room slots c0.used c2 Truth x.words s1 (record e1 { outcomes = os }) 0 0 in_room tt le g.1 g.2 refl))
              (λ os. then_last c f go' (Has p w m all most most' room slots c1.used e1.words vb) Q (eval p w.at go b s1) (tree_code p r w d1 b) (one (do_set to vb)) (beside s1 (record e1 { outcomes = os }))
              (tree_agrees b d1 Truth has.2 in2 s1 (record e1 { outcomes = os }) g.1)
              (λ z s2 fl2 e2 h. (h.0, (refl, put_has p w m all most most' room slots c0.used c2 Truth x.words s2 e2 (word_of vb (beside s2 e2)) z in_room tt le h.1 (keeps_trans w m c0.used c1.used x.words e1.words e2.words g01 g.2 h.2) h.3)))),
        ))
    tree_agrees (either_at at a b) c0 u has in_room s x fit =
        let c1 : Counts = counted p r c0 a in
        let d1 : Counts = decided 1 c1 in
        let c2 : Counts = counted p r d1 b in
        let to : ℕ = temp w Truth c2 in
        let va : Simple = value_of p r w c0 a in
        let vb : Simple = value_of p r w d1 b in
        let Q : ℕ → State → Flow → More → Type 0 = Has p w m all most most' room slots c0.used x.words (simple.Local to) in
        let these : Code = one (do_set to va) in
        let those : Code = join (tree_code p r w d1 b) (one (do_set to vb)) in
        let g01 : Within c0.used c1.used = counted_grows p r c0 a in
        let g12 : Within c1.used c2.used = counted_grows p r d1 b in
        let in2 : InRoom p w m all most most' room slots c2 = room_before p w m all most most' room slots Truth c2 in_room in
        let le : Within c0.used c2.used = within_trans c0.used c1.used c2.used g01 g12 in
        then_code c f go' (Has p w m all most most' room slots c0.used x.words va) Q (eval p w.at go a s) (tree_code p r w c0 a) (one (do_if (decision w c1) va these those)) (λ y. pick y (eval p w.at go b) (give y)) (beside s x)
        (tree_agrees a c0 Truth has.1 (within_trans c1.used c2.used room g12 in2) s x fit)
        (λ y s1 fl e1 g. (
          g.0,
          branch_code c f go' Q y (eval p w.at go b) (give y) (decision w c1) va these those s1 e1 g.3
              (λ os. then_last c f go' (Has p w m all most most' room slots c1.used e1.words vb) Q (eval p w.at go b s1) (tree_code p r w d1 b) (one (do_set to vb)) (beside s1 (record e1 { outcomes = os }))
              (tree_agrees b d1 Truth has.2 in2 s1 (record e1 { outcomes = os }) g.1)
              (λ z s2 fl2 e2 h. (h.0, (refl, put_has p w m all most most' room slots c0.used c2 Truth x.words s2 e2 (word_of vb (beside s2 e2)) z in_room tt le h.1 (keeps_trans w m c0.used c1.used x.words e1.words e2.words g01 g.2 h.2) h.3))))
              (λ os. (refl, put_has p w m all most most' room slots c0.used c2 Truth x.words s1 (record e1 { outcomes = os }) (word_of va (beside s1 (record e1 { outcomes = os }))) y in_room tt le g.1 g.2 (word_same va (beside s1 (record e1 { outcomes = os })) (beside s1 e1) refl ∙ g.3))),
        ))
    tree_agrees (choose_at at e a b) c0 u has in_room s x fit =
        let c1 : Counts = counted p r c0 e in
        let d1 : Counts = decided 1 c1 in
        let c2 : Counts = counted p r d1 a in
        let c3 : Counts = counted p r c2 b in
        let shape : Shape = chosen_shape p r a b in
        let to : ℕ = temp w shape c3 in
        let v : Simple = value_of p r w c0 e in
        let va : Simple = value_of p r w d1 a in
        let vb : Simple = value_of p r w c2 b in
        let Q : ℕ → State → Flow → More → Type 0 = Has p w m all most most' room slots c0.used x.words (simple.Local to) in
        let these : Code = join (tree_code p r w d1 a) (one (do_set to va)) in
        let those : Code = join (tree_code p r w c2 b) (one (do_set to vb)) in
        let t : IsTemp p shape = is_temp (choose_at at e a b) u has in
        let g01 : Within c0.used c1.used = counted_grows p r c0 e in
        let g12 : Within c1.used c2.used = counted_grows p r d1 a in
        let g23 : Within c2.used c3.used = counted_grows p r c2 b in
        let g02 : Within c0.used c2.used = within_trans c0.used c1.used c2.used g01 g12 in
        let in3 : InRoom p w m all most most' room slots c3 = room_before p w m all most most' room slots shape c3 in_room in
        let in2 : InRoom p w m all most most' room slots c2 = within_trans c2.used c3.used room g23 in3 in
        let le : Within c0.used c3.used = within_trans c0.used c2.used c3.used g02 g23 in
        then_code c f go' (Has p w m all most most' room slots c0.used x.words v) Q (eval p w.at go e s) (tree_code p r w c0 e) (one (do_if (decision w c1) v these those)) (λ y. pick y (eval p w.at go b) (eval p w.at go a)) (beside s x)
        (tree_agrees e c0 Truth has.0 (within_trans c1.used c2.used room g12 in2) s x fit)
        (λ y s1 fl e1 g. (
          g.0,
          branch_code c f go' Q y (eval p w.at go b) (eval p w.at go a) (decision w c1) v these those s1 e1 g.3
              (λ os. then_last c f go' (Has p w m all most most' room slots c2.used e1.words vb) Q (eval p w.at go b s1) (tree_code p r w c2 b) (one (do_set to vb)) (beside s1 (record e1 { outcomes = os }))
              (tree_agrees b c2 has.2 has.4 in3 s1 (record e1 { outcomes = os }) g.1)
              (λ z s2 fl2 e2 h. (h.0, (refl, put_has p w m all most most' room slots c0.used c3 shape x.words s2 e2 (word_of vb (beside s2 e2)) z in_room t le h.1 (keeps_trans w m c0.used c2.used x.words e1.words e2.words g02 g.2 h.2) h.3))))
              (λ os. then_last c f go' (Has p w m all most most' room slots c1.used e1.words va) Q (eval p w.at go a s1) (tree_code p r w d1 a) (one (do_set to va)) (beside s1 (record e1 { outcomes = os }))
              (tree_agrees a d1 has.1 has.3 in2 s1 (record e1 { outcomes = os }) g.1)
              (λ z s2 fl2 e2 h. (h.0, (refl, put_has p w m all most most' room slots c0.used c3 shape x.words s2 e2 (word_of va (beside s2 e2)) z in_room t le h.1 (keeps_trans w m c0.used c1.used x.words e1.words e2.words g01 g.2 h.2) h.3)))),
        ))
    tree_agrees (read_at at a k field) c0 u has in_room s x fit =
        let c1 : Counts = counted p r c0 a in
        let shape : Shape = read_shape p k field in
        let to : ℕ = temp w shape c1 in
        let v : Simple = value_of p r w c0 a in
        let site : Site = w.at kind.Access at in
        let Q : ℕ → State → Flow → More → Type 0 = Has p w m all most most' room slots c0.used x.words (simple.Local to) in
        let F : Cell → Run ℕ = λ d s2. Next (or_0 (cell_value s2.heap d)) s2 in
        let G : Cell → core.Run Flow = λ d t. core.Next On (record t { words = slice_set t.words to (or_0 (cell_value t.heap d)) }) in
        then_code c f go' (Has p w m all most most' room slots c0.used x.words v) Q (eval p w.at go a s) (tree_code p r w c0 a) (one (do_load to v k field site)) (λ y s1. go_on (access site y field s1) F) (beside s x)
        (tree_agrees a c0 (Pointer k) has.0 (room_before p w m all most most' room slots shape c1 in_room) s x fit)
        (λ y s1 fl e1 g. (
          g.0,
          subst (λ q. Agree Q (go_on (access site y field s1) F) q) (sym (nothing c f go' (core.go_on (cored.access site (word_of v (beside s1 e1)) field (beside s1 e1)) G)))
              (subst (λ y. Agree Q (go_on (access site y field s1) F) (core.go_on (cored.access site (word_of v (beside s1 e1)) field (beside s1 e1)) G)) g.3
              (access_then Q site (word_of v (beside s1 e1)) field s1 e1 F G g.1.sites (λ d vs seen.
              let s2 : State = record s1 { sites = s1.sites ++ site ∷ [] } in
              let e2 : More = record e1 { visits = vs } in (
                refl,
                put_has p w m all most most' room slots c0.used c1 shape x.words s2 e2 (or_0 (cell_value s1.heap d)) (or_0 (cell_value s1.heap d)) in_room (is_temp (read_at at a k field) u has) (counted_grows p r c0 a)
                    (good_sites m all most most' s1.locals s1.steps s1.sites s2.sites e1.words e1.turns e1.visits vs g.1 seen) g.2 refl,
              )))),
        ))
    tree_agrees (call_at at g es) c0 u has in_room s x fit =
        agree_to (HasIf c0.used x.words (temp_if w (result_of (slice_get p.functions g)) (args_counted p r c0 es))) (Has p w m all most most' room slots c0.used x.words (value_of p r w c0 (call_at at g es))) (eval p w.at go (call_at at g es) s) (runs c f go' (tree_code p r w c0 (call_at at g es)) (beside s x))
        (call_by at g es c0 has.0 has.1 has.2 in_room s x (args_agree es c0 (params_in has.0) has.2 (result_room (result_of (slice_get p.functions g)) (call_choices (slice_get p.functions g)) (args_counted p r c0 es) in_room) s x fit))
        (λ y s1 fl e1 h. to_has c0.used x.words (result_of (slice_get p.functions g)) (args_counted p r c0 es) u y s1 fl e1 (ap result_of has.1 ∙ has.3) h)
    tree_agrees (library_at at l es t) c0 u has in_room s x fit =
        agree_to (HasIf c0.used x.words (temp_if w (library_gives l) (first_counted p r c0 es))) (Has p w m all most most' room slots c0.used x.words (value_of p r w c0 (library_at at l es t))) (eval p w.at go (library_at at l es t) s) (runs c f go' (tree_code p r w c0 (library_at at l es t)) (beside s x))
        (library_by at l es t c0 in_room s x (first_agrees es c0 (library_first p r l es has.1) (plain_room (library_gives l) (first_counted p r c0 es) in_room) s x fit))
        (λ y s1 fl e1 h. to_has c0.used x.words (library_gives l) (first_counted p r c0 es) u y s1 fl e1 has.0 h)
    tree_agrees (alloc_at at k) c0 u has in_room s x fit =
        let to : ℕ = temp w (Pointer k) c0 in
        let Q : ℕ → State → Flow → More → Type 0 = Has p w m all most most' room slots c0.used x.words (simple.Local to) in
        step_code c f go' Q s x (allocate k (fields_of (slice_get p.structs k))) (one (do_new to k)) fit.sites (λ i is_suc.
        let s1 : State = record s { steps = i } in
        subst (λ ss. Agree Q (allocate k (fields_of (slice_get p.structs k)) s1) (core.go_on (core.go_on (cored.allocate k (fields_of (slice_get ss k)) (beside s1 x)) (cored.put to)) (λ fl. cored.unless_back fl (core.give On)))) (sym is_core.structs)
        (refl, put_has p w m all most most' room slots c0.used c0 (Pointer k) x.words s1 x (suc (length s.heap)) (suc (length s.heap)) in_room has.1 (λ n. omega arith) (step_fit s x i is_suc fit) (keeps_refl w m c0.used x.words) refl))

    -- arguments, each in a local
    pub args_agree : (es : Trees) (c0 : Counts) (due : List Shape) → AreGiven p r due es → InRoom p w m all most most' room slots (args_counted p r c0 es) → (s : State) (x : More) → FitsHere s x →
        Agree (HasAll c0.used x.words (arguments p r w c0 es)) (eval_all p w.at go es s) (runs c f go' (args_code p r w c0 es) (beside s x))
    args_agree no_trees c0 due given in_room s x fit = (refl, (refl, fit, keeps_refl w m c0.used x.words, refl))
    args_agree (tree_and e es) c0 [] given in_room s x fit = absurd given
    args_agree (tree_and e es) c0 (d ∷ due) given in_room s x fit =
        let u : Shape = given.0.0 in
        let has : HasShape p r e u = given.0.1 in
        let c1 : Counts = counted p r c0 e in
        let shape : Shape = tree_shape p r e in
        let b : Bool = is_constant e in
        let c2 : Counts = with_constant b shape c1 in
        let v : Simple = value_of p r w c0 e in
        let to : ℕ = temp w shape c1 in
        let rest : Code = args_code p r w c2 es in
        let here : ℕ = argument b to v in
        let args : List ℕ = arguments p r w c2 es in
        let Q : List ℕ → State → Flow → More → Type 0 = HasAll c0.used x.words (here ∷ args) in
        let g01 : Within c0.used c1.used = counted_grows p r c0 e in
        let g12 : Within c1.used c2.used = constant_grows b shape c1 in
        let g02 : Within c0.used c2.used = within_trans c0.used c1.used c2.used g01 g12 in
        let in2 : InRoom p w m all most most' room slots c2 = within_trans c2.used (args_counted p r c2 es).used room (args_grow p r c2 es) in_room in
        let F : ℕ → Run (List ℕ) = λ y s1. go_on (eval_all p w.at go es s1) (λ ys s2. Next (y ∷ ys) s2) in
        then_code c f go' (Has p w m all most most' room slots c0.used x.words v) Q (eval p w.at go e s) (tree_code p r w c0 e) (join (argument_code b to v) rest) F (beside s x)
        (tree_agrees e c0 u has (within_trans c1.used c2.used room g12 in2) s x fit)
        (λ y s1 fl e1 g. (
          g.0,
          argument_then e c0 u has y s1 e1 (is_constant e) refl in2 g.1 g.3 g.2 Q (F y) rest
              (λ e2 fit2 keeps2 here2 stays.
              agree_source (HasAll c2.used e2.words args) Q (eval_all p w.at go es s1) (runs c f go' rest (beside s1 e2)) (λ ys s2. Next (y ∷ ys) s2)
              (args_agree es c2 due given.1 in_room s1 e2 fit2)
              (λ ys s3 fl3 e3 h. (refl, (h.0, h.1, keeps_trans w m c0.used c2.used x.words e2.words e3.words g02 keeps2 h.2, ap (λ i. i ∷ map (slice_index e3.words) args) (stays s3 e3 h.2 ∙ here2) ∙ ap (λ l. y ∷ l) h.3)))),
        ))

    pub first_agrees : (es : Trees) (c0 : Counts) → IsFirst p r es → InRoom p w m all most most' room slots (first_counted p r c0 es) → (s : State) (x : More) → FitsHere s x →
        Agree (HasFirst c0.used x.words (first_value p r w c0 es)) (eval_all p w.at go es s) (runs c f go' (first_code p r w c0 es) (beside s x))
    first_agrees no_trees c0 is_first in_room s x fit = (refl, (refl, fit, keeps_refl w m c0.used x.words, refl))
    first_agrees (tree_and e (tree_and d ds)) c0 is_first in_room s x fit = absurd is_first
    first_agrees (tree_and e no_trees) c0 is_first in_room s x fit =
        agree_source (Has p w m all most most' room slots c0.used x.words (value_of p r w c0 e)) (HasFirst c0.used x.words (Some (value_of p r w c0 e))) (eval p w.at go e s) (runs c f go' (tree_code p r w c0 e) (beside s x)) (λ y s1. Next (y ∷ []) s1)
        (tree_agrees e c0 is_first.0 is_first.1 in_room s x fit)
        (λ y s1 fl e1 g. (refl, g))
