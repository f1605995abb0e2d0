-- The code of statements does what they do.
use Rattle.std.proofs.Common.{◌≡◌, ℕ, ◌<◌, ◌≤◌, inl, inr, List, [], ◌∷◌, ◌++◌, length, take, max, Option, Some, None, refl, sym, ap, ◌∙◌, subst, arith}
use Rattle.std.proofs.lemmas.List.{length-set, get_or-take}
use Rattle.std.proofs.Math.Seq.{take-set-lt}
use Rattle.std.specs.Prelude.{slice_get, slice_index, slice_set}
use Rattle.gc0_base.specs.declared.place.Place.{Place}
use Rattle.gc0_base.specs.declared.site.Site.{Site}
use Rattle.gc0_base.specs.declared.site.Kind.TheVariants as kind
use Rattle.gc0_base.specs.declared.site.TrapKind.TheVariants as trap
use Rattle.gc0_base.specs.declared.site.Ending.TheVariants.{Fault}
use Rattle.gc0_tree.specs.declared.Shape.{Shape}
use Rattle.gc0_tree.specs.declared.Shape.TheVariants.{Int, Bool as Truth, Pointer}
use Rattle.gc0_tree.specs.declared.ExprOp.{ExprOp}
use Rattle.gc0_tree.specs.Tree.{Tree, call_at, library_at, Trees, no_trees, tree_and, Formula, NoteKind, assert_note, fold_note, unfold_note, declare_at, assign_at, write_at, plain_at, return_at, assert_at, raise_at, note_at, Function, Program}
use Rattle.gc0_tree.specs.Fits.{Room, HasShape, IsVoidCall, ReturnFits, StmtFits, library_gives, params_in}
use Rattle.gc0_tree.specs.Sites.{Places, second}
use Rattle.c0_meaning.specs.Operators.{pick}
use Rattle.c0_meaning.specs.Heaps.{Cell, cell_value, set_cell}
use Rattle.c0_meaning.specs.Runs.{State, Next, Run, go_on, chain, give, end, get, change, take_step}
use Rattle.c0_meaning.specs.Running as running
use Rattle.c0_meaning.specs.Running.{Calls, decide, access, apply, or_0, first_of, eval, eval_all, exec, exec_all, unless_back, joined, after_turn, turns, loop, set_local, declared, operated, written, note_kind}
use Rattle.core_tree.specs.declared.Phase.TheVariants.{Produce}
use Rattle.core_tree.specs.declared.Simple.{Simple}
use Rattle.core_tree.specs.declared.Simple.TheVariants as simple
use Rattle.core_tree.specs.CoreTree.{do_step, do_set, do_load, do_store, do_return, do_assert, do_raise, Code, no_code, code_and, CoreFunction, Core}
use Rattle.core_meaning.specs.CoreRuns as core
use Rattle.core_meaning.specs.CoreRuns.{Outcomes, Visit, CoreState}
use Rattle.core_meaning.specs.CoreRunning as cored
use Rattle.core_meaning.specs.CoreRunning.{Flow, On, Back, word_of, word_in, core_exec_all, consume, mark, mark_over, locals_of, tested}
use Rattle.lowering_laws.specs.Counts.{result_of, call_choices, Counts, fresh, with_temp, counted, args_counted, first_counted, one_more}
use Rattle.lowering_laws.specs.Trees.{Target, join, one, temp, temp_if, value_of, first_value, operator_code, tree_code, first_code}
use Rattle.lowering_laws.specs.Statements.{room_of, write_counted, stmt_code}
use Rattle.lowering_laws.proofs.Agree.{More, beside, Agree, agree_to, agree_source, pick_agree, source_assoc, core_assoc, Fit, good_sites}
use Rattle.lowering_laws.proofs.Counting.{Within, within_trans, counted_grows, one_has, one_grows, used_alike, first_alike}
use Rattle.lowering_laws.proofs.Codes.{consume_then, decide_then, access_then, runs, nothing, then_code, step_code, operator_agrees}
use Rattle.lowering_laws.proofs.Values.{Slots, Keeps, keeps_refl, keeps_trans, InRoom, Has, put_has, room_before, value_keeps, local_within}
use Rattle.lowering_laws.proofs.Expressions.{IsCoreOf, Known, CallsAgree, IsFirst, library_first, HasIf, HasFirst, step_fit, within_words, tree_agrees, args_agree, first_agrees, call_by, library_by, result_room, plain_room}

-- both go on, or return the same at the same place
abbrev pub SameFlow : Places → running.Flow → Flow → Type 0
SameFlow at running.On On = Unit {0}
SameFlow at (running.Back place v) (Back site y) = (at kind.Ensures place ≡ site) × (v ≡ y)
SameFlow at running.On (Back site y) = ⊥
SameFlow at (running.Back place v) On = ⊥

return_first : (p : Program) (r : Room) (due : Option Shape) (es : Trees) → ReturnFits p r due es → IsFirst p r es
return_first p r None no_trees h = tt
return_first p r None (tree_and e es) h = absurd h
return_first p r (Some s) no_trees h = absurd h
return_first p r (Some s) (tree_and e no_trees) h = (h.0, h.1)
return_first p r (Some s) (tree_and e (tree_and d ds)) h = absurd h

pub left_within : (a b : Shape → ℕ) (room : Shape → ℕ) → Within (λ s. max (a s) (b s)) room → Within a room
left_within a b room h u = let x = h u in omega arith

pub right_within : (a b : Shape → ℕ) (room : Shape → ℕ) → Within (λ s. max (a s) (b s)) room → Within b room
right_within a b room h u = let x = h u in omega arith

pub calls_less : (p : Program) (go : Calls) (go' : cored.Calls) (most most' low low' : ℕ) → low ≤ most → low' ≤ most' → CallsAgree p go go' most most' → CallsAgree p go go' low low'
calls_less p go go' most most' low low' le le' h g xs start s e takes turns sites lt lt' = h g xs start s e takes turns sites (omega arith) (omega arith)

module _ (p : Program) (c : Core) (is_core : IsCoreOf p c) (fn : Function) (f : CoreFunction) (w : Target) (all : ℕ) (room : Shape → ℕ) (slots : Slots p w (length f.locals) all room) (known : Known p (room_of fn) (length f.locals)) (go : Calls) (go' : cored.Calls) where
  abbrev m : ℕ
  m = length f.locals

  abbrev r : Room
  r = room_of fn

  abbrev pub Ran : (most most' : ℕ) → running.Flow → State → Flow → More → Type 0
  Ran most most' flow s fl e = SameFlow w.at flow fl × Fit (length f.locals) all most most' s e

  -- a part of a run and its code, whatever the counts
  abbrev pub Does : Run running.Flow → core.Run Flow → Type 0
  Does a b = (most most' : ℕ) → CallsAgree p go go' most most' → (s : State) (e : More) → Fit (length f.locals) all most most' s e → Agree (Ran most most') (a s) (b (beside s e))

  -- ---- statements around one value
  module _ (most most' : ℕ) (calls : CallsAgree p go go' most most') where
    abbrev FitsHere : State → More → Type 0
    FitsHere s e = Fit m all most most' s e

    pub in_room_at : (x : Tree) (n : ℕ) → Within (counted p r (fresh 0) x).used room → InRoom p w (length f.locals) all most most' room slots (counted p r (fresh n) x)
    in_room_at x n h = subst (λ (a : Shape → ℕ). Within a room) (used_alike p r x (fresh 0) (fresh n) refl) h

    same_locals : (s s1 : State) (e e1 : More) → FitsHere s e → FitsHere s1 e1 → take m e1.words ≡ take m e.words → s1.locals ≡ s.locals
    same_locals s s1 e e1 fit fit1 h = sym fit1.locals ∙ h ∙ fit.locals

    -- a step, a value, and what takes it
    pub step_tree : {A : Type 0} (Q : A → State → Flow → More → Type 0) (x : Tree) (u : Shape) (n : ℕ) (rest : Code) (F : State → ℕ → Run A) → HasShape p r x u → Within (counted p r (fresh 0) x).used room → (s : State) (e : More) → FitsHere s e →
        ((y : ℕ) (s0 s1 : State) (e1 : More) → FitsHere s1 e1 → word_of (value_of p r w (fresh n) x) (beside s1 e1) ≡ y → s1.locals ≡ s0.locals → Agree Q (F s0 y s1) (runs c f go' rest (beside s1 e1))) →
        Agree Q (go_on (take_step s.steps s) (λ _ s0. go_on (eval p w.at go x s0) (F s0))) (runs c f go' (code_and do_step (join (tree_code p r w (fresh n) x) rest)) (beside s e))
    step_tree {A} Q x u n rest F has in_room s e fit h =
        let v : Simple = value_of p r w (fresh n) x in
        let code : Code = tree_code p r w (fresh n) x in
        step_code c f go' Q s e (λ s0. go_on (eval p w.at go x s0) (F s0)) (join code rest) fit.sites (λ i is_suc.
        let s0 : State = record s { steps = i } in
        let fit0 : FitsHere s0 e = step_fit p c is_core f r w (length f.locals) all room slots known go go' most most' calls s e i is_suc fit in
        then_code c f go' (Has p w (length f.locals) all most most' room slots (fresh n).used e.words v) Q (eval p w.at go x s0) code rest (F s0) (beside s0 e)
        (tree_agrees p c is_core f r w (length f.locals) all room slots known go go' most most' calls x (fresh n) u has (in_room_at x n in_room) s0 e fit0)
        (λ y s1 fl e1 g. (g.0, h y s0 s1 e1 g.1 g.3 (same_locals s0 s1 e e1 fit0 g.1 g.2.locals))))

    -- a local is set on both sides
    set_fit : (i : ℕ) (y : ℕ) (s : State) (e : More) → i < m → FitsHere s e → FitsHere (record s { locals = slice_set s.locals i y }) (record e { words = slice_set e.words i y })
    set_fit i y s e lt fit = record { locals = take-set-lt m e.words i y lt ∙ ap (λ l. slice_set l i y) fit.locals; words = length-set e.words i y ∙ fit.words; turns = fit.turns; few = fit.few; few' = fit.few'; sites = fit.sites }

    m_within : (e : More) (s : State) → FitsHere s e → (i : ℕ) → i < m → i < length e.words
    m_within e s fit i lt = let l = fit.words in let le = slots.least in omega arith

    pub declare_agrees : (at : Place) (i : ℕ) (es : Trees) (n : ℕ) → StmtFits p r fn.result (declare_at at i es) → Within (first_counted p r (fresh 0) es).used room → (s : State) (e : More) → FitsHere s e →
        Agree (Ran most most') (exec p w.at go (declare_at at i es) s) (runs c f go' (stmt_code p fn w n (declare_at at i es)) (beside s e))
    unfolding chain give get change core.chain core.give core.get core.change
    declare_agrees at i no_trees n fits in_room s e fit =
        step_code c f go' (Ran most most') s e (give running.On) no_code fit.sites (λ k is_suc. (refl, (tt, step_fit p c is_core f r w (length f.locals) all room slots known go go' most most' calls s e k is_suc fit)))
    declare_agrees at i (tree_and x (tree_and y ys)) n fits in_room s e fit = absurd fits.2
    declare_agrees at i (tree_and x no_trees) n fits in_room s e fit =
        let lt : i < m = local_within p w (length f.locals) all most most' room slots r known.size i fits.0 fits.1 in
        let v : Simple = value_of p r w (fresh n) x in
        let code : Code = join (tree_code p r w (fresh n) x) (one (do_set i v)) in
        step_code c f go' (Ran most most') s e (λ s0. go_on (go_on (eval p w.at go x s0) (λ y s1. Next (y ∷ []) s1)) (declared i)) code fit.sites (λ k is_suc.
        let s0 : State = record s { steps = k } in
        let fit0 : FitsHere s0 e = step_fit p c is_core f r w (length f.locals) all room slots known go go' most most' calls s e k is_suc fit in
        subst (λ q. Agree (Ran most most') q (runs c f go' code (beside s0 e))) (sym (source_assoc (eval p w.at go x s0) (λ y s1. Next (y ∷ []) s1) (declared i)))
        (then_code c f go' (Has p w (length f.locals) all most most' room slots (fresh n).used e.words v) (Ran most most') (eval p w.at go x s0) (tree_code p r w (fresh n) x) (one (do_set i v)) (λ y s1. Next running.On record s1 { locals = slice_set s1.locals i y }) (beside s0 e)
        (tree_agrees p c is_core f r w (length f.locals) all room slots known go go' most most' calls x (fresh n) fits.2.0 fits.2.1 (in_room_at x n in_room) s0 e fit0)
        (λ y s1 fl e1 g. (
          g.0,
          subst (λ y. Agree (Ran most most') (Next running.On record s1 { locals = slice_set s1.locals i y }) (runs c f go' (one (do_set i v)) (beside s1 e1))) g.3
              (refl, (tt, set_fit i (word_of v (beside s1 e1)) s1 e1 lt g.1)),
        ))))

    pub assign_agrees : (at : Place) (i : ℕ) (o : Option ExprOp) (op_at : Place) (x : Tree) (n : ℕ) → StmtFits p r fn.result (assign_at at i o op_at x) → Within (counted p r (fresh 0) x).used room → (s : State) (e : More) → FitsHere s e →
        Agree (Ran most most') (exec p w.at go (assign_at at i o op_at x) s) (runs c f go' (stmt_code p fn w n (assign_at at i o op_at x)) (beside s e))
    unfolding chain give get change core.chain core.give core.get core.change
    assign_agrees at i None op_at x n fits in_room s e fit =
        let lt : i < m = local_within p w (length f.locals) all most most' room slots r known.size i fits.0 fits.1 in
        let v : Simple = value_of p r w (fresh n) x in
        step_tree (Ran most most') x fits.2.0 n (one (do_set i v)) (λ s0 y s1. Next running.On record s1 { locals = slice_set s1.locals i y }) fits.2.1 in_room s e fit
        (λ y s0 s1 e1 fit1 is_y same. subst (λ y. Agree (Ran most most') (Next running.On record s1 { locals = slice_set s1.locals i y }) (runs c f go' (one (do_set i v)) (beside s1 e1))) is_y
        (refl, (tt, set_fit i (word_of v (beside s1 e1)) s1 e1 lt fit1)))
    assign_agrees at i (Some o) op_at x n fits in_room s e fit =
        let lt : i < m = local_within p w (length f.locals) all most most' room slots r known.size i fits.0 fits.1 in
        let v : Simple = value_of p r w (fresh n) x in
        let opc : Code = operator_code i o (w.at kind.Trap op_at) (simple.Local i) v in
        step_tree (Ran most most') x Int n opc (λ s0 y s1. go_on (apply w.at op_at o (slice_index s0.locals i) y s1) (set_local i)) fits.2.1 in_room s e fit
        (λ y s0 s1 e1 fit1 is_y same.
        let old : slice_index e1.words i ≡ slice_index s0.locals i = sym (get_or-take m e1.words i 0 lt) ∙ ap (λ l. slice_index l i) (fit1.locals ∙ same) in
        let R : ℕ → State → Flow → More → Type 0 = λ z s2 fl e2. (fl ≡ On) × FitsHere (record s2 { locals = slice_set s2.locals i z }) e2 in
        agree_source R (Ran most most') (apply w.at op_at o (slice_index s0.locals i) y s1) (runs c f go' opc (beside s1 e1)) (set_local i)
        (subst (λ a. Agree R (apply w.at op_at o a y s1) (runs c f go' opc (beside s1 e1))) old
        (subst (λ y. Agree R (apply w.at op_at o (slice_index e1.words i) y s1) (runs c f go' opc (beside s1 e1))) is_y
        (operator_agrees c f go' R w.at op_at o i (simple.Local i) v s1 e1 fit1.sites (m_within e1 s1 fit1 i lt) (λ z. (refl, set_fit i z s1 e1 lt fit1)))))
        (λ z s2 fl e2 g. (refl, (subst (SameFlow w.at running.On) (sym g.0) tt, g.1))))

    -- both values of a write
    write_room : (base : Tree) (o : Option ExprOp) (x : Tree) (n : ℕ) → Within (write_counted p r (fresh 0) base o x).used room → Within (write_counted p r (fresh n) base o x).used room
    write_room base None x n h = subst (λ (a : Shape → ℕ). Within a room) (used_alike p r x (counted p r (fresh 0) base) (counted p r (fresh n) base) (used_alike p r base (fresh 0) (fresh n) refl)) h
    write_room base (Some o) x n h =
        subst (λ (a : Shape → ℕ). Within a room) (used_alike p r x (with_temp Int (counted p r (fresh 0) base)) (with_temp Int (counted p r (fresh n) base)) (ap (one_more Int) (used_alike p r base (fresh 0) (fresh n) refl))) h

    -- the write itself
    store_agrees : (site : Site) (vb vx : Simple) (k field b y : ℕ) (s : State) (e : More) → FitsHere s e → word_of vb (beside s e) ≡ b → word_of vx (beside s e) ≡ y →
        Agree (Ran most most') (go_on (access site b field s) (λ d s1. Next running.On record s1 { heap = set_cell s1.heap d y })) (runs c f go' (one (do_store vb k field vx site)) (beside s e))
    unfolding core.chain core.give core.get core.change
    store_agrees site vb vx k field b y s e fit is_b is_y =
        let wb : ℕ = word_of vb (beside s e) in
        let wx : ℕ = word_of vx (beside s e) in
        let F : ℕ → Cell → Run running.Flow = λ y d s1. Next running.On record s1 { heap = set_cell s1.heap d y } in
        let G : Cell → core.Run Flow = λ d t. core.Next On record t { heap = set_cell t.heap d wx } in
        subst (λ q. Agree (Ran most most') (go_on (access site b field s) (F y)) q) (sym (nothing c f go' (core.go_on (cored.access site wb field (beside s e)) G)))
        (subst (λ y. Agree (Ran most most') (go_on (access site b field s) (F y)) (core.go_on (cored.access site wb field (beside s e)) G)) is_y
        (subst (λ b. Agree (Ran most most') (go_on (access site b field s) (F wx)) (core.go_on (cored.access site wb field (beside s e)) G)) is_b
        (access_then (Ran most most') site wb field s e (F wx) G fit.sites (λ d vs seen.
        (refl, (tt, good_sites m all most most' s.locals s.steps s.sites (s.sites ++ site ∷ []) e.words e.turns e.visits vs fit seen))))))

    pub write_agrees : (at : Place) (base : Tree) (k field : ℕ) (arrow : Place) (o : Option ExprOp) (op_at : Place) (x : Tree) (n : ℕ) → StmtFits p r fn.result (write_at at base k field arrow o op_at x) → Within (write_counted p r (fresh 0) base o x).used room →
        (s : State) (e : More) → FitsHere s e → Agree (Ran most most') (exec p w.at go (write_at at base k field arrow o op_at x) s) (runs c f go' (stmt_code p fn w n (write_at at base k field arrow o op_at x)) (beside s e))
    unfolding chain give get change core.chain core.give core.get core.change
    write_agrees at base k field arrow None op_at x n fits in_room s e fit =
        let c0 : Counts = fresh n in
        let c1 : Counts = counted p r c0 base in
        let in2 : InRoom p w (length f.locals) all most most' room slots (counted p r c1 x) = write_room base None x n in_room in
        let g12 : Within c1.used (counted p r c1 x).used = counted_grows p r c1 x in
        let vb : Simple = value_of p r w c0 base in
        let vx : Simple = value_of p r w c1 x in
        let site : Site = w.at kind.Access arrow in
        let last : Code = one (do_store vb k field vx site) in
        let G : ℕ → ℕ → Run running.Flow = λ b y s2. go_on (access site b field s2) (λ d s3. Next running.On record s3 { heap = set_cell s3.heap d y }) in
        step_code c f go' (Ran most most') s e (λ s0. go_on (eval p w.at go base s0) (λ b s1. go_on (eval p w.at go x s1) (G b))) (join (tree_code p r w c0 base) (join (tree_code p r w c1 x) last)) fit.sites (λ i is_suc.
        let s0 : State = record s { steps = i } in
        then_code c f go' (Has p w (length f.locals) all most most' room slots c0.used e.words vb) (Ran most most') (eval p w.at go base s0) (tree_code p r w c0 base) (join (tree_code p r w c1 x) last) (λ b s1. go_on (eval p w.at go x s1) (G b)) (beside s0 e)
        (tree_agrees p c is_core f r w (length f.locals) all room slots known go go' most most' calls base c0 (Pointer k) fits.0 (within_trans c1.used (counted p r c1 x).used room g12 in2) s0 e (step_fit p c is_core f r w (length f.locals) all room slots known go go' most most' calls s e i is_suc fit))
        (λ b s1 fl e1 g. (
          g.0,
          then_code c f go' (Has p w (length f.locals) all most most' room slots c1.used e1.words vx) (Ran most most') (eval p w.at go x s1) (tree_code p r w c1 x) last (G b) (beside s1 e1)
              (tree_agrees p c is_core f r w (length f.locals) all room slots known go go' most most' calls x c1 fits.3.0 fits.3.1 in2 s1 e1 g.1)
              (λ y s2 fl2 e2 h. (h.0, store_agrees site vb vx k field b y s2 e2 h.1 (value_keeps p w (length f.locals) all most most' room slots r known.size c1.used c0 base (Pointer k) (beside s1 e1) (beside s2 e2) fits.0 (λ u. omega arith) h.2 ∙ g.3) h.3)),
        )))
    write_agrees at base k field arrow (Some o) op_at x n fits in_room s e fit =
        let c0 : Counts = fresh n in
        let c1 : Counts = counted p r c0 base in
        let d1 : Counts = with_temp Int c1 in
        let c2 : Counts = counted p r d1 x in
        let to : ℕ = temp w Int c1 in
        let in2 : InRoom p w (length f.locals) all most most' room slots c2 = write_room base (Some o) x n in_room in
        let g12 : Within d1.used c2.used = counted_grows p r d1 x in
        let inD : InRoom p w (length f.locals) all most most' room slots d1 = within_trans d1.used c2.used room g12 in2 in
        let g1d : Within c1.used d1.used = one_grows Int c1.used in
        let vb : Simple = value_of p r w c0 base in
        let vx : Simple = value_of p r w d1 x in
        let site : Site = w.at kind.Access arrow in
        let site2 : Site = second site in
        let last : Code = one (do_store vb k field (simple.Local to) site2) in
        let opc : Code = operator_code to o (w.at kind.Trap op_at) (simple.Local to) vx in
        let rest : Code = join (tree_code p r w d1 x) (join opc last) in
        let H : ℕ → ℕ → Run running.Flow = λ b z s5. go_on (access site2 b field s5) (λ d s6. Next running.On record s6 { heap = set_cell s6.heap d z }) in
        let G : ℕ → ℕ → Run running.Flow = λ b old s3. go_on (eval p w.at go x s3) (λ y s4. go_on (apply w.at op_at o old y s4) (H b)) in
        let L : ℕ → Run running.Flow = λ b s2. go_on (access site b field s2) (λ d s3. G b (or_0 (cell_value s3.heap d)) s3) in
        let M : Cell → core.Run Flow = λ d t. runs c f go' rest record t { words = slice_set t.words to (or_0 (cell_value t.heap d)) } in
        step_code c f go' (Ran most most') s e (λ s0. go_on (eval p w.at go base s0) L) (join (tree_code p r w c0 base) (code_and (do_load to vb k field site) rest)) fit.sites (λ i is_suc.
        let s0 : State = record s { steps = i } in
        then_code c f go' (Has p w (length f.locals) all most most' room slots c0.used e.words vb) (Ran most most') (eval p w.at go base s0) (tree_code p r w c0 base) (code_and (do_load to vb k field site) rest) L (beside s0 e)
        (tree_agrees p c is_core f r w (length f.locals) all room slots known go go' most most' calls base c0 (Pointer k) fits.0 (room_before p w (length f.locals) all most most' room slots Int c1 inD) s0 e (step_fit p c is_core f r w (length f.locals) all room slots known go go' most most' calls s e i is_suc fit))
        (λ b s1 fl e1 g. (
          g.0,
          (let wb : ℕ = word_of vb (beside s1 e1) in
              subst (λ q. Agree (Ran most most') (L b s1) q) (sym (core_assoc (cored.access site wb field (beside s1 e1)) (λ d t. core.Next On record t { words = slice_set t.words to (or_0 (cell_value t.heap d)) }) (λ fl. cored.unless_back fl (runs c f go' rest))))
              (subst (λ b2. Agree (Ran most most') (go_on (access site b2 field s1) (λ d s3. G b (or_0 (cell_value s3.heap d)) s3)) (core.go_on (cored.access site wb field (beside s1 e1)) M)) g.3
              (access_then (Ran most most') site wb field s1 e1 (λ d s3. G b (or_0 (cell_value s3.heap d)) s3) M g.1.sites (λ d vs seen.
              let s3 : State = record s1 { sites = s1.sites ++ site ∷ [] } in
              let old : ℕ = or_0 (cell_value s1.heap d) in
              let e3 : More = record e1 { visits = vs } in
              let fit3 : FitsHere s3 e3 = good_sites m all most most' s1.locals s1.steps s1.sites s3.sites e1.words e1.turns e1.visits vs g.1 seen in
              let put3 = put_has p w (length f.locals) all most most' room slots c1.used c1 Int e1.words s3 e3 old old inD tt (λ u. omega arith) fit3 (keeps_refl w m c1.used e1.words) refl in
              let e4 : More = record e3 { words = slice_set e1.words to old } in
              then_code c f go' (Has p w (length f.locals) all most most' room slots d1.used e4.words vx) (Ran most most') (eval p w.at go x s3) (tree_code p r w d1 x) (join opc last) (λ y s4. go_on (apply w.at op_at o old y s4) (H b)) (beside s3 e4)
              (tree_agrees p c is_core f r w (length f.locals) all room slots known go go' most most' calls x d1 Int (fits.3.1) in2 s3 e4 put3.1)
              (λ y s4 fl4 e5 h. (
                h.0,
                (let is_old : slice_index e5.words to ≡ old = (let q = one_has Int c1.used in let lt : c1.used Int < d1.used Int = omega arith in h.2.temps Int (c1.used Int) lt) ∙ put3.3 in
                    let keeps5 : Keeps w m c1.used e1.words e5.words = keeps_trans w m c1.used d1.used e1.words e4.words e5.words g1d put3.2 h.2 in
                    let R : ℕ → State → Flow → More → Type 0 = Has p w (length f.locals) all most most' room slots c1.used e1.words (simple.Local to) in
                    then_code c f go' R (Ran most most') (apply w.at op_at o old y s4) opc last (H b) (beside s4 e5)
                    (subst (λ a. Agree R (apply w.at op_at o a y s4) (runs c f go' opc (beside s4 e5))) is_old
                    (subst (λ y. Agree R (apply w.at op_at o (slice_index e5.words to) y s4) (runs c f go' opc (beside s4 e5))) h.3
                    (operator_agrees c f go' R w.at op_at o to (simple.Local to) vx s4 e5 h.1.sites (within_words p c is_core f r w (length f.locals) all room slots known go go' most most' calls Int c1 e5 inD tt h.1.words)
                    (λ z. put_has p w (length f.locals) all most most' room slots c1.used c1 Int e1.words s4 e5 z z inD tt (λ u. omega arith) h.1 keeps5 refl))))
                    (λ z s5 fl5 e6 j. (j.0, store_agrees site2 vb (simple.Local to) k field b z s5 e6 j.1 (value_keeps p w (length f.locals) all most most' room slots r known.size c1.used c0 base (Pointer k) (beside s1 e1) (beside s5 e6) fits.0 (λ u. omega arith) j.2 ∙ g.3) j.3))),
              )))))),
        )))

    -- a value that is dropped
    void_agrees : (x : Tree) (n : ℕ) → IsVoidCall p r x → Within (counted p r (fresh 0) x).used room → (s : State) (e : More) → FitsHere s e →
        Agree (λ y s1 fl e1. (fl ≡ On) × FitsHere s1 e1) (eval p w.at go x s) (runs c f go' (tree_code p r w (fresh n) x) (beside s e))
    void_agrees (call_at at g es) n void in_room s e fit =
        let c0 : Counts = fresh n in
        let inR : InRoom p w (length f.locals) all most most' room slots (counted p r c0 (call_at at g es)) = in_room_at (call_at at g es) n in_room in
        agree_to (HasIf p c is_core f r w (length f.locals) all room slots known go go' most most' calls c0.used e.words (temp_if w (result_of (slice_get p.functions g)) (args_counted p r c0 es))) (λ y s1 fl e1. (fl ≡ On) × FitsHere s1 e1) (eval p w.at go (call_at at g es) s) (runs c f go' (tree_code p r w c0 (call_at at g es)) (beside s e))
        (call_by p c is_core f r w (length f.locals) all room slots known go go' most most' calls at g es c0 void.0 void.1 void.2 inR s e (args_agree p c is_core f r w (length f.locals) all room slots known go go' most most' calls es c0 (params_in void.0) void.2 (result_room p c is_core f r w (length f.locals) all room slots known go go' most most' calls (result_of (slice_get p.functions g)) (call_choices (slice_get p.functions g)) (args_counted p r c0 es) inR) s e fit))
        (λ y s1 fl e1 h. (h.0, h.1))
    void_agrees (library_at at l es t) n void in_room s e fit =
        let c0 : Counts = fresh n in
        let inR : InRoom p w (length f.locals) all most most' room slots (counted p r c0 (library_at at l es t)) = in_room_at (library_at at l es t) n in_room in
        agree_to (HasIf p c is_core f r w (length f.locals) all room slots known go go' most most' calls c0.used e.words (temp_if w (library_gives l) (first_counted p r c0 es))) (λ y s1 fl e1. (fl ≡ On) × FitsHere s1 e1) (eval p w.at go (library_at at l es t) s) (runs c f go' (tree_code p r w c0 (library_at at l es t)) (beside s e))
        (library_by p c is_core f r w (length f.locals) all room slots known go go' most most' calls at l es t c0 inR s e (first_agrees p c is_core f r w (length f.locals) all room slots known go go' most most' calls es c0 (library_first p r l es void.1) (plain_room p c is_core f r w (length f.locals) all room slots known go go' most most' calls (library_gives l) (first_counted p r c0 es) inR) s e fit))
        (λ y s1 fl e1 h. (h.0, h.1))
    void_agrees x n void in_room s e fit = absurd void

    pub plain_agrees : (at : Place) (x : Tree) (n : ℕ) → StmtFits p r fn.result (plain_at at x) → Within (counted p r (fresh 0) x).used room → (s : State) (e : More) → FitsHere s e →
        Agree (Ran most most') (exec p w.at go (plain_at at x) s) (runs c f go' (stmt_code p fn w n (plain_at at x)) (beside s e))
    unfolding chain give
    plain_agrees at x n fits in_room s e fit =
        step_code c f go' (Ran most most') s e (λ s0. go_on (eval p w.at go x s0) (λ y s1. Next running.On s1)) (tree_code p r w (fresh n) x) fit.sites (λ i is_suc.
        by_kind fits (record s { steps = i }) (step_fit p c is_core f r w (length f.locals) all room slots known go go' most most' calls s e i is_suc fit))
      where
        by_kind : StmtFits p r fn.result (plain_at at x) → (s0 : State) → FitsHere s0 e → Agree (Ran most most') (go_on (eval p w.at go x s0) (λ y s1. Next running.On s1)) (runs c f go' (tree_code p r w (fresh n) x) (beside s0 e))
        by_kind (inl h) s0 fit0 =
            agree_source (Has p w (length f.locals) all most most' room slots (fresh n).used e.words (value_of p r w (fresh n) x)) (Ran most most') (eval p w.at go x s0) (runs c f go' (tree_code p r w (fresh n) x) (beside s0 e)) (λ y s1. Next running.On s1)
            (tree_agrees p c is_core f r w (length f.locals) all room slots known go go' most most' calls x (fresh n) h.0 h.1 (in_room_at x n in_room) s0 e fit0)
            (λ y s1 fl e1 g. (refl, (subst (SameFlow w.at running.On) (sym g.0) tt, g.1)))
        by_kind (inr h) s0 fit0 =
            agree_source (λ y s1 fl e1. (fl ≡ On) × FitsHere s1 e1) (Ran most most') (eval p w.at go x s0) (runs c f go' (tree_code p r w (fresh n) x) (beside s0 e)) (λ y s1. Next running.On s1)
            (void_agrees x n h in_room s0 e fit0)
            (λ y s1 fl e1 g. (refl, (subst (SameFlow w.at running.On) (sym g.0) tt, g.1)))

    pub return_agrees : (at : Place) (es : Trees) (n : ℕ) → StmtFits p r fn.result (return_at at es) → Within (first_counted p r (fresh 0) es).used room → (s : State) (e : More) → FitsHere s e →
        Agree (Ran most most') (exec p w.at go (return_at at es) s) (runs c f go' (stmt_code p fn w n (return_at at es)) (beside s e))
    unfolding chain give core.chain core.give core.get
    return_agrees at es n fits in_room s e fit =
        let c0 : Counts = fresh n in
        let v : Option Simple = first_value p r w c0 es in
        let last : Code = one (do_return v (w.at kind.Ensures at)) in
        let inR : InRoom p w (length f.locals) all most most' room slots (first_counted p r c0 es) = subst (λ (a : Shape → ℕ). Within a room) (first_alike p r es (fresh 0) (fresh n) refl) in_room in
        let F : List ℕ → Run running.Flow = λ ys s1. Next (running.Back at (first_of ys)) s1 in
        step_code c f go' (Ran most most') s e (λ s0. go_on (eval_all p w.at go es s0) F) (join (first_code p r w c0 es) last) fit.sites (λ i is_suc.
        let s0 : State = record s { steps = i } in
        then_code c f go' (HasFirst p c is_core f r w (length f.locals) all room slots known go go' most most' calls c0.used e.words v) (Ran most most') (eval_all p w.at go es s0) (first_code p r w c0 es) last F (beside s0 e)
        (first_agrees p c is_core f r w (length f.locals) all room slots known go go' most most' calls es c0 (return_first p r fn.result es fits) inR s0 e (step_fit p c is_core f r w (length f.locals) all room slots known go go' most most' calls s e i is_suc fit))
        (λ ys s1 fl e1 g. (g.0, (refl, ((refl, sym g.3), g.1)))))

    pub assert_agrees : (at : Place) (x : Tree) (n : ℕ) → StmtFits p r fn.result (assert_at at x) → Within (counted p r (fresh 0) x).used room → (s : State) (e : More) → FitsHere s e →
        Agree (Ran most most') (exec p w.at go (assert_at at x) s) (runs c f go' (stmt_code p fn w n (assert_at at x)) (beside s e))
    unfolding chain give end core.chain core.give core.end core.get
    assert_agrees at x n fits in_room s e fit =
        let v : Simple = value_of p r w (fresh n) x in
        let site : Site = w.at kind.Trap at in
        let last : Code = one (do_assert v site) in
        let F : ℕ → Run running.Flow = λ y. pick y (end (Fault trap.Assertion site)) (give running.On) in
        let G : ℕ → core.Run Flow = λ y. pick y (core.end (Fault trap.Assertion site)) (core.give On) in
        step_tree (Ran most most') x Truth n last (λ s0. F) fits in_room s e fit
        (λ y s0 s1 e1 fit1 is_y same. subst (λ y. Agree (Ran most most') (F y s1) (runs c f go' last (beside s1 e1))) is_y
        (subst (λ q. Agree (Ran most most') (F (word_of v (beside s1 e1)) s1) q) (sym (nothing c f go' (G (word_of v (beside s1 e1)) (beside s1 e1))))
        (pick_agree (Ran most most') (word_of v (beside s1 e1)) (end (Fault trap.Assertion site)) (give running.On) (core.end (Fault trap.Assertion site)) (core.give On) s1 (beside s1 e1) (refl, refl, fit1.sites) (refl, (tt, fit1)))))

    pub raise_agrees : (at : Place) (t n : ℕ) (s : State) (e : More) → FitsHere s e → Agree (Ran most most') (exec p w.at go (raise_at at t) s) (runs c f go' (stmt_code p fn w n (raise_at at t)) (beside s e))
    unfolding chain end core.chain core.end
    raise_agrees at t n s e fit = step_code c f go' (Ran most most') s e (end (Fault trap.Raised (w.at kind.Trap at))) (one (do_raise t (w.at kind.Trap at))) fit.sites (λ i is_suc. (refl, refl, fit.sites))

    noted_agrees : (k : NoteKind) (site : Site) (formula : Formula) (words : List ℕ) (s : State) (e : More) → FitsHere s e → Agree (Ran most most') (go_on (decide p site formula [] words s) (λ _. give running.On)) (cored.noted c site k formula words (beside s e))
    unfolding give core.chain core.give core.change mark
    noted_agrees assert_note site formula words s e fit =
        consume_then p c is_core.predicates (Ran most most') site formula [] words s e (λ _. give running.On) (λ _. core.give On) fit.sites
        (λ start os vs seen. (refl, (tt, good_sites m all most most' s.locals s.steps s.sites (s.sites ++ site ∷ []) e.words e.turns e.visits vs fit seen)))
    noted_agrees fold_note site formula words s e fit =
        decide_then p c is_core.predicates (Ran most most') site formula [] words s (record e { outcomes = _ }) (λ _. give running.On) (λ _. core.give On) fit.sites
        (λ start vs seen. (refl, (tt, good_sites m all most most' s.locals s.steps s.sites (s.sites ++ site ∷ []) e.words e.turns e.visits vs fit seen)))
    noted_agrees unfold_note site formula words s e fit =
        decide_then p c is_core.predicates (Ran most most') site formula [] words s e (λ _. give running.On) (λ _. core.chain (cored.mark_body c site Produce formula words) (λ _. core.give On)) fit.sites
        (λ start vs seen. (refl, (tt, good_sites m all most most' s.locals s.steps s.sites (s.sites ++ site ∷ []) e.words e.turns e.visits vs fit seen)))

    pub note_agrees : (at : Place) (k : NoteKind) (formula : Formula) (n : ℕ) (s : State) (e : More) → FitsHere s e → Agree (Ran most most') (exec p w.at go (note_at at k formula) s) (runs c f go' (stmt_code p fn w n (note_at at k formula)) (beside s e))
    unfolding chain give get core.chain core.give core.get
    note_agrees at k formula n s e fit =
        let site : Site = w.at (note_kind k) at in
        let G : List ℕ → core.Out Flow = λ words. cored.noted c site k formula words (beside s e) in
        let F : core.Out Flow → Type 0 = λ q. Agree (Ran most most') (go_on (decide p site formula [] s.locals s) (λ _. give running.On)) q in
        subst F (sym (nothing c f go' (G (take (length f.locals) e.words))))
        (subst (λ words. F (G words)) (sym fit.locals) (noted_agrees k site formula s.locals s e fit))
