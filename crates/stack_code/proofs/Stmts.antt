-- The code of statements does what they do, up to a return, which the code of a return at its place stands for.
use Rattle.std.proofs.Common.{◌≡◌, ℕ, zero, suc, ◌+◌, ◌-◌, ◌*◌, ◌<◌, ◌≤◌, Bool, true, false, List, [], ◌∷◌, ◌++◌, length, take, Option, Some, None, refl, sym, ap, ◌∙◌, subst, arith, length-append}
use Rattle.std.specs.Prelude.{slice_get, slice_index, slice_set, is_some}
use Rattle.gc0_base.specs.declared.place.Place.{Place}
use Rattle.gc0_base.specs.declared.site.Site.{Site}
use Rattle.gc0_base.specs.declared.site.Kind.{Kind}
use Rattle.gc0_base.specs.declared.site.Kind.TheVariants as kind
use Rattle.gc0_tree.specs.declared.LibraryCall.{LibraryCall}
use Rattle.gc0_tree.specs.declared.LibraryCall.TheVariants as library
use Rattle.gc0_tree.specs.Tree.{Tree, library_at, Trees, Formula, assert_note, Stmt, declare_at, assign_at, plain_at, block_at, if_at, while_at, return_at, note_at, Stmts, no_stmts, stmt_and, Function, Program}
use Rattle.gc0_tree.specs.Sites.{Places}
use Rattle.c0_meaning.specs.Operators.{pick, number_text, truth_text}
use Rattle.c0_meaning.specs.Heaps.{Cells}
use Rattle.c0_meaning.specs.Holds.{holds}
use Rattle.c0_meaning.specs.Runs.{State, Out, Next, Ends, Run, go_on, chain, give, end, get, change, step, take_step}
use Rattle.c0_meaning.specs.Running.{Flow, On, Back, decide, before_of, first_of, library_does, Calls, eval, eval_all, unless_back, joined, after_turn, turns, set_local, declared, exec, exec_all}
use Rattle.stack_code.specs.Instrs as instr
use Rattle.stack_code.specs.Instrs.{Instr, Code}
use Rattle.stack_code.specs.Machine.{Frame, Machine, after, checked, resumed, does, runs, words_of}
use Rattle.stack_code.specs.Coding.{tree_code, trees_code, print_code, plain_code, if_code, if_else_code, turn_code, return_code, stmt_code, stmts_code}
use Rattle.stack_code.specs.Built.{built_library, IsBuiltFormula, count_of, IsBuiltTree, AreBuiltTrees, IsBuiltPlain, IsBuiltStmt, AreBuiltStmts}
use Rattle.stack_code.proofs.Budget.{Goes, IfNext, machine_of, HasAt, has_front, has_back, Does, does_after, does_most, does_to, does_le, does_bind_if, does_bind, does_one, does_now, from, acts, step_then}
use Rattle.stack_code.proofs.Values.{onto}
use Rattle.stack_code.proofs.Trees.{CallsDo, check_does, has_count, tree_does, trees_does}

-- a list of one value
one_of : (xs : List ℕ) → length xs ≡ 1 → (x : ℕ) × (xs ≡ x ∷ [])
one_of [] e = absurd (let f : 0 ≡ 1 = e in omega arith)
one_of (x ∷ []) e = (x, refl)
one_of (x ∷ y ∷ xs) e = absurd (let f : suc (suc (length xs)) ≡ 1 = e in omega arith)

module _ (p : Program) (code : Code) (same : code.predicates ≡ p.predicates) (L : ℕ) (callers : List Frame) (at : Places) (f : Function) where
  -- behind the value of a return: the check of `ensures`, and the end of the frame
  abbrev pub returning : Place → ℕ → State → Goes
  returning place v s = from code L (return_code f at place) callers 0 (v ∷ []) s

  -- the end of a frame doesn't depend on where it stands
  ended : (is is' : List Instr) (q q' v : ℕ) (s : State) → slice_get is q ≡ Some instr.return → slice_get is' q' ≡ Some instr.return → (k : ℕ) → from code L is callers q (v ∷ []) s k ≡ from code L is' callers q' (v ∷ []) s k
  ended is is' q q' v s h h' zero = refl
  ended is is' q q' v s h h' (suc k) = acts code L is callers q (v ∷ []) s instr.return h k ∙ gone callers ∙ sym (acts code L is' callers q' (v ∷ []) s instr.return h' k)
    where
      gone : (fs : List Frame) → after (resumed (machine_of is callers q (v ∷ []) s) fs v) s.output (runs k code) ≡ after (resumed (machine_of is' callers q' (v ∷ []) s) fs v) s.output (runs k code)
      gone [] = refl
      gone (g ∷ fs) = refl

  returned : (is : List Instr) (q : ℕ) (place : Place) (v : ℕ) (s : State) → HasAt is q (return_code f at place) → (k : ℕ) → from code L is callers q (v ∷ []) s k ≡ returning place v s k
  returned is q place v s h zero = refl
  returned is q place v s h (suc k) =
      let site : Site = at kind.Ensures place in
      let i : Instr = instr.checkwhole site f.after (instr.with_result f.params) in
      acts code L is callers q (v ∷ []) s i h.0 k
      ∙ by_truth (is_some (holds code.predicates f.after (take f.params s.locals ++ (v ∷ [])) [] []))
      ∙ sym (acts code L (return_code f at place) callers 0 (v ∷ []) s i refl k)
    where
      by_truth : (b : Bool) → after (checked (machine_of is callers q (v ∷ []) s) (at kind.Ensures place) b) s.output (runs k code) ≡ after (checked (machine_of (return_code f at place) callers 0 (v ∷ []) s) (at kind.Ensures place) b) s.output (runs k code)
      by_truth false = refl
      by_truth true = ended is (return_code f at place) (q + 1) 1 v s h.1.0 refl k

  module _ (is : List Instr) (go : Calls) (most : ℕ) (calls : CallsDo p code same L go most) (befores : (g : ℕ) → IsBuiltFormula (before_of (slice_get p.functions g))) where
    -- where a statement leads to
    abbrev pub flow_to : ℕ → Flow → State → Goes
    flow_to pc On s = from code L is callers pc [] s
    flow_to pc (Back place v) s = returning place v s

    flow_place : (q r : ℕ) → q ≡ r → (flow : Flow) (s : State) (k : ℕ) → flow_to q flow s k ≡ flow_to r flow s k
    flow_place q r e On s k = ap (λ n. from code L is callers n [] s k) e
    flow_place q r e (Back place v) s k = refl

    -- on with the statement behind, at the place that is meant
    goes_on : (q r : ℕ) (operands : List ℕ) (s t : State) (B R : ℕ) → t.steps * L + R ≤ B → t.steps ≤ s.steps → ((k : ℕ) → from code L is callers q operands s k ≡ from code L is callers r [] t k) →
        Does code L (from code L is callers q operands s) s.steps B R (Next On t) (flow_to r)
    goes_on q r operands s t B R le less e = (0, omega (arith, le), less, λ k j g. let i : j ≡ k = omega arith in ap (λ n. from code L is callers q operands s n) i ∙ e k)

    one_more : (q r : ℕ) (operands : List ℕ) (s t : State) (R : ℕ) → t.steps ≤ s.steps → ((k : ℕ) → from code L is callers q operands s (suc k) ≡ from code L is callers r [] t k) →
        Does code L (from code L is callers q operands s) s.steps (t.steps * L + (1 + R)) R (Next On t) (flow_to r)
    one_more q r operands s t R less h =
        (1, omega arith, less, λ k j e. let g : suc k ≡ j = omega arith in subst (λ n. from code L is callers q operands s n ≡ from code L is callers r [] t k) g (h k))

    -- after a statement: what follows it, or nothing where it returns
    after_flow : (flow : Flow) (m : Run Flow) (q r : ℕ) (s : State) (B R : ℕ) → s.steps * L + R ≤ B →
        Does code L (from code L is callers q [] s) s.steps B R (m s) (flow_to r) → Does code L (flow_to q flow s) s.steps B R (unless_back flow m s) (flow_to r)
    unfolding give
    after_flow On m q r s B R le h = h
    after_flow (Back place v) m q r s B R le h =
        does_le code L (Next (Back place v) s) s.steps (s.steps * L + R) B R (flow_to q (Back place v) s) (flow_to r) le (does_now code L (Back place v) s s.steps R (flow_to r) (omega arith))

    -- a step, a value, and what takes it
    tree_then : (e : Tree) → IsBuiltTree p.functions e → (more : List Instr) (after : ℕ → Run Flow) (pc : ℕ) (s : State) (R : ℕ) (to : Flow → State → Goes) → s.steps ≤ most →
        HasAt is pc (instr.step ∷ (tree_code p at e ++ more)) →
        ((x : ℕ) (t : State) → t.steps < s.steps → Does code L (from code L is callers (pc + 1 + length (tree_code p at e)) (x ∷ []) t) t.steps (t.steps * L + (length more + R + L)) R (after x t) to) →
        Does code L (from code L is callers pc [] s) s.steps (s.steps * L + length (instr.step ∷ (tree_code p at e ++ more)) + R) R (go_on (take_step s.steps s) (λ _ t. go_on (eval p at go e t) after)) to
    tree_then e b more after pc s R to le h last =
        let la : ℕ = length (tree_code p at e) in
        let lm : ℕ = length more in
        let all : ℕ = length (instr.step ∷ (tree_code p at e ++ more)) in
        let len : all ≡ 1 + (la + lm) = omega (arith, length-append (tree_code p at e) more) in
        does_le code L (go_on (take_step s.steps s) (λ _ t. go_on (eval p at go e t) after)) s.steps (s.steps * L + 1 + (la + (lm + R))) (s.steps * L + all + R) R (from code L is callers pc [] s) to (omega (arith, len))
        (step_then code L is callers (λ t. go_on (eval p at go e t) after) s pc [] (la + (lm + R)) R to h.0
        (λ t lt. does_bind code L (eval p at go e t) after t.steps (t.steps * L + (la + (lm + R)) + L) (lm + R + L) R (from code L is callers (pc + 1) [] t) (λ v. from code L is callers (pc + 1 + la) (v ∷ [])) to
        (does_le code L (eval p at go e t) t.steps (t.steps * L + la + (lm + R + L)) (t.steps * L + (la + (lm + R)) + L) (lm + R + L) (from code L is callers (pc + 1) [] t) (λ v. from code L is callers (pc + 1 + la) (v ∷ [])) (omega arith)
        (tree_does p code same L is callers at go most calls befores e b (pc + 1) [] t (lm + R + L) (omega arith) (has_front is (pc + 1) (tree_code p at e) more h.1)))
        (λ x u le2. last x u (omega arith))))

    -- a list of one value, and what takes it
    trees_then : (es : Trees) → count_of es ≡ 1 → AreBuiltTrees p.functions es → {A : Type 0} (more : List Instr) (after : List ℕ → Run A) (pc : ℕ) (s : State) (left R : ℕ) (to : A → State → Goes) → s.steps ≤ most →
        HasAt is pc (trees_code p at es ++ more) →
        ((x : ℕ) (t : State) → t.steps ≤ s.steps → Does code L (from code L is callers (pc + length (trees_code p at es)) (x ∷ []) t) t.steps (t.steps * L + left) R (after (x ∷ []) t) to) →
        Does code L (from code L is callers pc [] s) s.steps (s.steps * L + length (trees_code p at es) + left) R (go_on (eval_all p at go es s) after) to
    trees_then es one b {A} more after pc s left R to le h last =
        let la : ℕ = length (trees_code p at es) in
        does_bind_if code L (λ xs. length xs ≡ count_of es) (eval_all p at go es s) after s.steps (s.steps * L + la + left) left R (from code L is callers pc [] s) (λ xs. from code L is callers (pc + la) (onto xs [])) to
        (has_count p code same L is callers at go most calls befores es s)
        (trees_does p code same L is callers at go most calls befores es b pc [] s left le (has_front is pc (trees_code p at es) more h))
        (λ xs t n less.
        let x = one_of xs (n ∙ one) in
        subst (λ xs. Does code L (from code L is callers (pc + la) (onto xs []) t) t.steps (t.steps * L + left) R (after xs t) to) (sym x.1) (last x.0 t less))

    -- the library calls that write
    print_does : (l : LibraryCall) (site : Site) (text : Option ℕ) → built_library l ≡ true → (x : ℕ) (pc : ℕ) (s : State) (R : ℕ) → HasAt is pc (print_code l) →
        Does code L (from code L is callers pc (x ∷ []) s) s.steps (s.steps * L + length (print_code l) + R) R (library_does p site l (x ∷ []) text s) (λ v. from code L is callers (pc + length (print_code l)) [])
    unfolding chain give change
    print_does library.PrintInt site text b x pc s R h =
        let t : State = record s { output = s.output ++ number_text x } in
        let to : ℕ → State → Goes = λ v. from code L is callers (pc + 1) [] in
        does_one code L (Next 0 t) s.steps (s.steps * L + R) (s.steps * L + 1 + R) R (from code L is callers pc (x ∷ []) s) (to 0 t) to (omega arith) (acts code L is callers pc (x ∷ []) s instr.printint h.0)
        (does_now code L 0 t s.steps R to (omega arith))
    print_does library.PrintBool site text b x pc s R h =
        let t : State = record s { output = s.output ++ truth_text x } in
        let to : ℕ → State → Goes = λ v. from code L is callers (pc + 1) [] in
        does_one code L (Next 0 t) s.steps (s.steps * L + R) (s.steps * L + 1 + R) R (from code L is callers pc (x ∷ []) s) (to 0 t) to (omega arith) (acts code L is callers pc (x ∷ []) s instr.printbool h.0)
        (does_now code L 0 t s.steps R to (omega arith))
    print_does l site text b x pc s R h = absurd (let f : false ≡ true = b in cc)

    library_call_does : (place : Place) (l : LibraryCall) (es : Trees) (text : Option ℕ) → built_library l ≡ true → count_of es ≡ 1 → AreBuiltTrees p.functions es → (pc : ℕ) (s : State) (R : ℕ) → s.steps ≤ most →
        HasAt is pc (trees_code p at es ++ (instr.step ∷ print_code l)) →
        Does code L (from code L is callers pc [] s) s.steps (s.steps * L + length (trees_code p at es ++ (instr.step ∷ print_code l)) + R) R (eval p at go (library_at place l es text) s) (λ v. from code L is callers (pc + length (trees_code p at es ++ (instr.step ∷ print_code l))) [])
    unfolding chain
    library_call_does place l es text b one built pc s R le h =
        let la : ℕ = length (trees_code p at es) in
        let lp : ℕ = length (print_code l) in
        let all : ℕ = length (trees_code p at es ++ (instr.step ∷ print_code l)) in
        let len : all ≡ la + (1 + lp) = omega (arith, length-append (trees_code p at es) (instr.step ∷ print_code l)) in
        let to : ℕ → State → Goes = λ v. from code L is callers (pc + all) [] in
        let behind = has_back is pc (trees_code p at es) (instr.step ∷ print_code l) h in
        does_le code L (eval p at go (library_at place l es text) s) s.steps (s.steps * L + la + (1 + (lp + R))) (s.steps * L + all + R) R (from code L is callers pc [] s) to (omega (arith, len))
        (trees_then es one built (instr.step ∷ print_code l) (λ xs t. go_on (take_step t.steps t) (λ _ u. library_does p (at kind.Trap place) l xs text u)) pc s (1 + (lp + R)) R to le h
        (λ x t less. does_le code L (go_on (take_step t.steps t) (λ _ u. library_does p (at kind.Trap place) l (x ∷ []) text u)) t.steps (t.steps * L + 1 + (lp + R)) (t.steps * L + (1 + (lp + R))) R (from code L is callers (pc + la) (x ∷ []) t) to (omega arith)
        (step_then code L is callers (λ u. library_does p (at kind.Trap place) l (x ∷ []) text u) t (pc + la) (x ∷ []) (lp + R) R to behind.0
        (λ u lt. does_le code L (library_does p (at kind.Trap place) l (x ∷ []) text u) u.steps (u.steps * L + lp + R) (u.steps * L + (lp + R) + L) R (from code L is callers (pc + la + 1) (x ∷ []) u) to (omega arith)
        (does_to code L (library_does p (at kind.Trap place) l (x ∷ []) text u) u.steps (u.steps * L + lp + R) R (from code L is callers (pc + la + 1) (x ∷ []) u) (λ v. from code L is callers (pc + la + 1 + lp) []) to (λ v w k. let e : pc + la + 1 + lp ≡ pc + all = omega (arith, len) in ap (λ r. from code L is callers r [] w k) e)
        (print_does l (at kind.Trap place) text b x (pc + la + 1) u R behind.1))))))

    plain_does : (e : Tree) → IsBuiltPlain p.functions e → (pc : ℕ) (s : State) (R : ℕ) → s.steps ≤ most → HasAt is pc (instr.step ∷ plain_code p at e) →
        Does code L (from code L is callers pc [] s) s.steps (s.steps * L + length (instr.step ∷ plain_code p at e) + R) R (go_on (take_step s.steps s) (λ _ t. go_on (eval p at go e t) (λ _. give On))) (flow_to (pc + length (instr.step ∷ plain_code p at e)))
    unfolding give
    plain_does (library_at place l es text) b pc s R le h =
        let lc : ℕ = length (trees_code p at es ++ (instr.step ∷ print_code l)) in
        let to : Flow → State → Goes = flow_to (pc + (suc lc)) in
        let e : pc + 1 + lc ≡ pc + (suc lc) = omega arith in
        let call : Tree = library_at place l es text in
        does_le code L (go_on (take_step s.steps s) (λ _ t. go_on (eval p at go call t) (λ _. give On))) s.steps (s.steps * L + 1 + (lc + R)) (s.steps * L + (suc lc) + R) R (from code L is callers pc [] s) to (omega arith)
        (step_then code L is callers (λ t. go_on (eval p at go call t) (λ _. give On)) s pc [] (lc + R) R to h.0
        (λ t lt. does_bind code L (eval p at go call t) (λ _. give On) t.steps (t.steps * L + (lc + R) + L) (R + L) R (from code L is callers (pc + 1) [] t) (λ v. from code L is callers (pc + 1 + lc) []) to
        (does_le code L (eval p at go call t) t.steps (t.steps * L + lc + (R + L)) (t.steps * L + (lc + R) + L) (R + L) (from code L is callers (pc + 1) [] t) (λ v. from code L is callers (pc + 1 + lc) []) (omega arith)
        (library_call_does place l es text b.0 b.1 b.2 (pc + 1) t (R + L) (omega arith) h.1))
        (λ v u less. goes_on (pc + 1 + lc) (pc + (suc lc)) [] u u (u.steps * L + (R + L)) R (omega arith) (omega arith) (λ k. ap (λ r. from code L is callers r [] u k) e))))
    plain_does e b pc s R le h =
        let la : ℕ = length (tree_code p at e) in
        let all : ℕ = length (instr.step ∷ (tree_code p at e ++ (instr.drop ∷ []))) in
        let len : all ≡ 1 + (la + 1) = omega (arith, length-append (tree_code p at e) (instr.drop ∷ [])) in
        let place : pc + 1 + la + 1 ≡ pc + all = omega (arith, len) in
        let at_drop = (has_back is (pc + 1) (tree_code p at e) (instr.drop ∷ []) h.1).0 in
        tree_then e b (instr.drop ∷ []) (λ _. give On) pc s R (flow_to (pc + all)) le h
        (λ x t lt. does_le code L (Next On t) t.steps (t.steps * L + (1 + (R + L))) (t.steps * L + (1 + R + L)) R (from code L is callers (pc + 1 + la) (x ∷ []) t) (flow_to (pc + all)) (omega arith)
        (does_one code L (Next On t) t.steps (t.steps * L + R) (t.steps * L + (1 + (R + L))) R (from code L is callers (pc + 1 + la) (x ∷ []) t) (flow_to (pc + all) On t) (flow_to (pc + all)) (omega arith)
        (λ k. acts code L is callers (pc + 1 + la) (x ∷ []) t instr.drop at_drop k ∙ ap (λ r. from code L is callers r [] t k) place)
        (does_now code L On t t.steps R (flow_to (pc + all)) (omega arith))))

    -- a value is saved in a local
    save_does : (i x q r : ℕ) (t : State) (B R : ℕ) → slice_get is q ≡ Some (instr.save i) → q + 1 ≡ r → t.steps * L + (1 + R) ≤ B →
        Does code L (from code L is callers q (x ∷ []) t) t.steps B R (Next On record t { locals = slice_set t.locals i x }) (flow_to r)
    save_does i x q r t B R h e le =
        let u : State = record t { locals = slice_set t.locals i x } in
        does_one code L (Next On u) t.steps (t.steps * L + R) B R (from code L is callers q (x ∷ []) t) (flow_to r On u) (flow_to r) (omega (arith, le))
        (λ k. acts code L is callers q (x ∷ []) t (instr.save i) h k ∙ ap (λ r. from code L is callers r [] u k) e)
        (does_now code L On u t.steps R (flow_to r) (omega arith))

    -- a turn of a loop behind the decision at its head, with at most so many turns after it
    abbrev turn : Formula → Place → ℕ → Run ℕ → Run Flow → Cells → Cells → Run Flow
    turn inv place n test body outer start s =
        go_on (take_step s.steps record s { owned = start }) (λ _ t. go_on (test t) (λ x u. pick x (chain (change (joined outer)) (λ _. give On))
        (chain body (after_turn (turns n (λ k outer. chain (get (λ s. s.locals)) (decide p (at k place) inv outer)) test body kind.Again) outer)) u))

    -- behind the test of a loop: past it, or the body and what follows the body
    behind_test : (x : ℕ) (outer : Cells) (body : Run Flow) (further : Flow → Run Flow) (lb q r : ℕ) (s : State) (left R : ℕ) → R ≤ left →
        slice_get is q ≡ Some (instr.jumpfalse r) →
        ((R : ℕ) → Does code L (from code L is callers (q + 1) [] s) s.steps (s.steps * L + lb + R) R (body s) (flow_to (q + 1 + lb))) →
        ((flow : Flow) (t : State) → t.steps ≤ s.steps → Does code L (flow_to (q + 1 + lb) flow t) t.steps (t.steps * L + left) R (further flow t) (flow_to r)) →
        Does code L (from code L is callers q (x ∷ []) s) s.steps (s.steps * L + (1 + lb + left)) R (pick x (chain (change (joined outer)) (λ _. give On)) (chain body further) s) (flow_to r)
    unfolding chain give change
    behind_test zero outer body further lb q r s left R less h does_body again =
        let t : State = joined outer s in
        does_one code L (Next On t) s.steps (s.steps * L + R) (s.steps * L + (1 + lb + left)) R (from code L is callers q (zero ∷ []) s) (flow_to r On t) (flow_to r) (omega (arith, less))
        (acts code L is callers q (zero ∷ []) s (instr.jumpfalse r) h)
        (does_now code L On t s.steps R (flow_to r) (omega arith))
    behind_test (suc x) outer body further lb q r s left R less h does_body again =
        does_one code L (go_on (body s) further) s.steps (s.steps * L + lb + left) (s.steps * L + (1 + lb + left)) R (from code L is callers q (suc x ∷ []) s) (from code L is callers (q + 1) [] s) (flow_to r) (omega arith)
        (acts code L is callers q (suc x ∷ []) s (instr.jumpfalse r) h)
        (does_bind code L (body s) further s.steps (s.steps * L + lb + left) left R (from code L is callers (q + 1) [] s) (flow_to (q + 1 + lb)) (flow_to r) (does_body left)
        (λ flow t le. again flow t le))

    -- behind the test of a choice without `else`
    if_does : (x : ℕ) (a : Run Flow) (q target r la : ℕ) (t : State) (R left : ℕ) → slice_get is q ≡ Some (instr.jumpfalse target) → target ≡ r → q + 1 + la ≡ r → 1 + la + R ≤ left →
        ((R : ℕ) → Does code L (from code L is callers (q + 1) [] t) t.steps (t.steps * L + la + R) R (a t) (flow_to (q + 1 + la))) →
        Does code L (from code L is callers q (x ∷ []) t) t.steps (t.steps * L + left) R (pick x (give On) a t) (flow_to r)
    unfolding give
    if_does zero a q target r la t R left h e f enough does_a =
        does_le code L (Next On t) t.steps (t.steps * L + (1 + R)) (t.steps * L + left) R (from code L is callers q (zero ∷ []) t) (flow_to r) (omega (arith, enough))
        (one_more q r (zero ∷ []) t t R (omega arith) (λ k. acts code L is callers q (zero ∷ []) t (instr.jumpfalse target) h k ∙ ap (λ n. from code L is callers n [] t k) e))
    if_does (suc x) a q target r la t R left h e f enough does_a =
        does_one code L (a t) t.steps (t.steps * L + la + R) (t.steps * L + left) R (from code L is callers q (suc x ∷ []) t) (from code L is callers (q + 1) [] t) (flow_to r) (omega (arith, enough))
        (acts code L is callers q (suc x ∷ []) t (instr.jumpfalse target) h)
        (does_to code L (a t) t.steps (t.steps * L + la + R) R (from code L is callers (q + 1) [] t) (flow_to (q + 1 + la)) (flow_to r) (flow_place (q + 1 + la) r f) (does_a R))

    -- where a side of a choice ends, the jump behind it leads past the other side
    past_else : (flow : Flow) (q over r : ℕ) (t : State) (R : ℕ) → slice_get is q ≡ Some (instr.jump over) → over ≡ r →
        Does code L (flow_to q flow t) t.steps (t.steps * L + (1 + R)) R (Next flow t) (flow_to r)
    past_else On q over r t R h e = one_more q r [] t t R (omega arith) (λ k. acts code L is callers q [] t (instr.jump over) h k ∙ ap (λ n. from code L is callers n [] t k) e)
    past_else (Back place v) q over r t R h e =
        does_le code L (Next (Back place v) t) t.steps (t.steps * L + R) (t.steps * L + (1 + R)) R (returning place v t) (flow_to r) (omega arith) (does_now code L (Back place v) t t.steps R (flow_to r) (omega arith))

    -- behind the test of a choice with `else`
    if_else_does : (x : ℕ) (a b : Run Flow) (q target over r la lb : ℕ) (t : State) (R left : ℕ) → slice_get is q ≡ Some (instr.jumpfalse target) → slice_get is (q + 1 + la) ≡ Some (instr.jump over) → over ≡ target + lb → over ≡ r → 1 + (la + (1 + lb)) + R ≤ left →
        ((R : ℕ) → Does code L (from code L is callers (q + 1) [] t) t.steps (t.steps * L + la + R) R (a t) (flow_to (q + 1 + la))) →
        ((u : State) (R : ℕ) → u.steps ≤ t.steps → Does code L (from code L is callers target [] u) u.steps (u.steps * L + lb + R) R (b u) (flow_to (target + lb))) →
        Does code L (from code L is callers q (x ∷ []) t) t.steps (t.steps * L + left) R (pick x b a t) (flow_to r)
    if_else_does zero a b q target over r la lb t R left h h2 over_is e enough does_a does_b =
        does_one code L (b t) t.steps (t.steps * L + lb + R) (t.steps * L + left) R (from code L is callers q (zero ∷ []) t) (from code L is callers target [] t) (flow_to r) (omega (arith, enough))
        (acts code L is callers q (zero ∷ []) t (instr.jumpfalse target) h)
        (does_to code L (b t) t.steps (t.steps * L + lb + R) R (from code L is callers target [] t) (flow_to (target + lb)) (flow_to r) (flow_place (target + lb) r (sym over_is ∙ e)) (does_b t R (omega arith)))
    if_else_does (suc x) a b q target over r la lb t R left h h2 over_is e enough does_a does_b =
        does_one code L (a t) t.steps (t.steps * L + la + (1 + R)) (t.steps * L + left) R (from code L is callers q (suc x ∷ []) t) (from code L is callers (q + 1) [] t) (flow_to r) (omega (arith, enough))
        (acts code L is callers q (suc x ∷ []) t (instr.jumpfalse target) h)
        (then_jumps (a t) (does_a (1 + R)))
      where
        then_jumps : (o : Out Flow) → Does code L (from code L is callers (q + 1) [] t) t.steps (t.steps * L + la + (1 + R)) (1 + R) o (flow_to (q + 1 + la)) → Does code L (from code L is callers (q + 1) [] t) t.steps (t.steps * L + la + (1 + R)) R o (flow_to r)
        then_jumps (Ends e s) d = d
        then_jumps (Next flow u) d =
            does_after code L (Next flow u) d.0 t.steps (t.steps * L + la + (1 + R)) (u.steps * L + (1 + R)) R (from code L is callers (q + 1) [] t) (flow_to (q + 1 + la) flow u) (flow_to r) d.3 (omega (arith, d.1))
            (does_most code L (Next flow u) u.steps t.steps (u.steps * L + (1 + R)) R (flow_to (q + 1 + la) flow u) (flow_to r) d.2 (past_else flow (q + 1 + la) over r u R h2 e))

    module _ (inv : Formula) (place : Place) (c : Tree) (body : Run Flow) (body_code : List Instr) (q : ℕ) (formula : IsBuiltFormula inv) (built : IsBuiltTree p.functions c)
        (h : HasAt is q (turn_code q (tree_code p at c) body_code (instr.checkwhole (at kind.Again place) inv instr.locals)))
        (small : length (turn_code q (tree_code p at c) body_code (instr.checkwhole (at kind.Again place) inv instr.locals)) ≤ L)
        (does_body : (s : State) (R : ℕ) → s.steps ≤ most → Does code L (from code L is callers (q + 1 + length (tree_code p at c) + 1) [] s) s.steps (s.steps * L + length body_code + R) R (body s) (flow_to (q + 1 + length (tree_code p at c) + 1 + length body_code))) where
      abbrev again_check : Instr
      again_check = instr.checkwhole (at kind.Again place) inv instr.locals

      -- how many instructions a turn has
      abbrev turn_length : ℕ
      turn_length = length (turn_code q (tree_code p at c) body_code again_check)

      -- what stands behind the test
      abbrev past_test : List Instr
      past_test = instr.jumpfalse (q + 1 + length (tree_code p at c) + 1 + length body_code + 2) ∷ (body_code ++ (again_check ∷ instr.jump q ∷ []))

      abbrev head : Kind → Cells → Run Cells
      head k outer = chain (get (λ s. s.locals)) (decide p (at k place) inv outer)

      length_is : turn_length ≡ 1 + (length (tree_code p at c) + (1 + (length body_code + 2)))
      length_is = omega (arith, length-append (tree_code p at c) past_test, length-append body_code (again_check ∷ instr.jump q ∷ []))

      -- behind the body: the check at the next head, the jump back, and the turns that are left
      rounds : (m : ℕ) → ((outer start : Cells) (s : State) (R : ℕ) → s.steps ≤ m → s.steps ≤ most → Does code L (from code L is callers q [] s) s.steps (s.steps * L + turn_length + R) R (turn inv place m (eval p at go c) body outer start s) (flow_to (q + turn_length))) →
          (outer : Cells) (flow : Flow) (v : State) (R : ℕ) → v.steps ≤ m → v.steps ≤ most →
          Does code L (flow_to (q + 1 + length (tree_code p at c) + 1 + length body_code) flow v) v.steps (v.steps * L + (2 + R + L)) R
          (after_turn (turns (suc m) head (eval p at go c) body kind.Again) outer flow v) (flow_to (q + turn_length))
      unfolding chain get change
      rounds m next outer (Back at_place w) v R within le =
          does_le code L (Next (Back at_place w) (joined outer v)) v.steps (v.steps * L + R) (v.steps * L + (2 + R + L)) R (returning at_place w v) (flow_to (q + turn_length)) (omega arith)
          (does_now code L (Back at_place w) (joined outer v) v.steps R (flow_to (q + turn_length)) (omega arith))
      rounds m next outer On v R within le =
          let lt : ℕ = length (tree_code p at c) in
          let lb : ℕ = length body_code in
          let a : ℕ = q + 1 + lt + 1 + lb in
          let all : Cells = outer ++ v.owned in
          let behind = has_back is (q + 1 + lt + 1) body_code (again_check ∷ instr.jump q ∷ []) (has_back is (q + 1) (tree_code p at c) past_test h.1).1 in
          does_bind code L (decide p (at kind.Again place) inv all v.locals v) (λ start. turn inv place m (eval p at go c) body all start) v.steps (v.steps * L + (2 + R + L)) (1 + R + L) R (from code L is callers a [] v) (λ start. from code L is callers (a + 1) []) (flow_to (q + turn_length))
          (does_le code L (decide p (at kind.Again place) inv all v.locals v) v.steps (v.steps * L + 1 + (1 + R + L)) (v.steps * L + (2 + R + L)) (1 + R + L) (from code L is callers a [] v) (λ start. from code L is callers (a + 1) []) (omega arith)
          (check_does p code same L is callers (at kind.Again place) inv all v.locals instr.locals a [] v (1 + R + L) formula behind.0 refl))
          (λ start w less. does_one code L (turn inv place m (eval p at go c) body all start w) w.steps (w.steps * L + turn_length + R) (w.steps * L + (1 + R + L)) R (from code L is callers (a + 1) [] w) (from code L is callers q [] w) (flow_to (q + turn_length)) (omega (arith, small))
          (acts code L is callers (a + 1) [] w (instr.jump q) behind.1.0)
          (next all start w R (omega arith) (omega arith)))

      turn_by : (n : ℕ) (outer start : Cells) (s : State) (R : ℕ) → s.steps ≤ n → s.steps ≤ most →
          ((flow : Flow) (v : State) → v.steps < n → v.steps ≤ most → Does code L (flow_to (q + 1 + length (tree_code p at c) + 1 + length body_code) flow v) v.steps (v.steps * L + (2 + R + L)) R (after_turn (turns n head (eval p at go c) body kind.Again) outer flow v) (flow_to (q + turn_length))) →
          Does code L (from code L is callers q [] s) s.steps (s.steps * L + turn_length + R) R (turn inv place n (eval p at go c) body outer start s) (flow_to (q + turn_length))
      turn_by n outer start s R within le further_does =
          let lt : ℕ = length (tree_code p at c) in
          let lb : ℕ = length body_code in
          let end_is : q + 1 + lt + 1 + lb + 2 ≡ q + turn_length = omega (arith, length_is) in
          let behind = has_back is (q + 1) (tree_code p at c) past_test h.1 in
          let at_past : slice_get is (q + 1 + lt) ≡ Some (instr.jumpfalse (q + turn_length)) = subst (λ r. slice_get is (q + 1 + lt) ≡ Some (instr.jumpfalse r)) end_is behind.0 in
          let further : Flow → Run Flow = after_turn (turns n head (eval p at go c) body kind.Again) outer in
          let tested : ℕ → Run Flow = λ x. pick x (chain (change (joined outer)) (λ _. give On)) (chain body further) in
          does_le code L (turn inv place n (eval p at go c) body outer start s) s.steps (s.steps * L + 1 + (lt + (1 + lb + (2 + R)))) (s.steps * L + turn_length + R) R (from code L is callers q [] s) (flow_to (q + turn_length)) (omega (arith, length_is))
          (step_then code L is callers (λ t. go_on (eval p at go c t) tested) record s { owned = start } q [] (lt + (1 + lb + (2 + R))) R (flow_to (q + turn_length)) h.0
          (λ t less. does_bind code L (eval p at go c t) tested t.steps (t.steps * L + (lt + (1 + lb + (2 + R))) + L) (1 + lb + (2 + R + L)) R (from code L is callers (q + 1) [] t) (λ v. from code L is callers (q + 1 + lt) (v ∷ [])) (flow_to (q + turn_length))
          (does_le code L (eval p at go c t) t.steps (t.steps * L + lt + (1 + lb + (2 + R + L))) (t.steps * L + (lt + (1 + lb + (2 + R))) + L) (1 + lb + (2 + R + L)) (from code L is callers (q + 1) [] t) (λ v. from code L is callers (q + 1 + lt) (v ∷ [])) (omega arith)
          (tree_does p code same L is callers at go most calls befores c built (q + 1) [] t (1 + lb + (2 + R + L)) (omega arith) (has_front is (q + 1) (tree_code p at c) past_test h.1)))
          (λ x u le2. behind_test x outer body further lb (q + 1 + lt) (q + turn_length) u (2 + R + L) R (omega arith) at_past
          (λ R1. does_body u R1 (omega arith))
          (λ flow v le3. further_does flow v (omega arith) (omega arith)))))

      turn_does : (n : ℕ) (outer start : Cells) (s : State) (R : ℕ) → s.steps ≤ n → s.steps ≤ most →
          Does code L (from code L is callers q [] s) s.steps (s.steps * L + turn_length + R) R (turn inv place n (eval p at go c) body outer start s) (flow_to (q + turn_length))
      turn_does zero outer start s R within le = turn_by zero outer start s R within le (λ flow v lt le1. absurd (omega arith))
      turn_does (suc m) outer start s R within le = turn_by (suc m) outer start s R within le (λ flow v lt le1. rounds m (turn_does m) outer flow v R (omega arith) le1)

    mutual
      unfolding chain give get change

      pub stmt_does : (st : Stmt) → IsBuiltStmt p.functions st → (pc : ℕ) (s : State) (R : ℕ) → s.steps ≤ most → length (stmt_code p f at pc st) ≤ L → HasAt is pc (stmt_code p f at pc st) →
          Does code L (from code L is callers pc [] s) s.steps (s.steps * L + length (stmt_code p f at pc st) + R) R (exec p at go st s) (flow_to (pc + length (stmt_code p f at pc st)))
      stmt_does (declare_at place i es) b pc s R le small h =
          let la : ℕ = length (trees_code p at es) in
          let all : ℕ = length (instr.step ∷ (trees_code p at es ++ (instr.save i ∷ []))) in
          let len : all ≡ 1 + (la + 1) = omega (arith, length-append (trees_code p at es) (instr.save i ∷ [])) in
          let at_save = (has_back is (pc + 1) (trees_code p at es) (instr.save i ∷ []) h.1).0 in
          let body : Run Flow = λ t. go_on (eval_all p at go es t) (declared i) in
          does_le code L (go_on (take_step s.steps s) (λ _. body)) s.steps (s.steps * L + 1 + (la + (1 + R))) (s.steps * L + all + R) R (from code L is callers pc [] s) (flow_to (pc + all)) (omega (arith, len))
          (step_then code L is callers body s pc [] (la + (1 + R)) R (flow_to (pc + all)) h.0
          (λ t less. does_le code L (body t) t.steps (t.steps * L + la + (1 + R + L)) (t.steps * L + (la + (1 + R)) + L) R (from code L is callers (pc + 1) [] t) (flow_to (pc + all)) (omega arith)
          (trees_then es b.0 b.1 (instr.save i ∷ []) (declared i) (pc + 1) t (1 + R + L) R (flow_to (pc + all)) (omega arith) h.1
          (λ x u le2. save_does i x (pc + 1 + la) (pc + all) u (u.steps * L + (1 + R + L)) R at_save (omega (arith, len)) (omega arith)))))
      stmt_does (assign_at place i None op_at e) b pc s R le small h =
          let la : ℕ = length (tree_code p at e) in
          let all : ℕ = length (instr.step ∷ (tree_code p at e ++ (instr.save i ∷ []))) in
          let len : all ≡ 1 + (la + 1) = omega (arith, length-append (tree_code p at e) (instr.save i ∷ [])) in
          let at_save = (has_back is (pc + 1) (tree_code p at e) (instr.save i ∷ []) h.1).0 in
          tree_then e b (instr.save i ∷ []) (set_local i) pc s R (flow_to (pc + all)) le h
          (λ x u less. save_does i x (pc + 1 + la) (pc + all) u (u.steps * L + (1 + R + L)) R at_save (omega (arith, len)) (omega arith))
      stmt_does (plain_at place e) b pc s R le small h = plain_does e b pc s R le h
      stmt_does (block_at place ss) b pc s R le small h = stmts_does ss b pc s R le small h
      stmt_does (if_at place c a no_stmts) b pc s R le small h =
          let lt : ℕ = length (tree_code p at c) in
          let a_code : List Instr = stmt_code p f at (pc + 1 + lt + 1) a in
          let la : ℕ = length a_code in
          let target : ℕ = pc + 1 + lt + 1 + la in
          let more : List Instr = instr.jumpfalse target ∷ a_code in
          let all : ℕ = length (instr.step ∷ (tree_code p at c ++ more)) in
          let len : all ≡ 1 + (lt + (1 + la)) = omega (arith, length-append (tree_code p at c) more) in
          let ends : target ≡ pc + all = omega (arith, len) in
          let behind = has_back is (pc + 1) (tree_code p at c) more h.1 in
          tree_then c b.0 more (λ x. pick x (give On) (exec p at go a)) pc s R (flow_to (pc + all)) le h
          (λ x t less. if_does x (exec p at go a) (pc + 1 + lt) target (pc + all) la t R (suc la + R + L) behind.0 ends (omega arith) (omega arith)
          (λ R1. stmt_does a b.1 (pc + 1 + lt + 1) t R1 (omega arith) (omega (arith, len, small)) behind.1))
      stmt_does (if_at place c a (stmt_and d ds)) b pc s R le small h =
          let lt : ℕ = length (tree_code p at c) in
          let a_code : List Instr = stmt_code p f at (pc + 1 + lt + 1) a in
          let la : ℕ = length a_code in
          let b_code : List Instr = stmts_code p f at (pc + 1 + lt + 1 + la + 1) (stmt_and d ds) in
          let lb : ℕ = length b_code in
          let target : ℕ = pc + 1 + lt + 1 + la + 1 in
          let tail : List Instr = instr.jump (target + lb) ∷ b_code in
          let more : List Instr = instr.jumpfalse target ∷ (a_code ++ tail) in
          let all : ℕ = length (instr.step ∷ (tree_code p at c ++ more)) in
          let len : all ≡ 1 + (lt + (1 + (la + (1 + lb)))) = omega (arith, length-append (tree_code p at c) more, length-append a_code tail) in
          let more_len : length more ≡ 1 + (la + (1 + lb)) = omega (arith, length-append a_code tail) in
          let ends : target + lb ≡ pc + all = omega (arith, len) in
          let behind = has_back is (pc + 1) (tree_code p at c) more h.1 in
          let behind_a = has_back is (pc + 1 + lt + 1) a_code tail behind.1 in
          tree_then c b.0 more (λ x. pick x (exec_all p at go (stmt_and d ds)) (exec p at go a)) pc s R (flow_to (pc + all)) le h
          (λ x t less. if_else_does x (exec p at go a) (exec_all p at go (stmt_and d ds)) (pc + 1 + lt) target (target + lb) (pc + all) la lb t R (length more + R + L) behind.0 behind_a.0 refl ends (omega (arith, more_len))
          (λ R1. stmt_does a b.1 (pc + 1 + lt + 1) t R1 (omega arith) (omega (arith, len, small)) (has_front is (pc + 1 + lt + 1) a_code tail behind.1))
          (λ u R1 le2. stmts_does (stmt_and d ds) b.2 target u R1 (omega arith) (omega (arith, len, small)) behind_a.1))
      stmt_does (while_at place inv c a) b pc s R le small h =
          let lt : ℕ = length (tree_code p at c) in
          let q : ℕ = pc + 1 + 1 in
          let a_code : List Instr = stmt_code p f at (q + 1 + lt + 1) a in
          let again : Instr = instr.checkwhole (at kind.Again place) inv instr.locals in
          let l : ℕ = length (turn_code q (tree_code p at c) a_code again) in
          let past : List Instr = instr.jumpfalse (q + 1 + lt + 1 + length a_code + 2) ∷ (a_code ++ (again ∷ instr.jump q ∷ [])) in
          let len : l ≡ 1 + (lt + (1 + (length a_code + 2))) = omega (arith, length-append (tree_code p at c) past, length-append a_code (again ∷ instr.jump q ∷ [])) in
          let to : Flow → State → Goes = flow_to (pc + (suc (suc l))) in
          let ends : q + l ≡ pc + suc (suc l) = omega arith in
          let first : State → Out Flow = λ t. go_on (decide p (at kind.Entry place) inv t.owned t.locals t) (λ start u. turn inv place t.steps (eval p at go c) (exec p at go a) t.owned start u) in
          does_le code L (go_on (take_step s.steps s) (λ _. first)) s.steps (s.steps * L + 1 + (1 + (l + R))) (s.steps * L + (suc (suc l)) + R) R (from code L is callers pc [] s) to (omega arith)
          (step_then code L is callers first s pc [] (1 + (l + R)) R to h.0
          (λ t less. does_bind code L (decide p (at kind.Entry place) inv t.owned t.locals t) (λ start u. turn inv place t.steps (eval p at go c) (exec p at go a) t.owned start u) t.steps (t.steps * L + (1 + (l + R)) + L) (l + R + L) R (from code L is callers (pc + 1) [] t) (λ start. from code L is callers q []) to
          (does_le code L (decide p (at kind.Entry place) inv t.owned t.locals t) t.steps (t.steps * L + 1 + (l + R + L)) (t.steps * L + (1 + (l + R)) + L) (l + R + L) (from code L is callers (pc + 1) [] t) (λ start. from code L is callers q []) (omega arith)
          (check_does p code same L is callers (at kind.Entry place) inv t.owned t.locals instr.locals (pc + 1) [] t (l + R + L) b.0 h.1.0 refl))
          (λ start u le2. does_to code L (turn inv place t.steps (eval p at go c) (exec p at go a) t.owned start u) u.steps (u.steps * L + (l + R + L)) R (from code L is callers q [] u) (flow_to (q + l)) to (flow_place (q + l) (pc + suc (suc l)) ends)
          (does_le code L (turn inv place t.steps (eval p at go c) (exec p at go a) t.owned start u) u.steps (u.steps * L + l + R) (u.steps * L + (l + R + L)) R (from code L is callers q [] u) (flow_to (q + l)) (omega arith)
          (turn_does inv place c (exec p at go a) a_code q b.0 b.1 h.1.1 (omega (arith, small))
          (λ v R1 le3. stmt_does a b.2 (q + 1 + lt + 1) v R1 le3 (omega (arith, len, small)) (has_front is (q + 1 + lt + 1) a_code (again ∷ instr.jump q ∷ []) (has_back is (q + 1) (tree_code p at c) past h.1.1.1).1))
          t.steps t.owned start u R (omega arith) (omega arith))))))
      stmt_does (return_at place es) b pc s R le small h =
          let la : ℕ = length (trees_code p at es) in
          let more : List Instr = return_code f at place in
          let all : ℕ = length (instr.step ∷ (trees_code p at es ++ more)) in
          let len : all ≡ 1 + (la + 2) = omega (arith, length-append (trees_code p at es) more) in
          let after : List ℕ → Run Flow = λ xs. give (Back place (first_of xs)) in
          let body : Run Flow = λ t. go_on (eval_all p at go es t) after in
          let behind = has_back is (pc + 1) (trees_code p at es) more h.1 in
          does_le code L (go_on (take_step s.steps s) (λ _. body)) s.steps (s.steps * L + 1 + (la + R)) (s.steps * L + all + R) R (from code L is callers pc [] s) (flow_to (pc + all)) (omega (arith, len))
          (step_then code L is callers body s pc [] (la + R) R (flow_to (pc + all)) h.0
          (λ t less. does_le code L (body t) t.steps (t.steps * L + la + (R + L)) (t.steps * L + (la + R) + L) R (from code L is callers (pc + 1) [] t) (flow_to (pc + all)) (omega arith)
          (trees_then es b.0 b.1 more after (pc + 1) t (R + L) R (flow_to (pc + all)) (omega arith) h.1
          (λ x u le2. (0, omega arith, omega arith, λ k j e. let g : j ≡ k = omega arith in ap (λ n. from code L is callers (pc + 1 + la) (x ∷ []) u n) g ∙ returned is (pc + 1 + la) place x u behind k)))))
      stmt_does (note_at place assert_note formula) b pc s R le small h =
          does_bind code L (decide p (at kind.Assert place) formula [] s.locals s) (λ start. give On) s.steps (s.steps * L + 1 + R) R R (from code L is callers pc [] s) (λ start. from code L is callers (pc + 1) []) (flow_to (pc + 1))
          (check_does p code same L is callers (at kind.Assert place) formula [] s.locals instr.locals pc [] s R b h.0 refl)
          (λ start t le1. does_now code L On t t.steps R (flow_to (pc + 1)) (omega arith))
      stmt_does st b pc s R le small h = absurd b

      pub stmts_does : (ss : Stmts) → AreBuiltStmts p.functions ss → (pc : ℕ) (s : State) (R : ℕ) → s.steps ≤ most → length (stmts_code p f at pc ss) ≤ L → HasAt is pc (stmts_code p f at pc ss) →
          Does code L (from code L is callers pc [] s) s.steps (s.steps * L + length (stmts_code p f at pc ss) + R) R (exec_all p at go ss s) (flow_to (pc + length (stmts_code p f at pc ss)))
      stmts_does no_stmts b pc s R le small h =
          let e : pc ≡ pc + 0 = omega arith in
          goes_on pc (pc + 0) [] s s (s.steps * L + 0 + R) R (omega arith) (omega arith) (λ k. ap (λ r. from code L is callers r [] s k) e)
      stmts_does (stmt_and st ss) b pc s R le small h =
          let a_code : List Instr = stmt_code p f at pc st in
          let la : ℕ = length a_code in
          let b_code : List Instr = stmts_code p f at (pc + la) ss in
          let lb : ℕ = length b_code in
          let all : ℕ = length (a_code ++ b_code) in
          let len : all ≡ la + lb = length-append a_code b_code in
          let ends : pc + la + lb ≡ pc + all = omega (arith, len) in
          let to : Flow → State → Goes = flow_to (pc + all) in
          does_bind code L (exec p at go st s) (λ flow. unless_back flow (exec_all p at go ss)) s.steps (s.steps * L + all + R) (lb + R) R (from code L is callers pc [] s) (flow_to (pc + la)) to
          (does_le code L (exec p at go st s) s.steps (s.steps * L + la + (lb + R)) (s.steps * L + all + R) (lb + R) (from code L is callers pc [] s) (flow_to (pc + la)) (omega (arith, len))
          (stmt_does st b.0 pc s (lb + R) le (omega (arith, len, small)) (has_front is pc a_code b_code h)))
          (λ flow t le1. after_flow flow (exec_all p at go ss) (pc + la) (pc + all) t (t.steps * L + (lb + R)) R (omega arith)
          (does_le code L (exec_all p at go ss t) t.steps (t.steps * L + lb + R) (t.steps * L + (lb + R)) R (from code L is callers (pc + la) [] t) to (omega arith)
          (does_to code L (exec_all p at go ss t) t.steps (t.steps * L + lb + R) R (from code L is callers (pc + la) [] t) (flow_to (pc + la + lb)) to (flow_place (pc + la + lb) (pc + all) ends)
          (stmts_does ss b.1 (pc + la) t R (omega arith) (omega (arith, len, small)) (has_back is pc a_code b_code h)))))
