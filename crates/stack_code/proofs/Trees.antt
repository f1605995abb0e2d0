-- The code of an expression leaves its value on the operands.
use Rattle.std.proofs.Common.{◌≡◌, ℕ, zero, suc, ◌+◌, ◌*◌, ◌<◌, ◌≤◌, Bool, true, false, not, List, [], ◌∷◌, ◌++◌, length, take, reverse, Option, Some, None, refl, sym, ap, ◌∙◌, subst, arith, length-append}
use Rattle.std.specs.Prelude.{slice_get, slice_index, eqb, is_some}
use Rattle.gc0_base.specs.declared.place.Place.{Place}
use Rattle.gc0_base.specs.declared.site.Site.{Site}
use Rattle.gc0_base.specs.declared.site.Kind.TheVariants as kind
use Rattle.gc0_base.specs.declared.site.Ending.TheVariants.{Stop}
use Rattle.gc0_base.specs.Words.{word_sum, word_difference, word_product, word_negation, word_less}
use Rattle.gc0_tree.specs.declared.UnaryOp.{UnaryOp}
use Rattle.gc0_tree.specs.declared.UnaryOp.TheVariants as unary
use Rattle.gc0_tree.specs.declared.ExprOp.{ExprOp}
use Rattle.gc0_tree.specs.declared.ExprOp.TheVariants as op
use Rattle.gc0_tree.specs.Tree.{Tree, number_at, truth_at, local_at, unary_at, binary_at, call_at, Trees, no_trees, tree_and, Formula, Function, Program}
use Rattle.gc0_tree.specs.Sites.{Places}
use Rattle.c0_meaning.specs.Operators.{truth_word, unary_word, binary_word}
use Rattle.c0_meaning.specs.Heaps.{Cells}
use Rattle.c0_meaning.specs.Holds.{holds}
use Rattle.c0_meaning.specs.Runs.{State, Out, Next, Ends, Run, go_on, chain, give, end, get, change, step, take_step}
use Rattle.c0_meaning.specs.Running.{or_stop, start_of, decide, apply, before_of, Calls, eval, eval_all}
use Rattle.stack_code.specs.Instrs as instr
use Rattle.stack_code.specs.Instrs.{Words, Instr, Code}
use Rattle.stack_code.specs.Machine.{Frame, after, checked, does, runs, words_of}
use Rattle.stack_code.specs.Coding.{unary_code, binary_code, callee_check, call_code, tree_code, trees_code}
use Rattle.stack_code.specs.Built.{built_unary, built_binary, IsBuiltFormula, count_of, Takes, IsBuiltTree, AreBuiltTrees}
use Rattle.stack_code.proofs.Budget.{Goes, IfNext, if_next_bind, if_next_any, machine_of, HasAt, has_front, has_back, Does, does_after, does_most, does_to, does_le, does_bind_if, does_bind, does_one, does_now, does_end, from, acts, step_then}
use Rattle.stack_code.proofs.Values.{holds_same, flip_not, flip_is, onto, taken}

module _ (p : Program) (code : Code) (same : code.predicates ≡ p.predicates) (L : ℕ) where
  -- what calls do that begin with fewer steps
  abbrev pub CallsDo : Calls → ℕ → Type 0
  CallsDo go most = (g : ℕ) (xs : List ℕ) (start : Cells) (s : State) (R : ℕ) (is : List Instr) (callers : List Frame) (pc : ℕ) (operands : List ℕ) → s.steps < most →
      slice_get is pc ≡ Some (instr.call g) → Takes (slice_get p.functions g) (length xs) →
      Does code L (from code L is callers pc (onto xs operands) s) s.steps (s.steps * L + (1 + L) + R) R (go g xs start s) (λ v. from code L is callers (pc + 1) (v ∷ operands))

  module _ (is : List Instr) (callers : List Frame) where
    -- what a check does where the formula holds, and where it doesn't
    check_by : (site : Site) (formula : Formula) (outer : Cells) (words : Words) (pc : ℕ) (operands : List ℕ) (s : State) (R : ℕ) (o : Option Cells) →
        ((k : ℕ) → from code L is callers pc operands s (suc k) ≡ after (checked (machine_of is callers pc operands s) site (is_some o)) s.output (runs k code)) →
        Does code L (from code L is callers pc operands s) s.steps (s.steps * L + 1 + R) R (or_stop site formula outer o s) (λ start. from code L is callers (pc + 1) operands)
    unfolding give end
    check_by site formula outer words pc operands s R None h =
        does_end code L (Ends (Stop site) s) s s.steps (s.steps * L + 1 + R) R (from code L is callers pc operands s) (λ (start : Cells). from code L is callers (pc + 1) operands) (Stop site) refl (omega arith) h
    check_by site formula outer words pc operands s R (Some foot) h =
        does_one code L (Next (start_of formula foot outer) s) s.steps (s.steps * L + R) (s.steps * L + 1 + R) R (from code L is callers pc operands s) (from code L is callers (pc + 1) operands s) (λ (start : Cells). from code L is callers (pc + 1) operands) (omega arith) h
        (does_now code L (start_of formula foot outer) s s.steps R (λ (start : Cells). from code L is callers (pc + 1) operands) (omega arith))

    pub check_does : (site : Site) (formula : Formula) (outer : Cells) (values : List ℕ) (words : Words) (pc : ℕ) (operands : List ℕ) (s : State) (R : ℕ) →
        IsBuiltFormula formula → slice_get is pc ≡ Some (instr.checkwhole site formula words) →
        words_of words record { instrs = is; next = pc; operands = operands; locals = s.locals } ≡ values →
        Does code L (from code L is callers pc operands s) s.steps (s.steps * L + 1 + R) R (decide p site formula outer values s) (λ start. from code L is callers (pc + 1) operands)
    unfolding chain get change decide
    check_does site formula outer values words pc operands s R built at e =
        let t : State = record s { sites = s.sites ++ site ∷ [] } in
        check_by site formula (outer ++ t.owned) words pc operands t R (holds p.predicates formula values t.heap t.owned)
        (λ k. acts code L is callers pc operands t (instr.checkwhole site formula words) at k
        ∙ ap (λ o. after (checked (machine_of is callers pc operands t) site (is_some o)) t.output (runs k code))
        (ap (λ ps. holds ps formula (words_of words record { instrs = is; next = pc; operands = operands; locals = t.locals }) [] []) same
        ∙ ap (λ ws. holds p.predicates formula ws [] []) e
        ∙ sym (holds_same p.predicates formula values t.heap t.owned built)))

    -- a value on the operands behind one instruction
    one_value : (v : ℕ) (pc q : ℕ) (before operands : List ℕ) (s : State) (R : ℕ) → pc + 1 ≡ q →
        ((k : ℕ) → from code L is callers pc before s (suc k) ≡ from code L is callers (pc + 1) (v ∷ operands) s k) →
        Does code L (from code L is callers pc before s) s.steps (s.steps * L + 1 + R) R (Next v s) (λ v. from code L is callers q (v ∷ operands))
    one_value v pc q before operands s R e h =
        let to : ℕ → State → Goes = λ v. from code L is callers q (v ∷ operands) in
        does_one code L (Next v s) s.steps (s.steps * L + R) (s.steps * L + 1 + R) R (from code L is callers pc before s) (to v s) to (omega arith)
        (λ k. h k ∙ ap (λ r. from code L is callers r (v ∷ operands) s k) e)
        (does_now code L v s s.steps R to (omega arith))

    -- the opposite of what one instruction gives
    two_values : (v w : ℕ) (pc : ℕ) (before operands : List ℕ) (s : State) (R : ℕ) → truth_word (eqb w 0) ≡ v → slice_get is (pc + 1) ≡ Some instr.flip →
        ((k : ℕ) → from code L is callers pc before s (suc k) ≡ from code L is callers (pc + 1) (w ∷ operands) s k) →
        Does code L (from code L is callers pc before s) s.steps (s.steps * L + 2 + R) R (Next v s) (λ v. from code L is callers (pc + 2) (v ∷ operands))
    two_values v w pc before operands s R e at h =
        let to : ℕ → State → Goes = λ v. from code L is callers (pc + 2) (v ∷ operands) in
        does_one code L (Next v s) s.steps (s.steps * L + 1 + R) (s.steps * L + 2 + R) R (from code L is callers pc before s) (from code L is callers (pc + 1) (w ∷ operands) s) to (omega arith) h
        (one_value v (pc + 1) (pc + 2) (w ∷ operands) operands s R (omega arith) (λ k. acts code L is callers (pc + 1) (w ∷ operands) s instr.flip at k ∙ ap (λ x. from code L is callers (pc + 1 + 1) (x ∷ operands) s k) e))

    binary_does : (at : Places) (place : Place) (o : ExprOp) (x y : ℕ) (pc : ℕ) (operands : List ℕ) (s : State) (R : ℕ) → built_binary o ≡ true → HasAt is pc (binary_code o) →
        Does code L (from code L is callers pc (y ∷ x ∷ operands) s) s.steps (s.steps * L + length (binary_code o) + R) R (apply at place o x y s) (λ v. from code L is callers (pc + length (binary_code o)) (v ∷ operands))
    unfolding give
    binary_does at place op.Add x y pc operands s R b h = one_value (word_sum x y) pc (pc + 1) (y ∷ x ∷ operands) operands s R refl (acts code L is callers pc (y ∷ x ∷ operands) s instr.add h.0)
    binary_does at place op.Sub x y pc operands s R b h = one_value (word_difference x y) pc (pc + 1) (y ∷ x ∷ operands) operands s R refl (acts code L is callers pc (y ∷ x ∷ operands) s instr.sub h.0)
    binary_does at place op.Mul x y pc operands s R b h = one_value (word_product x y) pc (pc + 1) (y ∷ x ∷ operands) operands s R refl (acts code L is callers pc (y ∷ x ∷ operands) s instr.mul h.0)
    binary_does at place op.Less x y pc operands s R b h = one_value (truth_word (word_less x y)) pc (pc + 1) (y ∷ x ∷ operands) operands s R refl (acts code L is callers pc (y ∷ x ∷ operands) s instr.less h.0)
    binary_does at place op.LessEq x y pc operands s R b h = one_value (truth_word (not (word_less y x))) pc (pc + 1) (y ∷ x ∷ operands) operands s R refl (acts code L is callers pc (y ∷ x ∷ operands) s instr.lesseq h.0)
    binary_does at place op.Greater x y pc operands s R b h =
        two_values (truth_word (word_less y x)) (truth_word (not (word_less y x))) pc (y ∷ x ∷ operands) operands s R (flip_not (word_less y x)) h.1.0 (acts code L is callers pc (y ∷ x ∷ operands) s instr.lesseq h.0)
    binary_does at place op.GreaterEq x y pc operands s R b h =
        two_values (truth_word (not (word_less x y))) (truth_word (word_less x y)) pc (y ∷ x ∷ operands) operands s R (flip_is (word_less x y)) h.1.0 (acts code L is callers pc (y ∷ x ∷ operands) s instr.less h.0)
    binary_does at place op.Equal x y pc operands s R b h = one_value (truth_word (eqb x y)) pc (pc + 1) (y ∷ x ∷ operands) operands s R refl (acts code L is callers pc (y ∷ x ∷ operands) s instr.equal h.0)
    binary_does at place op.NotEqual x y pc operands s R b h =
        two_values (truth_word (not (eqb x y))) (truth_word (eqb x y)) pc (y ∷ x ∷ operands) operands s R (flip_is (eqb x y)) h.1.0 (acts code L is callers pc (y ∷ x ∷ operands) s instr.equal h.0)
    binary_does at place o x y pc operands s R b h = absurd (let f : false ≡ true = b in cc)

    unary_does : (o : UnaryOp) (x : ℕ) (pc : ℕ) (operands : List ℕ) (s : State) (R : ℕ) → built_unary o ≡ true → HasAt is pc (unary_code o) →
        Does code L (from code L is callers pc (x ∷ operands) s) s.steps (s.steps * L + length (unary_code o) + R) R (Next (unary_word o x) s) (λ v. from code L is callers (pc + length (unary_code o)) (v ∷ operands))
    unary_does unary.Neg x pc operands s R b h = one_value (word_negation x) pc (pc + 1) (x ∷ operands) operands s R refl (acts code L is callers pc (x ∷ operands) s instr.neg h.0)
    unary_does unary.Flip x pc operands s R b h = one_value (truth_word (eqb x 0)) pc (pc + 1) (x ∷ operands) operands s R refl (acts code L is callers pc (x ∷ operands) s instr.flip h.0)
    unary_does unary.Not x pc operands s R b h = absurd (let f : false ≡ true = b in cc)

    module _ (at : Places) (go : Calls) (most : ℕ) (calls : CallsDo go most) (befores : (g : ℕ) → IsBuiltFormula (before_of (slice_get p.functions g))) where
      -- a list has a value for each expression
      pub has_count : (es : Trees) (s : State) → IfNext (λ xs. length xs ≡ count_of es) (eval_all p at go es s)
      unfolding chain give
      has_count no_trees s = refl
      has_count (tree_and e es) s =
          if_next_bind (λ x. Unit {0}) (λ xs. length xs ≡ count_of (tree_and e es)) (eval p at go e s) (λ x t. go_on (eval_all p at go es t) (λ xs u. Next (x ∷ xs) u)) (if_next_any (eval p at go e s))
          (λ x t u. if_next_bind (λ xs. length xs ≡ count_of es) (λ xs. length xs ≡ count_of (tree_and e es)) (eval_all p at go es t) (λ xs u. Next (x ∷ xs) u) (has_count es t) (λ xs u h. longer x xs h))
        where
          longer : (x : ℕ) (xs : List ℕ) → length xs ≡ count_of es → length (x ∷ xs) ≡ suc (count_of es)
          longer x xs h = ap suc h

      -- behind its arguments: the step, the precondition, the callee
      call_by : (place : Place) (g : ℕ) (o : Option Function) → slice_get p.functions g ≡ o → (xs : List ℕ) (pc : ℕ) (operands : List ℕ) (s : State) (R : ℕ) → s.steps ≤ most → Takes o (length xs) →
          HasAt is pc (instr.step ∷ (callee_check (at kind.Requires place) o ++ instr.call g ∷ [])) →
          Does code L (from code L is callers pc (onto xs operands) s) s.steps (s.steps * L + length (instr.step ∷ (callee_check (at kind.Requires place) o ++ instr.call g ∷ [])) + R) R
          (go_on (take_step s.steps s) (λ _ t. go_on (decide p (at kind.Requires place) (before_of o) [] xs t) (go g xs)))
          (λ v. from code L is callers (pc + length (instr.step ∷ (callee_check (at kind.Requires place) o ++ instr.call g ∷ []))) (v ∷ operands))
      call_by place g None e xs pc operands s R le takes h = absurd takes
      call_by place g (Some f) e xs pc operands s R le takes h =
          let site : Site = at kind.Requires place in
          let formula : Formula = f.before in
          let to : ℕ → State → Goes = λ v. from code L is callers (pc + 3) (v ∷ operands) in
          let built : IsBuiltFormula formula = subst (λ o. IsBuiltFormula (before_of o)) e (befores g) in
          does_le code L (go_on (take_step s.steps s) (λ _ t. go_on (decide p site formula [] xs t) (go g xs))) s.steps (s.steps * L + 1 + (2 + R)) (s.steps * L + 3 + R) R (from code L is callers pc (onto xs operands) s) to (omega arith)
          (step_then code L is callers (λ t. go_on (decide p site formula [] xs t) (go g xs)) s pc (onto xs operands) (2 + R) R to h.0
          (λ t lt. does_bind code L (decide p site formula [] xs t) (go g xs) t.steps (t.steps * L + (2 + R) + L) (1 + L + R) R (from code L is callers (pc + 1) (onto xs operands) t) (λ start. from code L is callers (pc + 1 + 1) (onto xs operands)) to
          (does_le code L (decide p site formula [] xs t) t.steps (t.steps * L + 1 + (1 + L + R)) (t.steps * L + (2 + R) + L) (1 + L + R) (from code L is callers (pc + 1) (onto xs operands) t) (λ start. from code L is callers (pc + 1 + 1) (onto xs operands)) (omega arith)
          (check_does site formula [] xs (instr.arguments f.params) (pc + 1) (onto xs operands) t (1 + L + R) built h.1.0 (taken xs operands f.params takes)))
          (λ start u le2. does_le code L (go g xs start u) u.steps (u.steps * L + (1 + L) + R) (u.steps * L + (1 + L + R)) R (from code L is callers (pc + 1 + 1) (onto xs operands) u) to (omega arith)
          (does_to code L (go g xs start u) u.steps (u.steps * L + (1 + L) + R) R (from code L is callers (pc + 1 + 1) (onto xs operands) u) (λ v. from code L is callers (pc + 1 + 1 + 1) (v ∷ operands)) to (λ v w k. let e : pc + 1 + 1 + 1 ≡ pc + 3 = omega arith in ap (λ r. from code L is callers r (v ∷ operands) w k) e)
          (calls g xs start u R is callers (pc + 1 + 1) operands (omega arith) h.1.1.0 (subst (λ o. Takes o (length xs)) (sym e) takes))))))

      call_does : (place : Place) (g : ℕ) (xs : List ℕ) (pc : ℕ) (operands : List ℕ) (s : State) (R : ℕ) → s.steps ≤ most → Takes (slice_get p.functions g) (length xs) → HasAt is pc (call_code p at place g) →
          Does code L (from code L is callers pc (onto xs operands) s) s.steps (s.steps * L + length (call_code p at place g) + R) R
          (go_on (take_step s.steps s) (λ _ t. go_on (decide p (at kind.Requires place) (before_of (slice_get p.functions g)) [] xs t) (go g xs)))
          (λ v. from code L is callers (pc + length (call_code p at place g)) (v ∷ operands))
      call_does place g xs pc operands s R le takes h = call_by place g (slice_get p.functions g) refl xs pc operands s R le takes h

      mutual
        unfolding chain give get

        pub tree_does : (e : Tree) → IsBuiltTree p.functions e → (pc : ℕ) (operands : List ℕ) (s : State) (R : ℕ) → s.steps ≤ most → HasAt is pc (tree_code p at e) →
            Does code L (from code L is callers pc operands s) s.steps (s.steps * L + length (tree_code p at e) + R) R (eval p at go e s) (λ v. from code L is callers (pc + length (tree_code p at e)) (v ∷ operands))
        tree_does (number_at place n) b pc operands s R le h = one_value n pc (pc + 1) operands operands s R refl (acts code L is callers pc operands s (instr.push n) h.0)
        tree_does (truth_at place t) b pc operands s R le h = one_value (truth_word t) pc (pc + 1) operands operands s R refl (acts code L is callers pc operands s (instr.push (truth_word t)) h.0)
        tree_does (local_at place i) b pc operands s R le h = one_value (slice_index s.locals i) pc (pc + 1) operands operands s R refl (acts code L is callers pc operands s (instr.load i) h.0)
        tree_does (unary_at place o a) b pc operands s R le h =
            let la : ℕ = length (tree_code p at a) in
            let lo : ℕ = length (unary_code o) in
            let all : ℕ = length (tree_code p at (unary_at place o a)) in
            let len : all ≡ la + lo = length-append (tree_code p at a) (unary_code o) in
            let to : ℕ → State → Goes = λ v. from code L is callers (pc + all) (v ∷ operands) in
            does_bind code L (eval p at go a s) (λ x t. Next (unary_word o x) t) s.steps (s.steps * L + all + R) (lo + R) R (from code L is callers pc operands s) (λ v. from code L is callers (pc + la) (v ∷ operands)) to
            (does_le code L (eval p at go a s) s.steps (s.steps * L + la + (lo + R)) (s.steps * L + all + R) (lo + R) (from code L is callers pc operands s) (λ v. from code L is callers (pc + la) (v ∷ operands)) (omega (arith, len))
            (tree_does a b.1 pc operands s (lo + R) le (has_front is pc (tree_code p at a) (unary_code o) h)))
            (λ x t le1. does_le code L (Next (unary_word o x) t) t.steps (t.steps * L + lo + R) (t.steps * L + (lo + R)) R (from code L is callers (pc + la) (x ∷ operands) t) to (omega arith)
            (does_to code L (Next (unary_word o x) t) t.steps (t.steps * L + lo + R) R (from code L is callers (pc + la) (x ∷ operands) t) (λ v. from code L is callers (pc + la + lo) (v ∷ operands)) to (λ v u k. let e : pc + la + lo ≡ pc + all = omega (arith, len) in ap (λ r. from code L is callers r (v ∷ operands) u k) e)
            (unary_does o x (pc + la) operands t R b.0 (has_back is pc (tree_code p at a) (unary_code o) h))))
        tree_does (binary_at place o x y) b pc operands s R le h =
            let la : ℕ = length (tree_code p at x) in
            let lb : ℕ = length (tree_code p at y) in
            let lo : ℕ = length (binary_code o) in
            let all : ℕ = length (tree_code p at (binary_at place o x y)) in
            let len : all ≡ la + (lb + lo) = length-append (tree_code p at x) (tree_code p at y ++ binary_code o) ∙ ap (λ n. la + n) (length-append (tree_code p at y) (binary_code o)) in
            let to : ℕ → State → Goes = λ v. from code L is callers (pc + all) (v ∷ operands) in
            let behind = has_back is pc (tree_code p at x) (tree_code p at y ++ binary_code o) h in
            does_bind code L (eval p at go x s) (λ v t. go_on (eval p at go y t) (λ w. apply at place o v w)) s.steps (s.steps * L + all + R) (lb + (lo + R)) R (from code L is callers pc operands s) (λ v. from code L is callers (pc + la) (v ∷ operands)) to
            (does_le code L (eval p at go x s) s.steps (s.steps * L + la + (lb + (lo + R))) (s.steps * L + all + R) (lb + (lo + R)) (from code L is callers pc operands s) (λ v. from code L is callers (pc + la) (v ∷ operands)) (omega (arith, len))
            (tree_does x b.1 pc operands s (lb + (lo + R)) le (has_front is pc (tree_code p at x) (tree_code p at y ++ binary_code o) h)))
            (λ v t le1. does_bind code L (eval p at go y t) (λ w. apply at place o v w) t.steps (t.steps * L + (lb + (lo + R))) (lo + R) R (from code L is callers (pc + la) (v ∷ operands) t) (λ w. from code L is callers (pc + la + lb) (w ∷ v ∷ operands)) to
            (does_le code L (eval p at go y t) t.steps (t.steps * L + lb + (lo + R)) (t.steps * L + (lb + (lo + R))) (lo + R) (from code L is callers (pc + la) (v ∷ operands) t) (λ w. from code L is callers (pc + la + lb) (w ∷ v ∷ operands)) (omega arith)
            (tree_does y b.2 (pc + la) (v ∷ operands) t (lo + R) (omega arith) (has_front is (pc + la) (tree_code p at y) (binary_code o) behind)))
            (λ w u le2. does_le code L (apply at place o v w u) u.steps (u.steps * L + lo + R) (u.steps * L + (lo + R)) R (from code L is callers (pc + la + lb) (w ∷ v ∷ operands) u) to (omega arith)
            (does_to code L (apply at place o v w u) u.steps (u.steps * L + lo + R) R (from code L is callers (pc + la + lb) (w ∷ v ∷ operands) u) (λ v. from code L is callers (pc + la + lb + lo) (v ∷ operands)) to (λ v w k. let e : pc + la + lb + lo ≡ pc + all = omega (arith, len) in ap (λ r. from code L is callers r (v ∷ operands) w k) e)
            (binary_does at place o v w (pc + la + lb) operands u R b.0 (has_back is (pc + la) (tree_code p at y) (binary_code o) behind)))))
        tree_does (call_at place g es) b pc operands s R le h =
            let la : ℕ = length (trees_code p at es) in
            let lc : ℕ = length (call_code p at place g) in
            let all : ℕ = length (tree_code p at (call_at place g es)) in
            let len : all ≡ la + lc = length-append (trees_code p at es) (call_code p at place g) in
            let to : ℕ → State → Goes = λ v. from code L is callers (pc + all) (v ∷ operands) in
            let rest : List ℕ → Run ℕ = λ xs t. go_on (take_step t.steps t) (λ _ t. go_on (decide p (at kind.Requires place) (before_of (slice_get p.functions g)) [] xs t) (go g xs)) in
            does_bind_if code L (λ xs. length xs ≡ count_of es) (eval_all p at go es s) rest s.steps (s.steps * L + all + R) (lc + R) R (from code L is callers pc operands s) (λ xs. from code L is callers (pc + la) (onto xs operands)) to
            (has_count es s)
            (does_le code L (eval_all p at go es s) s.steps (s.steps * L + la + (lc + R)) (s.steps * L + all + R) (lc + R) (from code L is callers pc operands s) (λ xs. from code L is callers (pc + la) (onto xs operands)) (omega (arith, len))
            (trees_does es b.1 pc operands s (lc + R) le (has_front is pc (trees_code p at es) (call_code p at place g) h)))
            (λ xs t n le1. does_le code L (rest xs t) t.steps (t.steps * L + lc + R) (t.steps * L + (lc + R)) R (from code L is callers (pc + la) (onto xs operands) t) to (omega arith)
            (does_to code L (rest xs t) t.steps (t.steps * L + lc + R) R (from code L is callers (pc + la) (onto xs operands) t) (λ v. from code L is callers (pc + la + lc) (v ∷ operands)) to (λ v w k. let e : pc + la + lc ≡ pc + all = omega (arith, len) in ap (λ r. from code L is callers r (v ∷ operands) w k) e)
            (call_does place g xs (pc + la) operands t R (omega arith) (subst (Takes (slice_get p.functions g)) (sym n) b.0) (has_back is pc (trees_code p at es) (call_code p at place g) h))))
        tree_does e b pc operands s R le h = absurd b

        pub trees_does : (es : Trees) → AreBuiltTrees p.functions es → (pc : ℕ) (operands : List ℕ) (s : State) (R : ℕ) → s.steps ≤ most → HasAt is pc (trees_code p at es) →
            Does code L (from code L is callers pc operands s) s.steps (s.steps * L + length (trees_code p at es) + R) R (eval_all p at go es s) (λ xs. from code L is callers (pc + length (trees_code p at es)) (onto xs operands))
        trees_does no_trees b pc operands s R le h =
            let to : List ℕ → State → Goes = λ xs. from code L is callers (pc + 0) (onto xs operands) in
            let e : pc ≡ pc + 0 = omega arith in
            does_after code L (Next [] s) 0 s.steps (s.steps * L + 0 + R) (s.steps * L + R) R (from code L is callers pc operands s) (to [] s) to (λ k j f. let g : j ≡ k = omega arith in ap (λ n. from code L is callers pc operands s n) g ∙ ap (λ r. from code L is callers r operands s k) e) (omega arith)
            (does_now code L [] s s.steps R to (omega arith))
        trees_does (tree_and e es) b pc operands s R le h =
            let la : ℕ = length (tree_code p at e) in
            let lb : ℕ = length (trees_code p at es) in
            let all : ℕ = length (trees_code p at (tree_and e es)) in
            let len : all ≡ la + lb = length-append (tree_code p at e) (trees_code p at es) in
            let to : List ℕ → State → Goes = λ xs. from code L is callers (pc + all) (onto xs operands) in
            does_bind code L (eval p at go e s) (λ x t. go_on (eval_all p at go es t) (λ xs u. Next (x ∷ xs) u)) s.steps (s.steps * L + all + R) (lb + R) R (from code L is callers pc operands s) (λ v. from code L is callers (pc + la) (v ∷ operands)) to
            (does_le code L (eval p at go e s) s.steps (s.steps * L + la + (lb + R)) (s.steps * L + all + R) (lb + R) (from code L is callers pc operands s) (λ v. from code L is callers (pc + la) (v ∷ operands)) (omega (arith, len))
            (tree_does e b.0 pc operands s (lb + R) le (has_front is pc (tree_code p at e) (trees_code p at es) h)))
            (λ x t le1. does_bind code L (eval_all p at go es t) (λ xs u. Next (x ∷ xs) u) t.steps (t.steps * L + (lb + R)) R R (from code L is callers (pc + la) (x ∷ operands) t) (λ xs. from code L is callers (pc + la + lb) (onto xs (x ∷ operands))) to
            (does_le code L (eval_all p at go es t) t.steps (t.steps * L + lb + R) (t.steps * L + (lb + R)) R (from code L is callers (pc + la) (x ∷ operands) t) (λ xs. from code L is callers (pc + la + lb) (onto xs (x ∷ operands))) (omega arith)
            (trees_does es b.1 (pc + la) (x ∷ operands) t R (omega arith) (has_back is pc (tree_code p at e) (trees_code p at es) h)))
            (λ xs u le2.
            let e : pc + la + lb ≡ pc + all = omega (arith, len) in
            does_after code L (Next (x ∷ xs) u) 0 u.steps (u.steps * L + R) (u.steps * L + R) R (from code L is callers (pc + la + lb) (onto xs (x ∷ operands)) u) (to (x ∷ xs) u) to (λ k j f. let g : j ≡ k = omega arith in ap (λ n. from code L is callers (pc + la + lb) (onto xs (x ∷ operands)) u n) g ∙ ap (λ r. from code L is callers r (onto xs (x ∷ operands)) u k) e) (omega arith)
            (does_now code L (x ∷ xs) u u.steps R to (omega arith))))
