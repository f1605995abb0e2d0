-- Calls, and whole runs.
use Rattle.std.proofs.Common.{◌≡◌, ℕ, zero, suc, ◌+◌, ◌-◌, ◌*◌, ◌<◌, ◌≤◌, Bool, true, false, List, [], ◌∷◌, ◌++◌, length, take, drop, reverse, replicate, Option, Some, None, refl, sym, ap, ◌∙◌, subst, arith, length-append}
use Rattle.std.proofs.Math.Nat.{suc-mul, mul-le-mul_left, mul-le-mul_right}
use Rattle.std.specs.Prelude.{slice_get, is_some, if◌then◌else◌}
use Rattle.gc0_base.specs.declared.place.Place.{Place}
use Rattle.gc0_base.specs.declared.site.Kind.TheVariants as kind
use Rattle.gc0_base.specs.declared.site.Ending.TheVariants.{Returned}
use Rattle.gc0_tree.specs.Tree.{Trees, Stmt, return_at, Stmts, no_stmts, stmt_and, Function, Program}
use Rattle.gc0_tree.specs.Sites.{Places, sites_of}
use Rattle.c0_meaning.specs.Heaps.{Cells}
use Rattle.c0_meaning.specs.Runs.{State, Out, Next, Ends, Run, go_on, chain, give, get, change, take_step}
use Rattle.c0_meaning.specs.Running.{Flow, On, Back, decide, before_of, ensured, result_of, return_place, first_of, Calls, eval_all, exec, exec_all, unless_back, called, calls_at, start_site, run, started, seen, meaning}
use Rattle.stack_code.specs.Instrs as instr
use Rattle.stack_code.specs.Instrs.{Instr, Body, Code, instrs_in, size}
use Rattle.stack_code.specs.Machine.{Frame, Machine, entered, after, runs, bound, run_code}
use Rattle.stack_code.specs.Coding.{return_code, stmts_code, body_of, bodies_from, start_check, start_code, code_of}
use Rattle.stack_code.specs.Built.{IsBuiltFormula, Takes, is_return, ends_in_return, IsBuiltFunction, AreBuiltFunctions, IsBuilt}
use Rattle.stack_code.specs.Theorem.{Means}
use Rattle.stack_code.proofs.Budget.{Goes, IfNext, if_next_bind, if_next_any, machine_of, HasAt, has_all, Does, does_after, does_most, does_le, does_bind_if, does_bind, does_one, does_now, from, acts}
use Rattle.stack_code.proofs.Values.{onto, taken, left}
use Rattle.stack_code.proofs.Trees.{CallsDo, check_does}
use Rattle.stack_code.proofs.Stmts.{returning, flow_to, stmts_does}

-- a statement that returned
abbrev pub IsBack : Flow → Type 0
IsBack On = ⊥
IsBack (Back place v) = Unit {0}

-- a body that ends in a return never goes on behind its end
module _ (p : Program) (at : Places) (go : Calls) where
  back_of : (st : Stmt) → is_return st ≡ true → (s : State) → IfNext IsBack (exec p at go st s)
  unfolding chain give
  back_of (return_at place es) b s =
      if_next_bind (λ u. Unit {0}) IsBack (take_step s.steps s) (λ _ t. go_on (eval_all p at go es t) (λ xs u. Next (Back place (first_of xs)) u)) (if_next_any (take_step s.steps s))
      (λ u t h. if_next_bind (λ xs. Unit {0}) IsBack (eval_all p at go es t) (λ xs u. Next (Back place (first_of xs)) u) (if_next_any (eval_all p at go es t)) (λ xs u h. tt))
  back_of st b s = absurd (let f : false ≡ true = b in cc)

  last_back : (flow : Flow) → IsBack flow → (s : State) → IfNext IsBack (unless_back flow (give On) s)
  unfolding give
  last_back On h s = absurd h
  last_back (Back place v) h s = tt

  more_back : (flow : Flow) (m : Run Flow) → ((s : State) → IfNext IsBack (m s)) → (s : State) → IfNext IsBack (unless_back flow m s)
  unfolding give
  more_back On m h s = h s
  more_back (Back place v) m h s = tt

  pub returns_back : (ss : Stmts) → ends_in_return ss ≡ true → (s : State) → IfNext IsBack (exec_all p at go ss s)
  unfolding chain
  returns_back no_stmts b s = absurd (let f : false ≡ true = b in cc)
  returns_back (stmt_and st no_stmts) b s = if_next_bind IsBack IsBack (exec p at go st s) (λ flow. unless_back flow (give On)) (back_of st b s) (λ flow t h. last_back flow h t)
  returns_back (stmt_and st (stmt_and d ds)) b s =
      if_next_bind (λ flow. Unit {0}) IsBack (exec p at go st s) (λ flow. unless_back flow (exec_all p at go (stmt_and d ds))) (if_next_any (exec p at go st s)) (λ flow t h. more_back flow (exec_all p at go (stmt_and d ds)) (returns_back (stmt_and d ds) b) t)

none_some : {A B : Type 0} (x : A) → None ≡ Some x → B
none_some {A} {B} x e = absurd (not_some e)
  where
    not_some : None ≡ Some x → ⊥
    not_some e = cc

same_some : {A : Type 0} (x y : A) → Some x ≡ Some y → x ≡ y
same_some {A} x y e = ap or_else e
  where
    or_else : Option A → A
    or_else None = x
    or_else (Some z) = z

module _ (p : Program) (ok : IsBuilt p) where
  abbrev code : Code
  code = code_of p

  abbrev L : ℕ
  L = size (code_of p)

  bodies_at : (g : ℕ) (fs : List Function) (i : ℕ) (f : Function) → slice_get fs i ≡ Some f → slice_get (bodies_from p g fs) i ≡ Some (body_of p (g + i) f)
  bodies_at g [] i f e = none_some f e
  bodies_at g (h ∷ fs) zero f e = let n : g ≡ g + 0 = omega arith in ap (λ h. Some (body_of p g h)) (same_some h f e) ∙ ap (λ m. Some (body_of p m f)) n
  bodies_at g (h ∷ fs) (suc i) f e = let n : suc g + i ≡ g + suc i = omega arith in bodies_at (suc g) fs i f e ∙ ap (λ m. Some (body_of p m f)) n

  body_at : (g : ℕ) (f : Function) → slice_get p.functions g ≡ Some f → slice_get code.functions g ≡ Some (body_of p g f)
  body_at g f e = let n : 0 + g ≡ g = omega arith in bodies_at 0 p.functions g f e ∙ ap (λ m. Some (body_of p m f)) n

  start_long : 2 ≤ length (start_code p).instrs
  start_long = omega (arith, length-append (start_check (start_site p) (slice_get p.functions p.main)) (instr.call p.main ∷ instr.return ∷ []))

  small_body : (bs : List Body) (i : ℕ) (b : Body) → slice_get bs i ≡ Some b → length b.instrs ≤ instrs_in bs
  small_body [] i b e = none_some b e
  small_body (c ∷ bs) zero b e = let n : length c.instrs ≡ length b.instrs = ap (λ b. length b.instrs) (same_some c b e) in omega arith
  small_body (c ∷ bs) (suc i) b e = omega (arith, small_body bs i b e)

  built_at : (fs : List Function) → AreBuiltFunctions p.functions fs → (i : ℕ) (f : Function) → slice_get fs i ≡ Some f → IsBuiltFunction p.functions f
  built_at [] h i f e = none_some f e
  built_at (g ∷ fs) h zero f e = subst (IsBuiltFunction p.functions) (same_some g f e) h.0
  built_at (g ∷ fs) h (suc i) f e = built_at fs h.1 i f e

  befores : (g : ℕ) → IsBuiltFormula (before_of (slice_get p.functions g))
  befores g = by_case (slice_get p.functions g) refl
    where
      by_case : (o : Option Function) → slice_get p.functions g ≡ o → IsBuiltFormula (before_of o)
      by_case None e = tt
      by_case (Some f) e = (built_at p.functions ok.functions g f e).before

  -- the result among the words that `ensures` speaks of
  with_value : (b : Bool) (v : ℕ) → b ≡ true → v ∷ [] ≡ (if b then v ∷ [] else [])
  with_value b v e = ap (λ c. if c then v ∷ [] else []) (sym e)

  -- the body of a function in a frame of its own, up to where its caller goes on
  body_does : (go : Calls) (most : ℕ) → CallsDo p code refl L go most → (g : ℕ) (f : Function) → slice_get p.functions g ≡ Some f →
      (is : List Instr) (callers : List Frame) (pc : ℕ) (operands : List ℕ) (outer : Cells) (locals : List ℕ) (s : State) (R : ℕ) → s.steps ≤ most →
      Does code L (from code L (stmts_code p f (sites_of g f) 0 f.body) (record { instrs = is; next = pc; operands = operands; locals = locals } ∷ callers) 0 [] s) s.steps (s.steps * L + L + R) R
      (go_on (exec_all p (sites_of g f) go f.body s) (λ flow t. go_on (decide p (sites_of g f kind.Ensures (return_place f flow)) f.after [] (ensured f (result_of flow) t.locals) t) (λ all u. Next (result_of flow) record u { owned = outer ++ u.owned; locals = locals })))
      (λ v. from code L is callers pc (v ∷ operands))
  body_does go most calls g f e is callers pc operands outer locals s R le =
      let at : Places = sites_of g f in
      let own : List Instr = stmts_code p f at 0 f.body in
      let waiting : List Frame = record { instrs = is; next = pc; operands = operands; locals = locals } ∷ callers in
      let built : IsBuiltFunction p.functions f = built_at p.functions ok.functions g f e in
      let small : length own ≤ instrs_in code.functions = small_body code.functions g (body_of p g f) (body_at g f e) in
      let to : ℕ → State → Goes = λ v. from code L is callers pc (v ∷ operands) in
      let rest : Flow → Run ℕ = λ flow t. go_on (decide p (at kind.Ensures (return_place f flow)) f.after [] (ensured f (result_of flow) t.locals) t) (λ all u. Next (result_of flow) record u { owned = outer ++ u.owned; locals = locals }) in
      let flows : Flow → State → Goes = flow_to p code refl L waiting at f own go most calls befores (0 + length own) in
      does_bind_if code L IsBack (exec_all p at go f.body s) rest s.steps (s.steps * L + L + R) (2 + R) R (from code L own waiting 0 [] s) flows to
      (returns_back p at go f.body built.returns s)
      (does_le code L (exec_all p at go f.body s) s.steps (s.steps * L + length own + (2 + R)) (s.steps * L + L + R) (2 + R) (from code L own waiting 0 [] s) flows (omega (arith, small, start_long))
      (stmts_does p code refl L waiting at f own go most calls befores f.body built.body 0 s (2 + R) le (omega (arith, small, start_long)) (has_all own [])))
      (λ flow t back le1. leaves built flow back t)
    where
      leaves : IsBuiltFunction p.functions f → (flow : Flow) → IsBack flow → (t : State) →
          Does code L (flow_to p code refl L (record { instrs = is; next = pc; operands = operands; locals = locals } ∷ callers) (sites_of g f) f (stmts_code p f (sites_of g f) 0 f.body) go most calls befores (0 + length (stmts_code p f (sites_of g f) 0 f.body)) flow t) t.steps (t.steps * L + (2 + R)) R
          (go_on (decide p (sites_of g f kind.Ensures (return_place f flow)) f.after [] (ensured f (result_of flow) t.locals) t) (λ all u. Next (result_of flow) record u { owned = outer ++ u.owned; locals = locals }))
          (λ v. from code L is callers pc (v ∷ operands))
      leaves built On back t = absurd back
      leaves built (Back place v) back t =
          let at : Places = sites_of g f in
          let waiting : List Frame = record { instrs = is; next = pc; operands = operands; locals = locals } ∷ callers in
          let ret : List Instr = return_code f at place in
          let words : List ℕ = ensured f v t.locals in
          let to : ℕ → State → Goes = λ v. from code L is callers pc (v ∷ operands) in
          let after : Cells → Run ℕ = λ all u. Next v record u { owned = outer ++ u.owned; locals = locals } in
          does_bind code L (decide p (at kind.Ensures place) f.after [] words t) after t.steps (t.steps * L + (2 + R)) (1 + R) R (from code L ret waiting 0 (v ∷ []) t) (λ all. from code L ret waiting 1 (v ∷ [])) to
          (does_le code L (decide p (at kind.Ensures place) f.after [] words t) t.steps (t.steps * L + 1 + (1 + R)) (t.steps * L + (2 + R)) (1 + R) (from code L ret waiting 0 (v ∷ []) t) (λ all. from code L ret waiting 1 (v ∷ [])) (omega arith)
          (check_does p code refl L ret waiting (at kind.Ensures place) f.after [] words (instr.with_result f.params) 0 (v ∷ []) t (1 + R) built.after refl (ap (λ l. take f.params t.locals ++ l) (with_value (is_some f.result) v built.has_result))))
          (λ all u le1. let w : State = record u { owned = outer ++ u.owned; locals = locals } in
          does_one code L (Next v w) u.steps (u.steps * L + R) (u.steps * L + (1 + R)) R (from code L ret waiting 1 (v ∷ []) u) (to v w) to (omega arith)
          (acts code L ret waiting 1 (v ∷ []) u instr.return refl)
          (does_now code L v w u.steps R to (omega arith)))

  called_does : (k : ℕ) → CallsDo p code refl L (calls_at k p) k → (g : ℕ) (xs : List ℕ) (start : Cells) (s : State) (R : ℕ) (is : List Instr) (callers : List Frame) (pc : ℕ) (operands : List ℕ) → s.steps < suc k →
      slice_get is pc ≡ Some (instr.call g) → (o : Option Function) → slice_get p.functions g ≡ o → Takes o (length xs) →
      Does code L (from code L is callers pc (onto xs operands) s) s.steps (s.steps * L + (1 + L) + R) R (called p (calls_at k p) g o xs start s) (λ v. from code L is callers (pc + 1) (v ∷ operands))
  unfolding chain give get change
  called_does k calls g xs start s R is callers pc operands lt h None e takes = absurd takes
  called_does k calls g xs start s R is callers pc operands lt h (Some f) e takes =
      let own : List Instr = stmts_code p f (sites_of g f) 0 f.body in
      let locals : List ℕ = xs ++ replicate (length f.locals - length xs) 0 in
      let begins : State = record s { owned = start; locals = locals } in
      let waiting : List Frame = record { instrs = is; next = pc + 1; operands = operands; locals = s.locals } ∷ callers in
      let to : ℕ → State → Goes = λ v. from code L is callers (pc + 1) (v ∷ operands) in
      does_one code L (called p (calls_at k p) g (Some f) xs start s) s.steps (s.steps * L + L + R) (s.steps * L + (1 + L) + R) R (from code L is callers pc (onto xs operands) s) (from code L own waiting 0 [] begins) to (omega arith)
      (λ j. acts code L is callers pc (onto xs operands) s (instr.call g) h j
      ∙ ap (λ o. after (entered (machine_of is callers pc (onto xs operands) s) o) s.output (runs j code)) (body_at g f e)
      ∙ ap (λ args. runs j code (started_as f args (drop f.params (onto xs operands)) (length f.locals - f.params))) (taken xs operands f.params takes)
      ∙ ap (λ rest. runs j code (started_as f xs rest (length f.locals - f.params))) (left xs operands f.params takes)
      ∙ ap (λ n. runs j code (started_as f xs operands (length f.locals - n))) takes)
      (body_does (calls_at k p) k calls g f e is callers (pc + 1) operands s.owned s.locals begins R (omega arith))
    where
      -- the callee's frame with some arguments, over the caller's with some operands
      started_as : (f : Function) (args rest : List ℕ) (n : ℕ) → Machine
      started_as f args rest n = record {
        frame = record { instrs = stmts_code p f (sites_of g f) 0 f.body; next = 0; operands = []; locals = args ++ replicate n 0 };
        callers = record { instrs = is; next = pc + 1; operands = rest; locals = s.locals } ∷ callers;
        input = s.input;
        output = s.output;
        steps = s.steps;
      }

  calls_do : (k : ℕ) → CallsDo p code refl L (calls_at k p) k
  calls_do zero = λ g xs start s R is callers pc operands lt h takes. absurd (omega arith)
  calls_do (suc k) = λ g xs start s R is callers pc operands lt h takes. called_does k (calls_do k) g xs start s R is callers pc operands lt h (slice_get p.functions g) refl takes

  over : (o : Out ℕ) (start : Goes) (most B bound : ℕ) → B ≤ bound → Does code L start most B 0 o (λ v s _. (s.output, Returned record { 0 = v })) → start bound ≡ seen o
  over (Next x s) start most B bound le a = let b = a.1 in a.3 (bound - a.0) bound (omega arith)
  over (Ends e s) start most B bound le a = let b = a.1 in a.2 (bound - a.0) bound (omega arith)

  enough : (n : ℕ) → n * L + (3 + L) + 0 ≤ bound n L
  enough n =
      let X : ℕ = L + 1 in
      let a : n * L ≤ n * X = mul-le-mul_left n (omega arith) in
      let b1 : suc n * X ≡ n * X + X = suc-mul n X in
      let b2 : suc (suc n) * X ≡ suc n * X + X = suc-mul (suc n) X in
      let b3 : suc (suc (suc n)) * X ≡ suc (suc n) * X + X = suc-mul (suc (suc n)) X in
      let b4 : suc (suc (suc (suc n))) * X ≡ suc (suc (suc n)) * X + X = suc-mul (suc (suc (suc n))) X in
      let c : (n + 2) * 2 ≤ (n + 2) * (n + 2) = mul-le-mul_left (n + 2) (omega arith) in
      let d : suc (suc (suc (suc n))) * X ≤ (n + 2) * (n + 2) * X = mul-le-mul_right X (omega arith) in
      omega arith

  -- the result of `main` ends the run
  returns : (begin : List Instr) → slice_get begin 2 ≡ Some instr.return → (o : Out ℕ) (t : State) → Does code L (from code L begin [] 1 [] t) t.steps (t.steps * L + (1 + L + 1)) 1 o (λ v. from code L begin [] 2 (v ∷ [])) →
      Does code L (from code L begin [] 1 [] t) t.steps (t.steps * L + (1 + L + 1)) 0 o (λ v s _. (s.output, Returned record { 0 = v }))
  returns begin at_end (Ends e s) t d = d
  returns begin at_end (Next v s) t d =
      does_after code L (Next v s) d.0 t.steps (t.steps * L + (1 + L + 1)) (s.steps * L + 1) 0 (from code L begin [] 1 [] t) (from code L begin [] 2 (v ∷ []) s) (λ v s _. (s.output, Returned record { 0 = v })) d.3 (omega (arith, d.1))
      (does_one code L (Next v s) t.steps (s.steps * L + 0) (s.steps * L + 1) 0 (from code L begin [] 2 (v ∷ []) s) (λ _. (s.output, Returned record { 0 = v })) (λ v s _. (s.output, Returned record { 0 = v })) (omega arith)
      (acts code L begin [] 2 (v ∷ []) s instr.return at_end)
      (does_most code L (Next v s) s.steps t.steps (s.steps * L + 0) 0 (λ _. (s.output, Returned record { 0 = v })) (λ v s _. (s.output, Returned record { 0 = v })) d.2
      (does_now code L v s s.steps 0 (λ v s _. (s.output, Returned record { 0 = v })) (omega arith))))

  -- a run from its start, where there is a `main` without parameters
  start_does : (o : Option Function) → slice_get p.functions p.main ≡ o → Takes o 0 → (input : List ℕ) (n : ℕ) →
      from code L (start_check (start_site p) o ++ (instr.call p.main ∷ instr.return ∷ [])) [] 0 [] (started input n) (bound n L)
      ≡ seen (go_on (decide p (start_site p) (before_of o) [] [] (started input n)) (λ start. calls_at (suc n) p p.main [] start))
  start_does None e takes input n = absurd takes
  start_does (Some f) e takes input n =
      let s : State = started input n in
      let begin : List Instr = instr.checkwhole (start_site p) f.before instr.locals ∷ instr.call p.main ∷ instr.return ∷ [] in
      let last : ℕ → State → Goes = λ v s _. (s.output, Returned record { 0 = v }) in
      let go : Cells → Run ℕ = λ start. calls_at (suc n) p p.main [] start in
      let built : IsBuiltFormula f.before = subst (λ o. IsBuiltFormula (before_of o)) e (befores p.main) in
      over (go_on (decide p (start_site p) f.before [] [] s) go) (from code L begin [] 0 [] s) n (n * L + (3 + L) + 0) (bound n L) (enough n)
      (does_bind code L (decide p (start_site p) f.before [] [] s) go n (n * L + (3 + L) + 0) (1 + L + 1) 0 (from code L begin [] 0 [] s) (λ start. from code L begin [] 1 []) last
      (does_le code L (decide p (start_site p) f.before [] [] s) n (n * L + 1 + (1 + L + 1)) (n * L + (3 + L) + 0) (1 + L + 1) (from code L begin [] 0 [] s) (λ start. from code L begin [] 1 []) (omega arith)
      (check_does p code refl L begin [] (start_site p) f.before [] [] instr.locals 0 [] s (1 + L + 1) built refl refl))
      (λ start t le. returns begin refl (go start t) t (does_le code L (go start t) t.steps (t.steps * L + (1 + L) + 1) (t.steps * L + (1 + L + 1)) 1 (from code L begin [] 1 [] t) (λ v. from code L begin [] 2 (v ∷ [])) (omega arith)
      (calls_do (suc n) p.main [] start t 1 begin [] 1 [] (omega arith) refl ok.main))))

  run_does : (input : List ℕ) (n : ℕ) → run_code code input n ≡ meaning p input n
  unfolding chain
  run_does input n = start_does (slice_get p.functions p.main) refl ok.main input n

pub means : (p : Program) → IsBuilt p → Means (code_of p) p
means p ok input n = run_does p ok input n
