-- Code one after the other, and what each kind of statement does beside the program.
use Rattle.std.proofs.Common.{◌≡◌, ℕ, zero, suc, ◌<◌, Bool, true, false, not, List, [], ◌∷◌, ◌++◌, length, Option, Some, None, refl, sym, ap, ◌∙◌, subst}
use Rattle.std.proofs.lemmas.List.{get_or-set_same}
use Rattle.std.specs.Prelude.{slice_index, slice_set, set, eqb}
use Rattle.gc0_base.specs.declared.place.Place.{Place}
use Rattle.gc0_base.specs.declared.site.Site.{Site}
use Rattle.gc0_base.specs.declared.site.Decision.{Decision}
use Rattle.gc0_base.specs.declared.site.TrapKind.{TrapKind}
use Rattle.gc0_base.specs.declared.site.Kind.TheVariants as kind
use Rattle.gc0_base.specs.Words.{word_less}
use Rattle.gc0_tree.specs.declared.ExprOp.{ExprOp}
use Rattle.gc0_tree.specs.declared.ExprOp.TheVariants as op
use Rattle.gc0_tree.specs.Tree.{Formula, Program}
use Rattle.gc0_tree.specs.Sites.{Places}
use Rattle.c0_meaning.specs.Operators.{truth_word, binary_word, fault_of, pick}
use Rattle.c0_meaning.specs.Heaps.{Cell, Cells, owns}
use Rattle.c0_meaning.specs.Holds.{holds}
use Rattle.c0_meaning.specs.Runs.{State, Out, Next, Run, go_on, chain, give, end, get, change, take_step}
use Rattle.c0_meaning.specs.Running.{start_of, or_stop, decide, owned_or_stop, access, or_fault, apply}
use Rattle.core_tree.specs.declared.Simple.{Simple}
use Rattle.core_tree.specs.declared.Simple.TheVariants as simple
use Rattle.core_tree.specs.CoreTree.{do_step, do_if, Code, no_code, code_and, CoreFunction, Core}
use Rattle.core_meaning.specs.CoreRuns as core
use Rattle.core_meaning.specs.CoreRuns.{Outcomes, Visit, CoreState}
use Rattle.core_meaning.specs.CoreRunning as cored
use Rattle.core_meaning.specs.CoreRunning.{Flow, On, Back, word_of, core_exec, core_exec_all, consume, mark}
use Rattle.lowering_laws.specs.Trees.{join, one, operator_code}
use Rattle.lowering_laws.proofs.Agree.{More, beside, sites_in, Agree, agree_bind, agree_then, pick_agree, one_visit}

-- the program's run F and the core's run G in states that fit

pub word_same : (v : Simple) (t t' : CoreState) → t.words ≡ t'.words → word_of v t ≡ word_of v t'
word_same (simple.Const x) t t' h = refl
word_same (simple.Local i) t t' h = ap (λ ws. slice_index ws i) h

-- a set slot is set again
set_twice : {A : Type 0} (xs : List A) (i : ℕ) (x y : A) → set (set xs i x) i y ≡ set xs i y
set_twice [] i x y = refl
set_twice (z ∷ xs) zero x y = refl
set_twice (z ∷ xs) (suc i) x y = ap (λ l. z ∷ l) (set_twice xs i x y)

flip_is : (b : Bool) → truth_word (eqb (truth_word b) 0) ≡ truth_word (not b)
flip_is true = refl
flip_is false = refl

-- ---- decisions
module _ (p : Program) (c : Core) (predicates : c.predicates ≡ p.predicates) where
  stop_by : {A B : Type 0} (Q : A → State → B → More → Type 0) (site : Site) (formula : Formula) (all : Cells) (o : Option Cells) (s : State) (t : CoreState) (F : Cells → Run A) (G : Cells → core.Run B) →
      s.output ≡ t.output → s.sites ≡ sites_in t.visits → ((start : Cells) → Agree Q (F start s) (G start t)) → Agree Q (go_on (or_stop site formula all o s) F) (core.go_on (cored.or_stop site formula all o t) G)
  unfolding give end core.give core.end
  stop_by Q site formula all None s t F G out sites h = (refl, out, sites)
  stop_by Q site formula all (Some foot) s t F G out sites h = h (start_of formula foot all)

  pub decide_then : {A B : Type 0} (Q : A → State → B → More → Type 0) (site : Site) (formula : Formula) (outer : Cells) (words : List ℕ) (s : State) (e : More) (F : Cells → Run A) (G : Cells → core.Run B) → s.sites ≡ sites_in e.visits →
      ((start : Cells) (vs : List Visit) → s.sites ++ site ∷ [] ≡ sites_in vs → Agree Q (F start record s { sites = s.sites ++ site ∷ [] }) (G start (beside (record s { sites = s.sites ++ site ∷ [] }) (record e { visits = vs })))) →
      Agree Q (go_on (decide p site formula outer words s) F) (core.go_on (cored.decide c site formula outer words (beside s e)) G)
  unfolding chain get change decide core.chain core.get core.change cored.decide
  decide_then Q site formula outer words s e F G sites h =
      let v : Visit = record { site = site; outcomes = e.outcomes; words = words; heap = s.heap; owned = s.owned } in
      let vs : List Visit = e.visits ++ v ∷ [] in
      let s1 : State = record s { sites = s.sites ++ site ∷ [] } in
      let t1 : CoreState = beside s1 (record e { visits = vs }) in
      let seen : s.sites ++ site ∷ [] ≡ sites_in vs = one_visit s.sites e.visits site v refl sites in
      subst (λ ps. Agree Q (go_on (or_stop site formula (outer ++ s.owned) (holds p.predicates formula words s.heap s.owned) s1) F) (core.go_on (cored.or_stop site formula (outer ++ s.owned) (holds ps formula words s.heap s.owned) t1) G)) (sym predicates)
      (stop_by Q site formula (outer ++ s.owned) (holds p.predicates formula words s.heap s.owned) s1 t1 F G refl seen (λ start. h start vs seen))

  pub consume_then : {A B : Type 0} (Q : A → State → B → More → Type 0) (site : Site) (formula : Formula) (outer : Cells) (words : List ℕ) (s : State) (e : More) (F : Cells → Run A) (G : Cells → core.Run B) → s.sites ≡ sites_in e.visits →
      ((start : Cells) (os : Outcomes) (vs : List Visit) → s.sites ++ site ∷ [] ≡ sites_in vs → Agree Q (F start record s { sites = s.sites ++ site ∷ [] }) (G start (beside (record s { sites = s.sites ++ site ∷ [] }) (record e { outcomes = os; visits = vs })))) →
      Agree Q (go_on (decide p site formula outer words s) F) (core.go_on (consume c site formula outer words (beside s e)) G)
  unfolding core.chain core.change mark
  consume_then Q site formula outer words s e F G sites h =
      decide_then Q site formula outer words s (record e { outcomes = _ }) F G sites (λ start vs seen. h start _ vs seen)

-- ---- accesses
owned_by : {A B : Type 0} (Q : A → State → B → More → Type 0) (site : Site) (o : Bool) (s : State) (t : CoreState) (F : Run A) (G : core.Run B) → s.output ≡ t.output → s.sites ≡ sites_in t.visits → Agree Q (F s) (G t) →
    Agree Q (go_on (owned_or_stop site o s) (λ _. F)) (core.go_on (cored.owned_or_stop site o t) (λ _. G))
unfolding give end core.give core.end
owned_by Q site true s t F G out sites h = h
owned_by Q site false s t F G out sites h = (refl, out, sites)

pub access_then : {A B : Type 0} (Q : A → State → B → More → Type 0) (site : Site) (base field : ℕ) (s : State) (e : More) (F : Cell → Run A) (G : Cell → core.Run B) → s.sites ≡ sites_in e.visits →
    ((d : Cell) (vs : List Visit) → s.sites ++ site ∷ [] ≡ sites_in vs → Agree Q (F d record s { sites = s.sites ++ site ∷ [] }) (G d (beside (record s { sites = s.sites ++ site ∷ [] }) (record e { visits = vs })))) →
    Agree Q (go_on (access site base field s) F) (core.go_on (cored.access site base field (beside s e)) G)
unfolding chain give end get change access core.chain core.give core.end core.get core.change cored.access
access_then Q site zero field s e F G sites h = (refl, refl, sites)
access_then Q site (suc n) field s e F G sites h =
    let d : Cell = record { object = suc n; field = field } in
    let v : Visit = record { site = site; outcomes = e.outcomes; words = suc n ∷ field ∷ []; heap = s.heap; owned = s.owned } in
    let vs : List Visit = e.visits ++ v ∷ [] in
    let s1 : State = record s { sites = s.sites ++ site ∷ [] } in
    let t1 : CoreState = beside s1 (record e { visits = vs }) in
    let seen : s.sites ++ site ∷ [] ≡ sites_in vs = one_visit s.sites e.visits site v refl sites in
    by_owner (owns s.owned d) s1 t1 refl seen (h d vs seen)
  where
    by_owner : (o : Bool) (s1 : State) (t1 : CoreState) → s1.output ≡ t1.output → s1.sites ≡ sites_in t1.visits → Agree Q (F record { object = suc n; field = field } s1) (G record { object = suc n; field = field } t1) →
        Agree Q (go_on (go_on (owned_or_stop site o s1) (λ _ s2. Next record { object = suc n; field = field } s2)) F) (core.go_on (core.go_on (cored.owned_or_stop site o t1) (λ _ t2. core.Next record { object = suc n; field = field } t2)) G)
    by_owner true s1 t1 out sites1 k = k
    by_owner false s1 t1 out sites1 k = (refl, out, sites1)

-- ---- code
module _ (c : Core) (f : CoreFunction) (go : cored.Calls) where
  abbrev pub runs : Code → core.Run Flow
  runs = core_exec_all c f go

  join_by : (o : core.Out Flow) (f g h : core.Run Flow) → ((t : CoreState) → h t ≡ core.go_on (f t) (λ fl. cored.unless_back fl g)) →
      core.go_on o (λ fl. cored.unless_back fl h) ≡ core.go_on (core.go_on o (λ fl. cored.unless_back fl f)) (λ fl. cored.unless_back fl g)
  unfolding core.give
  join_by (core.Next On t) f g h e = e t
  join_by (core.Next (Back site v) t) f g h e = refl
  join_by (core.Ends x t) f g h e = refl

  pub join_is : (a b : Code) (t : CoreState) → runs (join a b) t ≡ core.go_on (runs a t) (λ fl. cored.unless_back fl (runs b))
  unfolding core.chain core.give
  join_is no_code b t = refl
  join_is (code_and a d) b t = join_by (core_exec c f go a t) (runs d) (runs b) (runs (join d b)) (join_is d b)

  pub nothing : (o : core.Out Flow) → core.go_on o (λ fl. cored.unless_back fl (core.give On)) ≡ o
  unfolding core.give
  nothing (core.Next On t) = refl
  nothing (core.Next (Back site v) t) = refl
  nothing (core.Ends x t) = refl

  -- behind code that goes on: more code, beside what follows in the program
  pub then_code : {A D : Type 0} (R : A → State → Flow → More → Type 0) (Q : D → State → Flow → More → Type 0) (o : Out A) (a rest : Code) (F : A → Run D) (t : CoreState) →
      Agree R o (runs a t) → ((x : A) (s : State) (fl : Flow) (e : More) → R x s fl e → (fl ≡ On) × Agree Q (F x s) (runs rest (beside s e))) → Agree Q (go_on o F) (runs (join a rest) t)
  then_code R Q o a rest F t h k =
      subst (λ q. Agree Q (go_on o F) q) (sym (join_is a rest t))
      (agree_bind R Q o (runs a t) F (λ fl. cored.unless_back fl (runs rest)) h
      (λ x s fl e g. let u = k x s fl e g in subst (λ fl. Agree Q (F x s) (cored.unless_back fl (runs rest) (beside s e))) (sym u.0) u.1))

  -- the same where nothing follows in the program
  pub then_last : {A : Type 0} (R : A → State → Flow → More → Type 0) (Q : A → State → Flow → More → Type 0) (o : Out A) (a rest : Code) (t : CoreState) →
      Agree R o (runs a t) → ((x : A) (s : State) (fl : Flow) (e : More) → R x s fl e → (fl ≡ On) × Agree Q (Next x s) (runs rest (beside s e))) → Agree Q o (runs (join a rest) t)
  then_last R Q o a rest t h k =
      subst (λ q. Agree Q o q) (sym (join_is a rest t))
      (agree_then R Q o (runs a t) (λ fl. cored.unless_back fl (runs rest)) h
      (λ x s fl e g. let u = k x s fl e g in subst (λ fl. Agree Q (Next x s) (cored.unless_back fl (runs rest) (beside s e))) (sym u.0) u.1))

  step_by : {A : Type 0} (Q : A → State → Flow → More → Type 0) (n : ℕ) (s : State) (t : CoreState) (F : Run A) (rest : Code) → s.output ≡ t.output → s.sites ≡ sites_in t.visits →
      ((i : ℕ) → n ≡ suc i → Agree Q (F record s { steps = i }) (runs rest record t { steps = i })) →
      Agree Q (go_on (take_step n s) (λ _. F)) (core.go_on (core.go_on (core.take_step n t) (λ _. core.give On)) (λ fl. cored.unless_back fl (runs rest)))
  unfolding core.give
  step_by Q zero s t F rest out sites h = (refl, out, sites)
  step_by Q (suc n) s t F rest out sites h = h n refl

  -- a step on both sides
  pub step_code : {A : Type 0} (Q : A → State → Flow → More → Type 0) (s : State) (e : More) (F : Run A) (rest : Code) → s.sites ≡ sites_in e.visits →
      ((i : ℕ) → s.steps ≡ suc i → Agree Q (F record s { steps = i }) (runs rest (beside (record s { steps = i }) e))) →
      Agree Q (go_on (take_step s.steps s) (λ _. F)) (runs (code_and do_step rest) (beside s e))
  unfolding core.chain
  step_code Q s e F rest sites h = step_by Q s.steps s (beside s e) F rest refl sites h

  -- a branch on both sides
  pub branch_code : {A : Type 0} (Q : A → State → Flow → More → Type 0) (x : ℕ) (F0 F1 : Run A) (d : Decision) (v : Simple) (these those : Code) (s : State) (e : More) → word_of v (beside s e) ≡ x →
      ((os : Outcomes) → Agree Q (F0 s) (runs those (beside s (record e { outcomes = os })))) → ((os : Outcomes) → Agree Q (F1 s) (runs these (beside s (record e { outcomes = os })))) →
      Agree Q (pick x F0 F1 s) (runs (one (do_if d v these those)) (beside s e))
  unfolding core.chain core.give core.get core.change
  branch_code Q x F0 F1 d v these those s e is h k =
      let y : ℕ = word_of v (beside s e) in
      let os : Outcomes = slice_set e.outcomes d.number (Some (not (eqb y 0))) in
      let t : CoreState = beside s (record e { outcomes = os }) in
      subst (λ x. Agree Q (pick x F0 F1 s) (runs (one (do_if d v these those)) (beside s e))) is
      (subst (λ q. Agree Q (pick y F0 F1 s) q) (sym (nothing (pick y (runs those) (runs these) t)))
      (pick_agree Q y F0 F1 (runs those) (runs these) s t (h os) (k os)))

  fault_by : (Q : ℕ → State → Flow → More → Type 0) (fault : TrapKind) (site : Site) (to : ℕ) (o : Option ℕ) (s : State) (e : More) → s.sites ≡ sites_in e.visits →
      ((z : ℕ) → Q z s On (record e { words = slice_set e.words to z })) →
      Agree Q (or_fault fault site o s) (core.go_on (core.go_on (cored.or_fault fault (Some site) o (beside s e)) (cored.put to)) (λ fl. cored.unless_back fl (core.give On)))
  unfolding chain give end core.chain core.give core.end core.change
  fault_by Q fault site to None s e sites h = (refl, refl, sites)
  fault_by Q fault site to (Some z) s e sites h = (refl, h z)

  -- an operator
  pub operator_agrees : (Q : ℕ → State → Flow → More → Type 0) (at : Places) (place : Place) (o : ExprOp) (to : ℕ) (a b : Simple) (s : State) (e : More) → s.sites ≡ sites_in e.visits → to < length e.words →
      ((z : ℕ) → Q z s On (record e { words = slice_set e.words to z })) →
      Agree Q (apply at place o (word_of a (beside s e)) (word_of b (beside s e)) s) (runs (operator_code to o (at kind.Trap place) a b) (beside s e))
  unfolding chain give end core.chain core.give core.end core.get core.change
  operator_agrees Q at place op.Add to a b s e sites lt h = (refl, h _)
  operator_agrees Q at place op.Sub to a b s e sites lt h = (refl, h _)
  operator_agrees Q at place op.Mul to a b s e sites lt h = (refl, h _)
  operator_agrees Q at place op.Div to a b s e sites lt h = fault_by Q (fault_of op.Div) (at kind.Trap place) to (binary_word op.Div (word_of a (beside s e)) (word_of b (beside s e))) s e sites h
  operator_agrees Q at place op.Rem to a b s e sites lt h = fault_by Q (fault_of op.Rem) (at kind.Trap place) to (binary_word op.Rem (word_of a (beside s e)) (word_of b (beside s e))) s e sites h
  operator_agrees Q at place op.Shl to a b s e sites lt h = fault_by Q (fault_of op.Shl) (at kind.Trap place) to (binary_word op.Shl (word_of a (beside s e)) (word_of b (beside s e))) s e sites h
  operator_agrees Q at place op.Shr to a b s e sites lt h = fault_by Q (fault_of op.Shr) (at kind.Trap place) to (binary_word op.Shr (word_of a (beside s e)) (word_of b (beside s e))) s e sites h
  operator_agrees Q at place op.And to a b s e sites lt h = (refl, h _)
  operator_agrees Q at place op.Or to a b s e sites lt h = (refl, h _)
  operator_agrees Q at place op.Xor to a b s e sites lt h = (refl, h _)
  operator_agrees Q at place op.Less to a b s e sites lt h = (refl, h _)
  operator_agrees Q at place op.LessEq to a b s e sites lt h = (refl, h _)
  operator_agrees Q at place op.Equal to a b s e sites lt h = (refl, h _)
  operator_agrees Q at place op.Greater to a b s e sites lt h = (refl, h _)
  operator_agrees Q at place op.GreaterEq to a b s e sites lt h =
      let t : Bool = word_less (word_of a (beside s e)) (word_of b (beside s e)) in
      let x : ℕ = truth_word t in
      let again : slice_index (slice_set e.words to x) to ≡ x = get_or-set_same e.words to x 0 lt in
      (refl, subst (λ ws. Q (truth_word (not t)) s On (record e { words = ws })) (sym (set_twice e.words to x (truth_word (not t))) ∙ ap (λ y. slice_set (slice_set e.words to x) to y) (sym (ap (λ y. truth_word (eqb y 0)) again ∙ flip_is t))) (h (truth_word (not t))))
  operator_agrees Q at place op.NotEqual to a b s e sites lt h =
      let t : Bool = eqb (word_of a (beside s e)) (word_of b (beside s e)) in
      let x : ℕ = truth_word t in
      let again : slice_index (slice_set e.words to x) to ≡ x = get_or-set_same e.words to x 0 lt in
      (refl, subst (λ ws. Q (truth_word (not t)) s On (record e { words = ws })) (sym (set_twice e.words to x (truth_word (not t))) ∙ ap (λ y. slice_set (slice_set e.words to x) to y) (sym (ap (λ y. truth_word (eqb y 0)) again ∙ flip_is t))) (h (truth_word (not t))))
