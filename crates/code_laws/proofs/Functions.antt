-- The code of a function does what a call of it does.
use Rattle.std.proofs.Common.{◌≡◌, ℕ, zero, suc, ◌+◌, ◌-◌, ◌≤◌, Bool, true, false, List, [], ◌∷◌, ◌++◌, length, take, replicate, Some, None, is_some, if◌then◌else◌, slice_get, refl, sym, ap, ◌∙◌, subst, arith}
use Rattle.core_tree.specs.declared.Phase.TheVariants.{Produce}
use Rattle.core_tree.specs.CoreTree.{CoreFunction, Core}
use Rattle.core_meaning.specs.CoreRunning.{Flow, On, Back, first_words, start_at}
use Rattle.core_meaning.specs.CoreFits.{core_params, CodeFits}
use Rattle.core_meaning.specs.CoreSited.{code_sited}
use Rattle.core_meaning.specs.Stepped.{code_stepped, code_ends, code_tests, code_returns}
use Rattle.core_checks.specs.Placements.{Placement}
use Rattle.watched_core.specs.WatchRuns.{WatchState, Out, Next, Ends, Run, go_on, chain, give, get, change}
use Rattle.watched_core.specs.Watching.{Calls, consume, mark_over, watch_all, ensured, returned, marks_of, called, calls_at}
use Rattle.code_laws.specs.Instrs as instr
use Rattle.code_laws.specs.Instrs.{Words, Instr, Code}
use Rattle.code_laws.specs.Machine as machine
use Rattle.code_laws.specs.Machine.{Frame, Machine, on, End, end_with, ended, does}
use Rattle.code_laws.specs.Coding.{marks, consume_code, code_of, function_code, body_of}
use Rattle.code_laws.proofs.Doing.{has_front, has_back, has_all, one_within, leads_then, leads_one, Spot, spot, at, Does, now, bind, known, from_spot}
use Rattle.code_laws.proofs.Marks.{mark_over_does}
use Rattle.code_laws.proofs.Checks.{consume_does}
use Rattle.code_laws.proofs.Flows.{no_truth, Flows, value_of}
use Rattle.code_laws.proofs.Calls.{resumes, Called, CallsDo}
use Rattle.code_laws.proofs.Statements.{all_does}

take_front : (xs ys : List ℕ) (n : ℕ) → length xs ≡ n → take n (xs ++ ys) ≡ xs
take_front [] ys zero e = refl
take_front [] ys (suc n) e = absurd cc
take_front (x ∷ xs) ys zero e = absurd (omega (arith, e))
take_front (x ∷ xs) ys (suc n) e = ap (λ l. x ∷ l) (take_front xs ys n (omega (arith, e)))

-- what follows two parts follows the second
regrouped : {A body_code ensures_code E : Type 0} (o : Out A) (f : A → Run body_code) (h : body_code → Run ensures_code) (k : ensures_code → Run E) → go_on o (λ x. chain (f x) (λ y. chain (h y) k)) ≡ go_on (go_on o (λ x. chain (f x) h)) k
unfolding chain
regrouped (Ends e v t) f h k = refl
regrouped {body_code = body_code} (Next x t) f h k = inner (f x t)
  where
    inner : (o : Out body_code) → go_on o (λ y. chain (h y) k) ≡ go_on (go_on o h) k
    inner (Ends e v t) = refl
    inner (Next y t) = refl

-- what is known of a function of the core
pub record Lawful (c : Core) (f : CoreFunction) : Type 0 where
  pub fits : CodeFits c f f.body
  pub steps : code_stepped false f.body ≡ true
  pub due : code_sited f.body ≡ true
  pub tests : code_tests f.body ≡ true
  pub ends : code_ends f.body ≡ true

module _ (c : Core) (p : Placement) (code : Code) (preds : code.predicates ≡ c.predicates) (texts : code.texts ≡ c.texts)
    (bodies : (h : ℕ) (callee : CoreFunction) → slice_get c.functions h ≡ Some callee → slice_get code.functions h ≡ Some (body_of c p h callee))
    (params : (h : ℕ) (callee : CoreFunction) → slice_get c.functions h ≡ Some callee → length (core_params callee) ≡ callee.params)
    (lawful : (h : ℕ) (callee : CoreFunction) → slice_get c.functions h ≡ Some callee → Lawful c callee)
    (L : ℕ) (small : (h : ℕ) (callee : CoreFunction) → slice_get c.functions h ≡ Some callee → length (function_code c p h callee) ≤ L) where
  module _ (go : Calls) (depth : ℕ) (calls : CallsDo c p code L go depth) (g : ℕ) (f : CoreFunction) (is_there : slice_get c.functions g ≡ Some f) (fr : Frame) (callers : List Frame) where
    abbrev is : List Instr
    is = function_code c p g f

    abbrev there : Spot → WatchState → Machine
    there x s = at code L is (fr ∷ callers) x s

    -- before the end of a call its value is on the operands
    abbrev Leaving : ℕ → WatchState → Spot → Type 0
    Leaving v t y = (slice_get is y.next ≡ Some (instr.return (is_some f.result))) × (y.operands ≡ (if is_some f.result then v ∷ [] else []))

    leaves : (flow : Flow) (t : WatchState) (y : Spot) (q : ℕ) → Flows c p code L g f is (fr ∷ callers) q false (code_returns f.body) (code_ends f.body) flow t y → t.steps ≤ t.turns →
        Does code L is (fr ∷ callers) 0 y t (returned c p g f flow t) Leaving
    unfolding chain get give
    leaves On t y q x le = no_truth (sym x.3 ∙ (lawful g f is_there).ends)
    leaves (Back site v) t y q x le =
        from_spot code L is (fr ∷ callers) y.next (value_of c p code L g f is (fr ∷ callers) v) refl x.1
        (bind code L is (fr ∷ callers) (consume c p g site f.after (ensured f v t)) (λ u. give v)
        (consume_does c p code preds L is (fr ∷ callers) g site f.after returned_words (ensured f v t) y.next (value_of c p code L g f is (fr ∷ callers) v) y.since t le (words (is_some f.result)) (has_front is y.next ensures_code leave_code x.0))
        (λ u z y' e less fewer. known code L is (fr ∷ callers) (give v) (spot (y.next + length ensures_code) (value_of c p code L g f is (fr ∷ callers) v) y.since) y' z z e.0 refl
        (now code L is (fr ∷ callers) fewer ((has_back is y.next ensures_code leave_code x.0).0, refl))))
      where
        returned_words : Words
        returned_words = instr.returning f.params (is_some f.result)

        ensures_code : List Instr
        ensures_code = consume_code c p g site f.after returned_words

        leave_code : List Instr
        leave_code = instr.return (is_some f.result) ∷ []

        words : (b : Bool) → take f.params t.words ++ machine.tops b (if b then v ∷ [] else []) ≡ take f.params t.words ++ (if b then v ∷ [] else [])
        words true = refl
        words false = refl

    -- the whole body, up to the end of the call
    body_does : (args : List ℕ) (s : WatchState) → length args ≡ f.params → s.turns ≤ depth → s.steps ≤ s.turns → s.words ≡ first_words f args →
        Does code L is (fr ∷ callers) 0 (spot 0 [] 0) s (chain (mark_over c p g (start_at g) Produce f.before args) (λ u. chain (watch_all c p g f go 0 f.body) (returned c p g f)) s) Leaving
    body_does args s count le ready e =
        bind code L is (fr ∷ callers) (mark_over c p g (start_at g) Produce f.before args) (λ u. chain (watch_all c p g f go 0 f.body) (returned c p g f))
        (mark_over_does c p code L is (fr ∷ callers) g (start_at g) Produce f.before (instr.first f.params) args 0 [] 0 s (has_front is 0 start_marks body_code (has_all is []))
        (ap (take f.params) e ∙ take_front args (replicate (length f.locals + length f.temps - length args) 0) f.params count) ready)
        (λ u t y x less fewer. known code L is (fr ∷ callers) (chain (watch_all c p g f go 0 f.body) (returned c p g f)) (spot (0 + length start_marks) [] 0) y t t x.0 refl
        (bind code L is (fr ∷ callers) (watch_all c p g f go 0 f.body) (returned c p g f)
        (all_does c p code preds texts bodies params L g f is (fr ∷ callers) (small g f is_there) go depth calls f.body 0 false (0 + length start_marks) 0 t
        ok.fits ok.steps ok.due ok.tests (omega (arith, less, le)) fewer (λ e. no_truth e) (has_back is 0 start_marks body_code (has_all is [])))
        (λ flow z y x less fewer. leaves flow z y (0 + length start_marks + length body_code) x fewer)))
      where
        ok : Lawful c f
        ok = lawful g f is_there

        start_marks : List Instr
        start_marks = marks c p g (start_at g) Produce f.before (instr.first f.params)

        body_code : List Instr
        body_code = code_of c p g f 0 f.body

    -- what a call does
    called_does : (args : List ℕ) (s : WatchState) → length args ≡ f.params → s.turns ≤ depth → s.steps ≤ s.turns → Called c p code L g f args s fr callers (called c p go g (Some f) args s)
    unfolding chain get give change
    called_does args s count le ready =
        subst (Called c p code L g f args s fr callers) (sym (regrouped (mark_over c p g (start_at g) Produce f.before args t) (λ u. watch_all c p g f go 0 f.body) (returned c p g f) restored))
        (by_outcome (chain (mark_over c p g (start_at g) Produce f.before args) (λ u. chain (watch_all c p g f go 0 f.body) (returned c p g f)) t) (body_does args t count le ready refl))
      where
        t : WatchState
        t = record s { words = first_words f args; marks = replicate (marks_of p g f) None }

        restored : ℕ → Run ℕ
        restored v = chain (change (λ u. record u { words = s.words; marks = s.marks })) (λ u. give v)

        by_outcome : (o : Out ℕ) → Does code L is (fr ∷ callers) 0 (spot 0 [] 0) t o Leaving → Called c p code L g f args s fr callers (go_on o restored)
        by_outcome (Ends e v u) a = let b = a.by in let l = small g f is_there in record { by = (b.0, omega (arith, b.1, l), b.2) }
        by_outcome (Next v u) a =
            let b = a.by in
            let l = small g f is_there in
            let i = one_within is b.0.next (instr.return (is_some f.result)) b.6.0 in
            record {
              by = (
                b.1 + 1,
                omega (arith, b.2, l, i),
                b.3,
                b.4,
                refl,
                refl,
                leads_then code (there (spot 0 [] 0) t) (there b.0 u) (resumes fr callers (is_some f.result) v u) b.1 1 b.5
                    (leads_one code (there b.0 u) (resumes fr callers (is_some f.result) v u) (instr.return (is_some f.result)) b.6.0
                    (ap (machine.returned (there b.0 u) (is_some f.result)) b.6.1 ∙ resumed_by (is_some f.result))),
              );
            }
          where
            resumed_by : (b : Bool) → machine.returned (there a.by.0 u) b (if b then v ∷ [] else []) ≡ on (resumes fr callers b v u)
            resumed_by true = refl
            resumed_by false = refl

  -- calls at most so many deep
  pub calls_do : (k : ℕ) → CallsDo c p code L (calls_at k c p) k
  calls_do zero h callee is_there xs count s fr callers lt le = absurd (omega (arith, lt))
  calls_do (suc k) h callee is_there xs count s fr callers lt le =
      subst (λ o. Called c p code L h callee xs s fr callers (called c p (calls_at k c p) h o xs s)) (sym is_there)
      (called_does (calls_at k c p) k (calls_do k) h callee is_there fr callers xs s count (omega (arith, lt)) le)
