-- Calls, statements and code.
use Rattle.std.proofs.Common.{ℕ, zero, suc, List, [], ◌++◌, Option, Some, None, sym, subst}
use Rattle.std.specs.Prelude.{slice_get}
use Rattle.gc0_base.specs.declared.site.Site.{Site}
use Rattle.gc0_base.specs.declared.site.Ending.TheVariants.{Fault, StepsUsed}
use Rattle.gc0_base.specs.declared.site.TrapKind.TheVariants as trap
use Rattle.core_tree.specs.declared.Phase.TheVariants.{Produce}
use Rattle.core_tree.specs.CoreTree.{CoreStmt, do_step, do_set, do_unary, do_binary, do_load, do_store, do_new, do_call, do_library, do_if, do_loop, do_return, do_assert, do_raise, do_note, Code, no_code, code_and, CoreFunction, Core}
use Rattle.c0_meaning.specs.Operators.{unary_word, binary_word, fault_of}
use Rattle.c0_meaning.specs.Heaps.{Cells}
use Rattle.c0_meaning.specs.Running.{fields_of}
use Rattle.footprint_laws.specs.FootprintLaws.{Within}
use Rattle.core_meaning.specs.CoreRuns.{Outcomes, CoreState, Out, Next, Ends, Run, go_on, chain, ◌>>=◌, ◌>>◌, give, end, turn}
use Rattle.core_meaning.specs.CoreRunning.{mark_over, consume, op_of, Flow, On, Back, before_of, after_of, results_of, Calls, called_at, tested, unless_back, core_exec, core_exec_all, returned, start_at, called, calls_at}
use Rattle.frame_laws.specs.FrameLaws.{inner}
use Rattle.frame_laws.proofs.Calling.{begun_at, called_is}
use Rattle.frame_laws.proofs.Looping.{loop_obeys}
use Rattle.frame_laws.proofs.Obeying.{Lawful, After, Obeys, CallsObey, after_on, after_from, bind, both, gives, ends, gets_then, picks, goes_marked, after_marks_on, marks_obey, steps_obey, turn_obeys, put_obeys, put_if_obeys, allocate_obeys, access_obeys, store_obeys, or_fault_obeys, library_obeys, consume_obeys, noted_obeys, tested_obeys, unless_back_obeys}
use Rattle.frame_laws.proofs.Marking.{Inside, marked_owned, Marks, marks_mark, consume_decides}

module _ {Starts : Cells → Cells → Type 0} {Goes Stops : CoreState → CoreState → Type 0} (law : Lawful Starts Goes Stops) where
  -- what runs inside a call, and then what is done with it in the caller
  pub call_on : {A B : Type 0} (start : Cells) (words : List ℕ) (outcomes : Outcomes) (s : CoreState) (o : Out A) (f : A → Run B) →
      Starts start s.owned → After Goes Stops (record s { owned = start; words = words; outcomes = outcomes }) o →
      ((x : A) (t : CoreState) → Goes (record s { owned = start; words = words; outcomes = outcomes }) t → After Goes Stops s (f x t)) →
      After Goes Stops s (go_on o f)
  call_on start words outcomes s (Next x t) f within h k = k x t h
  call_on start words outcomes s (Ends e t) f within h k = law.call_stops start words outcomes s t within h

  module _ (go : Calls) (calls : CallsObey Starts Goes Stops go) where
    -- what follows the decision of a call
    pub called_rest_obeys : (c : Core) (site : Site) (g : ℕ) (f : Option CoreFunction) (xs : List ℕ) (start : Cells) (s : CoreState) →
        Starts start s.owned →
        After Goes Stops s ((go g xs start >>= λ v. mark_over c site Produce (after_of f) (xs ++ results_of f v) >> give v) s)
    unfolding chain
    called_rest_obeys c site g f xs start s within =
        after_on law s (go g xs start s) _ (calls g xs start s within) (λ v t h.
        let marks : Marks (mark_over c site Produce (after_of f) (xs ++ results_of f v)) =
        marks_mark c site Produce (after_of f).parts (λ u. Some (xs ++ results_of f v)) in
        after_from law s t _ h (both law _ _ (marks_obey law _ marks) (gives law v) t))

    -- a call of a statement: its callee starts within what is owned
    pub called_at_obeys : (c : Core) (site : Site) (g : ℕ) (f : Option CoreFunction) (xs : List ℕ) → Obeys Goes Stops (called_at c go site g f xs)
    unfolding chain
    called_at_obeys c site g f xs = both law turn _ (turn_obeys law) (λ s.
        after_marks_on law (Inside s.owned) s (consume c site (before_of f) [] xs s) _ (consume_decides law.footprints c site (before_of f) [] xs s) (λ start t within m.
        let inside : Within start t.owned = subst (Within start) (sym (marked_owned s t m)) within in
        after_from law s t _ (goes_marked law s t m) (called_rest_obeys c site g f xs start t (law.starts start t.owned inside))))

    -- ---- statements
    mutual
      pub statement_obeys : (c : Core) (f : CoreFunction) (stmt : CoreStmt) → Obeys Goes Stops (core_exec c f go stmt)
      statement_obeys c f do_step = both law _ _ (steps_obey law) (gives law On)
      statement_obeys c f (do_set to a) = gets_then law _ _ (put_obeys law to)
      statement_obeys c f (do_unary to o a) = gets_then law _ _ (λ x. put_obeys law to (unary_word o x))
      statement_obeys c f (do_binary to o a b site) =
          gets_then law _ _ (λ x. gets_then law _ _ (λ y.
          bind law _ _ (or_fault_obeys law (fault_of (op_of o)) site (binary_word (op_of o) x y)) (put_obeys law to)))
      statement_obeys c f (do_load to base k field site) =
          gets_then law _ _ (λ b. bind law _ _ (access_obeys law site b field) (λ d. gets_then law _ _ (put_obeys law to)))
      statement_obeys c f (do_store base k field value site) = gets_then law _ _ (λ b. gets_then law _ _ (store_obeys law site b field))
      statement_obeys c f (do_new to k) = bind law _ _ (allocate_obeys law k (fields_of (slice_get c.structs k))) (put_obeys law to)
      statement_obeys c f (do_call to g args site) =
          gets_then law _ _ (λ xs. bind law _ _ (called_at_obeys c site g (slice_get c.functions g) xs) (put_if_obeys law to))
      statement_obeys c f (do_library to l a t site) = gets_then law _ _ (λ x. bind law _ _ (library_obeys law c site l x t) (put_if_obeys law to))
      statement_obeys c f (do_if d a these those) =
          bind law _ _ (tested_obeys law d a) (λ x.
          picks law x (core_exec_all c f go those) (core_exec_all c f go these) (code_obeys c f those) (code_obeys c f these))
      statement_obeys c f (do_loop entry again inv d test a body) =
          loop_obeys law c f entry again inv (core_exec_all c f go test >> tested d a) (both law _ _ (code_obeys c f test) (tested_obeys law d a))
          (core_exec_all c f go body) (code_obeys c f body)
      statement_obeys c f (do_return a site) = gets_then law _ _ (λ x. gives law (Back site x))
      statement_obeys c f (do_assert a site) =
          gets_then law _ _ (λ x. picks law x (end (Fault trap.Assertion site)) (give On) (ends law Flow (Fault trap.Assertion site)) (gives law On))
      statement_obeys c f (do_raise t site) = ends law Flow (Fault trap.Raised site)
      statement_obeys c f (do_note k formula site) = gets_then law _ _ (noted_obeys law c site k formula)

      pub code_obeys : (c : Core) (f : CoreFunction) (code : Code) → Obeys Goes Stops (core_exec_all c f go code)
      code_obeys c f no_code = gives law On
      code_obeys c f (code_and stmt rest) =
          bind law (core_exec c f go stmt) (λ flow. unless_back flow (core_exec_all c f go rest)) (statement_obeys c f stmt)
          (λ flow. unless_back_obeys law flow (core_exec_all c f go rest) (code_obeys c f rest))

    -- ---- the call itself
    -- its end, before its set is joined to that of its caller
    pub returned_obeys : (c : Core) (f : CoreFunction) (flow : Flow) → Obeys Goes Stops (returned c f flow)
    returned_obeys c f On = ends law ℕ StepsUsed
    returned_obeys c f (Back site v) = gets_then law _ _ (λ words. bind law _ _ (consume_obeys law c site f.after [] words) (λ all. gives law v))

    -- from its start to its end, in the set of the callee
    pub inner_obeys : (c : Core) (g : ℕ) (f : CoreFunction) (args : List ℕ) → Obeys Goes Stops (inner c go g f args)
    inner_obeys c g f args =
        both law _ _ (marks_obey law _ (marks_mark c (start_at g) Produce f.before.parts (λ s. Some args)))
        (bind law (core_exec_all c f go f.body) (returned c f) (code_obeys c f f.body) (returned_obeys c f))

    pub called_obeys : (c : Core) (g : ℕ) (f : Option CoreFunction) (args : List ℕ) (start : Cells) (s : CoreState) → Starts start s.owned →
        After Goes Stops s (called c go g f args start s)
    called_obeys c g None args start s within = ends law ℕ StepsUsed s
    called_obeys c g (Some f) args start s within =
        let begun : CoreState = begun_at f args start s in
        subst (After Goes Stops s) (sym (called_is c go g f args start s))
        (call_on start begun.words begun.outcomes s (inner c go g f args begun) _ within (inner_obeys c g f args begun)
        (λ v t h. law.call start begun.words begun.outcomes s t within h))

  pub calls_obey : (k : ℕ) (c : Core) → CallsObey Starts Goes Stops (calls_at k c)
  calls_obey zero c g args start s within = ends law ℕ StepsUsed s
  calls_obey (suc k) c g args start s within = called_obeys (calls_at k c) (calls_obey k c) c g (slice_get c.functions g) args start s within
