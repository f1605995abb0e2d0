-- The code of statements does what the watched run does.
use Rattle.std.proofs.Common.{◌≡◌, ℕ, suc, ◌+◌, ◌≤◌, ◌<◌, Bool, true, false, not, eqb, ◌&&◌, ◌||◌, List, [], ◌∷◌, ◌++◌, length, Some, slice_get, refl, sym, ap, ◌∙◌, subst, arith, length-append}
use Rattle.gc0_base.specs.declared.site.Site.{Site}
use Rattle.gc0_base.specs.declared.site.Decision.{Decision}
use Rattle.gc0_tree.specs.declared.Shape.{Shape}
use Rattle.gc0_tree.specs.Tree.{Formula}
use Rattle.core_tree.specs.declared.Simple.{Simple}
use Rattle.core_tree.specs.CoreTree.{CoreStmt, do_step, do_set, do_unary, do_binary, do_load, do_store, do_new, do_call, do_library, do_if, do_loop, do_return, do_assert, do_raise, do_note, no_code, code_and, CoreFunction, Core}
use Rattle.core_tree.specs.CoreTree as tree
use Rattle.core_meaning.specs.CoreRunning.{Flow, On, Back}
use Rattle.core_meaning.specs.CoreFits.{word_shapes, core_params, ArgumentsFit, CoreStmtFits, CodeFits}
use Rattle.core_meaning.specs.CoreSited.{stmt_sited, code_sited}
use Rattle.core_meaning.specs.Stepped.{is_step, stmt_stepped, code_stepped, test_stepped, stmt_ends, code_ends, stmt_returns, code_returns, stmt_tests, code_tests}
use Rattle.core_checks.specs.Placements.{Placement}
use Rattle.watched_core.specs.WatchRuns.{WatchState, Out, chain, give, step}
use Rattle.watched_core.specs.Watching.{Calls, unless_back, watch, watch_all}
use Rattle.code_laws.specs.Instrs as instr
use Rattle.code_laws.specs.Instrs.{Instr, Code}
use Rattle.code_laws.specs.Machine.{Frame}
use Rattle.code_laws.specs.Coding.{stmt_code, code_of, body_of}
use Rattle.code_laws.proofs.Doing.{HasAt, has_front, has_back, Spot, spot, Does, now, to, bind, known, step_does}
use Rattle.code_laws.proofs.Flows.{no_truth, or_left, or_right, or_neither, and_first, and_second, Flows, unless}
use Rattle.code_laws.proofs.Values as values
use Rattle.code_laws.proofs.Others as others
use Rattle.code_laws.proofs.Calls.{CallsDo, call_does}
use Rattle.code_laws.proofs.Branches.{if_does}
use Rattle.code_laws.proofs.Loops.{loop_does}

-- as many arguments as parameters
count_of : (ws due : List Shape) (args : List ℕ) → ArgumentsFit ws due args → length args ≡ length due
count_of ws [] [] fits = refl
count_of ws [] (i ∷ is) fits = absurd fits
count_of ws (s ∷ ss) [] fits = absurd fits
count_of ws (s ∷ ss) (i ∷ is) fits = ap suc (count_of ws ss is fits.1)

-- which statement is a step
is_do_step : (st : CoreStmt) → is_step st ≡ true → st ≡ do_step
is_do_step do_step e = refl
is_do_step (do_set to a) e = no_truth e
is_do_step (do_unary to o a) e = no_truth e
is_do_step (do_binary to o a b site) e = no_truth e
is_do_step (do_load to base k field site) e = no_truth e
is_do_step (do_store base k field value site) e = no_truth e
is_do_step (do_new to k) e = no_truth e
is_do_step (do_call to g args site) e = no_truth e
is_do_step (do_library to l a t site) e = no_truth e
is_do_step (do_if d a these those) e = no_truth e
is_do_step (do_loop entry later inv d test a body) e = no_truth e
is_do_step (do_return a site) e = no_truth e
is_do_step (do_assert a site) e = no_truth e
is_do_step (do_raise t site) e = no_truth e
is_do_step (do_note k formula site) e = no_truth e

-- Calls with fewer turns do what they should, and the code of a function runs.
module _ (c : Core) (p : Placement) (code : Code) (preds : code.predicates ≡ c.predicates) (texts : code.texts ≡ c.texts)
    (bodies : (h : ℕ) (callee : CoreFunction) → slice_get c.functions h ≡ Some callee → slice_get code.functions h ≡ Some (body_of c p h callee))
    (params : (h : ℕ) (callee : CoreFunction) → slice_get c.functions h ≡ Some callee → length (core_params callee) ≡ callee.params)
    (L : ℕ) (g : ℕ) (f : CoreFunction) (is : List Instr) (callers : List Frame) (small : length is ≤ L) (go : Calls) (depth : ℕ) (calls : CallsDo c p code L go depth) where
  abbrev Stands : ℕ → ℕ → WatchState → Out Flow → ℕ → (stepping returns ends : Bool) → Type 0
  Stands pc since s o q stepping returns ends = Does code L is callers 0 (spot pc [] since) s o (Flows c p code L g f is callers q stepping returns ends)

  -- a step, behind which fewer are left than turns
  step_stands : (pc since : ℕ) (s : WatchState) → s.steps ≤ s.turns → HasAt is pc (instr.step ∷ []) → Stands pc since s (chain step (λ u. give On) s) (pc + 1) true false false
  unfolding give
  step_stands pc since s le h =
      bind code L is callers step (λ u. give On) (step_does code L is callers h.0 le)
      (λ u t y x less fewer. known code L is callers (give On) (spot (pc + 1) [] since) y t t x.0 refl (now code L is callers fewer (refl, refl, λ e. x.1, refl)))

  -- what is said of two parts, one behind the other
  both : (q q' : ℕ) (ra rb ea eb : Bool) (flow : Flow) (t : WatchState) (y : Spot) → Flows c p code L g f is callers q false rb eb flow t y → q ≡ q' → ea ≡ false → Flows c p code L g f is callers q' false (ra || rb) (ea || eb) flow t y
  both q q' ra rb ea eb On t y x n e = (x.0 ∙ n, x.1, x.2, or_neither ea eb e x.3)
  both q q' ra rb ea eb (Back site v) t y x n e = (x.0, x.1, or_right ra rb x.2)

  -- a loop, whose test begins with a step
  abbrev Loop : (entry later : Site) → Formula → Decision → CoreStmt → tree.Code → Simple → tree.Code → ℕ → Type 0
  Loop entry later inv d st rest a body loops =
      not (code_returns (code_and st rest)) ≡ true → (pc since : ℕ) (s : WatchState) → s.turns ≤ depth → s.steps ≤ s.turns → HasAt is pc (stmt_code c p g f loops (do_loop entry later inv d (code_and st rest) a body)) →
      Stands pc since s (watch c p g f go loops (do_loop entry later inv d (code_and st rest) a body) s) (pc + length (stmt_code c p g f loops (do_loop entry later inv d (code_and st rest) a body))) false (code_returns (code_and st rest) || code_returns body) false

  -- code that does what the watched run does, wherever it stands
  abbrev DoesAll : tree.Code → ℕ → Type 0
  DoesAll part loops =
      (pc since : ℕ) (t : WatchState) → t.turns ≤ depth → t.steps ≤ t.turns → HasAt is pc (code_of c p g f loops part) →
      Stands pc since t (watch_all c p g f go loops part t) (pc + length (code_of c p g f loops part)) false (code_returns part) (code_ends part)

  loop_of : (entry later : Site) (inv : Formula) (d : Decision) (st : CoreStmt) (rest : tree.Code) (a : Simple) (body : tree.Code) (loops : ℕ) → is_step st ≡ true → DoesAll rest (suc loops) → DoesAll body (suc loops) → Loop entry later inv d st rest a body loops
  unfolding chain give
  loop_of entry later inv d st rest a body loops e rest_does body_does = subst (λ st. Loop entry later inv d st rest a body loops) (sym (is_do_step st e)) stepping
    where
      stepping : Loop entry later inv d do_step rest a body loops
      stepping on pc since s le ready has =
          loop_does c p code preds L g f is callers small entry later inv d a (code_of c p g f (suc loops) rest) (code_of c p g f (suc loops) body) (watch_all c p g f go (suc loops) rest) (watch_all c p g f go (suc loops) body)
          (watch_all c p g f go (suc loops) (code_and do_step rest)) (code_returns rest || code_returns body) (code_ends rest) (λ t. refl) (λ t k. refl)
          depth (code_returns body) (code_ends body) (or_right (code_returns rest) (code_returns body))
          (λ pc since t le ready has. subst (λ b. Stands pc since t (watch_all c p g f go (suc loops) rest t) (pc + length (code_of c p g f (suc loops) rest)) false b (code_ends rest)) (values.not_both (code_returns rest) on) (rest_does pc since t le ready has))
          body_does pc since s le ready has

  mutual
    unfolding chain give

    stmt_does : (st : CoreStmt) (loops : ℕ) (behind : Bool) (pc since : ℕ) (s : WatchState) → CoreStmtFits c f st → stmt_stepped behind st ≡ true → stmt_sited st ≡ true → stmt_tests st ≡ true →
        s.turns ≤ depth → s.steps ≤ s.turns → (behind ≡ true → s.steps < s.turns) → HasAt is pc (stmt_code c p g f loops st) →
        Stands pc since s (watch c p g f go loops st s) (pc + length (stmt_code c p g f loops st)) (is_step st) (stmt_returns st) (stmt_ends st)
    stmt_does do_step loops behind pc since s fits stepped due tests le ready fewer has = step_stands pc since s ready has
    stmt_does (do_set to a) loops behind pc since s fits stepped due tests le ready fewer has =
        values.set_does c p code preds texts L g f is callers go loops to a pc since s ready has
    stmt_does (do_unary to o a) loops behind pc since s fits stepped due tests le ready fewer has =
        values.unary_does c p code preds texts L g f is callers go loops to o a pc since s ready has
    stmt_does (do_binary to o a b site) loops behind pc since s fits stepped due tests le ready fewer has =
        values.binary_does c p code preds texts L g f is callers go loops to o a b site pc since s ready due has
    stmt_does (do_load to base k field site) loops behind pc since s fits stepped due tests le ready fewer has =
        values.load_does c p code preds texts L g f is callers go loops to base k field site pc since s ready has
    stmt_does (do_store base k field value site) loops behind pc since s fits stepped due tests le ready fewer has =
        values.store_does c p code preds texts L g f is callers go loops base k field value site pc since s ready has
    stmt_does (do_new to k) loops behind pc since s fits stepped due tests le ready fewer has =
        values.new_does c p code preds texts L g f is callers go loops to k pc since s ready has
    stmt_does (do_call to h args site) loops behind pc since s fits stepped due tests le ready fewer has =
        call_does c p code L preds is callers bodies g f go depth calls (word_shapes f) loops to h args site fits.0 pc since s fits.1
        (count_of (word_shapes f) (core_params fits.0) args fits.2 ∙ params h fits.0 fits.1) fits.3 le (fewer stepped) has
    stmt_does (do_library to l a t site) loops behind pc since s fits stepped due tests le ready fewer has =
        others.library_does_it c p code preds texts L g f is callers (word_shapes f) loops go l a t site to pc since s ready fits.0 fits.1 due has
    stmt_does (do_if d a these those) loops behind pc since s fits stepped due tests le ready fewer has =
        if_does c p code L g f is callers d a (code_of c p g f loops these) (code_of c p g f loops those) (watch_all c p g f go loops these) (watch_all c p g f go loops those)
        (code_returns these) (code_ends these) (code_returns those) (code_ends those) pc since s ready has
        (λ q since t less fewer has. all_does these loops false q since t fits.1 (and_first (code_stepped false these) (code_stepped false those) stepped) (and_first (code_sited these) (code_sited those) due)
        (and_first (code_tests these) (code_tests those) tests) (omega (arith, less, le)) fewer (λ e. no_truth e) has)
        (λ q since t less fewer has. all_does those loops false q since t fits.2 (and_second (code_stepped false these) (code_stepped false those) stepped) (and_second (code_sited these) (code_sited those) due)
        (and_second (code_tests these) (code_tests those) tests) (omega (arith, less, le)) fewer (λ e. no_truth e) has)
    stmt_does (do_loop entry later inv d no_code a body) loops behind pc since s fits stepped due tests le ready fewer has = no_truth stepped
    stmt_does (do_loop entry later inv d (code_and st rest) a body) loops behind pc since s fits stepped due tests le ready fewer has =
        let test : tree.Code = code_and st rest in
        let t1 = and_first (test_stepped test) (code_stepped false body) stepped in
        let s1 = and_second (eqb entry.ordinal later.ordinal) (code_sited test && code_sited body) due in
        let e1 = and_second (not (code_returns test)) (code_tests test && code_tests body) tests in
        loop_of entry later inv d st rest a body loops (and_first (is_step st) (code_stepped false rest) t1)
        (λ pc since t le ready has. all_does rest (suc loops) false pc since t fits.1.1 (and_second (is_step st) (code_stepped false rest) t1)
        (and_second (stmt_sited st) (code_sited rest) (and_first (code_sited test) (code_sited body) s1)) (and_second (stmt_tests st) (code_tests rest) (and_first (code_tests test) (code_tests body) e1)) le ready (λ e. no_truth e) has)
        (λ pc since t le ready has. all_does body (suc loops) false pc since t fits.3 (and_second (test_stepped test) (code_stepped false body) stepped)
        (and_second (code_sited test) (code_sited body) s1) (and_second (code_tests test) (code_tests body) e1) le ready (λ e. no_truth e) has)
        (and_first (not (code_returns test)) (code_tests test && code_tests body) tests) pc since s le ready has
    stmt_does (do_return a site) loops behind pc since s fits stepped due tests le ready fewer has =
        others.return_does c p code preds texts L g f is callers (word_shapes f) loops go a site (pc + length (stmt_code c p g f loops (do_return a site))) pc since s ready fits has
    stmt_does (do_assert a site) loops behind pc since s fits stepped due tests le ready fewer has =
        values.assert_does c p code preds texts L g f is callers go loops a site pc since s ready has
    stmt_does (do_raise t site) loops behind pc since s fits stepped due tests le ready fewer has =
        values.raise_does c p code preds texts L g f is callers go loops t site pc since s ready has
    stmt_does (do_note k formula site) loops behind pc since s fits stepped due tests le ready fewer has =
        others.note_does c p code preds texts L g f is callers loops go k formula site pc since s ready has

    pub all_does : (code' : tree.Code) (loops : ℕ) (behind : Bool) (pc since : ℕ) (s : WatchState) → CodeFits c f code' → code_stepped behind code' ≡ true → code_sited code' ≡ true → code_tests code' ≡ true →
        s.turns ≤ depth → s.steps ≤ s.turns → (behind ≡ true → s.steps < s.turns) → HasAt is pc (code_of c p g f loops code') →
        Stands pc since s (watch_all c p g f go loops code' s) (pc + length (code_of c p g f loops code')) false (code_returns code') (code_ends code')
    all_does no_code loops behind pc since s fits stepped due tests le ready fewer has =
        let n : pc ≡ pc + 0 = omega arith in
        now code L is callers ready (n, refl, λ e. no_truth e, refl)
    all_does (code_and st rest) loops behind pc since s fits stepped due tests le ready fewer has =
        let a : List Instr = stmt_code c p g f loops st in
        let b : List Instr = code_of c p g f loops rest in
        let n : pc + length a + length b ≡ pc + length (a ++ b) = omega (arith, length-append a b) in
        bind code L is callers (watch c p g f go loops st) (λ flow. unless_back flow (watch_all c p g f go loops rest))
        (stmt_does st loops behind pc since s fits.0 (and_first (stmt_stepped behind st) (code_stepped (is_step st) rest) stepped) (and_first (stmt_sited st) (code_sited rest) due) (and_first (stmt_tests st) (code_tests rest) tests)
        le ready fewer (has_front is pc a b has))
        (λ flow t y x less ready'. unless c p code L g f is callers (pc + length a) (pc + length (a ++ b)) (is_step st) (stmt_returns st) (stmt_ends st) false (stmt_returns st || code_returns rest) (stmt_ends st || code_ends rest)
        (watch_all c p g f go loops rest) (or_left (stmt_returns st) (code_returns rest)) flow t y x
        (λ since' stepping on. to code L is callers (all_does rest loops (is_step st) (pc + length a) since' t fits.1 (and_second (stmt_stepped behind st) (code_stepped (is_step st) rest) stepped) (and_second (stmt_sited st) (code_sited rest) due)
        (and_second (stmt_tests st) (code_tests rest) tests) (omega (arith, less, le)) ready' stepping (has_back is pc a b has))
        (λ flow u z w less fewer. both (pc + length a + length b) (pc + length (a ++ b)) (stmt_returns st) (code_returns rest) (stmt_ends st) (code_ends rest) flow u z w n on)) ready')
