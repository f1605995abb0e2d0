-- A call: its arguments, the checks of `requires`, the call itself, and what stands behind it.
use Rattle.std.proofs.Common.{◌≡◌, ℕ, zero, suc, ◌+◌, ◌*◌, ◌≤◌, ◌<◌, Bool, true, false, List, [], ◌∷◌, ◌++◌, length, map, take, drop, reverse, Option, Some, None, is_some, if◌then◌else◌, slice_get, slice_index, refl, sym, ap, ◌∙◌, subst, arith, length-append, take_all, drop_of_length-le}
use mathlib.Core.List.{reverse_aux}
use Rattle.std.proofs.lemmas.List.{reverse-reverse, length-reverse, length-map}
use Rattle.gc0_base.specs.declared.site.Site.{Site}
use Rattle.gc0_tree.specs.declared.Shape.{Shape}
use Rattle.gc0_tree.specs.Tree.{Formula}
use Rattle.core_tree.specs.declared.Phase.TheVariants.{Produce}
use Rattle.core_tree.specs.CoreTree.{CoreFunction, Core, do_call}
use Rattle.c0_meaning.specs.Heaps.{Cells}
use Rattle.c0_meaning.specs.Holds.{holds}
use Rattle.core_meaning.specs.CoreRunning.{results_of}
use Rattle.core_meaning.specs.CoreFits.{TakesResult}
use Rattle.core_checks.specs.Placements.{Placement, is_tracked}
use Rattle.watched_core.specs.WatchRuns.{WatchState, Out, Next, Ends, Run, go_on, chain, give, get, change, take_turn, top_of, closed, added, cells_since}
use Rattle.watched_core.specs.Watching as watching
use Rattle.watched_core.specs.Watching.{Calls, put_if, consume, mark_over, opened, opening, found_or_none, left, behind_call, called_at, watch}
use Rattle.code_laws.specs.Instrs as instr
use Rattle.code_laws.specs.Instrs.{Words, Instr, Body, Code}
use Rattle.code_laws.specs.Machine as machine
use Rattle.code_laws.specs.Machine.{Frame, Machine, Move, on, over, End, end_with, ended, words_at, with_levels, frame_of, does}
use Rattle.code_laws.specs.Coding.{when, open_code, loads, consume_code, behind_code, marks, result_code, call_code, body_of, stmt_code}
use Rattle.code_laws.proofs.Doing.{HasAt, has_front, has_back, one_within, Leads, leads_then, leads_one, Shows, shows_then, Spot, spot, at, Does, now, one, to, bind, bind_paid, known, paid, from_spot}
use Rattle.code_laws.proofs.Marks.{mark_over_does}
use Rattle.code_laws.proofs.Checks.{consume_does}
use Rattle.code_laws.proofs.Flows.{Goes, goes_on, put_does}
use Rattle.code_laws.proofs.Values.{no_value}

-- a machine that begins a call
abbrev pub begun : Core → Placement → ℕ → CoreFunction → List ℕ → WatchState → List Frame → Machine
begun c p h callee xs s callers = record { frame = frame_of (body_of c p h callee) xs; callers = callers; heap = s.heap; levels = s.levels; input = s.input; output = s.output; steps = s.steps }

-- the frame that waited goes on with the result, where there is one
abbrev pub resumes : Frame → List Frame → Bool → ℕ → WatchState → Machine
resumes fr callers result v t =
    record { frame = record fr { operands = if result then v ∷ fr.operands else fr.operands }; callers = callers; heap = t.heap; levels = t.levels; input = t.input; output = t.output; steps = t.steps }

module _ (c : Core) (p : Placement) (code : Code) (L : ℕ) where
  -- A call comes back to the frame that waits, with the words and marks of the caller, and is paid by what a turn pays.
  abbrev pub CalledBy : ℕ → CoreFunction → List ℕ → WatchState → Frame → List Frame → Out ℕ → Type 0
  CalledBy h callee xs s fr callers (Next v t) =
      (d : ℕ) × (d + t.turns * L ≤ s.turns * L + L) × (t.turns ≤ s.turns) × (t.steps ≤ t.turns) × (t.words ≡ s.words) × (t.marks ≡ s.marks)
      × Leads code (begun c p h callee xs s (fr ∷ callers)) d (resumes fr callers (is_some callee.result) v t)
  CalledBy h callee xs s fr callers (Ends e v t) = (d : ℕ) × (d ≤ s.turns * L + L) × Shows code (begun c p h callee xs s (fr ∷ callers)) d (end_with t.output (ended e v))

  pub record Called (h : ℕ) (callee : CoreFunction) (xs : List ℕ) (s : WatchState) (fr : Frame) (callers : List Frame) (o : Out ℕ) : Type 0 where
    pub by : CalledBy h callee xs s fr callers o

  -- calls with fewer turns do what they should
  abbrev pub CallsDo : Calls → ℕ → Type 0
  CallsDo go depth = (h : ℕ) (callee : CoreFunction) → slice_get c.functions h ≡ Some callee → (xs : List ℕ) → length xs ≡ callee.params → (s : WatchState) (fr : Frame) (callers : List Frame) →
      s.turns < depth → s.steps ≤ s.turns → Called h callee xs s fr callers (go h xs s)

  module _ (preds : code.predicates ≡ c.predicates) (is : List Instr) (callers : List Frame) where
    abbrev there : Spot → WatchState → Machine
    there x s = at code L is callers x s

    -- some locals come on the operands
    loads_then : {A : Type 0} {credit : ℕ} {o : Out A} {P : A → WatchState → Spot → Type 0} → (args : List ℕ) (pc : ℕ) (operands : List ℕ) (since : ℕ) (s : WatchState) → HasAt is pc (loads args) →
        Does code L is callers credit (spot (pc + length (loads args)) (reverse_aux (map (slice_index s.words) args) operands) since) s o P → Does code L is callers credit (spot pc operands since) s o P
    loads_then {credit = credit} {o = o} {P = P} [] pc operands since s h a = let e : pc + 0 ≡ pc = omega arith in subst (λ n. Does code L is callers credit (spot n operands since) s o P) e a
    loads_then {credit = credit} {o = o} {P = P} (i ∷ args) pc operands since s h a =
        let e : pc + suc (length (loads args)) ≡ pc + 1 + length (loads args) = omega arith in
        one code L is callers {y = spot (pc + 1) (slice_index s.words i ∷ operands) since} {t = s} (instr.load i) h.0 refl (omega arith) refl
        (loads_then args (pc + 1) (slice_index s.words i ∷ operands) since s h.1
        (subst (λ n. Does code L is callers credit (spot n (reverse_aux (map (slice_index s.words) args) (slice_index s.words i ∷ operands)) since) s o P) e a))

    -- a level is opened where the function is tracked
    pub open_then : {A : Type 0} {credit : ℕ} {P : A → WatchState → Spot → Type 0} → (m : Run A) (b : Bool) (formula : Formula) (w : Words) (words : List ℕ) (pc : ℕ) (operands : List ℕ) (since : ℕ) (s : WatchState) →
        HasAt is pc (when b (open_code formula w ∷ [])) → words_at w (there (spot pc operands since) s).frame ≡ words →
        ((levels : List Cells) → Does code L is callers credit (spot (pc + length (when b (open_code formula w ∷ []))) operands since) record s { levels = levels } (m record s { levels = levels }) P) →
        Does code L is callers credit (spot pc operands since) s (chain (watching.when b (opened c formula words)) (λ u. m) s) P
    unfolding chain change give
    open_then {credit = credit} {P = P} m false formula w words pc operands since s h e next =
        let q : pc + 0 ≡ pc = omega arith in
        subst (λ n. Does code L is callers credit (spot n operands since) s (m s) P) q (next s.levels)
    open_then {credit = credit} {P = P} m true formula w words pc operands since s h e next =
        one code L is callers {y = spot (pc + 1) operands since} {t = record s { levels = levels }} (open_code formula w) h.0 (acts formula.imprecise) (omega arith) refl (next levels)
      where
        levels : List Cells
        levels = opening c formula words s.heap (top_of s.levels) ∷ s.levels

        x : Spot
        x = spot pc operands since

        acts : (b : Bool) → does code (if b then instr.ownall else instr.ownopen formula w) (there x s)
            ≡ on (there (spot (pc + 1) operands since) record s { levels = (if b then top_of s.levels else found_or_none (holds c.predicates formula words s.heap (top_of s.levels))) ∷ s.levels })
        acts true = refl
        acts false =
            ap (λ ws. with_levels (there x s) (found_or_none (holds code.predicates formula ws s.heap (top_of s.levels)) ∷ s.levels)) e
            ∙ ap (λ ps. with_levels (there x s) (found_or_none (holds ps formula words s.heap (top_of s.levels)) ∷ s.levels)) preds

    -- the call itself, which is paid
    pub called_then : {A : Type 0} {P : A → WatchState → Spot → Type 0} → (k : ℕ → Run A) (go : Run ℕ) (h : ℕ) (callee : CoreFunction) (xs : List ℕ) (pc : ℕ) (operands : List ℕ) (since : ℕ) (s : WatchState) →
        slice_get is pc ≡ Some (instr.call h) →
        does code (instr.call h) (there (spot pc operands since) s) ≡ on (begun c p h callee xs s (record { instrs = is; next = pc + 1; operands = []; locals = s.words; marks = s.marks; since = length s.heap } ∷ callers)) →
        Called h callee xs s record { instrs = is; next = pc + 1; operands = []; locals = s.words; marks = s.marks; since = length s.heap } callers (go s) →
        ((v : ℕ) (t : WatchState) → t.words ≡ s.words → t.turns ≤ s.turns → t.steps ≤ t.turns →
        Does code L is callers 0 (spot (pc + 1) (if is_some callee.result then v ∷ [] else []) (length s.heap)) t (k v t) P) →
        Does code L is callers L (spot pc operands since) s (chain go k s) P
    unfolding chain
    called_then {A = A} {P = P} k go h callee xs pc operands since s i acts a next = by_outcome (go s) a
      where
        fr : Frame
        fr = record { instrs = is; next = pc + 1; operands = []; locals = s.words; marks = s.marks; since = length s.heap }

        x : Spot
        x = spot pc operands since

        enter : Leads code (there x s) 1 (begun c p h callee xs s (fr ∷ callers))
        enter = leads_one code (there x s) (begun c p h callee xs s (fr ∷ callers)) (instr.call h) i acts

        by_outcome : (o : Out ℕ) → Called h callee xs s fr callers o → Does code L is callers L x s (go_on o k) P
        by_outcome (Ends e v t) a =
            let b = a.by in
            let l = one_within is pc (instr.call h) i in
            record { by = (1 + b.0, omega (arith, b.1, l), shows_then code (there x s) (begun c p h callee xs s (fr ∷ callers)) 1 b.0 (end_with t.output (ended e v)) enter b.2) }
        by_outcome (Next v t) a =
            let b = a.by in
            let y : Spot = spot (pc + 1) (if is_some callee.result then v ∷ [] else []) (length s.heap) in
            let back : resumes fr callers (is_some callee.result) v t ≡ there y t =
            ap (λ ws. record {
              frame = record { instrs = is; next = pc + 1; operands = if is_some callee.result then v ∷ [] else []; locals = ws; marks = s.marks; since = length s.heap };
              callers = callers;
              heap = t.heap;
              levels = t.levels;
              input = t.input;
              output = t.output;
              steps = t.steps;
            }) (sym b.4)
            ∙ ap (λ ms. record {
              frame = record { instrs = is; next = pc + 1; operands = if is_some callee.result then v ∷ [] else []; locals = t.words; marks = ms; since = length s.heap };
              callers = callers;
              heap = t.heap;
              levels = t.levels;
              input = t.input;
              output = t.output;
              steps = t.steps;
            }) (sym b.5) in
            let lead = subst (λ m. Leads code (there x s) (1 + b.0) m) back
            (leads_then code (there x s) (begun c p h callee xs s (fr ∷ callers)) (resumes fr callers (is_some callee.result) v t) 1 b.0 enter b.6) in
            more (k v t) v t (1 + b.0) (omega (arith, b.1)) b.2 lead (next v t b.4 b.2 b.3)
          where
            more : (o : Out A) (v : ℕ) (t : WatchState) (d : ℕ) → d + t.turns * L ≤ s.turns * L + L + 1 → t.turns ≤ s.turns →
                Leads code (there x s) d (there (spot (pc + 1) (if is_some callee.result then v ∷ [] else []) (length s.heap)) t) →
                Does code L is callers 0 (spot (pc + 1) (if is_some callee.result then v ∷ [] else []) (length s.heap)) t o P → Does code L is callers L x s o P
            more (Next w u) v t d le le' lead a =
                let b = a.by in
                record { by = (b.0, d + b.1, omega (arith, b.2, le), omega (arith, b.3, le'), b.4, leads_then code (there x s) (there (spot (pc + 1) (if is_some callee.result then v ∷ [] else []) (length s.heap)) t) (there b.0 u) d b.1 lead b.5, b.6) }
            more (Ends e w u) v t d le le' lead a =
                let b = a.by in
                record { by = (d + b.0, omega (arith, b.1, le), shows_then code (there x s) (there (spot (pc + 1) (if is_some callee.result then v ∷ [] else []) (length s.heap)) t) d b.0 (end_with u.output (ended e w)) lead b.2) }

    -- behind a call the level of a tracked callee ends, or a tracked caller takes over what was made
    behind_then : {A : Type 0} {P : A → WatchState → Spot → Type 0} → (m : Run A) (caller callee : Bool) (pc : ℕ) (operands : List ℕ) (since : ℕ) (s : WatchState) → HasAt is pc (behind_code caller callee) →
        ((levels : List Cells) → Does code L is callers 0 (spot (pc + length (behind_code caller callee)) operands since) record s { levels = levels } (m record s { levels = levels }) P) →
        Does code L is callers 0 (spot pc operands since) s (chain (behind_call caller callee since) (λ u. m) s) P
    unfolding chain change give
    behind_then m caller true pc operands since s h next = one code L is callers instr.ownclose h.0 refl (omega arith) refl (next (closed s.levels))
    behind_then m true false pc operands since s h next = one code L is callers instr.ownadopt h.0 refl (omega arith) refl (next (added (cells_since since s.heap) s.levels))
    behind_then {P = P} m false false pc operands since s h next =
        let q : pc + 0 ≡ pc = omega arith in
        subst (λ n. Does code L is callers 0 (spot n operands since) s (m s) P) q (next s.levels)

    -- what a call leaves on the operands
    abbrev pub result_of : CoreFunction → ℕ → List ℕ
    result_of callee v = if is_some callee.result then v ∷ [] else []

    -- ---- arguments on the operands
    all_of : (xs : List ℕ) (n : ℕ) → length xs ≡ n → reverse (take n (reverse xs)) ≡ xs
    all_of xs n e =
        let l : length (reverse xs) ≤ n = omega (arith, length-reverse xs, e) in
        ap reverse (take_all n (reverse xs) l) ∙ reverse-reverse xs

    none_of : (xs : List ℕ) (n : ℕ) → length xs ≡ n → drop n (reverse xs) ≡ []
    none_of xs n e = drop_of_length-le (reverse xs) (let l : length (reverse xs) ≤ n = omega (arith, length-reverse xs, e) in l)

    module _ (bodies : (h : ℕ) (callee : CoreFunction) → slice_get c.functions h ≡ Some callee → slice_get code.functions h ≡ Some (body_of c p h callee)) (g : ℕ) (f : CoreFunction) (go : Calls) (depth : ℕ) (calls : CallsDo go depth) where
      -- a call begins on its arguments, which leave the operands
      pub enters_call : (h : ℕ) (callee : CoreFunction) (xs : List ℕ) → slice_get c.functions h ≡ Some callee → length xs ≡ callee.params → (q since : ℕ) (t : WatchState) →
          does code (instr.call h) (there (spot q (reverse xs) since) t)
          ≡ on (begun c p h callee xs t (record { instrs = is; next = q + 1; operands = []; locals = t.words; marks = t.marks; since = length t.heap } ∷ callers))
      enters_call h callee xs is_there count q since t =
          ap (machine.entered (there (spot q (reverse xs) since) t)) (bodies h callee is_there)
          ∙ ap (λ ys. on record {
            frame = frame_of (body_of c p h callee) ys;
            callers = record { instrs = is; next = q + 1; operands = drop callee.params (reverse xs); locals = t.words; marks = t.marks; since = length t.heap } ∷ callers;
            heap = t.heap;
            levels = t.levels;
            input = t.input;
            output = t.output;
            steps = t.steps;
          }) (all_of xs callee.params count)
          ∙ ap (λ os. on (begun c p h callee xs t (record { instrs = is; next = q + 1; operands = os; locals = t.words; marks = t.marks; since = length t.heap } ∷ callers))) (none_of xs callee.params count)

      -- a call up to its result
      called_does : (h : ℕ) (callee : CoreFunction) (args : List ℕ) (site : Site) (pc since : ℕ) (s : WatchState) → slice_get c.functions h ≡ Some callee → length args ≡ callee.params → s.turns ≤ depth → s.steps < s.turns →
          (to : List Instr) → HasAt is pc (loads args ++ (consume_code c p g site callee.before (instr.operands (length args)) ++ (when (is_tracked p h) (open_code callee.before (instr.operands (length args)) ∷ []) ++ (instr.call h ∷ (behind_code (is_tracked p g) (is_tracked p h)
          ++ (marks c p g site Produce callee.after (instr.behind_call args (is_some callee.result)) ++ to)))))) →
          Does code L is callers 0 (spot pc [] since) s (called_at c p go g site h (Some callee) (map (slice_index s.words) args) s)
          (λ v t y. (HasAt is y.next to) × (y.operands ≡ result_of callee v)
          × (y.next + length to ≡ pc + length (loads args ++ (consume_code c p g site callee.before (instr.operands (length args)) ++ (when (is_tracked p h) (open_code callee.before (instr.operands (length args)) ∷ []) ++ (instr.call h ∷ (behind_code (is_tracked p g) (is_tracked p h)
          ++ (marks c p g site Produce callee.after (instr.behind_call args (is_some callee.result)) ++ to))))))))
      unfolding chain get give
      called_does h callee args site pc since s is_there count le behind_step to has = by_turns s.turns refl
        where
          xs : List ℕ
          xs = map (slice_index s.words) args

          w : Words
          w = instr.operands (length args)

          requires_code : List Instr
          requires_code = consume_code c p g site callee.before w

          level_code : List Instr
          level_code = when (is_tracked p h) (open_code callee.before w ∷ [])

          leave_code : List Instr
          leave_code = behind_code (is_tracked p g) (is_tracked p h)

          ensures_marks : List Instr
          ensures_marks = marks c p g site Produce callee.after (instr.behind_call args (is_some callee.result))

          from_leave : List Instr
          from_leave = leave_code ++ (ensures_marks ++ to)

          from_call : List Instr
          from_call = instr.call h ∷ from_leave

          from_level : List Instr
          from_level = level_code ++ from_call

          from_requires : List Instr
          from_requires = requires_code ++ from_level

          at_requires : ℕ
          at_requires = pc + length (loads args)

          at_level : ℕ
          at_level = at_requires + length requires_code

          at_call : ℕ
          at_call = at_level + length level_code

          at_marks : ℕ
          at_marks = at_call + 1 + length leave_code

          has_requires : HasAt is at_requires from_requires
          has_requires = has_back is pc (loads args) from_requires has

          has_level : HasAt is at_level from_level
          has_level = has_back is at_requires requires_code from_level has_requires

          has_call : HasAt is at_call from_call
          has_call = has_back is at_level level_code from_call has_level

          has_marks : HasAt is at_marks (ensures_marks ++ to)
          has_marks = has_back is (at_call + 1) leave_code (ensures_marks ++ to) has_call.1

          end_is : at_marks + length ensures_marks + length to ≡ pc + length (loads args ++ from_requires)
          end_is = omega (arith, length-append (loads args) from_requires, length-append requires_code from_level, length-append level_code from_call, length-append leave_code (ensures_marks ++ to), length-append ensures_marks to)

          xs_length : length xs ≡ callee.params
          xs_length = length-map args (slice_index s.words) ∙ count

          AtResult : ℕ → WatchState → Spot → Type 0
          AtResult v t y = (HasAt is y.next to) × (y.operands ≡ result_of callee v) × (y.next + length to ≡ pc + length (loads args ++ from_requires))

          last : ℕ → Run ℕ
          last v = chain (mark_over c p g site Produce callee.after (xs ++ results_of (Some callee) v)) (λ u. give v)

          -- behind the call
          back : (before v : ℕ) (t : WatchState) → t.words ≡ s.words → t.steps ≤ t.turns →
              Does code L is callers 0 (spot (at_call + 1) (result_of callee v) before) t (chain (behind_call (is_tracked p g) (is_tracked p h) before) (λ u. last v) t) AtResult
          back before v t e le =
              behind_then (last v) (is_tracked p g) (is_tracked p h) (at_call + 1) (result_of callee v) before t (has_front is (at_call + 1) leave_code (ensures_marks ++ to) has_call.1)
              (λ levels. bind code L is callers (mark_over c p g site Produce callee.after (xs ++ results_of (Some callee) v)) (λ u. give v)
              (mark_over_does c p code L is callers g site Produce callee.after (instr.behind_call args (is_some callee.result)) (xs ++ results_of (Some callee) v) at_marks (result_of callee v) before (record t { levels = levels })
              (has_front is at_marks ensures_marks to has_marks) (words (is_some callee.result)) le)
              (λ u z y x less fewer. known code L is callers (give v) (spot (at_marks + length ensures_marks) (result_of callee v) before) y z z x.0 refl
              (now code L is callers fewer (has_back is at_marks ensures_marks to has_marks, refl, end_is))))
            where
              words : (b : Bool) → map (slice_index t.words) args ++ machine.tops b (if b then v ∷ [] else []) ≡ xs ++ (if b then v ∷ [] else [])
              words true = ap (λ ws. map (slice_index ws) args ++ v ∷ []) e
              words false = ap (λ ws. map (slice_index ws) args ++ []) e

          further : ℕ → ℕ → Run ℕ
          further before v = chain (behind_call (is_tracked p g) (is_tracked p h) before) (λ u. last v)

          -- the call
          calls_it : (t : WatchState) → t.words ≡ s.words → t.turns < depth → t.steps ≤ t.turns → Does code L is callers L (spot at_call (reverse xs) since) t (chain (go h xs) (further (length t.heap)) t) AtResult
          calls_it t e lt le =
              called_then (further (length t.heap)) (go h xs) h callee xs at_call (reverse xs) since t has_call.0 (enters_call h callee xs is_there xs_length at_call since t)
              (calls h callee is_there xs xs_length t _ callers lt le)
              (λ v u f less fewer. back (length t.heap) v u (f ∙ e) fewer)

          opens : Run ℕ
          opens = chain (watching.when (is_tracked p h) (opened c callee.before xs)) (λ u. chain (get (λ s. length s.heap)) (λ before. chain (go h xs) (further before)))

          -- from the arguments on
          taken : (t : WatchState) → t.words ≡ s.words → t.turns < depth → t.steps ≤ t.turns → Does code L is callers L (spot at_requires (reverse xs) since) t (chain (consume c p g site callee.before xs) (λ u. opens) t) AtResult
          taken t e lt le =
              bind_paid code L is callers (consume c p g site callee.before xs) (λ u. opens)
              (consume_does c p code preds L is callers g site callee.before w xs at_requires (reverse xs) since t le (all_of xs (length args) (length-map args (slice_index s.words))) (has_front is at_requires requires_code from_level has_requires))
              (λ u z y x less fewer. known code L is callers opens (spot at_level (reverse xs) since) y (record t { marks = z.marks }) z x.0 x.1
              (open_then (chain (get (λ s. length s.heap)) (λ before. chain (go h xs) (further before))) (is_tracked p h) callee.before w xs at_level (reverse xs) since (record t { marks = z.marks })
              (has_front is at_level level_code from_call has_level) (all_of xs (length args) (length-map args (slice_index s.words)))
              (λ levels. calls_it (record t { marks = z.marks; levels = levels }) e lt le)))

          by_turns : (n : ℕ) → s.turns ≡ n → Does code L is callers 0 (spot pc [] since) s (go_on (take_turn n s) (λ u. chain (consume c p g site callee.before xs) (λ u. opens))) AtResult
          by_turns zero e = absurd (omega (arith, e, behind_step))
          by_turns (suc m) e =
              paid code L is callers m e
              (loads_then args pc [] since (record s { turns = m }) (has_front is pc (loads args) from_requires has)
              (taken (record s { turns = m }) refl (omega (arith, e, le)) (omega (arith, e, behind_step))))

      -- what becomes of the result
      result_does : (ws : List Shape) (r : Option Shape) (to : Option ℕ) (v q : ℕ) (t : WatchState) (y : Spot) → TakesResult ws r to → t.steps ≤ t.turns →
          HasAt is y.next (result_code (is_some r) to) → y.operands ≡ (if is_some r then v ∷ [] else []) → y.next + length (result_code (is_some r) to) ≡ q → Goes c p code L g f is callers y t (put_if to v t) q
      unfolding give
      result_does ws None None v q t y takes le h e n =
          let m : y.next ≡ q = omega (arith, n) in
          from_spot code L is callers q [] m e (goes_on c p code L g f is callers q q y.since t refl le)
      result_does ws None (Some to) v q t y takes le h e n = absurd (no_value takes.0 takes.1)
      result_does ws (Some r) None v q t y takes le h e n =
          from_spot code L is callers y.next (v ∷ []) refl e (one code L is callers instr.drop h.0 refl (omega arith) refl (goes_on c p code L g f is callers q (y.next + 1) y.since t n le))
      result_does ws (Some r) (Some to) v q t y takes le h e n =
          from_spot code L is callers y.next (v ∷ []) refl e (put_does c p code L g f is callers to v q y.next y.since t h.0 n le)

      pub call_does : (ws : List Shape) (loops : ℕ) (to : Option ℕ) (h : ℕ) (args : List ℕ) (site : Site) (callee : CoreFunction) (pc since : ℕ) (s : WatchState) → slice_get c.functions h ≡ Some callee → length args ≡ callee.params →
          TakesResult ws callee.result to → s.turns ≤ depth → s.steps < s.turns → HasAt is pc (stmt_code c p g f loops (do_call to h args site)) →
          Goes c p code L g f is callers (spot pc [] since) s (watch c p g f go loops (do_call to h args site) s) (pc + length (stmt_code c p g f loops (do_call to h args site)))
      unfolding chain get
      call_does ws loops to h args site callee pc since s is_there count takes le behind_step has =
          subst (λ o. HasAt is pc (call_code c p g site h o args to) →
          Goes c p code L g f is callers (spot pc [] since) s (chain (get (λ s. map (slice_index s.words) args)) (λ xs. chain (called_at c p go g site h o xs) (put_if to)) s) (pc + length (call_code c p g site h o args to)))
          (sym is_there) of_callee has
        where
          of_callee : HasAt is pc (call_code c p g site h (Some callee) args to) →
              Goes c p code L g f is callers (spot pc [] since) s (chain (get (λ s. map (slice_index s.words) args)) (λ xs. chain (called_at c p go g site h (Some callee) xs) (put_if to)) s) (pc + length (call_code c p g site h (Some callee) args to))
          of_callee has =
              bind code L is callers (called_at c p go g site h (Some callee) (map (slice_index s.words) args)) (put_if to)
              (called_does h callee args site pc since s is_there count le behind_step (result_code (is_some callee.result) to) has)
              (λ v t y x less fewer. result_does ws callee.result to v (pc + length (call_code c p g site h (Some callee) args to)) t y takes fewer x.0 x.1 x.2)
