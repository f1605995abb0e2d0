-- Returns, annotations and library calls.
use Rattle.std.proofs.Common.{◌≡◌, ℕ, zero, suc, ◌+◌, ◌≤◌, Bool, true, false, List, [], ◌∷◌, ◌++◌, length, Option, Some, None, is_some, if◌then◌else◌, slice_get, refl, ap, subst, arith, length-append}
use Rattle.gc0_base.specs.declared.site.Site.{Site}
use Rattle.gc0_tree.specs.declared.LibraryCall.{LibraryCall}
use Rattle.gc0_tree.specs.declared.LibraryCall.TheVariants as library
use Rattle.gc0_tree.specs.declared.Shape.{Shape}
use Rattle.gc0_tree.specs.Sites.{reads_input}
use Rattle.gc0_tree.specs.Fits.{library_params, library_gives}
use Rattle.gc0_tree.specs.Tree.{Formula, NoteKind, assert_note, fold_note, unfold_note}
use Rattle.core_tree.specs.declared.Simple.{Simple}
use Rattle.core_tree.specs.declared.Phase.TheVariants.{Produce, Consume}
use Rattle.core_tree.specs.CoreTree.{do_library, do_return, do_note, CoreFunction, Core}
use Rattle.c0_meaning.specs.Operators.{truth_word, number_text, truth_text}
use Rattle.c0_meaning.specs.Running.{has_more, text_at}
use Rattle.core_meaning.specs.CoreRunning.{Flow, On, Back, text_of}
use Rattle.core_meaning.specs.CoreFits.{TakesResult, ArgumentFits, ReturnFits}
use Rattle.core_meaning.specs.CoreSited.{same_truth}
use Rattle.core_checks.specs.Subjects.{of_formula}
use Rattle.core_checks.specs.Placements.{Placement, kept_at, is_tracked}
use Rattle.watched_core.specs.WatchRuns.{WatchState, Out, Next, Run, chain, give, end, get, change, closed, closed_by}
use Rattle.watched_core.specs.Watching as watching
use Rattle.watched_core.specs.Watching.{Calls, word_of, word_in, put, put_if, locals_of, access, allocate, fault_at, library_does, consume, mark_body, check, noted, watch}
use Rattle.code_laws.specs.Instrs as instr
use Rattle.code_laws.specs.Instrs.{Words, Instr, Code}
use Rattle.code_laws.specs.Machine as machine
use Rattle.code_laws.specs.Machine.{Frame, Machine, Move, on, over, onward, with_top, with_two, with_levels, at_object, words_at, does}
use Rattle.code_laws.specs.Coding.{when, simples_code, closes, checks, body_marks, consume_code, result_code, return_code, stmt_code}
use Rattle.code_laws.proofs.Doing.{HasAt, has_front, has_back, Spot, spot, at, Does, now, one, ends_by, to, bind, known}
use Rattle.code_laws.proofs.Marks.{mark_body_does}
use Rattle.code_laws.proofs.Checks.{check_does, consume_does}
use Rattle.code_laws.proofs.Flows.{no_truth, Flows, Goes, goes_on, simple_then, put_does}
use Rattle.code_laws.proofs.Values.{no_value}

-- what the code of a value leaves on the operands
abbrev pub values_of : Option Simple → WatchState → List ℕ
values_of None s = []
values_of (Some a) s = word_of a s ∷ []

-- a return leaves a value exactly where the function has a result
pub returns_value : (ws : List Shape) (r : Option Shape) (a : Option Simple) (s : WatchState) → ReturnFits ws r a → values_of a s ≡ (if is_some r then word_in a s ∷ [] else [])
returns_value ws None None s fits = refl
returns_value ws None (Some a) s fits = absurd fits
returns_value ws (Some r) None s fits = absurd fits
returns_value ws (Some r) (Some a) s fits = refl

-- nothing is written where nothing is given
no_target : (ws : List Shape) (to : Option ℕ) → TakesResult ws None to → to ≡ None
no_target ws None fits = refl
no_target ws (Some to) fits = absurd (no_value fits.0 fits.1)

module _ (c : Core) (p : Placement) (code : Code) (preds : code.predicates ≡ c.predicates) (texts : code.texts ≡ c.texts) (L : ℕ) (g : ℕ) (f : CoreFunction) (is : List Instr) (callers : List Frame) where
  abbrev there : Spot → WatchState → Machine
  there x s = at code L is callers x s

  abbrev Runs : Spot → WatchState → Out Flow → ℕ → Type 0
  Runs x s o q = Goes c p code L g f is callers x s o q

  -- some values come on the operands
  simples_then : {A : Type 0} {o : Out A} {P : A → WatchState → Spot → Type 0} → (a : Option Simple) (pc since : ℕ) (s : WatchState) → HasAt is pc (simples_code a) →
      Does code L is callers 0 (spot (pc + length (simples_code a)) (values_of a s) since) s o P → Does code L is callers 0 (spot pc [] since) s o P
  simples_then {o = o} {P = P} None pc since s h a = let e : pc + 0 ≡ pc = omega arith in subst (λ n. Does code L is callers 0 (spot n [] since) s o P) e a
  simples_then (Some b) pc since s h a = simple_then c p code L g f is callers b pc [] since s h.0 a

  -- as many levels are closed
  closes_then : {A : Type 0} {P : A → WatchState → Spot → Type 0} → (m : Run A) (n : ℕ) (pc : ℕ) (operands : List ℕ) (since : ℕ) (s : WatchState) → HasAt is pc (closes n) →
      Does code L is callers 0 (spot (pc + length (closes n)) operands since) record s { levels = closed_by n s.levels } (m record s { levels = closed_by n s.levels }) P →
      Does code L is callers 0 (spot pc operands since) s (m record s { levels = closed_by n s.levels }) P
  closes_then {P = P} m zero pc operands since s h a = let e : pc + 0 ≡ pc = omega arith in subst (λ n. Does code L is callers 0 (spot n operands since) s (m s) P) e a
  closes_then {P = P} m (suc n) pc operands since s h a =
      let t : WatchState = record s { levels = closed s.levels } in
      let e : pc + suc (length (closes n)) ≡ pc + 1 + length (closes n) = omega arith in
      one code L is callers {y = spot (pc + 1) operands since} {t = t} instr.ownclose h.0 refl (omega arith) refl
      (closes_then m n (pc + 1) operands since t h.1
      (subst (λ q. Does code L is callers 0 (spot q operands since) record s { levels = closed_by (suc n) s.levels } (m record s { levels = closed_by (suc n) s.levels }) P) e a))

  pub return_does : (ws : List Shape) (loops : ℕ) (go : Calls) (a : Option Simple) (site : Site) (q pc since : ℕ) (s : WatchState) → s.steps ≤ s.turns → ReturnFits ws f.result a → HasAt is pc (stmt_code c p g f loops (do_return a site)) →
      Does code L is callers 0 (spot pc [] since) s (watch c p g f go loops (do_return a site) s) (Flows c p code L g f is callers q false true true)
  unfolding chain get give change
  return_does ws loops go a site q pc since s le fits h =
      simples_then a pc since s (has_front is pc (simples_code a) (when (is_tracked p g) (closes loops) ++ return_code c p g f site) h)
      (by_tracked (is_tracked p g) (has_back is pc (simples_code a) (when (is_tracked p g) (closes loops) ++ return_code c p g f site) h))
    where
      v : ℕ
      v = word_in a s

      q1 : ℕ
      q1 = pc + length (simples_code a)

      by_tracked : (b : Bool) → HasAt is q1 (when b (closes loops) ++ return_code c p g f site) →
          Does code L is callers 0 (spot q1 (values_of a s) since) s (chain (watching.when b (λ s. record s { levels = closed_by loops s.levels })) (λ u. give (Back site v)) s) (Flows c p code L g f is callers q false true true)
      by_tracked true h =
          closes_then (give (Back site v)) loops q1 (values_of a s) since s (has_front is q1 (closes loops) (return_code c p g f site) h)
          (now code L is callers le (has_back is q1 (closes loops) (return_code c p g f site) h, returns_value ws f.result a s fits, refl))
      by_tracked false h = now code L is callers le (h, returns_value ws f.result a s fits, refl)

  ends_at : (since : ℕ) (t : WatchState) (y : Spot) (o q : ℕ) → y ≡ spot o [] since → o ≡ q → t.steps ≤ t.turns → Runs y t (Next On t) q
  unfolding give
  ends_at since t y o q e n le = known code L is callers (give On) (spot o [] since) y t t e refl (goes_on c p code L g f is callers q o since t n le)

  pub note_does : (loops : ℕ) (go : Calls) (k : NoteKind) (formula : Formula) (site : Site) (pc since : ℕ) (s : WatchState) → s.steps ≤ s.turns → HasAt is pc (stmt_code c p g f loops (do_note k formula site)) →
      Runs (spot pc [] since) s (watch c p g f go loops (do_note k formula site) s) (pc + length (stmt_code c p g f loops (do_note k formula site)))
  unfolding chain get give
  note_does loops go assert_note formula site pc since s le h =
      bind code L is callers (consume c p g site formula (locals_of f s)) (λ u. give On)
      (consume_does c p code preds L is callers g site formula (instr.first (length f.locals)) (locals_of f s) pc [] since s le refl h)
      (λ u t y x less fewer. ends_at since t y (pc + length (consume_code c p g site formula (instr.first (length f.locals)))) (pc + length (consume_code c p g site formula (instr.first (length f.locals)))) x.0 refl fewer)
  note_does loops go fold_note formula site pc since s le h =
      let w : Words = instr.first (length f.locals) in
      let words : List ℕ = locals_of f s in
      let a : List Instr = body_marks c p g site Consume formula w in
      let b : List Instr = checks site true formula w (kept_at p site) in
      let n : pc + length a + length b ≡ pc + length (a ++ b) = omega (arith, length-append a b) in
      bind code L is callers (chain (mark_body c p g site Consume formula words) (λ u. check c p site (of_formula true formula) words)) (λ u. give On)
      (bind code L is callers {Q = λ v t y. y ≡ spot (pc + length a + length b) [] since} (mark_body c p g site Consume formula words) (λ u. check c p site (of_formula true formula) words)
      (mark_body_does c p code L is callers g site Consume formula w words pc [] since s (has_front is pc a b h) refl le)
      (λ u t y x less fewer. known code L is callers (check c p site (of_formula true formula) words) (spot (pc + length a) [] since) y (record s { marks = t.marks }) t x.0 x.1
      (to code L is callers (check_does c p code preds L is callers site true formula w words (pc + length a) [] since (record s { marks = t.marks }) le refl (has_back is pc a b h)) (λ v u z x less fewer. x.0))))
      (λ u v y x less fewer. ends_at since v y (pc + length a + length b) (pc + length (a ++ b)) x n fewer)
  note_does loops go unfold_note formula site pc since s le h =
      let w : Words = instr.first (length f.locals) in
      let words : List ℕ = locals_of f s in
      let a : List Instr = checks site false formula w (kept_at p site) in
      let b : List Instr = body_marks c p g site Produce formula w in
      let n : pc + length a + length b ≡ pc + length (a ++ b) = omega (arith, length-append a b) in
      bind code L is callers (chain (check c p site (of_formula false formula) words) (λ u. mark_body c p g site Produce formula words)) (λ u. give On)
      (bind code L is callers {Q = λ v t y. y ≡ spot (pc + length a + length b) [] since} (check c p site (of_formula false formula) words) (λ u. mark_body c p g site Produce formula words)
      (check_does c p code preds L is callers site false formula w words pc [] since s le refl (has_front is pc a b h))
      (λ u t y x less fewer. known code L is callers (mark_body c p g site Produce formula words) (spot (pc + length a) [] since) y s t x.0 x.1
      (to code L is callers (mark_body_does c p code L is callers g site Produce formula w words (pc + length a) [] since s (has_back is pc a b h) refl le) (λ v u z x less fewer. x.0))))
      (λ u v y x less fewer. ends_at since v y (pc + length a + length b) (pc + length (a ++ b)) x n fewer)

  -- the argument comes on the operands, the call does what it does, and the result is written or dropped
  pub library_does_it : (ws : List Shape) (loops : ℕ) (go : Calls) (l : LibraryCall) (a : Option Simple) (t : Option ℕ) (site : Option Site) (to : Option ℕ) (pc since : ℕ) (s : WatchState) → s.steps ≤ s.turns →
      ArgumentFits ws (library_params l) a → TakesResult ws (library_gives l) to → same_truth (is_some site) (reads_input l) ≡ true →
      HasAt is pc (stmt_code c p g f loops (do_library to l a t site)) →
      Runs (spot pc [] since) s (watch c p g f go loops (do_library to l a t site) s) (pc + length (stmt_code c p g f loops (do_library to l a t site)))
  unfolding chain get give change end
  library_does_it ws loops go l a t site to pc since s le fits takes due h =
      simples_then a pc since s (has_front is pc (simples_code a) rest h) (subst (Goes c p code L g f is callers (spot n (values_of a s) since) s (chain (library_does c site l (word_in a s) t) (put_if to) s)) len
      (by_call l a to fits takes due (has_back is pc (simples_code a) rest h)))
    where
      rest : List Instr
      rest = instr.library l t site ∷ result_code (is_some (library_gives l)) to

      n : ℕ
      n = pc + length (simples_code a)

      len : n + length rest ≡ pc + length (simples_code a ++ rest)
      len = omega (arith, length-append (simples_code a) rest)

      -- what becomes of the result
      given : (x : ℕ) (s : WatchState) → s.steps ≤ s.turns → (to : Option ℕ) → HasAt is (n + 1) (result_code true to) → Runs (spot (n + 1) (x ∷ []) since) s (put_if to x s) (n + suc (length (result_code true to)))
      given x s le None h = one code L is callers instr.drop h.0 refl (omega arith) refl (goes_on c p code L g f is callers (n + 2) (n + 1 + 1) since s (omega arith) le)
      given x s le (Some to) h = put_does c p code L g f is callers to x (n + 2) (n + 1) since s h.0 (omega arith) le

      by_input : (to : Option ℕ) (xs : List ℕ) → s.input ≡ xs → (site : Option Site) → same_truth (is_some site) true ≡ true → HasAt is n (instr.library library.ReadInt t site ∷ result_code true to) →
          Runs (spot n [] since) s (chain (watching.next_of site xs) (put_if to) s) (n + suc (length (result_code true to)))
      by_input to (x ∷ xs) e site due h =
          one code L is callers {y = spot (n + 1) (x ∷ []) since} {t = record s { input = xs }} (instr.library library.ReadInt t site) h.0 (ap (machine.next_of (there (spot n [] since) s) site) e) (omega arith) refl
          (given x (record s { input = xs }) le to h.1)
      by_input to [] e (Some site) due h = ends_by code L is callers (instr.library library.ReadInt t (Some site)) h.0 (ap (machine.next_of (there (spot n [] since) s) (Some site)) e) refl
      by_input to [] e None due h = no_truth due

      text_same : (t : Option ℕ) → machine.text_in code t ≡ text_of c t
      text_same None = refl
      text_same (Some k) = ap (λ ts. text_at (slice_get ts k)) texts

      by_call : (l : LibraryCall) (a : Option Simple) (to : Option ℕ) → ArgumentFits ws (library_params l) a → TakesResult ws (library_gives l) to → same_truth (is_some site) (reads_input l) ≡ true →
          HasAt is n (instr.library l t site ∷ result_code (is_some (library_gives l)) to) →
          Runs (spot n (values_of a s) since) s (chain (library_does c site l (word_in a s) t) (put_if to) s) (n + length (instr.library l t site ∷ result_code (is_some (library_gives l)) to))
      by_call library.PrintInt (Some a) None fits takes due h =
          let u : WatchState = record s { output = s.output ++ number_text (word_of a s) } in
          one code L is callers {y = spot (n + 1) [] since} {t = u} (instr.library library.PrintInt t site) h.0 refl (omega arith) refl (goes_on c p code L g f is callers (n + 1) (n + 1) since u refl le)
      by_call library.PrintBool (Some a) None fits takes due h =
          let u : WatchState = record s { output = s.output ++ truth_text (word_of a s) } in
          one code L is callers {y = spot (n + 1) [] since} {t = u} (instr.library library.PrintBool t site) h.0 refl (omega arith) refl (goes_on c p code L g f is callers (n + 1) (n + 1) since u refl le)
      by_call library.Print None None fits takes due h =
          let u : WatchState = record s { output = s.output ++ text_of c t } in
          one code L is callers {y = spot (n + 1) [] since} {t = u} (instr.library library.Print t site) h.0 (ap (λ x. machine.written (there (spot n [] since) s) x []) (text_same t)) (omega arith) refl
          (goes_on c p code L g f is callers (n + 1) (n + 1) since u refl le)
      by_call library.PrintLine None None fits takes due h =
          let u : WatchState = record s { output = s.output ++ (text_of c t ++ 10 ∷ []) } in
          one code L is callers {y = spot (n + 1) [] since} {t = u} (instr.library library.PrintLine t site) h.0 (ap (λ x. machine.written (there (spot n [] since) s) (x ++ 10 ∷ []) []) (text_same t)) (omega arith) refl
          (goes_on c p code L g f is callers (n + 1) (n + 1) since u refl le)
      by_call library.ReadInt None to fits takes due h = by_input to s.input refl site due h
      by_call library.MoreInt None to fits takes due h =
          one code L is callers (instr.library library.MoreInt t site) h.0 refl (omega arith) refl (given (truth_word (has_more s.input)) s le to h.1)
      by_call library.PrintInt None to fits takes due h = absurd fits
      by_call library.PrintInt (Some a) (Some to) fits takes due h = absurd (no_value takes.0 takes.1)
      by_call library.PrintBool None to fits takes due h = absurd fits
      by_call library.PrintBool (Some a) (Some to) fits takes due h = absurd (no_value takes.0 takes.1)
      by_call library.Print (Some a) to fits takes due h = absurd fits
      by_call library.Print None (Some to) fits takes due h = absurd (no_value takes.0 takes.1)
      by_call library.PrintLine (Some a) to fits takes due h = absurd fits
      by_call library.PrintLine None (Some to) fits takes due h = absurd (no_value takes.0 takes.1)
      by_call library.ReadInt (Some a) to fits takes due h = absurd fits
      by_call library.MoreInt (Some a) to fits takes due h = absurd fits
