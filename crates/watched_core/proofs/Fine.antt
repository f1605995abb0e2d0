-- A run of a core only adds visits, so what is fine at its end was fine before.
use Rattle.std.proofs.Common.{◌≡◌, ℕ, zero, suc, ◌≤◌, arith, Bool, true, false, not, ◌&&◌, ◌||◌, List, [], ◌∷◌, ◌++◌, Option, Some, None, refl, subst}
use Rattle.std.specs.Prelude.{IfSome, slice_get}
use Rattle.gc0_base.specs.declared.site.Site.{Site}
use Rattle.gc0_base.specs.declared.site.Ending.{Ending}
use Rattle.gc0_base.specs.declared.site.Ending.TheVariants.{Stop}
use Rattle.gc0_base.specs.declared.site.TrapKind.{TrapKind}
use Rattle.gc0_tree.specs.declared.LibraryCall.{LibraryCall}
use Rattle.gc0_tree.specs.declared.LibraryCall.TheVariants as library
use Rattle.gc0_tree.specs.Tree.{Conjuncts, Formula, NoteKind, assert_note, fold_note, unfold_note}
use Rattle.core_tree.specs.declared.Simple.{Simple}
use Rattle.core_tree.specs.declared.Phase.{Phase}
use Rattle.core_tree.specs.declared.Phase.TheVariants.{Produce}
use Rattle.core_tree.specs.CoreTree.{CoreStmt, do_step, do_set, do_unary, do_binary, do_load, do_store, do_new, do_call, do_library, do_if, do_loop, do_return, do_assert, do_raise, do_note, Code, no_code, code_and, CoreFunction, Core}
use Rattle.gc0_base.specs.declared.site.Decision.{Decision}
use Rattle.c0_meaning.specs.Operators.{pick}
use Rattle.c0_meaning.specs.Heaps.{Cells}
use Rattle.core_meaning.specs.CoreRuns.{Visit, CoreState, Out, Next, Ends, Run, go_on, chain, ◌>>=◌, ◌>>◌, give, end, get, change, take_step, step, take_turn, turn, visit, write, state_of}
use Rattle.core_meaning.specs.CoreRunning.{mark, mark_over, or_stop, decide, consume, put, put_if, owned_or_stop, access, allocate, fault_at, or_fault, next_of, library_does, Calls, called_at, tested, unless_back, after_turn, turns, noted, core_exec, core_exec_all, returned, called, calls_at, Flow, On, Back, locals_of, before_of}
use Rattle.core_checks.specs.Subjects.{Subject, subject_of, subject_holds, subject_says}
use Rattle.core_checks.specs.Entries.{among_last}
use Rattle.core_checks.specs.Placements.{Guarded, Placement, kept_at}

-- what a guarded part says at a visit
abbrev pub guard_says : Core → Subject → Visit → Guarded → Bool
guard_says c x v g = not (among_last v.outcomes g.decisions) || subject_says c x g.part v.words v.heap v.owned

abbrev pub guards_say : Core → Subject → Visit → List Guarded → Bool
guards_say c x v [] = true
guards_say c x v (g ∷ gs) = guard_says c x v g && guards_say c x v gs

module _ (c : Core) (p : Placement) where
  -- what is decided at a visit holds exactly where each part holds that is placed there
  abbrev pub FineVisit : Visit → Type 0
  FineVisit v = IfSome (subject_of c v.site) (λ x. subject_holds c x v.words v.heap v.owned ≡ guards_say c x v (kept_at p v.site))

  abbrev pub AreFine : List Visit → Type 0
  AreFine [] = Unit {0}
  AreFine (v ∷ vs) = FineVisit v × AreFine vs

  abbrev pub Fine : CoreState → Type 0
  Fine s = AreFine s.visits

  pub fine_front : (vs ws : List Visit) → AreFine (vs ++ ws) → AreFine vs
  fine_front [] ws f = tt
  fine_front (v ∷ vs) ws f = (f.0, fine_front vs ws f.1)

  pub fine_back : (vs ws : List Visit) → AreFine (vs ++ ws) → AreFine ws
  fine_back [] ws f = f
  fine_back (v ∷ vs) ws f = fine_back vs ws f.1

  -- what is fine behind a part was fine before it, and turns only fall
  pub record Keeps {A : Type 0} (m : Run A) : Type 0 where
    pub by : (s : CoreState) → Fine (state_of (m s)) → Fine s
    pub falls : (s : CoreState) → (state_of (m s)).turns ≤ s.turns

  equal_le : (m n : ℕ) → m ≡ n → m ≤ n
  equal_le m n e = omega (arith, e)

  -- ---- one combinator after another
  pub keeps_on : {A B : Type 0} (o : Out A) (f : A → Run B) → ((x : A) → Keeps (f x)) → Fine (state_of (go_on o f)) → Fine (state_of o)
  keeps_on (Next x s) f k h = (k x).by s h
  keeps_on (Ends e s) f k h = h

  falls_on : {A B : Type 0} (o : Out A) (f : A → Run B) → ((x : A) → Keeps (f x)) → (state_of (go_on o f)).turns ≤ (state_of o).turns
  falls_on (Next x s) f k = (k x).falls s
  falls_on (Ends e s) f k = equal_le s.turns s.turns refl

  both_le : (a b d : ℕ) → a ≤ b → b ≤ d → a ≤ d
  both_le a b d h k = omega (arith, h, k)

  pub k_chain : {A B : Type 0} (m : Run A) (f : A → Run B) → Keeps m → ((x : A) → Keeps (f x)) → Keeps (chain m f)
  unfolding chain
  k_chain m f a k = record { by = λ s h. a.by s (keeps_on (m s) f k h); falls = λ s. both_le _ _ _ (falls_on (m s) f k) (a.falls s) }

  pub k_give : {A : Type 0} (x : A) → Keeps (give x)
  unfolding give
  k_give x = record { by = λ s h. h; falls = λ s. equal_le s.turns s.turns refl }

  pub k_end : {A : Type 0} (e : Ending) → Keeps (end {A = A} e)
  unfolding end
  k_end e = record { by = λ s h. h; falls = λ s. equal_le s.turns s.turns refl }

  pub k_get : {A : Type 0} (f : CoreState → A) → Keeps (get f)
  unfolding get
  k_get f = record { by = λ s h. h; falls = λ s. equal_le s.turns s.turns refl }

  -- a change that leaves the visits
  pub k_change : (f : CoreState → CoreState) → ((s : CoreState) → (f s).visits ≡ s.visits) → ((s : CoreState) → (f s).turns ≡ s.turns) → Keeps (change f)
  unfolding change
  k_change f e t = record { by = λ s h. subst AreFine (e s) h; falls = λ s. equal_le (f s).turns s.turns (t s) }

  pub k_step : Keeps step
  k_step = record { by = λ s. by_steps s.steps s; falls = λ s. falling s.steps s }
    where
      falling : (n : ℕ) (s : CoreState) → (state_of (take_step n s)).turns ≤ s.turns
      falling zero s = equal_le s.turns s.turns refl
      falling (suc n) s = equal_le s.turns s.turns refl

      by_steps : (n : ℕ) (s : CoreState) → Fine (state_of (take_step n s)) → Fine s
      by_steps zero s h = h
      by_steps (suc n) s h = h

  pub k_turn : Keeps turn
  k_turn = record { by = λ s. by_turns s.turns s; falls = λ s. falling s.turns s refl }
    where
      falling : (n : ℕ) (s : CoreState) → s.turns ≡ n → (state_of (take_turn n s)).turns ≤ s.turns
      falling zero s e = equal_le s.turns s.turns refl
      falling (suc n) s e = omega (arith, e)

      by_turns : (n : ℕ) (s : CoreState) → Fine (state_of (take_turn n s)) → Fine s
      by_turns zero s h = h
      by_turns (suc n) s h = h

  pub k_visit : (site : Site) (words : List ℕ) → Keeps (visit site words)
  unfolding change
  k_visit site words = record { by = λ s h. fine_front s.visits _ h; falls = λ s. equal_le s.turns s.turns refl }

  pub k_pick : {A : Type 0} (x : ℕ) (m n : Run A) → Keeps m → Keeps n → Keeps (pick x m n)
  k_pick zero m n a b = a
  k_pick (suc x) m n a b = b

  -- ---- formulas
  pub k_mark : (site : Site) (phase : Phase) (parts : Conjuncts) (words : CoreState → Option (List ℕ)) → Keeps (mark c site phase parts words)
  unfolding mark change
  k_mark site phase parts words = record { by = λ s h. h; falls = λ s. equal_le s.turns s.turns refl }

  pub k_or_stop : (site : Site) (formula : Formula) (all : Cells) (o : Option Cells) → Keeps (or_stop site formula all o)
  k_or_stop site formula all None = k_end (Stop site)
  k_or_stop site formula all (Some foot) = k_give _

  pub k_decide : (site : Site) (formula : Formula) (outer : Cells) (words : List ℕ) → Keeps (decide c site formula outer words)
  unfolding decide
  k_decide site formula outer words =
      k_chain _ _ (k_visit site words) (λ _. k_chain _ _ (k_get _) (λ owned. k_chain _ _ (k_get _) (λ found. k_or_stop site formula (outer ++ owned) found)))

  pub k_consume : (site : Site) (formula : Formula) (outer : Cells) (words : List ℕ) → Keeps (consume c site formula outer words)
  k_consume site formula outer words = k_chain _ _ (k_mark _ _ _ _) (λ _. k_decide site formula outer words)

  -- ---- statements
  pub k_put : (to x : ℕ) → Keeps (put to x)
  k_put to x = k_chain _ _ (k_change _ (λ s. refl) (λ s. refl)) (λ _. k_give On)

  pub k_put_if : (to : Option ℕ) (x : ℕ) → Keeps (put_if to x)
  k_put_if None x = k_give On
  k_put_if (Some to) x = k_put to x

  k_owned : (site : Site) (b : Bool) → Keeps (owned_or_stop site b)
  k_owned site true = k_give tt
  k_owned site false = k_end (Stop site)

  pub k_access : (site : Site) (base field : ℕ) → Keeps (access site base field)
  unfolding access
  k_access site zero field = k_end _
  k_access site (suc n) field = k_chain _ _ (k_visit _ _) (λ _. k_chain _ _ (k_get _) (λ owned. k_chain _ _ (k_owned site owned) (λ _. k_give _)))

  pub k_allocate : (k fields : ℕ) → Keeps (allocate k fields)
  unfolding allocate
  k_allocate k fields = record { by = λ s h. h; falls = λ s. equal_le s.turns s.turns refl }

  pub k_fault : (kind : TrapKind) (site : Option Site) → Keeps (fault_at kind site)
  k_fault kind None = k_end _
  k_fault kind (Some site) = k_end _

  pub k_or_fault : (kind : TrapKind) (site : Option Site) (o : Option ℕ) → Keeps (or_fault kind site o)
  k_or_fault kind site None = k_fault kind site
  k_or_fault kind site (Some x) = k_give x

  k_next : (site : Option Site) (input : List ℕ) → Keeps (next_of site input)
  k_next site [] = k_fault _ site
  k_next site (x ∷ xs) = k_chain _ _ (k_change _ (λ s. refl) (λ s. refl)) (λ _. k_give x)

  k_write : (bytes : List ℕ) (x : ℕ) → Keeps (write bytes >> give x)
  k_write bytes x = k_chain _ _ (k_change _ (λ s. refl) (λ s. refl)) (λ _. k_give x)

  pub k_library : (site : Option Site) (l : LibraryCall) (x : ℕ) (t : Option ℕ) → Keeps (library_does c site l x t)
  k_library site library.PrintInt x t = k_write _ _
  k_library site library.PrintBool x t = k_write _ _
  k_library site library.Print x t = k_write _ _
  k_library site library.PrintLine x t = k_write _ _
  k_library site library.ReadInt x t = k_chain _ _ (k_get _) (λ input. k_next site input)
  k_library site library.MoreInt x t = k_get _

  pub k_tested : (d : Decision) (a : Simple) → Keeps (tested d a)
  k_tested d a = k_chain _ _ (k_get _) (λ x. k_chain _ _ (k_change _ (λ s. refl) (λ s. refl)) (λ _. k_give x))

  pub k_unless : (m : Run Flow) → Keeps m → (flow : Flow) → Keeps (unless_back flow m)
  k_unless m k On = k
  k_unless m k (Back at v) = k_give _

  pub k_after : (further : Cells → Run Flow) → ((outer : Cells) → Keeps (further outer)) → (outer : Cells) (flow : Flow) → Keeps (after_turn further outer flow)
  k_after further k outer On = record { by = λ s h. (k (outer ++ s.owned)).by s h; falls = λ s. (k (outer ++ s.owned)).falls s }
  k_after further k outer (Back at v) = record { by = λ s h. h; falls = λ s. equal_le s.turns s.turns refl }

  pub k_noted : (site : Site) (kind : NoteKind) (formula : Formula) (words : List ℕ) → Keeps (noted c site kind formula words)
  k_noted site assert_note formula words = k_chain _ _ (k_consume site formula [] words) (λ _. k_give On)
  k_noted site fold_note formula words = k_chain _ _ (k_mark _ _ _ _) (λ _. k_chain _ _ (k_decide site formula [] words) (λ _. k_give On))
  k_noted site unfold_note formula words = k_chain _ _ (k_decide site formula [] words) (λ _. k_chain _ _ (k_mark _ _ _ _) (λ _. k_give On))

  -- ---- calls and loops
  abbrev pub KeepsCalls : Calls → Type 0
  KeepsCalls go = (g : ℕ) (args : List ℕ) (start : Cells) → Keeps (go g args start)

  pub k_called_at : (go : Calls) → KeepsCalls go → (site : Site) (g : ℕ) (f : Option CoreFunction) (xs : List ℕ) → Keeps (called_at c go site g f xs)
  k_called_at go kc site g f xs =
      k_chain _ _ k_turn (λ _. k_chain _ _ (k_consume site (before_of f) [] xs) (λ start. k_chain _ _ (kc g xs start) (λ v. k_chain _ _ (k_mark _ _ _ _) (λ _. k_give v))))

  module _ (head : Site → Cells → Run Cells) (produced : Run (Unit {0})) (test : Run ℕ) (body : Run Flow) (later : Site)
      (kh : (site : Site) (outer : Cells) → Keeps (head site outer)) (kp : Keeps produced) (kt : Keeps test) (kb : Keeps body) where
    pub k_turns : (n : ℕ) (site : Site) (outer : Cells) → Keeps (turns n head produced test body later site outer)
    k_turns zero site outer = k_end _
    k_turns (suc n) site outer =
        k_chain _ _ (kh site outer) (λ start. k_chain _ _ (k_change _ (λ s. refl) (λ s. refl)) (λ _. k_chain _ _ kp (λ _. k_chain _ _ k_turn (λ _. k_chain _ _ kt
        (λ x. k_pick x _ _ (k_chain _ _ (k_change _ (λ s. refl) (λ s. refl)) (λ _. k_give On)) (k_chain _ _ kb (k_after _ (k_turns n later) outer)))))))

  pub k_head : (f : CoreFunction) (site : Site) (inv : Formula) (outer : Cells) → Keeps (get (locals_of f) >>= consume c site inv outer)
  k_head f site inv outer = k_chain _ _ (k_get _) (k_consume site inv outer)

  pub k_produced : (f : CoreFunction) (site : Site) (inv : Formula) → Keeps (get (locals_of f) >>= mark_over c site Produce inv)
  k_produced f site inv = k_chain _ _ (k_get _) (λ words. k_mark site Produce inv.parts (λ s. Some words))

  module _ (f : CoreFunction) (go : Calls) (kc : KeepsCalls go) where
    mutual
      pub k_stmt : (s : CoreStmt) → Keeps (core_exec c f go s)
      k_stmt do_step = k_chain _ _ k_step (λ _. k_give On)
      k_stmt (do_set to a) = k_chain _ _ (k_get _) (k_put to)
      k_stmt (do_unary to o a) = k_chain _ _ (k_get _) (λ x. k_put to _)
      k_stmt (do_binary to o a b site) = k_chain _ _ (k_get _) (λ x. k_chain _ _ (k_get _) (λ y. k_chain _ _ (k_or_fault _ site _) (λ z. k_put to z)))
      k_stmt (do_load to base k field site) = k_chain _ _ (k_get _) (λ b. k_chain _ _ (k_access site b field) (λ d. k_chain _ _ (k_get _) (λ x. k_put to x)))
      k_stmt (do_store base k field value site) =
          k_chain _ _ (k_get _) (λ b. k_chain _ _ (k_get _) (λ x. k_chain _ _ (k_access site b field) (λ d. k_chain _ _ (k_change _ (λ s. refl) (λ s. refl)) (λ _. k_give On))))
      k_stmt (do_new to k) = k_chain _ _ (k_allocate _ _) (λ object. k_put to object)
      k_stmt (do_call to g args site) = k_chain _ _ (k_get _) (λ xs. k_chain _ _ (k_called_at go kc site g (slice_get c.functions g) xs) (λ v. k_put_if to v))
      k_stmt (do_library to l a t site) = k_chain _ _ (k_get _) (λ x. k_chain _ _ (k_library site l x t) (λ v. k_put_if to v))
      k_stmt (do_if d a these those) = k_chain _ _ (k_tested d a) (λ x. k_pick x _ _ (k_code those) (k_code these))
      k_stmt (do_loop entry again inv d test a body) =
          k_chain _ _ (k_get _) (λ all. k_chain _ _ (k_get _) (λ n. k_turns (λ site outer. get (locals_of f) >>= consume c site inv outer) (get (locals_of f) >>= mark_over c entry Produce inv)
          (core_exec_all c f go test >> tested d a) (core_exec_all c f go body) again
          (λ site outer. k_head f site inv outer) (k_produced f entry inv) (k_chain _ _ (k_code test) (λ _. k_tested d a)) (k_code body) (suc n) entry all))
      k_stmt (do_return a site) = k_chain _ _ (k_get _) (λ x. k_give _)
      k_stmt (do_assert a site) = k_chain _ _ (k_get _) (λ x. k_pick x _ _ (k_end _) (k_give On))
      k_stmt (do_raise t site) = k_end _
      k_stmt (do_note k formula site) = k_chain _ _ (k_get _) (k_noted site k formula)

      pub k_code : (code : Code) → Keeps (core_exec_all c f go code)
      k_code no_code = k_give On
      k_code (code_and s rest) = k_chain _ _ (k_stmt s) (k_unless _ (k_code rest))

  pub k_returned : (f : CoreFunction) (flow : Flow) → Keeps (returned c f flow)
  k_returned f On = k_end _
  k_returned f (Back site v) = k_chain _ _ (k_get _) (λ words. k_chain _ _ (k_consume site f.after [] words) (λ _. k_give v))

  pub k_called : (go : Calls) → KeepsCalls go → (g : ℕ) (f : Option CoreFunction) (args : List ℕ) (start : Cells) → Keeps (called c go g f args start)
  k_called go kc g None args start = k_end _
  k_called go kc g (Some f) args start =
      k_chain _ _ (k_get _) (λ caller. k_chain _ _ (k_change _ (λ s. refl) (λ s. refl)) (λ _. k_chain _ _ (k_mark _ _ _ _) (λ _. k_chain _ _ (k_code f go kc f.body)
      (λ flow. k_chain _ _ (k_returned f flow) (λ v. k_chain _ _ (k_change _ (λ s. refl) (λ s. refl)) (λ _. k_give v))))))

  pub k_calls : (k : ℕ) → KeepsCalls (calls_at k c)
  k_calls zero g args start = k_end _
  k_calls (suc k) g args start = k_called (calls_at k c) (k_calls k) g (slice_get c.functions g) args start
