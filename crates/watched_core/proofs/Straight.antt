-- Statements without loops and calls.
use Rattle.std.proofs.Common.{◌≡◌, ℕ, zero, suc, Bool, true, false, ◌||◌, eqb, List, [], ◌∷◌, ◌++◌, length, take, replicate, Option, Some, None, refl, sym, ap, ◌∙◌, subst, arith}
use Rattle.std.specs.Prelude.{slice_get, slice_set, slice_index, if◌then◌else◌}
use Rattle.gc0_base.specs.declared.site.Site.{Site}
use Rattle.gc0_base.specs.declared.site.TrapKind.{TrapKind}
use Rattle.gc0_base.specs.declared.site.TrapKind.TheVariants as trap
use Rattle.gc0_base.specs.declared.site.Ending.TheVariants.{Stop, Fault}
use Rattle.gc0_tree.specs.declared.LibraryCall.{LibraryCall}
use Rattle.gc0_tree.specs.declared.LibraryCall.TheVariants as library
use Rattle.gc0_tree.specs.Tree.{Formula, NoteKind, assert_note, fold_note, unfold_note}
use Rattle.core_tree.specs.declared.Simple.{Simple}
use Rattle.core_tree.specs.declared.Simple.TheVariants as simple
use Rattle.core_tree.specs.declared.Phase.TheVariants.{Produce, Consume}
use Rattle.core_tree.specs.CoreTree.{CoreStmt, do_set, do_unary, do_binary, do_load, do_store, do_new, do_library, do_assert, do_raise, do_note, CoreFunction, Core}
use Rattle.c0_meaning.specs.Operators.{truth_word, unary_word, binary_word, pick, fault_of, number_text, truth_text}
use Rattle.c0_meaning.specs.Heaps.{Cell, Cells, owns, cells_of, cell_value, set_cell}
use Rattle.c0_meaning.specs.Running.{or_0, fields_of, has_more}
use Rattle.core_meaning.specs.CoreRuns as core
use Rattle.core_meaning.specs.CoreRuns.{Outcomes, Visit, CoreState}
use Rattle.core_meaning.specs.CoreRunning as running
use Rattle.core_meaning.specs.CoreRunning.{Flow, On, Back, op_of, text_of, locals_of, core_exec}
use Rattle.core_meaning.specs.Choices.{instance_body, instance_words}
use Rattle.core_meaning.specs.Deciding.{Due}
use Rattle.core_checks.specs.Parts.{access_says}
use Rattle.core_checks.specs.Subjects.{of_formula, of_access, SubjectAt, stmt_subjects, is_fold}
use Rattle.core_checks.specs.Placements.{Placement, kept_at, is_tracked}
use Rattle.watched_core.specs.WatchRuns as watch
use Rattle.watched_core.specs.WatchRuns.{WatchState, top_of, closed, added, closed_by}
use Rattle.watched_core.specs.Watching as watching
use Rattle.watched_core.specs.Watching.{is_marked}
use Rattle.watched_core.proofs.Sets.{same_refl, instance_same}
use Rattle.watched_core.proofs.Fine.{Fine, Keeps, KeepsCalls, k_put, k_put_if, k_noted, k_chain, k_get, k_change, k_give, k_mark}
use Rattle.watched_core.proofs.Follow.{Knows, top_same, nested_add, joins, Alike, At, Post, Follows, follows_on, assoc, thus}
use Rattle.watched_core.proofs.Deciding.{SiteOk, Checked, visit_of, visited, view_at, viewed_end, site_checked, Decided, decide_follows, marked_state, marked_watch, mark_at, Consumed, consume_follows}

-- each of a list
abbrev pub Each : {A : Type 0} → (A → Type 0) → List A → Type 0
Each P [] = Unit {0}
Each P (x ∷ xs) = P x × Each P xs

pub each_front : {A : Type 0} (P : A → Type 0) (xs ys : List A) → Each P (xs ++ ys) → Each P xs
each_front P [] ys e = tt
each_front P (x ∷ xs) ys e = (e.0, each_front P xs ys e.1)

pub each_back : {A : Type 0} (P : A → Type 0) (xs ys : List A) → Each P (xs ++ ys) → Each P ys
each_back P [] ys e = e
each_back P (x ∷ xs) ys e = each_back P xs ys e.1

pub word_same : (a : Simple) (s : CoreState) (w : WatchState) → Alike s w → watching.word_of a w ≡ running.word_of a s
word_same (simple.Const x) s w k = refl
word_same (simple.Local i) s w k = ap (λ ws. slice_index ws i) k.words

pub word_in_same : (a : Option Simple) (s : CoreState) (w : WatchState) → Alike s w → watching.word_in a w ≡ running.word_in a s
word_in_same None s w k = refl
word_in_same (Some a) s w k = word_same a s w k

suc_not_zero : (n : ℕ) → eqb (suc n) 0 ≡ false
suc_not_zero n = grind arith

pub locals_same : (f : CoreFunction) (s : CoreState) (w : WatchState) → Alike s w → watching.locals_of f w ≡ locals_of f s
locals_same f s w k = ap (take (length f.locals)) k.words

module _ (c : Core) (p : Placement) (g : ℕ) (f : CoreFunction) (base : List Cells) where
  abbrev pub Ok : SubjectAt → Type 0
  Ok x = SiteOk c p g x.site x.subject

  abbrev pub Its : Due → Type 0
  Its x = x.decision.function ≡ g

  -- behind a statement; a return has ended the levels round it
  abbrev pub FlowAt : (returns : Bool) → List Cells → Flow → CoreState → WatchState → Type 0
  FlowAt r os On t u = At p g base (t.owned ∷ os) t u
  FlowAt r os (Back site v) t u = (r ≡ true) × SiteOk c p g site (of_formula false f.after) × At p g base (joins os t.owned ∷ []) t u

  abbrev pub Flows : (returns : Bool) → List Cells → Post Flow Flow
  Flows r os x y t u = (y ≡ x) × FlowAt r os x t u

  -- ---- changes
  at_words : (os : List Cells) (s : CoreState) (w : WatchState) (to x y : ℕ) → y ≡ x → At p g base (s.owned ∷ os) s w →
      At p g base (s.owned ∷ os) (record s { words = slice_set s.words to x }) (record w { words = slice_set w.words to y })
  at_words os s w to x y e at = record {
    alike = record { words = ap (λ v. slice_set w.words to v) e ∙ ap (λ ws. slice_set ws to x) at.alike.words; heap = at.alike.heap; input = at.alike.input; output = at.alike.output; steps = at.alike.steps; turns = at.alike.turns };
    knows = at.knows;
    agrees = at.agrees;
  }

  pub put_follows : (r : Bool) (os : List Cells) (to x y : ℕ) (s : CoreState) (w : WatchState) → y ≡ x → At p g base (s.owned ∷ os) s w → Follows (Flows r os) (running.put to x s) (watching.put to y w)
  unfolding core.chain core.change core.give watch.chain watch.change watch.give
  put_follows r os to x y s w e at = (refl, at_words os s w to x y e at)

  pub put_if_follows : (r : Bool) (os : List Cells) (to : Option ℕ) (x y : ℕ) (s : CoreState) (w : WatchState) → y ≡ x → At p g base (s.owned ∷ os) s w → Follows (Flows r os) (running.put_if to x s) (watching.put_if to y w)
  unfolding core.give watch.give
  put_if_follows r os None x y s w e at = (refl, at)
  put_if_follows r os (Some to) x y s w e at = put_follows r os to x y s w e at

  -- ---- steps and faults
  pub step_follows : (r : Bool) (os : List Cells) (s : CoreState) (w : WatchState) → At p g base (s.owned ∷ os) s w → Follows (Flows r os) (core.chain core.step (λ _. core.give On) s) (watch.chain watch.step (λ _. watch.give On) w)
  unfolding core.chain core.give watch.chain watch.give
  step_follows r os s w at = by_steps s.steps w.steps at.alike.steps
    where
      by_steps : (n m : ℕ) → m ≡ n → Follows (Flows r os) (core.go_on (core.take_step n s) (λ _. core.give On)) (watch.go_on (watch.take_step m w) (λ _. watch.give On))
      by_steps zero zero e = record { ending = refl; output = at.alike.output; view = refl }
      by_steps zero (suc m) e = absurd cc
      by_steps (suc n) zero e = absurd cc
      by_steps (suc n) (suc m) e = (
        refl,
        record {
          alike = record { words = at.alike.words; heap = at.alike.heap; input = at.alike.input; output = at.alike.output; steps = (let q : m ≡ n = omega (arith, e) in q); turns = at.alike.turns };
          knows = at.knows;
          agrees = at.agrees;
        },
      )

  -- a word, or C0's own fault
  abbrev Word : List Cells → Post ℕ ℕ
  Word os x y t u = (y ≡ x) × At p g base (t.owned ∷ os) t u

  fault_follows : (os : List Cells) (kind : TrapKind) (site : Option Site) (o : Option ℕ) (s : CoreState) (w : WatchState) → At p g base (s.owned ∷ os) s w → Follows (Word os) (running.or_fault kind site o s) (watching.or_fault kind site o w)
  unfolding core.give core.end watch.give watch.end
  fault_follows os kind None None s w at = record { ending = refl; output = at.alike.output; view = refl }
  fault_follows os kind (Some site) None s w at = record { ending = refl; output = at.alike.output; view = refl }
  fault_follows os kind site (Some x) s w at = (refl, at)

  next_follows : (os : List Cells) (site : Option Site) (i : List ℕ) (s : CoreState) (w : WatchState) → At p g base (s.owned ∷ os) s w → Follows (Word os) (running.next_of site i s) (watching.next_of site i w)
  unfolding core.give core.end core.chain core.change watch.give watch.end watch.chain watch.change
  next_follows os None [] s w at = record { ending = refl; output = at.alike.output; view = refl }
  next_follows os (Some site) [] s w at = record { ending = refl; output = at.alike.output; view = refl }
  next_follows os site (x ∷ xs) s w at = (
    refl,
    record {
      alike = record { words = at.alike.words; heap = at.alike.heap; input = refl; output = at.alike.output; steps = at.alike.steps; turns = at.alike.turns };
      knows = at.knows;
      agrees = at.agrees;
    },
  )

  write_follows : (os : List Cells) (bytes : List ℕ) (s : CoreState) (w : WatchState) → At p g base (s.owned ∷ os) s w →
      Follows (Word os) (core.chain (core.write bytes) (λ _. core.give 0) s) (watch.chain (watch.write bytes) (λ _. watch.give 0) w)
  unfolding core.give core.chain core.change watch.give watch.chain watch.change
  write_follows os bytes s w at = (
    refl,
    record {
      alike = record { words = at.alike.words; heap = at.alike.heap; input = at.alike.input; output = ap (λ o. o ++ bytes) at.alike.output; steps = at.alike.steps; turns = at.alike.turns };
      knows = at.knows;
      agrees = at.agrees;
    },
  )

  reads_follow : (os : List Cells) (site : Option Site) (s : CoreState) (w : WatchState) → At p g base (s.owned ∷ os) s w →
      Follows (Word os) (core.chain (core.get (λ q. q.input)) (running.next_of site) s) (watch.chain (watch.get (λ q. q.input)) (watching.next_of site) w)
  unfolding core.chain core.get watch.chain watch.get
  reads_follow os site s w at = subst (λ i. Follows (Word os) (running.next_of site s.input s) (watching.next_of site i w)) (sym at.alike.input) (next_follows os site s.input s w at)

  asks_follow : (os : List Cells) (s : CoreState) (w : WatchState) → At p g base (s.owned ∷ os) s w →
      Follows (Word os) (core.get (λ q. truth_word (has_more q.input)) s) (watch.get (λ q. truth_word (has_more q.input)) w)
  unfolding core.get watch.get
  asks_follow os s w at = (ap (λ i. truth_word (has_more i)) at.alike.input, at)

  library_follows : (os : List Cells) (site : Option Site) (l : LibraryCall) (x : ℕ) (t : Option ℕ) (s : CoreState) (w : WatchState) → At p g base (s.owned ∷ os) s w →
      Follows (Word os) (running.library_does c site l x t s) (watching.library_does c site l x t w)
  library_follows os site library.PrintInt x t s w at = write_follows os (number_text x) s w at
  library_follows os site library.PrintBool x t s w at = write_follows os (truth_text x) s w at
  library_follows os site library.Print x t s w at = write_follows os (text_of c t) s w at
  library_follows os site library.PrintLine x t s w at = write_follows os (text_of c t ++ 10 ∷ []) s w at
  library_follows os site library.ReadInt x t s w at = reads_follow os site s w at
  library_follows os site library.MoreInt x t s w at = asks_follow os s w at

  -- ---- accesses
  abbrev Reached : (base field : ℕ) → List Cells → CoreState → Post Cell (Unit {0})
  Reached b field os s d y t u = (d ≡ record { object = b; field = field }) × At p g base (s.owned ∷ os) t u × (t.heap ≡ s.heap) × (t.owned ≡ s.owned)

  access_follows : (os : List Cells) (site : Site) (b field : ℕ) (s : CoreState) (w : WatchState) → SiteOk c p g site of_access → At p g base (s.owned ∷ os) s w → Fine c p (core.state_of (running.access site b field s)) →
      Follows (Reached b field os s) (running.access site b field s) (watching.access c p site b field w)
  unfolding running.access core.chain core.get core.change core.give core.end watch.end watching.check
  access_follows os site zero field s w ok at fine = record { ending = refl; output = at.alike.output; view = refl }
  access_follows os site (suc n) field s w ok at fine =
      by_owned (owns s.owned d) refl (k_owned (owns s.owned d) fine)
    where
      d : Cell
      d = record { object = suc n; field = field }

      words : List ℕ
      words = suc n ∷ field ∷ []

      s1 : CoreState
      s1 = visited c p g site words s

      k_owned : (b : Bool) → Fine c p (core.state_of (core.go_on (running.owned_or_stop site b s1) (λ _. core.give d))) → Fine c p s1
      k_owned true h = h
      k_owned false h = h

      says : (b : Bool) → owns s.owned d ≡ b → access_says s.owned words ≡ b
      says b e = ap (λ x. x || owns s.owned d) (suc_not_zero n) ∙ e

      by_owned : (b : Bool) → owns s.owned d ≡ b → Fine c p s1 →
          Follows (Reached (suc n) field os s) (core.go_on (running.owned_or_stop site b s1) (λ _. core.give d)) (watching.check_each c site of_access words (kept_at p site) w)
      by_owned true e fine1 =
          let k = site_checked c p g site of_access words base os s w ok at fine1 in
          let x : watching.check_each c site of_access words (kept_at p site) w ≡ watch.Next tt w = subst (λ b. Checked c p g site words w b (watching.check_each c site of_access words (kept_at p site) w)) (says true e) k.0 in
          subst (Follows (Reached (suc n) field os s) (core.Next d s1)) (sym x)
          (refl, record { alike = record { words = at.alike.words; heap = at.alike.heap; input = at.alike.input; output = at.alike.output; steps = at.alike.steps; turns = at.alike.turns }; knows = at.knows; agrees = at.agrees }, refl, refl)
      by_owned false e fine1 =
          let k = site_checked c p g site of_access words base os s w ok at fine1 in
          let x : watching.check_each c site of_access words (kept_at p site) w ≡ watch.Ends (Stop site) (Some (view_at c p g site words w)) w = subst (λ b. Checked c p g site words w b (watching.check_each c site of_access words (kept_at p site) w)) (says false e) k.0 in
          subst (Follows (Reached (suc n) field os s) (core.Ends (Stop site) s1)) (sym x)
          record {
            ending = refl;
            output = at.alike.output;
            view = viewed_end s.visits (visit_of c p g site words s) (view_at c p g site words w) site
                record { decided = refl; at = refl; words = refl; heap = at.alike.heap; owned = k.1 (says false e) };
          }

  -- ---- statements
  abbrev Stmt : (s : CoreStmt) → Type 0
  Stmt s = (go : running.Calls) (wgo : watching.Calls) (os : List Cells) (q : CoreState) (w : WatchState) → Each Ok (stmt_subjects c f s) → At p g base (q.owned ∷ os) q w → Fine c p (core.state_of (core_exec c f go s q)) →
      Follows (Flows false os) (core_exec c f go s q) (watching.watch c p g f wgo (length os) s w)

  pub set_follows : (to : ℕ) (a : Simple) → Stmt (do_set to a)
  unfolding core.chain core.get watch.chain watch.get
  set_follows to a go wgo os q w ok at fine = put_follows false os to (running.word_of a q) (watching.word_of a w) q w (word_same a q w at.alike) at

  pub unary_follows : (to : ℕ) (o : Rattle.gc0_tree.specs.declared.UnaryOp.UnaryOp) (a : Simple) → Stmt (do_unary to o a)
  unfolding core.chain core.get watch.chain watch.get
  unary_follows to o a go wgo os q w ok at fine = put_follows false os to (unary_word o (running.word_of a q)) (unary_word o (watching.word_of a w)) q w (ap (unary_word o) (word_same a q w at.alike)) at

  pub binary_follows : (to : ℕ) (o : Rattle.core_tree.specs.declared.BinaryOp.BinaryOp) (a b : Simple) (site : Option Site) → Stmt (do_binary to o a b site)
  unfolding core.chain core.get watch.chain watch.get
  binary_follows to o a b site go wgo os q w ok at fine =
      subst (λ r. Follows (Flows false os) (core.go_on (running.or_fault (fault_of (op_of o)) site result q) (running.put to)) (watch.go_on (watching.or_fault (fault_of (op_of o)) site r w) (watching.put to))) (sym same)
      (follows_on c p (Word os) (Flows false os) (running.or_fault (fault_of (op_of o)) site result q) (watching.or_fault (fault_of (op_of o)) site result w) (running.put to) (watching.put to)
      (fault_follows os (fault_of (op_of o)) site result q w at) (λ x y t u fu k. put_follows false os to x y t u k.0 k.1) fine)
    where
      result : Option ℕ
      result = binary_word (op_of o) (running.word_of a q) (running.word_of b q)

      same : binary_word (op_of o) (watching.word_of a w) (watching.word_of b w) ≡ result
      same = ap (λ x. binary_word (op_of o) x (watching.word_of b w)) (word_same a q w at.alike) ∙ ap (binary_word (op_of o) (running.word_of a q)) (word_same b q w at.alike)

  pub library_stmt_follows : (to : Option ℕ) (l : LibraryCall) (a : Option Simple) (t : Option ℕ) (site : Option Site) → Stmt (do_library to l a t site)
  unfolding core.chain core.get watch.chain watch.get
  library_stmt_follows to l a t site go wgo os q w ok at fine =
      subst (λ x. Follows (Flows false os) (core.go_on (running.library_does c site l (running.word_in a q) t q) (running.put_if to)) (watch.go_on (watching.library_does c site l x t w) (watching.put_if to))) (sym (word_in_same a q w at.alike))
      (follows_on c p (Word os) (Flows false os) (running.library_does c site l (running.word_in a q) t q) (watching.library_does c site l (running.word_in a q) t w) (running.put_if to) (watching.put_if to)
      (library_follows os site l (running.word_in a q) t q w at) (λ x y t u fu k. put_if_follows false os to x y t u k.0 k.1) fine)

  -- the words at a base are the core's
  based : (base' : Simple) (q : CoreState) (w : WatchState) → Alike q w → watching.word_of base' w ≡ running.word_of base' q
  based base' q w k = word_same base' q w k

  load_on : (to b field : ℕ) (site : Site) (os : List Cells) (q : CoreState) (w : WatchState) → SiteOk c p g site of_access → At p g base (q.owned ∷ os) q w →
      Fine c p (core.state_of (core.go_on (running.access site b field q) (λ d. core.chain (core.get (λ s. or_0 (cell_value s.heap d))) (running.put to)))) →
      Follows (Flows false os) (core.go_on (running.access site b field q) (λ d. core.chain (core.get (λ s. or_0 (cell_value s.heap d))) (running.put to)))
      (watch.go_on (watching.access c p site b field w) (λ _. watch.chain (watch.get (λ s. or_0 (cell_value s.heap record { object = b; field = field }))) (watching.put to)))
  unfolding core.chain core.get watch.chain watch.get
  load_on to b field site os q w ok at fine =
      follows_on c p (Reached b field os q) (Flows false os) (running.access site b field q) (watching.access c p site b field w) _ _
      (access_follows os site b field q w ok at (Rattle.watched_core.proofs.Fine.keeps_on c p (running.access site b field q) (λ d. core.chain (core.get (λ s. or_0 (cell_value s.heap d))) (running.put to)) (λ d. k_chain c p _ _ (k_get c p _) (λ x. k_put c p to x)) fine))
      (λ d y t u fu k. put_follows false os to (or_0 (cell_value t.heap d)) (or_0 (cell_value u.heap record { object = b; field = field })) t u
      (ap (λ h. or_0 (cell_value h record { object = b; field = field })) k.1.alike.heap ∙ ap (λ x. or_0 (cell_value t.heap x)) (sym k.0))
      (subst (λ o. At p g base (o ∷ os) t u) (sym k.3) k.1))
      fine

  pub load_follows : (to : ℕ) (b : Simple) (k field : ℕ) (site : Site) → Stmt (do_load to b k field site)
  unfolding core.chain core.get watch.chain watch.get
  load_follows to b k field site go wgo os q w ok at fine =
      subst (λ x. Follows (Flows false os) (core_exec c f go (do_load to b k field site) q)
      (watch.go_on (watching.access c p site x field w) (λ _. watch.chain (watch.get (λ s. or_0 (cell_value s.heap record { object = x; field = field }))) (watching.put to)))) (sym (word_same b q w at.alike))
      (load_on to (running.word_of b q) field site os q w ok.0 at fine)

  store_on : (b field x : ℕ) (site : Site) (os : List Cells) (q : CoreState) (w : WatchState) → SiteOk c p g site of_access → At p g base (q.owned ∷ os) q w →
      Fine c p (core.state_of (core.go_on (running.access site b field q) (λ d. core.chain (core.change (λ s. record s { heap = set_cell s.heap d x })) (λ _. core.give On)))) →
      Follows (Flows false os) (core.go_on (running.access site b field q) (λ d. core.chain (core.change (λ s. record s { heap = set_cell s.heap d x })) (λ _. core.give On)))
      (watch.go_on (watching.access c p site b field w) (λ _. watch.chain (watch.change (λ s. record s { heap = set_cell s.heap record { object = b; field = field } x })) (λ _. watch.give On)))
  unfolding core.chain core.change core.give watch.chain watch.change watch.give
  store_on b field x site os q w ok at fine =
      follows_on c p (Reached b field os q) (Flows false os) (running.access site b field q) (watching.access c p site b field w) _ _
      (access_follows os site b field q w ok at (Rattle.watched_core.proofs.Fine.keeps_on c p (running.access site b field q) (λ d. core.chain (core.change (λ s. record s { heap = set_cell s.heap d x })) (λ _. core.give On)) (λ d. k_chain c p _ _ (k_change c p _ (λ s. refl) (λ s. refl)) (λ _. k_give c p On)) fine))
      (λ d y t u fu k. (
        refl,
        record {
          alike = record { words = k.1.alike.words; heap = ap (λ h. set_cell h record { object = b; field = field } x) k.1.alike.heap ∙ ap (λ e. set_cell t.heap e x) (sym k.0); input = k.1.alike.input; output = k.1.alike.output; steps = k.1.alike.steps; turns = k.1.alike.turns };
          knows = subst (λ o. Knows (is_tracked p g) base (o ∷ os) u.levels) (sym k.3) k.1.knows;
          agrees = k.1.agrees;
        },
      ))
      fine

  pub store_follows : (b : Simple) (k field : ℕ) (value : Simple) (site : Site) → Stmt (do_store b k field value site)
  unfolding core.chain core.get watch.chain watch.get
  store_follows b k field value site go wgo os q w ok at fine =
      subst (λ x. Follows (Flows false os) (core_exec c f go (do_store b k field value site) q)
      (watch.go_on (watching.access c p site x field w) (λ _. watch.chain (watch.change (λ s. record s { heap = set_cell s.heap record { object = x; field = field } (watching.word_of value w) })) (λ _. watch.give On)))) (sym (word_same b q w at.alike))
      (subst (λ y. Follows (Flows false os) (core_exec c f go (do_store b k field value site) q)
      (watch.go_on (watching.access c p site (running.word_of b q) field w) (λ _. watch.chain (watch.change (λ s. record s { heap = set_cell s.heap record { object = running.word_of b q; field = field } y })) (λ _. watch.give On)))) (sym (word_same value q w at.alike))
      (store_on (running.word_of b q) field (running.word_of value q) site os q w ok.0 at fine))

  -- a new object, owned where the function is tracked
  owned_new : (t : Bool) (os : List Cells) (own cells : Cells) (levels : List Cells) → Knows t base (own ∷ os) levels → Knows t base ((own ++ cells) ∷ os) (if t then added cells levels else levels)
  owned_new true os own cells levels k = nested_add base os levels own cells cells (same_refl cells) k
  owned_new false os own cells levels k = k

  pub new_follows : (to k : ℕ) → Stmt (do_new to k)
  unfolding core.chain core.change core.give running.allocate watch.chain watch.change watch.give
  new_follows to k go wgo os q w ok at fine = by_tracked (is_tracked p g) refl
    where
      n : ℕ
      n = fields_of (slice_get c.structs k)

      object : ℕ
      object = suc (length q.heap)

      s1 : CoreState
      s1 = record q { heap = q.heap ++ record { of_struct = k; fields = replicate n 0 } ∷ []; owned = q.owned ++ cells_of object n }

      number : suc (length w.heap) ≡ object
      number = ap (λ h. suc (length h)) at.alike.heap

      w1 : WatchState
      w1 = record w { heap = w.heap ++ record { of_struct = k; fields = replicate n 0 } ∷ [] }

      at1 : (levels : List Cells) → Knows (is_tracked p g) base ((q.owned ++ cells_of object n) ∷ os) levels → At p g base (s1.owned ∷ os) s1 (record w1 { levels = levels })
      at1 levels kn = record {
        alike = record { words = at.alike.words; heap = ap (λ h. h ++ record { of_struct = k; fields = replicate n 0 } ∷ []) at.alike.heap; input = at.alike.input; output = at.alike.output; steps = at.alike.steps; turns = at.alike.turns };
        knows = kn;
        agrees = at.agrees;
      }

      added_knows : (t : Bool) → is_tracked p g ≡ t → Knows (is_tracked p g) base ((q.owned ++ cells_of object n) ∷ os) (if t then added (cells_of (suc (length w.heap)) n) w.levels else w.levels)
      added_knows t e = subst (λ i. Knows (is_tracked p g) base ((q.owned ++ cells_of object n) ∷ os) (if t then added (cells_of i n) w.levels else w.levels)) (sym number)
          (subst (λ b. Knows (is_tracked p g) base ((q.owned ++ cells_of object n) ∷ os) (if b then added (cells_of object n) w.levels else w.levels)) e (owned_new (is_tracked p g) os q.owned (cells_of object n) w.levels at.knows))

      by_tracked : (t : Bool) → is_tracked p g ≡ t → Follows (Flows false os) (running.put to object s1)
          (watch.go_on (watching.when t (λ s. record s { levels = added (cells_of (suc (length w.heap)) n) s.levels }) w1) (λ _. watching.put to (suc (length w.heap))))
      by_tracked true e = put_follows false os to object (suc (length w.heap)) s1 (record w1 { levels = added (cells_of (suc (length w.heap)) n) w.levels }) number (at1 (added (cells_of (suc (length w.heap)) n) w.levels) (added_knows true e))
      by_tracked false e = put_follows false os to object (suc (length w.heap)) s1 w1 number (at1 w.levels (added_knows false e))

  asserted : (site : Site) (os : List Cells) (q : CoreState) (w : WatchState) → At p g base (q.owned ∷ os) q w → (x : ℕ) →
      Follows (Flows false os) (pick x (core.end (Fault trap.Assertion site)) (core.give On) q) (pick x (watch.end (Fault trap.Assertion site)) (watch.give On) w)
  unfolding core.end core.give watch.end watch.give
  asserted site os q w at zero = record { ending = refl; output = at.alike.output; view = refl }
  asserted site os q w at (suc x) = (refl, at)

  pub assert_follows : (a : Simple) (site : Site) → Stmt (do_assert a site)
  unfolding core.chain core.get watch.chain watch.get
  assert_follows a site go wgo os q w ok at fine =
      subst (λ x. Follows (Flows false os) (pick (running.word_of a q) (core.end (Fault trap.Assertion site)) (core.give On) q) (pick x (watch.end (Fault trap.Assertion site)) (watch.give On) w)) (sym (word_same a q w at.alike))
      (asserted site os q w at (running.word_of a q))

  pub raise_follows : (t : ℕ) (site : Site) → Stmt (do_raise t site)
  unfolding core.end watch.end
  raise_follows t site go wgo os q w ok at fine = record { ending = refl; output = at.alike.output; view = refl }

  -- ---- annotations
  over_same : (words : List ℕ) (formula : Formula) (os : List Cells) (q : CoreState) (w : WatchState) → At p g base (q.owned ∷ os) q w → is_tracked p g ≡ true →
      instance_words w.heap (top_of w.levels) words formula.parts ≡ instance_words q.heap q.owned words formula.parts
  over_same words formula os q w at t =
      instance_same w.heap (top_of w.levels) q.owned (top_same (is_tracked p g) base os w.levels q.owned t at.knows) words formula.parts ∙ ap (λ h. instance_words h q.owned words formula.parts) at.alike.heap

  -- behind an unfold the choices of the body are marked
  body_marked : (formula : Formula) (site : Site) (words : List ℕ) (os : List Cells) (t : CoreState) (u : WatchState) → site.function ≡ g → At p g base (t.owned ∷ os) t u →
      Follows (Flows false os) (core.chain (running.mark_body c site Produce formula words) (λ _. core.give On) t) (watch.chain (watching.mark_body c p g site Produce formula words) (λ _. watch.give On) u)
  unfolding core.chain core.change core.give running.mark watch.chain watch.change watch.give watching.mark
  body_marked formula site words os t u of at =
      (refl, mark_at c p g site Produce (instance_body c.predicates formula.parts) (instance_words t.heap t.owned words formula.parts) (instance_words u.heap (top_of u.levels) words formula.parts) base os t u of (over_same words formula os t u at) at)

  unfold_follows : (formula : Formula) (site : Site) (words : List ℕ) (os : List Cells) (q : CoreState) (w : WatchState) → SiteOk c p g site (of_formula false formula) → At p g base (q.owned ∷ os) q w →
      Fine c p (core.state_of (running.noted c site unfold_note formula words q)) → Follows (Flows false os) (running.noted c site unfold_note formula words q) (watching.noted c p g site unfold_note formula words w)
  unfold_follows formula site words os q w ok at fine =
      subst (Follows (Flows false os) (running.noted c site unfold_note formula words q)) (sym (assoc (watching.check c p site (of_formula false formula) words) (λ _. watching.mark_body c p g site Produce formula words) (λ _. watch.give On) w))
      (thus c p (Decided c p g site formula [] words q w) (Flows false os) (running.decide c site formula [] words) (watching.check c p site (of_formula false formula) words)
      (λ _. core.chain (running.mark_body c site Produce formula words) (λ _. core.give On)) (λ _. watch.chain (watching.mark_body c p g site Produce formula words) (λ _. watch.give On)) q w
      (λ _. k_chain c p _ _ (k_mark c p _ _ _ _) (λ _. k_give c p On))
      (decide_follows c p g site false formula [] words base os q w ok at)
      (λ start y t u fu k. body_marked formula site words os t u ok.of (subst (λ x. At p g base (x.owned ∷ os) x u) (sym k.state) (subst (At p g base (q.owned ∷ os) (visited c p g site words q)) (sym k.watched)
      record { alike = record { words = at.alike.words; heap = at.alike.heap; input = at.alike.input; output = at.alike.output; steps = at.alike.steps; turns = at.alike.turns }; knows = at.knows; agrees = at.agrees })))
      fine)

  noted_follows : (kind : NoteKind) (formula : Formula) (site : Site) (words : List ℕ) (os : List Cells) (q : CoreState) (w : WatchState) → SiteOk c p g site (of_formula (is_fold kind) formula) → At p g base (q.owned ∷ os) q w →
      Fine c p (core.state_of (running.noted c site kind formula words q)) → Follows (Flows false os) (running.noted c site kind formula words q) (watching.noted c p g site kind formula words w)
  unfolding core.chain core.change core.give running.mark watch.chain watch.change watch.give watching.mark
  noted_follows assert_note formula site words os q w ok at fine =
      follows_on c p (Consumed c p g formula [] words base os q w) (Flows false os) (running.consume c site formula [] words q) (watching.consume c p g site formula words w) (λ _. core.give On) (λ _. watch.give On)
      (consume_follows c p g site formula [] words base os q w ok at (Rattle.watched_core.proofs.Fine.keeps_on c p (running.consume c site formula [] words q) (λ _. core.give On) (λ _. k_give c p On) fine))
      (λ start y t u fu k. (refl, subst (λ o. At p g base (o ∷ os) t u) (sym k.owned_is) k.at)) fine
  noted_follows fold_note formula site words os q w ok at fine =
      let s1 : CoreState = marked_state c p g site Consume (instance_body c.predicates formula.parts) (instance_words q.heap q.owned words formula.parts) q in
      let w1 : WatchState = marked_watch c p g site Consume (instance_body c.predicates formula.parts) (instance_words w.heap (top_of w.levels) words formula.parts) w in
      let at1 = mark_at c p g site Consume (instance_body c.predicates formula.parts) (instance_words q.heap q.owned words formula.parts) (instance_words w.heap (top_of w.levels) words formula.parts) base os q w ok.of (over_same words formula os q w at) at in
      follows_on c p (Decided c p g site formula [] words s1 w1) (Flows false os) (running.decide c site formula [] words s1) (watching.check c p site (of_formula true formula) words w1) (λ _. core.give On) (λ _. watch.give On)
      (decide_follows c p g site true formula [] words base os s1 w1 ok at1 (Rattle.watched_core.proofs.Fine.keeps_on c p (running.decide c site formula [] words s1) (λ _. core.give On) (λ _. k_give c p On) fine))
      (λ start y t u fu k. (
        refl,
        subst (λ x. At p g base (x.owned ∷ os) x u) (sym k.state) (subst (At p g base (q.owned ∷ os) (visited c p g site words s1)) (sym k.watched)
            record { alike = record { words = at1.alike.words; heap = at1.alike.heap; input = at1.alike.input; output = at1.alike.output; steps = at1.alike.steps; turns = at1.alike.turns }; knows = at1.knows; agrees = at1.agrees }),
      )) fine
  noted_follows unfold_note formula site words os q w ok at fine = unfold_follows formula site words os q w ok at fine

  pub note_follows : (kind : NoteKind) (formula : Formula) (site : Site) → Stmt (do_note kind formula site)
  unfolding core.chain core.get watch.chain watch.get
  note_follows kind formula site go wgo os q w ok at fine =
      subst (λ ws. Follows (Flows false os) (running.noted c site kind formula (locals_of f q) q) (watching.noted c p g site kind formula ws w)) (sym (locals_same f q w at.alike))
      (noted_follows kind formula site (locals_of f q) os q w ok.0 at fine)
