-- What is decided at a site: marks, and checks behind their guards.
use Rattle.std.proofs.Common.{◌≡◌, ℕ, Bool, true, false, not, ◌&&◌, ◌||◌, List, [], ◌∷◌, ◌++◌, Option, Some, None, refl, sym, ap, ◌∙◌, subst, arith}
use Rattle.std.specs.Prelude.{slice_get, if◌then◌else◌, is_some, IfSome}
use Rattle.gc0_base.specs.declared.site.Site.{Site}
use Rattle.gc0_base.specs.declared.site.Ending.TheVariants.{Stop}
use Rattle.gc0_tree.specs.Tree.{Conjuncts, Formula}
use Rattle.core_tree.specs.declared.Phase.{Phase}
use Rattle.core_tree.specs.declared.Phase.TheVariants.{Consume}
use Rattle.core_tree.specs.CoreTree.{Core}
use Rattle.core_tree.specs.CoreSites.{first_number}
use Rattle.c0_meaning.specs.Heaps.{Cells}
use Rattle.c0_meaning.specs.Holds.{holds}
use Rattle.c0_meaning.specs.Running.{start_of}
use Rattle.core_meaning.specs.CoreRuns as core
use Rattle.core_meaning.specs.CoreRuns.{Outcomes, Visit, CoreState}
use Rattle.core_meaning.specs.CoreRunning as running
use Rattle.core_meaning.specs.CoreRunning.{or_stop}
use Rattle.core_meaning.specs.Choices.{choices, outcomes_of, with_outcomes}
use Rattle.core_checks.specs.Subjects.{Subject, of_formula, subject_of, subject_holds, subject_says}
use Rattle.core_checks.specs.Entries.{Known, among_last, is_last}
use Rattle.core_checks.specs.Placements.{Guarded, Placement, kept_at, is_tracked}
use Rattle.watched_core.specs.WatchRuns as watch
use Rattle.watched_core.specs.WatchRuns.{View, WatchState, top_of}
use Rattle.watched_core.specs.Watching as watching
use Rattle.watched_core.specs.Watching.{is_marked, with_marks, check_one, check_each}
use Rattle.watched_core.specs.WatchLaws.{Same, Views, IsViewed, last_of}
use Rattle.watched_core.proofs.Sets.{says_same}
use Rattle.watched_core.proofs.Fine.{guard_says, guards_say, FineVisit, Fine, fine_back, k_or_stop}
use Rattle.watched_core.proofs.Follow.{false_true, Knows, top_same, its, Agree, choices_agree, Alike, At, EndsAs, Post, Follows}

-- ---- the last visit
last_end : (x : Visit) (xs : List Visit) (v : Visit) → last_of x (xs ++ v ∷ []) ≡ v
last_end x [] v = refl
last_end x (y ∷ xs) v = last_end y xs v

pub viewed_end : (vs : List Visit) (v : Visit) (view : View) (site : Site) → Views v view site → IsViewed (Stop site) (vs ++ v ∷ []) (Some view)
viewed_end [] v view site e = e
viewed_end (x ∷ vs) v view site e = subst (λ l. Views l view site) (sym (last_end x vs v)) e

module _ (c : Core) (p : Placement) (g : ℕ) where
  -- ---- sites of the function
  abbrev pub AllMarked : List Known → Type 0
  AllMarked [] = Unit {0}
  AllMarked (d ∷ ds) = (is_marked p g (its p g d.0.number) ≡ true) × AllMarked ds

  abbrev pub AllGuards : List Guarded → Type 0
  AllGuards [] = Unit {0}
  AllGuards (x ∷ xs) = AllMarked x.decisions × AllGuards xs

  -- a site of the function, what is decided there, and that its guards test what is marked
  pub record SiteOk (site : Site) (x : Subject) : Type 0 where
    pub of : site.function ≡ g
    pub subject : subject_of c site ≡ Some x
    pub bare : is_tracked p g ≡ false → kept_at p site ≡ []
    pub guards : is_tracked p g ≡ true → AllGuards (kept_at p site)

  last_same : (ds : List Known) (m o : Outcomes) → AllMarked ds → Agree p g m o → among_last m ds ≡ among_last o ds
  last_same [] m o all a = refl
  last_same (d ∷ ds) m o all a = ap (λ x. is_last x d.1 && among_last m ds) (a.marked d.0.number all.0) ∙ ap (λ x. is_last (slice_get o d.0.number) d.1 && x) (last_same ds m o all.1 a)

  -- ---- checks
  abbrev pub view_at : Site → List ℕ → WatchState → View
  view_at site words w = record { site = site; words = words; heap = w.heap; owned = top_of w.levels }

  -- the checks pass, or one of them stops
  abbrev pub Checked : Site → List ℕ → WatchState → Bool → watch.Out (Unit {0}) → Type 0
  Checked site words w true o = o ≡ watch.Next tt w
  Checked site words w false o = o ≡ watch.Ends (Stop site) (Some (view_at site words w)) w

  checks_do : (site : Site) (x : Subject) (words : List ℕ) (v : Visit) (w : WatchState) (gs : List Guarded) → AllGuards gs → Agree p g w.marks v.outcomes → v.words ≡ words → w.heap ≡ v.heap → Same (top_of w.levels) v.owned →
      Checked site words w (guards_say c x v gs) (check_each c site x words gs w)
  unfolding watch.chain watch.give
  checks_do site x words v w [] all a ew eh same = refl
  checks_do site x words v w (gd ∷ gs) all a ew eh same =
      subst (λ b. Checked site words w (b && guards_say c x v gs) (check_each c site x words (gd ∷ gs) w)) says
      (by_bools (among_last w.marks gd.decisions) (subject_says c x gd.part words w.heap (top_of w.levels)) (guards_say c x v gs) (checks_do site x words v w gs all.1 a ew eh same))
    where
      says : (not (among_last w.marks gd.decisions) || subject_says c x gd.part words w.heap (top_of w.levels)) ≡ guard_says c x v gd
      says = ap (λ b. not b || subject_says c x gd.part words w.heap (top_of w.levels)) (last_same gd.decisions w.marks v.outcomes all.0 a)
          ∙ ap (λ ws. not (among_last v.outcomes gd.decisions) || subject_says c x gd.part ws w.heap (top_of w.levels)) (sym ew)
          ∙ ap (λ h. not (among_last v.outcomes gd.decisions) || subject_says c x gd.part v.words h (top_of w.levels)) eh
          ∙ ap (λ b. not (among_last v.outcomes gd.decisions) || b) (says_same v.heap (top_of w.levels) v.owned same c x gd.part v.words)

      by_bools : (a b rest : Bool) → Checked site words w rest (check_each c site x words gs w) →
          Checked site words w ((not a || b) && rest)
          (watch.go_on (if a && not b then watch.Ends (Stop site) (Some (view_at site words w)) w else watch.Next (tt {0}) w) (λ _. check_each c site x words gs))
      by_bools true true rest k = k
      by_bools true false rest k = refl
      by_bools false b rest k = k

  abbrev pub visit_of : Site → List ℕ → CoreState → Visit
  visit_of site words s = record { site = site; outcomes = s.outcomes; words = words; heap = s.heap; owned = s.owned }

  abbrev pub visited : Site → List ℕ → CoreState → CoreState
  visited site words s = record s { visits = s.visits ++ visit_of site words s ∷ [] }

  -- at a visit what is decided holds exactly where the checks pass
  pub site_checked : (site : Site) (x : Subject) (words : List ℕ) (base os : List Cells) (s : CoreState) (w : WatchState) → SiteOk site x → At p g base (s.owned ∷ os) s w → Fine c p (visited site words s) →
      Checked site words w (subject_holds c x words s.heap s.owned) (check_each c site x words (kept_at p site) w) × (subject_holds c x words s.heap s.owned ≡ false → Same (top_of w.levels) s.owned)
  unfolding watch.give
  site_checked site x words base os s w ok at fine =
      (subst (λ b. Checked site words w b (check_each c site x words (kept_at p site) w)) (sym right) (checked (is_tracked p g) refl), λ e. stops (is_tracked p g) refl (sym right ∙ e))
    where
      v : Visit
      v = visit_of site words s

      right : subject_holds c x words s.heap s.owned ≡ guards_say c x v (kept_at p site)
      right =
          let last : FineVisit c p v = (fine_back c p s.visits (v ∷ []) fine).0 in
          subst (λ o. IfSome o (λ x. subject_holds c x words s.heap s.owned ≡ guards_say c x v (kept_at p site))) ok.subject last

      checked : (t : Bool) → is_tracked p g ≡ t → Checked site words w (guards_say c x v (kept_at p site)) (check_each c site x words (kept_at p site) w)
      checked true t = checks_do site x words v w (kept_at p site) (ok.guards t) at.agrees refl at.alike.heap (top_same (is_tracked p g) base os w.levels s.owned t at.knows)
      checked false t = subst (λ gs. Checked site words w (guards_say c x v gs) (check_each c site x words gs w)) (sym (ok.bare t)) nothing
        where
          nothing : check_each c site x words [] w ≡ watch.Next tt w
          nothing = refl

      stops : (t : Bool) → is_tracked p g ≡ t → guards_say c x v (kept_at p site) ≡ false → Same (top_of w.levels) s.owned
      stops true t e = top_same (is_tracked p g) base os w.levels s.owned t at.knows
      stops false t e = false_true (sym e ∙ ap (guards_say c x v) (ok.bare t))

  -- ---- formulas
  -- behind a decision: the footprint, what a level starts with, and the states as they were
  pub record Decided (site : Site) (formula : Formula) (outer : Cells) (words : List ℕ) (s : CoreState) (w : WatchState) (start : Cells) (y : Unit {0}) (t : CoreState) (u : WatchState) : Type 0 where
    pub foot : Cells
    pub found : holds c.predicates formula words s.heap s.owned ≡ Some foot
    pub starts : start ≡ start_of formula foot (outer ++ s.owned)
    pub state : t ≡ visited site words s
    pub watched : u ≡ w

  pub decide_follows : (site : Site) (folded : Bool) (formula : Formula) (outer : Cells) (words : List ℕ) (base os : List Cells) (s : CoreState) (w : WatchState) → SiteOk site (of_formula folded formula) → At p g base (s.owned ∷ os) s w →
      Fine c p (core.state_of (running.decide c site formula outer words s)) →
      Follows (Decided site formula outer words s w) (running.decide c site formula outer words s) (watching.check c p site (of_formula folded formula) words w)
  unfolding running.decide core.chain core.get core.change core.give core.end watching.check
  decide_follows site folded formula outer words base os s w ok at fine =
      by_found (holds c.predicates formula words s.heap s.owned) refl (site_checked site (of_formula folded formula) words base os s w ok at ((k_or_stop' (holds c.predicates formula words s.heap s.owned)) fine))
    where
      s1 : CoreState
      s1 = visited site words s

      k_or_stop' : (o : Option Cells) → Fine c p (core.state_of (or_stop site formula (outer ++ s.owned) o s1)) → Fine c p s1
      k_or_stop' o = (k_or_stop c p site formula (outer ++ s.owned) o).by s1

      by_found : (o : Option Cells) → holds c.predicates formula words s.heap s.owned ≡ o →
          Checked site words w (is_some o) (check_each c site (of_formula folded formula) words (kept_at p site) w) × (is_some o ≡ false → Same (top_of w.levels) s.owned) →
          Follows (Decided site formula outer words s w) (or_stop site formula (outer ++ s.owned) o s1) (check_each c site (of_formula folded formula) words (kept_at p site) w)
      by_found (Some foot) e k = subst (Follows (Decided site formula outer words s w) (core.Next (start_of formula foot (outer ++ s.owned)) s1)) (sym k.0)
          record { foot = foot; found = e; starts = refl; state = refl; watched = refl }
      by_found None e k = subst (Follows (Decided site formula outer words s w) (core.Ends (Stop site) s1)) (sym k.0)
          record {
            ending = refl;
            output = at.alike.output;
            view = viewed_end s.visits (visit_of site words s) (view_at site words w) site
                record { decided = refl; at = refl; words = refl; heap = at.alike.heap; owned = k.1 refl };
          }

  -- marks are kept while a formula's choices are decided
  abbrev pub marked_state : Site → Phase → Conjuncts → Option (List ℕ) → CoreState → CoreState
  marked_state site phase parts words s = record s { outcomes = with_outcomes (first_number c site phase) (outcomes_of s.heap s.owned words parts) s.outcomes }

  abbrev pub marked_watch : Site → Phase → Conjuncts → Option (List ℕ) → WatchState → WatchState
  marked_watch site phase parts words w = record w { marks = with_marks c p g site phase 0 w.heap (top_of w.levels) words (choices parts) w.marks }

  pub mark_at : (site : Site) (phase : Phase) (parts : Conjuncts) (words words' : Option (List ℕ)) (base os : List Cells) (s : CoreState) (w : WatchState) → site.function ≡ g → (is_tracked p g ≡ true → words' ≡ words) → At p g base (s.owned ∷ os) s w →
      At p g base (s.owned ∷ os) (marked_state site phase parts words s) (marked_watch site phase parts words' w)
  mark_at site phase parts words words' base os s w of e at = record {
    alike = record { words = at.alike.words; heap = at.alike.heap; input = at.alike.input; output = at.alike.output; steps = at.alike.steps; turns = at.alike.turns };
    knows = at.knows;
    agrees = subst (λ h. Agree p g (with_marks c p g site phase 0 h (top_of w.levels) words' (choices parts) w.marks) (with_outcomes (first_number c site phase) (outcomes_of s.heap s.owned words parts) s.outcomes)) (sym at.alike.heap)
        (choices_agree p g c site phase of s.heap (top_of w.levels) s.owned (λ t. top_same (is_tracked p g) base os w.levels s.owned t at.knows) words' words e (choices parts) 0 (first_number c site phase) w.marks s.outcomes (omega arith) at.agrees);
  }

  -- behind a consumption
  pub record Consumed (formula : Formula) (outer : Cells) (words : List ℕ) (base os : List Cells) (s : CoreState) (w : WatchState) (start : Cells) (y : Unit {0}) (t : CoreState) (u : WatchState) : Type 0 where
    pub foot : Cells
    pub found : holds c.predicates formula words s.heap s.owned ≡ Some foot
    pub starts : start ≡ start_of formula foot (outer ++ s.owned)
    pub at : At p g base (s.owned ∷ os) t u
    pub words_are : t.words ≡ s.words
    pub heap_is : t.heap ≡ s.heap
    pub owned_is : t.owned ≡ s.owned
    pub turns_are : t.turns ≡ s.turns
    pub levels_are : u.levels ≡ w.levels

  pub consume_follows : (site : Site) (formula : Formula) (outer : Cells) (words : List ℕ) (base os : List Cells) (s : CoreState) (w : WatchState) → SiteOk site (of_formula false formula) → At p g base (s.owned ∷ os) s w →
      Fine c p (core.state_of (running.consume c site formula outer words s)) →
      Follows (Consumed formula outer words base os s w) (running.consume c site formula outer words s) (watching.consume c p g site formula words w)
  unfolding core.chain core.change running.mark watch.chain watch.change watching.mark
  consume_follows site formula outer words base os s w ok at fine =
      let s1 : CoreState = marked_state site Consume formula.parts (Some words) s in
      let w1 : WatchState = marked_watch site Consume formula.parts (Some words) w in
      let at1 = mark_at site Consume formula.parts (Some words) (Some words) base os s w ok.of (λ t. refl) at in
      Rattle.watched_core.proofs.Follow.follows_to (Decided site formula outer words s1 w1) (Consumed formula outer words base os s w) (running.decide c site formula outer words s1) (watching.check c p site (of_formula false formula) words w1)
      (λ start y t u d. record {
        foot = d.foot;
        found = d.found;
        starts = d.starts;
        at = subst (λ t. At p g base (s.owned ∷ os) t u) (sym d.state) (subst (At p g base (s.owned ∷ os) (visited site words s1)) (sym d.watched)
            record { alike = record { words = at1.alike.words; heap = at1.alike.heap; input = at1.alike.input; output = at1.alike.output; steps = at1.alike.steps; turns = at1.alike.turns }; knows = at1.knows; agrees = at1.agrees });
        words_are = ap (λ q. q.words) d.state;
        heap_is = ap (λ q. q.heap) d.state;
        owned_is = ap (λ q. q.owned) d.state;
        turns_are = ap (λ q. q.turns) d.state;
        levels_are = ap (λ q. q.levels) d.watched;
      })
      (decide_follows site false formula outer words base os s1 w1 ok at1 fine)
