-- The parts of a run that change marks and visits alone: what is decided, and what is tested before an access.
use Rattle.std.proofs.Common.{◌≡◌, ℕ, zero, suc, ◌<◌, Bool, true, false, List, [], ◌∷◌, ◌++◌, length, Option, Some, None, refl, sym, ap, ◌∙◌, subst, IsTrue, arith, append_assoc, append-nil}
use Rattle.std.proofs.lemmas.List.{length-set}
use Rattle.std.specs.Prelude.{slice_set}
use Rattle.gc0_base.specs.declared.site.Site.{Site}
use Rattle.gc0_tree.specs.Tree.{Conjuncts, Formula, NoteKind, assert_note, fold_note, unfold_note}
use Rattle.core_tree.specs.declared.Phase.{Phase}
use Rattle.core_tree.specs.declared.Phase.TheVariants.{Produce, Consume}
use Rattle.core_tree.specs.CoreTree.{CoreFunction, Core}
use Rattle.core_tree.specs.CoreSites.{first_number}
use Rattle.c0_meaning.specs.Heaps.{Cell, Cells, owns}
use Rattle.c0_meaning.specs.Holds.{holds}
use Rattle.footprint_laws.specs.FootprintLaws.{Within, footprint_law}
use Rattle.core_meaning.specs.CoreRuns.{Outcomes, Visit, CoreState, Out, Next, Ends, Run, go_on, chain, ◌>>=◌, ◌>>◌, give, end, get, change}
use Rattle.core_meaning.specs.Choices.{outcomes_of, with_outcomes, instance_body, instance_words}
use Rattle.core_meaning.specs.CoreRunning.{mark, mark_over, mark_body, or_stop, decide, consume, locals_of, owned_or_stop, access, On, noted}
use Rattle.frame_laws.specs.FrameLaws.{StartsWith}
use Rattle.frame_laws.proofs.Sets.{within_right, start_within}

-- ---- lists of visits
pub starts_same : (vs : List Visit) → StartsWith vs vs
starts_same vs = ([], sym (append-nil vs))

pub starts_on : (us vs ws : List Visit) → StartsWith us vs → StartsWith vs ws → StartsWith us ws
starts_on us vs ws a b = (a.0 ++ b.0, b.1 ∙ (ap (λ x. x ++ b.0) a.1 ∙ append_assoc us a.0 b.0))

-- ---- states
-- The second state is the first with other marks, as many, and with further visits.
pub record Marked (s t : CoreState) : Type 0 where
  pub outcomes : Outcomes
  pub visits : List Visit
  pub as_many : length outcomes ≡ length s.outcomes
  pub starts : StartsWith s.visits visits
  pub is : t ≡ record s { outcomes = outcomes; visits = visits }

pub marked_same : (s : CoreState) → Marked s s
marked_same s = record { outcomes = s.outcomes; visits = s.visits; as_many = refl; starts = starts_same s.visits; is = refl }

pub marked_on : (s t u : CoreState) → Marked s t → Marked t u → Marked s u
marked_on s t u a b =
    let many : length t.outcomes ≡ length a.outcomes = ap (λ x. length x.outcomes) a.is in
    let starts : StartsWith a.visits b.visits = subst (λ x. StartsWith x b.visits) (ap (λ x. x.visits) a.is) b.starts in
    record {
      outcomes = b.outcomes;
      visits = b.visits;
      as_many = b.as_many ∙ (many ∙ a.as_many);
      starts = starts_on s.visits a.visits b.visits a.starts starts;
      is = b.is ∙ ap {A = CoreState} (λ x. record x { outcomes = b.outcomes; visits = b.visits }) a.is;
    }

-- the same in another set
pub marked_owning : (s t : CoreState) (owned : Cells) → Marked s t → Marked (record s { owned = owned }) (record t { owned = owned })
marked_owning s t owned a =
    record { outcomes = a.outcomes; visits = a.visits; as_many = a.as_many; starts = a.starts; is = ap {A = CoreState} (λ x. record x { owned = owned }) a.is }

pub marked_owned : (s t : CoreState) → Marked s t → t.owned ≡ s.owned
marked_owned s t a = ap (λ x. x.owned) a.is

pub marked_heap : (s t : CoreState) → Marked s t → t.heap ≡ s.heap
marked_heap s t a = ap (λ x. x.heap) a.is

-- ---- parts of a run
-- a part changes marks and visits alone, and what it gives meets a point
abbrev pub MarksGiving : {A : Type 0} → (A → Type 0) → CoreState → Out A → Type 0
MarksGiving Q s (Next x t) = Q x × Marked s t
MarksGiving Q s (Ends e t) = Marked s t

abbrev pub Marks : {A : Type 0} → Run A → Type 0
Marks m = (s : CoreState) → MarksGiving (λ x. Unit {0}) s (m s)

pub marks_from : {A : Type 0} (Q : A → Type 0) (s t : CoreState) (o : Out A) → Marked s t → MarksGiving Q t o → MarksGiving Q s o
marks_from Q s t (Next x u) a b = (b.0, marked_on s t u a b.1)
marks_from Q s t (Ends e u) a b = marked_on s t u a b

pub marks_on : {A B : Type 0} (Q : A → Type 0) (R : B → Type 0) (s : CoreState) (o : Out A) (f : A → Run B) →
    MarksGiving Q s o → ((x : A) (t : CoreState) → Q x → Marked s t → MarksGiving R s (f x t)) → MarksGiving R s (go_on o f)
marks_on Q R s (Next x t) f h k = k x t h.0 h.1
marks_on Q R s (Ends e t) f h k = h

-- ---- marks
pub outcomes_as_many : (first : ℕ) (bs : List Bool) (outcomes : Outcomes) → length (with_outcomes first bs outcomes) ≡ length outcomes
outcomes_as_many first [] outcomes = refl
outcomes_as_many first (b ∷ bs) outcomes = outcomes_as_many (suc first) bs (slice_set outcomes first (Some b)) ∙ length-set outcomes first (Some b)

pub marked_outcomes : (s : CoreState) (outcomes : Outcomes) → length outcomes ≡ length s.outcomes → Marked s record s { outcomes = outcomes }
marked_outcomes s outcomes e = record { outcomes = outcomes; visits = s.visits; as_many = e; starts = starts_same s.visits; is = refl }

pub marks_mark : (c : Core) (site : Site) (phase : Phase) (parts : Conjuncts) (words : CoreState → Option (List ℕ)) →
    Marks (mark c site phase parts words)
unfolding mark change
marks_mark c site phase parts words s =
    (tt, marked_outcomes s _ (outcomes_as_many (first_number c site phase) (outcomes_of s.heap s.owned (words s) parts) s.outcomes))

-- ---- decisions
-- what a level starts with lies in what there is
abbrev pub Inside : Cells → Cells → Type 0
Inside all start = Within start all

abbrev pub Decides : Cells → Run Cells → Type 0
Decides outer m = (s : CoreState) → MarksGiving (Inside (outer ++ s.owned)) s (m s)

pub decide_decides : footprint_law → (c : Core) (site : Site) (formula : Formula) (outer : Cells) (words : List ℕ) → Decides outer (decide c site formula outer words)
unfolding decide chain give end get change
decide_decides footprints c site formula outer words s = by_found (holds c.predicates formula words s.heap s.owned) refl
  where
    seen : Visit
    seen = record { site = site; outcomes = s.outcomes; words = words; heap = s.heap; owned = s.owned }

    visited : CoreState
    visited = record s { visits = s.visits ++ seen ∷ [] }

    marked : Marked s visited
    marked = record { outcomes = s.outcomes; visits = s.visits ++ seen ∷ []; as_many = refl; starts = (seen ∷ [], refl); is = refl }

    by_found : (o : Option Cells) → holds c.predicates formula words s.heap s.owned ≡ o →
        MarksGiving (Inside (outer ++ s.owned)) s (or_stop site formula (outer ++ s.owned) o visited)
    by_found None e = marked
    by_found (Some foot) e =
        let owned : Within foot s.owned = (footprints c.predicates formula words s.heap s.owned foot e).0 in
        (start_within formula foot (outer ++ s.owned) (λ d h. within_right outer s.owned d (owned d h)), marked)

pub consume_decides : footprint_law → (c : Core) (site : Site) (formula : Formula) (outer : Cells) (words : List ℕ) → Decides outer (consume c site formula outer words)
unfolding chain mark change
consume_decides footprints c site formula outer words s =
    let outcomes : Outcomes = with_outcomes (first_number c site Consume) (outcomes_of s.heap s.owned (Some words) formula.parts) s.outcomes in
    let marked : CoreState = record s { outcomes = outcomes } in
    marks_from (Inside (outer ++ s.owned)) s marked (decide c site formula outer words marked)
    (marked_outcomes s outcomes (outcomes_as_many (first_number c site Consume) (outcomes_of s.heap s.owned (Some words) formula.parts) s.outcomes))
    (decide_decides footprints c site formula outer words marked)

-- the head of a loop: its invariant over the locals
abbrev pub head_of : Core → CoreFunction → Formula → Site → Cells → Run Cells
head_of c f inv site outer = get (locals_of f) >>= consume c site inv outer

pub head_decides : footprint_law → (c : Core) (f : CoreFunction) (inv : Formula) (site : Site) (outer : Cells) → Decides outer (head_of c f inv site outer)
unfolding chain get
head_decides footprints c f inv site outer s = consume_decides footprints c site inv outer (locals_of f s) s

-- what it produces
abbrev pub produced_of : Core → CoreFunction → Formula → Site → Run (Unit {0})
produced_of c f inv entry = get (locals_of f) >>= mark_over c entry Produce inv

pub produced_marks : (c : Core) (f : CoreFunction) (inv : Formula) (entry : Site) → Marks (produced_of c f inv entry)
unfolding chain get
produced_marks c f inv entry s = marks_mark c entry Produce inv.parts (λ t. Some (locals_of f s)) s

-- ---- accesses
-- what an access gives is an owned cell of an object
abbrev pub IsOwned : Cells → Cell → Type 0
IsOwned owned d = (0 < d.object) × IsTrue (owns owned d)

abbrev pub Accesses : Run Cell → Type 0
Accesses m = (s : CoreState) → MarksGiving (IsOwned s.owned) s (m s)

pub access_accesses : (site : Site) (base field : ℕ) → Accesses (access site base field)
unfolding access chain give end get change
access_accesses site zero field s = marked_same s
access_accesses site (suc n) field s = by_owned (owns s.owned cell) refl
  where
    cell : Cell
    cell = record { object = suc n; field = field }

    seen : Visit
    seen = record { site = site; outcomes = s.outcomes; words = suc n ∷ field ∷ []; heap = s.heap; owned = s.owned }

    visited : CoreState
    visited = record s { visits = s.visits ++ seen ∷ [] }

    marked : Marked s visited
    marked = record { outcomes = s.outcomes; visits = s.visits ++ seen ∷ []; as_many = refl; starts = (seen ∷ [], refl); is = refl }

    by_owned : (b : Bool) → owns s.owned cell ≡ b → MarksGiving (IsOwned s.owned) s (go_on (owned_or_stop site b visited) (λ x t. Next cell t))
    by_owned false e = marked
    by_owned true e = ((omega arith, e), marked)

-- ---- annotations
-- the choices of the body of a fold or an unfold
body_marks : (c : Core) (site : Site) (phase : Phase) (formula : Formula) (words : List ℕ) → Marks (mark_body c site phase formula words)
body_marks c site phase formula words = marks_mark c site phase (instance_body c.predicates formula.parts) (λ s. instance_words s.heap s.owned words formula.parts)

pub noted_marks : footprint_law → (c : Core) (site : Site) (kind : NoteKind) (formula : Formula) (words : List ℕ) → Marks (noted c site kind formula words)
unfolding chain give
noted_marks footprints c site assert_note formula words s =
    marks_on (Inside s.owned) (λ x. Unit {0}) s (consume c site formula [] words s) (λ start. give On)
    (consume_decides footprints c site formula [] words s) (λ start t q m. (tt, m))
noted_marks footprints c site fold_note formula words s =
    marks_on (λ x. Unit {0}) (λ x. Unit {0}) s (mark_body c site Consume formula words s) (λ x. decide c site formula [] words >>= λ start. give On)
    (body_marks c site Consume formula words s) (λ x t q m.
    marks_on (Inside t.owned) (λ x. Unit {0}) s (decide c site formula [] words t) (λ start. give On)
    (marks_from (Inside t.owned) s t (decide c site formula [] words t) m (decide_decides footprints c site formula [] words t)) (λ start u q m. (tt, m)))
noted_marks footprints c site unfold_note formula words s =
    marks_on (Inside s.owned) (λ x. Unit {0}) s (decide c site formula [] words s) (λ start. mark_body c site Produce formula words >> give On)
    (decide_decides footprints c site formula [] words s) (λ start t q m.
    marks_on (λ x. Unit {0}) (λ x. Unit {0}) s (mark_body c site Produce formula words t) (λ x. give On)
    (marks_from (λ x. Unit {0}) s t (mark_body c site Produce formula words t) m (body_marks c site Produce formula words t)) (λ x u q m. (tt, m)))
