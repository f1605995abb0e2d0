-- Loops: levels inside a set, turn by turn.
use Rattle.std.proofs.Common.{ℕ, zero, suc, ◌++◌}
use Rattle.gc0_base.specs.declared.site.Site.{Site}
use Rattle.gc0_tree.specs.Tree.{Formula}
use Rattle.core_tree.specs.CoreTree.{CoreFunction, Core}
use Rattle.c0_meaning.specs.Operators.{pick}
use Rattle.c0_meaning.specs.Heaps.{Cells}
use Rattle.footprint_laws.specs.FootprintLaws.{Within}
use Rattle.core_meaning.specs.CoreRuns.{CoreState, Out, Next, Ends, Run, go_on, chain, ◌>>=◌, ◌>>◌, give, end, get, change, turn}
use Rattle.core_meaning.specs.CoreRunning.{Flow, On, Back, joined, after_turn, turns, loop}
use Rattle.frame_laws.proofs.Sets.{within_right, within_both}
use Rattle.frame_laws.proofs.Obeying.{Lawful, After, Obeys, TurnsObey, after_from, goes_marked, after_marks, marks_obey, turn_obeys}
use Rattle.frame_laws.proofs.Marking.{Inside, marked_owning, MarksGiving, Marks, Decides, head_of, head_decides, produced_of, produced_marks}

-- ---- the parts of a turn
-- behind the test: the loop ends, or its body and the further turns follow
abbrev pub behind_test : (Cells → Run Flow) → Run Flow → Cells → ℕ → Run Flow
behind_test further body outer x = pick x (change (joined outer) >> give On) (body >>= after_turn further outer)

-- behind the head
abbrev pub behind_head : Run (Unit {0}) → Run ℕ → (ℕ → Run Flow) → Run Flow
behind_head produced test rest = produced >> (turn >> (test >>= rest))

module _ {Starts : Cells → Cells → Type 0} {Goes Stops : CoreState → CoreState → Type 0} (law : Lawful Starts Goes Stops) where
  -- what runs inside a level, and then what is done with it in the enclosing one
  pub level_on : {A B : Type 0} (outer start : Cells) (s : CoreState) (o : Out A) (f : A → Run B) → Within start outer →
      After Goes Stops (record s { owned = start }) o →
      ((x : A) (t : CoreState) → Goes (record s { owned = start }) t → After Goes Stops (record s { owned = outer }) (f x t)) →
      After Goes Stops (record s { owned = outer }) (go_on o f)
  level_on outer start s (Next x t) f within h k = k x t h
  level_on outer start s (Ends e t) f within h k = law.level_stops outer start s t within h

  -- behind the body
  pub after_turn_obeys : (further : Cells → Run Flow) → TurnsObey Goes Stops further →
      (outer start : Cells) (s t : CoreState) (flow : Flow) → Within start outer → Goes (record s { owned = start }) t →
      After Goes Stops (record s { owned = outer }) (after_turn further outer flow t)
  after_turn_obeys further h outer start s t On within g =
      let all : Cells = outer ++ t.owned in
      after_from law (record s { owned = outer }) (joined outer t) (further all t) (law.level outer start s t within g)
      (h all t (within_right outer t.owned))
  after_turn_obeys further h outer start s t (Back site v) within g = law.level outer start s t within g

  -- the head, where what it starts with lies in the joined set
  pub head_on : {B : Type 0} (outer : Cells) (s : CoreState) (o : Out Cells) (f : Cells → Run B) → Within s.owned outer →
      MarksGiving (Inside (outer ++ s.owned)) s o →
      ((start : Cells) (t : CoreState) → Within start outer → After Goes Stops (record t { owned = outer }) (f start t)) →
      After Goes Stops (record s { owned = outer }) (go_on o f)
  head_on outer s (Next start t) f within m k =
      let before : CoreState = record s { owned = outer } in
      let behind : CoreState = record t { owned = outer } in
      after_from law before behind (f start t) (goes_marked law before behind (marked_owning s t outer m.1))
      (k start t (λ c h. within_both outer s.owned outer (λ d g. g) within c (m.0 c h)))
  head_on outer s (Ends e t) f within m k =
      law.level_stops outer s.owned s t within (after_marks law (Inside (outer ++ s.owned)) s (Ends e t) m)

  -- a loop with a test and a body that obey
  module _ (produced : Run (Unit {0})) (marks : Marks produced) (test : Run ℕ) (tests : Obeys Goes Stops test)
      (body : Run Flow) (bodies : Obeys Goes Stops body) where
    pub behind_test_obeys : (further : Cells → Run Flow) → TurnsObey Goes Stops further →
        (outer start : Cells) (s t : CoreState) (x : ℕ) → Within start outer → Goes (record s { owned = start }) t →
        After Goes Stops (record s { owned = outer }) (behind_test further body outer x t)
    unfolding chain change give
    behind_test_obeys further h outer start s t zero within g = law.level outer start s t within g
    behind_test_obeys further h outer start s t (suc x) within g =
        level_on outer start s (body t) (after_turn further outer) within
        (after_from law (record s { owned = start }) t (body t) g (bodies t))
        (λ flow u r. after_turn_obeys further h outer start s u flow within r)

    -- the level from where it has what it starts with
    pub behind_head_obeys : (further : Cells → Run Flow) → TurnsObey Goes Stops further →
        (outer start : Cells) (s : CoreState) → Within start outer →
        After Goes Stops (record s { owned = outer }) (behind_head produced test (behind_test further body outer) (record s { owned = start }))
    unfolding chain
    behind_head_obeys further h outer start s within =
        let inner : CoreState = record s { owned = start } in
        let rest : ℕ → Run Flow = behind_test further body outer in
        level_on outer start s (produced inner) (λ x. turn >> (test >>= rest)) within (marks_obey law produced marks inner) (λ x t g.
        level_on outer start s (turn t) (λ y. test >>= rest) within (after_from law inner t (turn t) g (turn_obeys law t)) (λ y u r.
        level_on outer start s (test u) rest within (after_from law inner u (test u) r (tests u)) (λ z v q.
        behind_test_obeys further h outer start s v z within q)))

    pub one_turn_obeys : (further : Cells → Run Flow) → TurnsObey Goes Stops further →
        (outer : Cells) (head : Run Cells) → Decides outer head → (s : CoreState) → Within s.owned outer →
        After Goes Stops (record s { owned = outer })
        ((head >>= λ start. change (λ t. record t { owned = start }) >> behind_head produced test (behind_test further body outer)) s)
    unfolding chain change
    one_turn_obeys further h outer head decides s within =
        head_on outer s (head s) _ within (decides s) (λ start t inside. behind_head_obeys further h outer start t inside)

    pub turns_obey : (n : ℕ) (head : Site → Cells → Run Cells) → ((site : Site) (outer : Cells) → Decides outer (head site outer)) →
        (later site : Site) → TurnsObey Goes Stops (turns n head produced test body later site)
    unfolding end
    turns_obey zero head decides later site outer s within = law.level_stops outer s.owned s s within (law.stops s)
    turns_obey (suc n) head decides later site outer s within =
        one_turn_obeys (turns n head produced test body later later) (turns_obey n head decides later later)
        outer (head site outer) (decides site outer) s within

  -- the whole loop, which starts with all that is owned as the enclosing set
  pub loop_obeys : (c : Core) (f : CoreFunction) (entry again : Site) (inv : Formula) (test : Run ℕ) → Obeys Goes Stops test →
      (body : Run Flow) → Obeys Goes Stops body → Obeys Goes Stops (loop c f entry again inv test body)
  unfolding chain get
  loop_obeys c f entry again inv test tests body bodies s =
      turns_obey (produced_of c f inv entry) (produced_marks c f inv entry) test tests body bodies
      (suc s.turns) (head_of c f inv) (head_decides law.footprints c f inv) again entry s.owned s (λ d h. h)
