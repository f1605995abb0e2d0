-- What holds of all code: two relations between states, one for code that goes on and one for code that ends the run. Where
-- they hold of each small part, they hold of statements, of code and of calls: so no law of runs needs a walk of its own.
use Rattle.std.proofs.Common.{◌≡◌, ℕ, zero, suc, ◌<◌, Bool, List, [], ◌∷◌, ◌++◌, length, Option, Some, None, refl, sym, subst, IsTrue}
use Rattle.std.specs.Prelude.{not, eqb, replicate, slice_set}
use Rattle.std.proofs.lemmas.List.{length-set}
use Rattle.gc0_base.specs.declared.site.Site.{Site}
use Rattle.gc0_base.specs.declared.site.Decision.{Decision}
use Rattle.gc0_base.specs.declared.site.Ending.{Ending}
use Rattle.gc0_base.specs.declared.site.Ending.TheVariants.{Fault, StepsUsed}
use Rattle.gc0_base.specs.declared.site.TrapKind.{TrapKind}
use Rattle.gc0_base.specs.declared.site.TrapKind.TheVariants as trap
use Rattle.gc0_tree.specs.declared.LibraryCall.{LibraryCall}
use Rattle.gc0_tree.specs.declared.LibraryCall.TheVariants as library
use Rattle.gc0_tree.specs.Tree.{Formula, NoteKind}
use Rattle.core_tree.specs.declared.Simple.{Simple}
use Rattle.core_tree.specs.CoreTree.{Core}
use Rattle.c0_meaning.specs.Operators.{pick}
use Rattle.c0_meaning.specs.Heaps.{Cell, Cells, owns, cells_of, set_cell}
use Rattle.footprint_laws.specs.FootprintLaws.{Within, footprint_law}
use Rattle.core_meaning.specs.CoreRuns.{Outcomes, Visit, CoreState, Out, Next, Ends, Run, go_on, chain, ◌>>=◌, ◌>>◌, give, end, get, change, step, take_step, turn, take_turn, write}
use Rattle.core_meaning.specs.CoreRunning.{decide, consume, Flow, On, Back, put, put_if, access, allocate, fault_at, or_fault, next_of, library_does, Calls, tested, unless_back, joined, noted}
use Rattle.frame_laws.specs.FrameLaws.{StartsWith}
use Rattle.frame_laws.proofs.Marking.{starts_same, Marked, marked_owned, MarksGiving, Marks, Inside, IsOwned, decide_decides, consume_decides, access_accesses, noted_marks}

-- nothing is asked, or said
abbrev pub Anything : Cells → Cells → Type 0
Anything few all = Unit {0}

abbrev pub Nothing : CoreState → CoreState → Type 0
Nothing s t = Unit {0}

-- ---- what is asked of the relations
-- `Starts few all`: a call may start with few where all is owned. `Goes s t`: code may go on from s with t. `Stops s t`: code
-- may end the run in t when it began in s.
pub record Lawful (Starts : Cells → Cells → Type 0) (Goes Stops : CoreState → CoreState → Type 0) : Type 0 where
  -- a footprint lies in what is owned
  pub footprints : footprint_law
  pub starts : (few all : Cells) → Within few all → Starts few all
  -- one after the other
  pub stays : (s : CoreState) → Goes s s
  pub stops : (s : CoreState) → Stops s s
  pub goes_on : (s t u : CoreState) → Goes s t → Goes t u → Goes s u
  pub goes_to_stop : (s t u : CoreState) → Goes s t → Stops t u → Stops s u
  -- the small parts
  pub steps : (s : CoreState) (n : ℕ) → s.steps ≡ suc n → Goes s record s { steps = n }
  pub turns : (s : CoreState) (n : ℕ) → s.turns ≡ suc n → Goes s record s { turns = n }
  pub reads : (s : CoreState) (x : ℕ) (xs : List ℕ) → s.input ≡ x ∷ xs → Goes s record s { input = xs }
  pub writes : (s : CoreState) (bytes : List ℕ) → Goes s record s { output = s.output ++ bytes }
  pub puts : (s : CoreState) (to x : ℕ) → Goes s record s { words = slice_set s.words to x }
  pub marks : (s : CoreState) (outcomes : Outcomes) (visits : List Visit) → length outcomes ≡ length s.outcomes → StartsWith s.visits visits →
      Goes s record s { outcomes = outcomes; visits = visits }
  pub stores : (s : CoreState) (d : Cell) (x : ℕ) → 0 < d.object → IsTrue (owns s.owned d) → Goes s record s { heap = set_cell s.heap d x }
  pub makes : (s : CoreState) (k fields : ℕ) →
      Goes s record s {
        heap = s.heap ++ record { of_struct = k; fields = replicate fields 0 } ∷ [];
        owned = s.owned ++ cells_of (suc (length s.heap)) fields;
      }
  -- a level inside another, and a call inside its caller
  pub level : (outer start : Cells) (s t : CoreState) → Within start outer →
      Goes (record s { owned = start }) t → Goes (record s { owned = outer }) (joined outer t)
  pub level_stops : (outer start : Cells) (s t : CoreState) → Within start outer →
      Stops (record s { owned = start }) t → Stops (record s { owned = outer }) t
  pub call : (start : Cells) (words : List ℕ) (outcomes : Outcomes) (s t : CoreState) → Starts start s.owned →
      Goes (record s { owned = start; words = words; outcomes = outcomes }) t →
      Goes s record t { owned = s.owned ++ t.owned; words = s.words; outcomes = s.outcomes }
  pub call_stops : (start : Cells) (words : List ℕ) (outcomes : Outcomes) (s t : CoreState) → Starts start s.owned →
      Stops (record s { owned = start; words = words; outcomes = outcomes }) t → Stops s t

module _ (Goes Stops : CoreState → CoreState → Type 0) where
  -- how a part ends that began in a state
  abbrev pub After : {A : Type 0} → CoreState → Out A → Type 0
  After s (Next x t) = Goes s t
  After s (Ends e t) = Stops s t

  -- a part of a run
  abbrev pub Obeys : {A : Type 0} → Run A → Type 0
  Obeys m = (s : CoreState) → After s (m s)

  -- the further turns of a loop, where the level that ended lies in the enclosing one
  abbrev pub TurnsObey : (Cells → Run Flow) → Type 0
  TurnsObey further = (outer : Cells) (s : CoreState) → Within s.owned outer → After (record s { owned = outer }) (further outer s)

-- what a call does that may start with so much
abbrev pub CallsObey : (Cells → Cells → Type 0) → (CoreState → CoreState → Type 0) → (CoreState → CoreState → Type 0) → Calls → Type 0
CallsObey Starts Goes Stops go = (g : ℕ) (args : List ℕ) (start : Cells) (s : CoreState) → Starts start s.owned → After Goes Stops s (go g args start s)

module _ {Starts : Cells → Cells → Type 0} {Goes Stops : CoreState → CoreState → Type 0} (law : Lawful Starts Goes Stops) where
  -- ---- one after the other
  pub after_on : {A B : Type 0} (s : CoreState) (o : Out A) (f : A → Run B) → After Goes Stops s o →
      ((x : A) (t : CoreState) → Goes s t → After Goes Stops s (f x t)) → After Goes Stops s (go_on o f)
  after_on s (Next x t) f h k = k x t h
  after_on s (Ends e t) f h k = h

  pub after_from : {A : Type 0} (s t : CoreState) (o : Out A) → Goes s t → After Goes Stops t o → After Goes Stops s o
  after_from s t (Next x u) g h = law.goes_on s t u g h
  after_from s t (Ends e u) g h = law.goes_to_stop s t u g h

  pub bind : {A B : Type 0} (m : Run A) (f : A → Run B) → Obeys Goes Stops m → ((x : A) → Obeys Goes Stops (f x)) → Obeys Goes Stops (m >>= f)
  unfolding chain
  bind m f h k s = after_on s (m s) f (h s) (λ x t g. after_from s t (f x t) g (k x t))

  pub both : {A B : Type 0} (m : Run A) (n : Run B) → Obeys Goes Stops m → Obeys Goes Stops n → Obeys Goes Stops (m >> n)
  both m n h k = bind m (λ x. n) h (λ x. k)

  pub gives : {A : Type 0} (x : A) → Obeys Goes Stops (give x)
  unfolding give
  gives x s = law.stays s

  pub ends : (A : Type 0) (e : Ending) → Obeys Goes Stops (end {A = A} e)
  unfolding end
  ends A e s = law.stops s

  pub gets : {A : Type 0} (f : CoreState → A) → Obeys Goes Stops (get f)
  unfolding get
  gets f s = law.stays s

  pub gets_then : {A B : Type 0} (f : CoreState → A) (g : A → Run B) → ((x : A) → Obeys Goes Stops (g x)) → Obeys Goes Stops (get f >>= g)
  gets_then f g h = bind (get f) g (gets f) h

  pub changes : (f : CoreState → CoreState) → ((s : CoreState) → Goes s (f s)) → Obeys Goes Stops (change f)
  unfolding change
  changes f h s = h s

  pub picks : {A : Type 0} (x : ℕ) (m n : Run A) → Obeys Goes Stops m → Obeys Goes Stops n → Obeys Goes Stops (pick x m n)
  picks zero m n h k = h
  picks (suc x) m n h k = k

  -- ---- small parts
  pub steps_obey : Obeys Goes Stops step
  steps_obey s = by_number s.steps refl
    where
      by_number : (n : ℕ) → s.steps ≡ n → After Goes Stops s (take_step n s)
      by_number zero e = law.stops s
      by_number (suc n) e = law.steps s n e

  pub turn_obeys : Obeys Goes Stops turn
  turn_obeys s = by_number s.turns refl
    where
      by_number : (n : ℕ) → s.turns ≡ n → After Goes Stops s (take_turn n s)
      by_number zero e = law.stops s
      by_number (suc n) e = law.turns s n e

  pub goes_marked : (s t : CoreState) → Marked s t → Goes s t
  goes_marked s t m = subst (Goes s) (sym m.is) (law.marks s m.outcomes m.visits m.as_many m.starts)

  pub after_marks : {A : Type 0} (Q : A → Type 0) (s : CoreState) (o : Out A) → MarksGiving Q s o → After Goes Stops s o
  after_marks Q s (Next x t) m = goes_marked s t m.1
  after_marks Q s (Ends e t) m = law.goes_to_stop s t t (goes_marked s t m) (law.stops t)

  pub after_marks_on : {A B : Type 0} (Q : A → Type 0) (s : CoreState) (o : Out A) (f : A → Run B) → MarksGiving Q s o →
      ((x : A) (t : CoreState) → Q x → Marked s t → After Goes Stops s (f x t)) → After Goes Stops s (go_on o f)
  after_marks_on Q s (Next x t) f m k = k x t m.0 m.1
  after_marks_on Q s (Ends e t) f m k = after_marks Q s (Ends e t) m

  pub marks_obey : {A : Type 0} (m : Run A) → Marks m → Obeys Goes Stops m
  marks_obey m h s = after_marks (λ x. Unit {0}) s (m s) (h s)

  pub writes_obey : (bytes : List ℕ) → Obeys Goes Stops (write bytes)
  writes_obey bytes = changes _ (λ s. law.writes s bytes)

  pub put_obeys : (to x : ℕ) → Obeys Goes Stops (put to x)
  put_obeys to x = both _ _ (changes _ (λ s. law.puts s to x)) (gives On)

  pub put_if_obeys : (to : Option ℕ) (x : ℕ) → Obeys Goes Stops (put_if to x)
  put_if_obeys None x = gives On
  put_if_obeys (Some to) x = put_obeys to x

  pub allocate_obeys : (k fields : ℕ) → Obeys Goes Stops (allocate k fields)
  unfolding allocate
  allocate_obeys k fields s = law.makes s k fields

  pub access_obeys : (site : Site) (base field : ℕ) → Obeys Goes Stops (access site base field)
  access_obeys site base field s = after_marks (IsOwned s.owned) s (access site base field s) (access_accesses site base field s)

  -- a word is written to the cell of an access
  pub store_obeys : (site : Site) (base field x : ℕ) →
      Obeys Goes Stops (access site base field >>= λ d. change (λ s. record s { heap = set_cell s.heap d x }) >> give On)
  unfolding chain change give
  store_obeys site base field x s =
      after_marks_on (IsOwned s.owned) s (access site base field s) (λ d. change (λ t. record t { heap = set_cell t.heap d x }) >> give On)
      (access_accesses site base field s)
      (λ d t q m. law.goes_on s t (record t { heap = set_cell t.heap d x }) (goes_marked s t m)
      (law.stores t d x q.0 (subst (λ owned. IsTrue (owns owned d)) (sym (marked_owned s t m)) q.1)))

  fault_at_obeys : (fault : TrapKind) (site : Option Site) → Obeys Goes Stops (fault_at fault site)
  fault_at_obeys fault None = ends ℕ StepsUsed
  fault_at_obeys fault (Some site) = ends ℕ (Fault fault site)

  pub or_fault_obeys : (fault : TrapKind) (site : Option Site) (o : Option ℕ) → Obeys Goes Stops (or_fault fault site o)
  or_fault_obeys fault site None = fault_at_obeys fault site
  or_fault_obeys fault site (Some x) = gives x

  reads_obey : (site : Option Site) → Obeys Goes Stops (get (λ s. s.input) >>= next_of site)
  unfolding chain get change give
  reads_obey site s = by_input s.input refl
    where
      by_input : (xs : List ℕ) → s.input ≡ xs → After Goes Stops s (next_of site xs s)
      by_input [] e = fault_at_obeys trap.InputEnd site s
      by_input (x ∷ xs) e = law.reads s x xs e

  pub library_obeys : (c : Core) (site : Option Site) (l : LibraryCall) (x : ℕ) (t : Option ℕ) → Obeys Goes Stops (library_does c site l x t)
  library_obeys c site library.PrintInt x t = both _ _ (writes_obey _) (gives 0)
  library_obeys c site library.PrintBool x t = both _ _ (writes_obey _) (gives 0)
  library_obeys c site library.Print x t = both _ _ (writes_obey _) (gives 0)
  library_obeys c site library.PrintLine x t = both _ _ (writes_obey _) (gives 0)
  library_obeys c site library.ReadInt x t = reads_obey site
  library_obeys c site library.MoreInt x t = gets _

  -- ---- formulas
  pub decide_obeys : (c : Core) (site : Site) (formula : Formula) (outer : Cells) (words : List ℕ) → Obeys Goes Stops (decide c site formula outer words)
  decide_obeys c site formula outer words s =
      after_marks (Inside (outer ++ s.owned)) s (decide c site formula outer words s) (decide_decides law.footprints c site formula outer words s)

  pub consume_obeys : (c : Core) (site : Site) (formula : Formula) (outer : Cells) (words : List ℕ) → Obeys Goes Stops (consume c site formula outer words)
  consume_obeys c site formula outer words s =
      after_marks (Inside (outer ++ s.owned)) s (consume c site formula outer words s) (consume_decides law.footprints c site formula outer words s)

  pub noted_obeys : (c : Core) (site : Site) (kind : NoteKind) (formula : Formula) (words : List ℕ) → Obeys Goes Stops (noted c site kind formula words)
  noted_obeys c site kind formula words = marks_obey (noted c site kind formula words) (noted_marks law.footprints c site kind formula words)

  -- what a branch decides
  pub tested_obeys : (d : Decision) (a : Simple) → Obeys Goes Stops (tested d a)
  tested_obeys d a = gets_then _ _ (λ x.
      let so : Option Bool = Some (not (eqb x 0)) in
      both _ _ (changes _ (λ s. law.marks s (slice_set s.outcomes d.number so) s.visits (length-set s.outcomes d.number so) (starts_same s.visits))) (gives x))

  pub unless_back_obeys : (flow : Flow) (rest : Run Flow) → Obeys Goes Stops rest → Obeys Goes Stops (unless_back flow rest)
  unless_back_obeys On rest h = h
  unless_back_obeys (Back site v) rest h = gives (Back site v)
