-- The law of frames: what code owns at its end is what was owned and what was made since, and it leaves all other cells.
use Rattle.std.proofs.Common.{◌≡◌, ℕ, suc, ◌+◌, ◌<◌, ◌≤◌, Bool, true, false, List, [], ◌∷◌, ◌++◌, length, replicate, refl, sym, ap, ◌∙◌, subst, IsTrue, arith, length-append, le-ltb}
use Rattle.std.proofs.lemmas.List.{length-replicate}
use Rattle.std.specs.Prelude.{◌&&◌, ◌||◌, ltb, is_some, slice_get, slice_set}
use Rattle.c0_meaning.specs.Heaps.{Object, Cell, Cells, same_cell, owns, cells_of, cell_value, set_cell}
use Rattle.footprint_laws.specs.FootprintLaws.{Within, InHeap, footprint_law}
use Rattle.core_tree.specs.CoreTree.{CoreStmt, Code, CoreFunction, Core}
use Rattle.core_meaning.specs.CoreRuns.{Outcomes, CoreState, Out, Next, Run}
use Rattle.core_meaning.specs.CoreRunning.{Calls, joined, core_exec, core_exec_all, calls_at}
use Rattle.frame_laws.specs.FrameLaws.{made, Moved, code_frame_law, call_frame_law, inner, inner_frame_law, code_in_heap_law, call_in_heap_law}
use Rattle.frame_laws.proofs.Sets.{false_true, or_assoc, or_false, or_within, or_none, or_one, or_left, owns_join, and_is, same_is}
use Rattle.frame_laws.proofs.Heaps.{stays_there, made_none, made_split, set_length, set_stays, set_other, append_stays, append_same, makes_cells}
use Rattle.frame_laws.proofs.Obeying.{Nothing, Lawful, After, Obeys, CallsObey}
use Rattle.frame_laws.proofs.Executing.{statement_obeys, code_obeys, inner_obeys, calls_obey}

-- ---- one after the other
none_made : (owned : Cells) (c : Cell) (b : Bool) → b ≡ false → owns owned c ≡ (owns owned c || b)
none_made owned c b e = sym (ap (λ x. owns owned c || x) e ∙ or_false (owns owned c))

-- the same heap and the same set
pub moved_same : (s t : CoreState) → t.heap ≡ s.heap → t.owned ≡ s.owned → Moved s t
moved_same s t h o = record {
  longer = let l : length t.heap ≡ length s.heap = ap length h in omega (arith, l);
  owned = λ c.
      let none : made t.heap (length s.heap) c ≡ false = ap (λ x. made x (length s.heap) c) h ∙ made_none s.heap c in
      ap (λ x. owns x c) o ∙ none_made s.owned c (made t.heap (length s.heap) c) none;
  unchanged = λ c n out there. ap (λ x. cell_value x c) h;
  objects = λ k o e. (o, ap (λ x. slice_get x k) h ∙ e, refl, refl);
}

pub moved_on : (s t u : CoreState) → Moved s t → Moved t u → Moved s u
moved_on s t u a b = record {
  longer = let x = a.longer in let y = b.longer in omega arith;
  owned = λ c. b.owned c ∙ (ap (λ x. x || made u.heap (length t.heap) c) (a.owned c)
      ∙ (or_assoc (owns s.owned c) (made t.heap (length s.heap) c) (made u.heap (length t.heap) c)
      ∙ ap (λ x. owns s.owned c || x) (made_split (length s.heap) t.heap u.heap a.longer b.objects c)));
  unchanged = λ c n out there.
      let before : owns t.owned c ≡ false = (or_none (owns t.owned c) (made u.heap (length t.heap) c) (sym (b.owned c) ∙ out)).0 in
      b.unchanged c n out (stays_there s.heap t.heap a.objects c there) ∙ a.unchanged c n before there;
  objects = λ k o e.
      let p = a.objects k o e in
      let q = b.objects k p.0 p.1 in
      (q.0, q.1, q.2 ∙ p.2, q.3 ∙ p.3);
}

-- what was owned is owned, and of the cells that there were nothing else is
pub moved_within : (s t : CoreState) → Moved s t → Within s.owned t.owned
moved_within s t m c h = m.owned c ∙ or_left (owns s.owned c) (made t.heap (length s.heap) c) h

pub moved_before : (s t : CoreState) → Moved s t → (c : Cell) → c.object ≤ length s.heap → owns t.owned c ≡ owns s.owned c
moved_before s t m c le =
    m.owned c ∙ (ap (λ b. owns s.owned c || (b && is_some (cell_value t.heap c))) (le-ltb (length s.heap) c.object le) ∙ or_false (owns s.owned c))

-- ---- levels and calls
-- A level that started within a set: behind it the set and its own are joined.
pub moved_level : (outer start : Cells) (s t : CoreState) → Within start outer →
    Moved (record s { owned = start }) t → Moved (record s { owned = outer }) (joined outer t)
moved_level outer start s t within m = record {
  longer = m.longer;
  owned = λ c.
      owns_join outer t.owned c ∙ (ap (λ x. owns outer c || x) (m.owned c)
      ∙ (sym (or_assoc (owns outer c) (owns start c) (made t.heap (length s.heap) c))
      ∙ ap (λ x. x || made t.heap (length s.heap) c) (or_within (owns outer c) (owns start c) (within c))));
  unchanged = λ c n out there. m.unchanged c n (or_none (owns outer c) (owns t.owned c) (sym (owns_join outer t.owned c) ∙ out)).1 there;
  objects = m.objects;
}

pub moved_call : (start : Cells) (words : List ℕ) (outcomes : Outcomes) (s t : CoreState) → Within start s.owned →
    Moved (record s { owned = start; words = words; outcomes = outcomes }) t →
    Moved s (record t { owned = s.owned ++ t.owned; words = s.words; outcomes = s.outcomes })
moved_call start words outcomes s t within m =
    let inner : Moved (record s { owned = start }) t = record { longer = m.longer; owned = m.owned; unchanged = m.unchanged; objects = m.objects } in
    let all : Moved s (joined s.owned t) = moved_level s.owned start s t within inner in
    record { longer = all.longer; owned = all.owned; unchanged = all.unchanged; objects = all.objects }

-- ---- stores and new objects
pub moved_store : (s : CoreState) (d : Cell) (x : ℕ) → 0 < d.object → IsTrue (owns s.owned d) → Moved s record s { heap = set_cell s.heap d x }
moved_store s d x n own =
    let long : length (set_cell s.heap d x) ≡ length s.heap = set_length s.heap d x in
    record {
      longer = omega (arith, long);
      owned = λ c.
          none_made s.owned c (made (set_cell s.heap d x) (length s.heap) c)
          (ap (λ k. made (set_cell s.heap d x) k c) (sym long) ∙ made_none (set_cell s.heap d x) c);
      unchanged = λ c k out there. set_other s.heap d c x n k (another c out);
      objects = set_stays s.heap d x;
    }
  where
    another : (c : Cell) → owns s.owned c ≡ false → same_cell d c ≡ false
    another c out = by_test (same_cell d c) refl
      where
        by_test : (b : Bool) → same_cell d c ≡ b → b ≡ false
        by_test false e = refl
        by_test true e = false_true (sym out ∙ subst (λ y. IsTrue (owns s.owned y)) (same_is d c e) own)

pub moved_make : (s : CoreState) (k fields : ℕ) →
    Moved s record s { heap = s.heap ++ record { of_struct = k; fields = replicate fields 0 } ∷ []; owned = s.owned ++ cells_of (suc (length s.heap)) fields }
moved_make s k fields =
    let object : Object = record { of_struct = k; fields = replicate fields 0 } in
    let long : length (s.heap ++ object ∷ []) ≡ length s.heap + 1 = length-append s.heap (object ∷ []) in
    record {
      longer = omega (arith, long);
      owned = λ c.
          owns_join s.owned (cells_of (suc (length s.heap)) fields) c
          ∙ ap (λ b. owns s.owned c || b)
          (ap (λ n. owns (cells_of (suc (length s.heap)) n) c) (sym (length-replicate fields 0)) ∙ makes_cells s.heap object c);
      unchanged = λ c n out there. append_same s.heap (object ∷ []) c there;
      objects = append_stays s.heap (object ∷ []);
    }

-- ---- all code
-- nothing is said of a run that ends
pub moving : footprint_law → Lawful Within Moved Nothing
moving footprints = record {
  footprints = footprints;
  starts = λ few all h. h;
  stays = λ s. moved_same s s refl refl;
  stops = λ s. tt;
  goes_on = moved_on;
  goes_to_stop = λ s t u a b. tt;
  steps = λ s n e. moved_same s record s { steps = n } refl refl;
  turns = λ s n e. moved_same s record s { turns = n } refl refl;
  reads = λ s x xs e. moved_same s record s { input = xs } refl refl;
  writes = λ s bytes. moved_same s record s { output = s.output ++ bytes } refl refl;
  puts = λ s to x. moved_same s record s { words = slice_set s.words to x } refl refl;
  marks = λ s outcomes visits many starts. moved_same s record s { outcomes = outcomes; visits = visits } refl refl;
  stores = moved_store;
  makes = moved_make;
  level = moved_level;
  level_stops = λ outer start s t within h. tt;
  call = moved_call;
  call_stops = λ start words outcomes s t within h. tt;
}

-- A part of a run moves from each state to where it goes on. The lemmas on parts are those of any law: `bind moving`,
-- `turns_obey moving`, `called_at_obeys moving go calls` and so on.
abbrev pub MovedTo : {A : Type 0} → CoreState → Out A → Type 0
MovedTo s o = After Moved Nothing s o

abbrev pub Moves : {A : Type 0} → Run A → Type 0
Moves m = Obeys Moved Nothing m

abbrev pub CallsMove : Calls → Type 0
CallsMove go = CallsObey Within Moved Nothing go

pub moved_next : {A : Type 0} (s t : CoreState) (o : Out A) (x : A) → MovedTo s o → o ≡ Next x t → Moved s t
moved_next s t o x h e = subst (MovedTo s) e h

pub code_moves : footprint_law → (c : Core) (f : CoreFunction) (k : ℕ) (code : Code) → Moves (core_exec_all c f (calls_at k c) code)
code_moves footprints c f k code = code_obeys (moving footprints) (calls_at k c) (calls_obey (moving footprints) k c) c f code

pub calls_move : footprint_law → (k : ℕ) (c : Core) → CallsMove (calls_at k c)
calls_move footprints k c = calls_obey (moving footprints) k c

pub code_frames : footprint_law → code_frame_law
code_frames footprints c f k code s t flow e = moved_next s t (core_exec_all c f (calls_at k c) code s) flow (code_moves footprints c f k code s) e

pub call_frames : footprint_law → call_frame_law
call_frames footprints c k g args start s t v within e = moved_next s t (calls_at k c g args start s) v (calls_move footprints k c g args start s within) e

pub statement_moves : footprint_law → (c : Core) (f : CoreFunction) (k : ℕ) (stmt : CoreStmt) → Moves (core_exec c f (calls_at k c) stmt)
statement_moves footprints c f k stmt = statement_obeys (moving footprints) (calls_at k c) (calls_obey (moving footprints) k c) c f stmt

pub inner_moves : footprint_law → (c : Core) (k g : ℕ) (f : CoreFunction) (args : List ℕ) → Moves (inner c (calls_at k c) g f args)
inner_moves footprints c k g f args = inner_obeys (moving footprints) (calls_at k c) (calls_obey (moving footprints) k c) c g f args

pub inner_frames : footprint_law → inner_frame_law
inner_frames footprints c k g f args s t v e = moved_next s t (inner c (calls_at k c) g f args s) v (inner_moves footprints c k g f args s) e

-- ---- owned cells stay in the heap
pub moved_in_heap : (s t : CoreState) → Moved s t → InHeap s.owned s.heap → InHeap t.owned t.heap
moved_in_heap s t m h c own =
    or_one (owns s.owned c) (made t.heap (length s.heap) c) (sym (m.owned c) ∙ own)
    (λ before. stays_there s.heap t.heap m.objects c (h c before))
    (λ since. (and_is (ltb (length s.heap) c.object) (is_some (cell_value t.heap c)) since).1)

pub code_in_heap : footprint_law → code_in_heap_law
code_in_heap footprints c f k code s t flow h e = moved_in_heap s t (code_frames footprints c f k code s t flow e) h

pub call_in_heap : footprint_law → call_in_heap_law
call_in_heap footprints c k g args start s t v within h e = moved_in_heap s t (call_frames footprints c k g args start s t v within e) h
