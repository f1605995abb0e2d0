-- Code keeps how many words and outcomes there are, and a call leaves those of its caller.
use Rattle.std.proofs.Common.{◌≡◌, ℕ, zero, suc, List, length, Option, Some, None, refl, sym, ◌∙◌, subst}
use Rattle.std.specs.Prelude.{slice_get}
use Rattle.std.proofs.lemmas.List.{length-set}
use Rattle.footprint_laws.specs.FootprintLaws.{footprint_law}
use Rattle.core_tree.specs.CoreTree.{Code, CoreFunction, Core}
use Rattle.c0_meaning.specs.Heaps.{Cells}
use Rattle.core_meaning.specs.CoreRuns.{CoreState, Out, Next, Ends, Run, end, go_on}
use Rattle.core_meaning.specs.CoreRunning.{Calls, core_exec_all, called, calls_at}
use Rattle.frame_laws.specs.FrameLaws.{inner, code_size_law, call_words_law}
use Rattle.frame_laws.proofs.Calling.{begun_at, left_to, called_is}
use Rattle.frame_laws.proofs.Obeying.{Anything, Nothing, Lawful, After, Obeys}
use Rattle.frame_laws.proofs.Executing.{code_obeys, calls_obey}

-- as many words and outcomes
abbrev pub Sized : CoreState → CoreState → Type 0
Sized s t = (length t.words ≡ length s.words) × (length t.outcomes ≡ length s.outcomes)

pub sizing : footprint_law → Lawful Anything Sized Nothing
sizing footprints = record {
  footprints = footprints;
  starts = λ few all h. tt;
  stays = λ s. (refl, refl);
  stops = λ s. tt;
  goes_on = λ s t u a b. (b.0 ∙ a.0, b.1 ∙ a.1);
  goes_to_stop = λ s t u a b. tt;
  steps = λ s n e. (refl, refl);
  turns = λ s n e. (refl, refl);
  reads = λ s x xs e. (refl, refl);
  writes = λ s bytes. (refl, refl);
  puts = λ s to x. (length-set s.words to x, refl);
  marks = λ s outcomes visits many starts. (refl, many);
  stores = λ s d x n own. (refl, refl);
  makes = λ s k fields. (refl, refl);
  level = λ outer start s t within h. h;
  level_stops = λ outer start s t within h. tt;
  call = λ start words outcomes s t within h. (refl, refl);
  call_stops = λ start words outcomes s t within h. tt;
}

abbrev pub SizedTo : {A : Type 0} → CoreState → Out A → Type 0
SizedTo s o = After Sized Nothing s o

abbrev pub Sizes : {A : Type 0} → Run A → Type 0
Sizes m = Obeys Sized Nothing m

pub code_sizes : footprint_law → (c : Core) (f : CoreFunction) (k : ℕ) (code : Code) → Sizes (core_exec_all c f (calls_at k c) code)
code_sizes footprints c f k code = code_obeys (sizing footprints) (calls_at k c) (calls_obey (sizing footprints) k c) c f code

pub code_size : footprint_law → code_size_law
code_size footprints c f k code s t flow e = subst (SizedTo s) e (code_sizes footprints c f k code s)

-- ---- calls
-- where a call goes on, its caller has its own words and outcomes
abbrev pub Restored : {A : Type 0} → CoreState → Out A → Type 0
Restored s (Next x t) = (t.words ≡ s.words) × (t.outcomes ≡ s.outcomes)
Restored s (Ends e t) = Unit {0}

pub restored_on : {A B : Type 0} (s : CoreState) (o : Out A) (f : A → Run B) → ((x : A) (t : CoreState) → Restored s (f x t)) → Restored s (go_on o f)
restored_on s (Next x t) f h = h x t
restored_on s (Ends e t) f h = tt

pub called_restores : (c : Core) (go : Calls) (g : ℕ) (f : Option CoreFunction) (args : List ℕ) (start : Cells) (s : CoreState) →
    Restored s (called c go g f args start s)
unfolding end
called_restores c go g None args start s = tt
called_restores c go g (Some f) args start s =
    subst (Restored s) (sym (called_is c go g f args start s))
    (restored_on s (inner c go g f args (begun_at f args start s)) (λ v t. Next v (left_to s t)) (λ v t. (refl, refl)))

pub calls_restore : (k : ℕ) (c : Core) (g : ℕ) (args : List ℕ) (start : Cells) (s : CoreState) → Restored s (calls_at k c g args start s)
unfolding end
calls_restore zero c g args start s = tt
calls_restore (suc k) c g args start s = called_restores c (calls_at k c) g (slice_get c.functions g) args start s

pub call_words : call_words_law
call_words c k g args start s t v e = subst (Restored s) e (calls_restore k c g args start s)
