-- A call, as its inside between a change of the state and another.
use Rattle.std.proofs.Common.{◌≡◌, ℕ, List, ◌++◌, Some, refl, sym}
use Rattle.core_tree.specs.CoreTree.{CoreFunction, Core}
use Rattle.c0_meaning.specs.Heaps.{Cells}
use Rattle.core_meaning.specs.CoreRuns.{CoreState, Out, Next, Ends, Run, go_on, chain, give, get, change}
use Rattle.core_meaning.specs.CoreRunning.{mark, Calls, core_exec_all, returned, first_words, no_outcomes, called}
use Rattle.frame_laws.specs.FrameLaws.{inner}

pub go_on_twice : {A B C : Type 0} (o : Out A) (f : A → Run B) (g : B → Run C) → go_on (go_on o f) g ≡ go_on o (λ x t. go_on (f x t) g)
go_on_twice (Next x t) f g = refl
go_on_twice (Ends e t) f g = refl

-- the state that a call starts with
abbrev pub begun_at : CoreFunction → List ℕ → Cells → CoreState → CoreState
begun_at f args start s = record s { owned = start; words = first_words f args; outcomes = no_outcomes (Some f) }

-- the state that it leaves to its caller
abbrev pub left_to : CoreState → CoreState → CoreState
left_to caller t = record t { owned = caller.owned ++ t.owned; words = caller.words; outcomes = caller.outcomes }

pub called_is : (c : Core) (go : Calls) (g : ℕ) (f : CoreFunction) (args : List ℕ) (start : Cells) (s : CoreState) →
    called c go g (Some f) args start s ≡ go_on (inner c go g f args (begun_at f args start s)) (λ v t. Next v (left_to s t))
unfolding chain get change give mark
called_is c go g f args start s = sym (go_on_twice (core_exec_all c f go f.body _) (returned c f) (λ v t. Next v (left_to s t)))
