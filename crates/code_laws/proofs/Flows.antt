-- Where the machine stands behind a statement.
use Rattle.std.proofs.Common.{◌≡◌, ℕ, ◌+◌, ◌≤◌, ◌<◌, Bool, true, false, ◌&&◌, ◌||◌, List, [], ◌∷◌, Some, is_some, if◌then◌else◌, slice_get, slice_set, refl, arith}
use Rattle.core_tree.specs.declared.Simple.{Simple}
use Rattle.core_tree.specs.declared.Simple.TheVariants as simple
use Rattle.core_tree.specs.CoreTree.{CoreFunction, Core}
use Rattle.core_meaning.specs.CoreRunning.{Flow, On, Back}
use Rattle.core_checks.specs.Placements.{Placement}
use Rattle.watched_core.specs.WatchRuns.{WatchState, Out, Next, Run, chain, give, change}
use Rattle.watched_core.specs.Watching.{word_of, put, unless_back}
use Rattle.code_laws.specs.Instrs as instr
use Rattle.code_laws.specs.Instrs.{Instr, Code}
use Rattle.code_laws.specs.Machine.{Frame, Machine}
use Rattle.code_laws.specs.Coding.{simple_code, return_code}
use Rattle.code_laws.proofs.Doing.{HasAt, Spot, spot, at, Does, now, one, to, from_spot}

pub no_truth : {A : Type 0} → false ≡ true → A
no_truth e = absurd cc

pub or_right : (a b : Bool) → b ≡ true → (a || b) ≡ true
or_right true b e = refl
or_right false b e = e

pub or_left : (a b : Bool) → a ≡ true → (a || b) ≡ true
or_left true b e = refl
or_left false b e = no_truth e

pub or_neither : (a b : Bool) → a ≡ false → b ≡ false → (a || b) ≡ false
or_neither true b e f = absurd cc
or_neither false b e f = f

pub and_first : (a b : Bool) → (a && b) ≡ true → a ≡ true
and_first true b e = refl
and_first false b e = no_truth e

pub and_second : (a b : Bool) → (a && b) ≡ true → b ≡ true
and_second true b e = e
and_second false b e = no_truth e

pub and_not : (a b : Bool) → b ≡ false → (a && b) ≡ false
and_not true b e = e
and_not false b e = refl

pub and_no : (a b : Bool) → a ≡ false → (a && b) ≡ false
and_no true b e = absurd cc
and_no false b e = refl

module _ (c : Core) (p : Placement) (code : Code) (L : ℕ) (g : ℕ) (f : CoreFunction) (is : List Instr) (callers : List Frame) where
  abbrev pub there : Spot → WatchState → Machine
  there x s = at code L is callers x s

  -- the value of a return, where the function has a result
  abbrev pub value_of : ℕ → List ℕ
  value_of x = if is_some f.result then x ∷ [] else []

  -- Behind a statement the machine stands at a place with no operands. Where the call returns it stands with the value
  -- before the end of the call. What the statement is says more: behind a step fewer steps are left than turns, where all
  -- paths end the run doesn't go on, and where nothing returns it does.
  abbrev pub Flows : ℕ → (stepping returns ends : Bool) → Flow → WatchState → Spot → Type 0
  Flows q stepping returns ends On t y = (y.next ≡ q) × (y.operands ≡ []) × (stepping ≡ true → t.steps < t.turns) × (ends ≡ false)
  Flows q stepping returns ends (Back site x) t y = HasAt is y.next (return_code c p g f site) × (y.operands ≡ value_of x) × (returns ≡ true)

  abbrev pub Plain : ℕ → Flow → WatchState → Spot → Type 0
  Plain q = Flows q false false false

  -- a run with its end known
  abbrev pub Goes : Spot → WatchState → Out Flow → ℕ → Type 0
  Goes x s o q = Does code L is callers 0 x s o (Plain q)

  pub goes_on : (q pc since : ℕ) (s : WatchState) → pc ≡ q → s.steps ≤ s.turns → Goes (spot pc [] since) s (Next On s) q
  goes_on q pc since s e le = now code L is callers le (e, refl, λ h. no_truth h, refl)

  -- a value comes on the operands
  pub simple_then : {A : Type 0} {credit : ℕ} {o : Out A} {P : A → WatchState → Spot → Type 0} → (a : Simple) (pc : ℕ) (operands : List ℕ) (since : ℕ) (s : WatchState) → slice_get is pc ≡ Some (simple_code a) →
      Does code L is callers credit (spot (pc + 1) (word_of a s ∷ operands) since) s o P → Does code L is callers credit (spot pc operands since) s o P
  simple_then (simple.Const w) pc operands since s h a = one code L is callers (instr.push w.0) h refl (omega arith) refl a
  simple_then (simple.Local i) pc operands since s h a = one code L is callers (instr.load i) h refl (omega arith) refl a

  -- and is written
  pub put_does : (to x q pc since : ℕ) (s : WatchState) → slice_get is pc ≡ Some (instr.save to) → pc + 1 ≡ q → s.steps ≤ s.turns → Goes (spot pc (x ∷ []) since) s (put to x s) q
  unfolding chain give change
  put_does to x q pc since s h e le =
      one code L is callers (instr.save to) h refl (omega arith) refl (goes_on q (pc + 1) since (record s { words = slice_set s.words to x }) e le)

  -- what follows where the run goes on
  pub unless : (q q' : ℕ) (a b c a' b' c' : Bool) (m : Run Flow) → (b ≡ true → b' ≡ true) →
      (flow : Flow) (t : WatchState) (y : Spot) → Flows q a b c flow t y →
      ((since : ℕ) → (a ≡ true → t.steps < t.turns) → c ≡ false → Does code L is callers 0 (spot q [] since) t (m t) (Flows q' a' b' c')) → t.steps ≤ t.turns →
      Does code L is callers 0 y t (unless_back flow m t) (Flows q' a' b' c')
  unfolding give
  unless q q' a b c a' b' c' m sub On t y x next le = from_spot code L is callers q [] x.0 x.1 (next y.since x.2 x.3)
  unless q q' a b c a' b' c' m sub (Back site v) t y x next le = now code L is callers le (x.0, x.1, sub x.2)
