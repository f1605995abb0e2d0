-- How the machine follows a part of a run: exactly so many instructions, paid for from a budget. Each step that is left is
-- worth the size of the code, since no instruction comes twice before a step is taken.
use Rattle.std.proofs.Common.{◌≡◌, ℕ, zero, suc, ◌+◌, ◌*◌, ◌<◌, ◌≤◌, List, [], ◌∷◌, ◌++◌, length, Some, refl, sym, ap, ◌∙◌, subst, arith, append_assoc, length-append}
use Rattle.std.proofs.Math.Nat.{suc-mul}
use Rattle.std.specs.Prelude.{slice_get}
use Rattle.std.proofs.Math.Seq.{get_or-append_seam}
use Rattle.std.proofs.lemmas.Option.{slice_get-get_or}
use Rattle.gc0_base.specs.declared.site.Ending.{Ending}
use Rattle.gc0_base.specs.declared.site.Ending.TheVariants.{StepsUsed}
use Rattle.c0_meaning.specs.Runs.{State, Out, Next, Ends, Run, go_on, take_step}
use Rattle.c0_meaning.specs.Running.{Seen}
use Rattle.stack_code.specs.Instrs as instr
use Rattle.stack_code.specs.Instrs.{Instr, Code}
use Rattle.stack_code.specs.Machine.{Frame, Machine, does, does_next, after, runs}

-- what a run of so many instructions shows
abbrev pub Goes : Type 0
Goes = ℕ → Seen

-- A fact about what a part of a run gives, where it goes on.
abbrev pub IfNext : {A : Type 0} → (A → Type 0) → Out A → Type 0
IfNext P (Next x s) = P x
IfNext P (Ends e s) = Unit {0}

pub if_next_bind : {A B : Type 0} (P : A → Type 0) (Q : B → Type 0) (o : Out A) (f : A → Run B) → IfNext P o → ((x : A) (s : State) → P x → IfNext Q (f x s)) → IfNext Q (go_on o f)
if_next_bind P Q (Next x s) f h k = k x s h
if_next_bind P Q (Ends e s) f h k = tt

pub if_next_any : {A : Type 0} (o : Out A) → IfNext (λ x. Unit {0}) o
if_next_any (Next x s) = tt
if_next_any (Ends e s) = tt

-- the machine with the words of a state of the program; it knows nothing of heap, owned cells and sites
abbrev pub machine_of : List Instr → List Frame → ℕ → List ℕ → State → Machine
machine_of is callers pc operands s = record { frame = record { instrs = is; next = pc; operands = operands; locals = s.locals }; callers = callers; input = s.input; output = s.output; steps = s.steps }

-- instructions that stand in a code from a number on
abbrev pub HasAt : List Instr → ℕ → List Instr → Type 0
HasAt is pc [] = Unit {0}
HasAt is pc (i ∷ more) = (slice_get is pc ≡ Some i) × HasAt is (pc + 1) more

pub has_front : (is : List Instr) (pc : ℕ) (a b : List Instr) → HasAt is pc (a ++ b) → HasAt is pc a
has_front is pc [] b h = tt
has_front is pc (i ∷ a) b h = (h.0, has_front is (pc + 1) a b h.1)

pub has_back : (is : List Instr) (pc : ℕ) (a b : List Instr) → HasAt is pc (a ++ b) → HasAt is (pc + length a) b
has_back is pc [] b h = let e : pc ≡ pc + 0 = omega arith in subst (λ n. HasAt is n b) e h
has_back is pc (i ∷ a) b h =
    let e : pc + 1 + length a ≡ pc + length (i ∷ a) = omega arith in
    subst (λ n. HasAt is n b) e (has_back is (pc + 1) a b h.1)

pub has_all : (is before : List Instr) → HasAt (before ++ is) (length before) is
has_all [] before = tt
has_all (i ∷ is) before =
    let within : length before < length (before ++ i ∷ is) = omega (arith, length-append before (i ∷ is)) in
    let here = slice_get-get_or (before ++ i ∷ is) (length before) i within ∙ ap Some (get_or-append_seam before i is i) in
    let n : length (before ++ i ∷ []) ≡ length before + 1 = omega (arith, length-append before (i ∷ [])) in
    let rest = has_all is (before ++ i ∷ []) in
    let rest' = subst (λ l. HasAt l (length (before ++ i ∷ [])) is) (append_assoc before (i ∷ []) is) rest in
    (here, subst (λ m. HasAt (before ++ i ∷ is) m is) n rest')

module _ (code : Code) (L : ℕ) where
  -- From start, exactly d instructions lead to where the outcome says, and they are paid for: what is left of the budget B
  -- is R, and L for each step that is left.
  abbrev pub Does : {A : Type 0} → Goes → ℕ → ℕ → ℕ → Out A → (A → State → Goes) → Type 0
  Does start most B R (Next x s) to = (d : ℕ) × (d + s.steps * L + R ≤ B) × (s.steps ≤ most) × ((k j : ℕ) → j ≡ d + k → start j ≡ to x s k)
  Does start most B R (Ends e s) to = (d : ℕ) × (d ≤ B) × ((k j : ℕ) → j ≡ d + k → start j ≡ (s.output, e))

  pub does_after : {A : Type 0} (o : Out A) (d most B B' R : ℕ) (start mid : Goes) (to : A → State → Goes) →
      ((k j : ℕ) → j ≡ d + k → start j ≡ mid k) → d + B' ≤ B → Does mid most B' R o to → Does start most B R o to
  does_after (Next x s) d most B B' R start mid to h le a = (d + a.0, omega (arith, a.1), a.2, λ k j e. h (a.0 + k) j (omega arith) ∙ a.3 k (a.0 + k) refl)
  does_after (Ends e s) d most B B' R start mid to h le a = (d + a.0, omega (arith, a.1), λ k j f. h (a.0 + k) j (omega arith) ∙ a.2 k (a.0 + k) refl)

  -- under a larger bound on the steps that are left
  pub does_most : {A : Type 0} (o : Out A) (most more B R : ℕ) (start : Goes) (to : A → State → Goes) → most ≤ more → Does start most B R o to → Does start more B R o to
  does_most (Next x s) most more B R start to le a = (a.0, a.1, omega (arith, a.2), a.3)
  does_most (Ends e s) most more B R start to le a = a

  pub does_to : {A : Type 0} (o : Out A) (most B R : ℕ) (start : Goes) (to to' : A → State → Goes) → ((x : A) (s : State) (k : ℕ) → to x s k ≡ to' x s k) → Does start most B R o to → Does start most B R o to'
  does_to (Next x s) most B R start to to' h a = (a.0, a.1, a.2, λ k j e. a.3 k j e ∙ h x s k)
  does_to (Ends e s) most B R start to to' h a = a

  -- from a larger budget
  pub does_le : {A : Type 0} (o : Out A) (most B B' R : ℕ) (start : Goes) (to : A → State → Goes) → B ≤ B' → Does start most B R o to → Does start most B' R o to
  does_le (Next x s) most B B' R start to le a = (a.0, omega (arith, a.1), a.2, a.3)
  does_le (Ends e s) most B B' R start to le a = (a.0, omega (arith, a.1), a.2)

  -- one part after another, where the first gives what has a property
  pub does_bind_if : {A C : Type 0} (P : A → Type 0) (m : Out A) (g : A → Run C) (most B R1 R2 : ℕ) (start : Goes) (to1 : A → State → Goes) (to2 : C → State → Goes) →
      IfNext P m → Does start most B R1 m to1 → ((x : A) (s : State) → P x → s.steps ≤ most → Does (to1 x s) s.steps (s.steps * L + R1) R2 (g x s) to2) → Does start most B R2 (go_on m g) to2
  does_bind_if P (Next x s) g most B R1 R2 start to1 to2 p a h =
      does_after (g x s) a.0 most B (s.steps * L + R1) R2 start (to1 x s) to2 a.3 (omega (arith, a.1)) (does_most (g x s) s.steps most (s.steps * L + R1) R2 (to1 x s) to2 a.2 (h x s p a.2))
  does_bind_if P (Ends e s) g most B R1 R2 start to1 to2 p a h = a

  pub does_bind : {A C : Type 0} (m : Out A) (g : A → Run C) (most B R1 R2 : ℕ) (start : Goes) (to1 : A → State → Goes) (to2 : C → State → Goes) →
      Does start most B R1 m to1 → ((x : A) (s : State) → s.steps ≤ most → Does (to1 x s) s.steps (s.steps * L + R1) R2 (g x s) to2) → Does start most B R2 (go_on m g) to2
  does_bind m g most B R1 R2 start to1 to2 a h = does_bind_if (λ x. Unit {0}) m g most B R1 R2 start to1 to2 (if_next_any m) a (λ x s u le. h x s le)

  -- one instruction, and then the rest
  pub does_one : {A : Type 0} (o : Out A) (most B' B R : ℕ) (start mid : Goes) (to : A → State → Goes) → 1 + B' ≤ B → ((k : ℕ) → start (suc k) ≡ mid k) → Does mid most B' R o to → Does start most B R o to
  does_one o most B' B R start mid to le h a =
      does_after o 1 most B B' R start mid to (λ k j e. let f : suc k ≡ j = omega arith in subst (λ n. start n ≡ mid k) f (h k)) le a

  -- nothing is left to do
  pub does_now : {A : Type 0} (x : A) (s : State) (most R : ℕ) (to : A → State → Goes) → s.steps ≤ most → Does (to x s) most (s.steps * L + R) R (Next x s) to
  does_now x s most R to le = (0, omega arith, le, λ k j e. let f : k ≡ j = omega arith in subst (λ n. to x s n ≡ to x s k) f refl)

  -- one instruction ends the run
  pub does_end : {A : Type 0} (o : Out A) (s : State) (most B R : ℕ) (start : Goes) (to : A → State → Goes) (e : Ending) → o ≡ Ends e s → 1 ≤ B → ((k : ℕ) → start (suc k) ≡ (s.output, e)) → Does start most B R o to
  does_end o s most B R start to e same le h =
      subst (λ o. Does start most B R o to) (sym same) (1, le, λ k j f. let g : suc k ≡ j = omega arith in subst (λ n. start n ≡ (s.output, e)) g (h k))

  module _ (is : List Instr) (callers : List Frame) where
    -- the machine from an instruction on
    abbrev pub from : ℕ → List ℕ → State → Goes
    from pc operands s k = runs k code (machine_of is callers pc operands s)

    -- one instruction that stands in the code
    pub acts : (pc : ℕ) (operands : List ℕ) (s : State) (i : Instr) → slice_get is pc ≡ Some i → (k : ℕ) →
        from pc operands s (suc k) ≡ after (does code i (machine_of is callers pc operands s)) s.output (runs k code)
    acts pc operands s i h k = ap (λ o. after (does_next code o (machine_of is callers pc operands s)) s.output (runs k code)) h

    -- a step is taken, which pays L
    pub step_by : {C : Type 0} (n : ℕ) (g : Run C) (s : State) (pc : ℕ) (operands : List ℕ) (R R2 : ℕ) (to : C → State → Goes) → slice_get is pc ≡ Some instr.step →
        ((t : State) → t.steps < n → Does (from (pc + 1) operands t) t.steps (t.steps * L + R + L) R2 (g t) to) →
        Does (from pc operands record s { steps = n }) n (n * L + 1 + R) R2 (go_on (take_step n record s { steps = n }) (λ _. g)) to
    step_by zero g s pc operands R R2 to h next =
        (1, omega arith, λ k j e. let f : suc k ≡ j = omega arith in subst (λ m. from pc operands record s { steps = zero } m ≡ (s.output, StepsUsed)) f (acts pc operands record s { steps = zero } instr.step h k))
    step_by (suc n) g s pc operands R R2 to h next =
        let t : State = record s { steps = n } in
        does_one (g t) (suc n) (n * L + R + L) (suc n * L + 1 + R) R2 _ (from (pc + 1) operands t) to (omega (arith, suc-mul n L)) (acts pc operands record s { steps = suc n } instr.step h)
        (does_most (g t) n (suc n) (n * L + R + L) R2 (from (pc + 1) operands t) to (omega arith) (next t (omega arith)))

    pub step_then : {C : Type 0} (g : Run C) (s : State) (pc : ℕ) (operands : List ℕ) (R R2 : ℕ) (to : C → State → Goes) → slice_get is pc ≡ Some instr.step →
        ((t : State) → t.steps < s.steps → Does (from (pc + 1) operands t) t.steps (t.steps * L + R + L) R2 (g t) to) →
        Does (from pc operands s) s.steps (s.steps * L + 1 + R) R2 (go_on (take_step s.steps s) (λ _. g)) to
    step_then g s pc operands R R2 to h next = step_by s.steps g s pc operands R R2 to h next
