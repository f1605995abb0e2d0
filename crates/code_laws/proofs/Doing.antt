-- How the machine follows a part of a watched run: so many instructions, which are paid for. Each instruction stands further
-- on in the code than the one before it, but for a jump back and a call, for each of which a turn pays the size of the code.
use Rattle.std.proofs.Common.{◌≡◌, ℕ, zero, suc, ◌+◌, ◌-◌, ◌*◌, ◌<◌, ◌≤◌, Option, List, [], ◌∷◌, ◌++◌, length, Some, None, refl, sym, ap, ◌∙◌, subst, arith, append_assoc, length-append}
use Rattle.std.proofs.Math.Nat.{suc-mul}
use Rattle.std.specs.Prelude.{slice_get}
use Rattle.std.proofs.Math.Seq.{get_or-append_seam}
use Rattle.std.proofs.lemmas.Option.{slice_get-get_or}
use Rattle.gc0_base.specs.declared.site.Ending.{Ending}
use Rattle.gc0_base.specs.declared.site.Ending.TheVariants.{StepsUsed}
use Rattle.watched_core.specs.WatchRuns.{View, WatchState, Out, Next, Ends, Run, go_on, chain, take_turn, turn, take_step, step}
use Rattle.code_laws.specs.Instrs as instr
use Rattle.code_laws.specs.Instrs.{Instr, Code}
use Rattle.code_laws.specs.Machine.{Frame, Machine, on, over, stepped, does, does_next, End, end_with, ended, after, run}

-- ---- instructions that stand in a code from a number on
abbrev pub HasAt : List Instr → ℕ → List Instr → Type 0
HasAt is pc [] = Unit {0}
HasAt is pc (i ∷ more) = (slice_get is pc ≡ Some i) × HasAt is (pc + 1) more

pub has_front : (is : List Instr) (pc : ℕ) (a b : List Instr) → HasAt is pc (a ++ b) → HasAt is pc a
has_front is pc [] b h = tt
has_front is pc (i ∷ a) b h = (h.0, has_front is (pc + 1) a b h.1)

pub has_back : (is : List Instr) (pc : ℕ) (a b : List Instr) → HasAt is pc (a ++ b) → HasAt is (pc + length a) b
has_back is pc [] b h = let e : pc ≡ pc + 0 = omega arith in subst (λ n. HasAt is n b) e h
has_back is pc (i ∷ a) b h =
    let e : pc + 1 + length a ≡ pc + length (i ∷ a) = omega arith in
    subst (λ n. HasAt is n b) e (has_back is (pc + 1) a b h.1)

pub has_all : (is before : List Instr) → HasAt (before ++ is) (length before) is
has_all [] before = tt
has_all (i ∷ is) before =
    let within : length before < length (before ++ i ∷ is) = omega (arith, length-append before (i ∷ is)) in
    let here = slice_get-get_or (before ++ i ∷ is) (length before) i within ∙ ap Some (get_or-append_seam before i is i) in
    let n : length (before ++ i ∷ []) ≡ length before + 1 = omega (arith, length-append before (i ∷ [])) in
    let rest = has_all is (before ++ i ∷ []) in
    let rest' = subst (λ l. HasAt l (length (before ++ i ∷ [])) is) (append_assoc before (i ∷ []) is) rest in
    (here, subst (λ m. HasAt (before ++ i ∷ is) m is) n rest')

-- what stands in a code stands before its end
pub one_within : (is : List Instr) (pc : ℕ) (i : Instr) → slice_get is pc ≡ Some i → pc < length is
one_within [] pc i h = absurd cc
one_within (x ∷ is) zero i h = omega arith
one_within (x ∷ is) (suc pc) i h = let l = one_within is pc i h in omega (arith, l)

pub has_within : (is : List Instr) (pc : ℕ) (i : Instr) (more : List Instr) → HasAt is pc (i ∷ more) → pc + length (i ∷ more) ≤ length is
has_within is pc i [] h = let l = one_within is pc i h.0 in omega (arith, l)
has_within is pc i (j ∷ more) h = let l = has_within is (pc + 1) j more h.1 in omega (arith, l)

module _ (code : Code) where
  -- so many instructions lead from one machine to another
  abbrev pub Leads : Machine → ℕ → Machine → Type 0
  Leads m d n = (k j : ℕ) → j ≡ d + k → run code j m ≡ run code k n

  -- so many instructions are enough to see an end
  abbrev pub Shows : Machine → ℕ → End → Type 0
  Shows m d e = (k j : ℕ) → j ≡ d + k → run code j m ≡ e

  pub leads_now : (m : Machine) → Leads m 0 m
  leads_now m k j e = let f : j ≡ k = omega (arith, e) in ap (λ i. run code i m) f

  pub leads_then : (m n o : Machine) (a b : ℕ) → Leads m a n → Leads n b o → Leads m (a + b) o
  leads_then m n o a b h i k j e = h (b + k) j (omega (arith, e)) ∙ i k (b + k) refl

  pub shows_then : (m n : Machine) (a b : ℕ) (e : End) → Leads m a n → Shows n b e → Shows m (a + b) e
  shows_then m n a b e h i k j f = h (b + k) j (omega (arith, f)) ∙ i k (b + k) refl

  -- one instruction
  pub leads_one : (m n : Machine) (i : Instr) → slice_get m.frame.instrs m.frame.next ≡ Some i → does code i m ≡ on n → Leads m 1 n
  leads_one m n i h e k j f =
      let g : j ≡ suc k = omega (arith, f) in
      ap (λ l. run code l m) g ∙ ap (λ o. after (run code k) m.output (does_next code o m)) h ∙ ap (after (run code k) m.output) e

  pub shows_one : (m : Machine) (i : Instr) (e : Ending) (v : Option View) → slice_get m.frame.instrs m.frame.next ≡ Some i → does code i m ≡ over e v → Shows m 1 (end_with m.output (ended e v))
  shows_one m i e v h f k j g =
      let g' : j ≡ suc k = omega (arith, g) in
      ap (λ l. run code l m) g' ∙ ap (λ o. after (run code k) m.output (does_next code o m)) h ∙ ap (after (run code k) m.output) f

-- where the machine stands in the code of a function, beside what the state of the run says
pub record Spot : Type 0 where
  pub next : ℕ
  pub operands : List ℕ
  pub since : ℕ

abbrev pub spot : ℕ → List ℕ → ℕ → Spot
spot pc operands since = record { next = pc; operands = operands; since = since }

-- A function's code runs, at most L long, over the frames that wait.
module _ (code : Code) (L : ℕ) (is : List Instr) (callers : List Frame) where
  abbrev pub at : Spot → WatchState → Machine
  at x s = record {
    frame = record { instrs = is; next = x.next; operands = x.operands; locals = s.words; marks = s.marks; since = x.since };
    callers = callers;
    heap = s.heap;
    levels = s.levels;
    input = s.input;
    output = s.output;
    steps = s.steps;
  }

  -- Where a part of a run goes on, the machine comes to a spot of which P says more. credit is paid besides.
  abbrev pub Done : {A : Type 0} → ℕ → Spot → WatchState → Out A → (A → WatchState → Spot → Type 0) → Type 0
  Done credit x s (Next v t) P =
      (y : Spot) × (d : ℕ) × (d + t.turns * L + x.next ≤ s.turns * L + credit + y.next) × (t.turns ≤ s.turns) × (t.steps ≤ t.turns) × Leads code (at x s) d (at y t) × P v t y
  Done credit x s (Ends e v t) P = (d : ℕ) × (d + x.next ≤ s.turns * L + credit + length is) × Shows code (at x s) d (end_with t.output (ended e v))

  pub record Does {A : Type 0} (credit : ℕ) (x : Spot) (s : WatchState) (o : Out A) (P : A → WatchState → Spot → Type 0) : Type 0 where
    pub by : Done credit x s o P

  -- nothing is left to do
  pub now : {A : Type 0} {v : A} {s : WatchState} {x : Spot} {P : A → WatchState → Spot → Type 0} → s.steps ≤ s.turns → P v s x → Does 0 x s (Next v s) P
  now {A = A} {v = v} {s = s} {x = x} {P = P} le p = record { by = (x, 0, omega arith, omega arith, le, leads_now code (at x s), p) }

  -- the machine has come so far for the same part of the run
  pub behind : {A : Type 0} {credit : ℕ} {x y : Spot} {s t : WatchState} {o : Out A} {P : A → WatchState → Spot → Type 0} →
      (d : ℕ) → Leads code (at x s) d (at y t) → d + x.next ≤ y.next → t.turns ≡ s.turns → Does credit y t o P → Does credit x s o P
  behind {A = A} {credit = credit} {x = x} {y = y} {s = s} {t = t} {o = Next v u} {P = P} d h le e a =
      let b = a.by in
      let f : t.turns * L ≡ s.turns * L = ap (λ n. n * L) e in
      record { by = (b.0, d + b.1, omega (arith, b.2, le, f), omega (arith, b.3, e), b.4, leads_then code (at x s) (at y t) (at b.0 u) d b.1 h b.5, b.6) }
  behind {A = A} {credit = credit} {x = x} {y = y} {s = s} {t = t} {o = Ends e' v u} {P = P} d h le e a =
      let b = a.by in
      let f : t.turns * L ≡ s.turns * L = ap (λ n. n * L) e in
      record { by = (d + b.0, omega (arith, b.1, le, f), shows_then code (at x s) (at y t) d b.0 (end_with u.output (ended e' v)) h b.2) }

  -- one instruction
  pub one : {A : Type 0} {credit : ℕ} {x y : Spot} {s t : WatchState} {o : Out A} {P : A → WatchState → Spot → Type 0} →
      (i : Instr) → slice_get is x.next ≡ Some i → does code i (at x s) ≡ on (at y t) → x.next < y.next → t.turns ≡ s.turns → Does credit y t o P → Does credit x s o P
  one {A = A} {credit = credit} {x = x} {y = y} {s = s} {t = t} i h e le f a = behind 1 (leads_one code (at x s) (at y t) i h e) (omega (arith, le)) f a

  -- one instruction ends the run
  pub ends_by : {A : Type 0} {credit : ℕ} {x : Spot} {s t : WatchState} {e : Ending} {v : Option View} {P : A → WatchState → Spot → Type 0} →
      (i : Instr) → slice_get is x.next ≡ Some i → does code i (at x s) ≡ over e v → t.output ≡ s.output → Does {A = A} credit x s (Ends e v t) P
  ends_by {A = A} {credit = credit} {x = x} {s = s} {t = t} {e = e} {v = v} i h f g =
      let l = one_within is x.next i h in
      record { by = (1, omega (arith, l), subst (λ o. Shows code (at x s) 1 (end_with o (ended e v))) (sym g) (shows_one code (at x s) i e v h f)) }

  -- what is known where the run goes on
  pub to : {A : Type 0} {credit : ℕ} {x : Spot} {s : WatchState} {o : Out A} {P Q : A → WatchState → Spot → Type 0} →
      Does credit x s o P → ((v : A) (t : WatchState) (y : Spot) → P v t y → t.turns ≤ s.turns → t.steps ≤ t.turns → Q v t y) → Does credit x s o Q
  to {A = A} {credit = credit} {x = x} {s = s} {o = Next v t} a h = let b = a.by in record { by = (b.0, b.1, b.2, b.3, b.4, b.5, h v t b.0 b.6 b.3 b.4) }
  to {A = A} {credit = credit} {x = x} {s = s} {o = Ends e v t} a h = record { by = a.by }

  -- one part after another
  pub then_go : {A B : Type 0} {credit : ℕ} {x : Spot} {s : WatchState} {o : Out A} {f : A → Run B} {P : A → WatchState → Spot → Type 0} {Q : B → WatchState → Spot → Type 0} →
      (first second : ℕ) → first + second ≤ credit → Does first x s o P → ((v : A) (t : WatchState) (y : Spot) → P v t y → t.turns ≤ s.turns → t.steps ≤ t.turns → Does second y t (f v t) Q) → Does credit x s (go_on o f) Q
  then_go {A = A} {B = B} {credit = credit} {x = x} {s = s} {o = Ends e v t} {f = f} first second c a h = let b = a.by in record { by = (b.0, omega (arith, b.1, c), b.2) }
  then_go {A = A} {B = B} {credit = credit} {x = x} {s = s} {o = Next v t} {f = f} {P = P} {Q = Q} first second c a h = let b = a.by in more (f v t) (h v t b.0 b.6 b.3 b.4)
    where
      more : (o : Out B) → Does second a.by.0 t o Q → Does credit x s o Q
      more (Next w u) k = let b = a.by in let m = k.by in record { by = (m.0, b.1 + m.1, omega (arith, b.2, m.2, c), omega (arith, b.3, m.3), m.4, leads_then code (at x s) (at b.0 t) (at m.0 u) b.1 m.1 b.5 m.5, m.6) }
      more (Ends e w u) k = let b = a.by in let m = k.by in record { by = (b.1 + m.0, omega (arith, b.2, m.1, c), shows_then code (at x s) (at b.0 t) b.1 m.0 (end_with u.output (ended e w)) b.5 m.2) }

  -- what is paid besides is paid in the first part
  pub bind : {A B : Type 0} {credit : ℕ} {x : Spot} {s : WatchState} {P : A → WatchState → Spot → Type 0} {Q : B → WatchState → Spot → Type 0} → (m : Run A) (f : A → Run B) →
      Does credit x s (m s) P → ((v : A) (t : WatchState) (y : Spot) → P v t y → t.turns ≤ s.turns → t.steps ≤ t.turns → Does 0 y t (f v t) Q) → Does credit x s (chain m f s) Q
  unfolding chain
  bind {A = A} {B = B} {credit = credit} m f a h = then_go credit 0 (omega arith) a h

  -- or in what follows it
  pub bind_paid : {A B : Type 0} {credit : ℕ} {x : Spot} {s : WatchState} {P : A → WatchState → Spot → Type 0} {Q : B → WatchState → Spot → Type 0} → (m : Run A) (f : A → Run B) →
      Does 0 x s (m s) P → ((v : A) (t : WatchState) (y : Spot) → P v t y → t.turns ≤ s.turns → t.steps ≤ t.turns → Does credit y t (f v t) Q) → Does credit x s (chain m f s) Q
  unfolding chain
  bind_paid {A = A} {B = B} {credit = credit} m f a h = then_go 0 credit (omega arith) a h

  -- a spot by its parts
  pub from_spot : {A : Type 0} {credit : ℕ} {y : Spot} {t : WatchState} {o : Out A} {P : A → WatchState → Spot → Type 0} →
      (q : ℕ) (operands : List ℕ) → y.next ≡ q → y.operands ≡ operands → Does credit (spot q operands y.since) t o P → Does credit y t o P
  from_spot {credit = credit} {y = y} {t = t} {o = o} {P = P} q operands e f a =
      subst (λ n. Does credit (spot n y.operands y.since) t o P) (sym e) (subst (λ l. Does credit (spot q l y.since) t o P) (sym f) a)

  -- a turn is taken, which pays L
  pub paid : {A : Type 0} {x : Spot} {s : WatchState} {o : Out A} {P : A → WatchState → Spot → Type 0} →
      (m : ℕ) → s.turns ≡ suc m → Does L x (record s { turns = m }) o P → Does 0 x s o P
  paid {x = x} {s = s} {o = Next v u} m e a =
      let b = a.by in
      let f : s.turns * L ≡ suc m * L = ap (λ n. n * L) e in
      record { by = (b.0, b.1, omega (arith, b.2, f, suc-mul m L), omega (arith, b.3, e), b.4, b.5, b.6) }
  paid {x = x} {s = s} {o = Ends e' v u} m e a =
      let b = a.by in
      let f : s.turns * L ≡ suc m * L = ap (λ n. n * L) e in
      record { by = (b.0, omega (arith, b.1, f, suc-mul m L), b.2) }

  -- a jump back over less than L
  pub jumped : {A : Type 0} {x : Spot} {s : WatchState} {o : Out A} {P : A → WatchState → Spot → Type 0} →
      (q : ℕ) → slice_get is x.next ≡ Some (instr.jumpback (x.next - q)) → q ≤ x.next → x.next < q + L → Does 0 (spot q x.operands x.since) s o P → Does L x s o P
  jumped {x = x} {s = s} {o = o} {P = P} q h le lt a = more o a
    where
      same : x.next - (x.next - q) ≡ q
      same = omega (arith, le)

      lead : Leads code (at x s) 1 (at (spot q x.operands x.since) s)
      lead = leads_one code (at x s) (at (spot q x.operands x.since) s) (instr.jumpback (x.next - q)) h (ap (λ n. on (at (spot n x.operands x.since) s)) same)

      more : (o : _) → Does 0 (spot q x.operands x.since) s o P → Does L x s o P
      more (Next v u) k = let b = k.by in record { by = (b.0, 1 + b.1, omega (arith, b.2, lt), b.3, b.4, leads_then code (at x s) (at (spot q x.operands x.since) s) (at b.0 u) 1 b.1 lead b.5, b.6) }
      more (Ends e v u) k = let b = k.by in record { by = (1 + b.0, omega (arith, b.1, lt), shows_then code (at x s) (at (spot q x.operands x.since) s) 1 b.0 (end_with u.output (ended e v)) lead b.2) }

  -- what a step leads to
  pub step_does : {x : Spot} {s : WatchState} → slice_get is x.next ≡ Some instr.step → s.steps ≤ s.turns →
      Does 0 x s (step s) (λ v t y. (y ≡ spot (x.next + 1) x.operands x.since) × (t.steps < t.turns))
  step_does {x = x} {s = s} h le = by_steps s.steps refl
    where
      Q : Unit {0} → WatchState → Spot → Type 0
      Q v t y = (y ≡ spot (x.next + 1) x.operands x.since) × (t.steps < t.turns)

      by_steps : (n : ℕ) → s.steps ≡ n → Does 0 x s (take_step n s) Q
      by_steps zero e = ends_by instr.step h (ap (λ n. stepped (at x record s { steps = n }) n) e) refl
      by_steps (suc n) e =
          one instr.step h (ap (λ i. stepped (at x s) i) e) (omega arith) refl (now {s = record s { steps = n }} {x = spot (x.next + 1) x.operands x.since} (omega (arith, e, le)) (refl, omega (arith, e, le)))

  -- A turn, and then a part of the run that begins with a step of its own. Where no turn is left there is no step either.
  pub turn_step : {A : Type 0} {x : Spot} {s : WatchState} {P : A → WatchState → Spot → Type 0} → (m rest : Run A) →
      ((t : WatchState) → m record t { steps = zero } ≡ Ends StepsUsed None record t { steps = zero }) →
      ((t : WatchState) (k : ℕ) → m record t { steps = suc k } ≡ rest record t { steps = k }) →
      slice_get is x.next ≡ Some instr.step → s.steps ≤ s.turns →
      ((t : WatchState) → t.words ≡ s.words → t.turns < s.turns → t.steps ≤ t.turns → Does L (spot (x.next + 1) x.operands x.since) t (rest t) P) → Does 0 x s (chain turn (λ _. m) s) P
  unfolding chain
  turn_step {A = A} {x = x} {s = s} {P = P} m rest none some h le next = by_turns s.turns refl
    where
      by_steps : (n i : ℕ) → s.turns ≡ suc n → s.steps ≡ i → Does L x (record s { turns = n }) (m record s { turns = n; steps = i }) P
      by_steps n zero e f =
          subst (λ o. Does L x (record s { turns = n }) o P) (sym (none record s { turns = n }))
          (ends_by instr.step h (ap (λ i. stepped (at x record s { steps = i }) i) f) refl)
      by_steps n (suc i) e f =
          subst (λ o. Does L x (record s { turns = n }) o P) (sym (some (record s { turns = n }) i))
          (one instr.step h (ap (λ i. stepped (at x s) i) f) (omega arith) refl
          (next record s { turns = n; steps = i } refl (omega (arith, e)) (omega (arith, e, f, le))))

      by_turns : (n : ℕ) → s.turns ≡ n → Does 0 x s (go_on (take_turn n s) (λ _. m)) P
      by_turns zero e = ends_by instr.step h (no_steps s.steps (omega (arith, e, le))) refl
        where
          no_steps : (i : ℕ) → i ≡ zero → stepped (at x record s { steps = i }) i ≡ over StepsUsed None
          no_steps zero e = refl
          no_steps (suc i) e = absurd cc
      by_turns (suc n) e =
          paid n e (subst (λ i. Does L x (record s { turns = n }) (m record s { turns = n; steps = i }) P) refl (by_steps n s.steps e refl))

  -- from a spot and a state that are known
  pub known : {B : Type 0} {credit : ℕ} {Q : B → WatchState → Spot → Type 0} → (go : Run B) (x y : Spot) (s t : WatchState) → y ≡ x → t ≡ s → Does credit x s (go s) Q → Does credit y t (go t) Q
  known {credit = credit} {Q = Q} go x y s t e f a = subst (λ z. Does credit z t (go t) Q) (sym e) (subst (λ u. Does credit x u (go u) Q) (sym f) a)

  -- some instructions more, where the run goes on
  pub more : {A : Type 0} {credit : ℕ} {x : Spot} {s : WatchState} {o : Out A} {P Q : A → WatchState → Spot → Type 0} →
      Does credit x s o P → ((v : A) (t : WatchState) (y : Spot) → P v t y → t.turns ≤ s.turns → t.steps ≤ t.turns → Does 0 y t (Next v t) Q) → Does credit x s o Q
  more {credit = credit} {o = Next v t} a h = then_go {f = λ v t. Next v t} credit 0 (omega arith) a h
  more {credit = credit} {o = Ends e v t} a h = record { by = a.by }

  -- what is paid besides need not be used
  pub unused : {A : Type 0} {credit : ℕ} {x : Spot} {s : WatchState} {o : Out A} {P : A → WatchState → Spot → Type 0} → Does 0 x s o P → Does credit x s o P
  unused {credit = credit} {o = Next v t} a = let b = a.by in record { by = (b.0, b.1, omega (arith, b.2), b.3, b.4, b.5, b.6) }
  unused {credit = credit} {o = Ends e v t} a = let b = a.by in record { by = (b.0, omega (arith, b.1), b.2) }
