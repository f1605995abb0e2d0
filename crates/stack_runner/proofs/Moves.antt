-- Machines that are equal part by part.
use Rattle.std.proofs.Common.{◌≡◌, ℕ, ◌+◌, ◌-◌, ◌≤◌, List, [], ◌∷◌, ◌++◌, length, map, reverse, take, drop, replicate, slice_range, refl, sym, ap, ◌∙◌, subst, arith, Some}
use Rattle.std.proofs.lemmas.List.{reverse-append, take-append-le, take_all, length-replicate}
use Rattle.gc0_base.specs.declared.site.Ending.TheVariants.{Returned}
use Rattle.stack_code.specs.Instrs.{Instr}
use Rattle.stack_code.specs.Views.{instr_view}
use Rattle.stack_code.specs.Machine as machine
use Rattle.stack_code.specs.Machine.{Move, on, over, stuck, onward, two_to_one, one_to_one, with_top, resumed, entered, to_target}
use Rattle.stack_runner.specs.declared.state.Frame.{Frame}
use Rattle.stack_runner.specs.declared.state.State.{State}
use Rattle.stack_runner.specs.States.{operands_at, shown, waiting, callers_of, machine_of, AreFine, IsFine, Differs, IsShort}
use Rattle.stack_runner.proofs.Stores.{operands-append, range-append, operands-none, AreEntered}

pub same_on : (i o : List ℕ) (n : ℕ) (f g : machine.Frame) (cs ds : List machine.Frame) → f ≡ g → cs ≡ ds →
    on record { frame = f; callers = cs; input = i; output = o; steps = n } ≡ on record { frame = g; callers = ds; input = i; output = o; steps = n }
same_on i o n f g cs ds e k =
    ap (λ (h : machine.Frame). on record { frame = h; callers = cs; input = i; output = o; steps = n }) e
    ∙ ap (λ (es : List machine.Frame). on record { frame = g; callers = es; input = i; output = o; steps = n }) k

pub same_frame : (is : List Instr) (n : ℕ) (ops ops' ls ls' : List ℕ) → ops ≡ ops' → ls ≡ ls' →
    ◌≡◌ {A = machine.Frame} record { instrs = is; next = n; operands = ops; locals = ls } record { instrs = is; next = n; operands = ops'; locals = ls' }
same_frame is n ops ops' ls ls' e k =
    ap (λ (o : List ℕ). let f : machine.Frame = record { instrs = is; next = n; operands = o; locals = ls } in f) e
    ∙ ap (λ (l : List ℕ). let f : machine.Frame = record { instrs = is; next = n; operands = ops'; locals = l } in f) k

-- a return with no frame that waits
pub ended : (s t : State) (x : ℕ) (i o : List ℕ) → operands_at s.frame.floor s.values.items ≡ x ∷ operands_at t.frame.floor t.values.items → callers_of t ≡ callers_of s → t.callers.items ≡ [] →
    with_top (operands_at s.frame.floor s.values.items) (λ y rest. resumed (machine_of i o s) (callers_of s) y) ≡ over (Returned record { 0 = x })
unfolding waiting
ended s t x i o e k n =
    ap (λ l. with_top l (λ y rest. resumed (machine_of i o s) (callers_of s) y)) e
    ∙ ap (λ cs. resumed (machine_of i o s) cs x) (sym k ∙ ap (λ l. waiting (reverse l) (take t.frame.base t.values.items)) n)

-- a return to the caller
pub left : (s t : State) (x : ℕ) (f : Frame) (fs : List Frame) (v : List ℕ) (i o : List ℕ) → operands_at s.frame.floor s.values.items ≡ x ∷ operands_at t.frame.floor t.values.items → callers_of t ≡ callers_of s → t.steps ≡ s.steps → t.callers.items ≡ fs ++ f ∷ [] → IsFine t → v ≡ take t.frame.base t.values.items ++ x ∷ [] →
    with_top (operands_at s.frame.floor s.values.items) (λ y rest. resumed (machine_of i o s) (callers_of s) y) ≡ on record { frame = shown v f; callers = waiting (reverse fs) (take f.base v); input = i; output = o; steps = t.steps }
unfolding waiting
left s t x f fs v i o e k n q fine is =
    let low = take t.frame.base t.values.items in
    let turned : reverse t.callers.items ≡ f ∷ reverse fs = ap reverse q ∙ reverse-append fs (f ∷ []) in
    let callers : callers_of s ≡ shown low f ∷ waiting (reverse fs) (take f.base low) = sym k ∙ ap (λ l. waiting l low) turned in
    let below : AreFine (f ∷ reverse fs) low = subst (λ l. AreFine l low) turned fine.1 in
    let order : f.base ≤ f.floor = below.0.order in
    let within : f.floor ≤ length low = below.0.within in
    let operands : x ∷ operands_at f.floor low ≡ operands_at f.floor v = sym (ap (operands_at f.floor) is ∙ operands-append f.floor low x within) in
    let locals : slice_range low f.base f.floor ≡ slice_range v f.base f.floor = sym (ap (λ l. slice_range l f.base f.floor) is ∙ range-append f.base f.floor low (x ∷ []) order within) in
    let deep : take f.base low ≡ take f.base v = sym (ap (take f.base) is ∙ take-append-le f.base low (x ∷ []) (omega arith)) in
    ap (λ l. with_top l (λ y rest. resumed (machine_of i o s) (callers_of s) y)) e
    ∙ ap (λ cs. resumed (machine_of i o s) cs x) callers
    ∙ same_on i o s.steps _ _ _ _ (same_frame _ f.next _ _ _ _ operands locals) (ap (waiting (reverse fs)) deep)
    ∙ ap (λ (m : ℕ). on record { frame = shown v f; callers = waiting (reverse fs) (take f.base v); input = i; output = o; steps = m }) (sym n)

-- a call of a function on its arguments
pub called : (s : State) (code : List Instr) (n ls base top : ℕ) (w : List ℕ) (cs : List Frame) (i o : List ℕ) → AreEntered s.frame.base s.frame.floor n (ls - n) base top s.values.items w →
    cs ≡ s.callers.items ++ record { instrs = s.frame.instrs; next = s.frame.next + 1; base = s.frame.base; floor = s.frame.floor } ∷ [] →
    entered (machine_of i o s) (Some record { params = n; locals = ls; instrs = code })
    ≡ on record { frame = record { instrs = code; next = 0; operands = operands_at top w; locals = slice_range w base top }; callers = waiting (reverse cs) (take base w); input = i; output = o; steps = s.steps }
unfolding waiting
called s code n ls base top w cs i o h is =
    let f = s.frame in
    let g : Frame = record { instrs = f.instrs; next = f.next + 1; base = f.base; floor = f.floor } in
    let turned : reverse cs ≡ g ∷ reverse s.callers.items = ap reverse is ∙ reverse-append s.callers.items (g ∷ []) in
    same_on i o s.steps _ _ _ _ (same_frame code 0 _ _ _ _ h.operands h.locals)
    (ap (λ (k : machine.Frame). k ∷ callers_of s) (same_frame (map instr_view f.instrs.now) (f.next + 1) _ _ _ _ h.left h.kept)
    ∙ ap (λ l. shown (take base w) g ∷ waiting (reverse s.callers.items) l) h.below
    ∙ ap (λ l. waiting l (take base w)) (sym turned))

-- a machine, from equal frames and callers
pub same_machine : (i o : List ℕ) (n : ℕ) (f g : machine.Frame) (cs ds : List machine.Frame) → f ≡ g → cs ≡ ds →
    ◌≡◌ {A = machine.Machine} record { frame = f; callers = cs; input = i; output = o; steps = n } record { frame = g; callers = ds; input = i; output = o; steps = n }
same_machine i o n f g cs ds e k =
    ap (λ (h : machine.Frame). let m : machine.Machine = record { frame = h; callers = cs; input = i; output = o; steps = n } in m) e
    ∙ ap (λ (es : List machine.Frame). let m : machine.Machine = record { frame = g; callers = es; input = i; output = o; steps = n } in m) k

-- a state in which nothing was called
pub begun : (is js : List Instr) (y z long : ℕ) (v old : List ℕ) (cs : List Frame) (i : List ℕ) (n : ℕ) → is ≡ js → z ≡ y → v ≡ take z old ++ replicate (z - long) 0 → old ≡ [] → long ≡ 0 → cs ≡ [] →
    ◌≡◌ {A = machine.Machine} record { frame = record { instrs = is; next = 0; operands = operands_at z v; locals = slice_range v 0 z }; callers = waiting (reverse cs) (take 0 v); input = i; output = []; steps = n }
    record { frame = record { instrs = js; next = 0; operands = []; locals = replicate y 0 }; callers = []; input = i; output = []; steps = n }
unfolding waiting
begun is js y z long v old cs i n e t k o l q =
    let v_is : v ≡ replicate z 0 = k ∙ ap (λ u. take z u ++ replicate (z - long) 0) o ∙ ap (λ u. u ++ replicate (z - long) 0) (take_all z [] (omega arith)) ∙ ap (λ (m : ℕ). replicate m 0) (let m : z - long ≡ z = omega arith in m) in
    let z_is : length v ≡ z = ap length v_is ∙ length-replicate z 0 in
    let operands : operands_at z v ≡ [] = operands-none z v (omega arith) in
    let locals : slice_range v 0 z ≡ replicate y 0 = take_all (z - 0) v (omega arith) ∙ v_is ∙ ap (λ (m : ℕ). replicate m 0) t in
    same_machine i [] n _ _ _ _
    (ap (λ (ks : List Instr). let f : machine.Frame = record { instrs = ks; next = 0; operands = operands_at z v; locals = slice_range v 0 z } in f) e ∙ same_frame js 0 _ _ _ _ operands locals)
    (ap (λ l. waiting (reverse l) (take 0 v)) q)
