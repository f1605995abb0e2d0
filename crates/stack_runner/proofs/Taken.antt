-- What a sink has taken of a run, instruction by instruction.
use Rattle.std.proofs.Common.{◌≡◌, ℕ, zero, suc, ◌+◌, ◌≤◌, Bool, true, false, List, [], ◌∷◌, ◌++◌, length, take, map, Option, Some, None, slice_get, refl, sym, ap, ◌∙◌, arith, append_assoc, append-nil, length-append, ◌-◌, ◌*◌, ◌<◌, subst, mul_assoc, suc-mul, zero-mul, add-zero}
use Rattle.std.proofs.Math.Seq.{take-append-add}
use Rattle.std.proofs.lemmas.List.{take-append-le}
use Rattle.std.specs.Io.KnownBytes.{append_known}
use Rattle.gc0_io.specs.Bytes.{TakesFront}
use Rattle.gc0_base.specs.declared.site.Ending.{Ending}
use Rattle.gc0_base.specs.declared.site.Ending.TheVariants.{StepsUsed}
use Rattle.c0_meaning.specs.Operators.{pick, number_text, truth_text}
use Rattle.c0_meaning.specs.Running.{Seen}
use Rattle.stack_code.specs.Instrs as instr
use Rattle.stack_code.specs.Instrs.{Instr, Body, Code, size}
use Rattle.stack_code.specs.Views.{instr_view}
use Rattle.stack_code.specs.Machine as machine
use Rattle.stack_code.specs.Machine.{Machine, Move, on, over, does, does_next, after, runs, run_code, first, with_top, stepped, entered, resumed, checked}
use Rattle.stack_runner.specs.declared.state.State.{State}
use Rattle.stack_runner.specs.States.{machine_of, operands_at, move_of, text_of, output_after, Does}

-- the output with which a move goes on
abbrev output_of : Move → List ℕ → List ℕ
output_of (on m) old = m.output
output_of (over e) old = old

top_keeps : (ops : List ℕ) (f : ℕ → List ℕ → Move) (out : List ℕ) → ((x : ℕ) (rest : List ℕ) → output_of (f x rest) out ≡ out) → output_of (with_top ops f) out ≡ out
top_keeps [] f out h = refl
top_keeps (x ∷ rest) f out h = h x rest

pick_keeps : (x : ℕ) (a b : Move) (out : List ℕ) → output_of a out ≡ out → output_of b out ≡ out → output_of (pick x a b) out ≡ out
pick_keeps zero a b out h k = h
pick_keeps (suc n) a b out h k = k

step_keeps : (m : Machine) (n : ℕ) → output_of (stepped m n) m.output ≡ m.output
step_keeps m zero = refl
step_keeps m (suc n) = refl

call_keeps : (m : Machine) (b : Option Body) → output_of (entered m b) m.output ≡ m.output
call_keeps m None = refl
call_keeps m (Some b) = refl

return_keeps : (m : Machine) (fs : List machine.Frame) (x : ℕ) → output_of (resumed m fs x) m.output ≡ m.output
return_keeps m [] x = refl
return_keeps m (f ∷ fs) x = refl

check_keeps : (m : Machine) (site : _) (b : Bool) → output_of (checked m site b) m.output ≡ m.output
check_keeps m site true = refl
check_keeps m site false = refl

int_writes : (m : Machine) (ops : List ℕ) → output_of (with_top ops (λ x rest. machine.written m (number_text x) rest)) m.output ≡ m.output ++ text_of instr.printint ops
int_writes m [] = sym (append-nil m.output)
int_writes m (x ∷ ops) = refl

bool_writes : (m : Machine) (ops : List ℕ) → output_of (with_top ops (λ x rest. machine.written m (truth_text x) rest)) m.output ≡ m.output ++ text_of instr.printbool ops
bool_writes m [] = sym (append-nil m.output)
bool_writes m (x ∷ ops) = refl

-- an instruction writes its text behind the output
writes : (code : Code) (i : Instr) (m : Machine) → output_of (does code i m) m.output ≡ output_after i m.frame.operands m.output
writes code (instr.push w) m = refl
writes code (instr.load n) m = refl
writes code (instr.save n) m = top_keeps m.frame.operands _ m.output (λ x rest. refl)
writes code instr.drop m = top_keeps m.frame.operands _ m.output (λ x rest. refl)
writes code instr.neg m = top_keeps m.frame.operands _ m.output (λ x rest. refl)
writes code instr.flip m = top_keeps m.frame.operands _ m.output (λ x rest. refl)
writes code instr.add m = top_keeps m.frame.operands _ m.output (λ y rest. top_keeps rest _ m.output (λ x more. refl))
writes code instr.sub m = top_keeps m.frame.operands _ m.output (λ y rest. top_keeps rest _ m.output (λ x more. refl))
writes code instr.mul m = top_keeps m.frame.operands _ m.output (λ y rest. top_keeps rest _ m.output (λ x more. refl))
writes code instr.less m = top_keeps m.frame.operands _ m.output (λ y rest. top_keeps rest _ m.output (λ x more. refl))
writes code instr.lesseq m = top_keeps m.frame.operands _ m.output (λ y rest. top_keeps rest _ m.output (λ x more. refl))
writes code instr.equal m = top_keeps m.frame.operands _ m.output (λ y rest. top_keeps rest _ m.output (λ x more. refl))
writes code (instr.jump t) m = refl
writes code (instr.jumpfalse t) m = top_keeps m.frame.operands _ m.output (λ x rest. pick_keeps x _ _ m.output refl refl)
writes code instr.step m = step_keeps m m.steps
writes code (instr.call f) m = call_keeps m (slice_get code.functions f)
writes code instr.return m = top_keeps m.frame.operands _ m.output (λ x rest. return_keeps m m.callers x)
writes code instr.printint m = int_writes m m.frame.operands
writes code instr.printbool m = bool_writes m m.frame.operands
writes code (instr.checkwhole site formula words) m = check_keeps m site _

after_is : (i : Instr) (ops out : List ℕ) → output_after i ops out ≡ out ++ text_of i ops
after_is instr.printint ops out = refl
after_is instr.printbool ops out = refl
after_is (instr.push w) ops out = sym (append-nil out)
after_is (instr.load n) ops out = sym (append-nil out)
after_is (instr.save n) ops out = sym (append-nil out)
after_is instr.drop ops out = sym (append-nil out)
after_is instr.neg ops out = sym (append-nil out)
after_is instr.flip ops out = sym (append-nil out)
after_is instr.add ops out = sym (append-nil out)
after_is instr.sub ops out = sym (append-nil out)
after_is instr.mul ops out = sym (append-nil out)
after_is instr.less ops out = sym (append-nil out)
after_is instr.lesseq ops out = sym (append-nil out)
after_is instr.equal ops out = sym (append-nil out)
after_is (instr.jump t) ops out = sym (append-nil out)
after_is (instr.jumpfalse t) ops out = sym (append-nil out)
after_is instr.step ops out = sym (append-nil out)
after_is (instr.call f) ops out = sym (append-nil out)
after_is instr.return ops out = sym (append-nil out)
after_is (instr.checkwhole site formula words) ops out = sym (append-nil out)

after_begins : (mv : Move) (old text : List ℕ) (f : Machine → Seen) → output_of mv old ≡ old ++ text → ((m : Machine) → (rest : List ℕ) × ((f m).0 ≡ m.output ++ rest)) → (rest : List ℕ) × ((after mv old f).0 ≡ old ++ text ++ rest)
after_begins (on m) old text f e h = let r = h m in (r.0, r.1 ∙ ap (λ l. l ++ r.0) e)
after_begins (over x) old text f e h = ([], e ∙ sym (append-nil (old ++ text)))

begins_next : (k : ℕ) (code : Code) (m : Machine) (i : Option Instr) → ((n : Machine) → (rest : List ℕ) × ((runs k code n).0 ≡ n.output ++ rest)) →
    (rest : List ℕ) × ((after (does_next code i m) m.output (runs k code)).0 ≡ m.output ++ rest)
begins_next k code m None h = ([], sym (append-nil m.output))
begins_next k code m (Some i) h =
    let r = after_begins (does code i m) m.output (text_of i m.frame.operands) (runs k code) (writes code i m ∙ after_is i m.frame.operands m.output) h in
    (text_of i m.frame.operands ++ r.0, r.1 ∙ append_assoc m.output (text_of i m.frame.operands) r.0)

-- the output of a run begins with what was written before
begins : (k : ℕ) (code : Code) (m : Machine) → (rest : List ℕ) × ((runs k code m).0 ≡ m.output ++ rest)
begins zero code m = ([], sym (append-nil m.output))
begins (suc k) code m = begins_next k code m (slice_get m.frame.instrs m.frame.next) (begins k code)

append_known-append : (o : Option (List ℕ)) (a b : List ℕ) → append_known (append_known o a) b ≡ append_known o (a ++ b)
append_known-append None a b = refl
append_known-append (Some xs) a b = ap Some (append_assoc xs a b)

-- A run of which the sink took the output so far, and which goes on from a state for at most so many instructions.
pub record IsSoFar (before now : Option (List ℕ)) (all : Seen) (left : ℕ) (code : Code) (input : List ℕ) (s : State) : Type 0 where
  pub text : List ℕ
  pub taken : now ≡ append_known before text
  pub rest : all ≡ runs left code (machine_of input text s)

-- one instruction of a run
next_is : (k left : ℕ) (code : Code) (m : Machine) (i : Option Instr) → left ≡ suc k → slice_get m.frame.instrs m.frame.next ≡ i → runs left code m ≡ after (does_next code i m) m.output (runs k code)
next_is k left code m i l e = ap (λ n. runs n code m) l ∙ ap (λ j. after (does_next code j m) m.output (runs k code)) e

pub goes_on : (before now later : Option (List ℕ)) (all : Seen) (left k : ℕ) (code : Code) (input : List ℕ) (s t : State) (i : Instr) →
    IsSoFar before now all left code input s → left ≡ suc k → slice_get (map instr_view s.frame.instrs.now) s.frame.next ≡ Some i → Does code i s t None →
    later ≡ append_known now (text_of i (operands_at s.frame.floor s.values.items)) → IsSoFar before later all k code input t
goes_on before now later all left k code input s t i so l e d w =
    let ops = operands_at s.frame.floor s.values.items in
    let m = machine_of input so.text s in
    record {
      text = so.text ++ text_of i ops;
      taken = w ∙ ap (λ o. append_known o (text_of i ops)) so.taken ∙ append_known-append before so.text (text_of i ops);
      rest = so.rest ∙ next_is k left code m (Some i) l e ∙ ap (λ mv. after mv so.text (runs k code)) (d input so.text) ∙ ap (λ out. runs k code (machine_of input out t)) (after_is i ops so.text);
    }

no_text : (code : Code) (i : Instr) (m : Machine) (e : Ending) → does code i m ≡ over e → m.output ≡ m.output ++ text_of i m.frame.operands
no_text code i m e d = sym (ap (λ mv. output_of mv m.output) d) ∙ writes code i m ∙ after_is i m.frame.operands m.output

pub ends : (before now later : Option (List ℕ)) (all : Seen) (left k : ℕ) (code : Code) (input : List ℕ) (s t : State) (i : Instr) (x : Ending) →
    IsSoFar before now all left code input s → left ≡ suc k → slice_get (map instr_view s.frame.instrs.now) s.frame.next ≡ Some i → Does code i s t (Some x) →
    later ≡ append_known now (text_of i (operands_at s.frame.floor s.values.items)) → (later ≡ append_known before all.0) × (all.1 ≡ x)
ends before now later all left k code input s t i x so l e d w =
    let ops = operands_at s.frame.floor s.values.items in
    let m = machine_of input so.text s in
    let is : all ≡ (so.text, x) = so.rest ∙ next_is k left code m (Some i) l e ∙ ap (λ mv. after mv so.text (runs k code)) (d input so.text) in (
      w ∙ ap (λ o. append_known o (text_of i ops)) so.taken ∙ append_known-append before so.text (text_of i ops)
          ∙ ap (append_known before) (sym (no_text code i m x (d input so.text)) ∙ sym (ap (λ (y : Seen). y.0) is)),
      ap (λ (y : Seen). y.1) is,
    )

pub stops : (before now : Option (List ℕ)) (all : Seen) (left k : ℕ) (code : Code) (input : List ℕ) (s : State) →
    IsSoFar before now all left code input s → left ≡ suc k → slice_get (map instr_view s.frame.instrs.now) s.frame.next ≡ None → (now ≡ append_known before all.0) × (all.1 ≡ StepsUsed)
stops before now all left k code input s so l e =
    let is : all ≡ (so.text, StepsUsed) = so.rest ∙ next_is k left code (machine_of input so.text s) None l e in
    (so.taken ∙ ap (append_known before) (sym (ap (λ (y : Seen). y.0) is)), ap (λ (y : Seen). y.1) is)

runs_out : (before now : Option (List ℕ)) (all : Seen) (left : ℕ) (code : Code) (input : List ℕ) (s : State) →
    IsSoFar before now all left code input s → left ≡ 0 → (now ≡ append_known before all.0) × (all.1 ≡ StepsUsed)
runs_out before now all left code input s so l =
    let is : all ≡ (so.text, StepsUsed) = so.rest ∙ ap (λ n. runs n code (machine_of input so.text s)) l in
    (so.taken ∙ ap (append_known before) (sym (ap (λ (y : Seen). y.0) is)), ap (λ (y : Seen). y.1) is)

-- an instruction that failed wrote a front of what it was to write
pub front_of : (before now later : Option (List ℕ)) (all : Seen) (left k : ℕ) (code : Code) (input : List ℕ) (s : State) (i : Instr) →
    IsSoFar before now all left code input s → left ≡ suc k → slice_get (map instr_view s.frame.instrs.now) s.frame.next ≡ Some i →
    TakesFront now later (text_of i (operands_at s.frame.floor s.values.items)) → TakesFront before later all.0
front_of before now later all left k code input s i so l e t =
    let v = text_of i (operands_at s.frame.floor s.values.items) in
    let m = machine_of input so.text s in
    let r = after_begins (does code i m) so.text v (runs k code) (writes code i m ∙ after_is i m.frame.operands so.text) (begins k code) in
    let w = so.text in
    let out : all.0 ≡ w ++ (v ++ r.0) = ap (λ (y : Seen). y.0) (so.rest ∙ next_is k left code m (Some i) l e) ∙ r.1 ∙ append_assoc w v r.0 in
    let le : t.count ≤ length v = t.within in
    record {
      count = length w + t.count;
      within = omega (arith, ap length out, length-append w (v ++ r.0), length-append v r.0, le);
      bytes = t.bytes ∙ ap (λ o. append_known o (take t.count v)) so.taken ∙ append_known-append before w (take t.count v)
          ∙ ap (append_known before) (ap (λ l. w ++ l) (sym (take-append-le t.count v r.0 le)) ∙ sym (take-append-add w (v ++ r.0) t.count) ∙ ap (take (length w + t.count)) (sym out));
    }

-- the counts of a run: rounds, and turns of a round

pub next_left : (a e t : ℕ) → t < e → a + (e - t) ≡ suc (a + (e - (t + 1)))
next_left a e t h = omega arith

all_left : (n c e t : ℕ) → e ≡ n + 2 → t ≡ (n + 2) * (c + 1) → (n + 2) * (n + 2) * (c + 1) ≡ (e - 0) * t
all_left n c e t h k =
    mul_assoc (n + 2) (n + 2) (c + 1) ∙ ap (λ (x : ℕ). (n + 2) * x) (sym k) ∙ ap (λ (x : ℕ). x * t) (let l : n + 2 ≡ e - 0 = omega arith in l)

round_left : (e r t : ℕ) → r < e → (e - r) * t ≡ (e - (r + 1)) * t + (t - 0)
round_left e r t h =
    ap (λ (x : ℕ). x * t) (let l : e - r ≡ suc (e - (r + 1)) = omega arith in l) ∙ suc-mul (e - (r + 1)) t ∙ ap (λ (x : ℕ). (e - (r + 1)) * t + x) (let l : t ≡ t - 0 = omega arith in l)

turns_over : (a e t : ℕ) → e ≤ t → a + (e - t) ≡ a
turns_over a e t h = omega arith

rounds_over : (e r t : ℕ) → e ≤ r → (e - r) * t ≡ 0
rounds_over e r t h = ap (λ (x : ℕ). x * t) (let l : e - r ≡ 0 = omega arith in l) ∙ zero-mul t

append_known-nil : (o : Option (List ℕ)) → o ≡ append_known o []
append_known-nil None = refl
append_known-nil (Some xs) = ap Some (sym (append-nil xs))

pub starts : (before : Option (List ℕ)) (code : Code) (input : List ℕ) (s : State) (n e t : ℕ) → machine_of input [] s ≡ first code input n → e ≡ n + 2 → t ≡ (n + 2) * (size code + 1) →
    IsSoFar before before (run_code code input n) ((e - 0) * t) code input s
starts before code input s n e t f h k = record {
  text = [];
  taken = append_known-nil before;
  rest = ap (λ (x : ℕ). runs x code (first code input n)) (all_left n (size code) e t h k) ∙ ap (runs ((e - 0) * t) code) (sym f);
}

with_left : (before now : Option (List ℕ)) (all : Seen) (left more : ℕ) (code : Code) (input : List ℕ) (s : State) → left ≡ more → IsSoFar before now all left code input s → IsSoFar before now all more code input s
with_left before now all left more code input s e so = record {
  text = so.text;
  taken = so.taken;
  rest = so.rest ∙ ap (λ (x : ℕ). runs x code (machine_of input so.text s)) e;
}

pub begins_round : (before now : Option (List ℕ)) (all : Seen) (e r t : ℕ) (code : Code) (input : List ℕ) (s : State) → r < e → IsSoFar before now all ((e - r) * t) code input s → IsSoFar before now all ((e - (r + 1)) * t + (t - 0)) code input s
begins_round before now all e r t code input s h so = with_left before now all _ _ code input s (round_left e r t h) so

pub ends_round : (before now : Option (List ℕ)) (all : Seen) (a e t : ℕ) (code : Code) (input : List ℕ) (s : State) → e ≤ t → IsSoFar before now all (a + (e - t)) code input s → IsSoFar before now all a code input s
ends_round before now all a e t code input s h so = with_left before now all _ _ code input s (turns_over a e t h) so

pub ends_run : (before now : Option (List ℕ)) (all : Seen) (e r t : ℕ) (code : Code) (input : List ℕ) (s : State) → e ≤ r → IsSoFar before now all ((e - r) * t) code input s → (now ≡ append_known before all.0) × (all.1 ≡ StepsUsed)
ends_run before now all e r t code input s h so = runs_out before now all _ code input s so (rounds_over e r t h)

pub does_as : (code : Code) (i : Instr) (s t : State) (end x : Option Ending) → end ≡ x → Does code i s t end → Does code i s t x
does_as code i s t end x e d = let P : Option Ending → Type 0 = λ y. Does code i s t y in subst P e d
