-- From a line that was said to the answer.
use Rattle.std.proofs.Common.{◌≡◌, List, ℕ, length, Option, Some, None, Result, Ok, Err, IfOk, IfErr, inl, inr, refl, sym, subst, ◌∙◌, ap, arith, append-nil}
use Rattle.std.specs.Prelude.{◌⊎◌, ◌≤◌}
use Rattle.std.proofs.Math.Seq.{take-length}
use Rattle.std.specs.declared.alloc.AllocError.{AllocError}
use Rattle.std.specs.Io.KnownBytes.{append_known}
use Rattle.gc0_io.specs.Causes.{Rose}
use Rattle.gc0_io.specs.Bytes.{TakesFront}
use Rattle.gc0_base.specs.declared.limits.TheConstants.Limits as limits
use Rattle.gc0_base.specs.declared.site.Ending.{Ending}
use Rattle.gc0_base.specs.declared.site.Ending.TheVariants as ending
use Rattle.gc0_tree.specs.Tree.{Program}
use Rattle.parsed_tree.specs.Tree.{ProgramTree}
use Rattle.c0_numbers.specs.Resolved.{resolved}
use Rattle.c0_meaning.specs.Running.{Seen}
use Rattle.gradual_top.specs.declared.status.Status.{Status}
use Rattle.gradual_top.specs.declared.status.Status.TheVariants.{Returned, Stopped, Fault, StepsUsed, Refused, Limit, Absent, ReadFault, WriteFault, Memory, NotBuilt, Usage}
use Rattle.gradual_top.specs.Source.{IsRunnable}
use Rattle.gradual_top.specs.Lines.{line_of, status_of}
use Rattle.gradual_top.specs.Outcomes.{Outputs, Call, Asks, Answered, TextAnswered, Ends, Ran, run_of, Says}

pub said : (P : Status → Type 0) (e0 e1 : ℕ) (old new : Option (List ℕ)) (line : List ℕ) (status answer : Status) → Says e0 e1 old new line status answer → (new ≡ append_known old line → P status) → (Rose e0 e1 → P WriteFault) → P answer
said P e0 e1 old new line status answer (inl w) f g = subst P (sym w.0) (f w.1)
said P e0 e1 old new line status answer (inr w) f g = subst P (sym w.0) (g w.1)

pub text_said : {V : Type 0} (items : V → List ℕ) (P : Status → Type 0) (e0 e1 : ℕ) (old new : Option (List ℕ)) (made : Result V AllocError) (line : List ℕ) (status answer : Status) → IfOk made (λ v. items v ≡ line) → IfOk made (λ v. Says e0 e1 old new (items v) status answer) → IfErr made (λ _. (answer ≡ Memory) ⊎ ((answer ≡ WriteFault) × Rose e0 e1)) → (new ≡ append_known old line → P status) → (Rose e0 e1 → P WriteFault) → P Memory → P answer
text_said items P e0 e1 old new (Ok t) line status answer e s m f g h = said P e0 e1 old new line status answer (subst (λ l. Says e0 e1 old new l status answer) e s) f g
text_said items P e0 e1 old new (Err x) line status answer e s (inl w) f g h = subst P (sym w) h
text_said items P e0 e1 old new (Err x) line status answer e s (inr w) f g h = subst P (sym w.0) (g w.1)

-- the same where the line was made of what is known
pub known_said : {V : Type 0} (X : Type 0) (items : V → List ℕ) (P : Status → Type 0) (e0 e1 : ℕ) (old new : Option (List ℕ)) (made : Result V AllocError) (line : List ℕ) (status answer : Status) → IfOk made (λ v. items v ≡ line) → IfOk made (λ v. X) → IfOk made (λ v. Says e0 e1 old new (items v) status answer) → IfErr made (λ _. (answer ≡ Memory) ⊎ ((answer ≡ WriteFault) × Rose e0 e1)) → (X → new ≡ append_known old line → P status) → (Rose e0 e1 → P WriteFault) → P Memory → P answer
known_said X items P e0 e1 old new (Ok t) line status answer e x s m f g h = text_said items P e0 e1 old new (Ok t) line status answer e s m (f x) g h
known_said X items P e0 e1 old new (Err v) line status answer e x s (inl w) f g h = subst P (sym w) h
known_said X items P e0 e1 old new (Err v) line status answer e x s (inr w) f g h = subst P (sym w.0) (g w.1)

whole : (old new : Option (List ℕ)) (piece : List ℕ) → new ≡ append_known old piece → TakesFront old new piece
whole old new piece e = record { count = length piece; within = omega arith; bytes = e ∙ ap (append_known old) (sym (take-length piece)) }

-- a run that came to its ending
of_ending : (text : List ℕ) (p : Program) (n : ℕ) (o : Outputs) (e : Ending) → Ran text p n o (status_of e) → Ends text p n o (status_of e)
of_ending text p n o (ending.Returned w) r = r
of_ending text p n o (ending.Stop site) r = r
of_ending text p n o (ending.Fault f site) r = r
of_ending text p n o ending.StepsUsed r = r

pub ok_ends : {V : Type 0} (items : V → List ℕ) (text : List ℕ) (p : Program) (n : ℕ) (o : Outputs) (rc : Seen) (e : Ending) (made : Result V AllocError) (status answer : Status) → rc ≡ run_of p n → o.out_new ≡ append_known o.out_old rc.0 → rc.1 ≡ e → status ≡ status_of e → IfOk made (λ v. items v ≡ line_of text p e) → IfOk made (λ v. Says o.err_before o.err_after o.err_old o.err_new (items v) status answer) → IfErr made (λ _. (answer ≡ Memory) ⊎ ((answer ≡ WriteFault) × Rose o.err_before o.err_after)) → Ends text p n o answer
ok_ends items text p n o rc e made status answer c out1 d k t s m =
    let out = out1 ∙ ap (λ q. append_known o.out_old q.0) c in
    let front = whole o.out_old o.out_new (run_of p n).0 out in
    let end : e ≡ (run_of p n).1 = sym d ∙ ap (λ q. q.1) c in
    let line : line_of text p e ≡ line_of text p (run_of p n).1 = ap (line_of text p) end in
    text_said items (Ends text p n o) o.err_before o.err_after o.err_old o.err_new made _ status answer t s m
    (λ w. subst (Ends text p n o) (sym k) (of_ending text p n o e (record { out = out; err = w ∙ ap (append_known o.err_old) line; status = ap status_of end })))
    (λ q. (front, inr q)) front

front_of : (p : Program) (n : ℕ) (o : Outputs) (rc : Seen) → rc ≡ run_of p n → TakesFront o.out_old o.out_new rc.0 → TakesFront o.out_old o.out_new (run_of p n).0
front_of p n o rc c f = subst (λ q. TakesFront o.out_old o.out_new q.0) c f

pub write_ends : (text : List ℕ) (p : Program) (n : ℕ) (o : Outputs) (rc : Seen) (line : List ℕ) (answer : Status) → rc ≡ run_of p n → TakesFront o.out_old o.out_new rc.0 → Rose o.out_before o.out_after → Says o.err_before o.err_after o.err_old o.err_new line WriteFault answer → Ends text p n o answer
write_ends text p n o rc line answer c f r s =
    let front = front_of p n o rc c f in
    said (Ends text p n o) o.err_before o.err_after o.err_old o.err_new line WriteFault answer s (λ e. (front, inl r)) (λ q. (front, inr q))

pub memory_ends : (text : List ℕ) (p : Program) (n : ℕ) (o : Outputs) (rc : Seen) (line : List ℕ) (answer : Status) → rc ≡ run_of p n → TakesFront o.out_old o.out_new rc.0 → Says o.err_before o.err_after o.err_old o.err_new line Memory answer → Ends text p n o answer
memory_ends text p n o rc line answer c f s =
    let front = front_of p n o rc c f in
    said (Ends text p n o) o.err_before o.err_after o.err_old o.err_new line Memory answer s (λ e. front) (λ q. (front, inr q))

-- nothing was taken
nothing : (old : Option (List ℕ)) (piece : List ℕ) → TakesFront old old piece
nothing None piece = record { count = 0; within = omega arith; bytes = refl }
nothing (Some xs) piece = record { count = 0; within = omega arith; bytes = ap Some (sym (append-nil xs)) }

-- memory ran out before the run
pub unrun_ends : (text : List ℕ) (p : Program) (n : ℕ) (o : Outputs) (line : List ℕ) (answer : Status) → o.out_new ≡ o.out_old → Says o.err_before o.err_after o.err_old o.err_new line Memory answer → Ends text p n o answer
unrun_ends text p n o line answer e s =
    let front = subst (λ new. TakesFront o.out_old new (run_of p n).0) (sym e) (nothing o.out_old (run_of p n).0) in
    said (Ends text p n o) o.err_before o.err_after o.err_old o.err_new line Memory answer s (λ e. front) (λ q. (front, inr q))

-- the program of a text that can be run was run
pub of_run : (text : List ℕ) (tree : ProgramTree) (n : ℕ) (o : Outputs) (status : Status) → IsRunnable text tree → Ends text (resolved tree) n o status → TextAnswered text n o status
of_run text tree n o Returned r e = record { tree = tree; runnable = r; ran = e }
of_run text tree n o Stopped r e = record { tree = tree; runnable = r; ran = e }
of_run text tree n o Fault r e = record { tree = tree; runnable = r; ran = e }
of_run text tree n o StepsUsed r e = record { tree = tree; runnable = r; ran = e }
of_run text tree n o WriteFault r e = (inr (record { tree = tree; runnable = r; front = e.0 }), e.1)
of_run text tree n o Memory r e = inr (record { tree = tree; runnable = r; front = e })
of_run text tree n o Refused r e = absurd e
of_run text tree n o Limit r e = absurd e
of_run text tree n o Absent r e = absurd e
of_run text tree n o ReadFault r e = absurd e
of_run text tree n o NotBuilt r e = absurd e
of_run text tree n o Usage r e = absurd e

pub reached : (call : Call) (text : List ℕ) (steps : ℕ) (status : Status) → Asks call text steps → length text ≤ limits.SOURCE → TextAnswered text steps call.outputs status → Answered call status
reached call text steps Returned a w e = record { text = text; steps = steps; asks = a; within = w; answer = e }
reached call text steps Stopped a w e = record { text = text; steps = steps; asks = a; within = w; answer = e }
reached call text steps Fault a w e = record { text = text; steps = steps; asks = a; within = w; answer = e }
reached call text steps StepsUsed a w e = record { text = text; steps = steps; asks = a; within = w; answer = e }
reached call text steps Refused a w e = record { text = text; steps = steps; asks = a; within = w; answer = e }
reached call text steps NotBuilt a w e = record { text = text; steps = steps; asks = a; within = w; answer = e }
reached call text steps Limit a w e = inr (record { text = text; steps = steps; asks = a; within = w; answer = e })
reached call text steps WriteFault a w e = inr (record { text = text; steps = steps; asks = a; within = w; answer = e })
reached call text steps Memory a w e = inr (record { text = text; steps = steps; asks = a; within = w; answer = e })
reached call text steps Absent a w e = absurd e
reached call text steps ReadFault a w e = absurd e
reached call text steps Usage a w e = absurd e
