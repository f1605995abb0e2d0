-- What follows from the answer where the file and its text are given.
use Rattle.std.proofs.Common.{◌≡◌, List, ℕ, length, Option, Some, None, IfSome, inl, inr, refl, subst, ◌∙◌, ap, arith, ◌<◌}
use Rattle.std.specs.Prelude.{◌⊎◌}
use Rattle.gc0_base.specs.declared.limits.TheConstants.Limits as limits
use Rattle.parsed_tree.specs.Tree.{ProgramTree}
use Rattle.c0_numbers.specs.Resolved.{resolved}
use Rattle.gradual_top.specs.declared.status.Status.{Status}
use Rattle.gradual_top.specs.declared.status.Status.TheVariants.{Returned, Stopped, Fault, StepsUsed, Refused, Limit, Absent, ReadFault, WriteFault, Memory, NotBuilt, Usage}
use Rattle.gradual_top.specs.Requests.{Asked, asked_in}
use Rattle.gradual_top.specs.Source.{HasTree, Verdict, refused, too_deep, past, unbuilt, runs, IsVerdict}
use Rattle.gradual_top.specs.Outcomes.{Outputs, Call, Asks, Reaches, Ran, IsRun, TextAnswered, OutputFailed, Answered, Given, Faultless, IsMeant, Does, IsExact}
use Rattle.gradual_top.proofs.Verdicts.{Laws, same_tree, one_verdict}

-- what was asked for
same_ask : (call : Call) (text : List ℕ) (steps : ℕ) (g : Given call text steps) (asked : Asked) → asked_in call.words ≡ Some asked → asked ≡ record { steps = steps; file = g.name }
same_ask call text steps g asked e = let h = g.asked in cc

at_name : (call : Call) (text : List ℕ) (steps : ℕ) (g : Given call text steps) (P : Option (List ℕ) → Type 0) (asked : Asked) → asked_in call.words ≡ Some asked → IfSome call.files (λ files. P (files asked.file)) → P (Some text)
at_name call text steps g P asked e told =
    let n = same_ask call text steps g asked e in
    let t = subst (λ f. IfSome f (λ files. P (files asked.file))) g.told told in
    subst P (ap (λ a. g.files a.file) n ∙ g.content) t

same_text : (call : Call) (text other : List ℕ) (steps more : ℕ) → Given call text steps → Asks call other more → other ≡ text
same_text call text other steps more g a = let h = at_name call text steps g (λ o. o ≡ Some other) (record { steps = more; file = a.name }) a.asked a.told in cc

same_steps : (call : Call) (text other : List ℕ) (steps more : ℕ) → Given call text steps → Asks call other more → more ≡ steps
same_steps call text other steps more g a = ap (λ x. x.steps) (same_ask call text steps g (record { steps = more; file = a.name }) a.asked)

-- what is said is said of this text and these steps
of_given : (call : Call) (status : Status) (text : List ℕ) (steps : ℕ) → Given call text steps → Reaches call status → TextAnswered text steps call.outputs status
of_given call status text steps g r =
    subst (λ x. TextAnswered x steps call.outputs status) (same_text call text r.text steps r.steps g r.asks)
    (subst (λ n. TextAnswered r.text n call.outputs status) (same_steps call text r.text steps r.steps g r.asks) r.answer)

of_tree : Laws → (text : List ℕ) (tree : ProgramTree) (n : ℕ) (o : Outputs) (status : Status) → HasTree text tree → IsRun text n o status → Ran text (resolved tree) n o status
of_tree laws text tree n o status has r = subst (λ t. Ran text (resolved t) n o status) (same_tree laws text r.tree tree r.runnable.has has) r.ran

pub meant : Laws → (call : Call) (status : Status) → Answered call status → IsMeant call status
meant laws call Returned a text steps tree g has is = of_tree laws text tree steps call.outputs Returned has (of_given call Returned text steps g a)
meant laws call Stopped a text steps tree g has is = of_tree laws text tree steps call.outputs Stopped has (of_given call Stopped text steps g a)
meant laws call Fault a text steps tree g has is = of_tree laws text tree steps call.outputs Fault has (of_given call Fault text steps g a)
meant laws call StepsUsed a text steps tree g has is = of_tree laws text tree steps call.outputs StepsUsed has (of_given call StepsUsed text steps g a)
meant laws call Refused a text steps tree g has is = absurd is
meant laws call Limit a text steps tree g has is = absurd is
meant laws call Absent a text steps tree g has is = absurd is
meant laws call ReadFault a text steps tree g has is = absurd is
meant laws call WriteFault a text steps tree g has is = absurd is
meant laws call Memory a text steps tree g has is = absurd is
meant laws call NotBuilt a text steps tree g has is = absurd is
meant laws call Usage a text steps tree g has is = absurd is

-- a verdict of the text for which this is done
pub record Judged (text : List ℕ) (n : ℕ) (o : Outputs) (status : Status) : Type 0 where
  pub verdict : Verdict
  pub is : IsVerdict text verdict
  pub does : Does text verdict n o status

judged : (text : List ℕ) (n : ℕ) (o : Outputs) (status : Status) → TextAnswered text n o status → (OutputFailed o → ⊥) → Judged text n o status ⊎ (status ≡ Memory)
judged text n o Returned a f = inl (record { verdict = runs a.tree; is = a.runnable; does = a.ran })
judged text n o Stopped a f = inl (record { verdict = runs a.tree; is = a.runnable; does = a.ran })
judged text n o Fault a f = inl (record { verdict = runs a.tree; is = a.runnable; does = a.ran })
judged text n o StepsUsed a f = inl (record { verdict = runs a.tree; is = a.runnable; does = a.ran })
judged text n o Refused a f = inl (record { verdict = refused a.refusal; is = a.cause; does = (refl, a.says) })
judged text n o Limit (inl a) f = inl (record { verdict = too_deep; is = a.deep; does = (refl, a.says) })
judged text n o Limit (inr a) f = inl (record { verdict = past a.tree a.limit; is = a.past; does = (refl, a.says) })
judged text n o NotBuilt a f = inl (record { verdict = unbuilt a.place; is = a.unbuilt; does = (refl, a.says) })
judged text n o WriteFault a f = absurd (f a.1)
judged text n o Memory a f = inr refl
judged text n o Absent a f = absurd a
judged text n o ReadFault a f = absurd a
judged text n o Usage a f = absurd a

of_verdict : Laws → (text : List ℕ) (n : ℕ) (o : Outputs) (status : Status) (v : Verdict) → IsVerdict text v → Judged text n o status ⊎ (status ≡ Memory) → Does text v n o status ⊎ (status ≡ Memory)
of_verdict laws text n o status v c (inl j) = inl (subst (λ w. Does text w n o status) (one_verdict laws text j.verdict v j.is c) j.does)
of_verdict laws text n o status v c (inr e) = inr e

due : Laws → (call : Call) (status : Status) (text : List ℕ) (steps : ℕ) (v : Verdict) → Given call text steps → IsVerdict text v → Faultless call → Reaches call status → Does text v steps call.outputs status ⊎ (status ≡ Memory)
due laws call status text steps v g c f r = of_verdict laws text steps call.outputs status v c (judged text steps call.outputs status (of_given call status text steps g r) f.outputs)

pub exact : Laws → (call : Call) (status : Status) → Answered call status → IsExact call status
exact laws call Returned a text steps v g le c f = due laws call Returned text steps v g c f a
exact laws call Stopped a text steps v g le c f = due laws call Stopped text steps v g c f a
exact laws call Fault a text steps v g le c f = due laws call Fault text steps v g c f a
exact laws call StepsUsed a text steps v g le c f = due laws call StepsUsed text steps v g c f a
exact laws call Refused a text steps v g le c f = due laws call Refused text steps v g c f a
exact laws call NotBuilt a text steps v g le c f = due laws call NotBuilt text steps v g c f a
exact laws call Memory a text steps v g le c f = inr refl
exact laws call Limit (inr a) text steps v g le c f = due laws call Limit text steps v g c f a
exact laws call Limit (inl a) text steps v g le c f =
    let h = at_name call text steps g (λ o. (x : List ℕ) × (o ≡ Some x) × (limits.SOURCE < length x)) a.asks a.asked a.told in
    let e : text ≡ h.0 = let q = h.1 in cc in
    let l = ap length e in
    absurd (omega (arith, h.2, l, le))
exact laws call Absent a text steps v g le c f =
    let h = at_name call text steps g (λ o. o ≡ None) a.asks a.asked a.told in
    absurd (cc)
exact laws call ReadFault a text steps v g le c f = absurd (f.read a.0)
exact laws call WriteFault (inl w) text steps v g le c f = absurd (f.outputs w.1)
exact laws call WriteFault (inr w) text steps v g le c f = due laws call WriteFault text steps v g c f w
exact laws call Usage a text steps v g le c f = let h = a.0 in let k = g.asked in absurd (cc)
