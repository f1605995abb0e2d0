-- What follows from the answer where the file and its formula are given.
use Rattle.std.proofs.Common.{◌≡◌, ℕ, ◌<◌, ◌≤◌, List, length, Option, Some, None, IfSome, inl, inr, refl, sym, subst, ap, ◌∙◌, arith}
use Rattle.std.specs.Prelude.{◌⊎◌}
use Rattle.sat_text.specs.declared.formula.Formula.{Formula}
use Rattle.sat_text.specs.Texts.{rows_of}
use Rattle.sat_text.specs.Formulas.{Denotes, FirstFault, OneFormula}
use Rattle.sat_top.specs.declared.limits.TheConstants.Limits as limits
use Rattle.sat_top.specs.declared.status.Status.{Status}
use Rattle.sat_top.specs.declared.status.Status.TheVariants.{Satisfiable, Unsatisfiable, Unknown, BadLine, Limit, Absent, ReadFault, WriteFault, Memory, Usage}
use Rattle.sat_top.specs.Requests.{Asked, asked_in}
use Rattle.sat_top.specs.Outcomes.{Call, Asks, Reaches, Ends, Answered, Given, Faultless, IsEnding, IsRight, IsComplete}

same_asked : (call : Call) (text : List ℕ) (asks : Asked) (f : Formula) (g : Given call text asks f) (asked : Asked) → asked_in call.words ≡ Some asked → asked ≡ asks
same_asked call text asks f g asked e = let h = g.asked in cc

-- what is told of the file that was asked for
at_name : (call : Call) (text : List ℕ) (asks : Asked) (f : Formula) (g : Given call text asks f) (P : Option (List ℕ) → Type 0) (asked : Asked) → asked_in call.words ≡ Some asked → IfSome call.files (λ files. P (files asked.formula)) → P (Some text)
at_name call text asks f g P asked e told =
    let t = subst (λ x. IfSome x (λ files. P (files asked.formula))) g.told told in
    subst P (ap (λ a. g.files a.formula) (same_asked call text asks f g asked e) ∙ g.content) t

same_text : (call : Call) (text other : List ℕ) (asks asked : Asked) (f : Formula) → Given call text asks f → Asks call other asked → text ≡ other
same_text call text other asks asked f g a = let h = at_name call text asks f g (λ o. o ≡ Some other) asked a.asked a.told in cc

of_formula : OneFormula → (call : Call) (status : Status) (text : List ℕ) (asks : Asked) (f : Formula) → Given call text asks f → (r : Reaches call status) → Ends f asks call.outputs status
of_formula one call status text asks f g r =
    let t = same_text call text r.text asks r.asked f g r.asks in
    let same : r.formula ≡ f = one (rows_of r.text) r.formula f r.denotes (subst (λ x. Denotes (rows_of x) f) t g.denotes) in
    let ends = subst (λ x. Ends x r.asked call.outputs status) same r.ends in
    subst (λ a. Ends f a call.outputs status) (same_asked call text asks f g r.asked r.asks.asked) ends

pub right : OneFormula → (call : Call) (status : Status) → Answered call status → IsRight call status
right one call Satisfiable a text asks f g is = of_formula one call Satisfiable text asks f g a
right one call Unsatisfiable a text asks f g is = of_formula one call Unsatisfiable text asks f g a
right one call Unknown a text asks f g is = of_formula one call Unknown text asks f g a
right one call BadLine a text asks f g is = absurd is
right one call Limit a text asks f g is = absurd is
right one call Absent a text asks f g is = absurd is
right one call ReadFault a text asks f g is = absurd is
right one call WriteFault a text asks f g is = absurd is
right one call Memory a text asks f g is = absurd is
right one call Usage a text asks f g is = absurd is

pub complete : (call : Call) (status : Status) → Answered call status → IsComplete call status
complete call Satisfiable a text asks f g le n = inl tt
complete call Unsatisfiable a text asks f g le n = inl tt
complete call Unknown a text asks f g le n = inl tt
complete call Memory a text asks f g le n = inr refl
complete call BadLine a text asks f g le n =
    let t = same_text call text a.text asks a.asked f g a.asks in
    absurd (a.fault.none f (subst (λ x. Denotes (rows_of x) f) t g.denotes))
complete call Limit a text asks f g le n =
    let h = at_name call text asks f g (λ o. (x : List ℕ) × (o ≡ Some x) × (limits.BYTES < length x)) a.asks a.asked a.told in
    let e : text ≡ h.0 = let q = h.1 in cc in
    let l = ap length e in
    absurd (omega (arith, h.2, l, le))
complete call Absent a text asks f g le n =
    let h = at_name call text asks f g (λ o. o ≡ None) a.asks a.asked a.told in
    absurd (cc)
complete call ReadFault a text asks f g le n = absurd (n.read a.0)
complete call WriteFault (inl w) text asks f g le n = absurd (n.outputs w.1)
complete call WriteFault (inr w) text asks f g le n = absurd (n.outputs w.ends.0)
complete call Usage a text asks f g le n = let h = a.0 in let k = g.asked in absurd (cc)
