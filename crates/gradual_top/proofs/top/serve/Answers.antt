-- The answer for a file that is not there, and for one that was fetched.
use Rattle.std.proofs.Common.{refl, inl, inr, sym}
use Rattle.gradual_top.specs.Outcomes.{Answered}
use Rattle.gradual_top.specs.Requests.{asked_of, file_of, steps_of}
use Rattle.gradual_top.proofs.Said.{text_said, reached}
use Rattle.gradual_top.proofs.top.serve.Goals as goal

pub returns-in-Absent-clause-answer : goal.returns-in-Absent-clause-answer
returns-in-Absent-clause-answer g c =
    let s = c.say_text.ensures in
    text_said (λ v. v.items) (Answered _) _ _ _ _ _ _ _ _ (rw c.file-file.ensures at c.absent_text.ensures) s.said s.memory (λ e. record {
      asks = asked_of c.in-Some.request;
      asked = sym c.in-Some.ensures.asked;
      told = rw (← c.file-file.ensures) c.in-Absent.ensures.told;
      says = record { out = refl; err = e };
    }) (λ r. inl (refl, inr r)) (inl refl)

pub returns-clause-answer : goal.returns-clause-answer
returns-clause-answer g c =
    let answer = rw (c.as_slice.ensures, c.steps.ensures) at c.serve_text.ensures.answer in
    reached _ c.in-Found.text (steps_of c.in-Some.request) _ (record { name = file_of c.in-Some.request; asked = sym c.in-Some.ensures.asked; told = rw (← c.file-file.ensures) c.in-Found.ensures.told }) c.in-Found.ensures.most answer
