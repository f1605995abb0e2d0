use Rattle.std.proofs.Common.{◌≡◌, refl, inl, inr, sym}
use Rattle.sat_top.specs.Outcomes.{Answered}
use Rattle.sat_top.specs.Requests.{asked_of}
use Rattle.sat_top.proofs.Ended.{text_said}
use Rattle.sat_top.proofs.top.serve.Goals as goal

pub returns-in-Absent-clause-answer : goal.returns-in-Absent-clause-answer
returns-in-Absent-clause-answer g c =
    let s = c.say_text.ensures in
    text_said (λ v. v.items) (Answered _) _ _ _ _ _ _ _ _ c.absent_text.ensures s.said s.memory (λ e. record {
      asks = asked_of c.in-Some.request;
      asked = sym c.in-Some.ensures.asked;
      told = c.in-Absent.ensures.told;
      says = record { untouched = record { out = refl; file = refl }; err = e };
    }) (λ r. inl (record { out = refl; file = refl }, inr (inl r))) (inl (record { out = refl; file = refl }))
