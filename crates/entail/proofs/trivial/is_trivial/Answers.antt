use Rattle.std.proofs.Common.{◌≡◌, ◌<◌, IsTrue, true, length, inl, inr}
use Rattle.entail.proofs.Reading.{evident-trivial, settled-trivial, trivial-read}
use Rattle.entail.proofs.trivial.is_trivial.Goals as goal

pub returns-then-is_evident : goal.returns-then-is_evident
returns-then-is_evident c =
    let within : c.args.claim.0 < length c.args.terms.now.nodes = c.requires.claim.0 in
    let h : c.is_evident.result ≡ true = c.if-is_evident.true in (
      λ _. evident-trivial c.args.terms.now c.nodes-nodes.ensures.formed c.args.facts.now c.args.claim c.requires.facts within c.node.result c.node.ensures (c.is_evident.ensures.0 h),
      λ _. h,
    )

pub returns-else-is_evident : goal.returns-else-is_evident
returns-else-is_evident c =
    let within : c.args.claim.0 < length c.args.terms.now.nodes = c.requires.claim.0 in (
      λ h. settled-trivial c.args.terms.now c.nodes-nodes.ensures.formed c.args.facts.now c.args.claim c.requires.facts within (c.any_settles.ensures.0 h),
      λ t. elim (trivial-read c.args.terms.now c.nodes-nodes.ensures.formed c.args.facts.now c.args.claim c.requires.facts within c.node.result c.node.ensures t) as (λ _. IsTrue c.any_settles.result) [
        | inl e ↦ absurd (let h : c.is_evident.result ≡ true = c.is_evident.ensures.1 e in cc)
        | inr a ↦ c.any_settles.ensures.1 a
      ],
    )
