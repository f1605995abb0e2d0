-- What is answered by hand of the proof of `product`.
use Rattle.std.proofs.Common.{◌≡◌, ◌*◌, ◌+◌, ◌∙◌, arith}
use Rattle.std.specs.Prelude.{min}
use Rattle.gc0_base.specs.declared.limits.TheConstants.Limits as limits
use Rattle.self_framing.proofs.Caps.{product_capped}
use Rattle.self_framing.proofs.paths_capped.product.Goals as goal

pub returns : goal.returns
returns c = λ x y f g.
    let one : c.min.result ≡ min (c.args.a * c.args.b) (limits.PATHS + 1) = omega arith in
    one ∙ product_capped (limits.PATHS + 1) c.args.a c.args.b x y f g
