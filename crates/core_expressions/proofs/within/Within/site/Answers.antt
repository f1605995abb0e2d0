use Rattle.std.proofs.Common.{ℕ, ap}
use Rattle.gc0_base.specs.declared.site.Site.{Site}
use Rattle.core_expressions.specs.Writing.{function_of}
use Rattle.core_expressions.proofs.Starts.{start_ordinal}
use Rattle.core_expressions.proofs.within.Within.site.Goals as goal

pub returns-in-Start : goal.returns-in-Start
returns-in-Start c =
    let numbered : ℕ → Site = λ n. record { function = c.args.self.now.number; kind = c.args.kind; ordinal = n } in
    ap numbered (start_ordinal (function_of c.args.self.now) c.args.kind c.args.place c.in-Start.is)
