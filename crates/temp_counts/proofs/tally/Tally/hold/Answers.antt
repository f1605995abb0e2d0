-- A temporary that is taken is among the most.
use Rattle.std.proofs.Common.{◌≡◌, suc, rules}
use Rattle.temp_counts.specs.Used.{used_in}
use Rattle.temp_counts.specs.declared.tally.Tally.{Tally}
use Rattle.temp_counts.proofs.Steps.{taken}
use Rattle.temp_counts.proofs.tally.Tally.hold.Goals as goal

pub returns-clause-counting : goal.returns-clause-counting
returns-clause-counting c =
    let t : Tally = c.args.self.now in
    let u : Tally = record { used = c.take.new.self; most = c.raise.new.self } in
    let is : c.in_ok-behind.field-0 ≡ suc (used_in t.used c.args.shape) = search rules in
    taken t u c.args.shape c.in_ok-behind.field-0 is (λ s. search rules) (λ s. search rules)
