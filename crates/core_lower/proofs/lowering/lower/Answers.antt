use Rattle.std.specs.Prelude.{is_some}
use Rattle.std.proofs.Common.{◌≡◌, true, Option, None, ap, rules}
use Rattle.gc0_base.specs.declared.place.Place.{Place}
use Rattle.gc0_tree.specs.Tree.{Program}
use Rattle.gc0_tree.specs.Views.{program_view}
use Rattle.core_tree.specs.CoreViews.{core_view}
use Rattle.core_lower.specs.Separate.{all_apart}
use Rattle.core_lower.proofs.Steppings.{is_stepped, none_apart}
use Rattle.core_lower.proofs.Meanings.{means, decides}
use Rattle.core_lower.proofs.lowering.lower.Goals as goal

pub returns-clause-meaning : goal.returns-clause-meaning
returns-clause-meaning c = means (program_view c.args.program.now) (core_view c.in_ok-whole.whole.core) c.in_ok-whole.ensures.core c.lowering_means.ensures.meaning

pub returns-clause-sites : goal.returns-clause-sites
returns-clause-sites c = decides (program_view c.args.program.now) (core_view c.in_ok-whole.whole.core) c.in_ok-whole.ensures.core c.lowering_means.ensures.sites

pub returns-clause-stepped : goal.returns-clause-stepped
returns-clause-stepped c =
    let p : Program = program_view c.args.program.now in
    let none : c.in_ok-whole.whole.shared ≡ None = search rules in
    let apart : all_apart 0 p.functions ≡ true = none_apart (is_some c.in_ok-whole.whole.shared) (all_apart 0 p.functions) c.in_ok-whole.ensures.shared (ap (λ (o : Option Place). is_some o) none) in
    is_stepped p (core_view c.in_ok-whole.whole.core) c.in_ok-whole.ensures.core c.lowered_is_stepped.ensures apart c.in_ok-whole.ensures.few
