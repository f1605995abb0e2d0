use Rattle.std.proofs.Common.{ℕ, ap, ◌∙◌, List, count_by}
use Rattle.gc0_base.specs.declared.place.Place.{Place}
use Rattle.gc0_base.specs.declared.site.Site.{Site}
use Rattle.gc0_tree.specs.Sites.{is_before}
use Rattle.gc0_tree.proofs.numbers.SiteNumbers.site.Goals as goal

pub returns : goal.returns
returns c =
    let numbered : ℕ → Site = λ n. record { function = c.args.self.now.number; kind = c.args.self.now.kind; ordinal = n } in
    let before : List Place → ℕ = λ l. count_by (λ token. is_before token c.args.place) l in
    ap numbered (c.count_before-ordinal.ensures ∙ ap before c.as_slice.ensures.value ∙ c.args.self.now.numbered c.args.place)
