use Rattle.std.proofs.Common.{◌≡◌, ◌∙◌, true, false, List, Option, None, Some, refl, sym, subst}
use Rattle.std.specs.Option.{is_some}
use Rattle.std.proofs.lemmas.Option.{none-some}
use Rattle.search_base.specs.declared.trail.Step.{Step}
use Rattle.search_base.specs.Propagation.{Extends}
use Rattle.search_base.specs.Settling.{Extends-both}
use Rattle.search_state.specs.Flags.{NoneIsAside-flags}
use Rattle.search_state.proofs.watches.Watches.first_conflict.Goals as goal

none_of : {X : Type 0} (o : Option X) → is_some o ≡ false → o ≡ None
none_of None e = refl
none_of (Some x) e = absurd (cc)

some_of : {X : Type 0} (o : Option X) → is_some o ≡ true → o ≡ None → ⊥
some_of None h e = cc
some_of (Some x) h e = none-some x (sym e)

pub propagate-requires-clause-guarded : goal.propagate-requires-clause-guarded
propagate-requires-clause-guarded c = c.in_ok-begun.ensures.guarded (none_of c.in_ok-begun.begun (sym c.is_some.ensures ∙ c.if-is_some.false))

pub returns-then-is_some : goal.returns-then-is_some
returns-then-is_some c =
    let begun = c.in_ok-begun.ensures in
    let steps = c.add_all.new.placed.trail.steps.items in
    record {
      len = begun.len;
      trail = begun.trail;
      extends = subst (λ (s : List Step). Extends s steps) c.requires.steps begun.extends;
      watched = begun.watched;
      none_aside = begun.none_aside;
      found = begun.found;
      guarded = λ e. absurd (some_of c.in_ok-begun.begun (sym c.is_some.ensures ∙ c.if-is_some.true) e);
    }

pub returns : goal.returns
returns c =
    let begun = c.in_ok-begun.ensures in
    let it = c.in_ok-conflict.ensures in
    let first = c.args.placed.now.trail.steps.items in
    let mid = c.add_all.new.placed.trail.steps.items in
    let steps = c.propagate.new.placed.trail.steps.items in
    record {
      len = it.advances.len ∙ begun.len;
      trail = it.advances.trail;
      extends = subst (λ (s : List Step). Extends s steps) c.requires.steps (Extends-both first mid steps begun.extends it.advances.extends);
      watched = it.advances.watched;
      none_aside = NoneIsAside-flags c.add_all.new.self.pairs.items c.propagate.new.self.pairs.items it.advances.flags begun.none_aside;
      found = it.found;
      guarded = it.guarded;
    }
