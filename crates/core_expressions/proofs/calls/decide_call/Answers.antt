use Rattle.std.proofs.Common.{◌≡◌, List, Some, None, slice_get, length, sym, ap, ◌∙◌}
use Rattle.std.specs.Option.{option_map, option_copied}
use Rattle.gc0_base.specs.declared.place.Place.{Place}
use Rattle.lowering_laws.specs.Counts.{decided}
use Rattle.core_expressions.specs.Writing.{program_of}
use Rattle.core_expressions.proofs.Joins.{on_ok}
use Rattle.core_expressions.proofs.Choices.{places_before, places_after, kept_at, none_before, none_after, called}
use Rattle.core_expressions.proofs.calls.decide_call.Goals as goal

pub returns-in_ok-decide-in-Some-Some : goal.returns-in_ok-decide-in-Some-Some
returns-in_ok-decide-in-Some-Some c = λ k s.
    let w = c.args.within.now in
    let fs = (program_of w).functions in
    let g = c.args.function in
    let before : List Place = c.as_slice.result.now in
    let after : List Place = c.as_slice-in-Some-Some.result.now in
    let eb : Some before ≡ option_map places_before (slice_get fs g) = kept_at places_before fs g w.choices.now.before (Some before) c.requires.choices.before
    (ap (λ (l : List Place). Some l) c.as_slice.ensures ∙ sym (ap option_copied c.in-Some-Some.is-0) ∙ c.get-before.ensures.value) in
    let ea : Some after ≡ option_map places_after (slice_get fs g) = kept_at places_after fs g w.choices.now.after (Some after) c.requires.choices.after
    (ap (λ (l : List Place). Some l) c.as_slice-in-Some-Some.ensures ∙ sym (ap option_copied c.in-Some-Some.is-1) ∙ c.get-after.ensures.value) in
    let v = c.in_ok-decide-in-Some-Some.ensures k s in
    on_ok c.decide-in-Some-Some.result (λ u. called (slice_get fs g) c.args.out.now c.decide.new.self c.decide-in-Some-Some.new.self k c.args.site before after eb ea v u)
    (c.decide-in-Some-Some.ensures (decided (length before) k) v.counts)

pub returns-in_default : goal.returns-in_default
returns-in_default c = λ k s.
    let w = c.args.within.now in
    let fs = (program_of w).functions in
    let g = c.args.function in
    none_after (slice_get fs g) c.args.out.now k c.args.site
    (kept_at places_after fs g w.choices.now.after None c.requires.choices.after (sym (ap option_copied c.in_default.is-1) ∙ c.get-after.ensures.value)) s

pub returns-in_default-2 : goal.returns-in_default-2
returns-in_default-2 c = λ k s.
    let w = c.args.within.now in
    let fs = (program_of w).functions in
    let g = c.args.function in
    none_before (slice_get fs g) c.args.out.now k c.args.site
    (kept_at places_before fs g w.choices.now.before None c.requires.choices.before (sym (ap option_copied c.in_default.is-0) ∙ c.get-before.ensures.value)) s
