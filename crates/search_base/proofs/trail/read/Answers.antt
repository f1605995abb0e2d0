use Rattle.std.proofs.Common.{◌≡◌, ◌∙◌, ◌<◌, Bool, true, false, not, Some, length, get_or, take, arith, refl, sym, subst}
use mathlib.Core.Bool.{beq}
use Rattle.std.specs.Option.{unwrap_or}
use Rattle.std.specs.List.{Contains, slice_get}
use Rattle.std.proofs.lemmas.Bool.{not-true, not-false}
use Rattle.std.proofs.lemmas.Option.{same_Some, slice_get-get_or}
use Rattle.std.proofs.lemmas.List.{take_more, take_all}
use Rattle.std.proofs.lemmas.List.Elements.{Contains-get_or}
use Rattle.sat_check.specs.declared.clause.Lit.{Lit}
use Rattle.sat_check.specs.Clauses.{opposite_of}
use Rattle.sat_check.specs.Literals.{Contains-take, lit_test-true, lit_test-same}
use Rattle.sat_check.specs.Laws.{SoFar-false, SoFar-open, Neither-true, Neither-two}
use Rattle.search_base.specs.declared.trail.Slot.{Slot}
use Rattle.search_base.specs.Steps.{shown_once, open_value, told_false}
use Rattle.search_base.proofs.trail.read.Goals as goal
use Rattle.search_base.proofs.trail.read.Goals.{then-not-slot+else-ne, else-not-slot+else-slot-lit}

beq-differs : (a b : Bool) → not (beq a b) ≡ true → a ≡ not b
beq-differs true true h = absurd (cc)
beq-differs true false h = refl
beq-differs false true h = refl
beq-differs false false h = absurd (cc)

beq-same : (a b : Bool) → not (beq a b) ≡ false → a ≡ b
beq-same true true h = refl
beq-same true false h = absurd (cc)
beq-same false true h = absurd (cc)
beq-same false false h = refl

differs : {t : Bool} → t ≡ true → true ≡ not t → ⊥
differs {t} h e = cc

not_so : {t : Bool} → false ≡ not t → t ≡ true
not_so {t} e = grind arith

pub returns-then-ne-clause-reading : goal.returns-then-ne-clause-reading
returns-then-ne-clause-reading c falses shows =
    let lits = c.args.lits.now in
    let slots = c.args.slots.now in
    let i = c.loop-lit.lit-index in
    let lit = get_or lits i (record { variable = 0; positive = false }) in
    let below : lit.variable < length slots = c.requires i _ c.loop-lit-test.true in
    let slot : Slot = get_or slots lit.variable (record { assigned = false; positive = false }) in
    let open' = open_value slots falses lit slot shows (slice_get-get_or slots lit.variable _ below) (not-true slot.assigned c.if-not-slot.true) in
    let neither =
    Neither-two falses (take i lits) lits c.loop-lit.single lit (Contains-take i lits) (c.loop-lit.invariant.so_far falses shows) open'
    (λ same. differs (lit_test-same c.unwrap_or.result lit (c.unwrap_or.ensures ∙ same)) (sym c.if-ne.true ∙ c.ne.ensures))
    (Contains-get_or lits i _ c.loop-lit-test.true) in
    record { not_false = neither.0; not_unit = neither.1 }

pub returns-then-slot-lit-clause-reading : goal.returns-then-slot-lit-clause-reading
returns-then-slot-lit-clause-reading c falses shows =
    let lits = c.args.lits.now in
    let slots = c.args.slots.now in
    let i = c.loop-lit.lit-index in
    let lit = get_or lits i (record { variable = 0; positive = false }) in
    let below : lit.variable < length slots = c.requires i _ c.loop-lit-test.true in
    let slot : Slot = get_or slots lit.variable (record { assigned = false; positive = false }) in
    let told = told_false slots falses lit.variable slot shows (slice_get-get_or slots lit.variable _ below) (not-false slot.assigned c.if-not-slot.false) in
    let turned : slot.positive ≡ not lit.positive = beq-differs slot.positive lit.positive c.if-slot-lit.true in
    let true' : Contains falses (opposite_of lit) = subst (λ (s : Bool). Contains falses (record { variable = lit.variable; positive = s })) turned told in
    let neither =
    Neither-true falses lits lit (λ in_falses. shown_once slots falses lit shows below in_falses true')
    (Contains-get_or lits i _ c.loop-lit-test.true) true' in
    record { not_false = neither.0; not_unit = neither.1 }

pub loop-lit-preserved : goal.loop-lit-preserved
loop-lit-preserved c =
    let lits = c.args.lits.now in
    let slots = c.args.slots.now in
    let i = c.loop-lit.lit-index in
    let lit = get_or lits i (record { variable = 0; positive = false }) in
    let below : lit.variable < length slots = c.requires i _ c.loop-lit-test.true in
    let slot : Slot = get_or slots lit.variable (record { assigned = false; positive = false }) in
    let here : slice_get slots lit.variable ≡ Some slot = slice_get-get_or slots lit.variable _ below in
    let more = take_more lits i (record { variable = 0; positive = false }) c.loop-lit-test.true in
    elim c.if-not-slot.branch [
      | then-not-slot+else-ne w ↦
          let same : unwrap_or c.loop-lit.single lit ≡ lit = sym w.unwrap_or.ensures ∙ lit_test-true w.unwrap_or.result lit (not_so (sym w.if-ne.false ∙ w.ne.ensures)) in
          record {
            so_far = λ falses shows.
                rw (more, w.single-is) (SoFar-open falses (take i lits) c.loop-lit.single lit (c.loop-lit.invariant.so_far falses shows) (open_value slots falses lit slot shows here (not-true slot.assigned w.if-not-slot.true)) same);
            below = λ x e. let is : lit ≡ x = same_Some lit x (sym w.single-is ∙ e) in subst (λ (l : Lit). l.variable < length slots) is below;
          }
      | else-not-slot+else-slot-lit w ↦
          let sign : slot.positive ≡ lit.positive = beq-same slot.positive lit.positive w.if-slot-lit.false in
          record {
            so_far = λ falses shows.
                let told = subst (λ (s : Bool). Contains falses (record { variable = lit.variable; positive = s })) sign (told_false slots falses lit.variable slot shows here (not-false slot.assigned w.if-not-slot.false)) in
                rw (more, w.single-is) (SoFar-false falses (take i lits) c.loop-lit.single lit (c.loop-lit.invariant.so_far falses shows) told);
            below = λ x e. c.loop-lit.invariant.below x (sym w.single-is ∙ e);
          }
    ]

pub returns-in-Some-clause-reading : goal.returns-in-Some-clause-reading
returns-in-Some-clause-reading c falses shows =
    let whole = take_all c.loop-lit.lit-index c.args.lits.now c.loop-lit-test.false in
    let so_far = c.loop-lit.invariant.so_far falses shows in
    rw (whole, c.in-Some.is) at so_far

pub returns-in-None-clause-reading : goal.returns-in-None-clause-reading
returns-in-None-clause-reading c falses shows =
    let whole = take_all c.loop-lit.lit-index c.args.lits.now c.loop-lit-test.false in
    let so_far = c.loop-lit.invariant.so_far falses shows in
    rw (whole, c.in-None.is) at so_far
