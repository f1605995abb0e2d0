use Rattle.std.proofs.Common.{◌≡◌, ◌∙◌, ◌<◌, Bool, true, false, not, length, get_or, take, arith, sym, subst}
use Rattle.std.specs.Option.{unwrap_or}
use Rattle.std.specs.List.{Contains}
use Rattle.std.proofs.lemmas.List.{take_more, take_all}
use Rattle.std.proofs.lemmas.Option.{same_Some}
use Rattle.std.proofs.lemmas.List.Elements.{Contains-get_or}
use Rattle.sat_check.specs.declared.clause.Lit.{Lit}
use Rattle.sat_check.specs.Clauses.{opposite_of}
use Rattle.sat_check.specs.Logs.{HasNoValue}
use Rattle.sat_check.specs.Literals.{Contains-take, lit_test-true, lit_test-same}
use Rattle.sat_check.specs.Laws.{SoFar-false, SoFar-open, Neither-true, Neither-two}
use Rattle.sat_check.proofs.Walks.{shown_once}
use Rattle.sat_check.proofs.checker.find.Goals as goal
use Rattle.sat_check.proofs.checker.find.Goals.{in-False, in-Open+else-ne}

differs : {t : Bool} → t ≡ true → true ≡ not t → ⊥
differs {t} h e = cc

not_so : {t : Bool} → false ≡ not t → t ≡ true
not_so {t} e = grind arith

pub returns-in-True-clause-found : goal.returns-in-True-clause-found
returns-in-True-clause-found c falses shows =
    let lits = c.args.lits.now in
    let lit = get_or lits c.loop-lit.lit-index (record { variable = 0; positive = false }) in
    let below : lit.variable < length c.args.valuation.now.marks.items = c.requires c.loop-lit.lit-index _ c.loop-lit-test.true in
    let true' : Contains falses (opposite_of lit) = (shows (opposite_of lit) below).1 c.in-True.ensures in
    Neither-true falses lits lit (λ in_falses. shown_once _ _ falses lit shows below in_falses true')
    (Contains-get_or lits c.loop-lit.lit-index _ c.loop-lit-test.true) true'

pub returns-then-ne-clause-found : goal.returns-then-ne-clause-found
returns-then-ne-clause-found c falses shows =
    let lits = c.args.lits.now in
    let i = c.loop-lit.lit-index in
    let lit = get_or lits i (record { variable = 0; positive = false }) in
    let below : lit.variable < length c.args.valuation.now.marks.items = c.requires i _ c.loop-lit-test.true in
    let open' : HasNoValue falses lit = record { not_false = λ h. c.in-Open.ensures.0 ((shows lit below).0 h); not_true = λ h. c.in-Open.ensures.1 ((shows (opposite_of lit) below).0 h) } in
    Neither-two falses (take i lits) lits c.loop-lit.single lit (Contains-take i lits) (c.loop-lit.invariant.so_far falses shows) open'
    (λ same. differs (lit_test-same c.unwrap_or.result lit (c.unwrap_or.ensures ∙ same)) (sym c.if-ne.true ∙ c.ne.ensures))
    (Contains-get_or lits i _ c.loop-lit-test.true)

pub loop-lit-preserved : goal.loop-lit-preserved
loop-lit-preserved c =
    let lits = c.args.lits.now in
    let i = c.loop-lit.lit-index in
    let lit = get_or lits i (record { variable = 0; positive = false }) in
    let below : lit.variable < length c.args.valuation.now.marks.items = c.requires i _ c.loop-lit-test.true in
    let more = take_more lits i (record { variable = 0; positive = false }) c.loop-lit-test.true in
    elim c.match-value.branch [
      | in-False w ↦
          record {
            so_far = λ falses shows. rw (more, w.single-is) (SoFar-false falses (take i lits) c.loop-lit.single lit (c.loop-lit.invariant.so_far falses shows) ((shows lit below).1 w.in-False.ensures));
            below = λ x e. c.loop-lit.invariant.below x (sym w.single-is ∙ e);
          }
      | in-Open+else-ne w ↦
          let same : unwrap_or c.loop-lit.single lit ≡ lit = sym w.unwrap_or.ensures ∙ lit_test-true w.unwrap_or.result lit (not_so (sym w.if-ne.false ∙ w.ne.ensures)) in
          record {
            so_far = λ falses shows.
                let open' : HasNoValue falses lit = record { not_false = λ h. w.in-Open.ensures.0 ((shows lit below).0 h); not_true = λ h. w.in-Open.ensures.1 ((shows (opposite_of lit) below).0 h) } in
                rw (more, w.single-is) (SoFar-open falses (take i lits) c.loop-lit.single lit (c.loop-lit.invariant.so_far falses shows) open' same);
            below = λ x e. let is : lit ≡ x = same_Some lit x (sym w.single-is ∙ e) in subst (λ (l : Lit). l.variable < length c.args.valuation.now.marks.items) is below;
          }
    ]

pub returns-in-Some-clause-found : goal.returns-in-Some-clause-found
returns-in-Some-clause-found c falses shows =
    let whole = take_all c.loop-lit.lit-index c.args.lits.now c.loop-lit-test.false in
    let so_far = c.loop-lit.invariant.so_far falses shows in
    rw (whole, c.in-Some.is) at so_far

pub returns-in-None-clause-found : goal.returns-in-None-clause-found
returns-in-None-clause-found c falses shows =
    let whole = take_all c.loop-lit.lit-index c.args.lits.now c.loop-lit-test.false in
    let so_far = c.loop-lit.invariant.so_far falses shows in
    rw (whole, c.in-None.is) at so_far
