use Rattle.std.proofs.Common.{◌≡◌, ◌≢◌, ◌∙◌, ◌<◌, Bool, true, false, not, Option, Some, None, List, length, get_or, take, arith, sym, subst}
use Rattle.std.specs.Option.{unwrap_or}
use Rattle.std.specs.List.{Contains}
use Rattle.std.proofs.lemmas.Bool.{false≢true}
use Rattle.std.proofs.lemmas.Option.{same_Some}
use Rattle.std.proofs.lemmas.List.{take_more, take_all}
use Rattle.std.proofs.lemmas.List.Elements.{Contains-get_or}
use Rattle.sat_check.specs.declared.clause.Lit.{Lit}
use Rattle.sat_check.specs.Logs.{HasNoValue}
use Rattle.sat_check.specs.Literals.{Contains-take, lit_test-true, lit_test-same}
use Rattle.sat_check.specs.Laws.{SoFar}
use Rattle.sat_check.specs.Laws.{SoFar-false, SoFar-open}
use Rattle.search_state.specs.Beginning.{AreOpen}
use Rattle.search_state.proofs.beginning.standing_of.Goals as goal
use Rattle.search_state.proofs.beginning.standing_of.Goals.{then-not-is_false+else-ne, else-not-is_false}

differs : {t : Bool} → t ≡ true → true ≡ not t → ⊥
differs {t} h e = cc

not_so : {t : Bool} → false ≡ not t → t ≡ true
not_so {t} e = grind arith

first_open : (falses lits prefix : List Lit) (single : Option Lit) (lit first : Lit) → ((o : Lit) → Contains prefix o → Contains lits o) → SoFar falses prefix single → first ≡ unwrap_or single lit → first ≢ lit
    → Contains lits lit → (Contains falses lit → ⊥) → AreOpen falses lits first lit
first_open falses lits prefix None lit first within so_far is apart stands free = absurd (apart is)
first_open falses lits prefix (Some it) lit first within so_far is apart stands free =
    record {
      first_stands = subst (Contains lits) (sym is) (within it so_far.stands);
      second_stands = stands;
      first_free = λ h. so_far.without_value.not_false (subst (Contains falses) is h);
      second_free = free;
      apart = apart;
    }

pub returns-then-ne-clause-standing : goal.returns-then-ne-clause-standing
returns-then-ne-clause-standing c falses shows =
    let lits = c.args.lits.now in
    let i = c.loop-lit.lit-index in
    let lit = get_or lits i (record { variable = 0; positive = false }) in
    let stands = Contains-get_or lits i (record { variable = 0; positive = false }) c.loop-lit-test.true in
    first_open falses lits (take i lits) c.loop-lit.single lit c.unwrap_or-first.result (Contains-take i lits) (c.loop-lit.invariant.so_far falses shows) c.unwrap_or-first.ensures
    (λ e. differs (lit_test-same c.unwrap_or-first.result lit e) (sym c.if-ne.true ∙ c.ne.ensures)) stands
    (λ h. false≢true (sym c.if-not-is_false.true ∙ (c.is_false.ensures falses shows).1 h))

pub loop-lit-preserved : goal.loop-lit-preserved
loop-lit-preserved c =
    let lits = c.args.lits.now in
    let i = c.loop-lit.lit-index in
    let lit = get_or lits i (record { variable = 0; positive = false }) in
    let below : lit.variable < length c.args.slots.now = c.requires i _ c.loop-lit-test.true in
    let more = take_more lits i (record { variable = 0; positive = false }) c.loop-lit-test.true in
    elim c.if-not-is_false.branch [
      | then-not-is_false+else-ne w ↦
          let same : w.unwrap_or-first.result ≡ lit = lit_test-true w.unwrap_or-first.result lit (not_so (sym w.if-ne.false ∙ w.ne.ensures)) in
          record {
            so_far = λ falses shows.
                let free : HasNoValue falses lit =
                record {
                  not_false = λ h. false≢true (sym w.if-not-is_false.true ∙ (c.is_false.ensures falses shows).1 h);
                  not_true = λ h. false≢true (sym c.if-is_true.false ∙ (c.is_true.ensures falses shows).1 h);
                } in
                rw (more, w.single-is) (SoFar-open falses (take i lits) c.loop-lit.single lit (c.loop-lit.invariant.so_far falses shows) free (sym w.unwrap_or-first.ensures ∙ same));
            below = λ x e. let is : lit ≡ x = same_Some lit x (sym w.single-is ∙ e) in subst (λ (l : Lit). l.variable < length c.args.slots.now) is below;
          }
      | else-not-is_false w ↦
          record {
            so_far = λ falses shows.
                let told = (c.is_false.ensures falses shows).0 w.if-not-is_false.false in
                rw (more, w.single-is) (SoFar-false falses (take i lits) c.loop-lit.single lit (c.loop-lit.invariant.so_far falses shows) told);
            below = λ x e. c.loop-lit.invariant.below x (sym w.single-is ∙ e);
          }
    ]

pub returns-in-Some-clause-standing : goal.returns-in-Some-clause-standing
returns-in-Some-clause-standing c falses shows =
    let whole = take_all c.loop-lit.lit-index c.args.lits.now c.loop-lit-test.false in
    let so_far = c.loop-lit.invariant.so_far falses shows in
    rw (whole, c.in-Some.is) at so_far

pub returns-in-None-clause-standing : goal.returns-in-None-clause-standing
returns-in-None-clause-standing c falses shows =
    let whole = take_all c.loop-lit.lit-index c.args.lits.now c.loop-lit-test.false in
    let so_far = c.loop-lit.invariant.so_far falses shows in
    rw (whole, c.in-None.is) at so_far
