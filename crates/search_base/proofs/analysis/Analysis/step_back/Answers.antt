use Rattle.std.proofs.Common.{◌≡◌, ◌∙◌, ℕ, ◌<◌, Bool, false, List, Some, length, set, arith, sym, ap, subst}
use Rattle.std.specs.List.{slice_get}
use Rattle.std.proofs.lemmas.Option.{slice_get-get_or}
use Rattle.sat_check.specs.declared.clause.Lit.{Lit}
use Rattle.sat_check.specs.Logs.{known_before}
use Rattle.search_base.specs.declared.trail.Step.{Step}
use Rattle.search_base.specs.declared.analysis.Analysis.{Analysis}
use Rattle.search_base.specs.Replacing.{Walked}
use Rattle.search_base.proofs.Replacing.{Walked-skip, Walked-keep, Walked-replace}
use Rattle.search_base.proofs.analysis.Analysis.step_back.Goals as goal
use Rattle.search_base.proofs.analysis.Analysis.step_back.Goals.{in-Some+in_ok-push-in-Some, in-None+in_ok-push-in-None}

pub returns-then-not-index-clause-walked : goal.returns-then-not-index-clause-walked
returns-then-not-index-clause-walked c =
    let known = known_before c.args.clauses.now c.args.entries.now in
    let steps = c.args.trail.now.steps.items in
    let at = c.args.at in
    let step = c.index-step.result.now in
    let marks = c.args.self.now.marks.items in
    let here : slice_get steps at ≡ Some step = slice_get-get_or steps at step c.requires.within ∙ ap (λ (s : Step). Some s) (sym c.index-step.ensures) in
    let below = (c.requires.keeps.each at step here).below in
    let within : step.falsified.variable < length marks = omega (arith, below, c.requires.len) in
    let unmarked : slice_get marks step.falsified.variable ≡ Some false =
    slice_get-get_or marks step.falsified.variable c.index.result.now within ∙ ap (λ (b : Bool). Some b) (sym c.index.ensures) ∙ ap (λ (b : Bool). Some b) c.if-not-index.true in
    Walked-skip known steps c.args.start at marks c.args.self.now.lits c.args.self.now.hints.items c.args.self.now.keep step here unmarked c.requires.walked

pub index_mut-requires : goal.index_mut-requires
index_mut-requires c =
    let steps = c.args.trail.now.steps.items in
    let at = c.args.at in
    let step = c.index-step.result.now in
    let here : slice_get steps at ≡ Some step = slice_get-get_or steps at step c.requires.within ∙ ap (λ (s : Step). Some s) (sym c.index-step.ensures) in
    let below = (c.requires.keeps.each at step here).below in
    elim c.match-replaced_by.branch [
      | in-Some+in_ok-push-in-Some w ↦
          let len : length c.match-replaced_by.self.marks.items ≡ length c.args.self.now.marks.items = ap (λ (a : Analysis). length a.marks.items) w.self-is ∙ w.mark.ensures.len in
          omega (arith, len, below, c.requires.len, c.match-replaced_by.self.marks.ok.0)
      | in-None+in_ok-push-in-None w ↦
          let len : length c.match-replaced_by.self.marks.items ≡ length c.args.self.now.marks.items = ap (λ (a : Analysis). length a.marks.items) w.self-is in
          omega (arith, len, below, c.requires.len, c.match-replaced_by.self.marks.ok.0)
    ]

pub returns-clause-walked : goal.returns-clause-walked
returns-clause-walked c =
    let known = known_before c.args.clauses.now c.args.entries.now in
    let slots = c.args.trail.now.slots.items in
    let steps = c.args.trail.now.steps.items in
    let at = c.args.at in
    let start = c.args.start in
    let step = c.index-step.result.now in
    let old = c.args.self.now in
    let here : slice_get steps at ≡ Some step = slice_get-get_or steps at step c.requires.within ∙ ap (λ (s : Step). Some s) (sym c.index-step.ensures) in
    elim c.match-replaced_by.branch [
      | in-Some+in_ok-push-in-Some w ↦
          let marks = w.mark.new.marks.items in
          let walked =
          Walked-replace known slots steps start at old.marks.items marks old.lits old.hints.items old.keep w.in-Some.index step
          c.requires.keeps here w.in-Some.ensures.reason w.mark.ensures.kept w.mark.ensures.marked c.requires.walked in
          subst (λ (a : Analysis). Walked known steps start at (set a.marks.items step.falsified.variable false) a.lits a.hints.items a.keep) (sym w.self-is)
          (subst (λ (hs : List ℕ). Walked known steps start at (set marks step.falsified.variable false) old.lits hs old.keep) (sym w.in_ok-push-in-Some.ensures.items) walked)
      | in-None+in_ok-push-in-None w ↦
          let keep = w.kept_from-self.ensures in
          let walked =
          Walked-keep known slots steps start at old.marks.items old.lits old.hints.items old.keep w.kept_from-self.result step
          c.requires.keeps c.requires.last_level here w.in-None.ensures.stays keep.first keep.later keep.none c.requires.walked in
          subst (λ (a : Analysis). Walked known steps start at (set a.marks.items step.falsified.variable false) a.lits a.hints.items a.keep) (sym w.self-is)
          (subst (λ (ls : List Lit). Walked known steps start at (set old.marks.items step.falsified.variable false) ls old.hints.items w.kept_from-self.result) (sym w.in_ok-push-in-None.ensures.ok) walked)
    ]
