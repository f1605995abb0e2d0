use Rattle.std.proofs.Common.{◌≡◌, ◌∙◌, ℕ, ◌+◌, ◌-◌, ◌<◌, List, [], ◌∷◌, ◌++◌, Some, length, take, arith, sym, ap, subst}
use Rattle.std.specs.List.{slice_get}
use Rattle.std.proofs.lemmas.Option.{same_Some, slice_get-get_or, slice_get_within}
use Rattle.sat_check.specs.declared.clause.Lit.{Lit}
use Rattle.sat_check.specs.Clauses.{opposite_of, AreBelow}
use Rattle.sat_check.specs.Logs.{known_before}
use Rattle.search_base.specs.declared.trail.Step.{Step}
use Rattle.search_base.specs.Trails.{Keeps}
use Rattle.plain_search.specs.Occurrences.{Adds}
use Rattle.plain_search.proofs.Jumps.{IsJump, is_jump, learned_below, State-jump}
use Rattle.plain_search.proofs.solver.Solver.jump.Goals as goal

pub index-decision-requires : goal.index-decision-requires
index-decision-requires c =
    let own = c.args.self.now in
    let known = known_before c.args.clauses.now own.entries in
    let slots = own.trail.slots.items in
    let steps = own.trail.steps.items in
    let levels = own.levels.items in
    let entry = c.args.entry in
    let start = c.args.start in
    let keep = c.args.keep in
    let state = c.requires.state in
    let jump : IsJump known slots steps levels start entry.clause.lits keep =
    is_jump known slots steps levels start entry.clause.lits entry.hints keep state.keeps state.levels_are c.requires.start c.requires.learns c.requires.some in
    omega (arith, slice_get_within steps start jump.decision jump.at, own.trail.steps.ok.0)

pub unreachable-requires : goal.unreachable-requires
unreachable-requires c =
    let own = c.args.self.now in
    let known = known_before c.args.clauses.now own.entries in
    let slots = own.trail.slots.items in
    let steps = own.trail.steps.items in
    let levels = own.levels.items in
    let entry = c.args.entry in
    let start = c.args.start in
    let keep = c.args.keep in
    let state = c.requires.state in
    let jump : IsJump known slots steps levels start entry.clause.lits keep =
    is_jump known slots steps levels start entry.clause.lits entry.hints keep state.keeps state.levels_are c.requires.start c.requires.learns c.requires.some in
    omega (arith, c.in_default.ensures.none (length levels - 1) start (subst (λ (l : List ℕ). slice_get l (length levels - 1) ≡ Some start) (sym c.as_slice.ensures.value) jump.last), c.requires.learns.keep_le)

pub cut-requires-clause-within : goal.cut-requires-clause-within
cut-requires-clause-within c =
    let own = c.args.self.now in
    let levels = own.levels.items in
    let at : slice_get levels c.in-Some.level ≡ Some c.in-Some.place = subst (λ (l : List ℕ). slice_get l c.in-Some.level ≡ Some c.in-Some.place) c.as_slice.ensures.value c.in-Some.ensures.found.0 in
    let within : c.in-Some.place < length own.trail.steps.items = c.requires.state.levels_are.within c.in-Some.level c.in-Some.place at in
    omega (arith, within)

pub add-requires-clause-positive : goal.add-requires-clause-positive
add-requires-clause-positive c =
    let own = c.args.self.now in
    let known = known_before c.args.clauses.now own.entries in
    let below = learned_below known own.trail.slots.items own.trail.steps.items c.args.start c.args.entry c.args.keep c.requires.state.keeps c.requires.learns in
    subst (λ (ls : List Lit). AreBelow (length own.occurrences.positive.items) ls) (sym c.as_slice-2.ensures)
    (subst (λ (n : ℕ). AreBelow n c.args.entry.clause.lits) (sym c.requires.state.positive_len) below)

pub add-requires-clause-negative : goal.add-requires-clause-negative
add-requires-clause-negative c =
    let own = c.args.self.now in
    let known = known_before c.args.clauses.now own.entries in
    let below = learned_below known own.trail.slots.items own.trail.steps.items c.args.start c.args.entry c.args.keep c.requires.state.keeps c.requires.learns in
    subst (λ (ls : List Lit). AreBelow (length own.occurrences.negative.items) ls) (sym c.as_slice-2.ensures)
    (subst (λ (n : ℕ). AreBelow n c.args.entry.clause.lits) (sym c.requires.state.negative_len) below)

pub assign-requires : goal.assign-requires
assign-requires c =
    let own = c.args.self.now in
    let known = known_before c.args.clauses.now own.entries in
    let slots = own.trail.slots.items in
    let steps = own.trail.steps.items in
    let levels = own.levels.items in
    let entry = c.args.entry in
    let start = c.args.start in
    let keep = c.args.keep in
    let state = c.requires.state in
    let jump : IsJump known slots steps levels start entry.clause.lits keep =
    is_jump known slots steps levels start entry.clause.lits entry.hints keep state.keeps state.levels_are c.requires.start c.requires.learns c.requires.some in
    let idx = c.index-decision.result.now in
    let here : slice_get steps start ≡ Some idx =
    slice_get-get_or steps start idx (slice_get_within steps start jump.decision jump.at) ∙ ap (λ (s : Step). Some s) (sym c.index-decision.ensures) in
    let below = (state.keeps.each start idx here).below in
    let variable : c.opposite.result.variable ≡ idx.falsified.variable = ap (λ (l : Lit). l.variable) c.opposite.ensures in
    omega (arith, variable, below, c.cut.ensures.len)

pub returns-clause-state : goal.returns-clause-state
returns-clause-state c =
    let own = c.args.self.now in
    let known = known_before c.args.clauses.now own.entries in
    let slots = own.trail.slots.items in
    let steps = own.trail.steps.items in
    let levels = own.levels.items in
    let entry = c.args.entry in
    let start = c.args.start in
    let keep = c.args.keep in
    let state = c.requires.state in
    let jump : IsJump known slots steps levels start entry.clause.lits keep =
    is_jump known slots steps levels start entry.clause.lits entry.hints keep state.keeps state.levels_are c.requires.start c.requires.learns c.requires.some in
    let idx = c.index-decision.result.now in
    let place = c.in-Some.place in
    let level = c.in-Some.level in
    let at : slice_get levels level ≡ Some place = subst (λ (l : List ℕ). slice_get l level ≡ Some place) c.as_slice.ensures.value c.in-Some.ensures.found.0 in
    let earlier : (i a : ℕ) → i < level → slice_get levels i ≡ Some a → a < keep =
    λ i a less e. c.in-Some.ensures.first i a less (subst (λ (l : List ℕ). slice_get l i ≡ Some a) (sym c.as_slice.ensures.value) e) in
    let here : slice_get steps start ≡ Some idx =
    slice_get-get_or steps start idx (slice_get_within steps start jump.decision jump.at) ∙ ap (λ (s : Step). Some s) (sym c.index-decision.ensures) in
    let same : idx ≡ jump.decision = same_Some idx jump.decision (sym here ∙ jump.at) in
    let falsified : c.opposite.result ≡ opposite_of jump.decision.falsified = c.opposite.ensures ∙ ap (λ (s : Step). opposite_of s.falsified) same in
    let cut_keeps : Keeps known c.cut.new.self.slots.items (take place steps) =
    subst (λ (s : List Step). Keeps known c.cut.new.self.slots.items s) c.cut.ensures.steps (c.cut.ensures.keeps known state.keeps) in
    let index : c.in_ok-index.index ≡ length c.args.clauses.now + length own.entries = c.in_ok-index.ensures ∙ ap (λ (n : ℕ). length c.args.clauses.now + n) c.len.ensures in
    let step : Step = record { falsified = c.opposite.result; reason = Some c.in_ok-index.index } in
    let steps_are = c.in_ok-assign.ensures.steps ∙ ap (λ (s : List Step). s ++ step ∷ []) c.cut.ensures.steps in
    let adds = subst (λ (ls : List Lit). Adds own.occurrences.positive.items own.occurrences.negative.items c.add.new.self.positive.items c.add.new.self.negative.items c.in_ok-index.index ls) c.as_slice-2.ensures c.in_ok-add.ensures.adds in
    let both =
    State-jump c.args.clauses.now slots c.cut.new.self.slots.items c.assign.new.self.slots.items steps c.assign.new.self.steps.items levels c.truncate.new.self.items
    own.occurrences.positive.items own.occurrences.negative.items c.add.new.self.positive.items c.add.new.self.negative.items own.entries c.push.new.self
    entry start keep level place c.in_ok-index.index c.opposite.result
    state c.requires.learns c.requires.some jump at c.in-Some.ensures.found.1 earlier c.cut.ensures.len cut_keeps index adds
    c.add.ensures.positive_len c.add.ensures.negative_len falsified c.truncate.ensures.items c.in_ok-push.ensures.ok c.in_ok-assign.ensures.slots steps_are in
    both.0

pub returns-clause-ahead : goal.returns-clause-ahead
returns-clause-ahead c =
    let own = c.args.self.now in
    let known = known_before c.args.clauses.now own.entries in
    let slots = own.trail.slots.items in
    let steps = own.trail.steps.items in
    let levels = own.levels.items in
    let entry = c.args.entry in
    let start = c.args.start in
    let keep = c.args.keep in
    let state = c.requires.state in
    let jump : IsJump known slots steps levels start entry.clause.lits keep =
    is_jump known slots steps levels start entry.clause.lits entry.hints keep state.keeps state.levels_are c.requires.start c.requires.learns c.requires.some in
    let idx = c.index-decision.result.now in
    let place = c.in-Some.place in
    let level = c.in-Some.level in
    let at : slice_get levels level ≡ Some place = subst (λ (l : List ℕ). slice_get l level ≡ Some place) c.as_slice.ensures.value c.in-Some.ensures.found.0 in
    let earlier : (i a : ℕ) → i < level → slice_get levels i ≡ Some a → a < keep =
    λ i a less e. c.in-Some.ensures.first i a less (subst (λ (l : List ℕ). slice_get l i ≡ Some a) (sym c.as_slice.ensures.value) e) in
    let here : slice_get steps start ≡ Some idx =
    slice_get-get_or steps start idx (slice_get_within steps start jump.decision jump.at) ∙ ap (λ (s : Step). Some s) (sym c.index-decision.ensures) in
    let same : idx ≡ jump.decision = same_Some idx jump.decision (sym here ∙ jump.at) in
    let falsified : c.opposite.result ≡ opposite_of jump.decision.falsified = c.opposite.ensures ∙ ap (λ (s : Step). opposite_of s.falsified) same in
    let cut_keeps : Keeps known c.cut.new.self.slots.items (take place steps) =
    subst (λ (s : List Step). Keeps known c.cut.new.self.slots.items s) c.cut.ensures.steps (c.cut.ensures.keeps known state.keeps) in
    let index : c.in_ok-index.index ≡ length c.args.clauses.now + length own.entries = c.in_ok-index.ensures ∙ ap (λ (n : ℕ). length c.args.clauses.now + n) c.len.ensures in
    let step : Step = record { falsified = c.opposite.result; reason = Some c.in_ok-index.index } in
    let steps_are = c.in_ok-assign.ensures.steps ∙ ap (λ (s : List Step). s ++ step ∷ []) c.cut.ensures.steps in
    let adds = subst (λ (ls : List Lit). Adds own.occurrences.positive.items own.occurrences.negative.items c.add.new.self.positive.items c.add.new.self.negative.items c.in_ok-index.index ls) c.as_slice-2.ensures c.in_ok-add.ensures.adds in
    let both =
    State-jump c.args.clauses.now slots c.cut.new.self.slots.items c.assign.new.self.slots.items steps c.assign.new.self.steps.items levels c.truncate.new.self.items
    own.occurrences.positive.items own.occurrences.negative.items c.add.new.self.positive.items c.add.new.self.negative.items own.entries c.push.new.self
    entry start keep level place c.in_ok-index.index c.opposite.result
    state c.requires.learns c.requires.some jump at c.in-Some.ensures.found.1 earlier c.cut.ensures.len cut_keeps index adds
    c.add.ensures.positive_len c.add.ensures.negative_len falsified c.truncate.ensures.items c.in_ok-push.ensures.ok c.in_ok-assign.ensures.slots steps_are in
    both.1
