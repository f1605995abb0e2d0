use Rattle.std.proofs.Common.{◌≡◌, ◌≢◌, ◌∙◌, Bool, true, not, sym}
use Rattle.sat_check.specs.Literals.{lit_test-same}
use Rattle.search_state.proofs.Pushing.{ListsMore-both}
use Rattle.search_state.proofs.watches.Watches.list.Goals as goal

differs : {t : Bool} → t ≡ true → true ≡ not t → ⊥
differs {t} h e = cc

pub returns-in_ok-push-2-clause-lists : goal.returns-in_ok-push-2-clause-lists
returns-in_ok-push-2-clause-lists c =
    let pair = c.args.pair in
    let apart : pair.first ≢ pair.second = λ e. differs (lit_test-same pair.first pair.second e) (sym c.if-ne.true ∙ c.ne.ensures) in
    ListsMore-both c.args.self.now c.push.new.self c.push-then-ne.new.self c.args.index pair apart c.in_ok-push.ensures c.in_ok-push-2.ensures
