use Rattle.std.proofs.Common.{◌≡◌, ◌∙◌, ℕ, ◌+◌, true, false, List, length, refl, ap, subst}
use Rattle.sat_check.specs.declared.clause.Lit.{Lit}
use Rattle.search_state.specs.declared.watches.Pair.{Pair}
use Rattle.sat_search.specs.declared.solver.Solver.{Solver}
use Rattle.search_state.specs.Watches.{WatchesMore}
use Rattle.search_state.specs.Shelves.{IsCarded}
use Rattle.search_state.specs.Growing.{WatchesMore-none}
use Rattle.sat_search.proofs.Reducing.{KeptAside}
use Rattle.sat_search.proofs.solver.Solver.keep_aside.Goals as goal

pub returns : goal.returns
returns c =
    let clauses = c.args.clauses.now in
    let old = c.args.self.now in
    let number = c.in_ok-number.number in
    let entry = c.args.entry in
    let none : Lit = record { variable = 0; positive = false } in
    let pair : Pair = record { first = none; second = none; aside = true } in
    let new : Solver =
    record {
      placed = old.placed;
      levels = old.levels;
      watches = record { positive = old.watches.positive; negative = old.watches.negative; pairs = c.push.new.self };
      entries = c.push-2.new.self;
      shelf = c.add.new.self;
      analysis = old.analysis;
      order = old.order;
      restarts = old.restarts;
      stock = old.stock;
    } in
    let more : WatchesMore old.watches new.watches number pair = WatchesMore-none old.watches c.push.new.self number pair refl c.in_ok-push.ensures.items in
    let is_number : number ≡ length clauses + length old.entries = c.in_ok-number.ensures ∙ ap (λ (m : ℕ). length clauses + m) c.len.ensures in
    let carded : IsCarded new.shelf number entry.clause.lits = subst (λ (l : List Lit). IsCarded new.shelf number l) c.as_slice.ensures c.in_ok-add.ensures.carded in
    KeptAside clauses old new entry c.args.base number pair c.requires.state c.requires.base c.requires.entry_below c.requires.follows c.requires.new refl refl is_number more
    c.in_ok-push-2.ensures.ok c.in_ok-add.ensures.shelf c.in_ok-add.ensures.kept carded refl refl refl
