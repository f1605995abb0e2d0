use Rattle.std.proofs.Common.{◌≡◌, ◌∙◌, ◌-◌, ◌≤◌, true, false, List, Some, length, arith, refl, sym, ap, subst}
use Rattle.std.specs.List.{slice_get}
use Rattle.std.proofs.lemmas.Option.{slice_get-get_or}
use Rattle.sat_check.specs.declared.clause.Lit.{Lit}
use Rattle.sat_check.specs.declared.log.Entry.{Entry}
use Rattle.sat_check.specs.Logs.{known_before}
use Rattle.search_state.specs.declared.watches.Pair.{Pair}
use Rattle.sat_search.specs.declared.solver.Solver.{Solver}
use Rattle.search_state.specs.Shelves.{IsCarded}
use Rattle.sat_search.proofs.Reducing.{known_entry, SetAside}
use Rattle.sat_search.proofs.solver.Solver.set_aside.Goals as goal

pub returns : goal.returns
returns c =
    let clauses = c.args.clauses.now in
    let old = c.args.self.now in
    let number = c.args.number in
    let entry = c.in-Some.entry.now in
    let none : Lit = record { variable = 0; positive = false } in
    let pair : Pair = record { first = none; second = none; aside = true } in
    let new : Solver =
    record {
      placed = old.placed;
      levels = old.levels;
      watches = c.rest.new.self;
      entries = old.entries;
      shelf = c.add.new.self;
      analysis = old.analysis;
      order = old.order;
      restarts = old.restarts;
      stock = old.stock;
    } in
    let above : length clauses ≤ number = omega (arith, c.if-index-clauses.false) in
    let place = number - length clauses in
    let entries = c.as_slice.result.now in
    let lookup = c.in-Some.ensures.lookup in
    let here : slice_get entries place ≡ Some entry = slice_get-get_or entries place entry lookup.3.0 ∙ ap (λ (e : Entry). Some e) (sym (lookup.3.1 entry)) in
    let at : slice_get old.entries place ≡ Some entry = subst (λ (es : List Entry). slice_get es place ≡ Some entry) c.as_slice.ensures here in
    let named : slice_get (known_before clauses old.entries) number ≡ Some entry.clause = known_entry clauses old.entries number entry above at in
    let carded : IsCarded new.shelf number entry.clause.lits = subst (λ (l : List Lit). IsCarded new.shelf number l) c.as_slice-lits.ensures c.in_ok-add.ensures.carded in
    SetAside clauses old new number entry.clause pair c.requires above named refl refl c.rest.ensures c.in_ok-add.ensures.shelf c.in_ok-add.ensures.kept carded refl refl refl refl
