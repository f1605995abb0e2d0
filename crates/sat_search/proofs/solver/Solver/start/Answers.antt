use Rattle.std.proofs.Common.{◌≡◌, ◌∙◌, ℕ, List, [], Some, arith, sym, ap, subst}
use Rattle.std.specs.List.{slice_get}
use Rattle.std.proofs.lemmas.Option.{none-some}
use Rattle.sat_check.specs.declared.log.Entry.{Entry}
use Rattle.sat_check.specs.Logs.{known_before}
use Rattle.search_state.specs.States.{Answers}
use Rattle.sat_search.specs.Marks.{IsReady}
use Rattle.search_state.specs.Shelves.{IsShelf}
use Rattle.std.proofs.lemmas.Bool.{false≢true}
use Rattle.search_state.specs.Flags.{NoneIsAside-at, IsFirm-none}
use Rattle.search_base.specs.Leveling.{LevelsAre-none}
use Rattle.sat_search.proofs.solver.Solver.start.Goals as goal

pub first_conflict-requires-clause-trail : goal.first_conflict-requires-clause-trail
first_conflict-requires-clause-trail c = c.in_ok-placed.ensures.trail (known_before c.args.clauses.now [])

pub returns-clause-state : goal.returns-clause-state
returns-clause-state c =
    let clauses = c.args.clauses.now in
    let it = c.in_ok-conflict.ensures in
    let steps = c.first_conflict.new.placed.trail.steps.items in
    let known : known_before clauses c.new-4.result ≡ known_before clauses [] = ap (λ (es : List Entry). known_before clauses es) c.new-4.ensures in
    record {
      state =
          record {
            trail = rw known it.trail;
            levels_are = rw c.new-3.ensures.items (LevelsAre-none clauses steps it.extends);
            watched = rw known it.watched;
            guarded = λ level place at. absurd (none-some place (subst (λ (l : List ℕ). slice_get l level ≡ Some place) c.new-3.ensures.items at));
            firm = IsFirm-none clauses c.first_conflict.new.self.pairs.items it.none_aside;
            entries_are =
                rw c.new-4.ensures
                (record {
                  below = λ k d h. absurd (omega (arith, h));
                  follow = λ index entry h. absurd (omega (arith, h));
                  new = λ index entry e. absurd (none-some entry e);
                  not_propagated = λ h. absurd (omega (arith, h));
                });
          };
      ready = subst (λ (n : ℕ). IsReady n c.in_ok-new-2.field-0) (sym (it.len ∙ c.in_ok-placed.ensures.len)) c.in_ok-new-2.ensures;
      shelf = subst (λ (n : ℕ). IsShelf n c.in_ok-new.field-0) (sym (it.len ∙ c.in_ok-placed.ensures.len)) c.in_ok-new.ensures;
      carded = λ index clause named (pair, at, aside). absurd (false≢true (sym (NoneIsAside-at c.first_conflict.new.self.pairs.items index pair it.none_aside at) ∙ aside));
    }

pub returns-clause-answers : goal.returns-clause-answers
returns-clause-answers c =
    let it = c.in_ok-conflict.ensures in
    subst (λ (es : List Entry). Answers (known_before c.args.clauses.now es) c.first_conflict.new.placed.trail.steps.items c.first_conflict.new.self c.in_ok-conflict.conflict) (sym c.new-4.ensures)
    (record { found = it.found; guarded = it.guarded })
