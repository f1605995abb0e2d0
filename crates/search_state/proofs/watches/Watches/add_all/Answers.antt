use Rattle.std.proofs.Common.{◌≡◌, ◌∙◌, ℕ, List, [], length, take, get_or, arith, refl, sym, subst, inl, inr, append-nil}
use Rattle.std.proofs.lemmas.Option.{none-some}
use Rattle.sat_check.specs.declared.clause.Clause.{Clause}
use Rattle.sat_check.specs.Logs.{known_before}
use Rattle.search_base.specs.declared.trail.Step.{Step}
use Rattle.search_base.specs.Trails.{falses_of}
use Rattle.search_base.specs.Propagation.{IsConflict}
use Rattle.search_state.specs.Watches.{AreWatched, AllGuarded, Within}
use Rattle.search_base.specs.Lists.{take_whole}
use Rattle.search_base.specs.Settling.{Extends-none, Extends-both}
use Rattle.search_state.specs.Growing.{Extends-within}
use Rattle.search_state.proofs.watches.Watches.add_all.Goals as goal

still : (known : List Clause) (old new : List Step) (index : ℕ) → Within (falses_of old) (falses_of new) → IsConflict known (falses_of old) index → IsConflict known (falses_of new) index
still known old new index within (clause, named, all) = (clause, named, λ k d inside. within (get_or clause.lits k d) (all k d inside))

pub loop-index-init : goal.loop-index-init
loop-index-init c =
    record {
      len = refl;
      trail = c.requires.trail;
      extends = Extends-none c.args.placed.now.trail.steps.items;
      watched = c.requires.watched;
      none_aside = λ k d within. absurd (omega (arith, c.requires.watched.pairs_len, within));
      found = λ index e. absurd (none-some index e);
      guarded = λ _ k clause pair named at hot. absurd (none-some clause named);
    }

pub loop-index-preserved : goal.loop-index-preserved
loop-index-preserved c =
    let clauses = c.args.clauses.now in
    let before = c.loop-index.invariant in
    let old = c.loop-index.placed in
    let new = c.add.new.placed in
    let it = c.in_ok-is_false.ensures in
    record {
      len = it.len ∙ before.len;
      trail = it.trail;
      extends = Extends-both c.args.placed.now.trail.steps.items old.trail.steps.items new.trail.steps.items before.extends it.extends;
      watched = it.watched;
      none_aside = it.none_aside before.none_aside;
      found = λ index e.
          elim (c.first_of-conflict.ensures.some index e) [
            | inl sooner ↦
                still (known_before clauses []) old.trail.steps.items new.trail.steps.items index (Extends-within old.trail.steps.items new.trail.steps.items it.extends) (before.found index sooner)
            | inr now ↦ subst (λ (n : ℕ). IsConflict (known_before clauses []) (falses_of new.trail.steps.items) n) now.1 (it.found now.0)
          ];
      guarded = λ e. let none = c.first_of-conflict.ensures.none e in it.guarded none.1 (before.guarded none.0);
    }

pub returns : goal.returns
returns c =
    let clauses = c.args.clauses.now in
    let before = c.loop-index.invariant in
    let all : take c.loop-index.index clauses ≡ known_before clauses [] = take_whole c.loop-index.index clauses (omega arith) ∙ sym (append-nil clauses) in
    record {
      len = before.len;
      trail = before.trail;
      extends = before.extends;
      watched = subst (λ (k : List Clause). AreWatched (length c.loop-index.placed.trail.slots.items) k c.loop-index.self) all before.watched;
      none_aside = before.none_aside;
      found = before.found;
      guarded = λ e. subst (λ (k : List Clause). AllGuarded k c.loop-index.self.pairs.items (falses_of c.loop-index.placed.trail.steps.items) []) all (before.guarded e);
    }
