-- The moves of a search keep its state.
use Rattle.std.proofs.Common.{◌≡◌, ◌∙◌, ℕ, ◌+◌, ◌-◌, Bool, true, false, List, [], ◌∷◌, ◌++◌, Option, Some, None, length, set, arith, refl, sym, ap, subst, inl}
use Rattle.std.specs.List.{slice_get}
use Rattle.std.specs.declared.vec.Vec.{Vec}
use Rattle.std.specs.declared.alloc.Global.{Global}
use Rattle.std.proofs.lemmas.Option.{none-some, slice_get_within}
use Rattle.std.proofs.lemmas.List.{length-set, length-append}
use Rattle.sat_check.specs.declared.clause.Lit.{Lit}
use Rattle.sat_check.specs.declared.clause.Clause.{Clause}
use Rattle.sat_check.specs.declared.log.Entry.{Entry}
use Rattle.sat_check.specs.Logs.{known_before}
use Rattle.search_base.specs.declared.trail.Slot.{Slot}
use Rattle.search_base.specs.declared.trail.Step.{Step}
use Rattle.search_base.specs.Trails.{falses_of, IsStep, AllStuck}
use Rattle.plain_search.specs.Occurrences.{IsComplete}
use Rattle.plain_search.specs.Looks.{Propagates}
use Rattle.plain_search.specs.States.{IsState, IsAhead}
use Rattle.search_base.specs.Levels.{EntriesAre}
use Rattle.search_base.specs.Steps.{open_value, Keeps-push}
use Rattle.plain_search.proofs.Settling.{IsSettled-push}
use Rattle.search_base.specs.Leveling.{LevelsAre-none, LevelsAre-extend, LevelsAre-decide}

-- ---- levels

pub IsAhead-decide : (known : List Clause) (steps : List Step) (step : Step) → AllStuck known (falses_of steps) → IsAhead known (steps ++ step ∷ [])
IsAhead-decide known steps step stuck =
    let len : length (steps ++ step ∷ []) ≡ length steps + 1 = length-append steps (step ∷ []) in
    let at : length (steps ++ step ∷ []) - 1 ≡ length steps = omega (arith, len) in
    record {
      some = omega (arith, len);
      settled = λ index clause named. rw at (IsSettled-push steps (length steps) clause.lits step (omega arith) (inl (stuck index clause named)));
    }

-- ---- whole states

pub State-propagate :
    (clauses : List Clause) (slots slots' : List Slot) (steps steps' : List Step) (levels : List ℕ) (positive negative : List (Vec ℕ Global)) (entries : List Entry) (conflict : Option ℕ)
    → IsState (length slots) clauses slots steps levels positive negative entries → length slots' ≡ length slots
    → Propagates (known_before clauses entries) steps slots' steps' conflict → IsState (length slots') clauses slots' steps' levels positive negative entries
State-propagate clauses slots slots' steps steps' levels positive negative entries conflict state len it =
    record {
      all = refl;
      keeps = it.keeps;
      levels_are = LevelsAre-extend (known_before clauses entries) steps steps' levels state.levels_are it.extends;
      complete = state.complete;
      positive_len = state.positive_len ∙ sym len;
      negative_len = state.negative_len ∙ sym len;
      entries_are = subst (λ (n : ℕ). EntriesAre n clauses entries) (sym len) state.entries_are;
    }

pub State-start :
    (variables : ℕ) (clauses : List Clause) (slots : List Slot) (steps : List Step) (levels : List ℕ) (positive negative : List (Vec ℕ Global)) (entries : List Entry) (conflict : Option ℕ)
    → length slots ≡ variables → Propagates (known_before clauses []) [] slots steps conflict → levels ≡ [] → entries ≡ []
    → IsComplete (known_before clauses []) positive negative → length positive ≡ variables → length negative ≡ variables
    → IsState variables clauses slots steps levels positive negative entries
State-start variables clauses slots steps levels positive negative entries conflict len it no_levels no_entries complete p q =
    let known : known_before clauses entries ≡ known_before clauses [] = ap (λ (es : List Entry). known_before clauses es) no_entries in
    record {
      all = len;
      keeps = rw known it.keeps;
      levels_are = rw (known, no_levels) (LevelsAre-none (known_before clauses []) steps it.extends);
      complete = rw known complete;
      positive_len = p ∙ sym len;
      negative_len = q ∙ sym len;
      entries_are =
          rw no_entries
          (record {
            below = λ k d h. absurd (omega (arith, h));
            follow = λ index entry h. absurd (omega (arith, h));
            new = λ index entry e. absurd (none-some entry e);
            not_propagated = λ h. absurd (omega (arith, h));
          });
    }

pub State-decide :
    (clauses : List Clause) (slots slots' : List Slot) (steps steps' : List Step) (levels levels' : List ℕ) (positive negative : List (Vec ℕ Global)) (entries : List Entry) (variable place : ℕ) (sign : Bool) (slot : Slot)
    → IsState (length slots) clauses slots steps levels positive negative entries → AllStuck (known_before clauses entries) (falses_of steps)
    → slice_get slots variable ≡ Some slot → slot.assigned ≡ false → place ≡ length steps
    → slots' ≡ set slots variable (record { assigned = true; positive = sign })
    → steps' ≡ steps ++ (record { falsified = record { variable = variable; positive = sign }; reason = None }) ∷ []
    → levels' ≡ levels ++ place ∷ []
    → IsState (length slots') clauses slots' steps' levels' positive negative entries
State-decide clauses slots slots' steps steps' levels levels' positive negative entries variable place sign slot state stuck at open' is_place slots_are steps_are levels_are =
    let known = known_before clauses entries in
    let lit : Lit = record { variable = variable; positive = sign } in
    let step : Step = record { falsified = lit; reason = None } in
    let len : length slots' ≡ length slots = ap length slots_are ∙ length-set slots variable (record { assigned = true; positive = sign }) in
    let is_step : IsStep (length slots) known (falses_of steps) step =
    record {
      below = slice_get_within slots variable slot at;
      without_value = open_value slots (falses_of steps) lit slot state.keeps.shows at open';
      reason = λ r e. absurd (none-some r e);
    } in
    record {
      all = refl;
      keeps = rw (slots_are, steps_are) (Keeps-push known slots steps step state.keeps is_step);
      levels_are = rw (steps_are, levels_are, is_place) (LevelsAre-decide known steps levels step state.levels_are stuck);
      complete = state.complete;
      positive_len = state.positive_len ∙ sym len;
      negative_len = state.negative_len ∙ sym len;
      entries_are = subst (λ (n : ℕ). EntriesAre n clauses entries) (sym len) state.entries_are;
    }
