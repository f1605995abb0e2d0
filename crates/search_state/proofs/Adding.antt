-- The first look at each clause.
use Rattle.std.proofs.Common.{◌≡◌, ◌≢◌, ◌∙◌, ℕ, ◌+◌, ◌<◌, Bool, true, false, List, [], ◌∷◌, ◌++◌, Some, length, take, arith, sym, ap, subst, add-one}
use Rattle.std.specs.List.{slice_get, Contains}
use Rattle.std.proofs.lemmas.List.{length-take-le}
use Rattle.sat_check.specs.declared.clause.Clause.{Clause}
use Rattle.sat_check.specs.Logs.{known_before}
use Rattle.search_state.specs.declared.placed.PlacedTrail.{PlacedTrail}
use Rattle.search_state.specs.declared.watches.Pair.{Pair}
use Rattle.search_state.specs.declared.watches.Watches.{Watches}
use Rattle.search_base.specs.Trails.{falses_of}
use Rattle.search_base.specs.Propagation.{Extends, IsConflict}
use Rattle.search_state.specs.Watches.{IsTrail, AreWatched, WatchesMore, Guards, AllGuarded}
use Rattle.search_state.specs.Beginning.{NoneIsAside, IsAdded}
use Rattle.search_base.specs.Lists.{take_suc}
use Rattle.search_state.specs.Growing.{Guards-grow, Extends-within, AreWatched-len}
use Rattle.search_state.specs.Flags.{NoneIsAside-push}
use Rattle.search_state.specs.Guarding.{AreWatched-push, AllGuarded-push}

pub Added :
    (clauses : List Clause) (old_trail new_trail : PlacedTrail) (old new : Watches) (index : ℕ) (conflict : Bool) (clause : Clause) (pair : Pair)
    → slice_get clauses index ≡ Some clause → index < length clauses → pair.aside ≡ false → length new_trail.trail.slots.items ≡ length old_trail.trail.slots.items → IsTrail (known_before clauses []) new_trail
    → Extends old_trail.trail.steps.items new_trail.trail.steps.items → AreWatched (length old_trail.trail.slots.items) (take index clauses) old
    → (pair.first ≢ pair.second → Contains clause.lits pair.first × Contains clause.lits pair.second) → WatchesMore old new index pair
    → (conflict ≡ true → IsConflict (known_before clauses []) (falses_of new_trail.trail.steps.items) index)
    → (conflict ≡ false → Guards (falses_of new_trail.trail.steps.items) [] pair clause.lits) → IsAdded clauses old_trail new_trail old new index conflict
Added clauses old_trail new_trail old new index conflict clause pair named within hot len trail extends watched stands more found own =
    let n = length old_trail.trail.slots.items in
    let steps = old_trail.trail.steps.items in
    let steps' = new_trail.trail.steps.items in
    let count : length (take index clauses) ≡ index = length-take-le index clauses (omega arith) in
    let grown : take (index + 1) clauses ≡ take index clauses ++ clause ∷ [] = ap (λ (m : ℕ). take m clauses) (add-one index) ∙ take_suc index clauses clause named in
    let pushed : AreWatched n (take index clauses ++ clause ∷ []) new = AreWatched-push n (take index clauses) clause old new index pair watched (sym count) stands more in
    record {
      len = len;
      trail = trail;
      extends = extends;
      watched = AreWatched-len n (length new_trail.trail.slots.items) (take (index + 1) clauses) new (sym len) (subst (λ (k : List Clause). AreWatched n k new) (sym grown) pushed);
      none_aside = λ none. subst (λ (l : List Pair). NoneIsAside l) (sym more.pairs) (NoneIsAside-push old.pairs.items pair hot none);
      found = found;
      guarded = λ e all.
          subst (λ (k : List Clause). AllGuarded k new.pairs.items (falses_of steps') []) (sym grown)
          (AllGuarded-push (take index clauses) clause old.pairs.items new.pairs.items pair (falses_of steps') [] watched.pairs_len more.pairs
          (λ k c p at at' h. Guards-grow (falses_of steps) (falses_of steps') [] p c.lits (Extends-within steps steps' extends) (all k c p at at' h)) (λ _. own e));
    }
