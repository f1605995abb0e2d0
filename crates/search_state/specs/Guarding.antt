-- Clauses that are guarded, and one clause more.
use Rattle.std.proofs.Common.{◌≡◌, ◌≢◌, ◌⊎◌, ◌∙◌, ℕ, ◌+◌, ◌<◌, Bool, true, false, List, [], ◌∷◌, ◌++◌, Some, length, take, arith, refl, sym, ap, subst, inl, inr}
use Rattle.std.specs.List.{slice_get, Contains}
use Rattle.std.proofs.lemmas.Option.{slice_get_within}
use Rattle.std.proofs.lemmas.List.{length-append}
use Rattle.std.proofs.lemmas.List.Elements.{All-contains}
use Rattle.sat_check.specs.declared.clause.Lit.{Lit}
use Rattle.sat_check.specs.declared.clause.Clause.{Clause}
use Rattle.sat_check.specs.Clauses.{opposite_of}
use Rattle.sat_check.specs.Literals.{at_within}
use Rattle.sat_check.specs.Laws.{Neither-true}
use Rattle.search_base.specs.declared.trail.Slot.{Slot}
use Rattle.search_base.specs.declared.trail.Step.{Step}
use Rattle.search_state.specs.declared.placed.PlacedTrail.{PlacedTrail}
use Rattle.search_state.specs.declared.watches.Pair.{Pair}
use Rattle.search_state.specs.declared.watches.Watches.{Watches}
use Rattle.search_base.specs.Trails.{falses_of, Keeps, IsStuck, AllStuck}
use Rattle.search_state.specs.Watches.{IsTrail, IsPairOf, AreWatched, WatchesMore, Guards, AllGuarded}
use Rattle.search_state.specs.States.{IsFirm}
use Rattle.search_base.specs.Lists.{slice_get-append_left, slice_get-push, slice_get-push_cases}
use Rattle.search_base.specs.Places.{falses-take}
use Rattle.search_base.specs.Steps.{shown_once, Keeps-known}
use Rattle.search_base.specs.Refuting.{false_below}

-- ---- clauses that are guarded are stuck

pub cases_flag : (flag : Bool) → (flag ≡ true) ⊎ (flag ≡ false)
cases_flag true = inl refl
cases_flag false = inr refl

pub IsStuck-guarded :
    (variables : ℕ) (known : List Clause) (watches : Watches) (slots : List Slot) (steps : List Step) (count : ℕ) → Keeps known slots steps → AreWatched variables known watches
    → AllGuarded known watches.pairs.items (falses_of (take count steps)) (falses_of (take count steps))
    → (index : ℕ) (clause : Clause) (pair : Pair) → slice_get known index ≡ Some clause → slice_get watches.pairs.items index ≡ Some pair → pair.aside ≡ false → IsStuck (falses_of (take count steps)) clause.lits
IsStuck-guarded variables known watches slots steps count keeps watched guarded index clause pair named at hot =
    let F = falses_of (take count steps) in
    elim (guarded index clause pair named at hot) [
      | inl it ↦
          let lit = it.0 in
          let neither =
          Neither-true F clause.lits lit
          (λ h.
          let here = falses-take count steps lit h in
          shown_once slots (falses_of steps) lit keeps.shows (false_below known slots steps lit keeps here) here (falses-take count steps (opposite_of lit) it.2))
          it.1 it.2 in
          record { not_false = neither.0; not_unit = neither.1 }
      | inr free ↦
          let is = watched.pairs index clause pair named at free.apart in
          record {
            not_false = λ all. free.first (All-contains (Contains F) clause.lits pair.first all is.first_stands);
            not_unit = λ lit unit.
                elim (All-contains (λ (o : Lit). (o ≡ lit) ⊎ Contains F o) clause.lits pair.first unit.others is.first_stands) [
                  | inl a ↦
                      elim (All-contains (λ (o : Lit). (o ≡ lit) ⊎ Contains F o) clause.lits pair.second unit.others is.second_stands)
                      [ inl b ↦ free.apart (a ∙ sym b) | inr h ↦ free.second h ]
                  | inr h ↦ free.first h
                ];
          }
    ]

-- no clause of the problem is set aside, and so all of them are stuck
pub AllStuck-guarded :
    (variables : ℕ) (clauses more : List Clause) (watches : Watches) (slots : List Slot) (steps : List Step) (count : ℕ) → Keeps (clauses ++ more) slots steps → AreWatched variables (clauses ++ more) watches
    → IsFirm clauses watches.pairs.items → AllGuarded (clauses ++ more) watches.pairs.items (falses_of (take count steps)) (falses_of (take count steps)) → AllStuck clauses (falses_of (take count steps))
AllStuck-guarded variables clauses more watches slots steps count keeps watched firm guarded index clause named =
    let within : index < length clauses = slice_get_within clauses index clause named in
    let (pair, at) = at_within watches.pairs.items index (omega (arith, within, watched.pairs_len, length-append clauses more)) in
    let hot : pair.aside ≡ false = elim (cases_flag pair.aside) [ inl it ↦ absurd (omega (arith, firm index pair at it, within)) | inr it ↦ it ] in
    IsStuck-guarded variables (clauses ++ more) watches slots steps count keeps watched guarded index clause pair (slice_get-append_left clauses more index clause named) at hot

-- ---- one clause more

pub AreWatched-push :
    (variables : ℕ) (known : List Clause) (clause : Clause) (old new : Watches) (index : ℕ) (pair : Pair) → AreWatched variables known old → index ≡ length known
    → (pair.first ≢ pair.second → Contains clause.lits pair.first × Contains clause.lits pair.second) → WatchesMore old new index pair → AreWatched variables (known ++ clause ∷ []) new
AreWatched-push variables known clause old new index pair watched is stands more =
    record {
      positive_len = more.lists.positive_len ∙ watched.positive_len;
      negative_len = more.lists.negative_len ∙ watched.negative_len;
      pairs_len = ap (λ (l : List Pair). length l) more.pairs ∙ length-append old.pairs.items (pair ∷ []) ∙ ap (λ (n : ℕ). n + 1) watched.pairs_len ∙ sym (length-append known (clause ∷ []));
      pairs = λ k c p named at apart.
          let at' : slice_get (old.pairs.items ++ pair ∷ []) k ≡ Some p = subst (λ (l : List Pair). slice_get l k ≡ Some p) more.pairs at in
          elim (slice_get-push_cases known clause k c named) [
            | inl before ↦
                elim (slice_get-push_cases old.pairs.items pair k p at') [
                  | inl at_before ↦
                      let own = watched.pairs k c p before at_before apart in
                      record {
                        first_stands = own.first_stands;
                        second_stands = own.second_stands;
                        first_listed = more.lists.kept p.first k own.first_listed;
                        second_listed = more.lists.kept p.second k own.second_listed;
                      }
                  | inr last ↦ absurd (omega (arith, slice_get_within known k c before, last.0, watched.pairs_len))
                ]
            | inr last ↦
                elim (slice_get-push_cases old.pairs.items pair k p at') [
                  | inl at_before ↦ absurd (omega (arith, slice_get_within old.pairs.items k p at_before, last.0, watched.pairs_len))
                  | inr pair_last ↦
                      let apart' : pair.first ≢ pair.second = λ e. apart (subst (λ (q : Pair). q.first ≡ q.second) pair_last.1 e) in
                      let own : IsPairOf new index clause.lits pair =
                      record { first_stands = (stands apart').0; second_stands = (stands apart').1; first_listed = more.lists.first_listed apart'; second_listed = more.lists.second_listed apart' } in
                      subst (λ (n : ℕ). IsPairOf new n c.lits p) (is ∙ sym last.0) (subst (λ (d : Clause). IsPairOf new index d.lits p) last.1 (subst (λ (q : Pair). IsPairOf new index clause.lits q) pair_last.1 own))
                ]
          ];
      watchers = λ lit watcher h.
          elim (more.lists.among lit watcher h) [
            | inl before ↦
                let own = watched.watchers lit watcher before in
                record { clause = own.clause; named = slice_get-append_left known (clause ∷ []) watcher.index own.clause own.named; stands = own.stands }
            | inr it ↦
                let both = stands it.0 in
                record {
                  clause = clause;
                  named = subst (λ (n : ℕ). slice_get (known ++ clause ∷ []) n ≡ Some clause) (sym (it.1 ∙ is)) (slice_get-push known clause);
                  stands = elim it.2 [ inl e ↦ subst (Contains clause.lits) (sym e) both.0 | inr e ↦ subst (Contains clause.lits) (sym e) both.1 ];
                }
          ];
    }

pub AllGuarded-push :
    (known : List Clause) (clause : Clause) (pairs pairs' : List Pair) (pair : Pair) (falses before : List Lit) → length pairs ≡ length known → pairs' ≡ pairs ++ pair ∷ []
    → AllGuarded known pairs falses before → (pair.aside ≡ false → Guards falses before pair clause.lits) → AllGuarded (known ++ clause ∷ []) pairs' falses before
AllGuarded-push known clause pairs pairs' pair falses before len is all own k c p named at hot =
    elim (slice_get-push_cases known clause k c named) [
      | inl sooner ↦
          elim (slice_get-push_cases pairs pair k p (subst (λ (l : List Pair). slice_get l k ≡ Some p) is at)) [
            | inl at_before ↦ all k c p sooner at_before hot
            | inr last ↦ absurd (omega (arith, slice_get_within known k c sooner, last.0, len))
          ]
      | inr last ↦
          elim (slice_get-push_cases pairs pair k p (subst (λ (l : List Pair). slice_get l k ≡ Some p) is at)) [
            | inl at_before ↦ absurd (omega (arith, slice_get_within pairs k p at_before, last.0, len))
            | inr pair_last ↦
                let own' = own (subst (λ (q : Pair). q.aside ≡ false) (sym pair_last.1) hot) in
                subst (λ (q : Pair). Guards falses before q c.lits) pair_last.1 (subst (λ (d : Clause). Guards falses before pair d.lits) last.1 own')
          ]
    ]

-- the clauses before it are guarded as they were
pub AllGuarded-kept :
    (known : List Clause) (pairs pairs' : List Pair) (pair : Pair) (falses before : List Lit) → length pairs ≡ length known → pairs' ≡ pairs ++ pair ∷ []
    → AllGuarded known pairs falses before → AllGuarded known pairs' falses before
AllGuarded-kept known pairs pairs' pair falses before len is all k c p named at hot =
    elim (slice_get-push_cases pairs pair k p (subst (λ (l : List Pair). slice_get l k ≡ Some p) is at)) [
      | inl at_before ↦ all k c p named at_before hot
      | inr last ↦ absurd (omega (arith, slice_get_within known k c named, last.0, len))
    ]

pub IsTrail-known : (known more : List Clause) (placed : PlacedTrail) → IsTrail known placed → IsTrail (known ++ more) placed
IsTrail-known known more placed trail =
    record { keeps = Keeps-known known more placed.trail.slots.items placed.trail.steps.items trail.keeps; located = trail.located; places_len = trail.places_len }
