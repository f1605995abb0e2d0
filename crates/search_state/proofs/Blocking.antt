-- A watcher takes another literal of its clause as its blocker.
use Rattle.std.proofs.Common.{◌≡◌, ◌∙◌, ℕ, List, Some, length, set, refl, sym, ap, subst, inl, inr}
use Rattle.std.specs.List.{Contains, slice_get}
use Rattle.std.proofs.lemmas.Bool.{cases_eq}
use Rattle.std.proofs.lemmas.Option.{same_Some, slice_get_within}
use Rattle.sat_check.specs.declared.clause.Lit.{Lit}
use Rattle.sat_check.specs.declared.clause.Clause.{Clause}
use Rattle.sat_check.specs.Literals.{Contains-at, Contains-index, slice_get-set_same, slice_get-set_other}
use Rattle.search_state.specs.declared.watches.Watcher.{Watcher}
use Rattle.search_state.specs.declared.watches.Pair.{Pair}
use Rattle.search_state.specs.declared.watches.Watches.{Watches}
use Rattle.search_state.specs.Watches.{watchers_of, IsWritten, IsListed, IsWatcher, AreWatched, AllDue}
use Rattle.search_base.specs.Settling.{cases_lit}

IsListed-blocked :
    (list : List Watcher) (place from index : ℕ) (watcher now : Watcher) → slice_get list place ≡ Some watcher → now.index ≡ watcher.index → IsListed list from index
    → IsListed (set list place now) from index
IsListed-blocked list place from index watcher now at same listed =
    elim (cases_eq listed.place place) [
      | inl here ↦
          let is : watcher ≡ listed.watcher = same_Some watcher listed.watcher (sym at ∙ subst (λ (n : ℕ). slice_get list n ≡ Some listed.watcher) here listed.at) in
          record {
            place = listed.place;
            watcher = now;
            late = listed.late;
            at = subst (λ (n : ℕ). slice_get (set list place now) n ≡ Some now) (sym here) (slice_get-set_same list place now (slice_get_within list place watcher at));
            same = same ∙ ap (λ (w : Watcher). w.index) is ∙ listed.same;
          }
      | inr differs ↦
          record {
            place = listed.place;
            watcher = listed.watcher;
            late = listed.late;
            at = slice_get-set_other list place listed.place now differs ∙ listed.at;
            same = listed.same;
          }
    ]

module _ (known : List Clause) (old new : Watches) (f : Lit) (place : ℕ) (watcher : Watcher) (blocker : Lit) (at : slice_get (watchers_of old f) place ≡ Some watcher)
    (written : IsWritten old new f (set (watchers_of old f) place (record { index = watcher.index; blocker = blocker }))) where
  relisted : (it : Lit) (from index : ℕ) → IsListed (watchers_of old it) from index → IsListed (watchers_of new it) from index
  relisted it from index listed =
      elim (cases_lit it f) [
        | inl same ↦
            let there : IsListed (watchers_of old f) from index = subst (λ (l : Lit). IsListed (watchers_of old l) from index) same listed in
            let now = IsListed-blocked (watchers_of old f) place from index watcher (record { index = watcher.index; blocker = blocker }) at refl there in
            subst (λ (l : Lit). IsListed (watchers_of new l) from index) (sym same) (subst (λ (l : List Watcher). IsListed l from index) (sym written.at) now)
        | inr apart ↦ subst (λ (l : List Watcher). IsListed l from index) (sym (written.others it apart)) listed
      ]

  pub Blocked-watched : (variables : ℕ) (clause : Clause) → slice_get known watcher.index ≡ Some clause → Contains clause.lits blocker → AreWatched variables known old → AreWatched variables known new
  Blocked-watched variables clause named stands watched =
      record {
        positive_len = written.positive_len ∙ watched.positive_len;
        negative_len = written.negative_len ∙ watched.negative_len;
        pairs_len = ap (λ (l : List Pair). length l) written.pairs ∙ watched.pairs_len;
        pairs = λ index c pair named' here apart.
            let is = watched.pairs index c pair named' (subst (λ (l : List Pair). slice_get l index ≡ Some pair) written.pairs here) apart in
            record {
              first_stands = is.first_stands;
              second_stands = is.second_stands;
              first_listed = relisted pair.first 0 index is.first_listed;
              second_listed = relisted pair.second 0 index is.second_listed;
            };
        watchers = λ lit w h.
            elim (cases_lit lit f) [
              | inl same ↦
                  let now : Watcher = record { index = watcher.index; blocker = blocker } in
                  let (k, there) = Contains-index (watchers_of new lit) w h in
                  let there' : slice_get (set (watchers_of old f) place now) k ≡ Some w = subst (λ (l : List Watcher). slice_get l k ≡ Some w) (ap (watchers_of new) same ∙ written.at) there in
                  elim (cases_eq k place) [
                    | inl here ↦
                        let is : now ≡ w =
                        same_Some now w
                        (sym (slice_get-set_same (watchers_of old f) place now (slice_get_within (watchers_of old f) place watcher at)) ∙ subst (λ (n : ℕ). slice_get (set (watchers_of old f) place now) n ≡ Some w) here there') in
                        subst (IsWatcher known) is (record { clause = clause; named = named; stands = stands })
                    | inr differs ↦ watched.watchers f w (Contains-at (watchers_of old f) k w (sym (slice_get-set_other (watchers_of old f) place k now differs) ∙ there'))
                  ]
              | inr apart ↦ watched.watchers lit w (subst (λ (l : List Watcher). Contains l w) (written.others lit apart) h)
            ];
      }

  pub Blocked-due : (falses before : List Lit) (from : ℕ) → AllDue known old falses before f from → AllDue known new falses before f from
  Blocked-due falses before from due index clause pair named here hot =
      elim (due index clause pair named (subst (λ (l : List Pair). slice_get l index ≡ Some pair) written.pairs here) hot) [
        | inl guards ↦ inl guards
        | inr both ↦ inr (both.0, relisted f from index both.1)
      ]
