-- A pair of watchers more.
use Rattle.std.proofs.Common.{◌≡◌, ◌≢◌, ◌⊎◌, ◌∙◌, ℕ, List, [], ◌∷◌, ◌++◌, length, arith, refl, sym, ap, subst, inl, inr, Vec}
use Rattle.std.specs.declared.alloc.Global.{Global}
use Rattle.std.specs.List.{Contains}
use Rattle.std.proofs.lemmas.List.Elements.{Contains-push_cases}
use Rattle.sat_check.specs.declared.clause.Lit.{Lit}
use Rattle.search_state.specs.declared.watches.Watcher.{Watcher}
use Rattle.search_state.specs.declared.watches.Pair.{Pair}
use Rattle.search_state.specs.declared.watches.Watches.{Watches}
use Rattle.search_state.specs.Watches.{watchers_of, IsWritten, IsListed, ListsMore, WatchesMore}
use Rattle.search_base.specs.Lists.{slice_get-push}
use Rattle.search_base.specs.Settling.{cases_lit}
use Rattle.search_state.proofs.Looking.{IsListed-push}

module _ (old new : Watches) (lit : Lit) (watcher : Watcher) (written : IsWritten old new lit (watchers_of old lit ++ watcher ∷ [])) where
  push-kept : (l : Lit) (n : ℕ) → IsListed (watchers_of old l) 0 n → IsListed (watchers_of new l) 0 n
  push-kept l n listed =
      elim (cases_lit l lit) [
        | inl same ↦
            subst (λ (m : Lit). IsListed (watchers_of new m) 0 n) (sym same)
            (subst (λ (m : List Watcher). IsListed m 0 n) (sym written.at) (IsListed-push (watchers_of old lit) watcher n (subst (λ (m : Lit). IsListed (watchers_of old m) 0 n) same listed)))
        | inr differs ↦ subst (λ (m : List Watcher). IsListed m 0 n) (sym (written.others l differs)) listed
      ]

  push-own : IsListed (watchers_of new lit) 0 watcher.index
  push-own =
      subst (λ (m : List Watcher). IsListed m 0 watcher.index) (sym written.at)
      (record { place = length (watchers_of old lit); watcher = watcher; late = omega arith; at = slice_get-push (watchers_of old lit) watcher; same = refl })

  push-among : (l : Lit) (x : Watcher) → Contains (watchers_of new l) x → Contains (watchers_of old l) x ⊎ (watcher ≡ x)
  push-among l x h =
      elim (cases_lit l lit) [
        | inl same ↦
            elim (Contains-push_cases (watchers_of old lit) watcher x (subst (λ (m : List Watcher). Contains m x) (ap (watchers_of new) same ∙ written.at) h))
            [ inl before ↦ inl (subst (λ (m : Lit). Contains (watchers_of old m) x) (sym same) before) | inr e ↦ inr e ]
        | inr differs ↦ inl (subst (λ (m : List Watcher). Contains m x) (written.others l differs) h)
      ]

pub ListsMore-both :
    (old mid new : Watches) (index : ℕ) (pair : Pair) → pair.first ≢ pair.second
    → IsWritten old mid pair.first (watchers_of old pair.first ++ (record { index = index; blocker = pair.second }) ∷ [])
    → IsWritten mid new pair.second (watchers_of mid pair.second ++ (record { index = index; blocker = pair.first }) ∷ []) → ListsMore old new index pair
ListsMore-both old mid new index pair apart first second =
    let a : Watcher = record { index = index; blocker = pair.second } in
    let b : Watcher = record { index = index; blocker = pair.first } in
    record {
      kept = λ lit n listed. push-kept mid new pair.second b second lit n (push-kept old mid pair.first a first lit n listed);
      first_listed = λ _. push-kept mid new pair.second b second pair.first index (push-own old mid pair.first a first);
      second_listed = λ _. push-own mid new pair.second b second;
      among = λ lit x h.
          elim (push-among mid new pair.second b second lit x h) [
            | inl before ↦
                elim (push-among old mid pair.first a first lit x before)
                [ inl sooner ↦ inl sooner | inr e ↦ inr (apart, ap (λ (w : Watcher). w.index) (sym e), inr (ap (λ (w : Watcher). w.blocker) (sym e))) ]
            | inr e ↦ inr (apart, ap (λ (w : Watcher). w.index) (sym e), inl (ap (λ (w : Watcher). w.blocker) (sym e)))
          ];
      positive_len = second.positive_len ∙ first.positive_len;
      negative_len = second.negative_len ∙ first.negative_len;
    }
