-- What a look at a watcher keeps.
use Rattle.std.proofs.Common.{◌≡◌, ◌⊎◌, ◌∙◌, ◌≢◌, ℕ, ◌+◌, ◌-◌, ◌<◌, ◌≤◌, true, false, List, [], ◌∷◌, ◌++◌, Some, None, length, map, set, get_or, arith, refl, sym, ap, subst, inl, inr}
use Rattle.std.specs.Option.{IsSome}
use Rattle.std.specs.List.{Contains, slice_get, swap_remove}
use Rattle.std.proofs.lemmas.Bool.{cases_eq}
use Rattle.std.proofs.lemmas.Option.{same_Some, slice_get_within}
use Rattle.std.proofs.lemmas.List.{length-set, length-take-le, map-append}
use Rattle.std.proofs.lemmas.List.Elements.{All-nil, All-cons, Contains-append_left, Contains-push_cases}
use Rattle.sat_check.specs.declared.clause.Lit.{Lit}
use Rattle.sat_check.specs.declared.clause.Clause.{Clause}
use Rattle.sat_check.specs.Clauses.{opposite_of}
use Rattle.sat_check.specs.Literals.{Contains-index, slice_get-set_same, slice_get-set_other}
use Rattle.search_base.specs.declared.trail.Slot.{Slot}
use Rattle.search_base.specs.declared.trail.Step.{Step}
use Rattle.search_state.specs.declared.placed.PlacedTrail.{PlacedTrail}
use Rattle.search_state.specs.declared.watches.Watcher.{Watcher}
use Rattle.search_state.specs.declared.watches.Pair.{Pair}
use Rattle.search_state.specs.declared.watches.Watches.{Watches}
use Rattle.search_base.specs.Trails.{falses_of, Keeps, IsStep}
use Rattle.search_base.specs.Propagation.{Extends}
use Rattle.search_state.specs.Watches.{IsLocated, IsTrail, watchers_of, IsWritten, IsListed, IsPairOf, IsWatcher, AreWatched, HasTrue, IsFree, Guards, AllGuarded, AllDue, Within, flags_of, Advances}
use Rattle.search_state.specs.Looks.{OtherIs, IsLookedAt, IsRewatched}
use Rattle.search_base.specs.Lists.{slice_get-append_left, slice_get-push, slice_get-push_cases}
use Rattle.search_base.specs.Steps.{Keeps-push}
use Rattle.search_base.specs.Settling.{cases_lit, Extends-none, Extends-both}
use Rattle.search_base.specs.Refuting.{earlier_apart}
use Rattle.search_state.proofs.Watching.{swap_remove-keeps, swap_remove-among}
use Rattle.search_state.specs.Flags.{flags-set}
use Rattle.search_state.specs.Growing.{AreWatched-len, Extends-within, Guards-grow}

pub Guards-fewer : (falses before fewer : List Lit) (pair : Pair) (lits : List Lit) → Within fewer before → Guards falses before pair lits → Guards falses fewer pair lits
Guards-fewer falses before fewer pair lits within guards =
    elim guards [
      | inl it ↦ inl it
      | inr free ↦ inr (record { first = λ h. free.first (within pair.first h); second = λ h. free.second (within pair.second h); apart = free.apart })
    ]

AllDue-grow : (known : List Clause) (watches : Watches) (falses many before : List Lit) (f : Lit) (from : ℕ) → Within falses many → AllDue known watches falses before f from → AllDue known watches many before f from
AllDue-grow known watches falses many before f from within due index clause pair named paired hot =
    elim (due index clause pair named paired hot) [
      | inl guards ↦ inl (Guards-grow falses many (before ++ f ∷ []) pair clause.lits within guards)
      | inr it ↦ inr (Guards-grow falses many before pair clause.lits within it.0, it.1)
    ]

-- the clause at the place is guarded, so that the next is due
AllDue-next :
    (known : List Clause) (watches : Watches) (falses before : List Lit) (f : Lit) (place : ℕ) (watcher : Watcher) → slice_get (watchers_of watches f) place ≡ Some watcher
    → ((clause : Clause) (pair : Pair) → slice_get known watcher.index ≡ Some clause → slice_get watches.pairs.items watcher.index ≡ Some pair → Guards falses (before ++ f ∷ []) pair clause.lits)
    → AllDue known watches falses before f place → AllDue known watches falses before f (place + 1)
AllDue-next known watches falses before f place watcher at guarded due index clause pair named paired hot =
    elim (due index clause pair named paired hot) [
      | inl guards ↦ inl guards
      | inr it ↦
          elim (cases_eq index watcher.index) [
            | inl same ↦
                inl (guarded clause pair (subst (λ (n : ℕ). slice_get known n ≡ Some clause) same named) (subst (λ (n : ℕ). slice_get watches.pairs.items n ≡ Some pair) same paired))
            | inr differs ↦
                let listed = it.1 in
                let apart : listed.place ≡ place → ⊥ =
                λ e.
                let is : listed.watcher ≡ watcher = same_Some listed.watcher watcher (sym listed.at ∙ subst (λ (n : ℕ). slice_get (watchers_of watches f) n ≡ Some watcher) (sym e) at) in
                differs (sym listed.same ∙ ap (λ (w : Watcher). w.index) is) in
                inr (it.0, record { place = listed.place; watcher = listed.watcher; late = omega (arith, listed.late, apart); at = listed.at; same = listed.same })
          ]
    ]

pub Advances-none : (known : List Clause) (placed : PlacedTrail) (watches : Watches) → IsTrail known placed → AreWatched (length placed.trail.slots.items) known watches → Advances known placed placed watches watches
Advances-none known placed watches trail watched =
    record { len = refl; trail = trail; extends = Extends-none placed.trail.steps.items; watched = watched; flags = refl; cuts = λ falses within all. all }

pub Advances-both : (known : List Clause) (a b c : PlacedTrail) (x y z : Watches) → Advances known a b x y → Advances known b c y z → Advances known a c x z
Advances-both known a b c x y z first then =
    record {
      len = then.len ∙ first.len;
      trail = then.trail;
      extends = Extends-both a.trail.steps.items b.trail.steps.items c.trail.steps.items first.extends then.extends;
      watched = then.watched;
      flags = then.flags ∙ first.flags;
      cuts = λ falses within all.
          then.cuts falses (λ lit h. Extends-within a.trail.steps.items b.trail.steps.items first.extends lit (within lit h)) (first.cuts falses within all);
    }

-- ---- a clause that is true

pub Look-true :
    (known : List Clause) (watches : Watches) (falses before : List Lit) (f : Lit) (place : ℕ) (watcher : Watcher) (clause : Clause)
    → slice_get (watchers_of watches f) place ≡ Some watcher → slice_get known watcher.index ≡ Some clause → HasTrue falses clause.lits
    → AllDue known watches falses before f place → AllDue known watches falses before f (place + 1)
Look-true known watches falses before f place watcher clause at named is_true due =
    AllDue-next known watches falses before f place watcher at
    (λ other pair named' paired. inl (subst (λ (c : Clause). HasTrue falses c.lits) (same_Some clause other (sym named ∙ named')) is_true)) due

-- ---- a watcher that leaves

IsListed-removed :
    (list : List Watcher) (place from index : ℕ) (last watcher : Watcher) → slice_get list place ≡ Some watcher → (watcher.index ≡ index → ⊥) → from ≤ place
    → IsListed list from index → IsListed (swap_remove list place last) from index
IsListed-removed list place from index last watcher at differs low listed =
    let apart : listed.place ≡ place → ⊥ =
    λ e.
    let is : watcher ≡ listed.watcher = same_Some watcher listed.watcher (sym at ∙ subst (λ (n : ℕ). slice_get list n ≡ Some listed.watcher) e listed.at) in
    differs (ap (λ (w : Watcher). w.index) is ∙ listed.same) in
    let kept = swap_remove-keeps list place last listed.place listed.watcher (slice_get_within list place watcher at) apart listed.at in
    record { place = kept.0; watcher = listed.watcher; late = kept.2 from low listed.late; at = kept.1; same = listed.same }

pub IsListed-push : (list : List Watcher) (watcher : Watcher) (index : ℕ) → IsListed list 0 index → IsListed (list ++ watcher ∷ []) 0 index
IsListed-push list watcher index listed =
    record { place = listed.place; watcher = listed.watcher; late = omega arith; at = slice_get-append_left list (watcher ∷ []) listed.place listed.watcher listed.at; same = listed.same }

-- a clause that doesn't watch the literal leaves its list
pub Leaves-watched :
    (variables : ℕ) (known : List Clause) (old new : Watches) (f : Lit) (place : ℕ) (watcher last : Watcher) (pair : Pair)
    → AreWatched variables known old → slice_get (watchers_of old f) place ≡ Some watcher → slice_get old.pairs.items watcher.index ≡ Some pair → OtherIs pair f None
    → IsWritten old new f (swap_remove (watchers_of old f) place last) → AreWatched variables known new
Leaves-watched variables known old new f place watcher last pair watched at paired other written =
    let relisted : (it : Lit) (index : ℕ) → (it ≡ f → watcher.index ≡ index → ⊥) → IsListed (watchers_of old it) 0 index → IsListed (watchers_of new it) 0 index =
    λ it index differs listed.
    elim (cases_lit it f) [
      | inl same ↦
          let there : IsListed (watchers_of old f) 0 index = subst (λ (l : Lit). IsListed (watchers_of old l) 0 index) same listed in
          let now = IsListed-removed (watchers_of old f) place 0 index last watcher at (differs same) (omega arith) there in
          subst (λ (l : Lit). IsListed (watchers_of new l) 0 index) (sym same) (subst (λ (l : List Watcher). IsListed l 0 index) (sym written.at) now)
      | inr apart ↦ subst (λ (l : List Watcher). IsListed l 0 index) (sym (written.others it apart)) listed
    ] in
    record {
      positive_len = written.positive_len ∙ watched.positive_len;
      negative_len = written.negative_len ∙ watched.negative_len;
      pairs_len = ap (λ (l : List Pair). length l) written.pairs ∙ watched.pairs_len;
      pairs = λ index clause it named here apart.
          let there : slice_get old.pairs.items index ≡ Some it = subst (λ (l : List Pair). slice_get l index ≡ Some it) written.pairs here in
          let is = watched.pairs index clause it named there apart in
          let same_pair : watcher.index ≡ index → pair ≡ it = λ e. same_Some pair it (sym paired ∙ subst (λ (n : ℕ). slice_get old.pairs.items n ≡ Some it) (sym e) there) in
          record {
            first_stands = is.first_stands;
            second_stands = is.second_stands;
            first_listed = relisted it.first index
                (λ e same.
                let p : pair ≡ it = same_pair same in
                elim other [ inl one ↦ apart (subst (λ (q : Pair). q.first ≡ q.second) p one) | inr none ↦ none.0 (ap (λ (q : Pair). q.first) p ∙ e) ])
                is.first_listed;
            second_listed = relisted it.second index
                (λ e same.
                let p : pair ≡ it = same_pair same in
                elim other [ inl one ↦ apart (subst (λ (q : Pair). q.first ≡ q.second) p one) | inr none ↦ none.1 (ap (λ (q : Pair). q.second) p ∙ e) ])
                is.second_listed;
          };
      watchers = λ lit it h.
          elim (cases_lit lit f) [
            | inl same ↦
                let (k, there) = Contains-index (watchers_of new lit) it h in
                let there' : slice_get (swap_remove (watchers_of old f) place last) k ≡ Some it = subst (λ (l : List Watcher). slice_get l k ≡ Some it) (ap (watchers_of new) same ∙ written.at) there in
                watched.watchers f it (swap_remove-among (watchers_of old f) place last k it (slice_get_within (watchers_of old f) place watcher at) there')
            | inr apart ↦ watched.watchers lit it (subst (λ (l : List Watcher). Contains l it) (written.others lit apart) h)
          ];
    }

pub Leaves-due :
    (known : List Clause) (old new : Watches) (falses before : List Lit) (f : Lit) (place : ℕ) (watcher last : Watcher) (pair : Pair)
    → slice_get (watchers_of old f) place ≡ Some watcher → slice_get old.pairs.items watcher.index ≡ Some pair → OtherIs pair f None
    → IsWritten old new f (swap_remove (watchers_of old f) place last) → AllDue known old falses before f place → AllDue known new falses before f place
Leaves-due known old new falses before f place watcher last pair at paired other written due index clause it named here hot =
    let there : slice_get old.pairs.items index ≡ Some it = subst (λ (l : List Pair). slice_get l index ≡ Some it) written.pairs here in
    elim (due index clause it named there hot) [
      | inl guards ↦ inl guards
      | inr both ↦
          elim (cases_eq watcher.index index) [
            | inl same ↦
                let p : pair ≡ it = same_Some pair it (sym paired ∙ subst (λ (n : ℕ). slice_get old.pairs.items n ≡ Some it) (sym same) there) in
                elim both.0 [
                  | inl is_true ↦ inl (inl is_true)
                  | inr free ↦
                      elim other [
                        | inl one ↦ absurd (free.apart (subst (λ (q : Pair). q.first ≡ q.second) p one))
                        | inr none ↦
                            inl
                            (inr
                            (record {
                              first = λ h.
                                  elim (Contains-push_cases before f it.first h) [ inl sooner ↦ free.first sooner | inr e ↦ none.0 (ap (λ (q : Pair). q.first) p ∙ sym e) ];
                              second = λ h.
                                  elim (Contains-push_cases before f it.second h) [ inl sooner ↦ free.second sooner | inr e ↦ none.1 (ap (λ (q : Pair). q.second) p ∙ sym e) ];
                              apart = free.apart;
                            }))
                      ]
                ]
            | inr differs ↦
                inr
                (both.0, subst (λ (l : List Watcher). IsListed l place index) (sym written.at) (IsListed-removed (watchers_of old f) place place index last watcher at differs (omega arith) both.1))
          ]
    ]

-- ---- another literal that is watched

-- the two literals of a pair
other-before : (pair : Pair) (f other : Lit) (falses : List Lit) → OtherIs pair f (Some other) → IsFree falses pair → Contains falses other → ⊥
other-before pair f other falses is free h =
    elim is.1 [ inl it ↦ free.second (subst (Contains falses) (sym it.1) h) | inr it ↦ free.first (subst (Contains falses) (sym it.1) h) ]

pub other-apart : (pair : Pair) (f other : Lit) → OtherIs pair f (Some other) → other ≡ f → ⊥
other-apart pair f other is e =
    elim is.1 [ inl it ↦ is.0 (it.0 ∙ sym e ∙ sym it.1) | inr it ↦ is.0 (it.1 ∙ e ∙ sym it.0) ]

module _ (variables : ℕ) (known : List Clause) (old new : Watches) (falses : List Lit) (f : Lit) (place index : ℕ) (other lit : Lit) (clause : Clause) (watched : AreWatched variables known old)
    (looked : IsLookedAt old f place index other) (named : slice_get known index ≡ Some clause) (it : IsRewatched old new f place index other lit)
    (stands : Contains clause.lits lit) (apart : lit ≢ other) (not_false : Contains falses lit → ⊥) (is_false : Contains falses f) where
  pub looked_pair : IsPairOf old index clause.lits looked.pair
  looked_pair = watched.pairs index clause looked.pair named looked.paired looked.is.0

  pub other_stands : Contains clause.lits other
  other_stands =
      elim looked.is.1 [
        | inl e ↦ subst (Contains clause.lits) e.1 looked_pair.second_stands
        | inr e ↦ subst (Contains clause.lits) e.1 looked_pair.first_stands
      ]

  other_listed : IsListed (watchers_of old other) 0 index
  other_listed =
      elim looked.is.1 [
        | inl e ↦ subst (λ (l : Lit). IsListed (watchers_of old l) 0 index) e.1 looked_pair.second_listed
        | inr e ↦ subst (λ (l : Lit). IsListed (watchers_of old l) 0 index) e.1 looked_pair.first_listed
      ]

  lit_f : lit ≡ f → ⊥
  lit_f e = not_false (subst (Contains falses) (sym e) is_false)

  other_f : other ≡ f → ⊥
  other_f e = other-apart looked.pair f other looked.is e

  at_index : slice_get (watchers_of old f) place ≡ Some looked.watcher
  at_index = looked.at

  -- what a number's pair is now
  pair_cases : (k : ℕ) (pair : Pair) → slice_get new.pairs.items k ≡ Some pair → ((k ≡ index) × (pair ≡ record { first = other; second = lit; aside = it.pair.aside })) ⊎ ((k ≡ index → ⊥) × (slice_get old.pairs.items k ≡ Some pair))
  pair_cases k pair at =
      let now : Pair = record { first = other; second = lit; aside = it.pair.aside } in
      let at' : slice_get (set old.pairs.items index now) k ≡ Some pair = subst (λ (l : List Pair). slice_get l k ≡ Some pair) it.pairs at in
      let within : index < length old.pairs.items = slice_get_within old.pairs.items index looked.pair looked.paired in
      elim (cases_eq k index) [
        | inl same ↦ inl (same, same_Some pair now (sym (subst (λ (n : ℕ). slice_get (set old.pairs.items index now) n ≡ Some pair) same at') ∙ slice_get-set_same old.pairs.items index now within))
        | inr differs ↦ inr (differs, sym (slice_get-set_other old.pairs.items index k now differs) ∙ at')
      ]

  -- it has the flag of the pair that was looked at
  looked_hot : (pair : Pair) → pair ≡ record { first = other; second = lit; aside = it.pair.aside } → pair.aside ≡ false → looked.pair.aside ≡ false
  looked_hot pair now hot = ap (λ (p : Pair). p.aside) (same_Some looked.pair it.pair (sym looked.paired ∙ it.paired)) ∙ sym (ap (λ (p : Pair). p.aside) now) ∙ hot

  pub Rewatched-flags : flags_of new.pairs.items ≡ flags_of old.pairs.items
  Rewatched-flags =
      let now : Pair = record { first = other; second = lit; aside = it.pair.aside } in
      ap (λ (l : List Pair). flags_of l) it.pairs ∙ flags-set old.pairs.items index it.pair now it.paired refl

  relisted : (l : Lit) (k : ℕ) → (k ≡ index → ⊥) → IsListed (watchers_of old l) 0 k → IsListed (watchers_of new l) 0 k
  relisted l k differs listed =
      elim (cases_lit l f) [
        | inl same ↦
            let there : IsListed (watchers_of old f) 0 k = subst (λ (m : Lit). IsListed (watchers_of old m) 0 k) same listed in
            let now = IsListed-removed (watchers_of old f) place 0 k it.last looked.watcher looked.at (λ e. differs (sym e ∙ looked.same)) (omega arith) there in
            subst (λ (m : Lit). IsListed (watchers_of new m) 0 k) (sym same) (subst (λ (m : List Watcher). IsListed m 0 k) (sym it.fewer) now)
        | inr not_f ↦
            elim (cases_lit l lit) [
              | inl same ↦
                  let there : IsListed (watchers_of old lit) 0 k = subst (λ (m : Lit). IsListed (watchers_of old m) 0 k) same listed in
                  subst (λ (m : Lit). IsListed (watchers_of new m) 0 k) (sym same)
                  (subst (λ (m : List Watcher). IsListed m 0 k) (sym it.more) (IsListed-push (watchers_of old lit) (record { index = index; blocker = other }) k there))
              | inr not_lit ↦ subst (λ (m : List Watcher). IsListed m 0 k) (sym (it.others l not_lit not_f)) listed
            ]
      ]

  pub Rewatched-watched : AreWatched variables known new
  Rewatched-watched =
      record {
        positive_len = it.positive_len ∙ watched.positive_len;
        negative_len = it.negative_len ∙ watched.negative_len;
        pairs_len = ap (λ (l : List Pair). length l) it.pairs ∙ length-set old.pairs.items index (record { first = other; second = lit; aside = it.pair.aside }) ∙ watched.pairs_len;
        pairs = λ k c pair named' at apart'.
            elim (pair_cases k pair at) [
              | inl now ↦
                  let same : c ≡ clause = same_Some c clause (sym (subst (λ (n : ℕ). slice_get known n ≡ Some c) now.0 named') ∙ named) in
                  let own : IsPairOf new index clause.lits (record { first = other; second = lit; aside = it.pair.aside }) =
                  record {
                    first_stands = other_stands;
                    second_stands = stands;
                    first_listed = subst (λ (m : List Watcher). IsListed m 0 index) (sym (it.others other (λ e. apart (sym e)) other_f)) other_listed;
                    second_listed =
                        subst (λ (m : List Watcher). IsListed m 0 index) (sym it.more)
                        (record { place = length (watchers_of old lit); watcher = record { index = index; blocker = other }; late = omega arith; at = slice_get-push (watchers_of old lit) (record { index = index; blocker = other }); same = refl });
                  } in
                  subst (λ (n : ℕ). IsPairOf new n c.lits pair) (sym now.0) (subst (λ (d : Clause). IsPairOf new index d.lits pair) (sym same) (subst (λ (p : Pair). IsPairOf new index clause.lits p) (sym now.1) own))
              | inr was ↦
                  let is = watched.pairs k c pair named' was.1 apart' in
                  record {
                    first_stands = is.first_stands;
                    second_stands = is.second_stands;
                    first_listed = relisted pair.first k was.0 is.first_listed;
                    second_listed = relisted pair.second k was.0 is.second_listed;
                  }
            ];
        watchers = λ l w h.
            elim (cases_lit l f) [
              | inl same ↦
                  let (k, there) = Contains-index (watchers_of new l) w h in
                  let there' : slice_get (swap_remove (watchers_of old f) place it.last) k ≡ Some w = subst (λ (m : List Watcher). slice_get m k ≡ Some w) (ap (watchers_of new) same ∙ it.fewer) there in
                  watched.watchers f w (swap_remove-among (watchers_of old f) place it.last k w (slice_get_within (watchers_of old f) place looked.watcher looked.at) there')
              | inr not_f ↦
                  elim (cases_lit l lit) [
                    | inl same ↦
                        elim (Contains-push_cases (watchers_of old lit) (record { index = index; blocker = other }) w (subst (λ (m : List Watcher). Contains m w) (ap (watchers_of new) same ∙ it.more) h)) [
                          | inl before ↦ watched.watchers lit w before
                          | inr e ↦ subst (IsWatcher known) e (record { clause = clause; named = named; stands = other_stands })
                        ]
                    | inr not_lit ↦ watched.watchers l w (subst (λ (m : List Watcher). Contains m w) (it.others l not_lit not_f) h)
                  ]
            ];
      }

  pub Rewatched-cuts : (cut : List Lit) → Within cut falses → AllGuarded known old.pairs.items cut cut → AllGuarded known new.pairs.items cut cut
  Rewatched-cuts cut within all k c pair named' at hot =
      elim (pair_cases k pair at) [
        | inl now ↦
            let here : slice_get known index ≡ Some c = subst (λ (n : ℕ). slice_get known n ≡ Some c) now.0 named' in
            elim (all index c looked.pair here looked.paired (looked_hot pair now.1 hot)) [
              | inl is_true ↦ inl is_true
              | inr free ↦
                  let own : IsFree cut (record { first = other; second = lit; aside = it.pair.aside }) =
                  record { first = other-before looked.pair f other cut looked.is free; second = λ h. not_false (within lit h); apart = λ e. apart (sym e) } in
                  inr (subst (IsFree cut) (sym now.1) own)
            ]
        | inr was ↦ all k c pair named' was.1 hot
      ]

  pub Rewatched-due : (before : List Lit) → Within before falses → AllDue known old falses before f place → AllDue known new falses before f place
  Rewatched-due before within due k c pair named' at hot =
      elim (pair_cases k pair at) [
        | inl now ↦
            let here : slice_get known index ≡ Some c = subst (λ (n : ℕ). slice_get known n ≡ Some c) now.0 named' in
            let guards : Guards falses before looked.pair c.lits =
            elim (due index c looked.pair here looked.paired (looked_hot pair now.1 hot)) [
              | inl late ↦ Guards-fewer falses (before ++ f ∷ []) before looked.pair c.lits (λ l h. Contains-append_left before (f ∷ []) l h) late
              | inr both ↦ both.0
            ] in
            elim guards [
              | inl is_true ↦ inl (inl is_true)
              | inr free ↦
                  let own : IsFree (before ++ f ∷ []) (record { first = other; second = lit; aside = it.pair.aside }) =
                  record {
                    first = λ h. elim (Contains-push_cases before f other h) [ inl sooner ↦ other-before looked.pair f other before looked.is free sooner | inr e ↦ other_f (sym e) ];
                    second = λ h. elim (Contains-push_cases before f lit h) [ inl sooner ↦ not_false (within lit sooner) | inr e ↦ lit_f (sym e) ];
                    apart = λ e. apart (sym e);
                  } in
                  inl (inr (subst (IsFree (before ++ f ∷ [])) (sym now.1) own))
            ]
        | inr was ↦
            elim (due k c pair named' was.1 hot) [
              | inl guards ↦ inl guards
              | inr both ↦
                  inr (
                    both.0,
                    subst (λ (m : List Watcher). IsListed m place k) (sym it.fewer)
                        (IsListed-removed (watchers_of old f) place place k it.last looked.watcher looked.at (λ e. was.0 (sym e ∙ looked.same)) (omega arith) both.1),
                  )
            ]
      ]

pub length-swap_remove : {X : Type 0} (xs : List X) (place : ℕ) (d : X) → place < length xs → length (swap_remove xs place d) + 1 ≡ length xs
length-swap_remove xs place d within =
    let n = length xs - 1 in
    let last = get_or xs n d in
    omega (arith, length-take-le n (set xs place last) (omega (arith, length-set xs place last)), length-set xs place last)

-- ---- a step more

pub Advances-push :
    (known : List Clause) (old new : PlacedTrail) (watches : Watches) (step : Step) → IsTrail known new → AreWatched (length old.trail.slots.items) known watches → IsSome step.reason
    → length new.trail.slots.items ≡ length old.trail.slots.items → new.trail.steps.items ≡ old.trail.steps.items ++ step ∷ [] → Advances known old new watches watches
Advances-push known old new watches step trail watched reason len steps =
    record {
      len = len;
      trail = trail;
      extends = (step ∷ [], steps, All-cons (λ (s : Step). IsSome s.reason) step [] reason (All-nil (λ (s : Step). IsSome s.reason)));
      watched = AreWatched-len (length old.trail.slots.items) (length new.trail.slots.items) known watches (sym len) watched;
      flags = refl;
      cuts = λ falses within all. all;
    }

pub Look-assigned :
    (known : List Clause) (old new : PlacedTrail) (watches : Watches) (before : List Lit) (f other : Lit) (place : ℕ) (watcher : Watcher) (clause : Clause)
    → Advances known old new watches watches → slice_get (watchers_of watches f) place ≡ Some watcher → slice_get known watcher.index ≡ Some clause
    → Contains clause.lits other → Contains (falses_of new.trail.steps.items) (opposite_of other)
    → AllDue known watches (falses_of old.trail.steps.items) before f place → AllDue known watches (falses_of new.trail.steps.items) before f (place + 1)
Look-assigned known old new watches before f other place watcher clause advances at named stands is_true due =
    let falses = falses_of new.trail.steps.items in
    let grown = AllDue-grow known watches (falses_of old.trail.steps.items) falses before f place (Extends-within old.trail.steps.items new.trail.steps.items advances.extends) due in
    Look-true known watches falses before f place watcher clause at named (other, stands, is_true) grown

pub Advances-rewatched :
    (known : List Clause) (placed : PlacedTrail) (old new : Watches) → IsTrail known placed → AreWatched (length placed.trail.slots.items) known new
    → ((cut : List Lit) → Within cut (falses_of placed.trail.steps.items) → AllGuarded known old.pairs.items cut cut → AllGuarded known new.pairs.items cut cut)
    → flags_of new.pairs.items ≡ flags_of old.pairs.items → Advances known placed placed old new
Advances-rewatched known placed old new trail watched cuts flags =
    record { len = refl; trail = trail; extends = Extends-none placed.trail.steps.items; watched = watched; flags = flags; cuts = cuts }

-- ---- a list from its start to its end

pub AllDue-start :
    (variables : ℕ) (known : List Clause) (watches : Watches) (falses before : List Lit) (f : Lit) → AreWatched variables known watches → AllGuarded known watches.pairs.items falses before
    → AllDue known watches falses before f 0
AllDue-start variables known watches falses before f watched guarded index clause pair named paired hot =
    let guards = guarded index clause pair named paired hot in
    elim guards [
      | inl is_true ↦ inl (inl is_true)
      | inr free ↦
          let is = watched.pairs index clause pair named paired free.apart in
          elim (cases_lit pair.first f) [
            | inl same ↦ inr (inr free, subst (λ (l : Lit). IsListed (watchers_of watches l) 0 index) same is.first_listed)
            | inr not_first ↦
                elim (cases_lit pair.second f) [
                  | inl same ↦ inr (inr free, subst (λ (l : Lit). IsListed (watchers_of watches l) 0 index) same is.second_listed)
                  | inr not_second ↦
                      inl
                      (inr
                      (record {
                        first = λ h. elim (Contains-push_cases before f pair.first h) [ inl sooner ↦ free.first sooner | inr e ↦ not_first (sym e) ];
                        second = λ h. elim (Contains-push_cases before f pair.second h) [ inl sooner ↦ free.second sooner | inr e ↦ not_second (sym e) ];
                        apart = free.apart;
                      }))
                ]
          ]
    ]

pub AllDue-end :
    (known : List Clause) (watches : Watches) (falses before : List Lit) (f : Lit) (place : ℕ) → length (watchers_of watches f) ≤ place → AllDue known watches falses before f place
    → AllGuarded known watches.pairs.items falses (before ++ f ∷ [])
AllDue-end known watches falses before f place all due index clause pair named paired hot =
    elim (due index clause pair named paired hot) [
      | inl guards ↦ guards
      | inr both ↦ let listed = both.1 in absurd (omega (arith, listed.late, slice_get_within (watchers_of watches f) listed.place listed.watcher listed.at))
    ]
