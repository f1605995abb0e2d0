-- Which clauses were set aside, and what keeps that.
use Rattle.std.proofs.Common.{◌≡◌, ◌∙◌, ℕ, ◌≤◌, Bool, false, List, [], ◌∷◌, ◌++◌, Some, length, set, get_or, arith, sym, ap, subst, inl, inr}
use Rattle.std.proofs.Math.Seq.{map-set_same}
use Rattle.std.specs.List.{slice_get}
use Rattle.std.proofs.lemmas.Bool.{false≢true, cases_eq}
use Rattle.std.proofs.lemmas.Option.{same_Some, slice_get-get_or, get_or_from_slice_get}
use Rattle.std.proofs.lemmas.List.{length-map, map_push}
use Rattle.std.proofs.lemmas.List.Elements.{All-contains, All-nil, All-push}
use Rattle.sat_check.specs.declared.clause.Clause.{Clause}
use Rattle.sat_check.specs.Literals.{Contains-at, slice_get-set_other}
use Rattle.search_state.specs.declared.watches.Pair.{Pair}
use Rattle.search_state.specs.Watches.{flags_of}
use Rattle.search_state.specs.Beginning.{NoneIsAside}
use Rattle.search_state.specs.States.{IsFirm}
use Rattle.search_base.specs.Lists.{slice_get-map, map_slice_get, slice_get-push_cases}

-- ---- lists of flags

-- a pair with the same flag in place of another
pub flags-set :
    (pairs : List Pair) (index : ℕ) (old now : Pair) → slice_get pairs index ≡ Some old → now.aside ≡ old.aside → flags_of (set pairs index now) ≡ flags_of pairs
flags-set pairs index old now at same =
    map-set_same (λ (p : Pair). p.aside) pairs index now old (same ∙ ap (λ (p : Pair). p.aside) (sym (get_or_from_slice_get pairs index old old at)))

pub flags-push : (pairs : List Pair) (pair : Pair) → flags_of (pairs ++ pair ∷ []) ≡ flags_of pairs ++ pair.aside ∷ []
flags-push pairs pair = map_push (λ (p : Pair). p.aside) pairs pair

pub flags-length : (pairs pairs' : List Pair) → flags_of pairs' ≡ flags_of pairs → length pairs' ≡ length pairs
flags-length pairs pairs' same =
    let f : Pair → Bool = λ p. p.aside in
    sym (length-map pairs' f) ∙ ap (λ (l : List Bool). length l) same ∙ length-map pairs f

-- where the flags are the same, each pair has one at its place with the same flag
pub flags-at :
    (pairs pairs' : List Pair) → flags_of pairs' ≡ flags_of pairs → (index : ℕ) (pair' : Pair) → slice_get pairs' index ≡ Some pair'
    → (pair : Pair) × (slice_get pairs index ≡ Some pair) × (pair.aside ≡ pair'.aside)
flags-at pairs pairs' same index pair' at =
    let f : Pair → Bool = λ p. p.aside in
    let flag : slice_get (flags_of pairs) index ≡ Some (pair'.aside) = subst (λ (l : List Bool). slice_get l index ≡ Some (pair'.aside)) same (slice_get-map f pairs' index pair' at) in
    map_slice_get f pairs index pair'.aside flag

-- also where both pairs are known
pub flags-same :
    (pairs pairs' : List Pair) → flags_of pairs' ≡ flags_of pairs → (index : ℕ) (pair pair' : Pair) → slice_get pairs index ≡ Some pair → slice_get pairs' index ≡ Some pair' → pair'.aside ≡ pair.aside
flags-same pairs pairs' same index pair pair' at at' =
    let it = flags-at pairs pairs' same index pair' at' in
    sym it.2 ∙ ap (λ (p : Pair). p.aside) (same_Some it.0 pair (sym it.1 ∙ at))

-- ---- no clause was set aside

pub NoneIsAside-at : (pairs : List Pair) (index : ℕ) (pair : Pair) → NoneIsAside pairs → slice_get pairs index ≡ Some pair → pair.aside ≡ false
NoneIsAside-at pairs index pair none at = All-contains (λ (p : Pair). p.aside ≡ false) pairs pair none (Contains-at pairs index pair at)

pub NoneIsAside-flags : (pairs pairs' : List Pair) → flags_of pairs' ≡ flags_of pairs → NoneIsAside pairs → NoneIsAside pairs'
NoneIsAside-flags pairs pairs' same none k d within =
    let it = flags-at pairs pairs' same k (get_or pairs' k d) (slice_get-get_or pairs' k d within) in
    sym it.2 ∙ NoneIsAside-at pairs k it.0 none it.1

pub NoneIsAside-nil : NoneIsAside []
NoneIsAside-nil = All-nil (λ (p : Pair). p.aside ≡ false)

pub NoneIsAside-push : (pairs : List Pair) (pair : Pair) → pair.aside ≡ false → NoneIsAside pairs → NoneIsAside (pairs ++ pair ∷ [])
NoneIsAside-push pairs pair is none = All-push (λ (p : Pair). p.aside ≡ false) pairs pair none is

-- ---- none of the clauses of the problem was set aside

pub IsFirm-flags : (clauses : List Clause) (pairs pairs' : List Pair) → flags_of pairs' ≡ flags_of pairs → IsFirm clauses pairs → IsFirm clauses pairs'
IsFirm-flags clauses pairs pairs' same firm index pair at is =
    let it = flags-at pairs pairs' same index pair at in
    firm index it.0 it.1 (it.2 ∙ is)

pub IsFirm-none : (clauses : List Clause) (pairs : List Pair) → NoneIsAside pairs → IsFirm clauses pairs
IsFirm-none clauses pairs none index pair at is = absurd (false≢true (sym (NoneIsAside-at pairs index pair none at) ∙ is))

-- another pair at the place of an entry
pub IsFirm-set : (clauses : List Clause) (pairs : List Pair) (index : ℕ) (now : Pair) → length clauses ≤ index → IsFirm clauses pairs → IsFirm clauses (set pairs index now)
IsFirm-set clauses pairs index now above firm k pair at is =
    elim (cases_eq k index) [
      | inl same ↦ omega (arith, same, above)
      | inr differs ↦ firm k pair (sym (slice_get-set_other pairs index k now differs) ∙ at) is
    ]

-- a pair more, of an entry
pub IsFirm-push : (clauses : List Clause) (pairs : List Pair) (pair : Pair) → length clauses ≤ length pairs → IsFirm clauses pairs → IsFirm clauses (pairs ++ pair ∷ [])
IsFirm-push clauses pairs pair above firm k it at is =
    elim (slice_get-push_cases pairs pair k it at) [ inl before ↦ firm k it before is | inr last ↦ omega (arith, last.0, above) ]
