-- A refutation that is cut behind its first empty entry.
use Rattle.std.proofs.Common.{◌≡◌, ℕ, zero, suc, ◌+◌, ◌<◌, ◌≤◌, List, [], ◌∷◌, ◌++◌, length, take, get_or, Some, sym, subst, ap, ◌∙◌, arith}
use Rattle.std.specs.Prelude.{slice_get, ◌≢◌}
use Rattle.std.proofs.Common.{inl, inr}
use Rattle.std.proofs.lemmas.Bool.{cases_lt}
use Rattle.std.proofs.lemmas.Option.{slice_get-get_or, get_or_from_slice_get}
use Rattle.std.proofs.lemmas.List.{take-take, take_more, length-take-le}
use Rattle.std.proofs.lemmas.List.Quantifiers.{Any-push}
use Rattle.sat_check.specs.declared.clause.Clause.{Clause}
use Rattle.sat_check.specs.declared.log.Entry.{Entry}
use Rattle.sat_check.specs.Logs.{Follows, HasEmpty, IsRefutation, known_before}
use Rattle.sat_text.specs.LogTexts.{IsProof}

slice_get-take : {X : Type 0} (n : ℕ) (xs : List X) (k : ℕ) (x : X) → slice_get (take n xs) k ≡ Some x → slice_get xs k ≡ Some x
slice_get-take zero xs k x e = let n : ⊥ = cc in absurd n
slice_get-take (suc n) [] k x e = e
slice_get-take (suc n) (y ∷ xs) zero x e = e
slice_get-take (suc n) (y ∷ xs) (suc k) x e = slice_get-take n xs k x e

pub cut_proof : (clauses : List Clause) (entries : List Entry) (i : ℕ) (last : Entry) → i < length entries → last ≡ get_or entries i last → last.clause.lits ≡ [] → IsRefutation clauses entries → IsProof clauses (take (i + 1) entries)
cut_proof clauses entries i last lt is empty r =
    let cut : List Entry = take (i + 1) entries in
    let split : cut ≡ take i entries ++ last ∷ [] = take_more entries i last lt ∙ ap (λ e. take i entries ++ e ∷ []) (sym is) in
    let count : length cut ≡ i + 1 = length-take-le (i + 1) entries (omega (arith, lt)) in
    record {
      refutation = record {
        follow = λ index entry within at.
            let f = r.follow index entry (omega (arith, within, count, lt)) (slice_get-take (i + 1) entries index entry at) in
            subst (λ l. Follows (known_before clauses l) entry) (sym (take-take index (i + 1) entries (omega (arith, within, count)))) f;
        empty = subst HasEmpty (sym split) (Any-push (λ e. e.clause.lits ≡ []) (take i entries) last empty);
      };
      before = take i entries;
      last = last;
      split = split;
      empty = empty;
    }

-- one more entry that isn't empty
pub none_more : (entries : List Entry) (i : ℕ) (last : Entry) → last ≡ get_or entries i last → last.clause.lits ≢ [] → ((k : ℕ) (entry : Entry) → k < i → slice_get entries k ≡ Some entry → entry.clause.lits ≢ []) → (k : ℕ) (entry : Entry) → k < i + 1 → slice_get entries k ≡ Some entry → entry.clause.lits ≢ []
none_more entries i last is not_empty h k entry lt at =
    elim (cases_lt k i) [
      | inl below ↦ h k entry below at
      | inr ge ↦
          let here : k ≡ i = omega (arith, lt, ge) in
          let same : get_or entries i last ≡ entry = get_or_from_slice_get entries i entry last (subst (λ j. slice_get entries j ≡ Some entry) here at) in
          subst (λ e. e.clause.lits ≢ []) (is ∙ same) not_empty
    ]

pub has_empty : (entries : List Entry) (i : ℕ) → length entries ≤ i → ((k : ℕ) (entry : Entry) → k < i → slice_get entries k ≡ Some entry → entry.clause.lits ≢ []) → HasEmpty entries → ⊥
has_empty entries i le h (k, entry, lt, at, empty) = h k entry (omega (arith, lt, le)) (slice_get-get_or entries k entry lt ∙ ap Some at) empty
