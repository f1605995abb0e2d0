-- Entries of subjects one after the other.
use Rattle.std.proofs.Common.{◌≡◌, ℕ, suc, List, [], ◌∷◌, ◌++◌, map, Some, refl, sym, ap, ◌∙◌}
use Rattle.std.specs.Prelude.{All}
use Rattle.std.proofs.lemmas.List.Elements.{All-map}
use Rattle.core_tree.specs.CoreTree.{CoreFunction, Core}
use Rattle.core_checks.specs.Entries.{Entry}
use Rattle.core_checks.specs.Subjects.{SubjectAt, function_subjects}
use Rattle.assumption_log.specs.declared.Reason.{Reason}
use Rattle.assumption_log.specs.declared.Kept.{Kept}
use Rattle.assumption_log.specs.Records.{kept_view}
use Rattle.assumption_log.specs.AllKept.{subject_entries, entries_of, entries_from}
use Rattle.assumption_log.specs.Keeping.{with_reason, kept_of, Adds}

grouped : {X : Type 0} (xs ys zs : List X) → (xs ++ ys) ++ zs ≡ xs ++ (ys ++ zs)
grouped [] ys zs = refl
grouped (x ∷ xs) ys zs = ap (λ l. x ∷ l) (grouped xs ys zs)

pub entries_joined : (xs ys : List SubjectAt) → entries_of (xs ++ ys) ≡ entries_of xs ++ entries_of ys
entries_joined [] ys = refl
entries_joined (x ∷ xs) ys =
    ap (λ l. subject_entries x.site x.subject ++ l) (entries_joined xs ys) ∙ sym (grouped (subject_entries x.site x.subject) (entries_of xs) (entries_of ys))

reasons_joined : (r : Reason) (ds es : List Entry) → map (with_reason r) (ds ++ es) ≡ map (with_reason r) ds ++ map (with_reason r) es
reasons_joined r [] es = refl
reasons_joined r (d ∷ ds) es = ap (λ l. with_reason r d ∷ l) (reasons_joined r ds es)

pub kept_joined : (r : Reason) (xs ys : List SubjectAt) → kept_of r (xs ++ ys) ≡ kept_of r xs ++ kept_of r ys
kept_joined r xs ys = ap (map (with_reason r)) (entries_joined xs ys) ∙ reasons_joined r (entries_of xs) (entries_of ys)

pub adds_none : (r : Reason) (old : List Kept) → Adds r old [] old
adds_none r old = sym (past old)
  where
    past : (l : List Kept) → l ++ [] ≡ l
    past [] = refl
    past (x ∷ l) = ap (λ m. x ∷ m) (past l)

pub adds_two : (r : Reason) (old mid new : List Kept) (xs ys : List SubjectAt) → Adds r old xs mid → Adds r mid ys new → Adds r old (xs ++ ys) new
adds_two r old mid new xs ys a b =
    b ∙ ap (λ l. l ++ kept_of r ys) a ∙ grouped old (kept_of r xs) (kept_of r ys) ∙ ap (λ l. old ++ l) (sym (kept_joined r xs ys))

-- one statement more of those that are walked
pub kept_next : (r : Reason) (old new all : List Kept) (xs ys : List SubjectAt) → Adds r old xs new → old ++ kept_of r (xs ++ ys) ≡ all → new ++ kept_of r ys ≡ all
kept_next r old new all xs ys a e =
    ap (λ l. l ++ kept_of r ys) a ∙ grouped old (kept_of r xs) (kept_of r ys) ∙ ap (λ l. old ++ l) (sym (kept_joined r xs ys)) ∙ e

-- and one function more
pub functions_next : (r : Reason) (c : Core) (g : ℕ) (f : CoreFunction) (fs : List CoreFunction) (old new all : List Kept) → Adds r old (function_subjects c g (Some f)) new
    → old ++ map (with_reason r) (entries_from c g (f ∷ fs)) ≡ all → new ++ map (with_reason r) (entries_from c (suc g) fs) ≡ all
functions_next r c g f fs old new all a e =
    ap (λ l. l ++ map (with_reason r) (entries_from c (suc g) fs)) a
    ∙ grouped old (kept_of r (function_subjects c g (Some f))) (map (with_reason r) (entries_from c (suc g) fs))
    ∙ ap (λ l. old ++ l) (sym (reasons_joined r (entries_of (function_subjects c g (Some f))) (entries_from c (suc g) fs))) ∙ e

-- entries without their reasons
pub view_reasons : (r : Reason) (es : List Entry) → map kept_view (map (with_reason r) es) ≡ es
view_reasons r [] = refl
view_reasons r (e ∷ es) = ap (λ l. e ∷ l) (view_reasons r es)

pub all_reasons : (r : Reason) (es : List Entry) → All (λ (k : Kept). k.reason ≡ r) (map (with_reason r) es)
all_reasons r es = All-map (λ (k : Kept). k.reason ≡ r) (with_reason r) es (λ k d lt. refl)
