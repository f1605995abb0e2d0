-- As many decisions as choices.
use Rattle.std.proofs.Common.{◌≡◌, ◌<◌, ◌≤◌, ℕ, zero, suc, ◌+◌, drop, get_or, add-one, drop-cons, List, [], ◌∷◌, ◌++◌, length, map, Option, Some, None, refl, sym, ap, ◌∙◌, subst, append-nil, length-append, arith}
use Rattle.gc0_base.specs.declared.place.Place.{Place}
use Rattle.gc0_base.specs.declared.site.Site.{Site}
use Rattle.core_tree.specs.declared.Phase.{Phase}
use Rattle.core_tree.specs.CoreTree.{no_code}
use Rattle.core_tree.specs.CoreViews.{code_view}
use Rattle.core_tables.specs.SiteTables.{choices_at}
use Rattle.temp_counts.specs.Used.{used_in}
use Rattle.lowering_laws.specs.Counts.{Counts, decided}
use Rattle.core_expressions.specs.declared.written.Written.{Written}
use Rattle.core_expressions.specs.Writing.{StandsFor, IsWritten}
use Rattle.core_lower.proofs.Joining.{join_none}

pub length_choices : (site : Site) (phase : Phase) (k : ℕ) (places : List Place) → length (choices_at site phase k places) ≡ length places
length_choices site phase k [] = refl
length_choices site phase k (p ∷ ps) = ap (λ n. suc n) (length_choices site phase (suc k) ps)

pub length_map : {A B : Type 0} (f : A → B) (xs : List A) → length (map f xs) ≡ length xs
length_map f [] = refl
length_map f (x ∷ xs) = ap (λ n. suc n) (length_map f xs)

pub chosen : (a b : Written) (c : Counts) (site : Site) (phase : Phase) (places : List Place) → StandsFor a c →
    b.code ≡ a.code → b.placed ≡ a.placed → b.temps ≡ a.temps → b.decisions ≡ a.decisions ++ choices_at site phase 0 places →
    IsWritten a b (decided (length places) c) no_code (choices_at site phase 0 places) []
chosen a b c site phase places h e1 e2 e3 e4 = record {
  counts = record { used = λ s. ap (λ t. used_in t s) e3 ∙ h.used s; next = ap (λ l. length l) e4 ∙ length-append a.decisions (choices_at site phase 0 places) ∙ ap (λ n. n + length (choices_at site phase 0 places)) h.next ∙ ap (λ n. c.next + n) (length_choices site phase 0 places) };
  code = ap (λ x. code_view x) e1 ∙ sym (join_none (code_view a.code));
  decisions = e4;
  placed = e2 ∙ sym (append-nil a.placed);
}

pub given : {A : Type 0} (x y : A) → Some x ≡ Some y → x ≡ y
given {A = A} x y e = ap (λ o. or x o) e
  where
    or : A → Option A → A
    or z None = z
    or z (Some v) = v

pub none_some : {A : Type 0} (x : A) → None ≡ Some x → ⊥
none_some {A = A} x e = subst holds e tt
  where
    holds : Option A → Type 0
    holds None = Unit {0}
    holds (Some y) = ⊥

-- ---- what is left of a list
pub drop_at : {A : Type 0} (xs : List A) (i : ℕ) (x : A) → i < length xs → x ≡ get_or xs i x → drop i xs ≡ x ∷ drop (i + 1) xs
drop_at {A = A} xs i x h e =
    let d : drop i xs ≡ get_or xs i x ∷ drop (i + 1) xs = rw (add-one, drop-cons xs i x) in
    d ∙ ap (λ (y : A). y ∷ drop (i + 1) xs) (sym e)

pub drop_past : {A : Type 0} (xs : List A) (i : ℕ) → length xs ≤ i → drop i xs ≡ []
drop_past [] zero h = refl
drop_past [] (suc i) h = refl
drop_past (x ∷ xs) zero h = absurd (omega arith)
drop_past (x ∷ xs) (suc i) h = drop_past xs i (omega arith)
