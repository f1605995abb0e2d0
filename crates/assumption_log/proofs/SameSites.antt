-- When two sites are the same.
use Rattle.std.proofs.Common.{◌≡◌, ℕ, true, ◌&&◌, eqb, inl, inr, refl, sym, ap, ◌∙◌}
use Rattle.std.proofs.lemmas.Bool.{eq-eqb, eqb-true, ne_eqb, cases_eq, and_parts, and_from}
use Rattle.gc0_base.specs.declared.site.Site.{Site}
use Rattle.core_meaning.specs.CoreSited.{kind_number, same_site}

pub record Equal (a b : Site) : Type 0 where
  pub functions : a.function ≡ b.function
  pub kinds : kind_number a.kind ≡ kind_number b.kind
  pub ordinals : a.ordinal ≡ b.ordinal

pub equal_sites : (a b : Site) → same_site a b ≡ true → Equal a b
equal_sites a b e =
    let one = and_parts (eqb a.function b.function) _ e in
    let two = and_parts (eqb (kind_number a.kind) (kind_number b.kind)) (eqb a.ordinal b.ordinal) one.1 in
    record { functions = eqb-true _ _ one.0; kinds = eqb-true _ _ two.0; ordinals = eqb-true _ _ two.1 }

pub same_itself : (a : Site) → same_site a a ≡ true
same_itself a = and_from _ _ (eq-eqb a.function a.function refl) (and_from _ _ (eq-eqb (kind_number a.kind) (kind_number a.kind) refl) (eq-eqb a.ordinal a.ordinal refl))

pub same_left : (a b : Site) → same_site a b ≡ true → (z : Site) → same_site a z ≡ same_site b z
same_left a b e z =
    let q = equal_sites a b e in
    ap (λ n. eqb n z.function && (eqb (kind_number a.kind) (kind_number z.kind) && eqb a.ordinal z.ordinal)) q.functions
    ∙ ap (λ n. eqb b.function z.function && (eqb n (kind_number z.kind) && eqb a.ordinal z.ordinal)) q.kinds
    ∙ ap (λ n. eqb b.function z.function && (eqb (kind_number b.kind) (kind_number z.kind) && eqb n z.ordinal)) q.ordinals

pub same_right : (a b : Site) → same_site a b ≡ true → (z : Site) → same_site z a ≡ same_site z b
same_right a b e z =
    let q = equal_sites a b e in
    ap (λ n. eqb z.function n && (eqb (kind_number z.kind) (kind_number a.kind) && eqb z.ordinal a.ordinal)) q.functions
    ∙ ap (λ n. eqb z.function b.function && (eqb (kind_number z.kind) n && eqb z.ordinal a.ordinal)) q.kinds
    ∙ ap (λ n. eqb z.function b.function && (eqb (kind_number z.kind) (kind_number b.kind) && eqb z.ordinal n)) q.ordinals

pub eqb_turned : (a b : ℕ) → eqb a b ≡ eqb b a
eqb_turned a b = elim (cases_eq a b) [
  | inl e ↦ eq-eqb a b e ∙ sym (eq-eqb b a (sym e))
  | inr ne ↦ ne_eqb a b ne ∙ sym (ne_eqb b a (λ e. ne (sym e)))
]

pub site_turned : (a b : Site) → same_site a b ≡ same_site b a
site_turned a b =
    ap (λ k. k && (eqb (kind_number a.kind) (kind_number b.kind) && eqb a.ordinal b.ordinal)) (eqb_turned a.function b.function)
    ∙ ap (λ k. eqb b.function a.function && (k && eqb a.ordinal b.ordinal)) (eqb_turned (kind_number a.kind) (kind_number b.kind))
    ∙ ap (λ k. eqb b.function a.function && (eqb (kind_number b.kind) (kind_number a.kind) && k)) (eqb_turned a.ordinal b.ordinal)
