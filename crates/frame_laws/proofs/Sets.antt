-- Sets of cells, and truth values.
use Rattle.std.proofs.Common.{◌≡◌, Bool, true, false, eqb, [], ◌∷◌, ◌++◌, refl, sym, ap, ◌∙◌, subst, IsTrue}
use Rattle.std.proofs.lemmas.Bool.{eqb-true}
use Rattle.std.specs.Prelude.{◌&&◌, ◌||◌, if◌then◌else◌}
use Rattle.gc0_tree.specs.Tree.{Formula}
use Rattle.c0_meaning.specs.Heaps.{Cell, Cells, same_cell, owns}
use Rattle.c0_meaning.specs.Running.{start_of}
use Rattle.footprint_laws.specs.FootprintLaws.{Within}

-- ---- truth values
pub false_true : {A : Type 0} → false ≡ true → A
false_true e = absurd cc

pub or_assoc : (a b c : Bool) → ((a || b) || c) ≡ (a || (b || c))
or_assoc true b c = refl
or_assoc false b c = refl

pub or_false : (b : Bool) → (b || false) ≡ b
or_false true = refl
or_false false = refl

-- the second adds nothing to the first
pub or_within : (a b : Bool) → (IsTrue b → IsTrue a) → (a || b) ≡ a
or_within true b h = refl
or_within false true h = sym (h refl)
or_within false false h = refl

pub or_left : (a b : Bool) → IsTrue a → IsTrue (a || b)
or_left true b h = refl
or_left false b h = false_true h

pub or_right : (a b : Bool) → IsTrue b → IsTrue (a || b)
or_right true b h = refl
or_right false b h = h

pub or_none : (a b : Bool) → (a || b) ≡ false → (a ≡ false) × (b ≡ false)
or_none true b h = false_true (sym h)
or_none false b h = (refl, h)

pub or_one : {G : Type 0} (a b : Bool) → IsTrue (a || b) → (IsTrue a → G) → (IsTrue b → G) → G
or_one true b h f g = f refl
or_one false b h f g = g h

pub and_is : (a b : Bool) → IsTrue (a && b) → IsTrue a × IsTrue b
and_is true b h = (refl, h)
and_is false b h = false_true h

-- ---- sets
pub same_is : (c d : Cell) → IsTrue (same_cell c d) → c ≡ d
same_is c d h =
    let e = and_is (eqb c.object d.object) (eqb c.field d.field) h in
    let p = eqb-true c.object d.object e.0 in
    let q = eqb-true c.field d.field e.1 in
    λ i. record { object = p i; field = q i }

pub owns_join : (few many : Cells) (c : Cell) → owns (few ++ many) c ≡ (owns few c || owns many c)
owns_join [] many c = refl
owns_join (d ∷ few) many c = ap (λ x. same_cell d c || x) (owns_join few many c) ∙ sym (or_assoc (same_cell d c) (owns few c) (owns many c))

pub within_left : (few many : Cells) → Within few (few ++ many)
within_left few many c h = subst IsTrue (sym (owns_join few many c)) (or_left (owns few c) (owns many c) h)

pub within_right : (few many : Cells) → Within many (few ++ many)
within_right few many c h = subst IsTrue (sym (owns_join few many c)) (or_right (owns few c) (owns many c) h)

-- both parts of a set within another
pub within_both : (few many all : Cells) → Within few all → Within many all → Within (few ++ many) all
within_both few many all a b c h = or_one (owns few c) (owns many c) (subst IsTrue (owns_join few many c) h) (a c) (b c)

-- what a level starts with lies in what there is, as the footprint does
pub start_within : (formula : Formula) (foot all : Cells) → Within foot all → Within (start_of formula foot all) all
start_within formula foot all h = by_kind formula.imprecise
  where
    by_kind : (b : Bool) → Within (if b then all else foot) all
    by_kind true = λ c t. t
    by_kind false = h
