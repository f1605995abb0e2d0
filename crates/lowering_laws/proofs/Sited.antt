-- The sites of each lowered function are right.
use Rattle.std.proofs.Common.{◌≡◌, ℕ, zero, suc, ◌+◌, ◌<◌, Bool, true, false, not, ◌&&◌, eqb, cond, List, [], ◌∷◌, map, Option, Some, None, refl, sym, ap, ◌∙◌, subst, arith}
use Rattle.std.proofs.lemmas.Bool.{eqb-true, eq-eqb}
use Rattle.std.proofs.lemmas.List.Folds.{list_all-map}
use Rattle.std.specs.Prelude.{IsTrue, count_by, slice_get}
use Rattle.std.specs.List.{list_all, find, AllByRecursion}
use Rattle.std.specs.Option.{option_map}
use Rattle.gc0_base.specs.declared.place.Place.{Place}
use Rattle.gc0_base.specs.declared.site.Site.{Site}
use Rattle.gc0_base.specs.declared.site.Kind.{Kind}
use Rattle.gc0_base.specs.declared.site.Kind.TheVariants as kind
use Rattle.gc0_tree.specs.Tree.{Function, Program}
use Rattle.gc0_tree.specs.Fits.{FunctionFits}
use Rattle.gc0_tree.specs.Sites.{is_start, tokens}
use Rattle.core_tree.specs.declared.SiteAt.{SiteAt}
use Rattle.core_tree.specs.declared.DecisionAt.{DecisionAt}
use Rattle.core_tree.specs.CoreTree.{Core}
use Rattle.core_tree.specs.CoreSites.{row_in, row_of, row_at}
use Rattle.core_meaning.specs.CoreSited.{Sited, same_kind, is_of, same_site, are_distinct, same_about, is_about, has_row}
use Rattle.core_meaning.specs.Stepped.{EachFunction, AreSited}
use Rattle.core_tables.specs.declared.PlacedSite.{PlacedSite}
use Rattle.core_tables.specs.SiteTables.{row, rows_from, about_of, table_of}
use Rattle.lowering_laws.specs.Lowering.{lowered_function}
use Rattle.lowering_laws.specs.Tables.{table_in, placed_of, decisions_of, core_of}
use Rattle.lowering_laws.proofs.Counting.{all_at}
use Rattle.core_tables.specs.Apart.{are_apart}
use Rattle.lowering_laws.specs.SteppedLaws.{CanBeLowered}
use Rattle.lowering_laws.proofs.Each.{beside_of, each_lowered, function_at}
use Rattle.lowering_laws.proofs.CodePlaces.{sited_of, body_sites}
use Rattle.lowering_laws.proofs.CodeSited.{true_both, body_sited}
use Rattle.lowering_laws.proofs.TokenCounts.{same_kind_refl, all_to, IsFree}
use Rattle.lowering_laws.proofs.TokensPlaced.{placed_counted, number_below}

-- ---- tests
pub left_true : (a b : Bool) → (a && b) ≡ true → a ≡ true
left_true true b h = refl
left_true false b h = h

pub right_true : (a b : Bool) → (a && b) ≡ true → b ≡ true
right_true true b h = h
right_true false b h = absurd (let f : false ≡ true = h in cc)

pub all_true : {X : Type 0} (test : X → Bool) (xs : List X) → AllByRecursion (λ x. test x ≡ true) xs → list_all test xs ≡ true
all_true test [] h = refl
all_true test (x ∷ xs) h = true_both (test x) (list_all test xs) h.0 (all_true test xs h.1)

pub true_all : {X : Type 0} (test : X → Bool) (xs : List X) → list_all test xs ≡ true → AllByRecursion (λ x. test x ≡ true) xs
true_all test [] h = tt
true_all test (x ∷ xs) h = (left_true (test x) (list_all test xs) h, true_all test xs (right_true (test x) (list_all test xs) h))

-- ---- the same site
abbrev pub site_in : ℕ → Kind → ℕ → Site
site_in g k n = record { function = g; kind = k; ordinal = n }

same_kind_is : (j k : Kind) → same_kind j k ≡ true → j ≡ k
same_kind_is kind.Start kind.Start h = refl
same_kind_is kind.Requires kind.Requires h = refl
same_kind_is kind.Ensures kind.Ensures h = refl
same_kind_is kind.Entry kind.Entry h = refl
same_kind_is kind.Again kind.Again h = refl
same_kind_is kind.Assert kind.Assert h = refl
same_kind_is kind.Fold kind.Fold h = refl
same_kind_is kind.Unfold kind.Unfold h = refl
same_kind_is kind.Access kind.Access h = refl
same_kind_is kind.Trap kind.Trap h = refl
same_kind_is j k h = absurd (let f : false ≡ true = h in cc)

pub same_site_refl : (a : Site) → same_site a a ≡ true
same_site_refl a = true_both _ _ (eq-eqb a.function a.function refl) (true_both _ _ (same_kind_refl a.kind) (eq-eqb a.ordinal a.ordinal refl))

pub same_site_is : (a b : Site) → same_site a b ≡ true → a ≡ b
same_site_is a b h =
    let f : a.function ≡ b.function = eqb-true _ _ (left_true (eqb a.function b.function) _ h) in
    let rest = right_true (eqb a.function b.function) (same_kind a.kind b.kind && eqb a.ordinal b.ordinal) h in
    let k : a.kind ≡ b.kind = same_kind_is a.kind b.kind (left_true (same_kind a.kind b.kind) _ rest) in
    let o : a.ordinal ≡ b.ordinal = eqb-true _ _ (right_true (same_kind a.kind b.kind) (eqb a.ordinal b.ordinal) rest) in
    ap (λ n. site_in n a.kind a.ordinal) f ∙ ap (λ k. site_in b.function k a.ordinal) k ∙ ap (λ n. site_in b.function b.kind n) o

not_same : (a b : Site) → not (same_site a b) ≡ true → same_site b a ≡ false
not_same a b h = by_test (same_site b a) refl
  where
    by_test : (t : Bool) → same_site b a ≡ t → t ≡ false
    by_test false e = refl
    by_test true e =
        let i : b ≡ a = same_site_is b a e in
        let s : same_site a b ≡ true = subst (λ x. same_site a x ≡ true) (sym i) (same_site_refl a) in
        absurd (let f : false ≡ true = sym (ap not s) ∙ h in cc)

-- ---- distinct
distinct_is : (xs : List PlacedSite) → are_distinct (map sited_of xs) ≡ are_apart xs
distinct_is [] = refl
distinct_is (x ∷ xs) =
    ap (λ b. b && are_distinct (map sited_of xs)) (list_all-map (λ (y : Sited). not (same_site x.site y.site)) sited_of xs)
    ∙ ap (λ b. list_all (λ (y : PlacedSite). not (same_site x.site y.site)) xs && b) (distinct_is xs)

-- each is found by its site
abbrev pub IsFound : List PlacedSite → PlacedSite → Type 0
IsFound xs x = find (λ y. same_site x.site y.site) xs ≡ Some x

found : (xs : List PlacedSite) → are_apart xs ≡ true → AllByRecursion (IsFound xs) xs
found [] h = tt
found (x ∷ xs) h = (
  ap (λ b. cond b (Some x) (find (λ y. same_site x.site y.site) xs)) (same_site_refl x.site),
  behind xs (true_all (λ y. not (same_site x.site y.site)) xs (left_true (list_all (λ y. not (same_site x.site y.site)) xs) (are_apart xs) h)) (found xs (right_true (list_all (λ y. not (same_site x.site y.site)) xs) (are_apart xs) h)),
)
  where
    behind : (ys : List PlacedSite) → AllByRecursion (λ y. not (same_site x.site y.site) ≡ true) ys → AllByRecursion (IsFound xs) ys → AllByRecursion (IsFound (x ∷ xs)) ys
    behind [] a b = tt
    behind (y ∷ ys) a b = (ap (λ t. cond t (Some x) (find (λ z. same_site y.site z.site) xs)) (not_same x.site y.site a.0) ∙ b.0, behind ys a.1 b.1)

-- ---- rows
rows_at : (r : ℕ → SiteAt) (n count i m : ℕ) → m ≡ n + i → i < count → slice_get (rows_from r n count) i ≡ Some (r m)
rows_at r n zero i m e lt = absurd (omega arith)
rows_at r n (suc count) zero m e lt = ap (λ k. Some (r k)) (let same : n ≡ m = omega arith in same)
rows_at r n (suc count) (suc i) m e lt = rows_at r (suc n) count i m (omega arith) (omega arith)

table_row : (g : ℕ) (start : Place) (placed : List PlacedSite) (decisions : List DecisionAt) (k : Kind) (n : ℕ) → is_start k ≡ false → n < count_by (λ x. same_kind x.site.kind k) placed →
    row_in (table_of g start placed decisions) k n ≡ Some (row start placed decisions (site_in g k n))
table_row g start placed decisions kind.Start n h lt = absurd (let f : true ≡ false = h in cc)
table_row g start placed decisions kind.Requires n h lt = rows_at (λ i. row start placed decisions (site_in g kind.Requires i)) 0 _ n n (omega arith) lt
table_row g start placed decisions kind.Ensures n h lt = rows_at (λ i. row start placed decisions (site_in g kind.Ensures i)) 0 _ n n (omega arith) lt
table_row g start placed decisions kind.Entry n h lt = rows_at (λ i. row start placed decisions (site_in g kind.Entry i)) 0 _ n n (omega arith) lt
table_row g start placed decisions kind.Again n h lt = rows_at (λ i. row start placed decisions (site_in g kind.Again i)) 0 _ n n (omega arith) lt
table_row g start placed decisions kind.Assert n h lt = rows_at (λ i. row start placed decisions (site_in g kind.Assert i)) 0 _ n n (omega arith) lt
table_row g start placed decisions kind.Fold n h lt = rows_at (λ i. row start placed decisions (site_in g kind.Fold i)) 0 _ n n (omega arith) lt
table_row g start placed decisions kind.Unfold n h lt = rows_at (λ i. row start placed decisions (site_in g kind.Unfold i)) 0 _ n n (omega arith) lt
table_row g start placed decisions kind.Access n h lt = rows_at (λ i. row start placed decisions (site_in g kind.Access i)) 0 _ n n (omega arith) lt
table_row g start placed decisions kind.Trap n h lt = rows_at (λ i. row start placed decisions (site_in g kind.Trap i)) 0 _ n n (omega arith) lt

about_refl : (o : Option ℕ) → same_about o o ≡ true
about_refl None = refl
about_refl (Some n) = eq-eqb n n refl

module _ (plain : ℕ → Bool) (paths : ℕ → ℕ) (p : Program) where
  abbrev core : Core
  core = core_of plain paths p

  module _ (g : ℕ) (f : Function) (there : slice_get p.functions g ≡ Some f) where
    pub core_function : slice_get core.functions g ≡ Some (lowered_function (beside_of plain paths p) p g f)
    core_function = function_at (beside_of plain paths p) p g ∙ ap (option_map (lowered_function (beside_of plain paths p) p g)) there

    -- the row of a site of a kind
    pub row_of_kind : (k : Kind) (n : ℕ) → row_at core (site_in g k n) ≡ row_in (table_of g f.place (placed_of g f) (decisions_of p g f)) k n
    row_of_kind k n = ap (λ o. row_of o k n) core_function ∙ ap (λ o. row_in (table_in p g o) k n) there

    -- the row of a placed site
    pub row_found : FunctionFits p f → (x : PlacedSite) → IsFree g f (tokens f) x → row_at core x.site ≡ Some (row f.place (placed_of g f) (decisions_of p g f) x.site)
    row_found fits x a =
        let here : x.site ≡ site_in g x.site.kind x.site.ordinal = ap (λ (h : ℕ). let s : Site = record { function = h; kind = x.site.kind; ordinal = x.site.ordinal } in s) (ap (λ (s : Site). s.function) a.site) in
        ap (row_at core) here ∙ row_of_kind x.site.kind x.site.ordinal
        ∙ table_row g f.place (placed_of g f) (decisions_of p g f) x.site.kind x.site.ordinal a.no_start (number_below p g f fits x a)
        ∙ ap (λ s. Some (row f.place (placed_of g f) (decisions_of p g f) s)) (sym here)

    module _ (fits : FunctionFits p f) (apart : IsTrue (are_apart (placed_of g f))) where
      kind_of : (x : PlacedSite) → IsFree g f (tokens f) x → is_of g (sited_of x) ≡ true
      kind_of x a = true_both _ _ (eq-eqb x.site.function g (ap (λ (s : Site). s.function) a.site)) (same_kind_refl x.site.kind)

      row_about : (x : PlacedSite) → IsFree g f (tokens f) x → IsFound (placed_of g f) x → has_row core (sited_of x) ≡ true
      row_about x a b =
          ap (is_about x.about) (row_found fits x a) ∙ ap (λ o. same_about x.about (about_of o)) b ∙ about_refl x.about

      both_all : (xs : List PlacedSite) → AllByRecursion (IsFree g f (tokens f)) xs → AllByRecursion (IsFound (placed_of g f)) xs → AllByRecursion (λ x. has_row core (sited_of x) ≡ true) xs
      both_all [] a b = tt
      both_all (x ∷ xs) a b = (row_about x a.0 b.0, both_all xs a.1 b.1)

      pub function_sited : AreSited core g (lowered_function (beside_of plain paths p) p g f)
      function_sited =
          let xs : List PlacedSite = placed_of g f in
          let free = (placed_counted p g f fits).all in
          record {
            kinds = ap (list_all (is_of g)) (body_sites p g f) ∙ list_all-map (is_of g) sited_of xs ∙ all_true (λ x. is_of g (sited_of x)) xs (all_to (IsFree g f (tokens f)) (λ x. is_of g (sited_of x) ≡ true) xs kind_of free);
            distinct = ap are_distinct (body_sites p g f) ∙ distinct_is xs ∙ apart;
            due = body_sited p g f;
            rows = ap (list_all (has_row core)) (body_sites p g f) ∙ list_all-map (has_row core) sited_of xs ∙ all_true (λ x. has_row core (sited_of x)) xs (both_all xs free (found xs apart));
          }

-- the sites of each function of the core are right
pub all_sited : (p : Program) → CanBeLowered p → (plain : ℕ → Bool) (paths : ℕ → ℕ) → EachFunction (core_of plain paths p) (AreSited (core_of plain paths p))
all_sited p can plain paths =
    each_lowered (beside_of plain paths p) p (AreSited (core_of plain paths p))
    (λ g f there. function_sited plain paths p g f there (all_at (FunctionFits p) p.functions g f can.fits.functions there) (can.apart g f there))
