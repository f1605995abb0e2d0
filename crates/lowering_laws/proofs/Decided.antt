-- The decisions of each lowered function are right.
use Rattle.std.proofs.Common.{◌≡◌, ℕ, zero, suc, ◌+◌, ◌<◌, ◌≤◌, ◌^◌, Bool, true, false, not, ◌&&◌, cond, List, [], ◌∷◌, ◌++◌, length, Some, refl, sym, ap, ◌∙◌, subst, arith, append_assoc, length-append}
use Rattle.std.specs.Prelude.{IsTrue, slice_get}
use Rattle.std.specs.List.{AllByRecursion, list_all}
use Rattle.gc0_base.specs.declared.site.Site.{Site}
use Rattle.gc0_base.specs.declared.site.Kind.TheVariants as kind
use Rattle.gc0_tree.specs.Tree.{Function, Program}
use Rattle.gc0_tree.specs.Fits.{FunctionFits}
use Rattle.gc0_tree.specs.Sites.{is_start, tokens}
use Rattle.core_tree.specs.declared.Phase.{Phase}
use Rattle.core_tree.specs.declared.Phase.TheVariants.{Produce, Consume}
use Rattle.core_tree.specs.declared.Origin.{Origin}
use Rattle.core_tree.specs.declared.Origin.TheVariants.{Branch, Choice}
use Rattle.core_tree.specs.declared.DecisionAt.{DecisionAt}
use Rattle.core_tree.specs.CoreTree.{Core}
use Rattle.core_tree.specs.CoreSites.{first_in, first_number}
use Rattle.core_meaning.specs.CoreRunning.{start_at}
use Rattle.core_meaning.specs.CoreSited.{same_site}
use Rattle.core_meaning.specs.Deciding.{function_due, AreNumbered}
use Rattle.core_meaning.specs.Stepped.{EachFunction, AreDecided}
use Rattle.core_tables.specs.declared.PlacedSite.{PlacedSite}
use Rattle.core_tables.specs.SiteTables.{same_phase, is_first, first_choice}
use Rattle.lowering_laws.specs.Lowering.{target, lowered_function}
use Rattle.lowering_laws.specs.Tables.{placed_of, decisions_of, decisions_in, core_of}
use Rattle.lowering_laws.proofs.Counting.{all_at}
use Rattle.core_tables.specs.Apart.{are_apart}
use Rattle.lowering_laws.specs.SteppedLaws.{CanBeLowered}
use Rattle.lowering_laws.proofs.Each.{beside_of, each_lowered}
use Rattle.lowering_laws.proofs.TokenCounts.{how_many_both, one_if, is_one, is_none, IsFree}
use Rattle.lowering_laws.proofs.TokensPlaced.{placed_counted}
use Rattle.lowering_laws.proofs.Sited.{left_true, right_true, true_all, same_site_refl, same_site_is, row_of_kind, row_found}
use Rattle.lowering_laws.proofs.FirstCounts.{firsts, places_of, all_points}
use Rattle.lowering_laws.proofs.Numbering.{IsRight, AreRight, function_numbered}

-- ---- no two placed sites are the same
other_not : (s a b : Site) → same_site s a ≡ true → not (same_site a b) ≡ true → same_site s b ≡ false
other_not s a b h k = subst (λ x. same_site x b ≡ false) (sym (same_site_is s a h)) (not_true (same_site a b) k)
  where
    not_true : (t : Bool) → not t ≡ true → t ≡ false
    not_true true e = absurd (let f : false ≡ true = e in cc)
    not_true false e = refl

no_more : (s : Site) (x : PlacedSite) (xs : List PlacedSite) → same_site s x.site ≡ true → AllByRecursion (λ y. not (same_site x.site y.site) ≡ true) xs → places_of s xs ≡ 0
no_more s x [] h all = refl
no_more s x (y ∷ ys) h all =
    let rest = no_more s x ys h all.1 in
    let here : one_if (same_site s y.site) ≡ 0 = is_none (same_site s y.site) (other_not s x.site y.site h all.0) in
    omega arith

apart_one : (s : Site) (xs : List PlacedSite) → are_apart xs ≡ true → places_of s xs ≤ 1
apart_one s [] h = omega arith
apart_one s (x ∷ xs) h =
    let others : Bool = list_all (λ y. not (same_site x.site y.site)) xs in
    by_test (same_site s x.site) refl (true_all (λ y. not (same_site x.site y.site)) xs (left_true others (are_apart xs) h)) (apart_one s xs (right_true others (are_apart xs) h))
  where
    by_test : (b : Bool) → same_site s x.site ≡ b → AllByRecursion (λ y. not (same_site x.site y.site) ≡ true) xs → places_of s xs ≤ 1 → places_of s (x ∷ xs) ≤ 1
    by_test true e all rest =
        let none = no_more s x xs e all in
        let here : one_if (same_site s x.site) ≡ 1 = is_one (same_site s x.site) e in
        omega arith
    by_test false e all rest =
        let here : one_if (same_site s x.site) ≡ 0 = is_none (same_site s x.site) e in
        omega arith

-- none of them is a start
no_start : (g : ℕ) (x : Site) → is_start x.kind ≡ false → same_site (start_at g) x ≡ false
no_start g x h = by_test (same_site (start_at g) x) refl
  where
    by_test : (b : Bool) → same_site (start_at g) x ≡ b → b ≡ false
    by_test false e = refl
    by_test true e =
        let start : is_start x.kind ≡ true = ap (λ (s : Site). is_start s.kind) (sym (same_site_is (start_at g) x e)) in
        absurd (let f : true ≡ false = sym start ∙ h in cc)

module _ (g : ℕ) (f : Function) where
  no_starts : (s : Site) (xs : List PlacedSite) → same_site s (start_at g) ≡ true → AllByRecursion (IsFree g f (tokens f)) xs → places_of s xs ≡ 0
  no_starts s [] h all = refl
  no_starts s (x ∷ xs) h all =
      let rest = no_starts s xs h all.1 in
      let other : same_site s x.site ≡ false = subst (λ a. same_site a x.site ≡ false) (sym (same_site_is s (start_at g) h)) (no_start g x.site all.0.no_start) in
      let here : one_if (same_site s x.site) ≡ 0 = is_none (same_site s x.site) other in
      omega arith

  at_most_one : (s : Site) (xs : List PlacedSite) → AllByRecursion (IsFree g f (tokens f)) xs → are_apart xs ≡ true → cond (same_site s (start_at g)) 1 0 + places_of s xs ≤ 1
  at_most_one s xs all apart = by_test (same_site s (start_at g)) refl
    where
      by_test : (b : Bool) → same_site s (start_at g) ≡ b → cond b 1 0 + places_of s xs ≤ 1
      by_test true e = let none = no_starts s xs e all in omega arith
      by_test false e = let one = apart_one s xs apart in omega arith

-- ---- the first choice of a point stands where its only one stands
some_there : (s : Site) (q : Phase) (pre : List DecisionAt) (d : DecisionAt) (post : List DecisionAt) → is_first s q d.origin ≡ true → 0 < firsts s q (pre ++ (d ∷ post))
some_there s q pre d post h =
    let here : one_if (is_first s q d.origin) ≡ 1 = is_one (is_first s q d.origin) h in
    omega (arith, how_many_both (λ (x : DecisionAt). is_first s q x.origin) pre (d ∷ post))

first_at : (s : Site) (q : Phase) (pre : List DecisionAt) (d : DecisionAt) (post : List DecisionAt) → is_first s q d.origin ≡ true → firsts s q (pre ++ (d ∷ post)) ≤ 1 → first_choice s q (pre ++ (d ∷ post)) ≡ length pre
first_at s q [] d post h few = ap (λ b. cond b 0 (suc (first_choice s q post))) h
first_at s q (e ∷ pre) d post h few = by_test (is_first s q e.origin) refl (first_at s q pre d post h)
  where
    by_test : (b : Bool) → is_first s q e.origin ≡ b → (firsts s q (pre ++ (d ∷ post)) ≤ 1 → first_choice s q (pre ++ (d ∷ post)) ≡ length pre) → cond b 0 (suc (first_choice s q (pre ++ (d ∷ post)))) ≡ suc (length pre)
    by_test true t rest =
        let two : one_if (is_first s q e.origin) ≡ 1 = is_one (is_first s q e.origin) t in
        absurd (let some = some_there s q pre d post h in omega arith)
    by_test false t rest =
        let none : one_if (is_first s q e.origin) ≡ 0 = is_none (is_first s q e.origin) t in
        ap suc (rest (omega arith))

same_phase_refl : (q : Phase) → same_phase q q ≡ true
same_phase_refl Produce = refl
same_phase_refl Consume = refl

is_first_itself : (s : Site) (q : Phase) → is_first s q (Choice s q 0) ≡ true
is_first_itself s q = ap (λ b. b && (same_phase q q && true)) (same_site_refl s) ∙ ap (λ b. b && true) (same_phase_refl q)

module _ (plain : ℕ → Bool) (paths : ℕ → ℕ) (p : Program) (g : ℕ) (f : Function) (there : slice_get p.functions g ≡ Some f) (fits : FunctionFits p f) (apart : IsTrue (are_apart (placed_of g f))) where
  abbrev c : Core
  c = core_of plain paths p

  abbrev ds : List DecisionAt
  ds = decisions_of p g f

  -- the table's number of a point
  abbrev HasFirst : Site → Phase → Type 0
  HasFirst s q = first_number c s q ≡ first_choice s q ds

  start_first : (q : Phase) → HasFirst (start_at g) q
  start_first Produce = ap (λ o. first_in o Produce) (row_of_kind plain paths p g f there kind.Start 0)
  start_first Consume = ap (λ o. first_in o Consume) (row_of_kind plain paths p g f there kind.Start 0)

  placed_first : (x : PlacedSite) (q : Phase) → IsFree g f (tokens f) x → HasFirst x.site q
  placed_first x Produce a = ap (λ o. first_in o Produce) (row_found plain paths p g f there fits x a)
  placed_first x Consume a = ap (λ o. first_in o Consume) (row_found plain paths p g f there fits x a)

  some_first : (s : Site) (q : Phase) (xs : List PlacedSite) → AllByRecursion (IsFree g f (tokens f)) xs → 0 < places_of s xs → HasFirst s q
  some_first s q [] all lt = absurd (omega arith)
  some_first s q (x ∷ xs) all lt = by_test (same_site s x.site) refl (some_first s q xs all.1)
    where
      by_test : (b : Bool) → same_site s x.site ≡ b → (0 < places_of s xs → HasFirst s q) → HasFirst s q
      by_test true e rest = subst (λ a. HasFirst a q) (sym (same_site_is s x.site e)) (placed_first x q all.0)
      by_test false e rest =
          let none : one_if (same_site s x.site) ≡ 0 = is_none (same_site s x.site) e in
          rest (omega arith)

  free : AllByRecursion (IsFree g f (tokens f)) (placed_of g f)
  free = (placed_counted p g f fits).all

  point_first : (s : Site) (q : Phase) → 0 < firsts s q ds → HasFirst s q
  point_first s q lt = by_test (same_site s (start_at g)) refl
    where
      by_test : (b : Bool) → same_site s (start_at g) ≡ b → HasFirst s q
      by_test true e = subst (λ a. HasFirst a q) (sym (same_site_is s (start_at g) e)) (start_first q)
      by_test false e =
          let none : one_if (same_site s (start_at g)) ≡ 0 = is_none (same_site s (start_at g)) e in
          let all = all_points p g f s q in
          some_first s q (placed_of g f) free (omega arith)

  one_point : (s : Site) (q : Phase) → firsts s q ds ≤ 1
  one_point s q = let a = all_points p g f s q in let b = at_most_one g f s (placed_of g f) free apart in omega arith

  right_at : (n : ℕ) (pre : List DecisionAt) (d : DecisionAt) (post : List DecisionAt) → n ≡ length pre → ds ≡ pre ++ (d ∷ post) → (s : Site) (q : Phase) → d.origin ≡ Choice s q 0 → first_number c s q ≡ n
  right_at n pre d post size whole s q is =
      let first : is_first s q d.origin ≡ true = ap (is_first s q) is ∙ is_first_itself s q in
      let some : 0 < firsts s q ds = subst (λ l. 0 < firsts s q l) (sym whole) (some_there s q pre d post first) in
      let few : firsts s q (pre ++ (d ∷ post)) ≤ 1 = subst (λ l. firsts s q l ≤ 1) whole (one_point s q) in
      point_first s q some ∙ ap (first_choice s q) whole ∙ first_at s q pre d post first few ∙ sym size

  right_origin : (n : ℕ) (pre : List DecisionAt) (d : DecisionAt) (post : List DecisionAt) → n ≡ length pre → ds ≡ pre ++ (d ∷ post) → (o : Origin) → d.origin ≡ o → IsRight (beside_of plain paths p) p g f (target p g f).slot n o
  right_origin n pre d post size whole Branch is = tt
  right_origin n pre d post size whole (Choice s q zero) is = right_at n pre d post size whole s q is
  right_origin n pre d post size whole (Choice s q (suc k)) is = tt

  right_from : (n : ℕ) (pre post : List DecisionAt) → n ≡ length pre → ds ≡ pre ++ post → AreRight (beside_of plain paths p) p g f (target p g f).slot n post
  right_from n pre [] size whole = tt
  right_from n pre (d ∷ post) size whole = (
    right_origin n pre d post size whole d.origin refl,
    right_from (suc n) (pre ++ (d ∷ [])) post (omega (arith, length-append pre (d ∷ []))) (whole ∙ sym (append_assoc pre (d ∷ []) post)),
  )

  kept_there : (lowered_function (beside_of plain paths p) p g f).decisions ≡ ds
  kept_there = ap (decisions_in p g) there

  pub function_decided : length (decisions_of p g f) < 2 ^ 32 → AreDecided c g (lowered_function (beside_of plain paths p) p g f)
  function_decided few = record {
    numbered =
        subst (AreNumbered g 0 (function_due c g (lowered_function (beside_of plain paths p) p g f))) (sym kept_there)
        (function_numbered (beside_of plain paths p) p g f (right_from 0 [] ds refl refl));
    few = subst (λ (l : List DecisionAt). length l < 2 ^ 32) (sym kept_there) few;
  }

-- the decisions of each function of the core are right
pub all_decided : (p : Program) → CanBeLowered p → (plain : ℕ → Bool) (paths : ℕ → ℕ) →
    ((g : ℕ) (f : Function) → slice_get p.functions g ≡ Some f → length (decisions_of p g f) < 2 ^ 32) →
    EachFunction (core_of plain paths p) (AreDecided (core_of plain paths p))
all_decided p can plain paths few =
    each_lowered (beside_of plain paths p) p (AreDecided (core_of plain paths p))
    (λ g f there. function_decided plain paths p g f there (all_at (FunctionFits p) p.functions g f can.fits.functions there) (can.apart g f there) (few g f there))
