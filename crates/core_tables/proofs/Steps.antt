-- What one more site of the code, and one more decision, make of the rows of a kind.
use Rattle.std.proofs.Common.{◌≡◌, ℕ, suc, ◌+◌, Bool, true, false, cond, ◌&&◌, List, [], ◌∷◌, Option, Some, None, set, replicate, refl, sym, ap, ◌∙◌, arith}
use Rattle.std.specs.Prelude.{slice_get, eqb}
use Rattle.std.specs.List.{find}
use Rattle.std.proofs.lemmas.Bool.{eqb-true, eq-eqb}
use Rattle.gc0_base.specs.declared.place.Place.{Place}
use Rattle.gc0_base.specs.declared.site.Site.{Site}
use Rattle.gc0_base.specs.declared.site.Kind.{Kind}
use Rattle.core_tree.specs.declared.Phase.{Phase}
use Rattle.core_tree.specs.declared.Phase.TheVariants.{Produce, Consume}
use Rattle.core_tree.specs.declared.Origin.TheVariants.{Choice}
use Rattle.core_tree.specs.declared.DecisionAt.{DecisionAt}
use Rattle.core_tree.specs.declared.SiteAt.{SiteAt}
use Rattle.core_meaning.specs.CoreSited.{same_kind, same_site}
use Rattle.core_tables.specs.declared.PlacedSite.{PlacedSite}
use Rattle.core_tables.specs.SiteTables.{same_phase, is_first, first_choice, place_of, about_of, row, rows}
use Rattle.core_tables.specs.RowSteps.{row_behind, rows_behind, count_of, numbered}
use Rattle.core_tables.proofs.Ordinals.{rows_same, row_read, row_set, row_past, rows_alike}

-- ---- whether a site is that of an ordinal
abbrev is_of : ℕ → Kind → Site → Bool
is_of g k site = eqb g site.function && same_kind k site.kind

abbrev site_of : ℕ → Kind → ℕ → Site
site_of g k n = record { function = g; kind = k; ordinal = n }

fails_first : (a b c : Bool) → (a && b) ≡ false → (a && (b && c)) ≡ false
fails_first true b c fails = ap (λ x. x && c) fails
fails_first false b c fails = refl

fails_last : (a b c : Bool) → c ≡ false → (a && (b && c)) ≡ false
fails_last true true c fails = fails
fails_last true false c fails = refl
fails_last false b c fails = refl

and_true : (a : Bool) → (a && true) ≡ a
and_true true = refl
and_true false = refl

both_hold : (a b c : Bool) → (a && b) ≡ true → c ≡ true → (a && (b && c)) ≡ true
both_hold true true c holds here = here
both_hold true false c holds here = holds
both_hold false b c holds here = holds

not_same : (b : Bool) → (b ≡ true → ⊥) → b ≡ false
not_same true fails = absurd (fails refl)
not_same false fails = refl

-- one of another function or kind
other_kind : (g : ℕ) (k : Kind) (site : Site) (n : ℕ) → is_of g k site ≡ false → same_site (site_of g k n) site ≡ false
other_kind g k site n fails = fails_first (eqb g site.function) (same_kind k site.kind) (eqb n site.ordinal) fails

-- one with another ordinal
other_ordinal : (g : ℕ) (k : Kind) (site : Site) (n : ℕ) → (n ≡ site.ordinal → ⊥) → same_site (site_of g k n) site ≡ false
other_ordinal g k site n fails = fails_last (eqb g site.function) (same_kind k site.kind) (eqb n site.ordinal) (not_same (eqb n site.ordinal) (λ holds. fails (eqb-true n site.ordinal holds)))

this_one : (g : ℕ) (k : Kind) (site : Site) → is_of g k site ≡ true → same_site (site_of g k site.ordinal) site ≡ true
this_one g k site holds = both_hold (eqb g site.function) (same_kind k site.kind) (eqb site.ordinal site.ordinal) holds (eq-eqb site.ordinal site.ordinal refl)

-- ---- one more site
module _ (start : Place) (x : PlacedSite) (behind : List PlacedSite) (number : ℕ) (ds : List DecisionAt) where
  -- a row by the first site that it is of
  abbrev found_row : Site → Option PlacedSite → SiteAt
  found_row site found = record {
    place = place_of start found;
    about = about_of found;
    consumed = number + first_choice site Consume ds;
    produced = number + first_choice site Produce ds;
  }

  placed_other : (site : Site) → same_site site x.site ≡ false → row_behind start behind number ds site ≡ row_behind start (x ∷ behind) number ds site
  placed_other site fails = sym (ap (λ b. found_row site (cond b (Some x) (find (λ y. same_site site y.site) behind))) fails)

  placed_this : (site : Site) → same_site site x.site ≡ true → record (row_behind start behind number ds site) { place = x.place; about = x.about } ≡ row_behind start (x ∷ behind) number ds site
  placed_this site holds = sym (ap (λ b. found_row site (cond b (Some x) (find (λ y. same_site site y.site) behind))) holds)

  module _ (g : ℕ) (k : Kind) (count : ℕ) (olds news : List SiteAt) where
    pub place_set : (old : SiteAt) → is_of g k x.site ≡ true → slice_get olds x.site.ordinal ≡ Some old → news ≡ set olds x.site.ordinal (record old { place = x.place; about = x.about }) → olds ≡ rows_behind g k start behind number ds count → news ≡ rows_behind g k start (x ∷ behind) number ds count
    place_set old holds read is before =
        let f : ℕ → SiteAt = λ n. row_behind start behind number ds (site_of g k n) in
        let h : ℕ → SiteAt = λ n. row_behind start (x ∷ behind) number ds (site_of g k n) in
        let at : ℕ = x.site.ordinal in
        let was : f at ≡ old = row_read f 0 count at at old (omega arith) (sym (ap (λ rs. slice_get rs at) before) ∙ read) in
        let now : record old { place = x.place; about = x.about } ≡ h at = sym (ap (λ (r : SiteAt). record r { place = x.place; about = x.about }) was) ∙ placed_this (site_of g k at) (this_one g k x.site holds) in
        is ∙ ap (λ rs. set rs at (record old { place = x.place; about = x.about })) before
        ∙ row_set f h 0 count at at (record old { place = x.place; about = x.about }) (omega arith) now (λ j fails. placed_other (site_of g k j) (other_ordinal g k x.site j fails))

  module _ (g : ℕ) (k : Kind) (count : ℕ) (olds : List SiteAt) where
    pub place_past : slice_get olds x.site.ordinal ≡ None → olds ≡ rows_behind g k start behind number ds count → olds ≡ rows_behind g k start (x ∷ behind) number ds count
    place_past none before =
        let f : ℕ → SiteAt = λ n. row_behind start behind number ds (site_of g k n) in
        let h : ℕ → SiteAt = λ n. row_behind start (x ∷ behind) number ds (site_of g k n) in
        let at : ℕ = x.site.ordinal in
        before ∙ row_past f h 0 count at at (omega arith) (sym (ap (λ rs. slice_get rs at) before) ∙ none) (λ j fails. placed_other (site_of g k j) (other_ordinal g k x.site j fails))

    pub place_other : is_of g k x.site ≡ false → olds ≡ rows_behind g k start behind number ds count → olds ≡ rows_behind g k start (x ∷ behind) number ds count
    place_other fails before =
        before ∙ rows_same (λ n. row_behind start behind number ds (site_of g k n)) (λ n. row_behind start (x ∷ behind) number ds (site_of g k n)) 0 count (λ j le. placed_other (site_of g k j) (other_kind g k x.site j fails))

-- ---- one more decision
first_more : (number : ℕ) (site : Site) (phase : Phase) (d : DecisionAt) (behind : List DecisionAt) → is_first site phase d.origin ≡ false → (number + 1) + first_choice site phase behind ≡ number + first_choice site phase (d ∷ behind)
first_more number site phase d behind fails =
    let later : first_choice site phase (d ∷ behind) ≡ suc (first_choice site phase behind) = ap (λ b. cond b 0 (suc (first_choice site phase behind))) fails in
    omega arith

first_here : (number : ℕ) (site : Site) (phase : Phase) (d : DecisionAt) (behind : List DecisionAt) → is_first site phase d.origin ≡ true → number ≡ number + first_choice site phase (d ∷ behind)
first_here number site phase d behind holds =
    let here : first_choice site phase (d ∷ behind) ≡ 0 = ap (λ b. cond b 0 (suc (first_choice site phase behind))) holds in
    omega arith

-- a choice of another site, or one that isn't the first, is passed over
not_of : (site other : Site) (phase q : Phase) (k : ℕ) → same_site site other ≡ false → is_first site phase (Choice other q k) ≡ false
not_of site other phase q k fails = ap (λ b. b && (same_phase phase q && eqb k 0)) fails

not_nil : (site other : Site) (phase q : Phase) (k : ℕ) → eqb k 0 ≡ false → is_first site phase (Choice other q k) ≡ false
not_nil site other phase q k fails = fails_last (same_site site other) (same_phase phase q) (eqb k 0) fails

is_this : (site other : Site) (phase q : Phase) (k : ℕ) → same_site site other ≡ true → eqb k 0 ≡ true → is_first site phase (Choice other q k) ≡ same_phase phase q
is_this site other phase q k here nil =
    ap (λ b. b && (same_phase phase q && eqb k 0)) here ∙ ap (λ b. same_phase phase q && b) nil ∙ and_true (same_phase phase q)

-- a row by its numbers
abbrev numbers_row : Place → List PlacedSite → Site → (consumed produced : ℕ) → SiteAt
numbers_row start placed site consumed produced = record {
  place = place_of start (find (λ x. same_site site x.site) placed);
  about = about_of (find (λ x. same_site site x.site) placed);
  consumed = consumed;
  produced = produced;
}

module _ (start : Place) (placed : List PlacedSite) (number : ℕ) (d : DecisionAt) (behind : List DecisionAt) where
  later_row : (site : Site) → is_first site Consume d.origin ≡ false → is_first site Produce d.origin ≡ false → row_behind start placed (number + 1) behind site ≡ row_behind start placed number (d ∷ behind) site
  later_row site not_consumed not_produced =
      ap (λ n. numbers_row start placed site n ((number + 1) + first_choice site Produce behind)) (first_more number site Consume d behind not_consumed)
      ∙ ap (numbers_row start placed site (number + first_choice site Consume (d ∷ behind))) (first_more number site Produce d behind not_produced)

  numbered_here : (site other : Site) (q : Phase) (k : ℕ) → d.origin ≡ Choice other q k → same_site site other ≡ true → eqb k 0 ≡ true → numbered (row_behind start placed (number + 1) behind site) q number ≡ row_behind start placed number (d ∷ behind) site
  numbered_here site other Produce k is here nil =
      let produced : is_first site Produce d.origin ≡ true = ap (is_first site Produce) is ∙ is_this site other Produce Produce k here nil in
      let consumed : is_first site Consume d.origin ≡ false = ap (is_first site Consume) is ∙ is_this site other Consume Produce k here nil in
      ap (λ n. numbers_row start placed site n number) (first_more number site Consume d behind consumed)
      ∙ ap (numbers_row start placed site (number + first_choice site Consume (d ∷ behind))) (first_here number site Produce d behind produced)
  numbered_here site other Consume k is here nil =
      let produced : is_first site Produce d.origin ≡ false = ap (is_first site Produce) is ∙ is_this site other Produce Consume k here nil in
      let consumed : is_first site Consume d.origin ≡ true = ap (is_first site Consume) is ∙ is_this site other Consume Consume k here nil in
      ap (λ n. numbers_row start placed site n ((number + 1) + first_choice site Produce behind)) (first_here number site Consume d behind consumed)
      ∙ ap (numbers_row start placed site (number + first_choice site Consume (d ∷ behind))) (first_more number site Produce d behind produced)

  module _ (g : ℕ) (k : Kind) (count : ℕ) (olds : List SiteAt) where
    -- it is the first choice of no row
    all_later : ((n : ℕ) (phase : Phase) → is_first (site_of g k n) phase d.origin ≡ false) → olds ≡ rows_behind g k start placed (number + 1) behind count → olds ≡ rows_behind g k start placed number (d ∷ behind) count
    all_later fails before =
        before ∙ rows_same (λ n. row_behind start placed (number + 1) behind (site_of g k n)) (λ n. row_behind start placed number (d ∷ behind) (site_of g k n)) 0 count (λ j le. later_row (site_of g k j) (fails j Consume) (fails j Produce))

    module _ (other : Site) (q : Phase) (choice : ℕ) (is : d.origin ≡ Choice other q choice) where
      pub not_nil_later : (choice ≡ 0 → ⊥) → olds ≡ rows_behind g k start placed (number + 1) behind count → olds ≡ rows_behind g k start placed number (d ∷ behind) count
      not_nil_later more = all_later (λ n phase. ap (is_first (site_of g k n) phase) is ∙ not_nil (site_of g k n) other phase q choice (not_same (eqb choice 0) (λ nil. more (eqb-true choice 0 nil))))

      pub other_later : is_of g k other ≡ false → olds ≡ rows_behind g k start placed (number + 1) behind count → olds ≡ rows_behind g k start placed number (d ∷ behind) count
      other_later fails = all_later (λ n phase. ap (is_first (site_of g k n) phase) is ∙ not_of (site_of g k n) other phase q choice (other_kind g k other n fails))

      others_later : (j : ℕ) → (j ≡ other.ordinal → ⊥) → row_behind start placed (number + 1) behind (site_of g k j) ≡ row_behind start placed number (d ∷ behind) (site_of g k j)
      others_later j far =
          let passed : (phase : Phase) → is_first (site_of g k j) phase d.origin ≡ false = λ phase. ap (is_first (site_of g k j) phase) is ∙ not_of (site_of g k j) other phase q choice (other_ordinal g k other j far) in
          later_row (site_of g k j) (passed Consume) (passed Produce)

      pub number_past : slice_get olds other.ordinal ≡ None → olds ≡ rows_behind g k start placed (number + 1) behind count → olds ≡ rows_behind g k start placed number (d ∷ behind) count
      number_past none before =
          let at : ℕ = other.ordinal in
          before ∙ row_past (λ n. row_behind start placed (number + 1) behind (site_of g k n)) (λ n. row_behind start placed number (d ∷ behind) (site_of g k n)) 0 count at at (omega arith) (sym (ap (λ rs. slice_get rs at) before) ∙ none) others_later

      pub number_set : (news : List SiteAt) (old : SiteAt) → choice ≡ 0 → is_of g k other ≡ true → slice_get olds other.ordinal ≡ Some old → news ≡ set olds other.ordinal (numbered old q number) → olds ≡ rows_behind g k start placed (number + 1) behind count → news ≡ rows_behind g k start placed number (d ∷ behind) count
      number_set news old nil holds read set_is before =
          let f : ℕ → SiteAt = λ n. row_behind start placed (number + 1) behind (site_of g k n) in
          let h : ℕ → SiteAt = λ n. row_behind start placed number (d ∷ behind) (site_of g k n) in
          let at : ℕ = other.ordinal in
          let was : f at ≡ old = row_read f 0 count at at old (omega arith) (sym (ap (λ rs. slice_get rs at) before) ∙ read) in
          let now : numbered old q number ≡ h at = sym (ap (λ r. numbered r q number) was) ∙ numbered_here (site_of g k at) other q choice is (this_one g k other holds) (eq-eqb choice 0 nil) in
          set_is ∙ ap (λ rs. set rs at (numbered old q number)) before ∙ row_set f h 0 count at at (numbered old q number) (omega arith) now others_later

-- ---- at first, and in the end
pub at_first : (g : ℕ) (k : Kind) (start : Place) (number count : ℕ) → replicate count (record { place = start; about = None; consumed = number; produced = number }) ≡ rows_behind g k start [] number [] count
at_first g k start number count =
    let blank : SiteAt = record { place = start; about = None; consumed = number; produced = number } in
    let plus : number ≡ number + 0 = omega arith in
    rows_alike blank 0 count ∙ rows_same (λ n. blank) (λ n. row_behind start [] number [] (site_of g k n)) 0 count (λ j le. ap (λ n. record { place = start; about = None; consumed = n; produced = n }) plus)

pub at_last : (g : ℕ) (k : Kind) (start : Place) (placed : List PlacedSite) (ds : List DecisionAt) → rows_behind g k start placed 0 ds (count_of k placed) ≡ rows g start placed ds k
at_last g k start placed ds =
    rows_same (λ n. row_behind start placed 0 ds (site_of g k n)) (λ n. row start placed ds (site_of g k n)) 0 (count_of k placed)
    (λ j le.
    let consumed : 0 + first_choice (site_of g k j) Consume ds ≡ first_choice (site_of g k j) Consume ds = omega arith in
    let produced : 0 + first_choice (site_of g k j) Produce ds ≡ first_choice (site_of g k j) Produce ds = omega arith in
    ap (λ n. numbers_row start placed (site_of g k j) n (0 + first_choice (site_of g k j) Produce ds)) consumed
    ∙ ap (numbers_row start placed (site_of g k j) (first_choice (site_of g k j) Consume ds)) produced)
