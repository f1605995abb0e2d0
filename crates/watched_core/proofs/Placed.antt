-- The parts that a placement has at a site say what the entries of the record say there.
use Rattle.std.proofs.Common.{◌≡◌, Bool, true, false, not, ◌&&◌, ◌||◌, List, [], ◌∷◌, Option, Some, None, refl, sym, ap, ◌∙◌, subst}
use Rattle.std.proofs.lemmas.Bool.{eqb-true}
use Rattle.std.specs.Prelude.{if◌then◌else◌, IfSome}
use Rattle.gc0_base.specs.declared.site.Site.{Site}
use Rattle.gc0_base.specs.declared.site.Part.{Part}
use Rattle.gc0_base.specs.declared.site.Part.TheVariants.{Value, Reach, Access, Whole, Separate}
use Rattle.core_tree.specs.CoreTree.{Core}
use Rattle.core_meaning.specs.CoreRuns.{Visit}
use Rattle.core_meaning.specs.CoreSited.{same_site}
use Rattle.core_checks.specs.Subjects.{Subject, subject_of, subject_holds, subject_says}
use Rattle.core_checks.specs.Entries.{Known, Entry, among_last, entry_says, entries_say, AreRight}
use Rattle.core_checks.specs.Placements.{Guarded, Placement, kept_at, same_part, is_free, is_kept_free, placed_of}
use Rattle.watched_core.proofs.Fine.{guard_says, guards_say, AreFine}
use Rattle.watched_core.proofs.Follow.{false_true}

and_first : (a b : Bool) → (a && b) ≡ true → a ≡ true
and_first true b e = refl
and_first false b e = false_true e

and_second : (a b : Bool) → (a && b) ≡ true → b ≡ true
and_second true b e = e
and_second false b e = false_true e

and_both : (a b : Bool) → a ≡ true → b ≡ true → (a && b) ≡ true
and_both true b e f = f
and_both false b e f = false_true e

or_right : (a b : Bool) → b ≡ true → (a || b) ≡ true
or_right true b e = refl
or_right false b e = e

bool_same : (a b : Bool) → (a ≡ true → b ≡ true) → (b ≡ true → a ≡ true) → a ≡ b
bool_same true b f g = sym (f refl)
bool_same false true f g = g refl
bool_same false false f g = refl

part_is : (a b : Part) → same_part a b ≡ true → a ≡ b
part_is (Value j) (Value k) e = ap Value (eqb-true j k e)
part_is (Value j) (Reach k) e = false_true e
part_is (Value j) Access e = false_true e
part_is (Value j) Whole e = false_true e
part_is (Value j) Separate e = false_true e
part_is (Reach j) (Value k) e = false_true e
part_is (Reach j) (Reach k) e = ap Reach (eqb-true j k e)
part_is (Reach j) Access e = false_true e
part_is (Reach j) Whole e = false_true e
part_is (Reach j) Separate e = false_true e
part_is Access (Value k) e = false_true e
part_is Access (Reach k) e = false_true e
part_is Access Access e = refl
part_is Access Whole e = false_true e
part_is Access Separate e = false_true e
part_is Whole (Value k) e = false_true e
part_is Whole (Reach k) e = false_true e
part_is Whole Access e = false_true e
part_is Whole Whole e = refl
part_is Whole Separate e = false_true e
part_is Separate (Value k) e = false_true e
part_is Separate (Reach k) e = false_true e
part_is Separate Access e = false_true e
part_is Separate Whole e = false_true e
part_is Separate Separate e = refl

module _ (c : Core) (x : Subject) (v : Visit) (all : List Entry) where
  abbrev says : Part → Bool
  says part = subject_says c x part v.words v.heap v.owned

  abbrev guards : List Guarded → Bool
  guards gs = guards_say c x v gs

  abbrev entries : List Entry → Bool
  entries es = entries_say c x v es

  abbrev is_placed : Entry → Bool
  is_placed e = is_free e.decisions || not (is_kept_free all v.site e.part)

  abbrev guard_of : Entry → Guarded
  guard_of e = record { decisions = e.decisions; part = e.part }

  -- an entry at the site says what its guard says
  at_site : (e : Entry) → same_site e.site v.site ≡ true → entry_says c x v e ≡ guard_says c x v (guard_of e)
  at_site e s = ap (λ b. not (b && among_last v.outcomes e.decisions) || says e.part) s

  elsewhere : (e : Entry) → same_site e.site v.site ≡ false → entry_says c x v e ≡ true
  elsewhere e s = ap (λ b. not (b && among_last v.outcomes e.decisions) || says e.part) s

  -- ---- the entries say yes: so do the guards
  to_guards : (es : List Entry) → entries es ≡ true → guards (placed_of all es v.site) ≡ true
  to_guards [] h = refl
  to_guards (e ∷ es) h = by_site (to_guards es (and_second (entry_says c x v e) (entries es) h)) (same_site e.site v.site) refl (is_placed e)
    where
      by_site : guards (placed_of all es v.site) ≡ true → (s : Bool) → same_site e.site v.site ≡ s → (t : Bool) → guards (if s && t then guard_of e ∷ placed_of all es v.site else placed_of all es v.site) ≡ true
      by_site r true s true = and_both (guard_says c x v (guard_of e)) (guards (placed_of all es v.site)) (sym (at_site e s) ∙ and_first (entry_says c x v e) (entries es) h) r
      by_site r true s false = r
      by_site r false s t = r

  -- ---- the guards say yes: so do the entries
  free_last : (ds : List Known) → is_free ds ≡ true → among_last v.outcomes ds ≡ true
  free_last [] e = refl
  free_last (d ∷ ds) e = false_true e

  says_free : (a b : Bool) → a ≡ true → (not a || b) ≡ true → b ≡ true
  says_free true b e h = h
  says_free false b e h = false_true e

  -- a part that is kept without decisions holds
  kept_free : (es : List Entry) (part : Part) → guards (placed_of all es v.site) ≡ true → is_kept_free es v.site part ≡ true → says part ≡ true
  kept_free [] part h k = false_true k
  kept_free (e ∷ es) part h k = by_here (λ k. kept_free es part (rest (same_site e.site v.site) (is_placed e) h) k) (same_site e.site v.site && (is_free e.decisions && same_part e.part part)) refl k
    where
      rest : (s t : Bool) → guards (if s && t then guard_of e ∷ placed_of all es v.site else placed_of all es v.site) ≡ true → guards (placed_of all es v.site) ≡ true
      rest true true g = and_second (guard_says c x v (guard_of e)) (guards (placed_of all es v.site)) g
      rest true false g = g
      rest false t g = g

      here : (s f : Bool) → s ≡ true → f ≡ true → guards (if s && (f || not (is_kept_free all v.site e.part)) then guard_of e ∷ placed_of all es v.site else placed_of all es v.site) ≡ true → guard_says c x v (guard_of e) ≡ true
      here true true a b g = and_first (guard_says c x v (guard_of e)) (guards (placed_of all es v.site)) g
      here true false a b g = false_true b
      here false f a b g = false_true a

      by_here : (is_kept_free es v.site part ≡ true → says part ≡ true) → (b : Bool) → (same_site e.site v.site && (is_free e.decisions && same_part e.part part)) ≡ b → (b || is_kept_free es v.site part) ≡ true → says part ≡ true
      by_here more true q k =
          let s = and_first (same_site e.site v.site) (is_free e.decisions && same_part e.part part) q in
          let r = and_second (same_site e.site v.site) (is_free e.decisions && same_part e.part part) q in
          let f = and_first (is_free e.decisions) (same_part e.part part) r in
          subst (λ d. says d ≡ true) (part_is e.part part (and_second (is_free e.decisions) (same_part e.part part) r))
          (says_free (among_last v.outcomes e.decisions) (says e.part) (free_last e.decisions f) (here (same_site e.site v.site) (is_free e.decisions) s f h))
      by_here more false q k = more k

  to_entries : (es : List Entry) → guards (placed_of all all v.site) ≡ true → guards (placed_of all es v.site) ≡ true → entries es ≡ true
  to_entries [] g h = refl
  to_entries (e ∷ es) g h = by_site (λ h. to_entries es g h) (same_site e.site v.site) refl (is_placed e) refl h
    where
      -- a guarded part that is left out
      left_out : (f k : Bool) → is_kept_free all v.site e.part ≡ k → (f || not k) ≡ false → is_kept_free all v.site e.part ≡ true
      left_out true k q r = false_true (sym r)
      left_out false true q r = q
      left_out false false q r = false_true (sym r)

      by_site : (guards (placed_of all es v.site) ≡ true → entries es ≡ true) → (s : Bool) → same_site e.site v.site ≡ s → (t : Bool) → is_placed e ≡ t → guards (if s && t then guard_of e ∷ placed_of all es v.site else placed_of all es v.site) ≡ true → (entry_says c x v e && entries es) ≡ true
      by_site more true s true t h = and_both (entry_says c x v e) (entries es) (at_site e s ∙ and_first (guard_says c x v (guard_of e)) (guards (placed_of all es v.site)) h) (more (and_second (guard_says c x v (guard_of e)) (guards (placed_of all es v.site)) h))
      by_site more true s false t h = and_both (entry_says c x v e) (entries es)
          (at_site e s ∙ or_right (not (among_last v.outcomes e.decisions)) (says e.part) (kept_free all e.part g (left_out (is_free e.decisions) (is_kept_free all v.site e.part) refl t))) (more h)
      by_site more false s t q h = and_both (entry_says c x v e) (entries es) (elsewhere e s) (more h)

  pub placed_says : guards (placed_of all all v.site) ≡ entries all
  placed_says = bool_same (guards (placed_of all all v.site)) (entries all) (λ h. to_entries all h h) (to_guards all)

-- what is right by the record is fine by its placement
pub fine_of : (c : Core) (es : List Entry) (p : Placement) → ((site : Site) → kept_at p site ≡ placed_of es es site) → (vs : List Visit) → AreRight c es vs → AreFine c p vs
fine_of c es p kept [] r = tt
fine_of c es p kept (v ∷ vs) r = (by_subject (subject_of c v.site) r.0, fine_of c es p kept vs r.1)
  where
    by_subject : (o : Option Subject) → IfSome o (λ x. subject_holds c x v.words v.heap v.owned ≡ entries_say c x v es) → IfSome o (λ x. subject_holds c x v.words v.heap v.owned ≡ guards_say c x v (kept_at p v.site))
    by_subject None r = r
    by_subject (Some x) r = r ∙ sym (placed_says c x v es) ∙ ap (guards_say c x v) (sym (kept v.site))
