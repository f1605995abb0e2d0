-- What is placed for a record is its placement.
use Rattle.std.proofs.Common.{◌≡◌, ◌+◌, ℕ, zero, suc, Bool, true, false, not, ◌||◌, ◌&&◌, eqb, Some, None, List, [], ◌∷◌, inl, inr, refl, sym, ap, subst, ◌∙◌, arith}
use Rattle.std.specs.Prelude.{◌⊎◌, IsTrue, IsFalse, All, if◌then◌else◌, slice_get}
use Rattle.std.proofs.lemmas.Option.{slice_get_within, same_Some, get_or_from_slice_get}
use Rattle.std.proofs.lemmas.Bool.{cases_Bool, eqb-true, eq-eqb, false≢true, or_left, or_right, or_cases, and_parts, and_from}
use Rattle.gc0_base.specs.declared.site.Site.{Site}
use Rattle.gc0_base.specs.declared.site.Part.{Part}
use Rattle.core_tree.specs.CoreTree.{CoreStmt, do_step, do_set, do_unary, do_binary, do_load, do_store, do_new, do_call, do_library, do_if, do_loop, do_return, do_assert, do_raise, do_note, Code, no_code, code_and, CoreFunction, Core}
use Rattle.core_meaning.specs.CorePrecision.{stmt_calls, code_calls, Reaches, itself, through}
use Rattle.core_meaning.specs.CoreFits.{CoreStmtFits, CodeFits, CoreFunctionFits}
use Rattle.core_meaning.specs.CoreSited.{same_site}
use Rattle.core_meaning.specs.Stepped.{EachFrom, IsStepped}
use Rattle.core_checks.specs.Entries.{Entry}
use Rattle.core_checks.specs.Placements.{Guarded, Placement, kept_at, same_part, is_free, is_kept_free, placed_of, Keeps, IsPlacement}
use Rattle.check_placement.specs.Tracked.{has_entry, start_of, starts, AreTracked}
use Rattle.assumption_log.proofs.SameSites.{equal_sites, same_itself}

-- ---- functions with a kept part are those with an entry
cons_not : {X : Type 0} (x : X) (xs : List X) → x ∷ xs ≡ [] → ⊥
cons_not x xs e = cc

module _ (all : List Entry) (site : Site) where
  abbrev guarded : Entry → Guarded
  guarded e = record { decisions = e.decisions; part = e.part }

  abbrev is_due : Entry → Bool
  is_due e = same_site e.site site && (is_free e.decisions || not (is_kept_free all site e.part))

  due_here : (e : Entry) (es : List Entry) (b : Bool) → (if b then guarded e ∷ placed_of all es site else placed_of all es site) ≡ [] → placed_of all es site ≡ []
  due_here e es true n = absurd (cons_not _ _ n)
  due_here e es false n = n

  not_due : (e : Entry) (es : List Entry) (b : Bool) → b ≡ true → (if b then guarded e ∷ placed_of all es site else placed_of all es site) ≡ [] → ⊥
  not_due e es true t n = cons_not _ _ n
  not_due e es false t n = false≢true t

  -- a part that is kept free is placed
  free_placed : (es : List Entry) (part : Part) → is_kept_free es site part ≡ true → placed_of all es site ≡ [] → ⊥
  free_placed [] part t n = false≢true t
  free_placed (e ∷ es) part t n = elim (or_cases (same_site e.site site && (is_free e.decisions && same_part e.part part)) (is_kept_free es site part) t) [
    | inl here ↦
        let at = and_parts (same_site e.site site) (is_free e.decisions && same_part e.part part) here in
        let free = and_parts (is_free e.decisions) (same_part e.part part) at.1 in
        not_due e es (is_due e) (and_from _ _ at.0 (or_left (is_free e.decisions) (not (is_kept_free all site e.part)) free.0)) n
    | inr later ↦ free_placed es part later (due_here e es (is_due e) n)
  ]

  -- an entry of the site
  abbrev has_site : List Entry → Bool
  has_site [] = false
  has_site (e ∷ es) = same_site e.site site || has_site es

  -- it is placed, or one that is free is kept in its stead
  entry_placed : (es : List Entry) → has_site es ≡ true → placed_of all es site ≡ [] → (part : Part) × (is_kept_free all site part ≡ true)
  entry_placed [] t n = absurd (false≢true t)
  entry_placed (e ∷ es) t n = elim (or_cases (same_site e.site site) (has_site es) t) [
    | inl here ↦ elim (cases_Bool (is_kept_free all site e.part)) [
      | inl kept ↦ (e.part, kept)
      | inr none ↦ absurd (not_due e es (is_due e) (and_from _ _ here (or_right (is_free e.decisions) (not (is_kept_free all site e.part)) (ap not none))) n)
    ]
    | inr later ↦ entry_placed es later (due_here e es (is_due e) n)
  ]

  pub site_placed : has_site all ≡ true → placed_of all all site ≡ [] → ⊥
  site_placed t n = let x = entry_placed all t n in free_placed all x.0 x.1 n

  -- what is placed is an entry of the function
  pub placed_entry : (es : List Entry) → (placed_of all es site ≡ [] → ⊥) → has_entry site.function es ≡ true
  placed_entry [] some = absurd (some refl)
  placed_entry (e ∷ es) some = elim (cases_Bool (same_site e.site site)) [
    | inl here ↦ or_left (eqb e.site.function site.function) (has_entry site.function es) (eq-eqb _ _ (equal_sites e.site site here).functions)
    | inr other ↦ or_right (eqb e.site.function site.function) (has_entry site.function es)
        (placed_entry es (λ n. some (ap (λ b. if b && (is_free e.decisions || not (is_kept_free all site e.part)) then guarded e ∷ placed_of all es site else placed_of all es site) other ∙ n)))
  ]

-- the site of an entry of a function
entry_site : (es : List Entry) (g : ℕ) → has_entry g es ≡ true → (site : Site) × (site.function ≡ g) × (has_site es site es ≡ true)
entry_site [] g t = absurd (false≢true t)
entry_site (e ∷ es) g t = elim (or_cases (eqb e.site.function g) (has_entry g es) t) [
  | inl here ↦ (e.site, eqb-true e.site.function g here, or_left (same_site e.site e.site) (has_site es e.site es) (same_itself e.site))
  | inr later ↦ let x = entry_site es g later in (x.0, x.1, or_right (same_site e.site x.0) (has_site es x.0 es) x.2)
]

-- ---- what is called is a function
module _ (c : Core) (f : CoreFunction) (g : ℕ) where
  abbrev Found : Type 0
  Found = (h : CoreFunction) × (slice_get c.functions g ≡ Some h)

  two_callee : (x y : Code) → (code_calls g x ≡ true → Found) → (code_calls g y ≡ true → Found) → (code_calls g x || code_calls g y) ≡ true → Found
  two_callee x y in_x in_y e = elim (or_cases (code_calls g x) (code_calls g y) e) [
    | inl l ↦ in_x l
    | inr l ↦ in_y l
  ]

  mutual
    stmt_callee : (s : CoreStmt) → CoreStmtFits c f s → stmt_calls g s ≡ true → Found
    stmt_callee do_step fit e = absurd (false≢true e)
    stmt_callee (do_set to a) fit e = absurd (false≢true e)
    stmt_callee (do_unary to o a) fit e = absurd (false≢true e)
    stmt_callee (do_binary to o a b site) fit e = absurd (false≢true e)
    stmt_callee (do_load to base k field site) fit e = absurd (false≢true e)
    stmt_callee (do_store base k field value site) fit e = absurd (false≢true e)
    stmt_callee (do_new to k) fit e = absurd (false≢true e)
    stmt_callee (do_call to k args site) fit e = (fit.0, ap (slice_get c.functions) (sym (eqb-true k g e)) ∙ fit.1)
    stmt_callee (do_library to l a t site) fit e = absurd (false≢true e)
    stmt_callee (do_if d a these those) fit e = two_callee these those (code_callee these fit.1) (code_callee those fit.2) e
    stmt_callee (do_loop entry again inv d test a body) fit e = two_callee test body (code_callee test fit.1) (code_callee body fit.3) e
    stmt_callee (do_return a site) fit e = absurd (false≢true e)
    stmt_callee (do_assert a site) fit e = absurd (false≢true e)
    stmt_callee (do_raise t site) fit e = absurd (false≢true e)
    stmt_callee (do_note k formula site) fit e = absurd (false≢true e)

    code_callee : (code : Code) → CodeFits c f code → code_calls g code ≡ true → Found
    code_callee no_code fit e = absurd (false≢true e)
    code_callee (code_and s rest) fit e = elim (or_cases (stmt_calls g s) (code_calls g rest) e) [
      | inl l ↦ stmt_callee s fit.0 l
      | inr l ↦ code_callee rest fit.1 l
    ]

none_there : (f : CoreFunction) → None ≡ Some f → ⊥
none_there f e = cc

-- what each function meets, from a number on
each_at : (P : ℕ → CoreFunction → Type 0) (n : ℕ) (fs : List CoreFunction) → EachFrom n fs P → (g : ℕ) (f : CoreFunction) → slice_get fs g ≡ Some f → (m : ℕ) → m ≡ n + g → P m f
each_at P n [] each g f there m e = absurd (none_there f there)
each_at P n (h ∷ fs) each zero f there m e =
    let at : n ≡ m = omega (arith, e) in
    subst (λ m. P m f) at (subst (P n) (same_Some h f there) each.0)
each_at P n (h ∷ fs) each (suc g) f there m e = each_at P (suc n) fs each.1 g f there m (omega (arith, e))

all_at : {X : Type 0} (P : X → Type 0) (xs : List X) → All P xs → (k : ℕ) (x : X) → slice_get xs k ≡ Some x → P x
all_at P xs all k x at = subst P (get_or_from_slice_get xs k x x at) (all k x (slice_get_within xs k x at))

module _ (c : Core) (stepped : IsStepped c) where
  reached : {g h : ℕ} (f : CoreFunction) → slice_get c.functions g ≡ Some f → Reaches c g h → (fn : CoreFunction) × (slice_get c.functions h ≡ Some fn)
  reached f at (itself g) = (f, at)
  reached f at (through g k h fn here calls rest) =
      let fit : CoreFunctionFits c fn = all_at (CoreFunctionFits c) c.functions stepped.shapes.functions g fn here in
      let next = code_callee c fn k fn.body fit.body calls in
      reached next.0 next.1 rest

  joined : {f g h : ℕ} → Reaches c f g → Reaches c g h → Reaches c f h
  joined (itself f) r = r
  joined (through f k g fn at calls rest) r = through f k _ fn at calls (joined rest r)

  -- a plain function reaches plain ones alone
  plain_on : (g h : ℕ) (f fn : CoreFunction) → slice_get c.functions g ≡ Some f → slice_get c.functions h ≡ Some fn → Reaches c g h → f.plain ≡ true → fn.plain ≡ true
  plain_on g h f fn at there r t =
      let mine = each_at _ 0 c.functions stepped.plain g f at g (omega arith) in
      let its = each_at _ 0 c.functions stepped.plain h fn there h (omega arith) in
      its.1 (λ k x s e. mine.0 t k x (joined r s) e)

  module _ (es : List Entry) (p : Placement) (kept : (site : Site) → kept_at p site ≡ placed_of es es site) (tracked : AreTracked c es p.tracked) where
    keeps : (h : ℕ) → has_entry h es ≡ true → Keeps p h
    keeps h t = let x = entry_site es h t in (x.0, x.1, λ n. site_placed es x.0 x.2 (sym (kept x.0) ∙ n))

    has : (h : ℕ) → Keeps p h → has_entry h es ≡ true
    has h k = subst (λ n. has_entry n es ≡ true) k.1 (placed_entry es k.0 es (λ n. k.2 (kept k.0 ∙ n)))

    to : (g : ℕ) (f : CoreFunction) → slice_get c.functions g ≡ Some f → (h : ℕ) × Reaches c g h × IsTrue (starts c es h) → IsFalse f.plain ⊎ ((h : ℕ) × Reaches c g h × Keeps p h)
    to g f at x =
        let fn = reached f at x.1 in
        let s : (not fn.0.plain || has_entry x.0 es) ≡ true = sym (ap (start_of es x.0) fn.1) ∙ x.2 in
        elim (cases_Bool f.plain) [
          | inr shut ↦ inl shut
          | inl plain ↦ elim (or_cases (not fn.0.plain) (has_entry x.0 es) s) [
            | inl some ↦ absurd (false≢true (sym (ap not (plain_on g x.0 f fn.0 at fn.1 x.1 plain)) ∙ some))
            | inr t ↦ inr (x.0, x.1, keeps x.0 t)
          ]
        ]

    from : (g : ℕ) (f : CoreFunction) → slice_get c.functions g ≡ Some f → IsFalse f.plain ⊎ ((h : ℕ) × Reaches c g h × Keeps p h) → (h : ℕ) × Reaches c g h × IsTrue (starts c es h)
    from g f at (inl some) = (g, itself g, ap (start_of es g) at ∙ or_left (not f.plain) (has_entry g es) (ap not some))
    from g f at (inr x) =
        let fn = reached f at x.1 in
        (x.0, x.1, ap (start_of es x.0) fn.1 ∙ or_right (not fn.0.plain) (has_entry x.0 es) (has x.0 x.2))

    pub placement_right : IsPlacement c es p
    placement_right = record {
      kept = kept;
      tracked = λ g f at. (λ m. to g f at ((tracked g).0 m), λ x. (tracked g).1 (from g f at x));
    }
