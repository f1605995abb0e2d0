-- A stepped core and a placement of a record keep what the statements of each function ask for.
use Rattle.std.proofs.Common.{◌≡◌, ◌⊎◌, inl, inr, ℕ, zero, suc, ◌+◌, Bool, true, false, not, ◌&&◌, ◌||◌, eqb, List, [], ◌∷◌, ◌++◌, All, Option, Some, None, refl, sym, ap, ◌∙◌, subst, arith, IsTrue}
use Rattle.std.proofs.lemmas.Bool.{eqb-true, eq-eqb}
use Rattle.std.proofs.lemmas.List.Elements.{All-head, All-tail}
use Rattle.std.specs.Prelude.{◌↔◌, slice_get, if◌then◌else◌, IsFalse}
use Rattle.std.specs.List.{list_all}
use Rattle.gc0_base.specs.declared.site.Site.{Site}
use Rattle.gc0_base.specs.declared.site.Decision.{Decision}
use Rattle.gc0_tree.specs.Tree.{NoteKind, assert_note, fold_note, unfold_note}
use Rattle.core_tree.specs.declared.DecisionAt.{DecisionAt}
use Rattle.core_tree.specs.CoreTree.{CoreStmt, do_step, do_set, do_unary, do_binary, do_load, do_store, do_new, do_call, do_library, do_if, do_loop, do_return, do_assert, do_raise, do_note, Code, no_code, code_and, CoreFunction, Core}
use Rattle.core_meaning.specs.CoreRunning.{before_of, start_at}
use Rattle.core_meaning.specs.CoreFits.{CoreFits, CoreFunctionFits, CoreStmtFits, CodeFits}
use Rattle.core_meaning.specs.CorePrecision.{stmt_calls, code_calls, Reaches, itself, through, IsPlain}
use Rattle.core_meaning.specs.CoreSited.{Sited, stmt_sites, code_sites, kind_number, same_kind, is_of, same_site, are_distinct}
use Rattle.core_meaning.specs.Deciding.{Due, code_due, start_due, function_due, AreNumbered}
use Rattle.core_meaning.specs.Stepped.{EachFrom, EachFunction, AreSited, AreDecided, IsStepped}
use Rattle.core_checks.specs.Subjects.{of_formula, SubjectAt, stmt_subjects, code_subjects, function_subjects, find_subject}
use Rattle.core_checks.specs.Entries.{Known, Entry, IsEntry, IsDecisionAt}
use Rattle.core_checks.specs.Placements.{Guarded, PlacedAt, Placement, kept_in, kept_at, is_tracked, same_decision, known_tests, guards_test, sites_test, is_tested, placed_of, is_free, is_kept_free, Keeps, IsPlacement}
use Rattle.watched_core.proofs.Follow.{false_true, its}
use Rattle.watched_core.proofs.Deciding.{SiteOk, AllMarked, AllGuards}
use Rattle.watched_core.proofs.Straight.{Each, each_back}
use Rattle.watched_core.proofs.Whole.{FunctionOk}

and_first : (a b : Bool) → (a && b) ≡ true → a ≡ true
and_first true b e = refl
and_first false b e = false_true e

and_second : (a b : Bool) → (a && b) ≡ true → b ≡ true
and_second true b e = e
and_second false b e = false_true e

or_right : (a b : Bool) → b ≡ true → (a || b) ≡ true
or_right true b e = refl
or_right false b e = e

or_left : (a b : Bool) → a ≡ true → (a || b) ≡ true
or_left true b e = refl
or_left false b e = false_true e

not_is : (a : Bool) → not a ≡ true → a ≡ false
not_is true e = false_true e
not_is false e = refl

-- ---- what each function of a core keeps
each_from : (fs : List CoreFunction) (n i : ℕ) (f : CoreFunction) (P : ℕ → CoreFunction → Type 0) → EachFrom n fs P → slice_get fs i ≡ Some f → P (n + i) f
each_from [] n i f P k e = absurd cc
each_from (x ∷ fs) n zero f P k e = let q : x ≡ f = cc in let r : n ≡ n + zero = omega arith in subst (λ m. P m f) r (subst (P n) q k.0)
each_from (x ∷ fs) n (suc i) f P k e = let r : suc n + i ≡ n + suc i = omega arith in subst (λ m. P m f) r (each_from fs (suc n) i f P k.1 e)

each_function : (c : Core) (g : ℕ) (f : CoreFunction) (P : ℕ → CoreFunction → Type 0) → EachFunction c P → slice_get c.functions g ≡ Some f → P g f
each_function c g f P k e = let r : 0 + g ≡ g = omega arith in subst (λ m. P m f) r (each_from c.functions 0 g f P k e)

-- ---- sites and subjects stand side by side
Beside : List SubjectAt → List Sited → Type 0
Beside [] [] = Unit {0}
Beside [] (y ∷ ys) = ⊥
Beside (x ∷ xs) [] = ⊥
Beside (x ∷ xs) (y ∷ ys) = (x.site ≡ y.site) × Beside xs ys

beside_join : (xs : List SubjectAt) (ys : List Sited) (us : List SubjectAt) (vs : List Sited) → Beside xs ys → Beside us vs → Beside (xs ++ us) (ys ++ vs)
unfolding Beside
beside_join [] [] us vs a b = b
beside_join [] (y ∷ ys) us vs a b = absurd a
beside_join (x ∷ xs) [] us vs a b = absurd a
beside_join (x ∷ xs) (y ∷ ys) us vs a b = (a.0, beside_join xs ys us vs a.1 b)

module _ (c : Core) (f : CoreFunction) where
  mutual
    unfolding Beside

    stmt_beside : (s : CoreStmt) → Beside (stmt_subjects c f s) (stmt_sites s)
    stmt_beside do_step = tt
    stmt_beside (do_set to a) = tt
    stmt_beside (do_unary to o a) = tt
    stmt_beside (do_binary to o a b None) = tt
    stmt_beside (do_binary to o a b (Some site)) = (refl, tt)
    stmt_beside (do_load to base k field site) = (refl, tt)
    stmt_beside (do_store base k field value site) = (refl, tt)
    stmt_beside (do_new to k) = tt
    stmt_beside (do_call to g args site) = (refl, tt)
    stmt_beside (do_library to l a t None) = tt
    stmt_beside (do_library to l a t (Some site)) = (refl, tt)
    stmt_beside (do_if d a these those) = beside_join _ _ _ _ (code_beside these) (code_beside those)
    stmt_beside (do_loop entry again inv d test a body) = (refl, (refl, beside_join _ _ _ _ (code_beside test) (code_beside body)))
    stmt_beside (do_return a site) = (refl, tt)
    stmt_beside (do_assert a site) = (refl, tt)
    stmt_beside (do_raise t site) = (refl, tt)
    stmt_beside (do_note k formula site) = (refl, tt)

    code_beside : (code : Code) → Beside (code_subjects c f code) (code_sites code)
    code_beside no_code = tt
    code_beside (code_and s rest) = beside_join _ _ _ _ (stmt_beside s) (code_beside rest)

-- no statement is at the start
is_later : Sited → Bool
is_later x = not (eqb (kind_number x.kind) 0)

and_both : (a b : Bool) → a ≡ true → b ≡ true → (a && b) ≡ true
and_both true b e f = f
and_both false b e f = false_true e

all_join : (ys zs : List Sited) → list_all is_later ys ≡ true → list_all is_later zs ≡ true → list_all is_later (ys ++ zs) ≡ true
all_join [] zs a b = b
all_join (y ∷ ys) zs a b = and_both (is_later y) (list_all is_later (ys ++ zs)) (and_first (is_later y) (list_all is_later ys) a) (all_join ys zs (and_second (is_later y) (list_all is_later ys) a) b)

note_later : (k : NoteKind) (site : Site) (about : Option ℕ) → list_all is_later (record { site = site; kind = Rattle.c0_meaning.specs.Running.note_kind k; about = about } ∷ []) ≡ true
unfolding is_later
note_later assert_note site about = refl
note_later fold_note site about = refl
note_later unfold_note site about = refl

mutual
  unfolding is_later

  stmt_later : (s : CoreStmt) → list_all is_later (stmt_sites s) ≡ true
  stmt_later do_step = refl
  stmt_later (do_set to a) = refl
  stmt_later (do_unary to o a) = refl
  stmt_later (do_binary to o a b None) = refl
  stmt_later (do_binary to o a b (Some site)) = refl
  stmt_later (do_load to base k field site) = refl
  stmt_later (do_store base k field value site) = refl
  stmt_later (do_new to k) = refl
  stmt_later (do_call to g args site) = refl
  stmt_later (do_library to l a t None) = refl
  stmt_later (do_library to l a t (Some site)) = refl
  stmt_later (do_if d a these those) = all_join (code_sites these) (code_sites those) (code_later these) (code_later those)
  stmt_later (do_loop entry again inv d test a body) = all_join (code_sites test) (code_sites body) (code_later test) (code_later body)
  stmt_later (do_return a site) = refl
  stmt_later (do_assert a site) = refl
  stmt_later (do_raise t site) = refl
  stmt_later (do_note k formula site) = note_later k site (Rattle.core_meaning.specs.CoreSited.note_about k formula)

  code_later : (code : Code) → list_all is_later (code_sites code) ≡ true
  code_later no_code = refl
  code_later (code_and s rest) = all_join (stmt_sites s) (code_sites rest) (stmt_later s) (code_later rest)

-- ---- each site is found
site_itself : (a : Site) → same_site a a ≡ true
site_itself a = and_both (eqb a.function a.function) _ (eq-eqb a.function a.function refl) (and_both (same_kind a.kind a.kind) _ (eq-eqb (kind_number a.kind) (kind_number a.kind) refl) (eq-eqb a.ordinal a.ordinal refl))

each_to : {A : Type 0} (P Q : A → Type 0) (xs : List A) → ((x : A) → P x → Q x) → Each P xs → Each Q xs
each_to P Q [] h k = tt
each_to P Q (x ∷ xs) h k = (h x k.0, each_to P Q xs h k.1)

each_two : {A : Type 0} (P Q R : A → Type 0) (xs : List A) → ((x : A) → P x → Q x → R x) → Each P xs → Each Q xs → Each R xs
each_two P Q R [] h k l = tt
each_two P Q R (x ∷ xs) h k l = (h x k.0 l.0, each_two P Q R xs h k.1 l.1)

abbrev Found : List SubjectAt → SubjectAt → Type 0
Found xs x = find_subject x.site xs ≡ Some x.subject

abbrev Apart : Site → SubjectAt → Type 0
Apart site x = same_site site x.site ≡ false

apart_from : (site : Site) (xs : List SubjectAt) (ys : List Sited) → Beside xs ys → list_all (λ y. not (same_site site y.site)) ys ≡ true → Each (Apart site) xs
unfolding Beside
apart_from site [] [] b a = tt
apart_from site [] (y ∷ ys) b a = tt
apart_from site (x ∷ xs) [] b a = absurd b
apart_from site (x ∷ xs) (y ∷ ys) b a = (
  ap (same_site site) b.0 ∙ not_is (same_site site y.site) (and_first (not (same_site site y.site)) (list_all (λ y. not (same_site site y.site)) ys) a),
  apart_from site xs ys b.1 (and_second (not (same_site site y.site)) (list_all (λ y. not (same_site site y.site)) ys) a),
)

found_behind : (x : SubjectAt) (xs : List SubjectAt) (y : SubjectAt) → Found xs y → Apart x.site y → Found (x ∷ xs) y
found_behind x xs y f a = ap (λ b. if b then Some x.subject else find_subject y.site xs) a ∙ f

finds : (xs : List SubjectAt) (ys : List Sited) → Beside xs ys → are_distinct ys ≡ true → Each (Found xs) xs
unfolding Beside
finds [] [] b d = tt
finds [] (y ∷ ys) b d = tt
finds (x ∷ xs) [] b d = absurd b
finds (x ∷ xs) (y ∷ ys) b d = (
  ap (λ t. if t then Some x.subject else find_subject x.site xs) (site_itself x.site),
  each_two (Found xs) (Apart x.site) (Found (x ∷ xs)) xs (found_behind x xs) (finds xs ys b.1 (and_second (list_all (λ z. not (same_site y.site z.site)) ys) (are_distinct ys) d))
      (apart_from x.site xs ys b.1 (subst (λ s. list_all (λ z. not (same_site s z.site)) ys ≡ true) (sym b.0) (and_first (list_all (λ z. not (same_site y.site z.site)) ys) (are_distinct ys) d))),
)

-- ---- each is of its function, and no start
record Later (g : ℕ) (x : SubjectAt) : Type 0 where
  of : x.site.function ≡ g
  kind : eqb (kind_number x.site.kind) 0 ≡ false

later_of : (g : ℕ) (xs : List SubjectAt) (ys : List Sited) → Beside xs ys → list_all (is_of g) ys ≡ true → list_all is_later ys ≡ true → Each (Later g) xs
unfolding Beside is_later
later_of g [] [] b a l = tt
later_of g [] (y ∷ ys) b a l = tt
later_of g (x ∷ xs) [] b a l = absurd b
later_of g (x ∷ xs) (y ∷ ys) b a l = (
  record {
    of = ap (λ s. s.function) b.0 ∙ eqb-true y.site.function g (and_first (eqb y.site.function g) (same_kind y.site.kind y.kind) (and_first (is_of g y) (list_all (is_of g) ys) a));
    kind = ap (λ s. eqb (kind_number s.kind) 0) b.0 ∙ ap (λ n. eqb n 0) (eqb-true (kind_number y.site.kind) (kind_number y.kind) (and_second (eqb y.site.function g) (same_kind y.site.kind y.kind) (and_first (is_of g y) (list_all (is_of g) ys) a)))
        ∙ not_is (eqb (kind_number y.kind) 0) (and_first (is_later y) (list_all is_later ys) l);
  },
  later_of g xs ys b.1 (and_second (is_of g y) (list_all (is_of g) ys) a) (and_second (is_later y) (list_all is_later ys) l),
)

-- ---- guards
abbrev ItsKnown : Site → Known → Type 0
ItsKnown site d = d.0.function ≡ site.function

abbrev ItsGuard : Site → Guarded → Type 0
ItsGuard site x = Each (ItsKnown site) x.decisions

each_all : {A : Type 0} (P : A → Type 0) (xs : List A) → All P xs → Each P xs
each_all P [] k = tt
each_all P (x ∷ xs) k = (All-head P x xs k, each_all P xs (All-tail P x xs k))

its_decisions : (c : Core) (site : Site) (e : Entry) → IsEntry c e → same_site e.site site ≡ true → Each (ItsKnown site) e.decisions
its_decisions c site e k s =
    each_to (IsDecisionAt c e.site) (ItsKnown site) e.decisions (λ d q. q.0 ∙ eqb-true e.site.function site.function (and_first (eqb e.site.function site.function) (same_kind e.site.kind site.kind && eqb e.site.ordinal site.ordinal) s)) (each_all (IsDecisionAt c e.site) e.decisions k.decisions)

placed_its : (c : Core) (all : List Entry) (site : Site) (es : List Entry) → Each (IsEntry c) es → Each (ItsGuard site) (placed_of all es site)
placed_its c all site [] k = tt
placed_its c all site (e ∷ es) k = by_site (same_site e.site site) refl (is_free e.decisions || not (is_kept_free all site e.part)) (placed_its c all site es k.1)
  where
    by_site : (s : Bool) → same_site e.site site ≡ s → (t : Bool) → Each (ItsGuard site) (placed_of all es site) → Each (ItsGuard site) (if s && t then record { decisions = e.decisions; part = e.part } ∷ placed_of all es site else placed_of all es site)
    by_site true q true r = (its_decisions c site e k.0 q, r)
    by_site true q false r = r
    by_site false q t r = r

tests_in : (d : Decision) (site : Site) (xs : List PlacedAt) → guards_test d (kept_in xs site) ≡ true → sites_test d xs ≡ true
tests_in d site [] e = false_true e
tests_in d site (x ∷ xs) e = by_site (same_site x.site site) e (tests_in d site xs)
  where
    by_site : (s : Bool) → guards_test d (if s then x.parts else kept_in xs site) ≡ true → (guards_test d (kept_in xs site) ≡ true → sites_test d xs ≡ true) → (guards_test d x.parts || sites_test d xs) ≡ true
    by_site true e more = or_left (guards_test d x.parts) (sites_test d xs) e
    by_site false e more = or_right (guards_test d x.parts) (sites_test d xs) (more e)

module _ (c : Core) (p : Placement) (g : ℕ) (t : is_tracked p g ≡ true) (site : Site) (of : site.function ≡ g) where
  abbrev Tested : Decision → Type 0
  Tested d = is_tested p d ≡ true

  decision_itself : (d : Decision) → same_decision d d ≡ true
  decision_itself d = and_both (eqb d.function d.function) _ (eq-eqb d.function d.function refl) (eq-eqb d.number d.number refl)

  marked_known : (ds : List Known) → Each (ItsKnown site) ds → ((d : Decision) → known_tests d ds ≡ true → Tested d) → AllMarked c p g ds
  marked_known [] k h = tt
  marked_known (d ∷ ds) k h = (
    and_both (is_tracked p g) (is_tested p (its p g d.0.number)) t (subst (λ f. is_tested p record { function = f; number = d.0.number } ≡ true) (k.0 ∙ of) (h d.0 (or_left (same_decision d.0 d.0) (known_tests d.0 ds) (decision_itself d.0)))),
    marked_known ds k.1 (λ e q. h e (or_right (same_decision e d.0) (known_tests e ds) q)),
  )

  marked_guards : (gs : List Guarded) → Each (ItsGuard site) gs → ((d : Decision) → guards_test d gs ≡ true → Tested d) → AllGuards c p g gs
  marked_guards [] k h = tt
  marked_guards (x ∷ gs) k h =
      (marked_known x.decisions k.0 (λ d q. h d (or_left (known_tests d x.decisions) (guards_test d gs) q)), marked_guards gs k.1 (λ d q. h d (or_right (known_tests d x.decisions) (guards_test d gs) q)))

-- ---- callees
module _ (c : Core) (f : CoreFunction) (h : ℕ) where
  abbrev Exists : Type 0
  Exists = (fn : CoreFunction) × (slice_get c.functions h ≡ Some fn)

  or_case : (a b : Bool) → (a ≡ true → Exists) → (b ≡ true → Exists) → (a || b) ≡ true → Exists
  or_case true b k l e = k refl
  or_case false b k l e = l e

  mutual
    stmt_callee : (s : CoreStmt) → CoreStmtFits c f s → stmt_calls h s ≡ true → Exists
    stmt_callee do_step k e = false_true e
    stmt_callee (do_set to a) k e = false_true e
    stmt_callee (do_unary to o a) k e = false_true e
    stmt_callee (do_binary to o a b site) k e = false_true e
    stmt_callee (do_load to base kk field site) k e = false_true e
    stmt_callee (do_store base kk field value site) k e = false_true e
    stmt_callee (do_new to kk) k e = false_true e
    stmt_callee (do_call to g args site) k e = (k.0, ap (slice_get c.functions) (sym (eqb-true g h e)) ∙ k.1)
    stmt_callee (do_library to l a t site) k e = false_true e
    stmt_callee (do_if d a these those) k e = or_case (code_calls h these) (code_calls h those) (code_callee these k.1) (code_callee those k.2) e
    stmt_callee (do_loop entry again inv d test a body) k e = or_case (code_calls h test) (code_calls h body) (code_callee test k.1) (code_callee body k.3) e
    stmt_callee (do_return a site) k e = false_true e
    stmt_callee (do_assert a site) k e = false_true e
    stmt_callee (do_raise t site) k e = false_true e
    stmt_callee (do_note kk formula site) k e = false_true e

    code_callee : (code : Code) → CodeFits c f code → code_calls h code ≡ true → Exists
    code_callee no_code k e = false_true e
    code_callee (code_and s rest) k e = or_case (stmt_calls h s) (code_calls h rest) (stmt_callee s k.0) (code_callee rest k.1) e

each_get : {A : Type 0} (P : A → Type 0) (xs : List A) (i : ℕ) (x : A) → Each P xs → slice_get xs i ≡ Some x → P x
each_get P [] i x k e = absurd cc
each_get P (y ∷ xs) zero x k e = let q : y ≡ x = cc in subst P q k.0
each_get P (y ∷ xs) (suc i) x k e = each_get P xs i x k.1 e

-- the body of a function fits
body_fits : (c : Core) → CoreFits c → (g : ℕ) (f : CoreFunction) → slice_get c.functions g ≡ Some f → CodeFits c f f.body
body_fits c fits g f there = (each_get (CoreFunctionFits c) c.functions g f (each_all (CoreFunctionFits c) c.functions fits.functions) there).body

-- ---- decisions
its_dues : (g n : ℕ) (xs : List Due) (ds : List DecisionAt) → AreNumbered g n xs ds → Each (λ x. x.decision.function ≡ g) xs
its_dues g n [] ds k = tt
its_dues g n (x ∷ xs) [] k = absurd k
its_dues g n (x ∷ xs) (d ∷ ds) k = (ap (λ q. q.function) k.0, its_dues g (suc n) xs ds k.3)

module _ (c : Core) (es : List Entry) (p : Placement) (stepped : IsStepped c) (entries : All (IsEntry c) es) (placement : IsPlacement c es p) where
  -- a function that isn't tracked has no part at its sites
  no_parts_at : (g : ℕ) (f : CoreFunction) → slice_get c.functions g ≡ Some f → is_tracked p g ≡ false → (site : Site) → site.function ≡ g → kept_at p site ≡ []
  no_parts_at g f there t site of = by_parts (kept_at p site) refl
    where
      cons_nil : (x : Guarded) (gs : List Guarded) → x ∷ gs ≡ [] → ⊥
      cons_nil x gs e = cc

      by_parts : (gs : List Guarded) → kept_at p site ≡ gs → kept_at p site ≡ []
      by_parts [] e = e
      by_parts (x ∷ gs) e = false_true (sym t ∙ (placement.tracked g f there).1 (inr (g, itself g, (site, of, λ z. cons_nil x gs (sym e ∙ z)))))

  guards_at : (g : ℕ) (site : Site) → site.function ≡ g → is_tracked p g ≡ true → AllGuards c p g (kept_at p site)
  guards_at g site of t =
      marked_guards c p g t site of (kept_at p site) (subst (Each (ItsGuard site)) (sym (placement.kept site)) (placed_its c es site es (each_all (IsEntry c) es entries))) (λ d e. tests_in d site p.sites e)

  site_ok : (g : ℕ) (f : CoreFunction) → slice_get c.functions g ≡ Some f → (x : SubjectAt) → x.site.function ≡ g → Found (function_subjects c g (Some f)) x → SiteOk c p g x.site x.subject
  site_ok g f there x of found = record {
    of = of;
    subject = subst (λ h. find_subject x.site (function_subjects c h (slice_get c.functions h)) ≡ Some x.subject) (sym of) (ap (λ o. find_subject x.site (function_subjects c g o)) there ∙ found);
    bare = λ t. no_parts_at g f there t x.site of;
    guards = guards_at g x.site of;
  }

  -- the start of the program is found first, and no statement is there
  start_apart : (g : ℕ) (x : SubjectAt) → Later g x → same_site (start_at g) x.site ≡ false
  start_apart g x l = apart (eqb g x.site.function) (eqb 0 (kind_number x.site.kind)) (eqb 0 x.site.ordinal) (swap (kind_number x.site.kind) l.kind)
    where
      swap : (n : ℕ) → eqb n 0 ≡ false → eqb 0 n ≡ false
      swap zero e = e
      swap (suc n) e = grind arith

      apart : (a b d : Bool) → b ≡ false → (a && (b && d)) ≡ false
      apart true false d e = refl
      apart false false d e = refl
      apart a true d e = false_true (sym e)

  found_after : (g : ℕ) (f : CoreFunction) (x : SubjectAt) → Later g x → Found (code_subjects c f f.body) x → Found (function_subjects c g (Some f)) x
  found_after g f x l found = by_main (eqb g c.main)
    where
      by_main : (b : Bool) → find_subject x.site ((if b then record { site = start_at g; subject = of_formula false f.before } ∷ [] else []) ++ code_subjects c f f.body) ≡ Some x.subject
      by_main true = ap (λ t. if t then Some (of_formula false f.before) else find_subject x.site (code_subjects c f f.body)) (start_apart g x l) ∙ found
      by_main false = found

  pub function_ok : (g : ℕ) (f : CoreFunction) → slice_get c.functions g ≡ Some f → FunctionOk c p g f
  function_ok g f there = record {
    sites = each_two (Later g) (Found (code_subjects c f f.body)) (λ x. SiteOk c p g x.site x.subject) (code_subjects c f f.body) (λ x l k. site_ok g f there x l.of (found_after g f x l k))
        (later_of g (code_subjects c f f.body) (code_sites f.body) (code_beside c f f.body) sited.kinds (code_later f.body)) (finds (code_subjects c f f.body) (code_sites f.body) (code_beside c f f.body) sited.distinct);
    dues = each_back (λ x. x.decision.function ≡ g) (start_due c g f) (code_due c f f.body) (its_dues g 0 (function_due c g f) f.decisions (each_function c g f (AreDecided c) stepped.decisions there).numbered);
    bare = callee_bare;
    tests = each_function c g f (λ g f. IsTrue (Rattle.core_meaning.specs.Stepped.code_tests f.body)) stepped.tests there;
  }
    where
      sited : AreSited c g f
      sited = each_function c g f (AreSited c) stepped.sites there

      callee_bare : (h : ℕ) → code_calls h f.body ≡ true → is_tracked p g ≡ false → is_tracked p h ≡ false
      callee_bare h e t = by_tracked (is_tracked p h) refl
        where
          callee : Exists c f h
          callee = code_callee c f h f.body (body_fits c stepped.shapes g f there) e

          plain : f.plain ≡ true → callee.0.plain ≡ true
          plain q = (each_function c h callee.0 (λ g f. IsTrue f.plain ↔ IsPlain c g) stepped.plain callee.1).1
              (λ k fn r. (each_function c g f (λ g f. IsTrue f.plain ↔ IsPlain c g) stepped.plain there).0 q k fn (through g h k f there e r))

          by_plain : (b : Bool) → f.plain ≡ b → IsFalse callee.0.plain → true ≡ false
          by_plain true q r = sym (plain q) ∙ r
          by_plain false q r = sym ((placement.tracked g f there).1 (inl q)) ∙ t

          by_reason : IsFalse callee.0.plain ⊎ ((k : ℕ) × Reaches c h k × Keeps p k) → true ≡ false
          by_reason (inl q) = by_plain f.plain refl q
          by_reason (inr q) = sym ((placement.tracked g f there).1 (inr (q.0, through g h q.0 f there e q.1, q.2))) ∙ t

          by_tracked : (b : Bool) → is_tracked p h ≡ b → b ≡ false
          by_tracked true q = by_reason ((placement.tracked h callee.0 callee.1).0 q)
          by_tracked false q = refl

  pub start_ok : SiteOk c p c.main (start_at c.main) (of_formula false (before_of (slice_get c.functions c.main)))
  start_ok = by_main (slice_get c.functions c.main) refl stepped.main.0 stepped.main.1
    where
      by_main : (o : Option CoreFunction) → slice_get c.functions c.main ≡ o → (f : CoreFunction) → slice_get c.functions c.main ≡ Some f → SiteOk c p c.main (start_at c.main) (of_formula false (before_of (slice_get c.functions c.main)))
      by_main o e f there =
          subst (λ q. SiteOk c p c.main (start_at c.main) (of_formula false (before_of q))) (sym there)
          (site_ok c.main f there record { site = start_at c.main; subject = of_formula false f.before } refl
          (ap (λ b. find_subject (start_at c.main) ((if b then record { site = start_at c.main; subject = of_formula false f.before } ∷ [] else []) ++ code_subjects c f f.body)) (eq-eqb c.main c.main refl)
          ∙ ap (λ t. if t then Some (of_formula false f.before) else find_subject (start_at c.main) (code_subjects c f f.body)) (site_itself (start_at c.main))))
