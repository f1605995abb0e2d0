-- The sites of the subjects of a stepped core are those of its code, and that of its start.
use Rattle.std.proofs.Common.{◌≡◌, ℕ, Bool, true, false, not, ◌&&◌, eqb, List, [], ◌∷◌, ◌++◌, Some, None, refl, sym, ap, ◌∙◌}
use Rattle.std.specs.Prelude.{Option, if◌then◌else◌}
use Rattle.std.specs.List.{list_all}
use Rattle.std.proofs.lemmas.Bool.{false≢true, and_parts, and_from, eq-eqb, eqb-true}
use Rattle.gc0_base.specs.declared.site.Site.{Site}
use Rattle.gc0_base.specs.declared.site.Kind.TheVariants as kind
use Rattle.gc0_tree.specs.Tree.{NoteKind, assert_note, fold_note, unfold_note}
use Rattle.core_tree.specs.CoreTree.{CoreStmt, do_step, do_set, do_unary, do_binary, do_load, do_store, do_new, do_call, do_library, do_if, do_loop, do_return, do_assert, do_raise, do_note, Code, no_code, code_and, CoreFunction, Core}
use Rattle.c0_meaning.specs.Running.{note_kind}
use Rattle.core_meaning.specs.CoreRunning.{start_at}
use Rattle.core_meaning.specs.CoreSited.{Sited, same_kind, kind_number, is_of, maybe_sited, stmt_sites, code_sites}
use Rattle.core_meaning.specs.Stepped.{AreSited}
use Rattle.core_checks.specs.Subjects.{of_formula, SubjectAt, maybe_fault, stmt_subjects, code_subjects, function_subjects}
use Rattle.kept_laws.proofs.Distinct.{differs, distinct, sites_of, sited_sites, distinct_sites}

sites_joined : (xs ys : List SubjectAt) → sites_of (xs ++ ys) ≡ sites_of xs ++ sites_of ys
sites_joined [] ys = refl
sites_joined (x ∷ xs) ys = ap (λ l. x.site ∷ l) (sites_joined xs ys)

sited_joined : (xs ys : List Sited) → sited_sites (xs ++ ys) ≡ sited_sites xs ++ sited_sites ys
sited_joined [] ys = refl
sited_joined (x ∷ xs) ys = ap (λ l. x.site ∷ l) (sited_joined xs ys)

module _ (c : Core) (f : CoreFunction) where
  maybe_same : (site : Option Site) (k : _) → sites_of (maybe_fault site) ≡ sited_sites (maybe_sited site k)
  maybe_same None k = refl
  maybe_same (Some site) k = refl

  two_same : (x y : Code) → sites_of (code_subjects c f x) ≡ sited_sites (code_sites x) → sites_of (code_subjects c f y) ≡ sited_sites (code_sites y)
      → sites_of (code_subjects c f x ++ code_subjects c f y) ≡ sited_sites (code_sites x ++ code_sites y)
  two_same x y p q =
      sites_joined (code_subjects c f x) (code_subjects c f y) ∙ ap (λ l. l ++ sites_of (code_subjects c f y)) p ∙ ap (λ l. sited_sites (code_sites x) ++ l) q
      ∙ sym (sited_joined (code_sites x) (code_sites y))

  mutual
    stmt_same : (s : CoreStmt) → sites_of (stmt_subjects c f s) ≡ sited_sites (stmt_sites s)
    stmt_same do_step = refl
    stmt_same (do_set to a) = refl
    stmt_same (do_unary to o a) = refl
    stmt_same (do_binary to o a b site) = maybe_same site kind.Trap
    stmt_same (do_load to base k field site) = refl
    stmt_same (do_store base k field value site) = refl
    stmt_same (do_new to k) = refl
    stmt_same (do_call to g args site) = refl
    stmt_same (do_library to l a t site) = maybe_same site kind.Trap
    stmt_same (do_if d a these those) = two_same these those (code_same these) (code_same those)
    stmt_same (do_loop entry again inv d test a body) = ap (λ l. entry ∷ (again ∷ l)) (two_same test body (code_same test) (code_same body))
    stmt_same (do_return a site) = refl
    stmt_same (do_assert a site) = refl
    stmt_same (do_raise t site) = refl
    stmt_same (do_note k formula site) = refl

    code_same : (code : Code) → sites_of (code_subjects c f code) ≡ sited_sites (code_sites code)
    code_same no_code = refl
    code_same (code_and s rest) =
        sites_joined (stmt_subjects c f s) (code_subjects c f rest) ∙ ap (λ l. l ++ sites_of (code_subjects c f rest)) (stmt_same s) ∙ ap (λ l. sited_sites (stmt_sites s) ++ l) (code_same rest)
        ∙ sym (sited_joined (stmt_sites s) (code_sites rest))

-- ---- no statement is at a start
abbrev no_start : Sited → Bool
no_start x = not (same_kind kind.Start x.kind)

all_joined : (xs ys : List Sited) → list_all no_start xs ≡ true → list_all no_start ys ≡ true → list_all no_start (xs ++ ys) ≡ true
all_joined [] ys a b = b
all_joined (x ∷ xs) ys a b = let both = and_parts (no_start x) (list_all no_start xs) a in and_from _ _ both.0 (all_joined xs ys both.1 b)

maybe_later : (site : Option Site) → list_all no_start (maybe_sited site kind.Trap) ≡ true
maybe_later None = refl
maybe_later (Some site) = refl

note_later : (k : NoteKind) → (not (same_kind kind.Start (note_kind k)) && true) ≡ true
note_later assert_note = refl
note_later fold_note = refl
note_later unfold_note = refl

mutual
  stmt_later : (s : CoreStmt) → list_all no_start (stmt_sites s) ≡ true
  stmt_later do_step = refl
  stmt_later (do_set to a) = refl
  stmt_later (do_unary to o a) = refl
  stmt_later (do_binary to o a b site) = maybe_later site
  stmt_later (do_load to base k field site) = refl
  stmt_later (do_store base k field value site) = refl
  stmt_later (do_new to k) = refl
  stmt_later (do_call to g args site) = refl
  stmt_later (do_library to l a t site) = maybe_later site
  stmt_later (do_if d a these those) = all_joined (code_sites these) (code_sites those) (code_later these) (code_later those)
  stmt_later (do_loop entry again inv d test a body) = all_joined (code_sites test) (code_sites body) (code_later test) (code_later body)
  stmt_later (do_return a site) = refl
  stmt_later (do_assert a site) = refl
  stmt_later (do_raise t site) = refl
  stmt_later (do_note k formula site) = note_later k

  code_later : (code : Code) → list_all no_start (code_sites code) ≡ true
  code_later no_code = refl
  code_later (code_and s rest) = all_joined (stmt_sites s) (code_sites rest) (stmt_later s) (code_later rest)

-- the start differs from sites of other kinds
start_differs : (g : ℕ) (xs : List Sited) → list_all (is_of g) xs ≡ true → list_all no_start xs ≡ true → list_all (differs (start_at g)) (sited_sites xs) ≡ true
start_differs g [] kinds later = refl
start_differs g (x ∷ xs) kinds later =
    let here = and_parts (is_of g x) (list_all (is_of g) xs) kinds in
    let off = and_parts (no_start x) (list_all no_start xs) later in
    and_from _ _ (apart (same_kind kind.Start x.site.kind) refl here.0 off.0) (start_differs g xs here.1 off.1)
  where
    apart : (b : Bool) → same_kind kind.Start x.site.kind ≡ b → is_of g x ≡ true → no_start x ≡ true → differs (start_at g) x.site ≡ true
    apart false q of none = ap (λ k. not (eqb g x.site.function && (k && eqb 0 x.site.ordinal))) q ∙ ap not (and_none (eqb g x.site.function))
      where
        and_none : (b : Bool) → (b && false) ≡ false
        and_none true = refl
        and_none false = refl
    apart true q of none =
        let same = eqb-true (kind_number x.site.kind) (kind_number x.kind) (and_parts (eqb x.site.function g) (same_kind x.site.kind x.kind) of).1 in
        absurd (false≢true (ap not (sym q ∙ ap (eqb 0) same) ∙ none))

-- ---- the subjects of a function
pub function_sites : (c : Core) (g : ℕ) (f : CoreFunction) → AreSited c g f → distinct (sites_of (function_subjects c g (Some f))) ≡ true
function_sites c g f sited = by (eqb g c.main)
  where
    code : distinct (sites_of (code_subjects c f f.body)) ≡ true
    code = ap distinct (code_same c f f.body) ∙ sym (distinct_sites (code_sites f.body)) ∙ sited.distinct

    by : (b : Bool) → distinct (sites_of ((if b then record { site = start_at g; subject = of_formula false f.before } ∷ [] else []) ++ code_subjects c f f.body)) ≡ true
    by true = and_from _ _ (ap (list_all (differs (start_at g))) (code_same c f f.body) ∙ start_differs g (code_sites f.body) sited.kinds (code_later f.body)) code
    by false = code

-- each is of the function
abbrev pub is_in : ℕ → Site → Bool
is_in g s = eqb s.function g

sited_in : (g : ℕ) (xs : List Sited) → list_all (is_of g) xs ≡ true → list_all (is_in g) (sited_sites xs) ≡ true
sited_in g [] all = refl
sited_in g (x ∷ xs) all =
    let both = and_parts (is_of g x) (list_all (is_of g) xs) all in
    and_from _ _ (and_parts (eqb x.site.function g) (same_kind x.site.kind x.kind) both.0).0 (sited_in g xs both.1)

pub function_in : (c : Core) (g : ℕ) (f : CoreFunction) → AreSited c g f → list_all (is_in g) (sites_of (function_subjects c g (Some f))) ≡ true
function_in c g f sited = by (eqb g c.main)
  where
    code : list_all (is_in g) (sites_of (code_subjects c f f.body)) ≡ true
    code = ap (list_all (is_in g)) (code_same c f f.body) ∙ sited_in g (code_sites f.body) sited.kinds

    by : (b : Bool) → list_all (is_in g) (sites_of ((if b then record { site = start_at g; subject = of_formula false f.before } ∷ [] else []) ++ code_subjects c f f.body)) ≡ true
    by true = and_from _ _ (eq-eqb g g refl) code
    by false = code
