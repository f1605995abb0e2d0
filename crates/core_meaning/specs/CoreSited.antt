-- The sites of a core's statements: each of its function and its kind, none shared, each with what is kept of it.
use Rattle.std.specs.Prelude.{ℕ, Bool, true, false, not, ◌&&◌, eqb, List, [], ◌∷◌, ◌++◌, Option, Some, None, is_some}
use Rattle.std.specs.List.{list_all}
use Rattle.gc0_base.specs.declared.site.Site.{Site}
use Rattle.gc0_base.specs.declared.site.Kind.{Kind}
use Rattle.gc0_base.specs.declared.site.Kind.TheVariants as kind
use Rattle.gc0_tree.specs.Sites.{may_fault, reads_input}
use Rattle.gc0_tree.specs.Tree.{Conjuncts, instance_part, Formula, NoteKind, assert_note, fold_note, unfold_note}
use Rattle.core_tree.specs.declared.SiteAt.{SiteAt}
use Rattle.core_tree.specs.CoreTree.{CoreStmt, do_step, do_set, do_unary, do_binary, do_load, do_store, do_new, do_call, do_library, do_if, do_loop, do_return, do_assert, do_raise, do_note, Code, no_code, code_and, Core}
use Rattle.core_tree.specs.CoreSites.{row_at}
use Rattle.c0_meaning.specs.Running.{note_kind}
use Rattle.core_meaning.specs.CoreRunning.{op_of}

-- ---- what a statement's sites are to be
-- a site, the kind that its statement has, and what it is about
pub record Sited : Type 0 where
  pub site : Site
  pub kind : Kind
  pub about : Option ℕ

abbrev pub sited : Site → Kind → List Sited
sited site k = record { site = site; kind = k; about = None } ∷ []

abbrev pub sited_about : Site → Kind → ℕ → List Sited
sited_about site k n = record { site = site; kind = k; about = Some n } ∷ []

-- a site that not each statement of its kind has
abbrev pub maybe_sited : Option Site → Kind → List Sited
maybe_sited None k = []
maybe_sited (Some site) k = sited site k

-- the predicate of the one instance of a fold or an unfold
abbrev pub instance_number : Conjuncts → Option ℕ
instance_number (instance_part at q args rest) = Some q
instance_number parts = None

abbrev pub note_about : NoteKind → Formula → Option ℕ
note_about assert_note formula = None
note_about fold_note formula = instance_number formula.parts
note_about unfold_note formula = instance_number formula.parts

-- the sites of statements, in their order; a loop has two
abbrev mutual
  pub stmt_sites : CoreStmt → List Sited
  stmt_sites do_step = []
  stmt_sites (do_set to a) = []
  stmt_sites (do_unary to o a) = []
  stmt_sites (do_binary to o a b site) = maybe_sited site kind.Trap
  stmt_sites (do_load to base k field site) = sited site kind.Access
  stmt_sites (do_store base k field value site) = sited site kind.Access
  stmt_sites (do_new to k) = []
  stmt_sites (do_call to g args site) = sited_about site kind.Requires g
  stmt_sites (do_library to l a t site) = maybe_sited site kind.Trap
  stmt_sites (do_if d a these those) = code_sites these ++ code_sites those
  stmt_sites (do_loop entry again inv d test a body) =
      sited entry kind.Entry ++ (sited again kind.Again ++ (code_sites test ++ code_sites body))
  stmt_sites (do_return a site) = sited site kind.Ensures
  stmt_sites (do_assert a site) = sited site kind.Trap
  stmt_sites (do_raise t site) = sited_about site kind.Trap t
  stmt_sites (do_note k formula site) = record { site = site; kind = note_kind k; about = note_about k formula } ∷ []

  pub code_sites : Code → List Sited
  code_sites no_code = []
  code_sites (code_and s rest) = stmt_sites s ++ code_sites rest

-- ---- each of its function and kind
abbrev pub kind_number : Kind → ℕ
kind_number kind.Start = 0
kind_number kind.Requires = 1
kind_number kind.Ensures = 2
kind_number kind.Entry = 3
kind_number kind.Again = 4
kind_number kind.Assert = 5
kind_number kind.Fold = 6
kind_number kind.Unfold = 7
kind_number kind.Access = 8
kind_number kind.Trap = 9

abbrev pub same_kind : Kind → Kind → Bool
same_kind j k = eqb (kind_number j) (kind_number k)

abbrev pub is_of : (function : ℕ) → Sited → Bool
is_of g x = eqb x.site.function g && same_kind x.site.kind x.kind

-- ---- none shared
abbrev pub same_site : Site → Site → Bool
same_site a b = eqb a.function b.function && (same_kind a.kind b.kind && eqb a.ordinal b.ordinal)

abbrev pub are_distinct : List Sited → Bool
are_distinct [] = true
are_distinct (x ∷ xs) = list_all (λ y. not (same_site x.site y.site)) xs && are_distinct xs

-- ---- each with a row that names what it is about
abbrev pub same_about : Option ℕ → Option ℕ → Bool
same_about None None = true
same_about (Some m) (Some n) = eqb m n
same_about a b = false

abbrev pub is_about : Option ℕ → Option SiteAt → Bool
is_about n None = false
is_about n (Some row) = same_about n row.about

abbrev pub has_row : Core → Sited → Bool
has_row c x = is_about x.about (row_at c x.site)

-- ---- what has a site, and which loops' sites belong together
abbrev pub same_truth : Bool → Bool → Bool
same_truth true b = b
same_truth false b = not b

-- an operator has one exactly where it may fault, a library call exactly where it reads input; both heads of a loop have
-- one ordinal
abbrev mutual
  pub stmt_sited : CoreStmt → Bool
  stmt_sited do_step = true
  stmt_sited (do_set to a) = true
  stmt_sited (do_unary to o a) = true
  stmt_sited (do_binary to o a b site) = same_truth (is_some site) (may_fault (op_of o))
  stmt_sited (do_load to base k field site) = true
  stmt_sited (do_store base k field value site) = true
  stmt_sited (do_new to k) = true
  stmt_sited (do_call to g args site) = true
  stmt_sited (do_library to l a t site) = same_truth (is_some site) (reads_input l)
  stmt_sited (do_if d a these those) = code_sited these && code_sited those
  stmt_sited (do_loop entry again inv d test a body) = eqb entry.ordinal again.ordinal && (code_sited test && code_sited body)
  stmt_sited (do_return a site) = true
  stmt_sited (do_assert a site) = true
  stmt_sited (do_raise t site) = true
  stmt_sited (do_note k formula site) = true

  pub code_sited : Code → Bool
  code_sited no_code = true
  code_sited (code_and s rest) = stmt_sited s && code_sited rest
