-- What is decided at each site of a core.
use Rattle.std.specs.Prelude.{ℕ, Bool, true, false, eqb, List, [], ◌∷◌, ◌++◌, Option, Some, None, is_some, if◌then◌else◌, slice_get}
use Rattle.gc0_base.specs.declared.site.Site.{Site}
use Rattle.gc0_base.specs.declared.site.Part.{Part}
use Rattle.gc0_tree.specs.Tree.{Formula, NoteKind, assert_note, fold_note, unfold_note}
use Rattle.core_tree.specs.CoreTree.{CoreStmt, do_step, do_set, do_unary, do_binary, do_load, do_store, do_new, do_call, do_library, do_if, do_loop, do_return, do_assert, do_raise, do_note, Code, no_code, code_and, CoreFunction, Core}
use Rattle.c0_meaning.specs.Heaps.{Cells, Heap}
use Rattle.c0_meaning.specs.Holds.{holds}
use Rattle.core_meaning.specs.CoreRunning.{before_of, start_at}
use Rattle.core_meaning.specs.CoreSited.{same_site}
use Rattle.core_checks.specs.Parts.{part_says, access_says}

pub data Subject : Type 0 where
  -- a formula, that of a fold or not
  of_formula : (folded : Bool) → Formula → Subject
  -- whether a cell is owned
  of_access : Subject
  -- C0's own fault: no part is kept there
  of_fault : Subject

pub record SubjectAt : Type 0 where
  pub site : Site
  pub subject : Subject

abbrev pub subject_at_one : Site → Subject → List SubjectAt
subject_at_one site x = record { site = site; subject = x } ∷ []

abbrev pub maybe_fault : Option Site → List SubjectAt
maybe_fault None = []
maybe_fault (Some site) = subject_at_one site of_fault

abbrev pub is_fold : NoteKind → Bool
is_fold assert_note = false
is_fold fold_note = true
is_fold unfold_note = false

-- in the order in which the sites stand
abbrev mutual
  pub stmt_subjects : Core → CoreFunction → CoreStmt → List SubjectAt
  stmt_subjects c f do_step = []
  stmt_subjects c f (do_set to a) = []
  stmt_subjects c f (do_unary to o a) = []
  stmt_subjects c f (do_binary to o a b site) = maybe_fault site
  stmt_subjects c f (do_load to base k field site) = subject_at_one site of_access
  stmt_subjects c f (do_store base k field value site) = subject_at_one site of_access
  stmt_subjects c f (do_new to k) = []
  stmt_subjects c f (do_call to g args site) = subject_at_one site (of_formula false (before_of (slice_get c.functions g)))
  stmt_subjects c f (do_library to l a t site) = maybe_fault site
  stmt_subjects c f (do_if d a these those) = code_subjects c f these ++ code_subjects c f those
  stmt_subjects c f (do_loop entry again inv d test a body) =
      subject_at_one entry (of_formula false inv) ++ (subject_at_one again (of_formula false inv) ++ (code_subjects c f test ++ code_subjects c f body))
  stmt_subjects c f (do_return a site) = subject_at_one site (of_formula false f.after)
  stmt_subjects c f (do_assert a site) = subject_at_one site of_fault
  stmt_subjects c f (do_raise t site) = subject_at_one site of_fault
  stmt_subjects c f (do_note k formula site) = subject_at_one site (of_formula (is_fold k) formula)

  pub code_subjects : Core → CoreFunction → Code → List SubjectAt
  code_subjects c f no_code = []
  code_subjects c f (code_and s rest) = stmt_subjects c f s ++ code_subjects c f rest

-- `main` has the start of the program besides
abbrev pub start_subjects : Core → ℕ → CoreFunction → List SubjectAt
start_subjects c g f = if eqb g c.main then subject_at_one (start_at g) (of_formula false f.before) else []

abbrev pub function_subjects : Core → ℕ → Option CoreFunction → List SubjectAt
function_subjects c g None = []
function_subjects c g (Some f) = start_subjects c g f ++ code_subjects c f f.body

abbrev pub find_subject : Site → List SubjectAt → Option Subject
find_subject site [] = None
find_subject site (x ∷ xs) = if same_site x.site site then Some x.subject else find_subject site xs

-- what is decided at a site, where there is one
abbrev pub subject_of : Core → Site → Option Subject
subject_of c site = find_subject site (function_subjects c site.function (slice_get c.functions site.function))

-- Whether what is decided holds. At an access the words are the object and the field.
abbrev pub subject_holds : Core → Subject → List ℕ → Heap → Cells → Bool
subject_holds c (of_formula folded formula) words heap owned = is_some (holds c.predicates formula words heap owned)
subject_holds c of_access words heap owned = access_says owned words
subject_holds c of_fault words heap owned = true

-- what a part of it says
abbrev pub subject_says : Core → Subject → Part → List ℕ → Heap → Cells → Bool
subject_says c (of_formula folded formula) part words heap owned = part_says c.predicates folded formula part words heap owned
subject_says c of_access part words heap owned = access_says owned words
subject_says c of_fault part words heap owned = true
