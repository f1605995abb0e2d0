-- The statements of the core that the code makes, as they are seen.
use Rattle.std.proofs.Common.{◌≡◌, ℕ, List, Option, rules, refl, ap, sym, ◌∙◌}
use Rattle.gc0_base.specs.declared.place.Place.{Place}
use Rattle.gc0_base.specs.declared.site.Site.{Site}
use Rattle.gc0_base.specs.declared.site.Decision.{Decision}
use Rattle.gc0_tree.specs.declared.Formula.{Formula}
use Rattle.gc0_tree.specs.declared.Note.{Note}
use Rattle.gc0_tree.specs.declared.Note.TheVariants as note
use Rattle.gc0_tree.specs.Tree as tree
use Rattle.gc0_tree.specs.Views.{formula_view, note_form}
use Rattle.core_tree.specs.declared.Simple.{Simple}
use Rattle.core_tree.specs.declared.CoreStmt.{CoreStmt}
use Rattle.core_tree.specs.declared.CoreStmt.TheVariants as stmt
use Rattle.core_tree.specs.declared.CoreStmt.TheViews.{the_lemmas}
use Rattle.core_tree.specs.declared.CoreStmt.TheFolds.{fold_out-CoreStmt}
use Rattle.core_tree.specs.CoreTree as core
use Rattle.core_tree.specs.CoreTree.{do_step, do_set, do_load, do_store, do_if, do_loop, do_return, do_assert, do_raise, do_note}
use Rattle.core_tree.specs.CoreViews.{core_stmt_view, code_view, note_at}

pub step_view : core_stmt_view stmt.Step ≡ do_step
step_view = search (rules, the_lemmas, fold_out-CoreStmt)

pub set_view : (to : ℕ) (a : Simple) → core_stmt_view (stmt.Set to a) ≡ do_set to a
set_view to a = search (rules, the_lemmas, fold_out-CoreStmt)

pub load_view : (to : ℕ) (base : Simple) (k field : ℕ) (site : Site) → core_stmt_view (stmt.Load to base k field site) ≡ do_load to base k field site
load_view to base k field site = search (rules, the_lemmas, fold_out-CoreStmt)

pub store_view : (base : Simple) (k field : ℕ) (v : Simple) (site : Site) → core_stmt_view (stmt.Store base k field v site) ≡ do_store base k field v site
store_view base k field v site = search (rules, the_lemmas, fold_out-CoreStmt)

pub if_view : (d : Decision) (v : Simple) (these those : List CoreStmt) → core_stmt_view (stmt.If d v these those) ≡ do_if d v (code_view these) (code_view those)
if_view d v these those = search (rules, the_lemmas, fold_out-CoreStmt)

pub loop_view : (entry again : Site) (inv : Formula) (d : Decision) (test : List CoreStmt) (v : Simple) (body : List CoreStmt) →
    core_stmt_view (stmt.Loop entry again inv d test v body) ≡ do_loop entry again (formula_view inv) d (code_view test) v (code_view body)
loop_view entry again inv d test v body = search (rules, the_lemmas, fold_out-CoreStmt)

pub return_view : (v : Option Simple) (site : Site) → core_stmt_view (stmt.Return v site) ≡ do_return v site
return_view v site = search (rules, the_lemmas, fold_out-CoreStmt)

pub assert_view : (v : Simple) (site : Site) → core_stmt_view (stmt.Assert v site) ≡ do_assert v site
assert_view v site = search (rules, the_lemmas, fold_out-CoreStmt)

pub raise_view : (t : ℕ) (site : Site) → core_stmt_view (stmt.Raise t site) ≡ do_raise t site
raise_view t site = search (rules, the_lemmas, fold_out-CoreStmt)

pub note_view : (n : Note) (site : Site) → core_stmt_view (stmt.Note n site) ≡ note_at n site
note_view n site = search (rules, the_lemmas, fold_out-CoreStmt)

-- the statement of the core, of one of the program
written_of : tree.Stmt → Site → core.CoreStmt
written_of (tree.note_at at k f) site = core.do_note k f site
written_of s site = core.do_step

written_is : (n : Note) (site : Site) (at : Place) → note_at n site ≡ written_of (note_form n at) site
unfolding written_of
written_is (note.Assert f) site at = refl
written_is (note.Fold f) site at = refl
written_is (note.Unfold f) site at = refl

-- annotations of one form are written alike
pub note_same : (n m : Note) (site : Site) (at : Place) → ((x : Place) → note_form n x ≡ note_form m x) → note_at n site ≡ note_at m site
note_same n m site at h = written_is n site at ∙ ap (λ s. written_of s site) (h at) ∙ sym (written_is m site at)
