-- The views of the statements that the code of expressions consists of.
use Rattle.std.proofs.Common.{◌≡◌, ℕ, List, Option, rules}
use Rattle.gc0_base.specs.declared.site.Site.{Site}
use Rattle.gc0_base.specs.declared.site.Decision.{Decision}
use Rattle.gc0_tree.specs.declared.LibraryCall.{LibraryCall}
use Rattle.gc0_tree.specs.declared.UnaryOp.{UnaryOp}
use Rattle.core_tree.specs.declared.BinaryOp.{BinaryOp}
use Rattle.core_tree.specs.declared.Simple.{Simple}
use Rattle.core_tree.specs.declared.CoreStmt.{CoreStmt}
use Rattle.core_tree.specs.declared.CoreStmt.TheVariants as stmt
use Rattle.core_tree.specs.declared.CoreStmt.TheViews.{the_lemmas}
use Rattle.core_tree.specs.declared.CoreStmt.TheFolds.{fold_out-CoreStmt}
use Rattle.core_tree.specs.CoreTree.{do_step, do_set, do_unary, do_binary, do_load, do_new, do_call, do_library, do_if}
use Rattle.core_tree.specs.CoreViews.{core_stmt_view, code_view}

pub step_view : core_stmt_view stmt.Step ≡ do_step
step_view = search (rules, the_lemmas, fold_out-CoreStmt)

pub set_view : (to : ℕ) (a : Simple) → core_stmt_view (stmt.Set to a) ≡ do_set to a
set_view to a = search (rules, the_lemmas, fold_out-CoreStmt)

pub unary_view : (to : ℕ) (op : UnaryOp) (a : Simple) → core_stmt_view (stmt.Unary to op a) ≡ do_unary to op a
unary_view to op a = search (rules, the_lemmas, fold_out-CoreStmt)

pub binary_view : (to : ℕ) (op : BinaryOp) (a b : Simple) (site : Option Site) → core_stmt_view (stmt.Binary to op a b site) ≡ do_binary to op a b site
binary_view to op a b site = search (rules, the_lemmas, fold_out-CoreStmt)

pub load_view : (to : ℕ) (a : Simple) (k field : ℕ) (site : Site) → core_stmt_view (stmt.Load to a k field site) ≡ do_load to a k field site
load_view to a k field site = search (rules, the_lemmas, fold_out-CoreStmt)

pub new_view : (to k : ℕ) → core_stmt_view (stmt.New to k) ≡ do_new to k
new_view to k = search (rules, the_lemmas, fold_out-CoreStmt)

pub if_view : (d : Decision) (a : Simple) (these those : List CoreStmt) → core_stmt_view (stmt.If d a these those) ≡ do_if d a (code_view these) (code_view those)
if_view d a these those = search (rules, the_lemmas, fold_out-CoreStmt)

pub call_view : (to : Option ℕ) (g : ℕ) (arguments : List ℕ) (site : Site) → core_stmt_view (stmt.Call to g arguments site) ≡ do_call to g arguments site
call_view to g arguments site = search (rules, the_lemmas, fold_out-CoreStmt)

pub library_view : (to : Option ℕ) (l : LibraryCall) (a : Option Simple) (text : Option ℕ) (site : Option Site) → core_stmt_view (stmt.Library to l a text site) ≡ do_library to l a text site
library_view to l a text site = search (rules, the_lemmas, fold_out-CoreStmt)
