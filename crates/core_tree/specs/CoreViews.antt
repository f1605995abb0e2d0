-- The cores that values of the code stand for, by one fold.
use Rattle.std.specs.Prelude.{List, [], ◌∷◌, map}
use Rattle.gc0_base.specs.declared.site.Site.{Site}
use Rattle.gc0_tree.specs.declared.Note.{Note}
use Rattle.gc0_tree.specs.declared.Note.TheVariants as note
use Rattle.gc0_tree.specs.Tree.{assert_note, fold_note, unfold_note}
use Rattle.gc0_tree.specs.Views.{formula_view, struct_view, predicate_view}
use Rattle.core_tree.specs.declared.CoreStmt.{CoreStmt, fold-CoreStmt}
use Rattle.core_tree.specs.declared.CoreStmt.TheOpen.{CoreStmt-F}
use Rattle.core_tree.specs.declared.CoreFunction.{CoreFunction}
use Rattle.core_tree.specs.declared.Core.{Core}
use Rattle.core_tree.specs.CoreTree as tree
use Rattle.core_tree.specs.CoreTree.{Code, no_code, code_and}

abbrev pub code_of : List tree.CoreStmt → Code
code_of [] = no_code
code_of (s ∷ ss) = code_and s (code_of ss)

abbrev pub note_at : Note → Site → tree.CoreStmt
note_at (note.Assert f) site = tree.do_note assert_note (formula_view f) site
note_at (note.Fold f) site = tree.do_note fold_note (formula_view f) site
note_at (note.Unfold f) site = tree.do_note unfold_note (formula_view f) site

-- a statement, with the view of each part in its stead
abbrev pub stmt_of : CoreStmt-F tree.CoreStmt → tree.CoreStmt
stmt_of CoreStmt-F.Step = tree.do_step
stmt_of (CoreStmt-F.Set to a) = tree.do_set to a
stmt_of (CoreStmt-F.Unary to op a) = tree.do_unary to op a
stmt_of (CoreStmt-F.Binary to op a b site) = tree.do_binary to op a b site
stmt_of (CoreStmt-F.Load to base k f site) = tree.do_load to base k f site
stmt_of (CoreStmt-F.Store base k f v site) = tree.do_store base k f v site
stmt_of (CoreStmt-F.New to k) = tree.do_new to k
stmt_of (CoreStmt-F.Call to g args site) = tree.do_call to g args site
stmt_of (CoreStmt-F.Library to l a t site) = tree.do_library to l a t site
stmt_of (CoreStmt-F.If d c these those) = tree.do_if d c (code_of these) (code_of those)
stmt_of (CoreStmt-F.Loop entry again inv d test c body) = tree.do_loop entry again (formula_view inv) d (code_of test) c (code_of body)
stmt_of (CoreStmt-F.Return a site) = tree.do_return a site
stmt_of (CoreStmt-F.Assert a site) = tree.do_assert a site
stmt_of (CoreStmt-F.Raise t site) = tree.do_raise t site
stmt_of (CoreStmt-F.Note n site) = note_at n site

abbrev pub core_stmt_view : CoreStmt → tree.CoreStmt
core_stmt_view = fold-CoreStmt tree.CoreStmt stmt_of

abbrev pub code_view : List CoreStmt → Code
code_view ss = code_of (map core_stmt_view ss)

abbrev pub core_function_view : CoreFunction → tree.CoreFunction
core_function_view f = record {
  name = f.name;
  place = f.place;
  params = f.params;
  locals = f.locals;
  temps = f.temps;
  result = f.result;
  before = formula_view f.before;
  after = formula_view f.after;
  plain = f.plain;
  paths = f.paths;
  decisions = f.decisions;
  sites = f.sites;
  body = code_view f.body;
}

abbrev pub core_view : Core → tree.Core
core_view c = record { structs = map struct_view c.structs; predicates = map predicate_view c.predicates; functions = map core_function_view c.functions; main = c.main; texts = c.texts }
