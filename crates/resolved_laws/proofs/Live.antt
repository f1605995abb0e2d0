-- Where no path leads behind statements, none leads behind the resolved ones.
use Rattle.std.proofs.Common.{◌≡◌, ℕ, Bool, true, false, not, ◌||◌, ◌&&◌, List, [], ◌∷◌, Option, Some, None, if◌then◌else◌, refl, sym, ap, ◌∙◌}
use Rattle.std.proofs.lemmas.Bool.{and_parts}
use Rattle.gc0_base.specs.declared.place.Place.{Place}
use Rattle.gc0_tree.specs.declared.ExprOp.{ExprOp}
use Rattle.gc0_tree.specs.Tree as gc0
use Rattle.parsed_tree.specs.Tree.{ExprTree, number, truth, null, local, outcome, unary, binary, choose, arrow, call, call_text, alloc, acc, NoteTree, NoteForm, assert_note, fold_note, unfold_note, SimpleTree, declare, assign, stepped, plain, StmtTree, simple_stmt, block_stmt, if_stmt, while_stmt, for_stmt, return_stmt, assert_stmt, error_stmt, notes_stmt, StmtTrees, no_stmts, stmt_and}
use Rattle.c0_names.specs.declared.tables.Tables.{Tables}
use Rattle.c0_names.specs.Names.{last_place}
use Rattle.c0_value_rules.specs.declared.scope.Flow.{Flow}
use Rattle.c0_value_rules.specs.declared.scope.Scope.{Scope}
use Rattle.c0_value_rules.specs.Scopes.{flow_with, both_assigned, closed, joined}
use Rattle.c0_rules.specs.Behind.{target_behind, simple_behind, part_behind, stmt_behind, stmts_behind}
use Rattle.c0_value_numbers.specs.declared.frame.Frame.{Frame}
use Rattle.c0_value_numbers.specs.Texts.{Texts, expr_texts}
use Rattle.c0_numbers.specs.StatementTexts.{stmt_texts}
use Rattle.c0_numbers.specs.Statements.{put_tree, simple_tree, part_tree, stmt_frame, note_form, notes_tree, alone, before, stmt_tree, stmts_tree, else_tree}
use Rattle.lowering_laws.specs.Ends.{stmt_ends, stmts_end}
use Rattle.resolved_laws.proofs.Elses.{at_most_one, one_else, ones_else}

and_all : (x : Bool) → x ≡ (x && true)
and_all true = refl
and_all false = refl

and_none : (x : Bool) → false ≡ (x && false)
and_none true = refl
and_none false = refl

or_none : (x : Bool) → (x || false) ≡ x
or_none true = refl
or_none false = refl

-- ---- what is put into a target ends no path
flow_live : (f : Flow) (o : Option ℕ) → (flow_with f o).live ≡ f.live
flow_live f None = refl
flow_live f (Some i) = refl

target_live : (scope : Scope) (x : ExprTree) → (target_behind scope x).flow.live ≡ scope.flow.live
target_live scope (local s n) = flow_live scope.flow (last_place scope.names n)
target_live scope (number s w) = refl
target_live scope (truth s b) = refl
target_live scope (null s) = refl
target_live scope (outcome s) = refl
target_live scope (unary s o x) = refl
target_live scope (binary s o x y) = refl
target_live scope (choose s x y z) = refl
target_live scope (arrow s x n) = refl
target_live scope (call s n xs) = refl
target_live scope (call_text s n t) = refl
target_live scope (alloc s t) = refl
target_live scope (acc s x p n) = refl

put_ends : (u : Tables) (f : Frame) (ts : Texts) (x : ExprTree) (o : Option ExprOp) (q : Place) (y : gc0.Tree) → stmt_ends (put_tree u f ts x o q y) ≡ false
put_ends u f ts (local s n) o q y = refl
put_ends u f ts (number s w) o q y = refl
put_ends u f ts (truth s b) o q y = refl
put_ends u f ts (null s) o q y = refl
put_ends u f ts (outcome s) o q y = refl
put_ends u f ts (unary s p x) o q y = refl
put_ends u f ts (binary s p x z) o q y = refl
put_ends u f ts (choose s x z w) o q y = refl
put_ends u f ts (arrow s x n) o q y = refl
put_ends u f ts (call s n xs) o q y = refl
put_ends u f ts (call_text s n t) o q y = refl
put_ends u f ts (alloc s t) o q y = refl
put_ends u f ts (acc s x p n) o q y = refl

simple_live : (t : Tables) (scope : Scope) (s : SimpleTree) → (simple_behind t scope s).flow.live ≡ scope.flow.live
simple_live t scope (declare n name v) = refl
simple_live t scope (assign x q o y) = target_live scope x
simple_live t scope (stepped x q o) = target_live scope x
simple_live t scope (plain x) = refl

simple_ends : (u : Tables) (f : Frame) (ts : Texts) (s : SimpleTree) → stmt_ends (simple_tree u f ts s) ≡ false
simple_ends u f ts (declare n name v) = refl
simple_ends u f ts (assign x q o y) = put_ends u f ts x _ q _
simple_ends u f ts (stepped x q o) = put_ends u f ts x _ q _
simple_ends u f ts (plain x) = refl

part_live : (t : Tables) (scope : Scope) (s : Option SimpleTree) → (part_behind t scope s).flow.live ≡ scope.flow.live
part_live t scope None = refl
part_live t scope (Some s) = simple_live t scope s

part_ends : (u : Tables) (f : Frame) (ts : Texts) (s : Option SimpleTree) → stmts_end (part_tree u f ts s) ≡ false
part_ends u f ts None = refl
part_ends u f ts (Some s) = ap (λ b. b || false) (simple_ends u f ts s)

-- ---- annotations
note_ends : (u : Tables) (f : Frame) (p : Place) (n : NoteForm) → stmt_ends (note_form u f p n) ≡ false
note_ends u f p (assert_note g) = refl
note_ends u f p (fold_note i) = refl
note_ends u f p (unfold_note i) = refl

notes_end : (u : Tables) (f : Frame) (ns : List NoteTree) (rest : gc0.Stmts) → stmts_end (notes_tree u f ns rest) ≡ stmts_end rest
notes_end u f [] rest = refl
notes_end u f (n ∷ ns) rest = ap (λ b. b || stmts_end (notes_tree u f ns rest)) (note_ends u f n.place n.form) ∙ notes_end u f ns rest

alone_ends : (p : Place) (ss : gc0.Stmts) → stmt_ends (alone p ss) ≡ stmts_end ss
alone_ends p gc0.no_stmts = refl
alone_ends p (gc0.stmt_and s gc0.no_stmts) = sym (or_none (stmt_ends s))
alone_ends p (gc0.stmt_and s (gc0.stmt_and r ss)) = refl

noted_ends : (u : Tables) (f : Frame) (p : Place) (ns : List NoteTree) → stmt_ends (alone p (notes_tree u f ns gc0.no_stmts)) ≡ false
noted_ends u f p ns = alone_ends p (notes_tree u f ns gc0.no_stmts) ∙ notes_end u f ns gc0.no_stmts

before_ends : (u : Tables) (f : Frame) (ts : Texts) (s : StmtTree) (rest : gc0.Stmts) → stmts_end (before u f s (stmt_tree u f ts s) rest) ≡ (stmt_ends (stmt_tree u f ts s) || stmts_end rest)
before_ends u f ts (notes_stmt p ns) rest = notes_end u f ns rest ∙ sym (ap (λ b. b || stmts_end rest) (noted_ends u f p ns))
before_ends u f ts (simple_stmt s) rest = refl
before_ends u f ts (block_stmt p ss) rest = refl
before_ends u f ts (if_stmt p e s os) rest = refl
before_ends u f ts (while_stmt p e is s) rest = refl
before_ends u f ts (for_stmt p a e b is s) rest = refl
before_ends u f ts (return_stmt p e) rest = refl
before_ends u f ts (assert_stmt p e) rest = refl
before_ends u f ts (error_stmt p x) rest = refl

-- ---- truths
pick : (a b : Bool) (x y z : Flow) → x.live ≡ y.live → a ≡ y.live → (if a then (if b then x else y) else z).live ≡ (y.live || z.live)
pick true true x y z e h = e ∙ sym h ∙ ap (λ q. q || z.live) h
pick true false x y z e h = sym h ∙ ap (λ q. q || z.live) h
pick false b x y z e h = ap (λ q. q || z.live) h

joined_live : (f g : Flow) → (joined f g).live ≡ (f.live || g.live)
joined_live f g = pick f.live g.live (record f { assigned = both_assigned f.assigned g.assigned }) f g refl refl

meet : (l a b : Bool) → ((l && not a) || (l && not b)) ≡ (l && not (a && b))
meet false a b = refl
meet true false b = refl
meet true true b = refl

through : (l a b : Bool) → ((l && not a) && not b) ≡ (l && not (a || b))
through false a b = refl
through true false b = refl
through true true b = refl

-- ---- statements
mutual
  pub stmt_live : (t u : Tables) (scope : Scope) (f : Frame) (ts : Texts) (s : StmtTree) → one_else s ≡ true → (stmt_behind t scope s).flow.live ≡ (scope.flow.live && not (stmt_ends (stmt_tree u f ts s)))
  stmt_live t u scope f ts (simple_stmt s) h = simple_live t scope s ∙ and_all scope.flow.live ∙ sym (ap (λ b. scope.flow.live && not b) (simple_ends u f ts s))
  stmt_live t u scope f ts (block_stmt p ss) h = stmts_live t u scope f ts ss h
  stmt_live t u scope f ts (if_stmt p e s os) h =
      let q = and_parts (one_else s) (at_most_one os && ones_else os) h in
      let r = and_parts (at_most_one os) (ones_else os) q.1 in
      let ts1 = expr_texts ts e in
      let f1 = stmt_frame u f s in
      let ts2 = stmt_texts ts1 s in
      let a = stmt_ends (stmt_tree u f ts1 s) in
      let b = stmts_end (else_tree u f1 ts2 os) in
      let l = scope.flow.live in
      let x : (closed scope (stmt_behind t scope s)).flow.live ≡ (l && not a) = stmt_live t u scope f ts1 s q.0 in
      let y : (closed scope (stmts_behind t scope os)).flow.live ≡ (l && not b) = else_live t u scope f1 ts2 os r.0 r.1 in
      joined_live (closed scope (stmt_behind t scope s)).flow (closed scope (stmts_behind t scope os)).flow
      ∙ ap (λ z. z || (closed scope (stmts_behind t scope os)).flow.live) x ∙ ap (λ z. (l && not a) || z) y ∙ meet l a b
  stmt_live t u scope f ts (while_stmt p e is s) h = and_all scope.flow.live
  stmt_live t u scope f ts (for_stmt p a e b is s) h = part_live t scope a ∙ and_all scope.flow.live ∙ sym (ap (λ z. scope.flow.live && not z) (part_ends u f ts a))
  stmt_live t u scope f ts (return_stmt p e) h = and_none scope.flow.live
  stmt_live t u scope f ts (assert_stmt p e) h = and_all scope.flow.live
  stmt_live t u scope f ts (error_stmt p x) h = and_none scope.flow.live
  stmt_live t u scope f ts (notes_stmt p ns) h = and_all scope.flow.live ∙ sym (ap (λ z. scope.flow.live && not z) (noted_ends u f p ns))

  pub stmts_live : (t u : Tables) (scope : Scope) (f : Frame) (ts : Texts) (ss : StmtTrees) → ones_else ss ≡ true → (stmts_behind t scope ss).flow.live ≡ (scope.flow.live && not (stmts_end (stmts_tree u f ts ss)))
  stmts_live t u scope f ts no_stmts h = and_all scope.flow.live
  stmts_live t u scope f ts (stmt_and s ss) h =
      let q = and_parts (one_else s) (ones_else ss) h in
      let f1 = stmt_frame u f s in
      let ts1 = stmt_texts ts s in
      let a = stmt_ends (stmt_tree u f ts s) in
      let rest = stmts_tree u f1 ts1 ss in
      let l = scope.flow.live in
      stmts_live t u (stmt_behind t scope s) f1 ts1 ss q.1 ∙ ap (λ z. z && not (stmts_end rest)) (stmt_live t u scope f ts s q.0)
      ∙ through l a (stmts_end rest) ∙ sym (ap (λ z. l && not z) (before_ends u f ts s rest))

  else_live : (t u : Tables) (scope : Scope) (f : Frame) (ts : Texts) (os : StmtTrees) → at_most_one os ≡ true → ones_else os ≡ true → (stmts_behind t scope os).flow.live ≡ (scope.flow.live && not (stmts_end (else_tree u f ts os)))
  else_live t u scope f ts no_stmts m h = and_all scope.flow.live
  else_live t u scope f ts (stmt_and s no_stmts) m h =
      let q = and_parts (one_else s) true h in
      stmt_live t u scope f ts s q.0 ∙ sym (ap (λ z. scope.flow.live && not z) (or_none (stmt_ends (stmt_tree u f ts s))))
  else_live t u scope f ts (stmt_and s (stmt_and r ss)) m h = let n : ⊥ = cc in absurd n
