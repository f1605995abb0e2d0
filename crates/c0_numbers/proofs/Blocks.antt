-- Statements before others, as they are pushed.
use Rattle.std.proofs.Common.{◌≡◌, ℕ, suc, List, [], ◌∷◌, ◌++◌, map, length, drop, ◌≤◌, ◌<◌, refl, sym, ap, ◌∙◌, arith}
use Rattle.std.proofs.Math.ListN.{drop_of_length-le}
use Rattle.gc0_base.specs.declared.place.Place.{Place}
use Rattle.gc0_tree.specs.declared.Stmt.{Stmt}
use Rattle.gc0_tree.specs.Views.{stmt_view, stmts_view, stmts_of}
use Rattle.gc0_tree.specs.Tree as gc0
use Rattle.gc0_tree.specs.Tree.{Stmts, no_stmts, stmt_and, block_at}
use Rattle.parsed_tree.specs.declared.statements.Stmt as read_stmt
use Rattle.parsed_tree.specs.declared.statements.Note.{Note}
use Rattle.parsed_tree.specs.Views as view
use Rattle.c0_names.specs.declared.tables.Tables.{Tables}
use Rattle.c0_value_numbers.specs.declared.frame.Frame.{Frame}
use Rattle.c0_value_numbers.specs.Texts.{Texts}
use Rattle.c0_numbers.specs.StatementTexts.{stmt_texts, stmts_texts}
use Rattle.c0_numbers.specs.Statements.{note_form, notes_tree, alone, before, stmt_frame, stmts_frame, stmt_tree, stmts_tree}
use Rattle.c0_numbers.specs.Rows.{stmts_before}

pub stmt_pushed : (ss : List Stmt) (s : Stmt) (rest : Stmts) → stmts_before (ss ++ s ∷ []) rest ≡ stmts_before ss (stmt_and (stmt_view s) rest)
stmt_pushed [] s rest = refl
stmt_pushed (x ∷ ss) s rest = ap (stmt_and (stmt_view x)) (stmt_pushed ss s rest)

pub stmts_whole : (ss : List Stmt) → stmts_before ss no_stmts ≡ stmts_view ss
stmts_whole [] = refl
stmts_whole (x ∷ ss) = ap (stmt_and (stmt_view x)) (stmts_whole ss)

module _ (t : Tables) where
  -- ---- one note further
  pub note_step : (f : Frame) (made made2 : List Stmt) (s : Stmt) (ns tail : List Note) (n : Note) (whole : Stmts → Stmts) → ns ≡ n ∷ tail → made2 ≡ made ++ s ∷ [] → stmt_view s ≡ note_form t f n.place (view.form_view n.form) → ((rest : Stmts) → stmts_before made (notes_tree t f (map view.note_view ns) rest) ≡ whole rest) → (rest : Stmts) → stmts_before made2 (notes_tree t f (map view.note_view tail) rest) ≡ whole rest
  note_step f made made2 s ns tail n whole h p v i rest =
      let r = notes_tree t f (map view.note_view tail) rest in
      ap (λ m. stmts_before m r) p ∙ stmt_pushed made s r ∙ ap (λ x. stmts_before made (stmt_and x r)) v ∙ ap (λ l. stmts_before made (notes_tree t f (map view.note_view l) rest)) (sym h) ∙ i rest

  -- ---- one statement further
  pub stmt_step : (f f2 : Frame) (ts ts2 : Texts) (made made2 : List Stmt) (ss tail : List read_stmt.Stmt) (s : read_stmt.Stmt) (whole : Stmts) → ss ≡ s ∷ tail → ((rest : Stmts) → stmts_before made2 rest ≡ stmts_before made (before t f (view.stmt_view s) (stmt_tree t f ts (view.stmt_view s)) rest)) → f2 ≡ stmt_frame t f (view.stmt_view s) → ts2 ≡ stmt_texts ts (view.stmt_view s) → stmts_before made (stmts_tree t f ts (view.stmts_view ss)) ≡ whole → stmts_before made2 (stmts_tree t f2 ts2 (view.stmts_view tail)) ≡ whole
  stmt_step f f2 ts ts2 made made2 ss tail s whole h p g q i =
      let f3 = stmt_frame t f (view.stmt_view s) in
      ap (λ x. stmts_before made2 (stmts_tree t x ts2 (view.stmts_view tail))) g
      ∙ ap (λ x. stmts_before made2 (stmts_tree t f3 x (view.stmts_view tail))) q
      ∙ p (stmts_tree t f3 (stmt_texts ts (view.stmt_view s)) (view.stmts_view tail))
      ∙ ap (λ l. stmts_before made (stmts_tree t f ts (view.stmts_view l))) (sym h)
      ∙ i

  pub frame_step : (f f2 whole : Frame) (ss tail : List read_stmt.Stmt) (s : read_stmt.Stmt) → ss ≡ s ∷ tail → f2 ≡ stmt_frame t f (view.stmt_view s) → stmts_frame t f (view.stmts_view ss) ≡ whole → stmts_frame t f2 (view.stmts_view tail) ≡ whole
  frame_step f f2 whole ss tail s h g i = ap (λ x. stmts_frame t x (view.stmts_view tail)) g ∙ ap (λ l. stmts_frame t f (view.stmts_view l)) (sym h) ∙ i

  pub stmts_done : (f : Frame) (ts : Texts) (made : List Stmt) (ss : List read_stmt.Stmt) (n : ℕ) (whole : Stmts) → length ss ≤ n → stmts_before made (stmts_tree t f ts (view.stmts_view (drop n ss))) ≡ whole → stmts_view made ≡ whole
  stmts_done f ts made ss n whole le i = sym (stmts_whole made) ∙ ap (λ l. stmts_before made (stmts_tree t f ts (view.stmts_view l))) (sym (drop_of_length-le ss le)) ∙ i

pub stmt_texts_step : (ts ts2 whole : Texts) (ss tail : List read_stmt.Stmt) (s : read_stmt.Stmt) → ss ≡ s ∷ tail → ts2 ≡ stmt_texts ts (view.stmt_view s) → stmts_texts ts (view.stmts_view ss) ≡ whole → stmts_texts ts2 (view.stmts_view tail) ≡ whole
stmt_texts_step ts ts2 whole ss tail s h q i = ap (λ x. stmts_texts x (view.stmts_view tail)) q ∙ ap (λ l. stmts_texts ts (view.stmts_view l)) (sym h) ∙ i

-- ---- an annotation alone
pub one_alone : (p : Place) (s : Stmt) (ss : List Stmt) → ss ≡ s ∷ [] → alone p (stmts_view ss) ≡ stmt_view s
one_alone p s ss e = ap (λ l. alone p (stmts_view l)) e

pub many_alone : (p : Place) (ss : List Stmt) → (length ss ≡ 1 → ⊥) → alone p (stmts_view ss) ≡ block_at p (stmts_view ss)
many_alone p [] h = refl
many_alone p (s ∷ []) h = absurd (h refl)
many_alone p (s ∷ r ∷ ss) h = refl
