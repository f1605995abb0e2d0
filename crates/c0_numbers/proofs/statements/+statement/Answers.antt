-- What the search leaves of the proofs of the calls around `statement`.
use Rattle.std.proofs.Common.{◌≡◌, ◌∙◌, ◌∷◌, ap, sym, ◌+◌, drop}
use Rattle.std.proofs.lemmas.List.{drop_more}
use Rattle.c0_numbers.proofs.Blocks.{stmt_step, frame_step, stmt_texts_step, stmts_done}
use Rattle.c0_numbers.proofs.statements.+statement.Goals as goal

pub statements-loop-s-preserved : goal.statements-loop-s-preserved
statements-loop-s-preserved t c =
    let ss = c.args.ss.now in
    let i = c.loop-s.s-index in
    let first = drop_more ss i c.s-item.result c.loop-s-test.true ∙ ap (λ x. x ∷ drop (i + 1) ss) (sym c.s-item.is) in
    record {
      tree = stmt_step c.args.tables.now c.loop-s.frame _ c.loop-s.texts _ c.loop-s.made _ (drop i ss) (drop (i + 1) ss) c.s-item.result _ first c.in_ok-push_statement.ensures.tree c.in_ok-push_statement.ensures.frame c.in_ok-push_statement.ensures.texts c.loop-s.invariant.tree;
      frame = frame_step c.args.tables.now c.loop-s.frame _ _ (drop i ss) (drop (i + 1) ss) c.s-item.result first c.in_ok-push_statement.ensures.frame c.loop-s.invariant.frame;
      texts = stmt_texts_step c.loop-s.texts _ _ (drop i ss) (drop (i + 1) ss) c.s-item.result first c.in_ok-push_statement.ensures.texts c.loop-s.invariant.texts;
    }

pub statements-returns-clause-tree : goal.statements-returns-clause-tree
statements-returns-clause-tree t c = stmts_done c.args.tables.now c.loop-s.frame c.loop-s.texts c.loop-s.made c.args.ss.now c.loop-s.s-index _ c.loop-s-test.false c.loop-s.invariant.tree
