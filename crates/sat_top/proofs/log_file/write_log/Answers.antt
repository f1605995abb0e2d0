use Rattle.std.proofs.Common.{◌≡◌, ◌+◌, ◌++◌, length, take, drop, ap, sym, ◌∙◌, subst, arith}
use Rattle.sat_text.specs.LogTexts.{entry_line, log_lines}
use Rattle.sat_top.specs.Told.{IsWritten}
use Rattle.sat_top.proofs.Written.{held_front, front_more, log_split, step_log, on_err}
use Rattle.sat_top.proofs.log_file.write_log.Goals as goal

pub returns-in_err-add_entry-clause-front : goal.returns-in_err-add_entry-clause-front
returns-in_err-add_entry-clause-front g c =
    let es = c.args.entries.now in
    let i = c.loop-index.index in
    let id = c.args.first in
    let e = c.index-entries-index.result in
    let lines = log_lines id (take i es) in
    let f = c.in_err-add_entry.ensures.front _ lines c.loop-index.invariant.written in
    let all : log_lines id es ≡ (lines ++ entry_line (id + i) e) ++ log_lines (id + length (take (i + 1) es)) (drop (i + 1) es) =
    log_split id (i + 1) es ∙ ap (λ l. l ++ log_lines (id + length (take (i + 1) es)) (drop (i + 1) es)) (step_log id i es e c.loop-index-test.true c.index-entries-index.is) in
    on_err _ (front_more _ _ (lines ++ entry_line (id + i) e) _ _ f all)

pub loop-index-preserved : goal.loop-index-preserved
loop-index-preserved g c =
    let es = c.args.entries.now in
    let i = c.loop-index.index in
    let id = c.args.first in
    let w = c.in_ok-add_entry.ensures.ok _ (log_lines id (take i es)) c.loop-index.invariant.written in
    record {
      written = subst (IsWritten _ _ _) (sym (step_log id i es c.index-entries-index.result c.loop-index-test.true c.index-entries-index.is)) w;
      later = omega (arith, c.loop-index.invariant.later, c.add_entry.ensures.later);
    }

pub returns-in_err-add_all-clause-front : goal.returns-in_err-add_all-clause-front
returns-in_err-add_all-clause-front g c =
    let es = c.args.entries.now in
    let i = c.loop-index.index in
    let id = c.args.first in
    let f = rw c.deref.ensures.value at c.in_err-add_all.ensures.bytes in
    on_err _ (front_more _ _ (log_lines id (take i es)) _ _ (held_front _ _ _ _ _ c.loop-index.invariant.written f) (log_split id i es))
