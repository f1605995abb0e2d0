use Rattle.std.proofs.Common.{[]}
use Rattle.std.specs.Prelude.{◌≢◌}
use Rattle.sat_text.proofs.Cut.{cut_proof, none_more, has_empty}
use Rattle.sat_text.proofs.log_text.up_to_empty.Goals as goal

pub returns-then-is_empty-clause-proof : goal.returns-then-is_empty-clause-proof
returns-then-is_empty-clause-proof c = λ clauses r.
    let empty = c.is_empty.ensures.0 c.if-is_empty.true in
    cut_proof clauses c.args.entries.now c.loop-index.index c.index-entries-index.result c.loop-index-test.true c.index-entries-index.is empty r

pub loop-index-preserved : goal.loop-index-preserved
loop-index-preserved c =
    let not_empty : c.index-entries-index.result.clause.lits ≢ [] = λ e. let t = c.is_empty.ensures.1 e in let f = c.if-is_empty.false in cc in
    none_more c.args.entries.now c.loop-index.index c.index-entries-index.result c.index-entries-index.is not_empty c.loop-index.invariant

pub returns-clause-proof : goal.returns-clause-proof
returns-clause-proof c = λ clauses r. absurd (has_empty c.args.entries.now c.loop-index.index c.loop-index-test.false c.loop-index.invariant r.empty)
