use Rattle.std.proofs.Common.{[]}
use Rattle.sat_search.proofs.analysis.Analysis.new.Goals as goal

pub returns : goal.returns
returns c = record { len = c.in_ok-walk.ensures.len; known = []; keeps = c.in_ok-walk.ensures.keeps [] }
