-- Words of another number make no request.
use Rattle.gradual_top.proofs.Asking.{one_word, three_words}
use Rattle.gradual_top.proofs.request.request_of.Goals as goal

pub returns-in-len1-clause-asked : goal.returns-in-len1-clause-asked
returns-in-len1-clause-asked c = one_word _ c.args.words.now c.in-len1.len_at_least c.in-len1.len_below

pub returns-in-len3-clause-asked : goal.returns-in-len3-clause-asked
returns-in-len3-clause-asked c = three_words _ c.args.words.now c.in-len3.len_at_least c.in-len3.len_below
