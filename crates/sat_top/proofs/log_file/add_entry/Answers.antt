use Rattle.std.proofs.Common.{refl}
use Rattle.sat_text.specs.LogTexts.{entry_line}
use Rattle.sat_top.proofs.Written.{written_front, front_more, on_err}
use Rattle.sat_top.proofs.log_file.add_entry.Goals as goal

pub returns-in_err-push_entry-clause-front : goal.returns-in_err-push_entry-clause-front
returns-in_err-push_entry-clause-front g c = λ before lines w. on_err _ (front_more before _ lines (entry_line c.args.id c.args.entry.now) _ (written_front before _ _ lines w) refl)
