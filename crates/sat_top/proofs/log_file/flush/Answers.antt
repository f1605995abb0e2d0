use Rattle.std.proofs.Common.{sym, subst}
use Rattle.sat_top.specs.Told.{IsWritten}
use Rattle.sat_top.proofs.Written.{held_taken, held_front, on_err}
use Rattle.sat_top.proofs.log_file.flush.Goals as goal

pub returns-in_err-add_all-clause-front : goal.returns-in_err-add_all-clause-front
returns-in_err-add_all-clause-front g c = λ before lines w. on_err _ (held_front before _ _ _ lines w (rw c.deref.ensures.value at c.in_err-add_all.ensures.bytes))

pub returns-clause-ok : goal.returns-clause-ok
returns-clause-ok g c = λ before lines w. subst (λ h. IsWritten before (g.P.Target.file c.add_all.new.proof) h lines) (sym c.clear.ensures.items) (held_taken before _ (g.P.Target.file c.add_all.new.proof) _ lines w (rw c.deref.ensures.value at c.in_ok-add_all.ensures.bytes))
