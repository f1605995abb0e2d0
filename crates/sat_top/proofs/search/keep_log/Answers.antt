use Rattle.std.proofs.Common.{ap}
use Rattle.std.specs.Prelude.{option_map}
use Rattle.sat_top.proofs.Written.{kept_front, on_err_map}
use Rattle.sat_top.proofs.search.keep_log.Goals as goal

pub returns-in_ok-create-in-Some-clause-front : goal.returns-in_ok-create-in-Some-clause-front
returns-in_ok-create-in-Some-clause-front g c =
    on_err_map _ (λ f. kept_front _ _ _ c.in-Some.name.now _ _ (ap (option_map (λ n. n.now)) c.in-Some.is) c.in_ok-create-in-Some.ensures.made f) c.write_log.ensures.front
