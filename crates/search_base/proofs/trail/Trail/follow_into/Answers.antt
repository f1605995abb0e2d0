use Rattle.std.proofs.Common.{◌≡◌, ◌∙◌, ℕ, List, [], ◌∷◌, ◌++◌, sym, ap, subst, append_assoc}
use Rattle.sat_check.specs.declared.clause.Lit.{Lit}
use Rattle.sat_check.specs.Logs.{Refutes, known_before}
use Rattle.search_base.specs.Trails.{falses_of}
use Rattle.search_base.specs.Walks.{FollowIs}
use Rattle.search_base.proofs.trail.Trail.follow_into.Goals as goal

pub returns-in_ok-push-in-Ends-clause-ends : goal.returns-in_ok-push-in-Ends-clause-ends
returns-in_ok-push-in-Ends-clause-ends c _ start leads =
    let known = known_before c.args.clauses.now c.args.entries.now in
    let old = falses_of c.args.self.now.steps.items in
    let new = falses_of c.follow.new.self.steps.items in
    let ends : Refutes known old (c.args.hint ∷ []) = subst (FollowIs known old new c.args.hint) c.in-Ends.is c.in_ok-follow.ensures.follow in
    subst (Refutes known start) (sym c.in_ok-push-in-Ends.ensures.items) (leads (c.args.hint ∷ []) ends)

pub returns-in_ok-push-in-Leads-clause-leads : goal.returns-in_ok-push-in-Leads-clause-leads
returns-in_ok-push-in-Leads-clause-leads c _ start leads rest r =
    let known = known_before c.args.clauses.now c.args.entries.now in
    let old = falses_of c.args.self.now.steps.items in
    let new = falses_of c.follow.new.self.steps.items in
    let on = subst (FollowIs known old new c.args.hint) c.in-Leads.is c.in_ok-follow.ensures.follow in
    let more = ap (λ (l : List ℕ). l ++ rest) c.in_ok-push-in-Leads.ensures.items ∙ append_assoc c.args.taken.now.items (c.args.hint ∷ []) rest in
    subst (Refutes known start) (sym more) (leads (c.args.hint ∷ rest) (on rest r))

pub returns-in-Skips-clause-leads : goal.returns-in-Skips-clause-leads
returns-in-Skips-clause-leads c _ start leads rest r =
    let known = known_before c.args.clauses.now c.args.entries.now in
    let old = falses_of c.args.self.now.steps.items in
    let new = falses_of c.follow.new.self.steps.items in
    let same : new ≡ old = subst (FollowIs known old new c.args.hint) c.in-Skips.is c.in_ok-follow.ensures.follow in
    leads rest (subst (λ (l : List Lit). Refutes known l rest) same r)
