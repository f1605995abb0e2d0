use Rattle.std.proofs.Common.{List, Option, None, OnOk, refl, sym, subst, ap, ◌∙◌, length}
use Rattle.gc0_base.specs.declared.site.Site.{Site}
use Rattle.gc0_tree.specs.declared.Shape.{Shape}
use Rattle.core_tree.specs.declared.DecisionAt.{DecisionAt}
use Rattle.core_tree.specs.declared.Phase.TheVariants.{Consume}
use Rattle.core_tree.specs.CoreTree.{CoreStmt, do_return}
use Rattle.core_tables.specs.declared.PlacedSite.{PlacedSite}
use Rattle.lowering_laws.specs.Counts.{decided, choices_in}
use Rattle.lowering_laws.specs.Lowering.{close_code}
use Rattle.lowering_laws.specs.Tables.{formula_decisions, close_decisions, close_placed}
use Rattle.core_expressions.specs.Writing.{function_of, places_of, target_of}
use Rattle.core_lower.specs.Parts.{AreWritten}
use Rattle.core_lower.proofs.Joining.{then_so, ended, put, noted, same, nothing, counts_in, stands}
use Rattle.core_lower.proofs.Views.{return_view}
use Rattle.core_lower.proofs.whole.lower_close.Goals as goal

pub returns-in-Some : goal.returns-in-Some
returns-in-Some c =
    let w = c.args.within.now in
    let o = c.args.out.now in
    subst (λ (v : Option Shape). AreWritten o o (length o.decisions) (close_code (target_of w) (function_of w) v) (close_decisions w.number (function_of w) v) (close_placed (places_of w) (function_of w) v)) (sym c.in-Some.is)
    (ended (nothing o (counts_in o) (stands o)))

pub returns-in_ok-place-in-None : goal.returns-in_ok-place-in-None
returns-in_ok-place-in-None c =
    let w = c.args.within.now in
    let o = c.args.out.now in
    let f = function_of w in
    let at = f.close in
    let k = counts_in o in
    let k1 = decided (choices_in f.after) k in
    let w0 = c.in_ok-decide_after-in-None.ensures k (stands o) in
    let w1 = c.in_ok-place-in-None.ensures k1 w0.counts in
    let r = c.push.result in
    let d = c.push.new.self in
    let site_at : Site → PlacedSite = λ x. record { site = x; about = None; place = at } in
    let done : Site → CoreStmt = λ x. do_return None x in
    let shown : Site → List DecisionAt = λ x. formula_decisions x Consume f.after in
    subst (λ (v : Option Shape). OnOk r (AreWritten o d (length d.decisions) (close_code (target_of w) f v) (close_decisions w.number f v) (close_placed (places_of w) f v))) (sym c.in-None.is)
    (then_so r (c.push.ensures k1 w1.counts)
    (λ w2. same (sym w2.counts.next) refl refl refl
    (put (noted (same refl refl (ap shown c.site-site.ensures) refl (ended w0)) (ap site_at c.site-site.ensures) w1) (return_view None c.site-site.result ∙ ap done c.site-site.ensures) w2)))
