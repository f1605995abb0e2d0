-- Branches of expressions: the code of a side stands apart until both are there.
use Rattle.std.proofs.Common.{◌≡◌, ℕ, List, [], ◌++◌, refl, sym, ap, subst, ◌∙◌, append-nil, Result, IfOk}
use Rattle.std.specs.declared.alloc.AllocError.{AllocError}
use Rattle.gc0_base.specs.declared.place.Place.{Place}
use Rattle.gc0_base.specs.declared.site.Decision.{Decision}
use Rattle.gc0_tree.specs.declared.Shape.{Shape}
use Rattle.gc0_tree.specs.declared.Shape.TheVariants.{Bool as Truth}
use Rattle.gc0_tree.specs.Tree.{Tree}
use Rattle.gc0_tree.specs.Fits.{common}
use Rattle.core_tree.specs.declared.CoreStmt.{CoreStmt}
use Rattle.core_tree.specs.declared.DecisionAt.{DecisionAt}
use Rattle.core_tree.specs.declared.Simple.{Simple}
use Rattle.core_tree.specs.declared.Simple.TheVariants as simple
use Rattle.core_tree.specs.CoreTree.{do_if, Code, no_code}
use Rattle.core_tree.specs.CoreViews.{code_view}
use Rattle.core_tables.specs.declared.PlacedSite.{PlacedSite}
use Rattle.lowering_laws.specs.Counts.{Counts, or_int, with_temp, decided}
use Rattle.lowering_laws.specs.Trees.{one, constant, decision}
use Rattle.lowering_laws.specs.Tables.{branch}
use Rattle.core_expressions.specs.declared.within.Within.{Within}
use Rattle.core_expressions.specs.declared.written.Written.{Written}
use Rattle.core_expressions.specs.declared.operand.Operand.{Operand}
use Rattle.core_expressions.specs.declared.branches.Aside.{Aside}
use Rattle.core_expressions.specs.Writing.{target_of, StandsFor, IsWritten, IsOperand, counts_behind, shape_in, decisions_for, placed_for, temp_in}
use Rattle.core_expressions.specs.Branches.{IsAside, side, branch_code, both_code, either_code, shape_with, other_code, choice_code}
use Rattle.core_expressions.proofs.Joins.{alike, followed, join_none, if_ok}

-- ---- code that stands apart
pub inner : (a b : Written) (k : Counts) → b ≡ record a { code = [] } → StandsFor a k → StandsFor b k
inner a b k e h = subst (λ (x : Written). StandsFor x k) (sym e) (record { used = h.used; next = h.next })

pub started : (a b d : Written) {k : Counts} {code : Code} {ds : List DecisionAt} {ps : List PlacedSite} →
    b ≡ record a { code = [] } → IsWritten b d k code ds ps → IsWritten (record a { code = [] }) d k code ds ps
started a b d {k} {code} {ds} {ps} e w = subst (λ (x : Written). IsWritten x d k code ds ps) e w

-- what came into a list of its own is no code of the outer one
pub nested : (a b d : Written) (outer : List CoreStmt) {k : Counts} {code : Code} {ds : List DecisionAt} {ps : List PlacedSite} →
    IsWritten (record a { code = [] }) b k code ds ps → outer ≡ a.code → d ≡ record b { code = outer } → IsWritten a d k no_code ds ps
nested a b d outer {k} {code} {ds} {ps} w e1 e2 =
    let now : Written = record b { code = outer } in
    let whole : IsWritten a now k no_code ds ps = record {
      counts = record { used = w.counts.used; next = w.counts.next };
      code = ap (λ (x : List CoreStmt). code_view x) e1 ∙ sym (join_none (code_view a.code));
      decisions = w.decisions;
      placed = w.placed;
    } in
    subst (λ (x : Written). IsWritten a x k no_code ds ps) (sym e2) whole

-- ---- branches
pub branches_alike : (condition : Simple) (to : ℕ) {d d' : Decision} {a a' b b' : Code} {u u' v v' : Simple} →
    d ≡ d' → a ≡ a' → u ≡ u' → b ≡ b' → v ≡ v' → one (do_if d condition (side a to u) (side b to v)) ≡ one (do_if d' condition (side a' to u') (side b' to v'))
branches_alike x to {d} {d'} {a} {a'} {b} {b'} {u} {u'} {v} {v'} ed ea eu eb ev =
    ap (λ y. one (do_if y x (side a to u) (side b to v))) ed
    ∙ ap (λ y. one (do_if d' x (side y to u) (side b to v))) ea
    ∙ ap (λ y. one (do_if d' x (side a' to y) (side b to v))) eu
    ∙ ap (λ y. one (do_if d' x (side a' to u') (side y to v))) eb
    ∙ ap (λ y. one (do_if d' x (side a' to u') (side b' to y))) ev

-- behind a decision and a side, the branch alone is code
pub branched : {a b d e : Written} {k1 k2 k3 : Counts} {code : Code} {ds es : List DecisionAt} {ps : List PlacedSite} →
    IsWritten a b k1 no_code ds [] → IsWritten b d k2 no_code es ps → IsWritten d e k3 code [] [] → IsWritten a e k3 code (ds ++ es) ps
branched {a} {b} {d} {e} {k1} {k2} {k3} {code} {ds} {es} {ps} u v w =
    alike (followed u (followed v w)) refl (ap (λ l. ds ++ l) (append-nil es)) (append-nil ps)

pub both_done : (w : Within) (o o1 o2 o3 : Written) (k : Counts) (place : Place) (d : Decision) (left : Simple) (b : Tree) (right those : Aside) (r : Result Operand AllocError) →
    IsWritten o o1 (decided 1 k) no_code (branch place) [] → d ≡ decision (target_of w) k →
    IsWritten o1 o2 (counts_behind w (decided 1 k) b) no_code (decisions_for w b) (placed_for w b) → IsAside w (decided 1 k) b right →
    those.value ≡ constant 0 → those.code ≡ [] →
    IfOk r (λ x. IsOperand o2 o3 x (simple.Local (temp_in w Truth (counts_behind w (decided 1 k) b))) Truth (with_temp Truth (counts_behind w (decided 1 k) b)) (branch_code d left (temp_in w Truth (counts_behind w (decided 1 k) b)) right those) [] []) →
    IfOk r (λ x. IsOperand o o3 x (simple.Local (temp_in w Truth (counts_behind w (decided 1 k) b))) Truth (with_temp Truth (counts_behind w (decided 1 k) b)) (both_code w k left b) (branch place ++ decisions_for w b) (placed_for w b))
both_done w o o1 o2 o3 k place d left b right those r wd ed wr ar ev ec h =
    let to : ℕ = temp_in w Truth (counts_behind w (decided 1 k) b) in
    let empty : code_view those.code ≡ no_code = ap (λ (x : List CoreStmt). code_view x) ec in
    if_ok r (λ x y. record {
      value = y.value;
      shape = y.shape;
      written = alike (branched wd wr y.written) (branches_alike left to ed ar.code ar.value empty ev) refl refl;
    }) h

pub either_done : (w : Within) (o o1 o2 o3 : Written) (k : Counts) (place : Place) (d : Decision) (left : Simple) (b : Tree) (these right : Aside) (r : Result Operand AllocError) →
    IsWritten o o1 (decided 1 k) no_code (branch place) [] → d ≡ decision (target_of w) k →
    IsWritten o1 o2 (counts_behind w (decided 1 k) b) no_code (decisions_for w b) (placed_for w b) → IsAside w (decided 1 k) b right →
    these.value ≡ left → these.code ≡ [] →
    IfOk r (λ x. IsOperand o2 o3 x (simple.Local (temp_in w Truth (counts_behind w (decided 1 k) b))) Truth (with_temp Truth (counts_behind w (decided 1 k) b)) (branch_code d left (temp_in w Truth (counts_behind w (decided 1 k) b)) these right) [] []) →
    IfOk r (λ x. IsOperand o o3 x (simple.Local (temp_in w Truth (counts_behind w (decided 1 k) b))) Truth (with_temp Truth (counts_behind w (decided 1 k) b)) (either_code w k left b) (branch place ++ decisions_for w b) (placed_for w b))
either_done w o o1 o2 o3 k place d left b these right r wd ed wr ar ev ec h =
    let to : ℕ = temp_in w Truth (counts_behind w (decided 1 k) b) in
    let empty : code_view these.code ≡ no_code = ap (λ (x : List CoreStmt). code_view x) ec in
    if_ok r (λ x y. record {
      value = y.value;
      shape = y.shape;
      written = alike (branched wd wr y.written) (branches_alike left to ed empty ev ar.code ar.value) refl refl;
    }) h

pub other_done : (w : Within) (o1 o2 o3 : Written) (k : Counts) (d : Decision) (truth : Simple) (s : Shape) (b : Tree) (these those : Aside) (r : Result Operand AllocError) →
    IsWritten o1 o2 (counts_behind w k b) no_code (decisions_for w b) (placed_for w b) → IsAside w k b those →
    s ≡ or_int (common these.shape those.shape) →
    IfOk r (λ x. IsOperand o2 o3 x (simple.Local (temp_in w s (counts_behind w k b))) s (with_temp s (counts_behind w k b)) (branch_code d truth (temp_in w s (counts_behind w k b)) these those) [] []) →
    IfOk r (λ x. IsOperand o1 o3 x (simple.Local (temp_in w (shape_with w these.shape b) (counts_behind w k b))) (shape_with w these.shape b) (with_temp (shape_with w these.shape b) (counts_behind w k b)) (other_code w k d truth (temp_in w (shape_with w these.shape b) (counts_behind w k b)) these b) (decisions_for w b) (placed_for w b))
other_done w o1 o2 o3 k d truth s b these those r wr ar es h =
    let k2 : Counts = counts_behind w k b in
    let whole : s ≡ shape_with w these.shape b = es ∙ ap (λ (z : Shape). or_int (common these.shape z)) ar.shape in
    if_ok r (λ x y. subst (λ (z : Shape). IsOperand o1 o3 x (simple.Local (temp_in w z k2)) z (with_temp z k2) (other_code w k d truth (temp_in w z k2) these b) (decisions_for w b) (placed_for w b)) whole (record {
      value = y.value;
      shape = y.shape;
      written = alike (followed wr y.written) (branches_alike truth (temp_in w s k2) refl refl refl ar.code ar.value) (append-nil (decisions_for w b)) (append-nil (placed_for w b));
    })) h

pub choice_done : (w : Within) (o o1 o2 o3 : Written) (k : Counts) (place : Place) (d : Decision) (truth : Simple) (a b : Tree) (these : Aside) (r : Result Operand AllocError) →
    IsWritten o o1 (decided 1 k) no_code (branch place) [] → d ≡ decision (target_of w) k →
    IsWritten o1 o2 (counts_behind w (decided 1 k) a) no_code (decisions_for w a) (placed_for w a) → IsAside w (decided 1 k) a these →
    IfOk r (λ x. IsOperand o2 o3 x (simple.Local (temp_in w (shape_with w these.shape b) (counts_behind w (counts_behind w (decided 1 k) a) b))) (shape_with w these.shape b) (with_temp (shape_with w these.shape b) (counts_behind w (counts_behind w (decided 1 k) a) b)) (other_code w (counts_behind w (decided 1 k) a) d truth (temp_in w (shape_with w these.shape b) (counts_behind w (counts_behind w (decided 1 k) a) b)) these b) (decisions_for w b) (placed_for w b)) →
    IfOk r (λ x. IsOperand o o3 x (simple.Local (temp_in w (shape_with w (shape_in w a) b) (counts_behind w (counts_behind w (decided 1 k) a) b))) (shape_with w (shape_in w a) b) (with_temp (shape_with w (shape_in w a) b) (counts_behind w (counts_behind w (decided 1 k) a) b)) (choice_code w k truth (temp_in w (shape_with w (shape_in w a) b) (counts_behind w (counts_behind w (decided 1 k) a) b)) a b) (branch place ++ (decisions_for w a ++ decisions_for w b)) (placed_for w a ++ placed_for w b))
choice_done w o o1 o2 o3 k place d truth a b these r wd ed wa aa h =
    let k1 : Counts = counts_behind w (decided 1 k) a in
    let k2 : Counts = counts_behind w k1 b in
    if_ok r (λ x y. subst (λ (z : Shape). IsOperand o o3 x (simple.Local (temp_in w (shape_with w z b) k2)) (shape_with w z b) (with_temp (shape_with w z b) k2) (choice_code w k truth (temp_in w (shape_with w z b) k2) a b) (branch place ++ (decisions_for w a ++ decisions_for w b)) (placed_for w a ++ placed_for w b)) aa.shape (record {
      value = y.value;
      shape = y.shape;
      written = alike (followed wd (followed wa y.written)) (branches_alike truth (temp_in w (shape_with w these.shape b) k2) ed aa.code aa.value refl refl) refl refl;
    })) h
