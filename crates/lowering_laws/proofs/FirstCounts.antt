-- At each site that is placed, at most one formula is produced, and at most one is consumed.
use Rattle.std.proofs.Common.{◌≡◌, ℕ, suc, ◌+◌, ◌≤◌, Bool, true, false, ◌&&◌, cond, eqb, if◌then◌else◌, List, [], ◌∷◌, ◌++◌, Option, Some, None, refl, ap, ◌∙◌, arith}
use Rattle.std.proofs.Math.Dec.{eqb-suc-zero}
use Rattle.std.specs.Prelude.{slice_get}
use Rattle.gc0_base.specs.declared.place.Place.{Place}
use Rattle.gc0_base.specs.declared.site.Site.{Site}
use Rattle.gc0_base.specs.declared.site.Kind.TheVariants as kind
use Rattle.gc0_tree.specs.declared.Shape.{Shape}
use Rattle.gc0_tree.specs.declared.ExprOp.{ExprOp}
use Rattle.gc0_tree.specs.Tree.{Tree, number_at, truth_at, null_at, local_at, result_at, unary_at, binary_at, both_at, either_at, choose_at, read_at, call_at, library_at, alloc_at, Trees, no_trees, tree_and, Conjuncts, Formula, NoteKind, assert_note, fold_note, unfold_note, Stmt, declare_at, assign_at, write_at, plain_at, block_at, if_at, while_at, for_at, return_at, assert_at, raise_at, note_at, Stmts, no_stmts, stmt_and, Function, Program}
use Rattle.gc0_tree.specs.Sites.{Places, sites_of}
use Rattle.core_tree.specs.declared.Phase.{Phase}
use Rattle.core_tree.specs.declared.Phase.TheVariants.{Produce, Consume}
use Rattle.core_tree.specs.declared.DecisionAt.{DecisionAt}
use Rattle.c0_meaning.specs.Running.{note_kind}
use Rattle.core_meaning.specs.CoreSited.{same_site}
use Rattle.core_meaning.specs.Choices.{instance_body}
use Rattle.core_meaning.specs.CoreRunning.{start_at}
use Rattle.formula_choices.specs.ChoicePlaces.{choice_places}
use Rattle.core_tables.specs.declared.PlacedSite.{PlacedSite}
use Rattle.core_tables.specs.SiteTables.{choices_at, same_phase, is_first}
use Rattle.lowering_laws.specs.Tables.{branch, formula_decisions, call_decisions, tree_decisions, trees_decisions, first_decisions, note_decisions, loop_decisions, stmt_decisions, stmts_decisions, start_decisions, close_decisions, decisions_of, placed, tree_placed, trees_placed, first_placed, write_placed, loop_placed, stmt_placed, stmts_placed, close_placed, placed_of}
use Rattle.lowering_laws.proofs.TokenCounts.{how_many, how_many_both, one_if, is_none}

-- how many points with choices of a site and a phase there are among decisions
abbrev pub firsts : Site → Phase → List DecisionAt → ℕ
firsts s q ds = how_many (λ d. is_first s q d.origin) ds

abbrev pub places_of : Site → List PlacedSite → ℕ
places_of s xs = how_many (λ x. same_site s x.site) xs

never : (b c : Bool) → (b && (c && false)) ≡ false
never true true = refl
never true false = refl
never false c = refl

-- only the first choice of a formula counts
later_none : (s site : Site) (q phase : Phase) (k : ℕ) (places : List Place) → firsts s q (choices_at site phase (suc k) places) ≡ 0
later_none s site q phase k [] = refl
later_none s site q phase k (x ∷ xs) =
    let rest = later_none s site q phase (suc k) xs in
    let here : one_if (same_site s site && (same_phase q phase && eqb (suc k) 0)) ≡ 0 =
    is_none _ (ap (λ b. same_site s site && (same_phase q phase && b)) (eqb-suc-zero k) ∙ never (same_site s site) (same_phase q phase)) in
    omega arith

one_and : (a b : Bool) → cond (a && (b && true)) 1 0 ≤ cond (a && b) 1 0
one_and true true = omega arith
one_and true false = omega arith
one_and false b = omega arith

choices_first : (s site : Site) (q phase : Phase) (places : List Place) → firsts s q (choices_at site phase 0 places) ≤ cond (same_site s site && same_phase q phase) 1 0
choices_first s site q phase [] = omega arith
choices_first s site q phase (x ∷ xs) =
    let rest = later_none s site q phase 0 xs in
    let here = one_and (same_site s site) (same_phase q phase) in
    omega arith

one_of : (a b : Bool) → cond (a && b) 1 0 ≤ cond a 1 0
one_of true true = omega arith
one_of true false = omega arith
one_of false b = omega arith

-- one phase, or both
once : (s site : Site) (q phase : Phase) (places : List Place) → firsts s q (choices_at site phase 0 places) ≤ cond (same_site s site) 1 0
once s site q phase places = let a = choices_first s site q phase places in let b = one_of (same_site s site) (same_phase q phase) in omega arith

either_phase : (a : Bool) (q : Phase) → cond (a && same_phase q Consume) 1 0 + cond (a && same_phase q Produce) 1 0 ≤ cond a 1 0
either_phase true Consume = omega arith
either_phase true Produce = omega arith
either_phase false q = omega arith

twice : (s site : Site) (q : Phase) (xs ys : List Place) → firsts s q (choices_at site Consume 0 xs) + firsts s q (choices_at site Produce 0 ys) ≤ cond (same_site s site) 1 0
twice s site q xs ys =
    let a = choices_first s site q Consume xs in
    let b = choices_first s site q Produce ys in
    let c = either_phase (same_site s site) q in
    omega arith

pub record AtMost (ds : List DecisionAt) (xs : List PlacedSite) : Type 0 where
  pub is : (s : Site) (q : Phase) → firsts s q ds ≤ places_of s xs

both : {ds es : List DecisionAt} {xs ys : List PlacedSite} → AtMost ds xs → AtMost es ys → AtMost (ds ++ es) (xs ++ ys)
both {ds} {es} {xs} {ys} h k = record {
  is = λ s q. (
      let a = h.is s q in
      let b = k.is s q in
      omega (arith, how_many_both (λ (d : DecisionAt). is_first s q d.origin) ds es, how_many_both (λ (x : PlacedSite). same_site s x.site) xs ys)
      );
}

more_behind : {ds : List DecisionAt} {xs : List PlacedSite} (ys : List PlacedSite) → AtMost ds xs → AtMost ds (xs ++ ys)
more_behind {ds} {xs} ys h = record { is = λ s q. (let a = h.is s q in omega (arith, how_many_both (λ (x : PlacedSite). same_site s x.site) xs ys)) }

more_before : {ds : List DecisionAt} {xs : List PlacedSite} (ys : List PlacedSite) → AtMost ds xs → AtMost ds (ys ++ xs)
more_before {ds} {xs} ys h = record { is = λ s q. (let a = h.is s q in omega (arith, how_many_both (λ (x : PlacedSite). same_site s x.site) ys xs)) }

branch_on : {ds : List DecisionAt} {xs : List PlacedSite} (place : Place) → AtMost ds xs → AtMost (branch place ++ ds) xs
branch_on place h = record { is = λ s q. (let a = h.is s q in omega arith) }

nothing : (xs : List PlacedSite) → AtMost [] xs
nothing xs = record { is = λ s q. omega arith }

one_point : (site : Site) (phase : Phase) (parts : Conjuncts) (about : Option ℕ) (place : Place) → AtMost (choices_at site phase 0 (choice_places parts)) (record { site = site; about = about; place = place } ∷ [])
one_point site phase parts about place = record { is = λ s q. (let a = once s site q phase (choice_places parts) in omega arith) }

call_points : (site : Site) (o : Option Function) (about : Option ℕ) (place : Place) → AtMost (call_decisions site o) (record { site = site; about = about; place = place } ∷ [])
call_points site None about place = nothing _
call_points site (Some f) about place = record {
  is = λ s q. (
      let a = twice s site q (choice_places f.before.parts) (choice_places f.after.parts) in
      omega (arith, how_many_both (λ (d : DecisionAt). is_first s q d.origin) (formula_decisions site Consume f.before) (formula_decisions site Produce f.after))
      );
}

note_points : (p : Program) (site : Site) (k : NoteKind) (formula : Formula) (about : Option ℕ) (place : Place) → AtMost (note_decisions p site k formula) (record { site = site; about = about; place = place } ∷ [])
note_points p site assert_note formula about place = one_point site Consume formula.parts about place
note_points p site fold_note formula about place = one_point site Consume (instance_body p.predicates formula.parts) about place
note_points p site unfold_note formula about place = one_point site Produce (instance_body p.predicates formula.parts) about place

module _ (p : Program) (at : Places) where
  mutual
    tree_points : (e : Tree) → AtMost (tree_decisions p at e) (tree_placed at e)
    tree_points (number_at place n) = nothing []
    tree_points (truth_at place b) = nothing []
    tree_points (null_at place) = nothing []
    tree_points (local_at place i) = nothing []
    tree_points (result_at place) = nothing []
    tree_points (unary_at place o a) = tree_points a
    tree_points (binary_at place o a b) = both (tree_points a) (more_behind _ (tree_points b))
    tree_points (both_at place a b) = both (tree_points a) (branch_on place (tree_points b))
    tree_points (either_at place a b) = both (tree_points a) (branch_on place (tree_points b))
    tree_points (choose_at place x a b) = both (tree_points x) (branch_on place (both (tree_points a) (tree_points b)))
    tree_points (read_at place a k field) = more_behind _ (tree_points a)
    tree_points (call_at place g es) = both (trees_points es) (call_points (at kind.Requires place) (slice_get p.functions g) (Some g) place)
    tree_points (library_at place l es t) = more_behind _ (first_points es)
    tree_points (alloc_at place k) = nothing []

    trees_points : (es : Trees) → AtMost (trees_decisions p at es) (trees_placed at es)
    trees_points no_trees = nothing []
    trees_points (tree_and e es) = both (tree_points e) (trees_points es)

    first_points : (es : Trees) → AtMost (first_decisions p at es) (first_placed at es)
    first_points no_trees = nothing []
    first_points (tree_and e es) = tree_points e

  write_points : (base : Tree) (arrow : Place) (o : Option ExprOp) (op_at : Place) (e : Tree) → AtMost (tree_decisions p at base ++ tree_decisions p at e) (write_placed at base arrow o op_at e)
  write_points base arrow None op_at e = both (tree_points base) (more_behind _ (tree_points e))
  write_points base arrow (Some o) op_at e = both (tree_points base) (more_before (placed (at kind.Access arrow) arrow) (more_behind _ (tree_points e)))

  loop_points : (place : Place) (inv : Formula) (e : Tree) {ds : List DecisionAt} {xs : List PlacedSite} → AtMost ds xs → AtMost (loop_decisions p at place inv e ds) (loop_placed at place e xs)
  loop_points place inv e {ds} {xs} h = record {
    is = λ s q. (
        let first : DecisionAt → Bool = λ d. is_first s q d.origin in
        let entry_c : List DecisionAt = formula_decisions (at kind.Entry place) Consume inv in
        let entry_p : List DecisionAt = formula_decisions (at kind.Entry place) Produce inv in
        let again_c : List DecisionAt = formula_decisions (at kind.Again place) Consume inv in
        let test : List DecisionAt = tree_decisions p at e in
        let a = twice s (at kind.Entry place) q (choice_places inv.parts) (choice_places inv.parts) in
        let b = once s (at kind.Again place) q Consume (choice_places inv.parts) in
        let c = (tree_points e).is s q in
        let d = h.is s q in
        omega (
          arith,
          how_many_both first entry_c (entry_p ++ (test ++ (branch place ++ (ds ++ again_c)))),
          how_many_both first entry_p (test ++ (branch place ++ (ds ++ again_c))),
          how_many_both first test (branch place ++ (ds ++ again_c)),
          how_many_both first ds again_c,
          how_many_both (λ (x : PlacedSite). same_site s x.site) (tree_placed at e) xs,
        )
        );
  }

  module _ (f : Function) where
    mutual
      stmt_points : (a : Stmt) → AtMost (stmt_decisions p f at a) (stmt_placed at a)
      stmt_points (declare_at place i es) = first_points es
      stmt_points (assign_at place i o op_at e) = more_behind _ (tree_points e)
      stmt_points (write_at place base k field arrow o op_at e) = write_points base arrow o op_at e
      stmt_points (plain_at place e) = tree_points e
      stmt_points (block_at place ss) = stmts_points ss
      stmt_points (if_at place e a b) = both (tree_points e) (branch_on place (both (stmt_points a) (stmts_points b)))
      stmt_points (while_at place inv e a) = loop_points place inv e (stmt_points a)
      stmt_points (for_at place first e last inv a) = both (stmts_points first) (loop_points place inv e (both (stmt_points a) (stmts_points last)))
      stmt_points (return_at place es) = both (first_points es) (one_point (at kind.Ensures place) Consume f.after.parts None place)
      stmt_points (assert_at place e) = more_behind _ (tree_points e)
      stmt_points (raise_at place t) = nothing _
      stmt_points (note_at place k formula) = note_points p (at (note_kind k) place) k formula _ place

      stmts_points : (ss : Stmts) → AtMost (stmts_decisions p f at ss) (stmts_placed at ss)
      stmts_points no_stmts = nothing []
      stmts_points (stmt_and a ss) = both (stmt_points a) (stmts_points ss)

close_points : (g : ℕ) (f : Function) (o : Option Shape) → AtMost (close_decisions g f o) (close_placed (sites_of g f) f o)
close_points g f None = one_point (sites_of g f kind.Ensures f.close) Consume f.after.parts None f.close
close_points g f (Some s) = nothing []

start_points : (s : Site) (q : Phase) (b : Bool) (g : ℕ) (f : Function) →
    firsts s q ((if b then formula_decisions (start_at g) Consume f.before else []) ++ formula_decisions (start_at g) Produce f.before) ≤ cond (same_site s (start_at g)) 1 0
start_points s q true g f =
    let a = twice s (start_at g) q (choice_places f.before.parts) (choice_places f.before.parts) in
    omega (arith, how_many_both (λ (d : DecisionAt). is_first s q d.origin) (formula_decisions (start_at g) Consume f.before) (formula_decisions (start_at g) Produce f.before))
start_points s q false g f = once s (start_at g) q Produce (choice_places f.before.parts)

-- the points of a function are at its start or at a placed site, one for each phase
pub all_points : (p : Program) (g : ℕ) (f : Function) (s : Site) (q : Phase) → firsts s q (decisions_of p g f) ≤ cond (same_site s (start_at g)) 1 0 + places_of s (placed_of g f)
all_points p g f s q =
    let rest : List DecisionAt = stmts_decisions p f (sites_of g f) f.body ++ close_decisions g f f.result in
    let a = start_points s q (eqb g p.main) g f in
    let b = (both (stmts_points p (sites_of g f) f f.body) (close_points g f f.result)).is s q in
    omega (arith, how_many_both (λ (d : DecisionAt). is_first s q d.origin) (start_decisions p g f) rest)
