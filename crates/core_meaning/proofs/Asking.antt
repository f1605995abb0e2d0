-- In a stepped core the decision of each choice is found.
use Rattle.std.proofs.Common.{arith, refl, sym, ap, subst, ◌≡◌, ◌∙◌, ◌<◌, ◌^◌, ◌+◌, ℕ, zero, suc, Bool, true, false, eqb, if◌then◌else◌, List, [], ◌∷◌, ◌++◌, length, Option, Some, None, IfSome, slice_get}
use Rattle.std.specs.List.{AllByRecursion}
use Rattle.std.specs.Option.{option_map}
use Rattle.gc0_base.specs.declared.site.Site.{Site}
use Rattle.gc0_base.specs.declared.site.Decision.{Decision}
use Rattle.gc0_tree.specs.Tree.{Formula, NoteKind, assert_note, fold_note, unfold_note}
use Rattle.core_tree.specs.declared.Phase.{Phase}
use Rattle.core_tree.specs.declared.Phase.TheVariants.{Produce, Consume}
use Rattle.core_tree.specs.declared.Origin.{Origin}
use Rattle.core_tree.specs.declared.Origin.TheVariants.{Branch, Choice}
use Rattle.core_tree.specs.declared.DecisionAt.{DecisionAt}
use Rattle.core_tree.specs.CoreTree.{CoreStmt, do_step, do_set, do_unary, do_binary, do_load, do_store, do_new, do_call, do_library, do_if, do_loop, do_return, do_assert, do_raise, do_note, Code, no_code, code_and, CoreFunction, Core}
use Rattle.core_tree.specs.CoreSites.{choice_decision, origin_in, origin_of}
use Rattle.core_meaning.specs.Choices.{ChoiceOf, choices, instance_body}
use Rattle.core_meaning.specs.CoreRunning.{before_of, after_of, start_at}
use Rattle.core_meaning.specs.Deciding.{Due, choices_due, formula_due, body_due, note_due, stmt_due, code_due, start_due, function_due, AreNumbered}
use Rattle.core_meaning.specs.Stepped.{EachFrom, AreDecided, CanBeAsked, choice_law}

-- ---- lists
both : {X : Type 0} (P : X → Type 0) (xs ys : List X) → AllByRecursion P xs → AllByRecursion P ys → AllByRecursion P (xs ++ ys)
both P [] ys a b = b
both P (x ∷ xs) ys a b = (a.0, both P xs ys a.1 b)

same_function : (f h : CoreFunction) → Some f ≡ Some h → f ≡ h
same_function f h e = cc

none_there : (f : CoreFunction) → None ≡ Some f → ⊥
none_there f e = cc

-- what each function meets, from a number on
each_at : (P : ℕ → CoreFunction → Type 0) (n : ℕ) (fs : List CoreFunction) → EachFrom n fs P → (g : ℕ) (f : CoreFunction) → slice_get fs g ≡ Some f → (m : ℕ) → m ≡ n + g → P m f
each_at P n [] each g f there m e = absurd (none_there f there)
each_at P n (h ∷ fs) each zero f there m e =
    let at : n ≡ m = omega (arith, e) in
    subst (λ m. P m f) at (subst (P n) (same_function h f there) each.0)
each_at P n (h ∷ fs) each (suc g) f there m e = each_at P (suc n) fs each.1 g f there m (omega (arith, e))

-- ---- each choice that is due has its decision
-- the decision that a choice is to have
abbrev decision_of : Core → Origin → Option Decision
decision_of c Branch = None
decision_of c (Choice site phase k) = Some (choice_decision c site phase k)

abbrev IsRight : Core → Due → Type 0
IsRight c x = IfSome (decision_of c x.origin) (λ d. x.decision ≡ d)

abbrev AreRight : Core → List Due → Type 0
AreRight c xs = AllByRecursion (IsRight c) xs

join : (c : Core) (xs ys : List Due) → AreRight c xs → AreRight c ys → AreRight c (xs ++ ys)
join c xs ys = both (IsRight c) xs ys

right_choices : (c : Core) (site : Site) (phase : Phase) (k : ℕ) (xs : List ChoiceOf) → AreRight c (choices_due c site phase k xs)
right_choices c site phase k [] = tt
right_choices c site phase k (x ∷ xs) = (refl, right_choices c site phase (suc k) xs)

right_formula : (c : Core) (site : Site) (phase : Phase) (formula : Formula) → AreRight c (formula_due c site phase formula)
right_formula c site phase formula = right_choices c site phase 0 (choices formula.parts)

right_body : (c : Core) (site : Site) (phase : Phase) (formula : Formula) → AreRight c (body_due c site phase formula)
right_body c site phase formula = right_choices c site phase 0 (choices (instance_body c.predicates formula.parts))

right_note : (c : Core) (k : NoteKind) (formula : Formula) (site : Site) → AreRight c (note_due c k formula site)
right_note c assert_note formula site = right_formula c site Consume formula
right_note c fold_note formula site = right_body c site Consume formula
right_note c unfold_note formula site = right_body c site Produce formula

mutual
  right_stmt : (c : Core) (f : CoreFunction) (s : CoreStmt) → AreRight c (stmt_due c f s)
  right_stmt c f do_step = tt
  right_stmt c f (do_set to a) = tt
  right_stmt c f (do_unary to o a) = tt
  right_stmt c f (do_binary to o a b site) = tt
  right_stmt c f (do_load to base k field site) = tt
  right_stmt c f (do_store base k field value site) = tt
  right_stmt c f (do_new to k) = tt
  right_stmt c f (do_call to g args site) = join c _ _ (right_formula c site Consume (before_of (slice_get c.functions g))) (right_formula c site Produce (after_of (slice_get c.functions g)))
  right_stmt c f (do_library to l a t site) = tt
  right_stmt c f (do_if d a these those) = (tt, join c _ _ (right_code c f these) (right_code c f those))
  right_stmt c f (do_loop entry again inv d test a body) =
      join c _ _ (right_formula c entry Consume inv) (join c _ _ (right_formula c entry Produce inv)
      (join c _ _ (right_code c f test) (tt, join c _ _ (right_code c f body) (right_formula c again Consume inv))))
  right_stmt c f (do_return a site) = right_formula c site Consume f.after
  right_stmt c f (do_assert a site) = tt
  right_stmt c f (do_raise t site) = tt
  right_stmt c f (do_note k formula site) = right_note c k formula site

  right_code : (c : Core) (f : CoreFunction) (code : Code) → AreRight c (code_due c f code)
  right_code c f no_code = tt
  right_code c f (code_and s rest) = join c (stmt_due c f s) (code_due c f rest) (right_stmt c f s) (right_code c f rest)

right_if : (c : Core) (b : Bool) (xs : List Due) → AreRight c xs → AreRight c (if b then xs else [])
right_if c true xs right = right
right_if c false xs right = tt

right_function : (c : Core) (g : ℕ) (f : CoreFunction) → AreRight c (function_due c g f)
right_function c g f =
    join c (start_due c g f) (code_due c f f.body)
    (join c _ _ (right_if c (eqb g c.main) (formula_due c (start_at g) Consume f.before) (right_formula c (start_at g) Consume f.before)) (right_formula c (start_at g) Produce f.before))
    (right_code c f f.body)

-- ---- each that is due is kept at its number
-- where a decision is kept, from a number on
record Kept (g n : ℕ) (ds : List DecisionAt) (x : Due) : Type 0 where
  at : ℕ
  within : at < length ds
  kept : DecisionAt
  there : slice_get ds at ≡ Some kept
  same : kept.origin ≡ x.origin
  number : x.decision ≡ record { function = g; number = n + at }

numbered_at : (g m n : ℕ) → m ≡ n → (d : Decision) → d ≡ record { function = g; number = m } → d ≡ record { function = g; number = n }
numbered_at g m n e d h = h ∙ ap (λ (i : ℕ). let r : Decision = record { function = g; number = i } in r) e

behind : (g n : ℕ) (d : DecisionAt) (ds : List DecisionAt) (x : Due) → Kept g (suc n) ds x → Kept g n (d ∷ ds) x
behind g n d ds x k = record { at = suc k.at; within = omega (arith, k.within); kept = k.kept; there = k.there; same = k.same; number = numbered_at g (suc n + k.at) (n + suc k.at) (omega arith) x.decision k.number }

all_behind : (g n : ℕ) (d : DecisionAt) (ds : List DecisionAt) (xs : List Due) → AllByRecursion (Kept g (suc n) ds) xs → AllByRecursion (Kept g n (d ∷ ds)) xs
all_behind g n d ds [] all = tt
all_behind g n d ds (x ∷ xs) all = (behind g n d ds x all.0, all_behind g n d ds xs all.1)

all_kept : (g n : ℕ) (xs : List Due) (ds : List DecisionAt) → AreNumbered g n xs ds → AllByRecursion (Kept g n ds) xs
all_kept g n [] ds h = tt
all_kept g n (x ∷ xs) [] h = absurd h
all_kept g n (x ∷ xs) (d ∷ ds) h = (
  record { at = 0; within = omega arith; kept = d; there = refl; same = h.1; number = numbered_at g n (n + 0) (omega arith) x.decision h.0 },
  all_behind g n d ds xs (all_kept g (suc n) xs ds h.3),
)

-- ---- together
asked : (c : Core) (g : ℕ) (f : CoreFunction) → slice_get c.functions g ≡ Some f → length f.decisions < 2 ^ 32 → (x : Due) → IsRight c x → Kept g 0 f.decisions x → CanBeAsked c x
asked c g f here few x right k site phase n e =
    let own : x.decision ≡ choice_decision c site phase n = subst (λ o. IfSome (decision_of c o) (λ d. x.decision ≡ d)) e right in
    let found : choice_decision c site phase n ≡ record { function = g; number = k.at } = sym own ∙ numbered_at g (0 + k.at) k.at (omega arith) x.decision k.number in
    let origin : origin_of c (choice_decision c site phase n) ≡ Some (Choice site phase n) =
    ap (origin_of c) found ∙ ap (λ o. origin_in o k.at) here ∙ ap (option_map (λ (d : DecisionAt). d.origin)) k.there ∙ ap Some (k.same ∙ e) in
    let number : (choice_decision c site phase n).number ≡ k.at = ap (λ (d : Decision). d.number) found in
    (omega (arith, number, k.within, few), origin)

all_asked : (c : Core) (g : ℕ) (f : CoreFunction) → slice_get c.functions g ≡ Some f → length f.decisions < 2 ^ 32 → (xs : List Due) → AreRight c xs → AllByRecursion (Kept g 0 f.decisions) xs → AllByRecursion (CanBeAsked c) xs
all_asked c g f here few [] right kept = tt
all_asked c g f here few (x ∷ xs) right kept = (asked c g f here few x right.0 kept.0, all_asked c g f here few xs right.1 kept.1)

pub choices_asked : choice_law
choices_asked c stepped g f here =
    let decided : AreDecided c g f = each_at (AreDecided c) 0 c.functions stepped.decisions g f here g (omega arith) in
    all_asked c g f here decided.few (function_due c g f) (right_function c g f) (all_kept g 0 (function_due c g f) f.decisions decided.numbered)
