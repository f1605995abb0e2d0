-- Sets of cells by their members, and what depends on them alone.
use Rattle.std.proofs.Common.{◌≡◌, ℕ, zero, suc, Bool, true, false, not, ◌&&◌, ◌||◌, List, [], ◌∷◌, ◌++◌, Option, Some, None, refl, sym, ap, ◌∙◌}
use Rattle.std.specs.Prelude.{slice_get, if◌then◌else◌, is_some}
use Rattle.gc0_base.specs.declared.site.Part.{Part}
use Rattle.gc0_base.specs.declared.site.Part.TheVariants.{Value, Reach, Access, Whole, Separate}
use Rattle.gc0_tree.specs.Tree.{Tree, number_at, truth_at, null_at, local_at, result_at, unary_at, binary_at, both_at, either_at, choose_at, read_at, call_at, library_at, alloc_at, Trees, no_trees, tree_and, Conjuncts, no_parts, value_part, acc_part, instance_part, choice_part, Formula, Predicate}
use Rattle.c0_meaning.specs.Operators.{pick}
use Rattle.c0_meaning.specs.Heaps.{Cell, Cells, Heap, owns, cell_value}
use Rattle.c0_meaning.specs.Holds.{and_then, owned_value, value_in, values_in, Unroll, take_cell, walk, in_body, unroll_at, depth, holds}
use Rattle.core_tree.specs.CoreTree.{Core}
use Rattle.core_meaning.specs.Choices.{is_so, ChoiceOf, outcome, instance_body, instance_words}
use Rattle.core_checks.specs.Parts.{Conjunct, of_value, of_acc, of_instance, of_choice, conjuncts_of, all_cells, loose_walk, loose_at, value_says, reach_says, access_says, conjuncts_say, body_says, part_says}
use Rattle.core_checks.specs.Subjects.{Subject, of_formula, of_access, of_fault, subject_says}
use Rattle.watched_core.specs.WatchLaws.{Same}

pub same_refl : (o : Cells) → Same o o
same_refl o c = refl

pub same_sym : (o q : Cells) → Same o q → Same q o
same_sym o q e c = sym (e c)

pub same_trans : (a b d : Cells) → Same a b → Same b d → Same a d
same_trans a b d e f c = e c ∙ f c

or_assoc : (a b c : Bool) → (a || (b || c)) ≡ ((a || b) || c)
or_assoc true b c = refl
or_assoc false b c = refl

pub owns_join : (a b : Cells) (c : Cell) → owns (a ++ b) c ≡ (owns a c || owns b c)
owns_join [] b c = refl
owns_join (d ∷ a) b c = ap (λ x. Rattle.c0_meaning.specs.Heaps.same_cell d c || x) (owns_join a b c) ∙ or_assoc (Rattle.c0_meaning.specs.Heaps.same_cell d c) (owns a c) (owns b c)

pub same_join : (a b d e : Cells) → Same a d → Same b e → Same (a ++ b) (d ++ e)
same_join a b d e f g c = owns_join a b c ∙ ap (λ x. x || owns b c) (f c) ∙ ap (λ x. owns d c || x) (g c) ∙ sym (owns_join d e c)

-- ---- values
bind_same : {A B : Type 0} (m n : Option A) (f g : A → Option B) → m ≡ n → ((x : A) → f x ≡ g x) → and_then m f ≡ and_then n g
bind_same {A} {B} m n f g e h = by_first m ∙ ap (λ k. and_then k g) e
  where
    by_first : (m : Option A) → and_then m f ≡ and_then m g
    by_first None = refl
    by_first (Some x) = h x

pick_same : {A : Type 0} (x : ℕ) (a b d e : A) → a ≡ d → b ≡ e → pick x a b ≡ pick x d e
pick_same zero a b d e f g = f
pick_same (suc n) a b d e f g = g

module _ (heap : Heap) (o q : Cells) (same : Same o q) where
  owned_same : (b field : ℕ) → owned_value heap o b field ≡ owned_value heap q b field
  owned_same zero field = refl
  owned_same (suc n) field =
      let c : Cell = record { object = suc n; field = field } in
      ap (λ t. if t then cell_value heap c else None) (same c)

  mutual
    pub value_same : (words : List ℕ) (e : Tree) → value_in heap o words e ≡ value_in heap q words e
    value_same words (number_at at n) = refl
    value_same words (truth_at at b) = refl
    value_same words (null_at at) = refl
    value_same words (local_at at i) = refl
    value_same words (result_at at) = refl
    value_same words (unary_at at op a) = bind_same _ _ _ _ (value_same words a) (λ x. refl)
    value_same words (binary_at at op a b) = bind_same _ _ _ _ (value_same words a) (λ x. bind_same _ _ _ _ (value_same words b) (λ y. refl))
    value_same words (both_at at a b) = bind_same _ _ _ _ (value_same words a) (λ x. pick_same x _ _ _ _ refl (value_same words b))
    value_same words (either_at at a b) = bind_same _ _ _ _ (value_same words a) (λ x. pick_same x _ _ _ _ (value_same words b) refl)
    value_same words (choose_at at a b c) = bind_same _ _ _ _ (value_same words a) (λ x. pick_same x _ _ _ _ (value_same words c) (value_same words b))
    value_same words (read_at at a k field) = bind_same _ _ _ _ (value_same words a) (λ b. owned_same b field)
    value_same words (call_at at g es) = refl
    value_same words (library_at at l es t) = refl
    value_same words (alloc_at at k) = refl

    pub values_same : (words : List ℕ) (es : Trees) → values_in heap o words es ≡ values_in heap q words es
    values_same words no_trees = refl
    values_same words (tree_and e es) = bind_same _ _ _ _ (value_same words e) (λ x. bind_same _ _ _ _ (values_same words es) (λ xs. refl))

  take_same : (b field : ℕ) (foot : Cells) → take_cell heap o b field foot ≡ take_cell heap q b field foot
  take_same zero field foot = refl
  take_same (suc n) field foot =
      let c : Cell = record { object = suc n; field = field } in
      ap (λ t. if is_some (cell_value heap c) && (t && not (owns foot c)) then Some (foot ++ c ∷ []) else None) (same c)

  -- ---- footprints
  walk_same : (u v : Unroll) → ((p : ℕ) (xs : List ℕ) (foot : Cells) → u p xs foot ≡ v p xs foot) →
      (words : List ℕ) (cs : Conjuncts) (foot : Cells) → walk u heap o words cs foot ≡ walk v heap q words cs foot
  walk_same u v h words no_parts foot = refl
  walk_same u v h words (value_part e rest) foot = bind_same _ _ _ _ (value_same words e) (λ x. pick_same x _ _ _ _ refl (walk_same u v h words rest foot))
  walk_same u v h words (acc_part e field rest) foot = bind_same _ _ _ _ (value_same words e) (λ b. bind_same _ _ _ _ (take_same b field foot) (walk_same u v h words rest))
  walk_same u v h words (instance_part at p args rest) foot = bind_same _ _ _ _ (values_same words args) (λ xs. bind_same _ _ _ _ (h p xs foot) (walk_same u v h words rest))
  walk_same u v h words (choice_part at c these those rest) foot =
      bind_same _ _ _ _ (value_same words c) (λ x. bind_same _ _ _ _ (pick_same x _ _ _ _ (walk_same u v h words those foot) (walk_same u v h words these foot)) (walk_same u v h words rest))

  body_same : (body : Option Predicate) (f g : Conjuncts → Option Cells) → ((cs : Conjuncts) → f cs ≡ g cs) → in_body body f ≡ in_body body g
  body_same None f g h = refl
  body_same (Some p) f g h = h p.body

  unroll_same : (k : ℕ) (ps : List Predicate) (p : ℕ) (xs : List ℕ) (foot : Cells) → unroll_at k ps heap o p xs foot ≡ unroll_at k ps heap q p xs foot
  unroll_same zero ps p xs foot = refl
  unroll_same (suc k) ps p xs foot = body_same (slice_get ps p) _ _ (λ cs. walk_same _ _ (unroll_same k ps) xs cs foot)

  pub holds_same : (ps : List Predicate) (formula : Formula) (words : List ℕ) → holds ps formula words heap o ≡ holds ps formula words heap q
  holds_same ps formula words = walk_same _ _ (unroll_same (depth ps heap) ps) words formula.parts []

  pub outcome_same : (words : Option (List ℕ)) (x : ChoiceOf) → outcome heap o words x ≡ outcome heap q words x
  outcome_same None x = refl
  outcome_same (Some words) x = ap is_so (value_same words x.condition)

  -- ---- parts
  choose_same : {A : Type 0} (t : Bool) (a b d e : A) → a ≡ d → b ≡ e → (if t then a else b) ≡ (if t then d else e)
  choose_same true a b d e f g = f
  choose_same false a b d e f g = g

  loose_same : (u v : Unroll) → ((p : ℕ) (xs : List ℕ) (foot : Cells) → u p xs foot ≡ v p xs foot) →
      (words : List ℕ) (cs : Conjuncts) (foot : Cells) → loose_walk u heap o words cs foot ≡ loose_walk v heap q words cs foot
  loose_same u v h words no_parts foot = refl
  loose_same u v h words (value_part e rest) foot = loose_same u v h words rest foot
  loose_same u v h words (acc_part e field rest) foot =
      bind_same (value_in heap (all_cells heap) words e) _ _ _ refl (λ b. bind_same (take_cell heap (all_cells heap) b field foot) _ _ _ refl (loose_same u v h words rest))
  loose_same u v h words (instance_part at p args rest) foot = bind_same (values_in heap (all_cells heap) words args) _ _ _ refl (λ xs. bind_same _ _ _ _ (h p xs foot) (loose_same u v h words rest))
  loose_same u v h words (choice_part at c these those rest) foot =
      bind_same _ _ _ _
      (ap (λ t. if is_so t then loose_walk u heap o words these foot else loose_walk u heap o words those foot) (value_same words c)
      ∙ choose_same (is_so (value_in heap q words c)) _ _ _ _ (loose_same u v h words these foot) (loose_same u v h words those foot))
      (loose_same u v h words rest)

  loosely_same : (k : ℕ) (ps : List Predicate) (p : ℕ) (xs : List ℕ) (foot : Cells) → loose_at k ps heap o p xs foot ≡ loose_at k ps heap q p xs foot
  loosely_same zero ps p xs foot = refl
  loosely_same (suc k) ps p xs foot = body_same (slice_get ps p) _ _ (λ cs. loose_same _ _ (loosely_same k ps) xs cs foot)

  value_says_same : (words : List ℕ) (x : Option Conjunct) → value_says heap o words x ≡ value_says heap q words x
  value_says_same words None = refl
  value_says_same words (Some (of_value e)) = ap is_so (value_same words e)
  value_says_same words (Some (of_acc e field)) = refl
  value_says_same words (Some of_instance) = refl
  value_says_same words (Some of_choice) = refl

  reach_says_same : (words : List ℕ) (x : Option Conjunct) → reach_says heap o words x ≡ reach_says heap q words x
  reach_says_same words None = refl
  reach_says_same words (Some (of_value e)) = refl
  reach_says_same words (Some (of_acc e field)) = ap is_some (bind_same _ _ _ _ (value_same words e) (λ b. take_same b field []))
  reach_says_same words (Some of_instance) = refl
  reach_says_same words (Some of_choice) = refl

  pub access_says_same : (words : List ℕ) → access_says o words ≡ access_says q words
  access_says_same [] = refl
  access_says_same (object ∷ []) = refl
  access_says_same (object ∷ field ∷ words) = ap (λ t. Rattle.std.specs.Prelude.eqb object 0 || t) (same record { object = object; field = field })

  say_same : (ps : List Predicate) (part : Part) (parts : Conjuncts) (words : List ℕ) → conjuncts_say ps part parts words heap o ≡ conjuncts_say ps part parts words heap q
  say_same ps (Value k) parts words = value_says_same words (slice_get (conjuncts_of parts) k)
  say_same ps (Reach k) parts words = reach_says_same words (slice_get (conjuncts_of parts) k)
  say_same ps Access parts words = access_says_same words
  say_same ps Whole parts words = ap is_some (holds_same ps (record { imprecise = false; parts = parts }) words)
  say_same ps Separate parts words = ap is_some (loose_same _ _ (loosely_same (depth ps heap) ps) words parts [])

  over_same : (ps : List Predicate) (part : Part) (parts : Conjuncts) (a b : Option (List ℕ)) → a ≡ b → body_says ps part parts a heap o ≡ body_says ps part parts b heap q
  over_same ps part parts a b e = by_words a ∙ ap (λ w. body_says ps part parts w heap q) e
    where
      by_words : (a : Option (List ℕ)) → body_says ps part parts a heap o ≡ body_says ps part parts a heap q
      by_words None = refl
      by_words (Some words) = say_same ps part parts words

  pub instance_same : (words : List ℕ) (parts : Conjuncts) → instance_words heap o words parts ≡ instance_words heap q words parts
  instance_same words parts = values_same words (Rattle.core_meaning.specs.Choices.arguments_of parts)

  part_says_same : (ps : List Predicate) (folded : Bool) (formula : Formula) (part : Part) (words : List ℕ) → part_says ps folded formula part words heap o ≡ part_says ps folded formula part words heap q
  part_says_same ps true formula (Value k) words = over_same ps (Value k) (instance_body ps formula.parts) _ _ (instance_same words formula.parts)
  part_says_same ps true formula (Reach k) words = over_same ps (Reach k) (instance_body ps formula.parts) _ _ (instance_same words formula.parts)
  part_says_same ps true formula Access words = over_same ps Access (instance_body ps formula.parts) _ _ (instance_same words formula.parts)
  part_says_same ps true formula Whole words = say_same ps Whole formula.parts words
  part_says_same ps true formula Separate words = over_same ps Separate (instance_body ps formula.parts) _ _ (instance_same words formula.parts)
  part_says_same ps false formula part words = say_same ps part formula.parts words

  -- what a part says depends on the members of the owned set alone
  pub says_same : (c : Core) (x : Subject) (part : Part) (words : List ℕ) → subject_says c x part words heap o ≡ subject_says c x part words heap q
  says_same c (of_formula folded formula) part words = part_says_same c.predicates folded formula part words
  says_same c of_access part words = access_says_same words
  says_same c of_fault part words = refl
