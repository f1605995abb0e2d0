-- What a step of the walk does with the frames.
use Rattle.std.proofs.Common.{◌≡◌, ℕ, ◌≤◌, Bool, true, false, List, [], ◌∷◌, length, take, drop, Option, Some, None, refl, sym, ap, subst, ◌∙◌, arith}
use Rattle.std.specs.Prelude.{slice_get, if◌then◌else◌}
use Rattle.std.proofs.lemmas.List.{take_all}
use Rattle.gc0_base.specs.declared.place.Place.{Place}
use Rattle.gc0_base.specs.declared.word.Word.{Word}
use Rattle.gc0_tree.specs.Tree.{Tree, Trees, Conjuncts, value_part, acc_part, instance_part, choice_part, Predicate}
use Rattle.gc0_tree.specs.Views.{conjuncts_view}
use Rattle.gc0_tree.specs.declared.Conjunct.{Conjunct}
use Rattle.c0_meaning.specs.Heaps.{Cells, Heap}
use Rattle.c0_meaning.specs.Holds.{and_then, value_in, values_in, take_cell}
use Rattle.c0_meaning.specs.Framing.{predicates_unguarded}
use Rattle.walk_laws.specs.Walks as walks
use Rattle.walk_laws.specs.Walks.{Mode, asked, is_met, branch_of, resume, steps_left, stack_step, on, Steps, stack_law}
use Rattle.frame_ownership.specs.declared.walk.Frame.{Frame}
use Rattle.frame_ownership.specs.Seen.{numbers}
use Rattle.frame_ownership.specs.Frames.{words_of, frame_view, stack_of, Rises, waiting_on, waiting, Stepped}
use Rattle.frame_ownership.proofs.Stacking.{same_words, same_stack, push_stack}

bind_same : {A B : Type 0} (m : Option A) (f g : A → Option B) → ((x : A) → f x ≡ g x) → and_then m f ≡ and_then m g
bind_same None f g h = refl
bind_same (Some x) f g h = h x

on_le : {A : Type 0} (m : Option A) (f g : A → ℕ) → ((x : A) → f x ≤ g x) → on m f ≤ on m g
on_le None f g h = omega arith
on_le (Some x) f g h = h x

module _ (ps : List Predicate) (mode : Mode) (heap : Heap) (owned : Cells) where
  abbrev gives : List walks.Frame → Cells → Option Cells
  gives = resume ps mode heap owned

  abbrev left : List walks.Frame → Cells → ℕ
  left = steps_left ps mode heap owned

  -- frames that do the same, in no more steps
  pub record Serves (few many : List walks.Frame) : Type 0 where
    pub same : (foot : Cells) → gives few foot ≡ gives many foot
    pub fewer : (foot : Cells) → left few foot ≤ left many foot

  serves_is : (few many : List walks.Frame) → few ≡ many → Serves few many
  serves_is few many e = record { same = λ foot. ap (λ s. gives s foot) e; fewer = λ foot. let l = ap (λ s. left s foot) e in omega (arith, l) }

  serves_then : (few some many : List walks.Frame) → Serves few some → Serves some many → Serves few many
  serves_then few some many a b = record {
    same = λ foot. a.same foot ∙ b.same foot;
    fewer = λ foot. omega (arith, a.fewer foot, b.fewer foot);
  }

  -- the same frame on top
  serves_below : (f : walks.Frame) (few many : List walks.Frame) → Serves few many → Serves (f ∷ few) (f ∷ many)
  serves_below f few many a = record {
    same = λ foot. bind_same _ (gives few) (gives many) a.same;
    fewer = λ foot. let l = on_le (walks.walk_by mode (walks.instance_by mode ps heap owned) heap owned f.0 f.1 foot) (left few) (left many) a.fewer in omega (arith, l);
  }

  one_waits : (ws : List Word) (fs : List Frame) (f : Frame) (parts : List Conjunct) → f.parts.now ≡ parts → Serves (stack_of ws (waiting_on fs f parts)) (frame_view ws f ∷ stack_of ws fs)
  one_waits ws fs f [] e =
      subst (λ p. Serves (stack_of ws fs) ((words_of ws f, conjuncts_view p) ∷ stack_of ws fs)) (sym e)
      (record { same = λ foot. refl; fewer = λ foot. omega arith })
  one_waits ws fs f (part ∷ parts) e = serves_is _ _ (push_stack ws fs f [])

  pub waits : (ws : List Word) (fs : List Frame) (f : Frame) → Serves (stack_of ws (waiting fs f)) (frame_view ws f ∷ stack_of ws fs)
  waits ws fs f = one_waits ws fs f f.parts.now refl

  pub both_wait : (ws : List Word) (fs : List Frame) (f top : Frame) → Serves (stack_of ws (waiting (waiting fs f) top)) (frame_view ws top ∷ frame_view ws f ∷ stack_of ws fs)
  both_wait ws fs f top =
      serves_then _ _ _ (waits ws (waiting fs f) top) (serves_below (frame_view ws top) _ _ (waits ws fs f))

  abbrev To : List walks.Frame → Cells → List walks.Frame → Cells → Type 0
  To stack foot next mid = Stepped ps mode heap owned stack foot true next mid

  moved : (stack : List walks.Frame) (foot : Cells) (few many : List walks.Frame) (mid : Cells) → Serves few many → To stack foot many mid → To stack foot few mid
  moved stack foot few many mid s t = (t.0 ∙ sym (s.same mid), omega (arith, s.fewer mid, t.1))

  module _ (law : stack_law) (guarded : predicates_unguarded 0 ps ≡ []) where
    some_step : (f : walks.Frame) (fs : List walks.Frame) (foot : Cells) (next : List walks.Frame) (mid : Cells) → stack_step ps mode heap owned f fs foot ≡ Some (next, mid) → To (f ∷ fs) foot next mid
    some_step f fs foot next mid e = subst (λ o. Steps ps mode heap owned (f ∷ fs) foot o) e (law ps mode heap owned f fs foot guarded)

    none_step : (f : walks.Frame) (fs : List walks.Frame) (foot : Cells) → stack_step ps mode heap owned f fs foot ≡ None → gives (f ∷ fs) foot ≡ None
    none_step f fs foot e = subst (λ o. Steps ps mode heap owned (f ∷ fs) foot o) e (law ps mode heap owned f fs foot guarded)

    -- ---- a value
    pub test_fails : (words : List ℕ) (e : Tree) (cs : Conjuncts) (fs : List walks.Frame) (foot : Cells) → is_met mode heap owned words e ≡ false → gives ((words, value_part e cs) ∷ fs) foot ≡ None
    test_fails words e cs fs foot b = none_step (words, value_part e cs) fs foot (ap (λ t. if t then Some ((words, cs) ∷ fs, foot) else None) b)

    pub test_passes : (ws : List Word) (fs : List Frame) (f : Frame) (e : Tree) (foot : Cells) → is_met mode heap owned (words_of ws f) e ≡ true →
        To ((words_of ws f, value_part e (conjuncts_view f.parts.now)) ∷ stack_of ws fs) foot (stack_of ws (waiting fs f)) foot
    test_passes ws fs f e foot b =
        let words = words_of ws f in
        let cs = conjuncts_view f.parts.now in
        moved ((words, value_part e cs) ∷ stack_of ws fs) foot _ _ foot (waits ws fs f)
        (some_step (words, value_part e cs) (stack_of ws fs) foot ((words, cs) ∷ stack_of ws fs) foot (ap (λ t. if t then Some ((words, cs) ∷ stack_of ws fs, foot) else None) b))

    -- ---- an `acc`
    pub no_base : (words : List ℕ) (e : Tree) (field : ℕ) (cs : Conjuncts) (fs : List walks.Frame) (foot : Cells) → value_in heap (asked mode heap owned) words e ≡ None → gives ((words, acc_part e field cs) ∷ fs) foot ≡ None
    no_base words e field cs fs foot b =
        none_step (words, acc_part e field cs) fs foot (ap (λ m. and_then m (λ b. and_then (take_cell heap (asked mode heap owned) b field foot) (λ mid. Some ((words, cs) ∷ fs, mid)))) b)

    pub not_reached : (words : List ℕ) (e : Tree) (field : ℕ) (cs : Conjuncts) (fs : List walks.Frame) (foot : Cells) (base : ℕ) → value_in heap (asked mode heap owned) words e ≡ Some base →
        take_cell heap (asked mode heap owned) base field foot ≡ None → gives ((words, acc_part e field cs) ∷ fs) foot ≡ None
    not_reached words e field cs fs foot base b t =
        none_step (words, acc_part e field cs) fs foot (
        ap (λ m. and_then m (λ b. and_then (take_cell heap (asked mode heap owned) b field foot) (λ mid. Some ((words, cs) ∷ fs, mid)))) b
        ∙ ap (λ m. and_then m (λ mid. Some ((words, cs) ∷ fs, mid))) t)

    pub reached : (ws : List Word) (fs : List Frame) (f : Frame) (e : Tree) (field : ℕ) (foot mid : Cells) (base : ℕ) → value_in heap (asked mode heap owned) (words_of ws f) e ≡ Some base →
        take_cell heap (asked mode heap owned) base field foot ≡ Some mid → To ((words_of ws f, acc_part e field (conjuncts_view f.parts.now)) ∷ stack_of ws fs) foot (stack_of ws (waiting fs f)) mid
    reached ws fs f e field foot mid base b t =
        let words = words_of ws f in
        let cs = conjuncts_view f.parts.now in
        let below = stack_of ws fs in
        moved ((words, acc_part e field cs) ∷ below) foot _ _ mid (waits ws fs f)
        (some_step (words, acc_part e field cs) below foot ((words, cs) ∷ below) mid (
        ap (λ m. and_then m (λ b. and_then (take_cell heap (asked mode heap owned) b field foot) (λ mid. Some ((words, cs) ∷ below, mid)))) b
        ∙ ap (λ m. and_then m (λ mid. Some ((words, cs) ∷ below, mid))) t))

    -- ---- an instance
    pub no_arguments : (words : List ℕ) (at : Place) (p : ℕ) (es : Trees) (cs : Conjuncts) (fs : List walks.Frame) (foot : Cells) → values_in heap (asked mode heap owned) words es ≡ None →
        gives ((words, instance_part at p es cs) ∷ fs) foot ≡ None
    no_arguments words at p es cs fs foot v =
        none_step (words, instance_part at p es cs) fs foot (ap (λ m. and_then m (λ xs. and_then (slice_get ps p) (λ d. Some ((xs, d.body) ∷ (words, cs) ∷ fs, foot)))) v)

    pub no_predicate : (words : List ℕ) (at : Place) (p : ℕ) (es : Trees) (cs : Conjuncts) (fs : List walks.Frame) (foot : Cells) (xs : List ℕ) → values_in heap (asked mode heap owned) words es ≡ Some xs →
        slice_get ps p ≡ None → gives ((words, instance_part at p es cs) ∷ fs) foot ≡ None
    no_predicate words at p es cs fs foot xs v d =
        none_step (words, instance_part at p es cs) fs foot (
        ap (λ m. and_then m (λ xs. and_then (slice_get ps p) (λ d. Some ((xs, d.body) ∷ (words, cs) ∷ fs, foot)))) v
        ∙ ap (λ m. and_then m (λ (d : Predicate). Some ((xs, d.body) ∷ (words, cs) ∷ fs, foot))) d)

    pub opened : (ws vs : List Word) (fs : List Frame) (f body : Frame) (at : Place) (p : ℕ) (es : Trees) (foot : Cells) (d : Predicate) → take f.end vs ≡ take f.end ws → Rises 0 fs f.end →
        values_in heap (asked mode heap owned) (words_of ws f) es ≡ Some (numbers (drop f.end vs)) → slice_get ps p ≡ Some d → d.body ≡ conjuncts_view body.parts.now →
        body.start ≡ f.end → body.end ≡ length vs →
        To ((words_of ws f, instance_part at p es (conjuncts_view f.parts.now)) ∷ stack_of ws fs) foot (stack_of vs (waiting (waiting fs f) body)) foot
    opened ws vs fs f body at p es foot d kept rises v here parts start end =
        let words = words_of ws f in
        let cs = conjuncts_view f.parts.now in
        let below = stack_of ws fs in
        let xs = numbers (drop f.end vs) in
        let top : words_of vs body ≡ xs = ap (λ n. numbers (drop body.start (take n vs))) end ∙ ap (λ l. numbers (drop body.start l)) (take_all (length vs) vs (omega arith)) ∙ ap (λ n. numbers (drop n vs)) start in
        let as_code : (frame_view vs body ∷ frame_view vs f ∷ stack_of vs fs) ≡ ((xs, d.body) ∷ (words, cs) ∷ below) =
        ap (λ w. (w, conjuncts_view body.parts.now) ∷ frame_view vs f ∷ stack_of vs fs) top
        ∙ ap (λ b. (xs, b) ∷ frame_view vs f ∷ stack_of vs fs) (sym parts)
        ∙ ap (λ w. (xs, d.body) ∷ (w, cs) ∷ stack_of vs fs) (same_words f.end vs ws f kept (omega arith))
        ∙ ap (λ s. (xs, d.body) ∷ (words, cs) ∷ s) (same_stack f.end vs ws kept 0 fs rises []) in
        moved ((words, instance_part at p es cs) ∷ below) foot _ _ foot (serves_then _ _ _ (both_wait vs fs f body) (serves_is _ _ as_code))
        (some_step (words, instance_part at p es cs) below foot ((xs, d.body) ∷ (words, cs) ∷ below) foot (
        ap (λ m. and_then m (λ xs. and_then (slice_get ps p) (λ d. Some ((xs, d.body) ∷ (words, cs) ∷ below, foot)))) v
        ∙ ap (λ m. and_then m (λ (d : Predicate). Some ((xs, d.body) ∷ (words, cs) ∷ below, foot))) here))

    -- ---- a choice
    pub no_branch : (words : List ℕ) (at : Place) (e : Tree) (these those cs : Conjuncts) (fs : List walks.Frame) (foot : Cells) → branch_of mode heap owned words e ≡ None →
        gives ((words, choice_part at e these those cs) ∷ fs) foot ≡ None
    no_branch words at e these those cs fs foot b =
        none_step (words, choice_part at e these those cs) fs foot (ap (λ m. and_then m (λ b. Some ((words, if b then these else those) ∷ (words, cs) ∷ fs, foot))) b)

    views_pick : (b : Bool) (these those : List Conjunct) → conjuncts_view (if b then these else those) ≡ (if b then conjuncts_view these else conjuncts_view those)
    views_pick true these those = refl
    views_pick false these those = refl

    pub chosen : (ws : List Word) (fs : List Frame) (f top : Frame) (at : Place) (e : Tree) (these those : List Conjunct) (foot : Cells) (b : Bool) → branch_of mode heap owned (words_of ws f) e ≡ Some b →
        top.parts.now ≡ (if b then these else those) → top.start ≡ f.start → top.end ≡ f.end →
        To ((words_of ws f, choice_part at e (conjuncts_view these) (conjuncts_view those) (conjuncts_view f.parts.now)) ∷ stack_of ws fs) foot (stack_of ws (waiting (waiting fs f) top)) foot
    chosen ws fs f top at e these those foot b h parts start end =
        let words = words_of ws f in
        let cs = conjuncts_view f.parts.now in
        let below = stack_of ws fs in
        let same : words_of ws top ≡ words = ap (λ n. numbers (drop n (take top.end ws))) start ∙ ap (λ n. numbers (drop f.start (take n ws))) end in
        let as_code : (frame_view ws top ∷ frame_view ws f ∷ below) ≡ ((words, if b then conjuncts_view these else conjuncts_view those) ∷ (words, cs) ∷ below) =
        ap (λ w. (w, conjuncts_view top.parts.now) ∷ frame_view ws f ∷ below) same
        ∙ ap (λ p. (words, conjuncts_view p) ∷ frame_view ws f ∷ below) parts
        ∙ ap (λ p. (words, p) ∷ frame_view ws f ∷ below) (views_pick b these those) in
        moved ((words, choice_part at e (conjuncts_view these) (conjuncts_view those) cs) ∷ below) foot _ _ foot (serves_then _ _ _ (both_wait ws fs f top) (serves_is _ _ as_code))
        (some_step (words, choice_part at e (conjuncts_view these) (conjuncts_view those) cs) below foot ((words, if b then conjuncts_view these else conjuncts_view those) ∷ (words, cs) ∷ below) foot
        (ap (λ m. and_then m (λ b. Some ((words, if b then conjuncts_view these else conjuncts_view those) ∷ (words, cs) ∷ below, foot))) h))

    -- ---- nothing is left of the topmost frame
    pub done_step : (ws : List Word) (fs : List Frame) (f : Frame) (foot : Cells) → f.parts.now ≡ [] → To (frame_view ws f ∷ stack_of ws fs) foot (stack_of ws fs) foot
    done_step ws fs f foot e =
        subst (λ p. To ((words_of ws f, conjuncts_view p) ∷ stack_of ws fs) foot (stack_of ws fs) foot) (sym e)
        (some_step (words_of ws f, conjuncts_view []) (stack_of ws fs) foot (stack_of ws fs) foot refl)

-- ---- what came of a step
pub stuck : (ps : List Predicate) (mode : Mode) (heap : Heap) (owned : Cells) (before stack : List walks.Frame) (foot : Cells) (went : Bool) (next : List walks.Frame) (mid : Cells) →
    before ≡ stack → Stepped ps mode heap owned stack foot went next mid → went ≡ false → resume ps mode heap owned before foot ≡ None
stuck ps mode heap owned before stack foot true next mid e s h = cc
stuck ps mode heap owned before stack foot false next mid e s h = ap (λ fs. resume ps mode heap owned fs foot) e ∙ s

pub went_on : (ps : List Predicate) (mode : Mode) (heap : Heap) (owned : Cells) (before stack : List walks.Frame) (foot : Cells) (went : Bool) (next : List walks.Frame) (mid : Cells) →
    before ≡ stack → Stepped ps mode heap owned stack foot went next mid → went ≡ true → Stepped ps mode heap owned before foot true next mid
went_on ps mode heap owned before stack foot false next mid e s h = cc
went_on ps mode heap owned before stack foot true next mid e s h = subst (λ fs. Stepped ps mode heap owned fs foot true next mid) (sym e) s
