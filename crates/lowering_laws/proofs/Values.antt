-- The code of an expression leaves its value where it is said to be.
use Rattle.std.proofs.Common.{◌≡◌, ℕ, ◌<◌, ◌≤◌, true, false, List, length, take, Option, Some, None, refl, sym, ap, ◌∙◌, arith}
use Rattle.std.proofs.lemmas.List.{get_or-set_same, get_or-set_other, length-set, take-set-le, get_or-take}
use Rattle.std.proofs.lemmas.Option.{slice_get_within}
use Rattle.std.specs.Prelude.{slice_get, slice_index, slice_set}
use Rattle.gc0_tree.specs.declared.Shape.{Shape}
use Rattle.gc0_tree.specs.declared.Shape.TheVariants.{Bool as Truth, Pointer}
use Rattle.core_tree.specs.declared.Simple.{Simple}
use Rattle.core_tree.specs.declared.Simple.TheVariants as simple
use Rattle.gc0_base.specs.declared.site.Site.{Site}
use Rattle.gc0_tree.specs.Tree.{Tree, number_at, truth_at, null_at, local_at, result_at, unary_at, binary_at, both_at, either_at, choose_at, read_at, call_at, library_at, alloc_at, Program}
use Rattle.gc0_tree.specs.Fits.{Room, HasShape, library_gives, unary_shape, gives}
use Rattle.c0_meaning.specs.Runs.{State}
use Rattle.core_meaning.specs.CoreRuns.{Visit, CoreState}
use Rattle.core_meaning.specs.CoreRunning.{Flow, On, word_of}
use Rattle.lowering_laws.specs.Counts.{result_of, Counts, with_temp, with_result, decided, call_choices, is_constant, counted, args_counted, first_counted, chosen_shape, read_shape}
use Rattle.lowering_laws.specs.Trees.{Target, temp, temp_if, held, value_of, local_in}
use Rattle.lowering_laws.proofs.Agree.{More, beside, Good, Fit}
use Rattle.lowering_laws.proofs.Counting.{Within, one_grows, one_has, none_some, IsTemp}

-- The numbers of temporaries: behind the locals, within the words, and no two the same.
pub record Slots (p : Program) (w : Target) (m all : ℕ) (room : Shape → ℕ) : Type 0 where
  pub least : m ≤ all
  pub above : (s : Shape) (i : ℕ) → m ≤ w.slot s i
  pub below : (s : Shape) (i : ℕ) → IsTemp p s → i < room s → w.slot s i < all
  pub apart : (s u : Shape) (i j : ℕ) → i < room s → j < room u → w.slot s i ≡ w.slot u j → (s ≡ u) × (i ≡ j)

-- the locals, and the temporaries that are in use, are as they were
pub record Keeps (w : Target) (m : ℕ) (used : Shape → ℕ) (old new : List ℕ) : Type 0 where
  pub locals : take m new ≡ take m old
  pub temps : (u : Shape) (i : ℕ) → i < used u → slice_index new (w.slot u i) ≡ slice_index old (w.slot u i)

pub keeps_refl : (w : Target) (m : ℕ) (used : Shape → ℕ) (ws : List ℕ) → Keeps w m used ws ws
keeps_refl w m used ws = record { locals = refl; temps = λ u i lt. refl }

-- on with more temporaries in use
pub keeps_trans : (w : Target) (m : ℕ) (a b : Shape → ℕ) (old mid new : List ℕ) → Within a b → Keeps w m a old mid → Keeps w m b mid new → Keeps w m a old new
keeps_trans w m a b old mid new le h k = record {
  locals = k.locals ∙ h.locals;
  temps = λ u i lt. (let l : a u ≤ b u = le u in let lt1 : i < b u = omega arith in k.temps u i lt1) ∙ h.temps u i lt;
}

module _ (p : Program) (w : Target) (m all most most' : ℕ) (room : Shape → ℕ) (slots : Slots p w m all room) where
  abbrev pub InRoom : Counts → Type 0
  InRoom c = Within c.used room

  -- behind an expression
  abbrev pub Has : (Shape → ℕ) → List ℕ → Simple → ℕ → State → Flow → More → Type 0
  Has used old v x s fl e = (fl ≡ On) × Fit m all most most' s e × Keeps w m used old e.words × (word_of v (beside s e) ≡ x)

  pub good_put : (ls : List ℕ) (k : ℕ) (ss : List Site) (ws : List ℕ) (n : ℕ) (vs : List Visit) (to x : ℕ) → m ≤ to → Good m all most most' ls k ss ws n vs → Good m all most most' ls k ss (slice_set ws to x) n vs
  good_put ls k ss ws n vs to x le fit = record { locals = take-set-le m ws to x le ∙ fit.locals; words = length-set ws to x ∙ fit.words; turns = fit.turns; few = fit.few; few' = fit.few'; sites = fit.sites }

  pub room_of_temp : (u : Shape) (c : Counts) → InRoom (with_temp u c) → c.used u < room u
  room_of_temp u c h = let a = h u in let b = one_has u c.used in omega arith

  pub room_before : (u : Shape) (c : Counts) → InRoom (with_temp u c) → InRoom c
  room_before u c h v = let a = h v in let b = one_grows u c.used v in omega arith

  pub keeps_put : (a : Shape → ℕ) (c : Counts) (u : Shape) (old ws : List ℕ) (x : ℕ) → InRoom (with_temp u c) → Within a c.used → Keeps w m a old ws → Keeps w m a old (slice_set ws (temp w u c) x)
  keeps_put a c u old ws x in_room le h = record {
    locals = take-set-le m ws (temp w u c) x (slots.above u (c.used u)) ∙ h.locals;
    temps = λ v i lt. get_or-set_other ws (temp w u c) (w.slot v i) x 0 (differ v i lt) ∙ h.temps v i lt;
  }
    where
      differ : (v : Shape) (i : ℕ) → i < a v → w.slot v i ≡ temp w u c → ⊥
      differ v i lt e =
          let l : a v ≤ c.used v = le v in
          let r : c.used v ≤ room v = room_before u c in_room v in
          let same = slots.apart v u i (c.used u) (omega arith) (room_of_temp u c in_room) e in
          let n : c.used v ≡ c.used u = ap c.used same.0 in
          let k : i ≡ c.used u = same.1 in
          omega arith

  -- a temporary is set
  pub put_has : (a : Shape → ℕ) (c : Counts) (u : Shape) (old : List ℕ) (s : State) (e : More) (z x : ℕ) → InRoom (with_temp u c) → IsTemp p u → Within a c.used → Fit m all most most' s e → Keeps w m a old e.words → z ≡ x →
      Has a old (simple.Local (temp w u c)) x s On (record e { words = slice_set e.words (temp w u c) z })
  put_has a c u old s e z x in_room is_temp le fit keeps same =
      let b : temp w u c < all = slots.below u (c.used u) is_temp (room_of_temp u c in_room) in
      let l : length e.words ≡ all = fit.words in
      let lt : temp w u c < length e.words = omega arith in
      (refl, good_put s.locals s.steps s.sites e.words e.turns e.visits (temp w u c) z (slots.above u (c.used u)) fit, keeps_put a c u old e.words z in_room le keeps, get_or-set_same e.words (temp w u c) z 0 lt ∙ same)

  -- ---- values stay where they are
  module _ (r : Room) (size : length r.locals ≤ m) where
    slot_keeps : (a : Shape → ℕ) (c : Counts) (u : Shape) (t t' : CoreState) → Within (with_temp u c).used a → Keeps w m a t.words t'.words → slice_index t'.words (temp w u c) ≡ slice_index t.words (temp w u c)
    slot_keeps a c u t t' le h = let x = le u in let y = one_has u c.used in let lt : c.used u < a u = omega arith in h.temps u (c.used u) lt

    held_keeps : (a : Shape → ℕ) (c : Counts) (o : Option Shape) (t t' : CoreState) → Within (with_result o c).used a → Keeps w m a t.words t'.words → word_of (held (temp_if w o c)) t' ≡ word_of (held (temp_if w o c)) t
    held_keeps a c None t t' le h = refl
    held_keeps a c (Some u) t t' le h = slot_keeps a c u t t' le h

    called_keeps : (a : Shape → ℕ) (n : ℕ) (c : Counts) (o : Option Shape) (t t' : CoreState) → Within (with_result o (decided n c)).used a → Keeps w m a t.words t'.words → word_of (held (temp_if w o c)) t' ≡ word_of (held (temp_if w o c)) t
    called_keeps a n c None t t' le h = refl
    called_keeps a n c (Some u) t t' le h = slot_keeps a c u t t' le h

    local_keeps : (i : ℕ) (t t' : CoreState) → i < m → take m t'.words ≡ take m t.words → slice_index t'.words i ≡ slice_index t.words i
    local_keeps i t t' lt h = sym (get_or-take m t'.words i 0 lt) ∙ ap (λ l. slice_index l i) h ∙ get_or-take m t.words i 0 lt

    -- a local's number is within them
    pub local_within : (i : ℕ) (s : Shape) → slice_get r.locals i ≡ Some s → i < m
    local_within i s h = let lt = slice_get_within r.locals i s h in omega arith

    pub value_keeps : (a : Shape → ℕ) (c : Counts) (x : Tree) (s : Shape) (t t' : CoreState) → HasShape p r x s → Within (counted p r c x).used a → Keeps w m a t.words t'.words → word_of (value_of p r w c x) t' ≡ word_of (value_of p r w c x) t
    value_keeps a c (number_at at n) s t t' has le h = refl
    value_keeps a c (truth_at at b) s t t' has le h = refl
    value_keeps a c (null_at at) s t t' has le h = refl
    value_keeps a c (local_at at i) s t t' has le h = local_keeps i t t' (local_within i s has) h.locals
    value_keeps a c (result_at at) s t t' has le h = refl
    value_keeps a c (unary_at at o x) s t t' has le h = slot_keeps a (counted p r c x) (unary_shape o) t t' le h
    value_keeps a c (binary_at at o x y) s t t' has le h = slot_keeps a (counted p r (counted p r c x) y) (gives o) t t' le h
    value_keeps a c (both_at at x y) s t t' has le h = slot_keeps a (counted p r (decided 1 (counted p r c x)) y) Truth t t' le h
    value_keeps a c (either_at at x y) s t t' has le h = slot_keeps a (counted p r (decided 1 (counted p r c x)) y) Truth t t' le h
    value_keeps a c (choose_at at x y z) s t t' has le h = slot_keeps a (counted p r (counted p r (decided 1 (counted p r c x)) y) z) (chosen_shape p r y z) t t' le h
    value_keeps a c (read_at at x k field) s t t' has le h = slot_keeps a (counted p r c x) (read_shape p k field) t t' le h
    value_keeps a c (call_at at g es) s t t' has le h = called_keeps a (call_choices (slice_get p.functions g)) (args_counted p r c es) (result_of (slice_get p.functions g)) t t' le h
    value_keeps a c (library_at at l es text) s t t' has le h = held_keeps a (first_counted p r c es) (library_gives l) t t' le h
    value_keeps a c (alloc_at at k) s t t' has le h = slot_keeps a c (Pointer k) t t' le h

    -- an argument that isn't constant is in a local
    held_in : (o : Option Shape) (c : Counts) (s : Shape) (t : CoreState) → o ≡ Some s → slice_index t.words (local_in (held (temp_if w o c))) ≡ word_of (held (temp_if w o c)) t
    held_in None c s t h = absurd (none_some s h)
    held_in (Some u) c s t h = refl

    pub local_is : (c : Counts) (x : Tree) (s : Shape) (t : CoreState) → HasShape p r x s → is_constant x ≡ false → slice_index t.words (local_in (value_of p r w c x)) ≡ word_of (value_of p r w c x) t
    local_is c (number_at at n) s t has h = absurd (let g : true ≡ false = h in cc)
    local_is c (truth_at at b) s t has h = absurd (let g : true ≡ false = h in cc)
    local_is c (null_at at) s t has h = absurd (let g : true ≡ false = h in cc)
    local_is c (local_at at i) s t has h = refl
    local_is c (result_at at) s t has h = absurd (let g : true ≡ false = h in cc)
    local_is c (unary_at at o x) s t has h = refl
    local_is c (binary_at at o x y) s t has h = refl
    local_is c (both_at at x y) s t has h = refl
    local_is c (either_at at x y) s t has h = refl
    local_is c (choose_at at x y z) s t has h = refl
    local_is c (read_at at x k field) s t has h = refl
    local_is c (call_at at g es) s t has h = held_in (result_of (slice_get p.functions g)) (args_counted p r c es) s t (ap result_of has.1 ∙ has.3)
    local_is c (library_at at l es text) s t has h = held_in (library_gives l) (first_counted p r c es) s t has.0
    local_is c (alloc_at at k) s t has h = refl
