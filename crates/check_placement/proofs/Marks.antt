-- Marks of functions, as walks over the functions set them.
use Rattle.std.proofs.Common.{◌≡◌, ◌<◌, ◌≤◌, ◌+◌, ℕ, zero, suc, Bool, true, false, not, ◌||◌, ◌&&◌, eqb, Some, List, [], ◌∷◌, map, length, set, inl, inr, refl, sym, ap, subst, ◌∙◌, arith}
use Rattle.std.specs.Prelude.{is_some, if◌then◌else◌, slice_get}
use Rattle.std.proofs.lemmas.Bool.{cases_eq, eq-eqb, eqb-true, ne_eqb, false≢true, or_left, or_right, or_cases, and_parts}
use Rattle.std.proofs.lemmas.Option.{slice_get_within, same_Some}
use Rattle.core_tree.specs.declared.CoreFunction as made
use Rattle.core_tree.specs.CoreTree.{CoreStmt, do_step, do_set, do_unary, do_binary, do_load, do_store, do_new, do_call, do_library, do_if, do_loop, do_return, do_assert, do_raise, do_note, Code, no_code, code_and, CoreFunction, Core}
use Rattle.core_tree.specs.CoreViews.{core_function_view}
use Rattle.core_meaning.specs.CorePrecision.{stmt_calls, code_calls, Reaches, itself, through}
use Rattle.core_checks.specs.Entries.{Entry}
use Rattle.check_placement.specs.Tracked.{marked, stmt_reaches, code_reaches, has_entry, start_of, starts, AreFirst, AreSound, AreClosed, unmarked, Passes, AreTracked}

-- ---- one mark more
pub mark_same : (xs : List Bool) (i : ℕ) → i < length xs → marked (set xs i true) i ≡ true
mark_same [] i lt = absurd (omega (arith, lt))
mark_same (x ∷ xs) zero lt = refl
mark_same (x ∷ xs) (suc i) lt = mark_same xs i (omega (arith, lt))

pub mark_other : (xs : List Bool) (i g : ℕ) → (g ≡ i → ⊥) → marked (set xs i true) g ≡ marked xs g
mark_other [] i g ne = refl
mark_other (x ∷ xs) zero zero ne = absurd (ne refl)
mark_other (x ∷ xs) zero (suc g) ne = refl
mark_other (x ∷ xs) (suc i) zero ne = refl
mark_other (x ∷ xs) (suc i) (suc g) ne = mark_other xs i g (λ e. ne (ap suc e))

pub mark_count : (xs : List Bool) (i : ℕ) → length (set xs i true) ≡ length xs
mark_count [] i = refl
mark_count (x ∷ xs) zero = refl
mark_count (x ∷ xs) (suc i) = ap suc (mark_count xs i)

mark_fewer : (xs : List Bool) (i : ℕ) → i < length xs → marked xs i ≡ false → unmarked (set xs i true) + 1 ≡ unmarked xs
mark_fewer [] i lt f = absurd (omega (arith, lt))
mark_fewer (true ∷ xs) zero lt f = absurd (false≢true (sym f))
mark_fewer (false ∷ xs) zero lt f = omega arith
mark_fewer (true ∷ xs) (suc i) lt f = mark_fewer xs i (omega (arith, lt)) f
mark_fewer (false ∷ xs) (suc i) lt f = let e = mark_fewer xs i (omega (arith, lt)) f in omega (arith, e)

-- ---- calls of functions with a mark
two_found : (marks : List Bool) (x y : Code)
    → (code_reaches marks x ≡ true → (g : ℕ) × (code_calls g x ≡ true) × (marked marks g ≡ true)) → (code_reaches marks y ≡ true → (g : ℕ) × (code_calls g y ≡ true) × (marked marks g ≡ true))
    → (code_reaches marks x || code_reaches marks y) ≡ true → (g : ℕ) × ((code_calls g x || code_calls g y) ≡ true) × (marked marks g ≡ true)
two_found marks x y in_x in_y e = elim (or_cases (code_reaches marks x) (code_reaches marks y) e) [
  | inl l ↦ let r = in_x l in (r.0, or_left (code_calls r.0 x) (code_calls r.0 y) r.1, r.2)
  | inr l ↦ let r = in_y l in (r.0, or_right (code_calls r.0 x) (code_calls r.0 y) r.1, r.2)
]

mutual
  stmt_found : (marks : List Bool) (s : CoreStmt) → stmt_reaches marks s ≡ true → (g : ℕ) × (stmt_calls g s ≡ true) × (marked marks g ≡ true)
  stmt_found marks do_step e = absurd (false≢true e)
  stmt_found marks (do_set to a) e = absurd (false≢true e)
  stmt_found marks (do_unary to o a) e = absurd (false≢true e)
  stmt_found marks (do_binary to o a b site) e = absurd (false≢true e)
  stmt_found marks (do_load to base k field site) e = absurd (false≢true e)
  stmt_found marks (do_store base k field value site) e = absurd (false≢true e)
  stmt_found marks (do_new to k) e = absurd (false≢true e)
  stmt_found marks (do_call to h args site) e = (h, eq-eqb h h refl, e)
  stmt_found marks (do_library to l a t site) e = absurd (false≢true e)
  stmt_found marks (do_if d a these those) e = two_found marks these those (code_found marks these) (code_found marks those) e
  stmt_found marks (do_loop entry again inv d test a body) e = two_found marks test body (code_found marks test) (code_found marks body) e
  stmt_found marks (do_return a site) e = absurd (false≢true e)
  stmt_found marks (do_assert a site) e = absurd (false≢true e)
  stmt_found marks (do_raise t site) e = absurd (false≢true e)
  stmt_found marks (do_note k formula site) e = absurd (false≢true e)

  code_found : (marks : List Bool) (code : Code) → code_reaches marks code ≡ true → (g : ℕ) × (code_calls g code ≡ true) × (marked marks g ≡ true)
  code_found marks no_code e = absurd (false≢true e)
  code_found marks (code_and s rest) e = elim (or_cases (stmt_reaches marks s) (code_reaches marks rest) e) [
    | inl l ↦ let r = stmt_found marks s l in (r.0, or_left (stmt_calls r.0 s) (code_calls r.0 rest) r.1, r.2)
    | inr l ↦ let r = code_found marks rest l in (r.0, or_right (stmt_calls r.0 s) (code_calls r.0 rest) r.1, r.2)
  ]

module _ (marks : List Bool) (g : ℕ) (m : marked marks g ≡ true) where
  two_called : (x y : Code) → (code_calls g x ≡ true → code_reaches marks x ≡ true) → (code_calls g y ≡ true → code_reaches marks y ≡ true)
      → (code_calls g x || code_calls g y) ≡ true → (code_reaches marks x || code_reaches marks y) ≡ true
  two_called x y in_x in_y e = elim (or_cases (code_calls g x) (code_calls g y) e) [
    | inl l ↦ or_left (code_reaches marks x) (code_reaches marks y) (in_x l)
    | inr l ↦ or_right (code_reaches marks x) (code_reaches marks y) (in_y l)
  ]

  mutual
    stmt_called : (s : CoreStmt) → stmt_calls g s ≡ true → stmt_reaches marks s ≡ true
    stmt_called do_step e = e
    stmt_called (do_set to a) e = e
    stmt_called (do_unary to o a) e = e
    stmt_called (do_binary to o a b site) e = e
    stmt_called (do_load to base k field site) e = e
    stmt_called (do_store base k field value site) e = e
    stmt_called (do_new to k) e = e
    stmt_called (do_call to h args site) e = ap (marked marks) (eqb-true h g e) ∙ m
    stmt_called (do_library to l a t site) e = e
    stmt_called (do_if d a these those) e = two_called these those (code_called these) (code_called those) e
    stmt_called (do_loop entry again inv d test a body) e = two_called test body (code_called test) (code_called body) e
    stmt_called (do_return a site) e = e
    stmt_called (do_assert a site) e = e
    stmt_called (do_raise t site) e = e
    stmt_called (do_note k formula site) e = e

    code_called : (code : Code) → code_calls g code ≡ true → code_reaches marks code ≡ true
    code_called no_code e = e
    code_called (code_and s rest) e = elim (or_cases (stmt_calls g s) (code_calls g rest) e) [
      | inl l ↦ or_left (stmt_reaches marks s) (code_reaches marks rest) (stmt_called s l)
      | inr l ↦ or_right (stmt_reaches marks s) (code_reaches marks rest) (code_called rest l)
    ]

-- ---- one walk
pub record Walked (c : Core) (old : List Bool) (n : ℕ) (changed : Bool) (new : List Bool) : Type 0 where
  pub count : length new ≡ length old
  pub sound : (es : List Entry) → AreSound c es old → AreSound c es new
  pub grows : (g : ℕ) → marked old g ≡ true → marked new g ≡ true
  pub fewer : unmarked new + (if changed then 1 else 0) ≤ unmarked old
  pub closed : changed ≡ false → AreClosed c n new

pub walk_start : (c : Core) (old : List Bool) → Walked c old 0 false old
walk_start c old = record {
  count = refl;
  sound = λ es s. s;
  grows = λ g m. m;
  fewer = omega arith;
  closed = λ e g f lt at r. absurd (omega (arith, lt));
}

pub walk_mark : (c : Core) (old : List Bool) (n : ℕ) (changed : Bool) (marks : List Bool) (f : CoreFunction) → length old ≡ length c.functions → slice_get c.functions n ≡ Some f
    → (not (marked marks n) && code_reaches marks f.body) ≡ true → Walked c old n changed marks → Walked c old (n + 1) true (set marks n true)
walk_mark c old n changed marks f same at due w =
    let both = and_parts (not (marked marks n)) (code_reaches marks f.body) due in
    let lacks : marked marks n ≡ false = was_false (marked marks n) both.0 in
    let low : n < length marks = omega (arith, slice_get_within c.functions n f at, same, w.count) in
    let calls = code_found marks f.body both.1 in
    let grown : (g : ℕ) → marked marks g ≡ true → marked (set marks n true) g ≡ true = λ g m. elim (cases_eq g n) [
      | inl e ↦ subst (λ i. marked (set marks n true) i ≡ true) (sym e) (mark_same marks n low)
      | inr ne ↦ mark_other marks n g ne ∙ m
    ] in
    record {
      count = mark_count marks n ∙ w.count;
      sound = λ es s g m. elim (cases_eq g n) [
        | inl e ↦
            let x = w.sound es s calls.0 calls.2 in
            (x.0, subst (λ i. Reaches c i x.0) (sym e) (through n calls.0 x.0 f at calls.1 x.1), x.2)
        | inr ne ↦ w.sound es s g (sym (mark_other marks n g ne) ∙ m)
      ];
      grows = λ g m. grown g (w.grows g m);
      fewer = omega (arith, mark_fewer marks n low lacks, w.fewer);
      closed = λ e. absurd (false≢true (sym e));
    }
  where
    was_false : (b : Bool) → not b ≡ true → b ≡ false
    was_false true e = absurd (false≢true e)
    was_false false e = refl

pub walk_skip : (c : Core) (old : List Bool) (n : ℕ) (changed : Bool) (marks : List Bool) (f : CoreFunction) → slice_get c.functions n ≡ Some f
    → (not (marked marks n) && code_reaches marks f.body) ≡ false → Walked c old n changed marks → Walked c old (n + 1) changed marks
walk_skip c old n changed marks f at no_due w = record {
  count = w.count;
  sound = w.sound;
  grows = w.grows;
  fewer = w.fewer;
  closed = λ e g h lt has r. elim (cases_eq g n) [
    | inl same ↦
        let one : h ≡ f = same_Some h f (sym has ∙ ap (slice_get c.functions) same ∙ at) in
        subst (λ i. marked marks i ≡ true) (sym same) (is_so (marked marks n) (code_reaches marks f.body) no_due (subst (λ (x : CoreFunction). code_reaches marks x.body ≡ true) one r))
    | inr ne ↦ w.closed e g h (omega (arith, lt, ne)) has r
  ];
}
  where
    is_so : (a b : Bool) → (not a && b) ≡ false → b ≡ true → a ≡ true
    is_so true b e t = refl
    is_so false b e t = absurd (false≢true (sym e ∙ t))

pub walk_end : (c : Core) (old : List Bool) (n : ℕ) (changed : Bool) (marks : List Bool) → length c.functions ≤ n → Walked c old n changed marks → Passes c old changed marks
walk_end c old n changed marks past w = record {
  count = w.count;
  sound = w.sound;
  grows = w.grows;
  fewer = w.fewer;
  closed = λ e g f lt at r. w.closed e g f (omega (arith, lt, past)) at r;
}

-- ---- the first marks
pub start_told : (fs : List made.CoreFunction) (es : List Entry) (g k : ℕ)
    → (marked (map (λ f. not f.plain) fs) k || (is_some (slice_get fs k) && has_entry g es)) ≡ start_of es g (slice_get (map core_function_view fs) k)
start_told [] es g k = refl
start_told (f ∷ fs) es g zero = refl
start_told (f ∷ fs) es g (suc k) = start_told fs es g k

is_within : {X : Type 0} (xs : List X) (k : ℕ) → k < length xs → is_some (slice_get xs k) ≡ true
is_within [] k lt = absurd (omega (arith, lt))
is_within (x ∷ xs) zero lt = refl
is_within (x ∷ xs) (suc k) lt = is_within xs k (omega (arith, lt))

is_past : {X : Type 0} (xs : List X) (k : ℕ) → length xs ≤ k → is_some (slice_get xs k) ≡ false
is_past [] k le = refl
is_past (x ∷ xs) zero le = absurd (omega (arith, le))
is_past (x ∷ xs) (suc k) le = is_past xs k (omega (arith, le))

-- one entry's function gets its mark, where it is one
pub entry_marks : (fs : List made.CoreFunction) (marks : List Bool) (i g : ℕ) (has : Bool) → length marks ≡ length fs → i < length marks
    → (marked (set marks i true) g || (is_some (slice_get fs g) && has)) ≡ (marked marks g || (is_some (slice_get fs g) && (eqb i g || has)))
entry_marks fs marks i g has n lt = elim (cases_eq g i) [
  | inl e ↦
      let here : marked (set marks i true) g ≡ true = subst (λ k. marked (set marks i true) k ≡ true) (sym e) (mark_same marks i lt) in
      let in_all : is_some (slice_get fs g) ≡ true = is_within fs g (omega (arith, e, n, lt)) in
      let same : eqb i g ≡ true = eq-eqb i g (sym e) in
      ap (λ b. b || (is_some (slice_get fs g) && has)) here ∙ sym (ap (λ b. marked marks g || (b && (eqb i g || has))) in_all ∙ ap (λ b. marked marks g || (b || has)) same ∙ or_true (marked marks g))
  | inr ne ↦
      let other : eqb i g ≡ false = ne_eqb i g (λ e. ne (sym e)) in
      ap (λ b. b || (is_some (slice_get fs g) && has)) (mark_other marks i g ne) ∙ sym (ap (λ b. marked marks g || (is_some (slice_get fs g) && (b || has))) other)
]
  where
    or_true : (b : Bool) → (b || true) ≡ true
    or_true true = refl
    or_true false = refl

pub entry_past : (fs : List made.CoreFunction) (marks : List Bool) (i g : ℕ) (has : Bool) → length marks ≡ length fs → length marks ≤ i
    → (marked marks g || (is_some (slice_get fs g) && has)) ≡ (marked marks g || (is_some (slice_get fs g) && (eqb i g || has)))
entry_past fs marks i g has n le = elim (cases_eq g i) [
  | inl e ↦
      let past : is_some (slice_get fs g) ≡ false = is_past fs g (omega (arith, e, n, le)) in
      ap (λ b. marked marks g || (b && has)) past ∙ sym (ap (λ b. marked marks g || (b && (eqb i g || has))) past)
  | inr ne ↦
      let other : eqb i g ≡ false = ne_eqb i g (λ e. ne (sym e)) in
      sym (ap (λ b. marked marks g || (is_some (slice_get fs g) && (b || has))) other)
]

pub no_more : (a b : Bool) → (a || (b && false)) ≡ a
no_more true b = refl
no_more false true = refl
no_more false false = refl

-- ---- all walks
pub record Far (c : Core) (es : List Entry) (marks : List Bool) : Type 0 where
  pub count : length marks ≡ length c.functions
  pub sound : AreSound c es marks
  pub begins : (g : ℕ) → starts c es g ≡ true → marked marks g ≡ true

pub far_first : (c : Core) (es : List Entry) (marks : List Bool) → AreFirst c es marks → Far c es marks
far_first c es marks first = record {
  count = first.count;
  sound = λ g m. (g, itself g, sym (first.right g) ∙ m);
  begins = λ g s. first.right g ∙ s;
}

pub far_more : (c : Core) (es : List Entry) (old new : List Bool) (changed : Bool) → Passes c old changed new → Far c es old → Far c es new
far_more c es old new changed p far = record {
  count = p.count ∙ far.count;
  sound = p.sound es far.sound;
  begins = λ g s. p.grows g (far.begins g s);
}

back : (c : Core) (marks : List Bool) → AreClosed c (length c.functions) marks → {f h : ℕ} → Reaches c f h → marked marks h ≡ true → marked marks f ≡ true
back c marks closed (itself f) m = m
back c marks closed (through f k h fn at calls r) m =
    closed f fn (slice_get_within c.functions f fn at) at (code_called marks k (back c marks closed r m) fn.body calls)

pub far_end : (c : Core) (es : List Entry) (marks : List Bool) → Far c es marks → AreClosed c (length c.functions) marks → AreTracked c es marks
far_end c es marks far closed g = (λ m. far.sound g m, λ x. back c marks closed x.1 (far.begins x.0 x.2))
