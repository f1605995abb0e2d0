-- The marks go back from the open functions to all that reach them.
use Rattle.std.proofs.Common.{◌≡◌, ◌≢◌, ◌<◌, ◌≤◌, ◌+◌, ℕ, Bool, true, false, not, ◌||◌, ◌&&◌, eqb, Some, None, List, [], ◌∷◌, ◌++◌, map, length, get_or, inl, inr, refl, sym, ap, subst, ◌∙◌, arith}
use Rattle.std.specs.Prelude.{◌⊎◌, IsTrue, IsFalse, slice_get}
use Rattle.std.proofs.lemmas.Bool.{cases_eq, cases_lt, cases_Bool, eq-eqb, eqb-true, ne_eqb, false≢true, and_left, and_right, and_cases, and_parts, and_from, or_left, or_right, or_cases, not_from_true, not-false, not-true, true_from_ne_false, false_from_ne_true}
use Rattle.std.proofs.lemmas.List.{get_or_default, get_or_past, length-map, get_or-map, length-append}
use Rattle.std.proofs.lemmas.Option.{slice_get-get_or, slice_get_within, get_or_from_slice_get, same_Some}
use Rattle.gc0_tree.specs.Tree.{Function, Program}
use Rattle.c0_meaning.specs.Precision.{stmts_call, is_open, Reaches, itself, through, IsPlain}
use Rattle.plain_functions.specs.declared.marks.Marks.{Marks}
use Rattle.plain_functions.specs.Marks.{AreMarks}
use Rattle.plain_functions.specs.Callers.{among, AreCallers, AddsCaller, MarksMore, IsStart, weight}
use Rattle.plain_functions.proofs.Among.{among_then}

-- ---- who calls whom
-- the calls of the first functions are written
pub record Written (fs : List Function) (n : ℕ) (callers : List (List ℕ)) : Type 0 where
  pub count : length callers ≡ length fs
  pub right : (g f : ℕ) (fn : Function) → g < length fs → f < n → slice_get fs f ≡ Some fn → among f (get_or callers g []) ≡ stmts_call g fn.body
  pub rest : (g f : ℕ) → g < length fs → n ≤ f → among f (get_or callers g []) ≡ false

pub none_written : (fs : List Function) (callers : List (List ℕ)) → length callers ≡ length fs → ((g : ℕ) → get_or callers g [] ≡ []) → Written fs 0 callers
none_written fs callers c e = record {
  count = c;
  right = λ g f fn lt low. absurd (omega (arith, low));
  rest = λ g f lt low. ap (among f) (e g);
}

pub all_written : (fs : List Function) (n : ℕ) (callers : List (List ℕ)) → length fs ≤ n → Written fs n callers → AreCallers fs callers
all_written fs n callers past w = record {
  count = w.count;
  right = λ g f fn lt s. w.right g f fn lt (omega (arith, slice_get_within fs f fn s, past)) s;
}

one_fn : (fs : List Function) (f : ℕ) (x y : Function) → slice_get fs f ≡ Some x → slice_get fs f ≡ Some y → x ≡ y
one_fn fs f x y a b = same_Some x y (sym a ∙ b)

pub one_written : (fs : List Function) (n : ℕ) (old new : List (List ℕ)) (callees : List ℕ) (fn : Function) → slice_get fs n ≡ Some fn
    → ((g : ℕ) → among g callees ≡ stmts_call g fn.body) → AddsCaller old n callees new → Written fs n old → Written fs (n + 1) new
one_written fs n old new callees fn at calls adds w =
    let step : (g f : ℕ) → g < length fs → among f (get_or new g []) ≡ (among f (get_or old g []) || (eqb n f && among g callees)) = λ g f lt. adds.right g f (omega (arith, lt, w.count)) in
    let other : (g f : ℕ) → g < length fs → (n ≡ f → ⊥) → among f (get_or new g []) ≡ among f (get_or old g []) = λ g f lt ne.
    step g f lt ∙ ap (λ b. among f (get_or old g []) || (b && among g callees)) (ne_eqb n f ne) ∙ or_false (among f (get_or old g [])) in
    let this : (g f : ℕ) (gn : Function) → g < length fs → n ≡ f → slice_get fs f ≡ Some gn → among f (get_or new g []) ≡ stmts_call g gn.body = λ g f gn lt e s.
    step g f lt ∙ ap (λ b. b || (eqb n f && among g callees)) (w.rest g f lt (omega (arith, e))) ∙ ap (λ b. b && among g callees) (eq-eqb n f e) ∙ calls g
    ∙ ap (λ (x : Function). stmts_call g x.body) (one_fn fs n fn gn at (ap (slice_get fs) e ∙ s)) in
    record {
      count = adds.count ∙ w.count;
      right = λ g f gn lt low s. elim (cases_eq n f) [
        | inl e ↦ this g f gn lt e s
        | inr ne ↦ other g f lt ne ∙ w.right g f gn lt (omega (arith, low, ne)) s
      ];
      rest = λ g f lt low. other g f lt (λ e. omega (arith, e, low)) ∙ w.rest g f lt (omega (arith, low));
    }
  where
    or_false : (x : Bool) → (x || false) ≡ x
    or_false true = refl
    or_false false = refl

-- ---- marks
-- a mark, which only a function has
abbrev pub is_marked : Marks → ℕ → Type 0
is_marked m g = get_or m.plain g true ≡ false

pub marked_within : (m : Marks) (g : ℕ) → is_marked m g → g < length m.plain
marked_within m g e = elim (cases_lt g (length m.plain)) [
  | inl lt ↦ lt
  | inr ge ↦ absurd (false≢true (sym e ∙ get_or_past m.plain g true ge))
]

from_default : (m : Marks) (g : ℕ) → is_marked m g → get_or m.plain g false ≡ false
from_default m g e = get_or_default m.plain g false true (marked_within m g e) ∙ e

to_default : (m : Marks) (g : ℕ) → g < length m.plain → get_or m.plain g false ≡ false → is_marked m g
to_default m g lt e = get_or_default m.plain g true false lt ∙ e

-- a function reaches an open one
pub record Opens (p : Program) (g : ℕ) : Type 0 where
  pub open_one : ℕ
  pub fn : Function
  pub reaches : Reaches p g open_one
  pub here : slice_get p.functions open_one ≡ Some fn
  pub is_it : IsTrue (is_open fn)

-- how far the marks have come
pub record Far (p : Program) (m : Marks) : Type 0 where
  pub count : length m.plain ≡ length p.functions
  pub opens : (g : ℕ) (fn : Function) → slice_get p.functions g ≡ Some fn → IsTrue (is_open fn) → is_marked m g
  pub sound : (g : ℕ) → is_marked m g → Opens p g
  pub waits : (g : ℕ) → IsTrue (among g m.waiting) → is_marked m g
  pub closed : (f g : ℕ) (fn : Function) → slice_get p.functions f ≡ Some fn → IsTrue (stmts_call g fn.body) → is_marked m g → is_marked m f ⊎ IsTrue (among g m.waiting)

-- one call in front
caller_opens : (p : Program) (f g : ℕ) (fn : Function) → slice_get p.functions f ≡ Some fn → IsTrue (stmts_call g fn.body) → Opens p g → Opens p f
caller_opens p f g fn s c o = record { open_one = o.open_one; fn = o.fn; reaches = through f g o.open_one fn s c o.reaches; here = o.here; is_it = o.is_it }

not_false : (b : Bool) → not b ≡ false → b ≡ true
not_false true e = refl
not_false false e = absurd (false≢true (sym e))

function_at : (fs : List Function) (f : ℕ) → f < length fs → (fn : Function) × (slice_get fs f ≡ Some fn)
function_at [] f lt = absurd (omega (arith, lt))
function_at (x ∷ xs) f lt = (get_or (x ∷ xs) f x, slice_get-get_or (x ∷ xs) f x lt)

pub at_start : (p : Program) (m : Marks) → IsStart p.functions m → Far p m
at_start p m start =
    let fs = p.functions in
    let count : length m.plain ≡ length fs = ap length start.plain ∙ length-map fs (λ f. not (is_open f)) in
    let at : (g : ℕ) (fn : Function) → slice_get fs g ≡ Some fn → get_or m.plain g true ≡ not (is_open fn) = λ g fn s.
    let lt = slice_get_within fs g fn s in
    ap (λ l. get_or l g true) start.plain ∙ get_or-map (λ f. not (is_open f)) fs g fn true lt ∙ ap (λ f. not (is_open f)) (get_or_from_slice_get fs g fn fn s) in
    record {
      count = count;
      opens = λ g fn s o. at g fn s ∙ ap not o;
      sound = λ g e.
          let w = function_at fs g (omega (arith, marked_within m g e, count)) in
          record { open_one = g; fn = w.0; reaches = itself g; here = w.1; is_it = not_false (is_open w.0) (sym (at g w.0 w.1) ∙ e) };
      waits = λ g t. not-true (get_or m.plain g true) (sym (start.waiting g) ∙ t);
      closed = λ f g fn s c e. inr (start.waiting g ∙ ap not e);
    }

-- the callers of one that waited are marked
pub one_more : (p : Program) (old : Marks) (rest : List ℕ) (g0 : ℕ) (callers : List (List ℕ)) (new : Marks) → AreCallers p.functions callers
    → old.waiting ≡ rest ++ g0 ∷ [] → MarksMore (record { plain = old.plain; waiting = rest }) (get_or callers g0 []) new → Far p old → Far p new
one_more p old rest g0 callers new who w more far =
    let fs = p.functions in
    let those = get_or callers g0 [] in
    let count : length new.plain ≡ length fs = more.count ∙ far.count in
    let waited : (g : ℕ) → among g old.waiting ≡ (among g rest || eqb g0 g) = λ g. among_then g g0 rest old.waiting w in
    let g0_marked : is_marked old g0 = far.waits g0 (waited g0 ∙ or_right (among g0 rest) (eqb g0 g0) (eq-eqb g0 g0 refl)) in
    let low : g0 < length fs = omega (arith, marked_within old g0 g0_marked, far.count) in
    let kept : (f : ℕ) → is_marked old f → is_marked new f = λ f e.
    to_default new f (omega (arith, marked_within old f e, more.count)) (more.marked f ∙ and_left (get_or old.plain f false) (not (among f those)) (from_default old f e)) in
    let marks : (f : ℕ) → f < length fs → IsTrue (among f those) → is_marked new f = λ f lt t.
    to_default new f (omega (arith, lt, count)) (more.marked f ∙ and_right (get_or old.plain f false) (not (among f those)) (not_from_true (among f those) t)) in
    let new_or_old : (f : ℕ) → is_marked new f → is_marked old f ⊎ ((get_or old.plain f false ≡ true) × IsTrue (among f those)) = λ f e.
    elim (cases_Bool (get_or old.plain f false)) [
      | inl lacks ↦ inr (
        lacks,
        elim (and_cases (get_or old.plain f false) (not (among f those)) (sym (more.marked f) ∙ from_default new f e)) [
          | inl gone ↦ absurd (false≢true (sym gone ∙ lacks))
          | inr t ↦ not_false (among f those) t
        ],
      )
      | inr gone ↦ inl (to_default old f (omega (arith, marked_within new f e, more.count)) gone)
    ] in
    record {
      count = count;
      opens = λ g fn s o. kept g (far.opens g fn s o);
      sound = λ g e. elim (new_or_old g e) [
        | inl before ↦ far.sound g before
        | inr now ↦
            let w = function_at fs g (omega (arith, marked_within new g e, count)) in
            caller_opens p g g0 w.0 w.1 (sym (who.right g0 g w.0 low w.1) ∙ now.1) (far.sound g0 g0_marked)
      ];
      waits = λ g t. elim (or_cases (among g rest) (get_or old.plain g false && among g those) (sym (more.waits g) ∙ t)) [
        | inl before ↦ kept g (far.waits g (waited g ∙ or_left (among g rest) (eqb g0 g) before))
        | inr now ↦
            let both = and_parts (get_or old.plain g false) (among g those) now in
            marks g (omega (arith, unmarked g both.0, far.count)) both.1
      ];
      closed = λ f g fn s c e. elim (new_or_old g e) [
        | inr now ↦ inr (more.waits g ∙ or_right (among g rest) (get_or old.plain g false && among g those) (and_from (get_or old.plain g false) (among g those) now.0 now.1))
        | inl before ↦ elim (far.closed f g fn s c before) [
          | inl m ↦ inl (kept f m)
          | inr t ↦ elim (or_cases (among g rest) (eqb g0 g) (sym (waited g) ∙ t)) [
            | inl still ↦ inr (more.waits g ∙ or_left (among g rest) (get_or old.plain g false && among g those) still)
            | inr same ↦
                let e : g ≡ g0 = sym (eqb-true g0 g same) in
                inl (marks f (slice_get_within fs f fn s) (who.right g0 f fn low s ∙ ap (λ i. stmts_call i fn.body) (sym e) ∙ c))
          ]
        ]
      ];
    }
  where
    unmarked : (g : ℕ) → get_or old.plain g false ≡ true → g < length old.plain
    unmarked g e = elim (cases_lt g (length old.plain)) [
      | inl lt ↦ lt
      | inr ge ↦ absurd (false≢true (sym (get_or_past old.plain g false ge) ∙ e))
    ]

-- one that waited has a list of callers
pub waiting_within : (p : Program) (old : Marks) (rest : List ℕ) (g0 : ℕ) → old.waiting ≡ rest ++ g0 ∷ [] → Far p old → g0 < length p.functions
waiting_within p old rest g0 w far =
    let t : IsTrue (among g0 old.waiting) = among_then g0 g0 rest old.waiting w ∙ or_right (among g0 rest) (eqb g0 g0) (eq-eqb g0 g0 refl) in
    omega (arith, marked_within old g0 (far.waits g0 t), far.count)

pub less_left : (old : Marks) (rest : List ℕ) (g0 : ℕ) (those : List ℕ) (new : Marks) → old.waiting ≡ rest ++ g0 ∷ [] → MarksMore (record { plain = old.plain; waiting = rest }) those new → weight new < weight old
less_left old rest g0 those new w more =
    let l : length old.waiting ≡ length rest + 1 = ap length w ∙ length-append rest (g0 ∷ []) in
    omega (arith, l, more.same_weight)

-- ---- at the end
still_plain : (p : Program) (m : Marks) → Far p m → m.waiting ≡ [] → {g h : ℕ} → Reaches p g h → get_or m.plain g true ≡ true → get_or m.plain h true ≡ true
still_plain p m far none (itself g) e = e
still_plain p m far none (through f g h fn s c rest) e =
    still_plain p m far none rest (true_from_ne_false (get_or m.plain g true) (λ marked. elim (far.closed f g fn s c marked) [
      | inl gone ↦ false≢true (sym gone ∙ e)
      | inr waits ↦ false≢true (ap (among g) (sym none) ∙ waits)
    ]))

pub at_end : (p : Program) (m : Marks) → Far p m → m.waiting ≡ [] → AreMarks p m.plain
at_end p m far none = record {
  count = far.count;
  right = λ g mark at.
      let here : get_or m.plain g true ≡ mark = get_or_from_slice_get m.plain g mark true at in (
        λ kept h fn reaches s. false_from_ne_true (is_open fn) (λ o. false≢true (sym (far.opens h fn s o) ∙ still_plain p m far none reaches (here ∙ kept))),
        λ plain. true_from_ne_false mark (λ gone.
            let o = far.sound g (here ∙ gone) in
            false≢true (sym (plain o.open_one o.fn o.reaches o.here) ∙ o.is_it)),
      );
}
