-- Where the words of objects lie that are laid one after another.
use Rattle.std.proofs.Common.{◌≡◌, ℕ, zero, suc, ◌+◌, ◌<◌, ◌≤◌, Bool, true, cond, eqb, ltb, List, [], ◌∷◌, ◌++◌, length, Option, Some, None, refl, sym, ap, subst, ◌∙◌, arith}
use Rattle.std.specs.List.{slice_get}
use Rattle.std.specs.Option.{IfSome}
use Rattle.std.proofs.lemmas.Bool.{and_parts, and_from, eqb-true, eq-eqb, ltb-true, lt-ltb}
use Rattle.std.proofs.lemmas.Option.{none-some, same_Some, cond_some}
use Rattle.owned_heap.specs.declared.heap.Stretch.{Stretch}
use Rattle.owned_heap.specs.declared.heap.Heap.{Heap}
use Rattle.owned_heap.specs.Laid.{are_laid}
use Rattle.owned_heap.specs.Stands.{stretch_of, offset_in}

pub first_laid : (from : ℕ) (o : Stretch) (os : List Stretch) (end : ℕ) → are_laid from (o ∷ os) end ≡ true → (o.start ≡ from) × (are_laid (from + o.fields) os end ≡ true)
first_laid from o os end h =
    let both = and_parts (eqb o.start from) (are_laid (from + o.fields) os end) h in
    (eqb-true o.start from both.0, both.1)

pub laid_within : (from : ℕ) (os : List Stretch) (end : ℕ) → are_laid from os end ≡ true → from ≤ end
laid_within from [] end h = let e = eqb-true from end h in omega arith
laid_within from (o ∷ os) end h =
    let rest = laid_within (from + o.fields) os end (first_laid from o os end h).1 in
    omega arith

-- where the stretch of a number lies
pub laid_at : (from : ℕ) (os : List Stretch) (end k : ℕ) (o : Stretch) → are_laid from os end ≡ true → slice_get os k ≡ Some o → (from ≤ o.start) × (o.start + o.fields ≤ end)
laid_at from [] end k o h e = absurd (none-some o e)
laid_at from (p ∷ os) end zero o h e =
    let both = first_laid from p os end h in
    let within = laid_within (from + p.fields) os end both.1 in
    let is = same_Some p o e in
    subst (λ (q : Stretch). (from ≤ q.start) × (q.start + q.fields ≤ end)) is (let a = both.0 in (omega arith, omega arith))
laid_at from (p ∷ os) end (suc k) o h e =
    let rest = laid_at (from + p.fields) os end k o (first_laid from p os end h).1 e in
    (omega (arith, rest.0), rest.1)

-- an earlier stretch ends where a later one starts, or before
pub earlier : (from : ℕ) (os : List Stretch) (end j k : ℕ) (p o : Stretch) → are_laid from os end ≡ true → j < k → slice_get os j ≡ Some p → slice_get os k ≡ Some o → p.start + p.fields ≤ o.start
earlier from [] end j k p o h less ep eo = absurd (none-some p ep)
earlier from (q ∷ os) end j zero p o h less ep eo = absurd (omega arith)
earlier from (q ∷ os) end zero (suc k) p o h less ep eo =
    let both = first_laid from q os end h in
    let at = (laid_at (from + q.fields) os end k o both.1 eo).0 in
    subst (λ (r : Stretch). r.start + r.fields ≤ o.start) (same_Some q p ep) (omega (arith, both.0))
earlier from (q ∷ os) end (suc j) (suc k) p o h less ep eo = earlier (from + q.fields) os end j k p o (first_laid from q os end h).1 (omega arith) ep eo

-- one more stretch at the end
pub laid_push : (from : ℕ) (os : List Stretch) (end : ℕ) (o : Stretch) (after : ℕ) → are_laid from os end ≡ true → o.start ≡ end → after ≡ end + o.fields → are_laid from (os ++ o ∷ []) after ≡ true
laid_push from [] end o after h here e =
    let is = eqb-true from end h in
    and_from (eqb o.start from) (eqb (from + o.fields) after) (eq-eqb o.start from (omega arith)) (eq-eqb (from + o.fields) after (omega arith))
laid_push from (p ∷ os) end o after h here e =
    let both = and_parts (eqb p.start from) (are_laid (from + p.fields) os end) h in
    and_from (eqb p.start from) (are_laid (from + p.fields) (os ++ o ∷ []) after) both.0 (laid_push (from + p.fields) os end o after both.1 here e)

-- the word of a cell lies at this place
pub record Lies (h : Heap) (object field place : ℕ) : Type 0 where
  pub index : ℕ
  pub stretch : Stretch
  pub number : object ≡ suc index
  pub there : slice_get h.objects.items index ≡ Some stretch
  pub less : field < stretch.fields
  pub is : stretch.start + field ≡ place

lies_in : (h : Heap) (k field place : ℕ) (at : Option Stretch) → slice_get h.objects.items k ≡ at → offset_in at field ≡ Some place → Lies h (suc k) field place
lies_in h k field place None e o = absurd (none-some place o)
lies_in h k field place (Some s) e o =
    let both = cond_some (ltb field s.fields) (s.start + field) place o in
    record { index = k; stretch = s; number = refl; there = e; less = ltb-true field s.fields both.0; is = both.1 }

pub lies : (h : Heap) (object field place : ℕ) → offset_in (stretch_of h object) field ≡ Some place → Lies h object field place
lies h zero field place e = absurd (none-some place e)
lies h (suc k) field place e = lies_in h k field place (slice_get h.objects.items k) refl e

-- and so it does there where there is such a stretch
pub lies_so : (h : Heap) (k field : ℕ) (s : Stretch) → slice_get h.objects.items k ≡ Some s → field < s.fields → offset_in (stretch_of h (suc k)) field ≡ Some (s.start + field)
lies_so h k field s e less =
    ap (λ (at : Option Stretch). offset_in at field) e ∙ ap (λ (b : Bool). cond b (Some (s.start + field)) None) (lt-ltb field s.fields less)

pub lies_within : (h : Heap) (object field place : ℕ) → Lies h object field place → place < length h.words.items
lies_within h object field place l =
    let at = (laid_at 0 h.objects.items (length h.words.items) l.index l.stretch h.laid l.there).1 in
    omega (arith, at, l.less, l.is)

pub stretch_within : (h : Heap) (object : ℕ) (s : Stretch) → Some s ≡ stretch_of h object → s.start + s.fields ≤ length h.words.items
stretch_within h zero s e = absurd (none-some s (sym e))
stretch_within h (suc k) s e = (laid_at 0 h.objects.items (length h.words.items) k s h.laid (sym e)).1

pub ends_within : (h : Heap) (index : ℕ) (at : Option Stretch) → at ≡ slice_get h.objects.items index → IfSome at (λ s. s.start + s.fields ≤ length h.words.items)
ends_within h index None e = tt
ends_within h index (Some s) e = (laid_at 0 h.objects.items (length h.words.items) index s h.laid (sym e)).1
