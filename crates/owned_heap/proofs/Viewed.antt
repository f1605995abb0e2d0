-- What the heap that is seen holds, after a write and with an object more.
use Rattle.std.proofs.Common.{◌≡◌, ℕ, zero, suc, ◌+◌, ◌-◌, ◌<◌, ◌≤◌, Bool, true, false, cond, ltb, List, [], ◌∷◌, ◌++◌, length, map, take, drop, set, replicate, Option, Some, None, refl, sym, ap, ◌∙◌, arith}
use Rattle.std.specs.List.{slice_get}
use Rattle.std.specs.Option.{option_map}
use Rattle.std.proofs.lemmas.Bool.{eqb-true, ltb-false}
use Rattle.std.proofs.lemmas.List.{take_all, drop-drop, map-set, take-set-le, drop-set-lt, drop-set-add, take-append-le, drop-append-le, length-take, length-drop, length-map, nil_from_length, set_past, length-replicate}
use Rattle.std.proofs.lemmas.Option.{none-some, same_Some, slice_get-map, slice_get_past}
use Rattle.gc0_base.specs.declared.word.Word.{Word}
use Rattle.c0_meaning.specs.Heaps.{Object, field_of, cell_value, with_field, put_object, set_cell}
use Rattle.owned_heap.specs.declared.heap.Stretch.{Stretch}
use Rattle.owned_heap.specs.declared.heap.Heap.{Heap}
use Rattle.owned_heap.specs.Laid.{are_laid}
use Rattle.owned_heap.specs.Views.{objects_of, heap_view, object_at, fields_in}
use Rattle.owned_heap.specs.Stands.{stretch_of, offset_in}
use Rattle.owned_heap.proofs.Stretches.{first_laid, laid_push, laid_within, laid_at, stretch_within, Lies}

abbrev pub number : Word → ℕ
number w = w.0

abbrev pub seen : Stretch → List Word → Object
seen o words = record { of_struct = o.of_struct; fields = map number (take o.fields words) }

length-objects : (os : List Stretch) (words : List Word) → length (objects_of os words) ≡ length os
length-objects [] words = refl
length-objects (o ∷ os) words = ap suc (length-objects os (drop o.fields words))

pub length_seen : (h : Heap) → length (heap_view h) ≡ length h.objects.items
unfolding heap_view
length_seen h = length-objects h.objects.items h.words.items

drop_within : (m n : ℕ) (words : List Word) (s : ℕ) → s ≡ n + m → drop m (drop n words) ≡ drop s words
drop_within m n words s e = drop-drop m n words ∙ ap (λ k. drop k words) (sym e)

-- the object of an index: its stretch lies s words behind the first
pub object_seen :
    (from : ℕ) (os : List Stretch) (end : ℕ) (words : List Word) (k s : ℕ) (o : Stretch) → are_laid from os end ≡ true → slice_get os k ≡ Some o → from + s ≡ o.start
    → slice_get (objects_of os words) k ≡ Some (seen o (drop s words))
object_seen from [] end words k s o h e at = absurd (none-some o e)
object_seen from (p ∷ os) end words zero s o h e at =
    let is = same_Some p o e in
    let here = (first_laid from p os end h).0 in
    let none : s ≡ 0 = omega (arith, ap (λ (q : Stretch). q.start) is) in
    ap (λ (q : Stretch). Some (seen q words)) is ∙ ap (λ k. Some (seen o (drop k words))) (sym none)
object_seen from (p ∷ os) end words (suc k) s o h e at =
    let both = first_laid from p os end h in
    let behind = (laid_at (from + p.fields) os end k o both.1 e).0 in
    object_seen (from + p.fields) os end (drop p.fields words) k (s - p.fields) o both.1 e (omega arith)
    ∙ ap (λ l. Some (seen o l)) (drop_within (s - p.fields) p.fields words s (omega arith))

pub none_seen : (os : List Stretch) (words : List Word) (k : ℕ) → slice_get os k ≡ None → slice_get (objects_of os words) k ≡ None
none_seen [] words k e = refl
none_seen (o ∷ os) words zero e = absurd (none-some o (sym e))
none_seen (o ∷ os) words (suc k) e = none_seen os (drop o.fields words) k e

pub object_there : (h : Heap) (object : ℕ) (s : Stretch) → Some s ≡ stretch_of h object → object_at (heap_view h) object ≡ Some (seen s (drop s.start h.words.items))
unfolding heap_view
object_there h zero s e = absurd (none-some s (sym e))
object_there h (suc k) s e = object_seen 0 h.objects.items (length h.words.items) h.words.items k s.start s h.laid (sym e) (omega arith)

pub object_nowhere : (h : Heap) (object : ℕ) → None ≡ stretch_of h object → object_at (heap_view h) object ≡ None
unfolding heap_view
object_nowhere h zero e = refl
object_nowhere h (suc k) e = none_seen h.objects.items h.words.items k (sym e)

-- an object has the fields of its stretch
pub many_fields : (h : Heap) (object : ℕ) (s : Stretch) → Some s ≡ stretch_of h object → length (seen s (drop s.start h.words.items)).fields ≡ s.fields
many_fields h object s e =
    let within = stretch_within h object s e in
    let rest = drop s.start h.words.items in
    omega (arith, length-map (take s.fields rest) number, length-take s.fields rest, length-drop s.start h.words.items)

-- ---- a word more or less far in a list
get_taken : {A : Type 0} (n : ℕ) (xs : List A) (f : ℕ) → f < n → slice_get (take n xs) f ≡ slice_get xs f
get_taken zero xs f less = absurd (omega arith)
get_taken (suc n) [] f less = refl
get_taken (suc n) (x ∷ xs) zero less = refl
get_taken (suc n) (x ∷ xs) (suc f) less = get_taken n xs f (omega arith)

pub get_dropped : {A : Type 0} (s : ℕ) (xs : List A) (f place : ℕ) → s + f ≡ place → slice_get (drop s xs) f ≡ slice_get xs place
get_dropped zero xs f place e = ap (slice_get xs) (omega arith)
get_dropped (suc s) [] f place e = refl
get_dropped (suc s) (x ∷ xs) f zero e = absurd (omega arith)
get_dropped (suc s) (x ∷ xs) f (suc place) e = get_dropped s xs f place (omega arith)

set_taken : {A : Type 0} (n : ℕ) (xs : List A) (f : ℕ) (x : A) → f < n → take n (set xs f x) ≡ set (take n xs) f x
set_taken zero xs f x less = absurd (omega arith)
set_taken (suc n) [] f x less = refl
set_taken (suc n) (y ∷ xs) zero x less = refl
set_taken (suc n) (y ∷ xs) (suc f) x less = ap (λ l. y ∷ l) (set_taken n xs f x (omega arith))

set_same : {A : Type 0} (xs : List A) (k : ℕ) (x : A) → slice_get xs k ≡ Some x → set xs k x ≡ xs
set_same [] k x e = refl
set_same (y ∷ xs) zero x e = ap (λ (z : _). z ∷ xs) (sym (same_Some y x e))
set_same (y ∷ xs) (suc k) x e = ap (λ l. y ∷ l) (set_same xs k x e)

-- ---- a word that is read
one_less : (k : ℕ) → suc k - 1 ≡ k
one_less k = omega arith

pub value_there : (h : Heap) (object field place : ℕ) → Lies h object field place → cell_value (heap_view h) (record { object = object; field = field }) ≡ option_map number (slice_get h.words.items place)
unfolding heap_view
value_there h object field place l =
    let s = l.stretch in
    let ws = h.words.items in
    let at : object - 1 ≡ l.index = omega (arith, l.number) in
    let there = object_seen 0 h.objects.items (length ws) ws l.index s.start s h.laid l.there (omega arith) in
    ap (λ k. field_of (slice_get (heap_view h) k) field) at
    ∙ ap (λ (o : Option Object). field_of o field) there
    ∙ slice_get-map number (take s.fields (drop s.start ws)) field
    ∙ ap (option_map number) (get_taken s.fields (drop s.start ws) field l.less ∙ get_dropped s.start ws field place l.is)

-- a field past the object's last
past_fields : (s : Stretch) (words : List Word) (field : ℕ) → s.fields ≤ field → length (map number (take s.fields words)) ≤ field
past_fields s words field h = omega (arith, length-map (take s.fields words) number, length-take s.fields words)

-- the heap has no such cell: no such object, or no such field
pub record Lacks (h : Heap) (k field : ℕ) (s : Stretch) : Type 0 where
  pub there : slice_get h.objects.items k ≡ Some s
  pub past : s.fields ≤ field

cond_none : {A : Type 0} (b : Bool) (x : A) → cond b (Some x) None ≡ None → b ≡ false
cond_none true x e = absurd (none-some x (sym e))
cond_none false x e = refl

lacked : (h : Heap) (k field : ℕ) (at : Option Stretch) (P : Type 0) → slice_get h.objects.items k ≡ at → offset_in at field ≡ None → (slice_get h.objects.items k ≡ None → P) → ((s : Stretch) → Lacks h k field s → P) → P
lacked h k field None P e o none past = none e
lacked h k field (Some s) P e o none past = past s (record { there = e; past = ltb-false field s.fields (cond_none (ltb field s.fields) (s.start + field) o) })

none_valued : (h : Heap) (k field : ℕ) → offset_in (stretch_of h (suc k)) field ≡ None → field_of (slice_get (heap_view h) k) field ≡ None
unfolding heap_view
none_valued h k field e =
    let ws = h.words.items in
    lacked h k field (slice_get h.objects.items k) (field_of (slice_get (heap_view h) k) field ≡ None) refl e
    (λ none. ap (λ (o : Option Object). field_of o field) (none_seen h.objects.items ws k none))
    (λ s l.
    let there = object_seen 0 h.objects.items (length ws) ws k s.start s h.laid l.there (omega arith) in
    ap (λ (o : Option Object). field_of o field) there
    ∙ slice_get_past (map number (take s.fields (drop s.start ws))) field (past_fields s (drop s.start ws) field l.past))

pub value_nowhere : (h : Heap) (object field : ℕ) → 0 < object → offset_in (stretch_of h object) field ≡ None → cell_value (heap_view h) (record { object = object; field = field }) ≡ None
unfolding heap_view
value_nowhere h zero field less e = absurd (omega arith)
value_nowhere h (suc k) field less e = ap (λ j. field_of (slice_get (heap_view h) j) field) (one_less k) ∙ none_valued h k field e

-- ---- a word that is written
write_seen :
    (from : ℕ) (os : List Stretch) (end : ℕ) (words : List Word) (k s f place : ℕ) (o : Stretch) (w : Word) → are_laid from os end ≡ true → slice_get os k ≡ Some o → from + s ≡ o.start → f < o.fields → s + f ≡ place
    → objects_of os (set words place w) ≡ set (objects_of os words) k (record { of_struct = o.of_struct; fields = set (map number (take o.fields (drop s words))) f (number w) })
write_seen from [] end words k s f place o w h e at less is = absurd (none-some o e)
write_seen from (p ∷ os) end words zero s f place o w h e at less is =
    let same = same_Some p o e in
    let here = (first_laid from p os end h).0 in
    let none : s ≡ 0 = omega (arith, ap (λ (q : Stretch). q.start) same) in
    let there : place ≡ f = omega arith in
    let many : p.fields ≡ o.fields = ap (λ (q : Stretch). q.fields) same in
    let less' : f < p.fields = omega arith in
    ap (λ k. objects_of (p ∷ os) (set words k w)) there
    ∙ ap (λ l. record { of_struct = p.of_struct; fields = map number l } ∷ objects_of os (drop p.fields (set words f w))) (set_taken p.fields words f w less')
    ∙ ap (λ l. record { of_struct = p.of_struct; fields = l } ∷ objects_of os (drop p.fields (set words f w))) (map-set number (take p.fields words) f w)
    ∙ ap (λ l. record { of_struct = p.of_struct; fields = set (map number (take p.fields words)) f (number w) } ∷ objects_of os l) (drop-set-lt p.fields words f w less')
    ∙ ap (λ (q : Stretch). record { of_struct = q.of_struct; fields = set (map number (take q.fields words)) f (number w) } ∷ objects_of os (drop p.fields words)) same
    ∙ ap (λ k. record { of_struct = o.of_struct; fields = set (map number (take o.fields (drop k words))) f (number w) } ∷ objects_of os (drop p.fields words)) (sym none)
write_seen from (p ∷ os) end words (suc k) s f place o w h e at less is =
    let both = first_laid from p os end h in
    let behind = (laid_at (from + p.fields) os end k o both.1 e).0 in
    let n = p.fields in
    let past : place ≡ n + (s - n + f) = omega arith in
    let ws' = drop n words in
    ap (λ k. objects_of (p ∷ os) (set words k w)) past
    ∙ ap (λ l. record { of_struct = p.of_struct; fields = map number l } ∷ objects_of os (drop n (set words (n + (s - n + f)) w))) (take-set-le n words (n + (s - n + f)) w (omega arith))
    ∙ ap (λ l. seen p words ∷ objects_of os l) (drop-set-add n words (s - n + f) w)
    ∙ ap (λ l. seen p words ∷ l) (write_seen (from + n) os end ws' k (s - n) f (s - n + f) o w both.1 e (omega arith) less refl)
    ∙ ap (λ l. seen p words ∷ set (objects_of os ws') k (record { of_struct = o.of_struct; fields = set (map number (take o.fields l)) f (number w) })) (drop_within (s - n) n words s (omega arith))

pub set_there :
    (h : Heap) (object field place : ℕ) (w : Word) → Lies h object field place
    → objects_of h.objects.items (set h.words.items place w) ≡ set_cell (heap_view h) (record { object = object; field = field }) (number w)
unfolding heap_view
set_there h object field place w l =
    let s = l.stretch in
    let ws = h.words.items in
    let at : object - 1 ≡ l.index = omega (arith, l.number) in
    let there = object_seen 0 h.objects.items (length ws) ws l.index s.start s h.laid l.there (omega arith) in
    write_seen 0 h.objects.items (length ws) ws l.index s.start field place s w h.laid l.there (omega arith) l.less l.is
    ∙ sym (
    ap (λ k. put_object (heap_view h) k (with_field (slice_get (heap_view h) k) field (number w))) at
    ∙ ap (λ (o : Option Object). put_object (heap_view h) l.index (with_field o field (number w))) there)

none_set : (h : Heap) (k field v : ℕ) → offset_in (stretch_of h (suc k)) field ≡ None → heap_view h ≡ put_object (heap_view h) k (with_field (slice_get (heap_view h) k) field v)
unfolding heap_view
none_set h k field v e =
    let ws = h.words.items in
    let put : Option Object → List Object = λ o. put_object (heap_view h) k (with_field o field v) in
    lacked h k field (slice_get h.objects.items k) (heap_view h ≡ put (slice_get (heap_view h) k)) refl e
    (λ none. sym (ap put (none_seen h.objects.items ws k none)))
    (λ s l.
    let there = object_seen 0 h.objects.items (length ws) ws k s.start s h.laid l.there (omega arith) in
    let words = map number (take s.fields (drop s.start ws)) in
    sym (
    ap put there
    ∙ ap (λ f. set (heap_view h) k (record { of_struct = s.of_struct; fields = f })) (set_past words field v (past_fields s (drop s.start ws) field l.past))
    ∙ set_same (heap_view h) k (record { of_struct = s.of_struct; fields = words }) there))

pub set_nowhere : (h : Heap) (object field v : ℕ) → 0 < object → offset_in (stretch_of h object) field ≡ None → heap_view h ≡ set_cell (heap_view h) (record { object = object; field = field }) v
unfolding heap_view
set_nowhere h zero field v less e = absurd (omega arith)
set_nowhere h (suc k) field v less e = none_set h k field v e ∙ ap (λ j. put_object (heap_view h) j (with_field (slice_get (heap_view h) j) field v)) (sym (one_less k))

-- ---- an object more
laid_end : (from end : ℕ) (words : List Word) → are_laid from [] end ≡ true → from + length words ≡ end → length words ≡ 0
laid_end from end words h long = let e = eqb-true from end h in omega arith

pub push_seen :
    (from : ℕ) (os : List Stretch) (end : ℕ) (words more : List Word) (o : Stretch) → are_laid from os end ≡ true → from + length words ≡ end → length more ≡ o.fields
    → objects_of (os ++ o ∷ []) (words ++ more) ≡ objects_of os words ++ record { of_struct = o.of_struct; fields = map number more } ∷ []
push_seen from [] end words more o h long many =
    let within = laid_within from [] end h in
    let none : words ≡ [] = nil_from_length words (laid_end from end words h long) in
    ap (λ l. objects_of (o ∷ []) (l ++ more)) none ∙ ap (λ l. record { of_struct = o.of_struct; fields = map number l } ∷ []) (take_all o.fields more (omega arith))
push_seen from (p ∷ os) end words more o h long many =
    let both = first_laid from p os end h in
    let within = laid_within (from + p.fields) os end both.1 in
    let fits : p.fields ≤ length words = omega arith in
    ap (λ l. record { of_struct = p.of_struct; fields = map number l } ∷ objects_of (os ++ o ∷ []) (drop p.fields (words ++ more))) (take-append-le p.fields words more fits)
    ∙ ap (λ l. seen p words ∷ objects_of (os ++ o ∷ []) l) (drop-append-le p.fields words more fits)
    ∙ ap (λ l. seen p words ∷ l) (push_seen (from + p.fields) os end (drop p.fields words) more o both.1 (omega (arith, length-drop p.fields words)) many)

map-replicate : (n : ℕ) (w : Word) → map number (replicate n w) ≡ replicate n (number w)
map-replicate zero w = refl
map-replicate (suc n) w = ap (λ l. number w ∷ l) (map-replicate n w)

pub made_laid :
    (h : Heap) (o : Stretch) (mid objects : List Stretch) (words : List Word) → mid ≡ h.objects.items → objects ≡ mid ++ o ∷ [] → o.start ≡ length h.words.items
    → length words ≡ length h.words.items + o.fields → are_laid 0 objects (length words) ≡ true
made_laid h o mid objects words kept pushed start long =
    ap (λ l. are_laid 0 l (length words)) (pushed ∙ ap (λ l. l ++ o ∷ []) kept) ∙ laid_push 0 h.objects.items (length h.words.items) o (length words) h.laid start long

module _ (h : Heap) (o : Stretch) (mid objects : List Stretch) (words : List Word) (len : ℕ) (w : Word) (kept : mid ≡ h.objects.items) (pushed : objects ≡ mid ++ o ∷ [])
    (start : o.start ≡ length h.words.items) (long : len ≡ length h.words.items) (filled : words ≡ take (o.start + o.fields) h.words.items ++ replicate (o.start + o.fields - len) w) where
  grown : words ≡ h.words.items ++ replicate o.fields w
  grown =
      filled ∙ ap (λ l. l ++ replicate (o.start + o.fields - len) w) (take_all (o.start + o.fields) h.words.items (omega arith))
      ∙ ap (λ k. h.words.items ++ replicate k w) (let k : o.start + o.fields - len ≡ o.fields = omega arith in k)

  pub made_seen : objects_of objects words ≡ heap_view h ++ record { of_struct = o.of_struct; fields = replicate o.fields (number w) } ∷ []
  unfolding heap_view
  made_seen =
      ap (λ l. objects_of l words) (pushed ∙ ap (λ l. l ++ o ∷ []) kept)
      ∙ ap (objects_of (h.objects.items ++ o ∷ [])) grown
      ∙ push_seen 0 h.objects.items (length h.words.items) h.words.items (replicate o.fields w) o h.laid (omega arith) (length-replicate o.fields w)
      ∙ ap (λ l. heap_view h ++ record { of_struct = o.of_struct; fields = l } ∷ []) (map-replicate o.fields w)

-- the fields of the object that was made last
pub new_fields : (objects : List Object) (o : Object) (fields : ℕ) → o.fields ≡ replicate fields 0 → fields_in (object_at (objects ++ o ∷ []) (suc (length objects))) ≡ fields
new_fields [] o fields e = ap length e ∙ length-replicate fields 0
new_fields (p ∷ objects) o fields e = new_fields objects o fields e
