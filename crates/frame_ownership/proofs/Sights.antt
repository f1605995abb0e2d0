-- Which cells are seen, and what is read in them.
use Rattle.std.proofs.Common.{◌≡◌, ℕ, zero, suc, ◌<◌, Bool, true, false, not, ◌&&◌, [], ◌∷◌, ◌++◌, Option, Some, None, ◌⊎◌, inl, inr, refl, sym, ap, ◌∙◌, IsTrue, eqb, arith}
use Rattle.std.proofs.lemmas.Bool.{eqb-true}
use Rattle.std.specs.Prelude.{is_some, if◌then◌else◌, ◌||◌}
use Rattle.c0_meaning.specs.Heaps as meant
use Rattle.c0_meaning.specs.Heaps.{Cell, Cells, same_cell, owns, cell_value}
use Rattle.c0_meaning.specs.Holds.{owned_value, take_cell}
use Rattle.core_checks.specs.Parts.{all_cells}
use Rattle.owned_heap.specs.Views.{heap_view}
use Rattle.owned_heap.specs.Stands.{is_owned}
use Rattle.owned_heap.specs.declared.heap.Heap.{Heap}
use Rattle.owned_heap.specs.declared.levels.Levels.{Levels}
use Rattle.walk_laws.specs.Walks.{all_cells_law}
use Rattle.frame_ownership.specs.declared.values.Mode.{Mode}
use Rattle.frame_ownership.specs.declared.values.Mode.TheVariants.{Strict, Loose}
use Rattle.frame_ownership.specs.Seen.{passing, seen, sees}
use Rattle.frame_ownership.specs.Frames.{if_found}

and_parts : (a b : Bool) → IsTrue (a && b) → IsTrue a × IsTrue b
and_parts true b h = (refl, h)
and_parts false b h = cc

same_is : (c d : Cell) → IsTrue (same_cell c d) → c ≡ d
same_is c d h =
    let e = and_parts (eqb c.object d.object) (eqb c.field d.field) h in
    let p = eqb-true c.object d.object e.0 in
    let q = eqb-true c.field d.field e.1 in
    λ i. record { object = p i; field = q i }

with_cell : (s o t r : Bool) → (IsTrue s → true ≡ t) → r ≡ (o && t) → (s || r) ≡ ((s || o) && t)
with_cell true o t r h e = h refl
with_cell false o t r h e = e

without_cell : (s o t r : Bool) → (IsTrue s → false ≡ t) → r ≡ (o && t) → r ≡ ((s || o) && t)
without_cell false o t r h e = e
without_cell true o true r h e = let n : false ≡ true = h refl in cc
without_cell true true false r h e = e
without_cell true false false r h e = e

one_more : (b : Bool) (d : Cell) (rest : Cells) (c : Cell) (o t : Bool) → (IsTrue (same_cell d c) → b ≡ t) → owns rest c ≡ (o && t) →
    owns (if b then d ∷ rest else rest) c ≡ ((same_cell d c || o) && t)
one_more true d rest c o t h e = with_cell (same_cell d c) o t (owns rest c) h e
one_more false d rest c o t h e = without_cell (same_cell d c) o t (owns rest c) h e

pub owns_passing : (test : Cell → Bool) (cs : Cells) (c : Cell) → owns (passing test cs) c ≡ (owns cs c && test c)
owns_passing test [] c = refl
owns_passing test (d ∷ ds) c = one_more (test d) d (passing test ds) c (owns ds c) (test c) (λ s. ap test (same_is d c s)) (owns_passing test ds c)

and_true : (b : Bool) → b ≡ (b && true)
and_true true = refl
and_true false = refl

abbrev cell_at : ℕ → ℕ → Cell
cell_at k f = record { object = k; field = f }

-- a cell is seen where the heap has it and the sight goes so far
pub seen_is : all_cells_law → (mode : Mode) (h : Heap) (ls : Levels) (n field : ℕ) →
    owns (seen mode h ls) (cell_at (suc n) field) ≡ (is_some (cell_value (heap_view h) (cell_at (suc n) field)) && sees mode h ls (cell_at (suc n) field))
seen_is all Strict h ls n field =
    owns_passing (is_owned ls h) (all_cells (heap_view h)) (cell_at (suc n) field)
    ∙ ap (λ b. b && is_owned ls h (cell_at (suc n) field)) (all (heap_view h) n field)
seen_is all Loose h ls n field = all (heap_view h) n field ∙ and_true (is_some (cell_value (heap_view h) (cell_at (suc n) field)))

guarded : (m : Option ℕ) (s : Bool) → (if is_some m && s then m else None) ≡ (if s then m else None)
guarded None true = refl
guarded None false = refl
guarded (Some x) s = refl

-- what is read of an object
pub read_is : all_cells_law → (mode : Mode) (h : Heap) (ls : Levels) (base field : ℕ) → 0 < base →
    owned_value (heap_view h) (seen mode h ls) base field ≡ (if sees mode h ls (cell_at base field) then cell_value (heap_view h) (cell_at base field) else None)
read_is all mode h ls zero field some = absurd (omega arith)
read_is all mode h ls (suc n) field some =
    ap (λ b. if b then cell_value (heap_view h) (cell_at (suc n) field) else None) (seen_is all mode h ls n field)
    ∙ guarded (cell_value (heap_view h) (cell_at (suc n) field)) (sees mode h ls (cell_at (suc n) field))

pub read_unseen : all_cells_law → (mode : Mode) (h : Heap) (ls : Levels) (base field : ℕ) → 0 < base → sees mode h ls (cell_at base field) ≡ false →
    None ≡ owned_value (heap_view h) (seen mode h ls) base field
read_unseen all mode h ls base field some e = sym (read_is all mode h ls base field some ∙ ap (λ b. if b then cell_value (heap_view h) (cell_at base field) else None) e)

pub read_seen : all_cells_law → (mode : Mode) (h : Heap) (ls : Levels) (base field : ℕ) (m : Option ℕ) → 0 < base → sees mode h ls (cell_at base field) ≡ true →
    m ≡ cell_value (heap_view h) (cell_at base field) → m ≡ owned_value (heap_view h) (seen mode h ls) base field
read_seen all mode h ls base field m some e v =
    v ∙ sym (read_is all mode h ls base field some ∙ ap (λ b. if b then cell_value (heap_view h) (cell_at base field) else None) e)

pub read_null : (heap : meant.Heap) (owned : Cells) (base field : ℕ) → base ≡ 0 → None ≡ owned_value heap owned base field
read_null heap owned zero field e = refl
read_null heap owned (suc n) field e = absurd (omega arith)

-- ---- a cell that is taken
taking : (v s o : Bool) (foot : Cells) (c : Cell) → (if v && ((v && s) && not o) then Some (foot ++ c ∷ []) else None) ≡ (if v && (s && not o) then Some (foot ++ c ∷ []) else None)
taking true s o foot c = refl
taking false s o foot c = refl

pub take_is : all_cells_law → (mode : Mode) (h : Heap) (ls : Levels) (base field : ℕ) (foot : Cells) → 0 < base →
    take_cell (heap_view h) (seen mode h ls) base field foot
    ≡ (if is_some (cell_value (heap_view h) (cell_at base field)) && (sees mode h ls (cell_at base field) && not (owns foot (cell_at base field))) then Some (foot ++ cell_at base field ∷ []) else None)
take_is all mode h ls zero field foot some = absurd (omega arith)
take_is all mode h ls (suc n) field foot some =
    let c = cell_at (suc n) field in
    ap (λ b. if is_some (cell_value (heap_view h) c) && (b && not (owns foot c)) then Some (foot ++ c ∷ []) else None) (seen_is all mode h ls n field)
    ∙ taking (is_some (cell_value (heap_view h) c)) (sees mode h ls c) (owns foot c) foot c

take_case : (v s o : Bool) (foot : Cells) (c : Cell) → (v ≡ false) ⊎ (s ≡ false) → (if v && (s && not o) then Some (foot ++ c ∷ []) else None) ≡ None
take_case false s o foot c h = refl
take_case true false o foot c h = refl
take_case true true o foot c (inl e) = cc
take_case true true o foot c (inr e) = cc

pub not_taken : all_cells_law → (mode : Mode) (h : Heap) (ls : Levels) (base field : ℕ) (foot : Cells) → 0 < base →
    (is_some (cell_value (heap_view h) (cell_at base field)) ≡ false) ⊎ (sees mode h ls (cell_at base field) ≡ false) → take_cell (heap_view h) (seen mode h ls) base field foot ≡ None
not_taken all mode h ls base field foot some why =
    let c = cell_at base field in
    take_is all mode h ls base field foot some ∙ take_case (is_some (cell_value (heap_view h) c)) (sees mode h ls c) (owns foot c) foot c why

took_case : (v s o took : Bool) (foot after : Cells) (c : Cell) → v ≡ true → s ≡ true → took ≡ not o → after ≡ (if o then foot else foot ++ c ∷ []) →
    (if v && (s && not o) then Some (foot ++ c ∷ []) else None) ≡ if_found took after
took_case v s true took foot after c e f g h = rw (e, f, g) refl
took_case v s false took foot after c e f g h = rw (e, f, g, h) refl

pub taken_is : all_cells_law → (mode : Mode) (h : Heap) (ls : Levels) (base field : ℕ) (foot after : Cells) (took : Bool) → 0 < base →
    is_some (cell_value (heap_view h) (cell_at base field)) ≡ true → sees mode h ls (cell_at base field) ≡ true → took ≡ not (owns foot (cell_at base field)) →
    after ≡ (if owns foot (cell_at base field) then foot else foot ++ cell_at base field ∷ []) → take_cell (heap_view h) (seen mode h ls) base field foot ≡ if_found took after
taken_is all mode h ls base field foot after took some v s t a =
    let c = cell_at base field in
    take_is all mode h ls base field foot some ∙ took_case (is_some (cell_value (heap_view h) c)) (sees mode h ls c) (owns foot c) took foot after c v s t a

pub none_taken : (heap : meant.Heap) (owned : Cells) (base field : ℕ) (foot : Cells) → base ≡ 0 → take_cell heap owned base field foot ≡ None
none_taken heap owned zero field foot e = refl
none_taken heap owned (suc n) field foot e = absurd (omega arith)
