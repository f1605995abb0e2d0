-- Levels whose stamps were covered and written stand for the sets that they are said to.
use Rattle.std.proofs.Common.{◌≡◌, ℕ, ◌<◌, ◌≤◌, max, List, [], ◌∷◌, length, reverse, get_or, Option, Some, None, refl, arith, Result, Ok, Err}
use Rattle.std.specs.Bool.{IsTrue}
use Rattle.std.specs.Option.{is_some}
use Rattle.std.specs.Result.{OnErr}
use Rattle.c0_meaning.specs.Heaps.{Cell, Cells, cell_value}
use Rattle.owned_heap.specs.declared.heap.Heap.{Heap}
use Rattle.owned_heap.specs.declared.levels.Levels.{Levels}
use Rattle.owned_heap.specs.Views.{heap_view}
use Rattle.owned_heap.specs.LevelSets.{with_cells}
use Rattle.owned_heap.specs.Stands.{offset_of, stamp_at, stamp_of, AreStamped, Stands, members_law, in_heap_law}
use Rattle.owned_heap.proofs.Stamped.{AreStampedAnew, ArePast, each_start, stamped_with, stamped_members, stamped_cell}
use Rattle.owned_heap.proofs.Stretches.{lies}
use Rattle.owned_heap.proofs.Kept.{stands_alike}
use Rattle.owned_heap.proofs.Ranges.{valued}

pub on_err : {T E : Type 0} (r : Result T E) {P : Type 0} → P → OnErr r P
on_err (Ok x) p = tt
on_err (Err x) p = p

same_stamp : (old now : List ℕ) (at : Option ℕ) → ((k : ℕ) → get_or now k 0 ≡ get_or old k 0) → stamp_at now at ≡ stamp_at old at
same_stamp old now None same = refl
same_stamp old now (Some place) same = same place

pub stands_covered :
    (levels now : Levels) (heap : Heap) (sets : List Cells) → now.top ≡ levels.top → now.outer.items ≡ levels.outer.items → ((k : ℕ) → get_or now.stamps.items k 0 ≡ get_or levels.stamps.items k 0)
    → length now.stamps.items ≤ max (length heap.words.items) (length levels.stamps.items) → Stands levels heap sets → Stands now heap sets
stands_covered levels now heap sets top outer same bound h =
    stands_alike levels now heap heap sets top outer (let w = h.within in omega arith) (λ c. same_stamp levels.stamps.items now.stamps.items (offset_of heap c) same) h

pub levels_past : (levels : Levels) (clock : ℕ) → levels.clock ≤ clock → ArePast clock (levels.top ∷ reverse levels.outer.items)
levels_past levels clock later =
    each_start (λ s. s ≤ clock) levels.top levels.outer.items (omega (arith, levels.top_began.1)) (λ k less. let began = levels.outer_began k less in omega arith)

-- the running level owns cells that got the stamp of now
pub with_stamped :
    (levels : Levels) (heap : Heap) (cells : Cells) (stamps : List ℕ) (sets : List Cells) → AreStampedAnew (stamp_of levels heap) (λ c. stamp_at stamps (offset_of heap c)) cells levels.clock → Stands levels heap sets
    → AreStamped (λ c. stamp_at stamps (offset_of heap c)) [] (levels.top ∷ reverse levels.outer.items) (with_cells cells sets)
with_stamped levels heap cells stamps sets anew h =
    stamped_with (stamp_of levels heap) (λ c. stamp_at stamps (offset_of heap c)) cells levels.clock anew (levels.top ∷ reverse levels.outer.items) sets (levels_past levels levels.clock (omega arith)) h.stamped

-- ---- laws
pub members_count : members_law
members_count levels heap sets others alike h = record {
  within = h.within;
  stamped = stamped_members (stamp_of levels heap) [] [] (levels.top ∷ reverse levels.outer.items) sets others alike (λ c. refl) h.stamped;
}

lies_stamped : (stamps : List ℕ) (heap : Heap) (c : Cell) (at : Option ℕ) → offset_of heap c ≡ at → 0 < stamp_at stamps at → (0 < c.object) × IsTrue (is_some (cell_value (heap_view heap) c))
lies_stamped stamps heap c None e some = absurd (omega arith)
lies_stamped stamps heap c (Some place) e some =
    let l = lies heap c.object c.field place e in
    (omega (arith, l.number), valued heap 0 c place l)

pub owned_in_heap : in_heap_law
owned_in_heap levels heap sets i set c h e own =
    let began = each_start (λ s. 0 < s) levels.top levels.outer.items levels.top_began.0 (λ k less. (levels.outer_began k less).0) in
    lies_stamped levels.stamps.items heap c (offset_of heap c) refl (stamped_cell (stamp_of levels heap) [] (levels.top ∷ reverse levels.outer.items) sets i set c began h.stamped e own)
