-- The cells that the running level owns are those of the sets that the levels stand for.
use Rattle.std.proofs.Common.{◌≡◌, ℕ, suc, Bool, true, false, leb, ◌&&◌, List, [], ◌∷◌, refl, sym, ap, ◌∙◌, IsTrue, append-nil}
use Rattle.std.specs.Prelude.{is_some}
use Rattle.c0_meaning.specs.Heaps.{Cell, Cells, owns, cell_value}
use Rattle.core_checks.specs.Parts.{all_cells}
use Rattle.owned_heap.specs.Views.{heap_view}
use Rattle.owned_heap.specs.LevelSets.{top_of}
use Rattle.owned_heap.specs.Stands.{Stands, AreStamped, stamp_of, is_owned}
use Rattle.owned_heap.specs.declared.heap.Heap.{Heap}
use Rattle.owned_heap.specs.declared.levels.Levels.{Levels}
use Rattle.walk_laws.specs.Walks.{all_cells_law}
use Rattle.walk_laws.specs.SameCells.{SameCells}
use Rattle.frame_ownership.specs.Seen.{mine}
use Rattle.frame_ownership.proofs.Sights.{owns_passing}

top_stamped : (stamp : Cell → ℕ) (start : ℕ) (starts : List ℕ) (sets : List Cells) → AreStamped stamp [] (start ∷ starts) sets → (c : Cell) → owns (top_of sets) c ≡ leb start (stamp c)
top_stamped stamp start starts [] k c = absurd k
top_stamped stamp start starts (set ∷ sets) k c = ap (λ s. owns s c) (sym (append-nil set)) ∙ k.0 c

and_true : (a b : Bool) → IsTrue a → b ≡ (a && b)
and_true true b h = refl
and_true false b h = cc

pub mine_same : all_cells_law → (heap : Heap) (levels : Levels) (sets : List Cells) → Stands levels heap sets → SameCells (heap_view heap) (top_of sets) (mine heap levels)
mine_same all heap levels sets stands n field there =
    let c : Cell = record { object = suc n; field = field } in
    top_stamped (stamp_of levels heap) levels.top _ sets stands.stamped c
    ∙ and_true (is_some (cell_value (heap_view heap) c)) (is_owned levels heap c) there
    ∙ ap (λ b. b && is_owned levels heap c) (sym (all (heap_view heap) n field))
    ∙ sym (owns_passing (is_owned levels heap) (all_cells (heap_view heap)) c)

pub found_some : {A : Type 0} (b : Bool) (x : A) → is_some (Rattle.frame_ownership.specs.Frames.if_found b x) ≡ b
found_some true x = refl
found_some false x = refl
