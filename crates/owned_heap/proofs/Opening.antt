-- The stamps of a stack of levels when one opens or closes.
use Rattle.std.proofs.Common.{◌≡◌, ℕ, ◌<◌, ◌≤◌, Bool, true, false, List, [], ◌∷◌, ◌++◌, reverse, get_or, Option, Some, None, refl, sym, ap, subst, ◌∙◌, arith}
use Rattle.std.proofs.lemmas.Bool.{leb-true}
use Rattle.std.proofs.lemmas.List.{reverse-append}
use Rattle.c0_meaning.specs.Heaps.{Cell, Cells, owns}
use Rattle.owned_heap.specs.declared.heap.Heap.{Heap}
use Rattle.owned_heap.specs.declared.levels.Levels.{Levels}
use Rattle.owned_heap.specs.LevelSets.{AreOwned, opened, opened_all, closed}
use Rattle.owned_heap.specs.Stands.{stamp_at, stamp_of, AreStamped, Stands}
use Rattle.owned_heap.proofs.Stamped.{AreStampedAnew, ArePast, stamped_opened, stamped_all, stamped_closed, stamped_top}
use Rattle.owned_heap.proofs.Stamping.{AreInHeap}

reverse_push : (outer after : List ℕ) (x : ℕ) → after ≡ outer ++ x ∷ [] → x ∷ reverse outer ≡ reverse after
reverse_push outer after x e = sym (ap reverse e ∙ reverse-append outer (x ∷ []))

pub opened_stamped :
    (stamp other : Cell → ℕ) (cells : Cells) (clock top : ℕ) (outer after : List ℕ) (sets : List Cells) → AreStampedAnew stamp other cells clock → after ≡ outer ++ top ∷ [] → ArePast clock (top ∷ reverse outer)
    → ((c : Cell) → stamp c < clock) → AreStamped stamp [] (top ∷ reverse outer) sets → AreStamped other [] (clock ∷ reverse after) (opened cells sets)
opened_stamped stamp other cells clock top outer after sets anew e past before h =
    subst (λ (starts : List ℕ). AreStamped other [] (clock ∷ starts) (opened cells sets)) (reverse_push outer after top e) (stamped_opened stamp other cells clock anew (top ∷ reverse outer) sets past before h)

pub all_stamped :
    (stamp : Cell → ℕ) (top : ℕ) (outer after : List ℕ) (sets : List Cells) → after ≡ outer ++ top ∷ [] → AreStamped stamp [] (top ∷ reverse outer) sets → AreStamped stamp [] (top ∷ reverse after) (opened_all sets)
all_stamped stamp top outer after sets e h =
    subst (λ (starts : List ℕ). AreStamped stamp [] (top ∷ starts) (opened_all sets)) (reverse_push outer after top e) (stamped_all stamp top (reverse outer) sets h)

pub closed_stamped :
    (stamp : Cell → ℕ) (top start : ℕ) (outer after : List ℕ) (sets : List Cells) → outer ≡ after ++ start ∷ [] → AreStamped stamp [] (top ∷ reverse outer) sets → AreStamped stamp [] (start ∷ reverse after) (closed sets)
closed_stamped stamp top start outer after sets e h =
    stamped_closed stamp top start (reverse after) sets (subst (λ (starts : List ℕ). AreStamped stamp [] (top ∷ starts) sets) (sym (reverse_push after outer start e)) h)

pub stamp_below : (stamps : List ℕ) (clock : ℕ) (at : Option ℕ) → ((k : ℕ) → get_or stamps k 0 ≤ clock) → stamp_at stamps at ≤ clock
stamp_below stamps clock None h = omega arith
stamp_below stamps clock (Some place) h = h place

-- only cells of the heap are owned
pub opened_in_heap : (levels : Levels) (heap : Heap) (cells : Cells) (sets : List Cells) → AreOwned cells sets → Stands levels heap sets → AreInHeap heap cells
opened_in_heap levels heap cells sets owned h c none = is_not (owns cells c) refl where
  is_not : (b : Bool) → owns cells c ≡ b → b ≡ false
  is_not false e = refl
  is_not true e =
      let top = sym (stamped_top (stamp_of levels heap) levels.top (reverse levels.outer.items) sets c h.stamped) ∙ owned c e in
      let late = leb-true levels.top (stamp_of levels heap c) top in
      let never : stamp_of levels heap c ≡ 0 = ap (stamp_at levels.stamps.items) none in
      absurd (omega (arith, levels.top_began.0))
