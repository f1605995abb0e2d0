-- What levels stand for stays when the heap changes.
use Rattle.std.proofs.Common.{◌≡◌, ℕ, zero, suc, ◌+◌, ◌≤◌, Bool, true, false, cond, ltb, List, [], ◌∷◌, ◌++◌, length, reverse, Some, None, refl, sym, ap, subst, ◌∙◌, arith}
use Rattle.std.specs.List.{slice_get}
use Rattle.std.proofs.lemmas.List.{get_or_past}
use Rattle.c0_meaning.specs.Heaps.{Cell, Cells}
use Rattle.owned_heap.specs.declared.heap.Stretch.{Stretch}
use Rattle.owned_heap.specs.declared.heap.Heap.{Heap}
use Rattle.owned_heap.specs.declared.levels.Levels.{Levels}
use Rattle.owned_heap.specs.Stands.{stretch_of, offset_in, stamp_at, stamp_of, AreStamped, Stands}
use Rattle.owned_heap.proofs.Stamped.{stamped_alike}

-- each cell has the stamp that it had
pub stands_alike :
    (levels now : Levels) (heap after : Heap) (sets : List Cells) → now.top ≡ levels.top → now.outer.items ≡ levels.outer.items → length now.stamps.items ≤ length after.words.items
    → ((c : Cell) → stamp_of now after c ≡ stamp_of levels heap c) → Stands levels heap sets → Stands now after sets
stands_alike levels now heap after sets top outer within same h = record {
  within = within;
  stamped =
      subst (λ t. AreStamped (stamp_of now after) [] (t ∷ reverse now.outer.items) sets) (sym top)
      (subst (λ o. AreStamped (stamp_of now after) [] (levels.top ∷ reverse o) sets) (sym outer) (stamped_alike (stamp_of levels heap) (stamp_of now after) [] [] (levels.top ∷ reverse levels.outer.items) sets same (λ c. refl) h.stamped));
}

module _ (levels : Levels) (heap after : Heap) (sets : List Cells) where
  -- the same objects
  pub stands_kept : after.objects.items ≡ heap.objects.items → length heap.words.items ≤ length after.words.items → Stands levels heap sets → Stands levels after sets
  stands_kept e more h = stands_alike levels levels heap after sets refl refl (let w = h.within in omega arith) (λ c. ap (λ at. stamp_at levels.stamps.items (offset_in at c.field)) (stretches c.object)) h where
    stretches : (n : ℕ) → stretch_of after n ≡ stretch_of heap n
    stretches zero = refl
    stretches (suc k) = ap (λ l. slice_get l k) e

past_stamps : (stamps : List ℕ) (b : Bool) (place : ℕ) → length stamps ≤ place → stamp_at stamps (cond b (Some place) None) ≡ 0
past_stamps stamps true place h = get_or_past stamps place 0 h
past_stamps stamps false place h = refl

pushed_stamp : (stamps : List ℕ) (os : List Stretch) (s : Stretch) (k field : ℕ) → length stamps ≤ s.start → stamp_at stamps (offset_in (slice_get (os ++ s ∷ []) k) field) ≡ stamp_at stamps (offset_in (slice_get os k) field)
pushed_stamp stamps [] s zero field h = past_stamps stamps (ltb field s.fields) (s.start + field) (omega arith)
pushed_stamp stamps [] s (suc k) field h = refl
pushed_stamp stamps (o ∷ os) s zero field h = refl
pushed_stamp stamps (o ∷ os) s (suc k) field h = pushed_stamp stamps os s k field h

-- one object more, whose words lie behind all others
pub stands_pushed :
    (levels : Levels) (heap after : Heap) (s : Stretch) (sets : List Cells) → after.objects.items ≡ heap.objects.items ++ s ∷ [] → length heap.words.items ≤ s.start → length heap.words.items ≤ length after.words.items
    → Stands levels heap sets → Stands levels after sets
stands_pushed levels heap after s sets e behind more h =
    stands_alike levels levels heap after sets refl refl (let w = h.within in omega arith) (λ c. same c.object c.field) h where
      same : (n field : ℕ) → stamp_at levels.stamps.items (offset_in (stretch_of after n) field) ≡ stamp_at levels.stamps.items (offset_in (stretch_of heap n) field)
      same zero field = refl
      same (suc k) field =
          ap (λ l. stamp_at levels.stamps.items (offset_in (slice_get l k) field)) e
          ∙ pushed_stamp levels.stamps.items heap.objects.items s k field (let w = h.within in omega arith)
