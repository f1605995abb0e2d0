-- The temporaries of each shape have numbers of their own, behind the locals.
use Rattle.std.proofs.Common.{◌≡◌, ℕ, zero, suc, ◌+◌, ◌<◌, ◌≤◌, ◌⊎◌, inl, inr, List, ◌++◌, length, replicate, Option, Some, None, is_some, refl, ap, arith, length-append}
use Rattle.std.proofs.lemmas.List.{length-replicate}
use Rattle.std.proofs.lemmas.Option.{slice_get_within}
use Rattle.std.specs.Prelude.{slice_get, true, false}
use Rattle.gc0_tree.specs.declared.Shape.{Shape}
use Rattle.gc0_tree.specs.declared.Shape.TheVariants.{Int, Bool as Truth, Pointer, Null}
use Rattle.gc0_tree.specs.Tree.{Struct, Function, Program}
use Rattle.lowering_laws.specs.Lowering.{pointers_before, temps_before, pointer_temps, temps_of, uses, target}
use Rattle.lowering_laws.proofs.Counting.{IsTemp}
use Rattle.lowering_laws.proofs.Values.{Slots}

order : (j k : ℕ) → (j < k) ⊎ ((j ≡ k) ⊎ (k < j))
order zero zero = inr (inl refl)
order zero (suc k) = inl (omega arith)
order (suc j) zero = inr (inr (omega arith))
order (suc j) (suc k) = up (order j k)
  where
    up : (j < k) ⊎ ((j ≡ k) ⊎ (k < j)) → (suc j < suc k) ⊎ ((suc j ≡ suc k) ⊎ (suc k < suc j))
    up (inl h) = inl (omega arith)
    up (inr (inl h)) = inr (inl (ap suc h))
    up (inr (inr h)) = inr (inr (omega arith))

struct_within : (xs : List Struct) (k : ℕ) → is_some (slice_get xs k) ≡ true → k < length xs
struct_within xs k h = by_case (slice_get xs k) refl h
  where
    by_case : (o : Option Struct) → slice_get xs k ≡ o → is_some o ≡ true → k < length xs
    by_case None e g = absurd (let f : false ≡ true = g in cc)
    by_case (Some x) e g = slice_get_within xs k x e

module _ (room : Shape → ℕ) where
  pointers_next : (j k : ℕ) → j < k → pointers_before room j + room (Pointer j) ≤ pointers_before room k
  pointers_next j zero lt = absurd (omega arith)
  pointers_next j (suc k) lt = by_order (pointers_next j k) (order j k)
    where
      by_order : (j < k → pointers_before room j + room (Pointer j) ≤ pointers_before room k) → (j < k) ⊎ ((j ≡ k) ⊎ (k < j)) → pointers_before room j + room (Pointer j) ≤ pointers_before room (suc k)
      by_order next (inl h) = let i = next h in omega arith
      by_order next (inr (inl h)) = let e : pointers_before room j + room (Pointer j) ≡ pointers_before room k + room (Pointer k) = ap (λ n. pointers_before room n + room (Pointer n)) h in omega arith
      by_order next (inr (inr h)) = absurd (omega arith)

  temps_apart : (s u : Shape) (i j : ℕ) → i < room s → j < room u → temps_before room s + i ≡ temps_before room u + j → (s ≡ u) × (i ≡ j)
  temps_apart Int Int i j li lj e = (refl, omega arith)
  temps_apart Int Truth i j li lj e = absurd (omega arith)
  temps_apart Int Null i j li lj e = absurd (omega arith)
  temps_apart Int (Pointer l) i j li lj e = absurd (omega arith)
  temps_apart Truth Int i j li lj e = absurd (omega arith)
  temps_apart Truth Truth i j li lj e = (refl, omega arith)
  temps_apart Truth Null i j li lj e = absurd (omega arith)
  temps_apart Truth (Pointer l) i j li lj e = absurd (omega arith)
  temps_apart Null Int i j li lj e = absurd (omega arith)
  temps_apart Null Truth i j li lj e = absurd (omega arith)
  temps_apart Null Null i j li lj e = (refl, omega arith)
  temps_apart Null (Pointer l) i j li lj e = absurd (omega arith)
  temps_apart (Pointer k) Int i j li lj e = absurd (omega arith)
  temps_apart (Pointer k) Truth i j li lj e = absurd (omega arith)
  temps_apart (Pointer k) Null i j li lj e = absurd (omega arith)
  temps_apart (Pointer k) (Pointer l) i j li lj e = by_order (order k l)
    where
      by_order : (k < l) ⊎ ((k ≡ l) ⊎ (l < k)) → (Pointer k ≡ Pointer l) × (i ≡ j)
      by_order (inl h) = absurd (let n = pointers_next k l h in omega arith)
      by_order (inr (inl h)) = (ap Pointer h, (let n : pointers_before room k ≡ pointers_before room l = ap (pointers_before room) h in omega arith))
      by_order (inr (inr h)) = absurd (let n = pointers_next l k h in omega arith)

  pointers_count : (n : ℕ) → length (pointer_temps room n) ≡ pointers_before room n
  pointers_count zero = refl
  pointers_count (suc n) = omega (arith, length-append (pointer_temps room n) (replicate (room (Pointer n)) (Pointer n)), pointers_count n, length-replicate (room (Pointer n)) (Pointer n))

  temps_count : (n : ℕ) → length (temps_of room n) ≡ room Int + room Truth + room Null + pointers_before room n
  temps_count n =
      let c : List Shape = replicate (room Null) Null ++ pointer_temps room n in
      let b : List Shape = replicate (room Truth) Truth ++ c in
      omega (
        arith,
        length-append (replicate (room Int) Int) b,
        length-append (replicate (room Truth) Truth) c,
        length-append (replicate (room Null) Null) (pointer_temps room n),
        length-replicate (room Int) Int,
        length-replicate (room Truth) Truth,
        length-replicate (room Null) Null,
        pointers_count n,
      )

  temps_below : (p : Program) (s : Shape) (i : ℕ) → IsTemp p s → i < room s → temps_before room s + i < length (temps_of room (length p.structs))
  temps_below p Int i h lt = omega (arith, temps_count (length p.structs))
  temps_below p Truth i h lt = omega (arith, temps_count (length p.structs))
  temps_below p Null i h lt = omega (arith, temps_count (length p.structs))
  temps_below p (Pointer k) i h lt = omega (arith, temps_count (length p.structs), pointers_next k (length p.structs) (struct_within p.structs k h))

pub slots_of : (p : Program) (g : ℕ) (f : Function) → Slots p (target p g f) (length f.locals) (length f.locals + length (temps_of (uses p f) (length p.structs))) (uses p f)
slots_of p g f =
    let room : Shape → ℕ = uses p f in
    record {
      least = omega arith;
      above = λ s i. omega arith;
      below = λ s i h lt. (let b = temps_below room p s i h lt in omega arith);
      apart = λ s u i j li lj e. temps_apart room s u i j li lj (omega arith);
    }
