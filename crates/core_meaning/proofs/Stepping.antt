-- Worked cores are stepped.
use Rattle.std.proofs.Common.{arith, refl, sym, subst, ◌≡◌, ◌∙◌, ℕ, zero, suc, true, false, [], ◌∷◌, Some, None, slice_get}
use Rattle.std.proofs.lemmas.List.Elements.{All-from_recursion}
use Rattle.gc0_tree.specs.declared.Shape.TheVariants.{Int, Bool as Truth, Pointer, Null}
use Rattle.gc0_tree.specs.Fits.{IsHeld, StructFits, PredicateFits}
use Rattle.core_tree.specs.CoreTree.{CoreFunction, Core}
use Rattle.core_meaning.specs.CorePrecision.{itself, IsPlain, is_open}
use Rattle.core_meaning.specs.CoreFits.{CoreFits, CoreFunctionFits, IsTemporary, around}
use Rattle.core_meaning.specs.CoreExamples.{counting, nodes, lists, pushing, push, counting_stepped, pushing_stepped, getting_decided, unfolding_decided, starting_decided, making_decided, choosing_decided, dividing_decided}

-- ---- plain functions
never : false ≡ true → ⊥
never h = cc

-- a function with a `?` of its own isn't plain
open_not_plain : (c : Core) (g : ℕ) (f : CoreFunction) → slice_get c.functions g ≡ Some f → is_open f ≡ true → IsPlain c g → false ≡ true
open_not_plain c g f there opened plain = sym (plain g f (itself g) there) ∙ opened

same_function : (f h : CoreFunction) → Some f ≡ Some h → f ≡ h
same_function f h e = cc

none_there : (f : CoreFunction) → None ≡ Some f → ⊥
none_there f e = cc

closed_pushing : (g : ℕ) (f : CoreFunction) → slice_get pushing.functions g ≡ Some f → is_open f ≡ false
closed_pushing zero f e = subst (λ h. is_open h ≡ false) (same_function _ f e) refl
closed_pushing (suc zero) f e = subst (λ h. is_open h ≡ false) (same_function _ f e) refl
closed_pushing (suc (suc g)) f e = absurd (none_there f e)

plain_pushing : (g : ℕ) → IsPlain pushing g
plain_pushing g h f reached there = closed_pushing h f there

-- ---- counting
fits_counting : CoreFits counting
fits_counting = record {
  structs = All-from_recursion (StructFits (around counting)) [] tt;
  predicates = All-from_recursion (PredicateFits (around counting)) [] tt;
  functions = All-from_recursion (CoreFunctionFits counting) counting.functions (
    record {
      params = omega arith;
      locals = All-from_recursion (IsHeld (around counting)) (Int ∷ []) (tt, tt);
      temps = All-from_recursion (IsTemporary counting) (Truth ∷ Int ∷ []) (tt, (tt, tt));
      result = tt;
      before = tt;
      after = tt;
      body = (
        tt,
        (
          (Int, refl, omega arith),
          (
            tt,
            (
              (
                ((refl, Int, Int, refl, refl, refl), tt),
                (tt, (((Truth, refl, refl), ((Int, refl, refl), omega arith)), tt)),
                (Truth, refl, refl),
                (tt, (tt, (((Int, refl, refl), tt, refl), (tt, (((Int, refl, refl), ((Int, refl, refl), omega arith)), ((Int, refl, (Int, refl, refl)), tt)))))),
              ),
              (tt, (omega arith, tt)),
            ),
          ),
        ),
      );
    },
    tt,
  );
}

pub stepped_counting : counting_stepped
stepped_counting = record {
  steps = (refl, tt);
  framed = refl;
  guarded = refl;
  shapes = fits_counting;
  plain = ((λ h. absurd (never h), open_not_plain counting 0 _ refl refl), tt);
  sites = (record { kinds = refl; distinct = refl; due = refl; rows = refl }, tt);
  decisions = (record { numbered = (refl, refl, tt, tt); few = omega arith }, tt);
  main = (_, refl, record { params = refl; result = refl });
  ends = (refl, tt);
  tests = (refl, tt);
  kept = (refl, tt);
}

-- ---- pushing
fits_pushing : CoreFits pushing
fits_pushing = record {
  structs = All-from_recursion (StructFits (around pushing)) nodes (All-from_recursion (IsHeld (around pushing)) (Int ∷ Pointer 0 ∷ []) (tt, (refl, tt)), tt);
  predicates = All-from_recursion (PredicateFits (around pushing)) lists (
    record {
      params = All-from_recursion (IsHeld (around pushing)) (Pointer 0 ∷ []) (refl, tt);
      body = ((refl, Pointer 0, Null, refl, refl, refl), (refl, tt), ((0, refl, refl), ((0, refl, refl), ((_, refl, ((Pointer 0, (refl, refl), refl), tt)), tt))), tt);
    },
    tt,
  );
  functions = All-from_recursion (CoreFunctionFits pushing) pushing.functions (
    record {
      params = omega arith;
      locals = All-from_recursion (IsHeld (around pushing)) (Pointer 0 ∷ Int ∷ Pointer 0 ∷ []) (refl, (tt, (refl, tt)));
      temps = All-from_recursion (IsTemporary pushing) (Pointer 0 ∷ []) (refl, tt);
      result = refl;
      before = ((_, refl, ((Pointer 0, refl, refl), tt)), tt);
      after = ((_, refl, ((Pointer 0, refl, refl), tt)), tt);
      body = (
        tt,
        (
          tt,
          (
            ((Pointer 0, refl, refl), refl),
            (
              (Pointer 0, refl, (Pointer 0, refl, refl)),
              (
                tt,
                (
                  ((Pointer 0, refl, refl), Int, refl, (Int, refl, refl)),
                  (
                    tt,
                    (
                      ((Pointer 0, refl, refl), Pointer 0, refl, (Pointer 0, refl, refl)),
                      (
                        (((_, refl, ((Pointer 0, refl, refl), tt)), tt), refl),
                        (tt, ((Pointer 0, refl, refl), tt)),
                      ),
                    ),
                  ),
                ),
              ),
            ),
          ),
        ),
      );
    },
    (
      record {
        params = omega arith;
        locals = All-from_recursion (IsHeld (around pushing)) (Pointer 0 ∷ []) (refl, tt);
        temps = All-from_recursion (IsTemporary pushing) (Int ∷ Pointer 0 ∷ Int ∷ Pointer 0 ∷ []) (tt, (refl, (tt, (refl, tt))));
        result = tt;
        before = (refl, tt);
        after = (refl, tt);
        body = (
          tt,
          (
            (Pointer 0, refl, refl),
            (
              (((_, refl, ((Pointer 0, refl, refl), tt)), tt), refl),
              (
                tt,
                (
                  (Int, refl, omega arith),
                  (
                    tt,
                    (
                      (push, refl, ((Pointer 0, refl, refl), ((Int, refl, refl), tt)), (Pointer 0, refl, (Pointer 0, refl, refl))),
                      (
                        (Pointer 0, refl, (Pointer 0, refl, refl)),
                        (
                          tt,
                          (
                            (Int, refl, omega arith),
                            (
                              tt,
                              (
                                (push, refl, ((Pointer 0, refl, refl), ((Int, refl, refl), tt)), (Pointer 0, refl, (Pointer 0, refl, refl))),
                                (
                                  (Pointer 0, refl, (Pointer 0, refl, refl)),
                                  (tt, (omega arith, tt)),
                                ),
                              ),
                            ),
                          ),
                        ),
                      ),
                    ),
                  ),
                ),
              ),
            ),
          ),
        );
      },
      tt,
    ),
  );
}

pub stepped_pushing : pushing_stepped
stepped_pushing = record {
  steps = (refl, (refl, tt));
  framed = refl;
  guarded = refl;
  shapes = fits_pushing;
  plain = ((λ h. plain_pushing 0, λ h. refl), ((λ h. plain_pushing 1, λ h. refl), tt));
  sites = (record { kinds = refl; distinct = refl; due = refl; rows = refl }, (record { kinds = refl; distinct = refl; due = refl; rows = refl }, tt));
  decisions = (record { numbered = (refl, refl, refl, tt); few = omega arith }, (record { numbered = (refl, refl, refl, tt); few = omega arith }, tt));
  main = (_, refl, record { params = refl; result = refl });
  ends = (refl, (refl, tt));
  tests = (refl, (refl, tt));
  kept = (refl, (refl, tt));
}

-- ---- decisions and sites

pub decided_getting : getting_decided
decided_getting = ((record { numbered = (refl, refl, tt, (refl, refl, tt, tt)); few = omega arith }, (record { numbered = tt; few = omega arith }, tt)), (record { kinds = refl; distinct = refl; due = refl; rows = refl }, (record { kinds = refl; distinct = refl; due = refl; rows = refl }, tt)))

pub decided_unfolding : unfolding_decided
decided_unfolding = ((record { numbered = (refl, refl, refl, (refl, refl, refl, tt)); few = omega arith }, tt), (record { kinds = refl; distinct = refl; due = refl; rows = refl }, tt))

pub decided_starting : starting_decided
decided_starting = ((record { numbered = (refl, refl, refl, (refl, refl, refl, tt)); few = omega arith }, tt), (record { kinds = refl; distinct = refl; due = refl; rows = refl }, tt))

pub decided_making : making_decided
decided_making = ((record { numbered = (refl, refl, refl, tt); few = omega arith }, (record { numbered = (refl, refl, refl, tt); few = omega arith }, tt)), (record { kinds = refl; distinct = refl; due = refl; rows = refl }, (record { kinds = refl; distinct = refl; due = refl; rows = refl }, tt)))

pub decided_choosing : choosing_decided
decided_choosing = ((record { numbered = (refl, refl, refl, (refl, refl, refl, (refl, refl, tt, (refl, refl, refl, tt)))); few = omega arith }, tt), (record { kinds = refl; distinct = refl; due = refl; rows = refl }, tt))

pub decided_dividing : dividing_decided
decided_dividing = ((record { numbered = tt; few = omega arith }, tt), (record { kinds = refl; distinct = refl; due = refl; rows = refl }, tt))
