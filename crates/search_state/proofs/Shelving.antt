-- Cards on a shelf, and the marks of literals.
use Rattle.std.proofs.Common.{◌≡◌, ◌∙◌, ◌≢◌, ℕ, zero, suc, ◌+◌, ◌*◌, ◌<◌, ◌≤◌, Bool, true, false, List, [], ◌∷◌, ◌++◌, Some, length, set, get_or, arith, refl, sym, ap, subst, inl, inr, Vec}
use Rattle.std.specs.declared.alloc.Global.{Global}
use Rattle.std.specs.List.{Contains, slice_get}
use Rattle.std.proofs.lemmas.Bool.{cases_eq, cases_Bool}
use Rattle.std.proofs.Math.Nat.{le_trans}
use Rattle.std.proofs.lemmas.List.{length-set}
use Rattle.std.proofs.lemmas.List.Elements.{All-push, All-weaker, Contains-push, Contains-append_left, Contains-push_cases}
use Rattle.sat_check.specs.declared.clause.Lit.{Lit}
use Rattle.sat_check.specs.Literals.{slice_get-set_same, slice_get-set_other}
use Rattle.search_state.specs.declared.shelf.Card.{Card}
use Rattle.search_state.specs.declared.shelf.Shelf.{Shelf}
use Rattle.search_state.specs.Shelves.{list_at, cards_of, code_of, HasFewest, IsPutAt, IsCarded, IsSignature, AreMarked}

-- ---- cards

list_at-set_same : (lists : List (Vec Card Global)) (place : ℕ) (v : Vec Card Global) → place < length lists → list_at (set lists place v) place ≡ v.items
list_at-set_same [] place v h = absurd (omega arith)
list_at-set_same (w ∷ lists) zero v h = refl
list_at-set_same (w ∷ lists) (suc place) v h = list_at-set_same lists place v (omega arith)

list_at-set_other : (lists : List (Vec Card Global)) (place other : ℕ) (v : Vec Card Global) → other ≢ place → list_at (set lists place v) other ≡ list_at lists other
list_at-set_other [] place other v h = refl
list_at-set_other (w ∷ lists) zero zero v h = absurd (h refl)
list_at-set_other (w ∷ lists) zero (suc other) v h = refl
list_at-set_other (w ∷ lists) (suc place) zero v h = refl
list_at-set_other (w ∷ lists) (suc place) (suc other) v h = list_at-set_other lists place other v (λ e. h (ap suc e))

pub list_at-get_or : (lists : List (Vec Card Global)) (place : ℕ) (d : Vec Card Global) → place < length lists → list_at lists place ≡ (get_or lists place d).items
list_at-get_or [] place d h = absurd (omega arith)
list_at-get_or (v ∷ lists) zero d h = refl
list_at-get_or (v ∷ lists) (suc place) d h = list_at-get_or lists place d (omega arith)

pub IsPutAt-push :
    (lists : List (Vec Card Global)) (place : ℕ) (old new : Vec Card Global) (card : Card) → place < length lists → old ≡ get_or lists place old
    → new.items ≡ old.items ++ card ∷ [] → IsPutAt lists (set lists place new) place card
IsPutAt-push lists place old new card within was is =
    let before : old.items ≡ list_at lists place = ap (λ (v : Vec Card Global). v.items) was ∙ sym (list_at-get_or lists place old within) in
    record {
      at = list_at-set_same lists place new within ∙ is ∙ ap (λ (cards : List Card). cards ++ card ∷ []) before;
      others = λ other differs. list_at-set_other lists place other new differs;
      len = length-set lists place new;
    }

pub cards-positive : (shelf : Shelf) (lit : Lit) → lit.positive ≡ true → list_at shelf.positive.items lit.variable ≡ cards_of shelf lit
cards-positive shelf lit is = rw is refl

pub cards-negative : (shelf : Shelf) (lit : Lit) → lit.positive ≡ false → list_at shelf.negative.items lit.variable ≡ cards_of shelf lit
cards-negative shelf lit is = rw is refl

pub HasFewest-push :
    (shelf : Shelf) (lits : List Lit) (lit old new : Lit) → HasFewest shelf lits old → length (cards_of shelf new) ≤ length (cards_of shelf old)
    → length (cards_of shelf new) ≤ length (cards_of shelf lit) → HasFewest shelf (lits ++ lit ∷ []) new
HasFewest-push shelf lits lit old new before less_or_same here =
    let few = λ (one other : Lit). length (cards_of shelf one) ≤ length (cards_of shelf other) in
    All-push (few new) lits lit (All-weaker (few old) (few new) (λ other h. le_trans less_or_same h) lits before) here

-- one card more stands under that literal, and all others still stand where they did
pub record HasOneMore (old new : Shelf) (lit : Lit) (card : Card) : Type 0 where
  pub here : Contains (cards_of new lit) card
  pub kept : (other : Lit) (before : Card) → Contains (cards_of old other) before → Contains (cards_of new other) before

-- what stood at a place still stands there
put_kept : (old new : List (Vec Card Global)) (place : ℕ) (card : Card) → IsPutAt old new place card → (other : ℕ) (before : Card) → Contains (list_at old other) before → Contains (list_at new other) before
put_kept old new place card put other before stands =
    elim (cases_eq other place) [
      | inl same ↦
          let among : Contains (list_at old place) before = subst (λ (n : ℕ). Contains (list_at old n) before) same stands in
          subst (λ (n : ℕ). Contains (list_at new n) before) (sym same)
          (subst (λ (cards : List Card). Contains cards before) (sym put.at) (Contains-append_left (list_at old place) (card ∷ []) before among))
      | inr differs ↦ subst (λ (cards : List Card). Contains cards before) (sym (put.others other differs)) stands
    ]

put_here : (old new : List (Vec Card Global)) (place : ℕ) (card : Card) → IsPutAt old new place card → Contains (list_at new place) card
put_here old new place card put = subst (λ (cards : List Card). Contains cards card) (sym put.at) (Contains-push (list_at old place) card)

pub HasOneMore-positive :
    (old new : Shelf) (lit : Lit) (card : Card) → lit.positive ≡ true → new.negative.items ≡ old.negative.items → IsPutAt old.positive.items new.positive.items lit.variable card
    → HasOneMore old new lit card
HasOneMore-positive old new lit card is others put =
    record {
      here = rw is (put_here old.positive.items new.positive.items lit.variable card put);
      kept = λ other before stands.
          elim (cases_Bool other.positive) [
            | inl sign ↦ rw sign (put_kept old.positive.items new.positive.items lit.variable card put other.variable before (rw sign at stands))
            | inr sign ↦ rw (sign, others) (rw sign at stands)
          ];
    }

pub HasOneMore-negative :
    (old new : Shelf) (lit : Lit) (card : Card) → lit.positive ≡ false → new.positive.items ≡ old.positive.items → IsPutAt old.negative.items new.negative.items lit.variable card
    → HasOneMore old new lit card
HasOneMore-negative old new lit card is others put =
    record {
      here = rw is (put_here old.negative.items new.negative.items lit.variable card put);
      kept = λ other before stands.
          elim (cases_Bool other.positive) [
            | inl sign ↦ rw (sign, others) (rw sign at stands)
            | inr sign ↦ rw sign (put_kept old.negative.items new.negative.items lit.variable card put other.variable before (rw sign at stands))
          ];
    }

pub IsCarded-kept : (old new : Shelf) (lit : Lit) (card : Card) → HasOneMore old new lit card → (index : ℕ) (lits : List Lit) → IsCarded old index lits → IsCarded new index lits
IsCarded-kept old new lit card more index lits is =
    record {
      lit = is.lit;
      stands = is.stands;
      card = is.card;
      listed = more.kept is.lit is.card is.listed;
      same = is.same;
      signature = is.signature;
    }

pub IsCarded-new :
    (old new : Shelf) (lit : Lit) (card : Card) (lits : List Lit) → Contains lits lit → IsSignature card.signature lits → HasOneMore old new lit card
    → IsCarded new card.index lits
IsCarded-new old new lit card lits stands signature more =
    record {
      lit = lit;
      stands = stands;
      card = card;
      listed = more.here;
      same = refl;
      signature = signature;
    }

-- the marks have no part in where a card stands
pub IsCarded-same : (old new : Shelf) → new.positive ≡ old.positive → new.negative ≡ old.negative → (index : ℕ) (lits : List Lit) → IsCarded old index lits → IsCarded new index lits
IsCarded-same old new positive negative index lits is =
    record {
      lit = is.lit;
      stands = is.stands;
      card = is.card;
      listed = rw (positive, negative) is.listed;
      same = is.same;
      signature = is.signature;
    }

-- ---- marks

code-positive : (lit : Lit) → lit.positive ≡ true → code_of lit ≡ 2 * lit.variable + 1
code-positive lit is = rw is refl

code-negative : (lit : Lit) → lit.positive ≡ false → code_of lit ≡ 2 * lit.variable
code-negative lit is = rw is (omega arith)

pub code_within : (variables : ℕ) (lit : Lit) → lit.variable < variables → code_of lit < 2 * variables
code_within variables lit below =
    elim (cases_Bool lit.positive) [ inl is ↦ omega (arith, code-positive lit is) | inr is ↦ omega (arith, code-negative lit is) ]

pub AreMarked-push :
    (old new : List Bool) (lits : List Lit) (lit : Lit) (mark : Bool) → code_of lit < length old → AreMarked old new lits mark
    → AreMarked old (set new (code_of lit) mark) (lits ++ lit ∷ []) mark
AreMarked-push old new lits lit mark below before =
    let code = code_of lit in
    let within : code < length new = omega (arith, below, before.len) in
    let here : slice_get (set new code mark) code ≡ Some mark = slice_get-set_same new code mark within in
    record {
      len = length-set new code mark ∙ before.len;
      written = λ other stands.
          elim (cases_eq (code_of other) code) [
            | inl same ↦ subst (λ (n : ℕ). slice_get (set new code mark) n ≡ Some mark) (sym same) here
            | inr differs ↦
                elim (Contains-push_cases lits lit other stands) [
                  | inl among ↦ slice_get-set_other new code (code_of other) mark differs ∙ before.written other among
                  | inr is ↦ absurd (differs (ap (λ (l : Lit). code_of l) (sym is)))
                ]
          ];
      others = λ place.
          elim (cases_eq place code) [
            | inl same ↦ inl (lit, Contains-push lits lit, sym same)
            | inr differs ↦
                elim (before.others place) [
                  | inl h ↦ inl (h.0, Contains-append_left lits (lit ∷ []) h.0 h.1, h.2)
                  | inr kept ↦ inr (slice_get-set_other new code place mark differs ∙ kept)
                ]
          ];
    }
