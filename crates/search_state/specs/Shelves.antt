-- The entries that were set aside: the propagation leaves them out, and a new entry is compared with them.
use Rattle.std.specs.Prelude.{◌≡◌, ◌≢◌, ◌⊎◌, ℕ, ◌+◌, ◌*◌, ◌%◌, ◌^◌, ◌≤◌, bit_or, zero, suc, Bool, true, false, List, [], ◌∷◌, ◌++◌, length, slice_get, Some, if◌then◌else◌}
use Rattle.std.specs.declared.vec.Vec.{Vec}
use Rattle.std.specs.declared.alloc.Global.{Global}
use Rattle.std.specs.List.{All, Contains}
use Rattle.sat_check.specs.declared.clause.Lit.{Lit}
use Rattle.sat_check.specs.declared.clause.Clause.{Clause}
use Rattle.search_state.specs.declared.watches.Pair.{Pair}
use Rattle.search_state.specs.declared.shelf.Card.{Card}
use Rattle.search_state.specs.declared.shelf.Shelf.{Shelf}

-- the clause of that number was set aside
abbrev pub IsAside : List Pair → ℕ → Type 0
IsAside pairs index = (pair : Pair) × (slice_get pairs index ≡ Some pair) × (pair.aside ≡ true)

-- the place of a literal's mark
abbrev pub code_of : Lit → ℕ
code_of lit = 2 * lit.variable + (if lit.positive then 1 else 0)

-- the list of that place, or nothing past the end
abbrev pub list_at : List (Vec Card Global) → ℕ → List Card
list_at [] place = []
list_at (list ∷ lists) zero = list.items
list_at (list ∷ lists) (suc place) = list_at lists place

abbrev pub cards_of : Shelf → Lit → List Card
cards_of shelf lit = list_at (if lit.positive then shelf.positive.items else shelf.negative.items) lit.variable

-- under none of these literals stand fewer cards than under this one
abbrev pub HasFewest : Shelf → List Lit → Lit → Type 0
HasFewest shelf lits lit = All (λ other. length (cards_of shelf lit) ≤ length (cards_of shelf other)) lits

-- one card more stands at that place, and the other lists are as before
pub record IsPutAt (old new : List (Vec Card Global)) (place : ℕ) (card : Card) : Type 0 where
  pub at : list_at new place ≡ list_at old place ++ card ∷ []
  pub others : (other : ℕ) → other ≢ place → list_at new other ≡ list_at old other
  pub len : length new ≡ length old

-- the mark of a literal is set
abbrev pub IsMarked : List Bool → Lit → Type 0
IsMarked marks lit = slice_get marks (code_of lit) ≡ Some true

-- the clause of that number has only literals whose marks are set
abbrev pub HasMarked : List Bool → List Clause → ℕ → Type 0
HasMarked marks known index = (clause : Clause) × (slice_get known index ≡ Some clause) × All (IsMarked marks) clause.lits

-- the literals have this mark now, and each other mark is as it was
pub record AreMarked (old new : List Bool) (lits : List Lit) (mark : Bool) : Type 0 where
  pub len : length new ≡ length old
  pub written : (lit : Lit) → Contains lits lit → slice_get new (code_of lit) ≡ Some mark
  pub others : (place : ℕ) → ((lit : Lit) × Contains lits lit × (code_of lit ≡ place)) ⊎ (slice_get new place ≡ slice_get old place)

-- a list for each literal, and a mark for each, all of them unset
pub record IsShelf (variables : ℕ) (shelf : Shelf) : Type 0 where
  pub positive_len : length shelf.positive.items ≡ variables
  pub negative_len : length shelf.negative.items ≡ variables
  pub marks_len : length shelf.marks.items ≡ 2 * variables
  pub unset : All (λ mark. mark ≡ false) shelf.marks.items

-- the bit of a literal in a signature
abbrev pub bit_of : Lit → ℕ
bit_of lit = 2 ^ (if lit.positive then lit.variable % 32 else lit.variable % 32 + 32)

-- the number has the bit of each literal
abbrev pub HasBits : ℕ → List Lit → Type 0
HasBits whole lits = (lit : Lit) → Contains lits lit → bit_or (bit_of lit) whole ≡ whole

-- what has the bit of each literal has all bits of the signature
abbrev pub IsSignature : ℕ → List Lit → Type 0
IsSignature signature lits = (whole : ℕ) → HasBits whole lits → bit_or signature whole ≡ whole

-- under one of the literals stands a card of the entry of that number
pub record IsCarded (shelf : Shelf) (index : ℕ) (lits : List Lit) : Type 0 where
  pub lit : Lit
  pub stands : Contains lits lit
  pub card : Card
  pub listed : Contains (cards_of shelf lit) card
  pub same : card.index ≡ index
  pub signature : IsSignature card.signature lits
