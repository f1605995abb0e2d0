-- What the open levels own, the running one first. Sets are compared by their members.
use Rattle.std.specs.Prelude.{◌≡◌, ℕ, suc, ltb, ◌&&◌, List, [], ◌∷◌, ◌++◌, length, drop, is_some, IsTrue}
use Rattle.c0_meaning.specs.Heaps.{Object, Cells, Cell, Heap, owns, cells_of, cell_value}

-- what the running level owns
abbrev pub top_of : List Cells → Cells
top_of [] = []
top_of (top ∷ rest) = top

-- the same sets but for the order of their cells and how often each is listed
abbrev pub AreAlike : List Cells → List Cells → Type 0
AreAlike [] [] = Unit {0}
AreAlike [] (b ∷ more_b) = ⊥
AreAlike (a ∷ more_a) [] = ⊥
AreAlike (a ∷ more_a) (b ∷ more_b) = ((c : Cell) → owns a c ≡ owns b c) × AreAlike more_a more_b

-- the running level owns each of the cells
abbrev pub AreOwned : Cells → List Cells → Type 0
AreOwned cells sets = (c : Cell) → IsTrue (owns cells c) → IsTrue (owns (top_of sets) c)

-- a level opens that owns these cells
abbrev pub opened : Cells → List Cells → List Cells
opened cells sets = cells ∷ sets

-- a level opens that owns what the running one owns
abbrev pub opened_all : List Cells → List Cells
opened_all [] = []
opened_all (top ∷ rest) = top ∷ top ∷ rest

-- the running level closes, and the next owns its own set and that one's; the last level stays
abbrev pub closed : List Cells → List Cells
closed [] = []
closed (a ∷ []) = a ∷ []
closed (a ∷ b ∷ rest) = (b ++ a) ∷ rest

-- the running level owns some cells more
abbrev pub with_cells : Cells → List Cells → List Cells
with_cells cells [] = []
with_cells cells (top ∷ rest) = (top ++ cells) ∷ rest

-- the running level owns an object of so many fields too
abbrev pub with_object : (object fields : ℕ) → List Cells → List Cells
with_object object fields sets = with_cells (cells_of object fields) sets

-- the cells of objects that are numbered on from the first
abbrev pub cells_from : (object : ℕ) → List Object → Cells
cells_from object [] = []
cells_from object (o ∷ os) = cells_of object (length o.fields) ++ cells_from (suc object) os

-- the cells of the objects that were made when there were `first` already
abbrev pub made_since : (first : ℕ) → Heap → Cells
made_since first heap = cells_from (suc first) (drop first heap)

-- the running level owns what was made since there were `first` objects
abbrev pub adopted : (first : ℕ) → Heap → List Cells → List Cells
adopted first heap sets = with_cells (made_since first heap) sets

-- Those are the cells of the heap whose objects have greater numbers.
abbrev pub made_law : Type 0
made_law = (first : ℕ) (heap : Heap) (c : Cell) → owns (made_since first heap) c ≡ (ltb first c.object && is_some (cell_value heap c))
