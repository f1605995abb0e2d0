-- Stamps of cells against the sets of levels.
use Rattle.std.proofs.Common.{◌≡◌, ℕ, zero, suc, ◌<◌, ◌≤◌, Bool, true, false, ◌||◌, cond, leb, ◌-◌, List, [], ◌∷◌, ◌++◌, length, reverse, get_or, Some, refl, sym, ap, subst, ◌∙◌, arith}
use Rattle.std.proofs.lemmas.Bool.{le-leb, lt-leb, leb-true, or_left}
use Rattle.std.specs.List.{slice_get}
use Rattle.std.proofs.lemmas.Option.{none-some, same_Some}
use Rattle.std.proofs.lemmas.List.{length-reverse, get_or-reverse}
use Rattle.c0_meaning.specs.Heaps.{Cell, Cells, same_cell, owns}
use Rattle.owned_heap.specs.LevelSets.{AreAlike, top_of, opened, opened_all, closed, with_cells}
use Rattle.owned_heap.specs.Stands.{AreStamped}

or_false : (b : Bool) → (b || false) ≡ b
or_false true = refl
or_false false = refl

or_groups : (a b c : Bool) → (a || (b || c)) ≡ ((a || b) || c)
or_groups true b c = refl
or_groups false b c = refl

or_twice : (a : Bool) → (a || a) ≡ a
or_twice true = refl
or_twice false = refl

or_turns : (a b : Bool) → (a || b) ≡ (b || a)
or_turns true true = refl
or_turns true false = refl
or_turns false true = refl
or_turns false false = refl

pub owns_join : (a b : Cells) (c : Cell) → owns (a ++ b) c ≡ (owns a c || owns b c)
owns_join [] b c = refl
owns_join (d ∷ a) b c = ap (λ x. same_cell d c || x) (owns_join a b c) ∙ or_groups (same_cell d c) (owns a c) (owns b c)

pub owns_end : (a : Cells) (c : Cell) → owns (a ++ []) c ≡ owns a c
owns_end a c = owns_join a [] c ∙ or_false (owns a c)

owns_before : (set a b : Cells) (c : Cell) → owns a c ≡ owns b c → owns (set ++ a) c ≡ owns (set ++ b) c
owns_before set a b c e = owns_join set a c ∙ ap (λ x. owns set c || x) e ∙ sym (owns_join set b c)

-- other stamps that are the same, and an inner set with the same members
pub stamped_alike :
    (stamp other : Cell → ℕ) (inner inside : Cells) (starts : List ℕ) (sets : List Cells) → ((c : Cell) → other c ≡ stamp c) → ((c : Cell) → owns inside c ≡ owns inner c)
    → AreStamped stamp inner starts sets → AreStamped other inside starts sets
stamped_alike stamp other inner inside [] [] same members h = tt
stamped_alike stamp other inner inside [] (set ∷ sets) same members h = h
stamped_alike stamp other inner inside (start ∷ starts) [] same members h = h
stamped_alike stamp other inner inside (start ∷ starts) (set ∷ sets) same members h = (
  λ c. owns_before set inside inner c (members c) ∙ h.0 c ∙ ap (leb start) (sym (same c)),
  stamped_alike stamp other (set ++ inner) (set ++ inside) starts sets same (λ c. owns_before set inside inner c (members c)) h.1,
)

-- ---- some cells get a new stamp
abbrev pub Each : (ℕ → Type 0) → List ℕ → Type 0
Each P [] = Unit {0}
Each P (x ∷ xs) = P x × Each P xs

each_at : (P : ℕ → Type 0) (xs : List ℕ) → ((k : ℕ) → k < length xs → P (get_or xs k 0)) → Each P xs
each_at P [] h = tt
each_at P (x ∷ xs) h = (h 0 (omega arith), each_at P xs (λ k less. h (suc k) (omega arith)))

-- what holds of all times at which levels began
pub each_start : (P : ℕ → Type 0) (top : ℕ) (outer : List ℕ) → P top → ((k : ℕ) → k < length outer → P (get_or outer k 0)) → Each P (top ∷ reverse outer)
each_start P top outer first h = (
  first,
  each_at P (reverse outer)
      (λ k less.
      let within : k < length outer = omega (arith, length-reverse outer) in
      subst P (sym (get_or-reverse outer k 0 within)) (h (length outer - 1 - k) (omega arith))),
)

-- no level began later
abbrev pub ArePast : (clock : ℕ) → (starts : List ℕ) → Type 0
ArePast clock starts = Each (λ s. s ≤ clock) starts

abbrev pub AreStampedAnew : (stamp other : Cell → ℕ) → Cells → (clock : ℕ) → Type 0
AreStampedAnew stamp other cells clock = (c : Cell) → other c ≡ cond (owns cells c) clock (stamp c)

later_or : (b : Bool) (start clock old : ℕ) → start ≤ clock → leb start (cond b clock old) ≡ (leb start old || b)
later_or true start clock old h = le-leb start clock h ∙ sym (or_turns (leb start old) true)
later_or false start clock old h = sym (or_false (leb start old))

module _ (stamp other : Cell → ℕ) (cells : Cells) (clock : ℕ) (anew : AreStampedAnew stamp other cells clock) where
  later : (start : ℕ) (c : Cell) → start ≤ clock → leb start (other c) ≡ (leb start (stamp c) || owns cells c)
  later start c h = ap (leb start) (anew c) ∙ later_or (owns cells c) start clock (stamp c) h

  abbrev HasMore : Cells → Cells → Type 0
  HasMore less more = (c : Cell) → owns more c ≡ (owns less c || owns cells c)

  more_before : (set inner inside : Cells) → HasMore inner inside → HasMore (set ++ inner) (set ++ inside)
  more_before set inner inside more c =
      owns_join set inside c ∙ ap (λ x. owns set c || x) (more c) ∙ or_groups (owns set c) (owns inner c) (owns cells c) ∙ ap (λ x. x || owns cells c) (sym (owns_join set inner c))

  stamped_more : (inner inside : Cells) (starts : List ℕ) (sets : List Cells) → HasMore inner inside → ArePast clock starts → AreStamped stamp inner starts sets → AreStamped other inside starts sets
  stamped_more inner inside [] [] more past h = tt
  stamped_more inner inside [] (set ∷ sets) more past h = h
  stamped_more inner inside (start ∷ starts) [] more past h = h
  stamped_more inner inside (start ∷ starts) (set ∷ sets) more past h =
      let here = more_before set inner inside more in (
        λ c. here c ∙ ap (λ x. x || owns cells c) (h.0 c) ∙ sym (later start c past.0),
        stamped_more (set ++ inner) (set ++ inside) starts sets here past.1 h.1,
      )

  -- the running level gets them
  pub stamped_with : (starts : List ℕ) (sets : List Cells) → ArePast clock starts → AreStamped stamp [] starts sets → AreStamped other [] starts (with_cells cells sets)
  stamped_with [] [] past h = tt
  stamped_with [] (top ∷ rest) past h = h
  stamped_with (start ∷ starts) [] past h = h
  stamped_with (start ∷ starts) (top ∷ rest) past h =
      let more : HasMore (top ++ []) ((top ++ cells) ++ []) = λ c. owns_end (top ++ cells) c ∙ owns_join top cells c ∙ ap (λ x. x || owns cells c) (sym (owns_end top c)) in (
        λ c. more c ∙ ap (λ x. x || owns cells c) (h.0 c) ∙ sym (later start c past.0),
        stamped_more (top ++ []) ((top ++ cells) ++ []) starts rest more past.1 h.1,
      )

  -- a level opens that owns just them
  pub stamped_opened : (starts : List ℕ) (sets : List Cells) → ArePast clock starts → ((c : Cell) → stamp c < clock) → AreStamped stamp [] starts sets → AreStamped other [] (clock ∷ starts) (opened cells sets)
  stamped_opened starts sets past before h = (
    λ c. owns_end cells c ∙ alone (owns cells c) clock (stamp c) (before c) ∙ ap (leb clock) (sym (anew c)),
    stamped_more [] (cells ++ []) starts sets (λ c. owns_end cells c) past h,
  ) where
    alone : (b : Bool) (clock old : ℕ) → old < clock → b ≡ leb clock (cond b clock old)
    alone true clock old less = sym (le-leb clock clock (omega arith))
    alone false clock old less = sym (lt-leb clock old less)

-- ---- levels that open and close
pub stamped_all : (stamp : Cell → ℕ) (start : ℕ) (starts : List ℕ) (sets : List Cells) → AreStamped stamp [] (start ∷ starts) sets → AreStamped stamp [] (start ∷ start ∷ starts) (opened_all sets)
stamped_all stamp start starts [] h = h
stamped_all stamp start starts (top ∷ rest) h =
    let twice : (c : Cell) → owns (top ++ (top ++ [])) c ≡ owns (top ++ []) c =
    λ c. owns_join top (top ++ []) c ∙ ap (λ x. owns top c || x) (owns_end top c) ∙ or_twice (owns top c) ∙ sym (owns_end top c) in (
      h.0,
      (
        λ c. twice c ∙ h.0 c,
        stamped_alike stamp stamp (top ++ []) (top ++ (top ++ [])) starts rest (λ c. refl) twice h.1,
      ),
    )

pub stamped_closed : (stamp : Cell → ℕ) (start next : ℕ) (starts : List ℕ) (sets : List Cells) → AreStamped stamp [] (start ∷ next ∷ starts) sets → AreStamped stamp [] (next ∷ starts) (closed sets)
stamped_closed stamp start next starts [] h = h
stamped_closed stamp start next starts (a ∷ []) h = absurd h.1
stamped_closed stamp start next starts (a ∷ b ∷ rest) h =
    let same : (c : Cell) → owns ((b ++ a) ++ []) c ≡ owns (b ++ (a ++ [])) c =
    λ c. owns_end (b ++ a) c ∙ owns_before b a (a ++ []) c (sym (owns_end a c)) in (
      λ c. same c ∙ h.1.0 c,
      stamped_alike stamp stamp (b ++ (a ++ [])) ((b ++ a) ++ []) starts rest (λ c. refl) same h.1.1,
    )

-- what the running level owns
pub stamped_top : (stamp : Cell → ℕ) (start : ℕ) (starts : List ℕ) (sets : List Cells) (c : Cell) → AreStamped stamp [] (start ∷ starts) sets → owns (top_of sets) c ≡ leb start (stamp c)
stamped_top stamp start starts [] c h = absurd h
stamped_top stamp start starts (top ∷ rest) c h = sym (owns_end top c) ∙ h.0 c

-- ---- what follows of a stack of levels
-- sets with the same members
pub stamped_members :
    (stamp : Cell → ℕ) (inner inside : Cells) (starts : List ℕ) (sets others : List Cells) → AreAlike sets others → ((c : Cell) → owns inside c ≡ owns inner c) → AreStamped stamp inner starts sets
    → AreStamped stamp inside starts others
stamped_members stamp inner inside [] [] [] alike members h = tt
stamped_members stamp inner inside [] [] (b ∷ others) alike members h = alike
stamped_members stamp inner inside [] (a ∷ sets) others alike members h = absurd h
stamped_members stamp inner inside (start ∷ starts) [] others alike members h = absurd h
stamped_members stamp inner inside (start ∷ starts) (a ∷ sets) [] alike members h = alike
stamped_members stamp inner inside (start ∷ starts) (a ∷ sets) (b ∷ others) alike members h =
    let same : (c : Cell) → owns (b ++ inside) c ≡ owns (a ++ inner) c =
    λ c. owns_before b inside inner c (members c) ∙ owns_join b inner c ∙ ap (λ x. x || owns inner c) (sym (alike.0 c)) ∙ sym (owns_join a inner c) in
    (λ c. same c ∙ h.0 c, stamped_members stamp (a ++ inner) (b ++ inside) starts sets others alike.1 same h.1)

-- a cell of a set has a stamp
pub stamped_cell :
    (stamp : Cell → ℕ) (inner : Cells) (starts : List ℕ) (sets : List Cells) (i : ℕ) (set : Cells) (c : Cell) → Each (λ s. 0 < s) starts → AreStamped stamp inner starts sets → slice_get sets i ≡ Some set
    → owns set c ≡ true → 0 < stamp c
stamped_cell stamp inner starts [] i set c began h e own = absurd (none-some set e)
stamped_cell stamp inner [] (a ∷ sets) i set c began h e own = absurd h
stamped_cell stamp inner (start ∷ starts) (a ∷ sets) zero set c began h e own =
    let member : owns (a ++ inner) c ≡ true = owns_join a inner c ∙ or_left (owns a c) (owns inner c) (ap (λ s. owns s c) (same_Some a set e) ∙ own) in
    let late = leb-true start (stamp c) (sym (h.0 c) ∙ member) in
    omega (arith, began.0)
stamped_cell stamp inner (start ∷ starts) (a ∷ sets) (suc i) set c began h e own = stamped_cell stamp (a ++ inner) starts sets i set c began.1 h.1 e own
