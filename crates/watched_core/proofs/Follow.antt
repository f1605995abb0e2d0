-- How a watched run follows the run of the core.
use Rattle.std.proofs.Common.{◌≡◌, ℕ, zero, suc, ◌+◌, Bool, true, false, ◌&&◌, List, [], ◌∷◌, ◌++◌, length, map, Option, Some, refl, sym, ap, ◌∙◌, subst, arith}
use Rattle.std.proofs.lemmas.List.{length-set}
use Rattle.std.specs.Prelude.{slice_get, slice_set, if◌then◌else◌}
use Rattle.gc0_base.specs.declared.site.Site.{Site}
use Rattle.gc0_base.specs.declared.site.Decision.{Decision}
use Rattle.gc0_base.specs.declared.site.Ending.{Ending}
use Rattle.core_tree.specs.declared.Phase.{Phase}
use Rattle.core_tree.specs.CoreTree.{Core}
use Rattle.core_tree.specs.CoreSites.{first_number, choice_decision}
use Rattle.c0_meaning.specs.Heaps.{Cells, Heap}
use Rattle.core_meaning.specs.CoreRuns as core
use Rattle.core_meaning.specs.CoreRuns.{Outcomes, CoreState}
use Rattle.core_meaning.specs.Choices.{ChoiceOf, outcome, with_outcomes}
use Rattle.core_checks.specs.Placements.{Placement, is_tracked, is_tested}
use Rattle.watched_core.specs.WatchRuns as watch
use Rattle.watched_core.specs.WatchRuns.{View, WatchState, top_of, closed, added, closed_by}
use Rattle.watched_core.specs.Watching.{is_marked, with_marks}
use Rattle.watched_core.specs.WatchLaws.{Same, IsViewed}
use Rattle.watched_core.proofs.Sets.{same_join, outcome_same}
use Rattle.watched_core.proofs.Fine.{Fine, Keeps, keeps_on}

pub false_true : {A : Type 0} → false ≡ true → A
false_true e = absurd cc

-- ---- levels
-- the watched sets, the innermost first, have the members of the core's, and below them stands the base
abbrev pub Nested : (base sets levels : List Cells) → Type 0
Nested base [] levels = levels ≡ base
Nested base (o ∷ os) [] = ⊥
Nested base (o ∷ os) (t ∷ levels) = Same t o × Nested base os levels

-- a function that isn't tracked leaves the levels as they are
abbrev pub Knows : Bool → (base sets levels : List Cells) → Type 0
Knows true base sets levels = Nested base sets levels
Knows false base sets levels = levels ≡ base

pub top_same : (t : Bool) (base os levels : List Cells) (o : Cells) → t ≡ true → Knows t base (o ∷ os) levels → Same (top_of levels) o
top_same true base os [] o e k = absurd k
top_same true base os (a ∷ levels) o e k = k.0
top_same false base os levels o e k = false_true e

nested_over : (base sets levels : List Cells) (x : Cells) (xs : List Cells) → Nested levels (x ∷ []) xs → Nested base sets levels → Nested base (x ∷ sets) xs
nested_over base sets levels x [] a k = absurd a
nested_over base sets levels x (y ∷ ys) a k = (a.0, subst (Nested base sets) (sym a.1) k)

-- a level on those that are there
pub knows_over : (t : Bool) (base sets levels levels' : List Cells) (x : Cells) → Knows t levels (x ∷ []) levels' → Knows t base sets levels → Knows t base (x ∷ sets) levels'
knows_over true base sets levels levels' x a k = nested_over base sets levels x levels' a k
knows_over false base sets levels levels' x a k = a ∙ k

pub knows_set : (t : Bool) (base os levels : List Cells) (a b : Cells) → Same a b → Knows t base (a ∷ os) levels → Knows t base (b ∷ os) levels
knows_set true base os [] a b e k = absurd k
knows_set true base os (x ∷ xs) a b e k = (λ c. k.0 c ∙ e c, k.1)
knows_set false base os levels a b e k = k

pub nested_close : (base os levels : List Cells) (a o : Cells) → Nested base (a ∷ o ∷ os) levels → Nested base ((o ++ a) ∷ os) (closed levels)
nested_close base os [] a o k = absurd k
nested_close base os (x ∷ []) a o k = absurd k.1
nested_close base os (x ∷ y ∷ levels) a o k = (same_join y x o a k.1.0 k.0, k.1.1)

pub nested_add : (base os levels : List Cells) (o b d : Cells) → Same b d → Nested base (o ∷ os) levels → Nested base ((o ++ d) ∷ os) (added b levels)
nested_add base os [] o b d e k = absurd k
nested_add base os (x ∷ levels) o b d e k = (same_join x b o d k.0 e, k.1)

-- what is owned once the levels round a return have ended
abbrev pub joins : List Cells → Cells → Cells
joins [] o = o
joins (x ∷ xs) o = joins xs (x ++ o)

pub nested_closes : (base os levels : List Cells) (o : Cells) → Nested base (o ∷ os) levels → Nested base (joins os o ∷ []) (closed_by (length os) levels)
nested_closes base [] levels o k = k
nested_closes base (x ∷ os) levels o k = nested_closes base os (closed levels) (x ++ o) (nested_close base os levels o x k)

-- ---- outcomes
same_length : {A : Type 0} (m o : List A) (n i : ℕ) (v : A) → length m ≡ length o → slice_get m i ≡ slice_get o i → slice_get (slice_set m n v) i ≡ slice_get (slice_set o n v) i
same_length [] [] n i v l e = refl
same_length [] (y ∷ o) n i v l e = absurd cc
same_length (x ∷ m) [] n i v l e = absurd cc
same_length (x ∷ m) (y ∷ o) zero zero v l e = refl
same_length (x ∷ m) (y ∷ o) zero (suc i) v l e = e
same_length (x ∷ m) (y ∷ o) (suc n) zero v l e = e
same_length (x ∷ m) (y ∷ o) (suc n) (suc i) v l e = same_length m o n i v (let q : length m ≡ length o = omega (arith, l) in q) e

other : {A : Type 0} (o : List A) (n i : ℕ) (v : A) → (n ≡ i → ⊥) → slice_get (slice_set o n v) i ≡ slice_get o i
other [] n i v e = refl
other (y ∷ o) zero zero v e = absurd (e refl)
other (y ∷ o) zero (suc i) v e = refl
other (y ∷ o) (suc n) zero v e = refl
other (y ∷ o) (suc n) (suc i) v e = other o n i v (λ q. e (ap suc q))

module _ (p : Placement) (g : ℕ) where
  -- the decision of a number of the function
  abbrev pub its : ℕ → Decision
  its n = record { function = g; number = n }

  -- a frame's marks are the last outcomes of each decision that is marked
  pub record Agree (m o : Outcomes) : Type 0 where
    pub marked : (n : ℕ) → is_marked p g (its n) ≡ true → slice_get m n ≡ slice_get o n
    pub long : is_tracked p g ≡ true → length m ≡ length o

  and_left : (a b : Bool) → (a && b) ≡ true → a ≡ true
  and_left true b e = refl
  and_left false b e = e

  pub tracked_of : (n : ℕ) → is_marked p g (its n) ≡ true → is_tracked p g ≡ true
  tracked_of n e = and_left (is_tracked p g) (is_tested p (its n)) e

  pub agree_set : (m o : Outcomes) (n : ℕ) (v v' : Option Bool) → v ≡ v' → Agree m o → Agree (slice_set m n v) (slice_set o n v')
  agree_set m o n v v' e a = record {
    marked = λ i h. same_length m o n i v (a.long (tracked_of i h)) (a.marked i h) ∙ ap (λ x. slice_get (slice_set o n x) i) e;
    long = λ t. length-set m n v ∙ a.long t ∙ sym (length-set o n v');
  }

  pub agree_skip : (m o : Outcomes) (n : ℕ) (v : Option Bool) → is_marked p g (its n) ≡ false → Agree m o → Agree m (slice_set o n v)
  agree_skip m o n v e a = record {
    marked = λ i h. a.marked i h ∙ sym (other o n i v (differs i h));
    long = λ t. a.long t ∙ sym (length-set o n v);
  }
    where
      differs : (i : ℕ) → is_marked p g (its i) ≡ true → n ≡ i → ⊥
      differs i h q = false_true (sym e ∙ ap (λ j. is_marked p g (its j)) q ∙ h)

  pub agree_maybe : (b : Bool) (m o : Outcomes) (n : ℕ) (v v' : Option Bool) → is_marked p g (its n) ≡ b → (b ≡ true → v ≡ v') → Agree m o → Agree (if b then slice_set m n v else m) (slice_set o n v')
  agree_maybe true m o n v v' e f a = agree_set m o n v v' (f refl) a
  agree_maybe false m o n v v' e f a = agree_skip m o n v' e a

  module _ (c : Core) (site : Site) (phase : Phase) (of : site.function ≡ g) (heap : Heap) (top owned : Cells) (same : is_tracked p g ≡ true → Same top owned) where
    is_its : (k : ℕ) → is_marked p g (its (first_number c site phase + k)) ≡ is_marked p g (choice_decision c site phase k)
    is_its k = ap (λ h. is_marked p g record { function = h; number = first_number c site phase + k }) (sym of)

    pub choices_agree : (words words' : Option (List ℕ)) → (is_tracked p g ≡ true → words ≡ words') → (xs : List ChoiceOf) (k n : ℕ) (m o : Outcomes) → n ≡ first_number c site phase + k → Agree m o →
        Agree (with_marks c p g site phase k heap top words xs m) (with_outcomes n (map (outcome heap owned words') xs) o)
    choices_agree words words' e [] k n m o at a = a
    choices_agree words words' e (x ∷ xs) k n m o at a =
        choices_agree words words' e xs (suc k) (suc n) _ _ (omega (arith, at))
        (subst (λ i. Agree (if is_marked p g (choice_decision c site phase k) then slice_set m (first_number c site phase + k) (Some (outcome heap top words x)) else m) (slice_set o i (Some (outcome heap owned words' x)))) (sym at)
        (agree_maybe (is_marked p g (choice_decision c site phase k)) m o (first_number c site phase + k) (Some (outcome heap top words x)) (Some (outcome heap owned words' x)) (is_its k)
        (λ b. ap Some (let t = tracked_of (first_number c site phase + k) (is_its k ∙ b) in outcome_same heap top owned (same t) words x ∙ ap (λ w. outcome heap owned w x) (e t))) a))

-- ---- states
-- the same but for what is owned and what was decided
pub record Alike (s : CoreState) (w : WatchState) : Type 0 where
  pub words : w.words ≡ s.words
  pub heap : w.heap ≡ s.heap
  pub input : w.input ≡ s.input
  pub output : w.output ≡ s.output
  pub steps : w.steps ≡ s.steps
  pub turns : w.turns ≡ s.turns

-- in a function: with the core's sets and outcomes as far as the function keeps them
pub record At (p : Placement) (g : ℕ) (base sets : List Cells) (s : CoreState) (w : WatchState) : Type 0 where
  pub alike : Alike s w
  pub knows : Knows (is_tracked p g) base sets w.levels
  pub agrees : Agree p g w.marks s.outcomes

-- ---- outcomes of runs
pub record EndsAs (e : Ending) (s : CoreState) (i : Ending) (v : Option View) (w : WatchState) : Type 0 where
  pub ending : i ≡ e
  pub output : w.output ≡ s.output
  pub view : IsViewed e s.visits v

abbrev pub Post : Type 0 → Type 0 → Type 1
Post A B = A → B → CoreState → WatchState → Type 0

-- both go on, and stand so; or both end in the same way
abbrev pub Follows : {A B : Type 0} → Post A B → core.Out A → watch.Out B → Type 0
Follows P (core.Next x s) (watch.Next y w) = P x y s w
Follows P (core.Ends e s) (watch.Ends i v w) = EndsAs e s i v w
Follows P (core.Next x s) (watch.Ends i v w) = ⊥
Follows P (core.Ends e s) (watch.Next y w) = ⊥

pub follows_to : {A B : Type 0} (P Q : Post A B) (o : core.Out A) (i : watch.Out B) → ((x : A) (y : B) (s : CoreState) (w : WatchState) → P x y s w → Q x y s w) → Follows P o i → Follows Q o i
follows_to P Q (core.Next x s) (watch.Next y w) h f = h x y s w f
follows_to P Q (core.Ends e s) (watch.Ends i v w) h f = f
follows_to P Q (core.Next x s) (watch.Ends i v w) h f = f
follows_to P Q (core.Ends e s) (watch.Next y w) h f = f

on_assoc : {A B D : Type 0} (o : watch.Out A) (f : A → watch.Run B) (k : B → watch.Run D) → watch.go_on (watch.go_on o f) k ≡ watch.go_on o (λ x u. watch.go_on (f x u) k)
on_assoc (watch.Next x u) f k = refl
on_assoc (watch.Ends e v u) f k = refl

-- parts one after another, however they are put together
pub assoc : {A B D : Type 0} (m : watch.Run A) (f : A → watch.Run B) (k : B → watch.Run D) (w : WatchState) → watch.chain (watch.chain m f) k w ≡ watch.chain m (λ x. watch.chain (f x) k) w
unfolding watch.chain
assoc m f k w = on_assoc (m w) f k

module _ (c : Core) (p : Placement) where
  pub follows_on : {A B D E : Type 0} (P : Post A B) (Q : Post D E) (o : core.Out A) (i : watch.Out B) (f : A → core.Run D) (k : B → watch.Run E) → Follows P o i →
      ((x : A) (y : B) (s : CoreState) (w : WatchState) → Fine c p (core.state_of (f x s)) → P x y s w → Follows Q (f x s) (k y w)) →
      Fine c p (core.state_of (core.go_on o f)) → Follows Q (core.go_on o f) (watch.go_on i k)
  follows_on P Q (core.Next x s) (watch.Next y w) f k a h fine = h x y s w fine a
  follows_on P Q (core.Ends e s) (watch.Ends i v w) f k a h fine = a
  follows_on P Q (core.Next x s) (watch.Ends i v w) f k a h fine = absurd a
  follows_on P Q (core.Ends e s) (watch.Next y w) f k a h fine = absurd a

  -- one part after another
  pub thus : {A B D E : Type 0} (P : Post A B) (Q : Post D E) (m : core.Run A) (n : watch.Run B) (f : A → core.Run D) (k : B → watch.Run E) (s : CoreState) (w : WatchState) → ((x : A) → Keeps c p (f x)) →
      (Fine c p (core.state_of (m s)) → Follows P (m s) (n w)) →
      ((x : A) (y : B) (t : CoreState) (u : WatchState) → Fine c p (core.state_of (f x t)) → P x y t u → Follows Q (f x t) (k y u)) →
      Fine c p (core.state_of (core.chain m f s)) → Follows Q (core.chain m f s) (watch.chain n k w)
  unfolding core.chain watch.chain
  thus P Q m n f k s w keep a h fine = follows_on P Q (m s) (n w) f k (a (keeps_on c p (m s) f keep fine)) h fine

  -- the same with what the core's part gives
  pub follows_is : {A B D E : Type 0} (P : Post A B) (Q : Post D E) (o : core.Out A) (i : watch.Out B) (f : A → core.Run D) (k : B → watch.Run E) → Follows P o i →
      ((x : A) (y : B) (s : CoreState) (w : WatchState) → Fine c p (core.state_of (f x s)) → o ≡ core.Next x s → P x y s w → Follows Q (f x s) (k y w)) →
      Fine c p (core.state_of (core.go_on o f)) → Follows Q (core.go_on o f) (watch.go_on i k)
  follows_is P Q (core.Next x s) (watch.Next y w) f k a h fine = h x y s w fine refl a
  follows_is P Q (core.Ends e s) (watch.Ends i v w) f k a h fine = a
  follows_is P Q (core.Next x s) (watch.Ends i v w) f k a h fine = absurd a
  follows_is P Q (core.Ends e s) (watch.Next y w) f k a h fine = absurd a

  pub thus_is : {A B D E : Type 0} (P : Post A B) (Q : Post D E) (m : core.Run A) (n : watch.Run B) (f : A → core.Run D) (k : B → watch.Run E) (s : CoreState) (w : WatchState) → ((x : A) → Keeps c p (f x)) →
      (Fine c p (core.state_of (m s)) → Follows P (m s) (n w)) →
      ((x : A) (y : B) (t : CoreState) (u : WatchState) → Fine c p (core.state_of (f x t)) → m s ≡ core.Next x t → P x y t u → Follows Q (f x t) (k y u)) →
      Fine c p (core.state_of (core.chain m f s)) → Follows Q (core.chain m f s) (watch.chain n k w)
  unfolding core.chain watch.chain
  thus_is P Q m n f k s w keep a h fine = follows_is P Q (m s) (n w) f k (a (keeps_on c p (m s) f keep fine)) h fine
