-- A run of a program beside a run of its core.
use Rattle.std.proofs.Common.{◌≡◌, ℕ, zero, suc, ◌<◌, ◌≤◌, List, [], ◌∷◌, ◌++◌, length, map, take, refl, sym, ap, ◌∙◌, subst, arith}
use Rattle.std.proofs.lemmas.List.{map-append}
use Rattle.gc0_base.specs.declared.site.Site.{Site}
use Rattle.c0_meaning.specs.Operators.{pick}
use Rattle.c0_meaning.specs.Runs.{State, Out, Next, Ends, Run, go_on}
use Rattle.core_meaning.specs.CoreRuns as core
use Rattle.core_meaning.specs.CoreRuns.{Outcomes, Visit, CoreState}

-- what the state of a core has beside that of the program
pub record More : Type 0 where
  pub words : List ℕ
  pub turns : ℕ
  pub outcomes : Outcomes
  pub visits : List Visit

abbrev pub beside : State → More → CoreState
beside s e = record { words = e.words; heap = s.heap; owned = s.owned; input = s.input; output = s.output; steps = s.steps; turns = e.turns; outcomes = e.outcomes; visits = e.visits }

abbrev pub more_of : CoreState → More
more_of t = record { words = t.words; turns = t.turns; outcomes = t.outcomes; visits = t.visits }

abbrev pub sites_in : List Visit → List Site
sites_in vs = map (λ v. v.site) vs

-- both go on in states that fit, or end alike
abbrev pub Agree : {A B : Type 0} → (A → State → B → More → Type 0) → Out A → core.Out B → Type 0
Agree R (Next x s) (core.Next y t) = (beside s (more_of t) ≡ t) × R x s y (more_of t)
Agree R (Ends e s) (core.Ends f t) = (e ≡ f) × (s.output ≡ t.output) × (s.sites ≡ sites_in t.visits)
Agree R (Next x s) (core.Ends f t) = ⊥
Agree R (Ends e s) (core.Next y t) = ⊥

pub agree_bind : {A B C D : Type 0} (R : A → State → B → More → Type 0) (Q : C → State → D → More → Type 0) (o : Out A) (o' : core.Out B) (f : A → Run C) (g : B → core.Run D) →
    Agree R o o' → ((x : A) (s : State) (y : B) (e : More) → R x s y e → Agree Q (f x s) (g y (beside s e))) → Agree Q (go_on o f) (core.go_on o' g)
agree_bind R Q (Next x s) (core.Next y t) f g h k = subst (λ u. Agree Q (f x s) (g y u)) h.0 (k x s y (more_of t) h.1)
agree_bind R Q (Ends e s) (core.Ends e' t) f g h k = h
agree_bind R Q (Next x s) (core.Ends e t) f g h k = absurd h
agree_bind R Q (Ends e s) (core.Next y t) f g h k = absurd h

-- the core goes on where the program has its value
pub agree_then : {A B D : Type 0} (R : A → State → B → More → Type 0) (Q : A → State → D → More → Type 0) (o : Out A) (o' : core.Out B) (g : B → core.Run D) →
    Agree R o o' → ((x : A) (s : State) (y : B) (e : More) → R x s y e → Agree Q (Next x s) (g y (beside s e))) → Agree Q o (core.go_on o' g)
agree_then R Q (Next x s) (core.Next y t) g h k = subst (λ u. Agree Q (Next x s) (g y u)) h.0 (k x s y (more_of t) h.1)
agree_then R Q (Ends e s) (core.Ends e' t) g h k = h
agree_then R Q (Next x s) (core.Ends e t) g h k = absurd h
agree_then R Q (Ends e s) (core.Next y t) g h k = absurd h

pub agree_to : {A B : Type 0} (R Q : A → State → B → More → Type 0) (o : Out A) (o' : core.Out B) → Agree R o o' → ((x : A) (s : State) (y : B) (e : More) → R x s y e → Q x s y e) → Agree Q o o'
agree_to R Q (Next x s) (core.Next y t) h k = (h.0, k x s y (more_of t) h.1)
agree_to R Q (Ends e s) (core.Ends e' t) h k = h
agree_to R Q (Next x s) (core.Ends e t) h k = absurd h
agree_to R Q (Ends e s) (core.Next y t) h k = absurd h

pub pick_agree : {A B : Type 0} (Q : A → State → B → More → Type 0) (x : ℕ) (f0 f1 : Run A) (g0 g1 : core.Run B) (s : State) (t : CoreState) → Agree Q (f0 s) (g0 t) → Agree Q (f1 s) (g1 t) → Agree Q (pick x f0 f1 s) (pick x g0 g1 t)
pick_agree Q zero f0 f1 g0 g1 s t h k = h
pick_agree Q (suc n) f0 f1 g0 g1 s t h k = k

-- How the states fit: m locals, of all the words, and at most so many steps and turns left.
pub record Good (m all most most' : ℕ) (ls : List ℕ) (k : ℕ) (ss : List Site) (ws : List ℕ) (n : ℕ) (vs : List Visit) : Type 0 where
  pub locals : take m ws ≡ ls
  pub words : length ws ≡ all
  pub turns : k ≤ n
  pub few : k ≤ most
  pub few' : n ≤ most'
  pub sites : ss ≡ sites_in vs

abbrev pub Fit : (m all most most' : ℕ) → State → More → Type 0
Fit m all most most' s e = Good m all most most' s.locals s.steps s.sites e.words e.turns e.visits

-- what was visited before, and one more
pub one_visit : (ss : List Site) (vs : List Visit) (site : Site) (v : Visit) → v.site ≡ site → ss ≡ sites_in vs → ss ++ site ∷ [] ≡ sites_in (vs ++ v ∷ [])
one_visit ss vs site v e h = ap (λ l. l ++ site ∷ []) h ∙ ap (λ x. sites_in vs ++ x ∷ []) (sym e) ∙ sym (map-append (λ (v : Visit). v.site) vs (v ∷ []))

pub good_sites : (m all most most' : ℕ) (locals : List ℕ) (steps : ℕ) (sites sites' : List Site) (words : List ℕ) (turns : ℕ) (visits visits' : List Visit) → Good m all most most' locals steps sites words turns visits → sites' ≡ sites_in visits' →
    Good m all most most' locals steps sites' words turns visits'
good_sites m all most most' locals steps sites sites' words turns visits visits' fit h = record { locals = fit.locals; words = fit.words; turns = fit.turns; few = fit.few; few' = fit.few'; sites = h }

pub good_counts : (m all most most' low low' : ℕ) (locals : List ℕ) (steps steps' : ℕ) (sites : List Site) (words : List ℕ) (turns turns' : ℕ) (visits : List Visit) → Good m all most most' locals steps sites words turns visits →
    steps' ≤ turns' → steps' ≤ low → turns' ≤ low' → Good m all low low' locals steps' sites words turns' visits
good_counts m all most most' low low' locals steps steps' sites words turns turns' visits fit h few few' = record { locals = fit.locals; words = fit.words; turns = h; few = few; few' = few'; sites = fit.sites }

pub source_assoc : {A B C : Type 0} (o : Out A) (f : A → Run B) (g : B → Run C) → go_on (go_on o f) g ≡ go_on o (λ x s. go_on (f x s) g)
source_assoc (Next x s) f g = refl
source_assoc (Ends e s) f g = refl

-- the program goes on where the core has ended a part
pub agree_source : {A B C : Type 0} (R : A → State → B → More → Type 0) (Q : C → State → B → More → Type 0) (o : Out A) (o' : core.Out B) (f : A → Run C) →
    Agree R o o' → ((x : A) (s : State) (y : B) (e : More) → R x s y e → Agree Q (f x s) (core.Next y (beside s e))) → Agree Q (go_on o f) o'
agree_source R Q (Next x s) (core.Next y t) f h k = subst (λ u. Agree Q (f x s) (core.Next y u)) h.0 (k x s y (more_of t) h.1)
agree_source R Q (Ends e s) (core.Ends e' t) f h k = h
agree_source R Q (Next x s) (core.Ends e t) f h k = absurd h
agree_source R Q (Ends e s) (core.Next y t) f h k = absurd h

-- after a call: its value, and the caller's locals and words
pub record Called (s : State) (e : More) (v : ℕ) (s1 : State) (v' : ℕ) (e1 : More) : Type 0 where
  pub value : v ≡ v'
  pub locals : s1.locals ≡ s.locals
  pub words : e1.words ≡ e.words
  pub turns : s1.steps ≤ e1.turns
  pub few : s1.steps ≤ s.steps
  pub few' : e1.turns ≤ e.turns
  pub sites : s1.sites ≡ sites_in e1.visits

pub turn_by : {A B : Type 0} (Q : A → State → B → More → Type 0) (n : ℕ) (o : Out A) (t : CoreState) (g : core.Run B) → 0 < n → ((j : ℕ) → n ≡ suc j → Agree Q o (g record t { turns = j })) → Agree Q o (core.go_on (core.take_turn n t) (λ _. g))
turn_by Q zero o t g lt h = absurd (omega arith)
turn_by Q (suc n) o t g lt h = h n refl

pub core_assoc : {A B C : Type 0} (o : core.Out A) (f : A → core.Run B) (g : B → core.Run C) → core.go_on (core.go_on o f) g ≡ core.go_on o (λ x t. core.go_on (f x t) g)
core_assoc (core.Next x t) f g = refl
core_assoc (core.Ends e t) f g = refl
