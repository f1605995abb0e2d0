-- Frames that wait: their words, and their order.
use Rattle.std.proofs.Common.{◌≡◌, ℕ, ◌≤◌, List, [], ◌∷◌, ◌++◌, take, drop, refl, sym, ap, ◌∙◌, arith}
use Rattle.std.proofs.lemmas.List.{take-take}
use Rattle.gc0_base.specs.declared.word.Word.{Word}
use Rattle.gc0_tree.specs.declared.Conjunct.{Conjunct}
use Rattle.walk_laws.specs.Walks as walks
use Rattle.frame_ownership.specs.declared.walk.Frame.{Frame}
use Rattle.frame_ownership.specs.Seen.{numbers}
use Rattle.frame_ownership.specs.Frames.{words_of, frame_view, stack_on, Rises, waiting_on}

-- words that are the same so far
pub same_words : (n : ℕ) (ws vs : List Word) (f : Frame) → take n ws ≡ take n vs → f.end ≤ n → words_of ws f ≡ words_of vs f
same_words n ws vs f e le =
    ap (λ l. numbers (drop f.start l)) (sym (take-take f.end n ws le) ∙ ap (λ l. take f.end l) e ∙ take-take f.end n vs le)

pub rises_le : (low : ℕ) (fs : List Frame) (high : ℕ) → Rises low fs high → low ≤ high
rises_le low [] high r = r
rises_le low (f ∷ fs) high r = omega (arith, r.1, rises_le f.end fs high r.2)

pub rises_up : (low : ℕ) (fs : List Frame) (mid high : ℕ) → Rises low fs mid → mid ≤ high → Rises low fs high
rises_up low [] mid high r le = omega (arith, r)
rises_up low (f ∷ fs) mid high r le = (r.0, r.1, rises_up f.end fs mid high r.2 le)

pub same_stack : (n : ℕ) (ws vs : List Word) → take n ws ≡ take n vs → (low : ℕ) (fs : List Frame) → Rises low fs n → (below : List walks.Frame) → stack_on ws fs below ≡ stack_on vs fs below
same_stack n ws vs e low [] r below = refl
same_stack n ws vs e low (f ∷ fs) r below =
    same_stack n ws vs e f.end fs r.2 (frame_view ws f ∷ below)
    ∙ ap (λ w. stack_on vs fs ((w, (frame_view vs f).1) ∷ below)) (same_words n ws vs f e (rises_le f.end fs n r.2))

pub push_stack : (ws : List Word) (fs : List Frame) (f : Frame) (below : List walks.Frame) → stack_on ws (fs ++ f ∷ []) below ≡ frame_view ws f ∷ stack_on ws fs below
push_stack ws [] f below = refl
push_stack ws (g ∷ fs) f below = push_stack ws fs f (frame_view ws g ∷ below)

pub rises_push : (low : ℕ) (fs : List Frame) (mid : ℕ) (f : Frame) (high : ℕ) → Rises low fs mid → mid ≤ f.end → f.start ≤ f.end → f.end ≤ high → Rises low (fs ++ f ∷ []) high
rises_push low [] mid f high r le start end = (start, omega (arith, r, le), end)
rises_push low (g ∷ fs) mid f high r le start end = (r.0, r.1, rises_push g.end fs mid f high r.2 le start end)

pub rises_pop : (low : ℕ) (fs : List Frame) (f : Frame) (high : ℕ) → Rises low (fs ++ f ∷ []) high → Rises low fs f.end × (f.start ≤ f.end) × (f.end ≤ high)
rises_pop low [] f high r = (r.1, r.0, r.2)
rises_pop low (g ∷ fs) f high r = let p = rises_pop g.end fs f high r.2 in ((r.0, r.1, p.0), p.1, p.2)

pub rises_wait : (low : ℕ) (fs : List Frame) (mid : ℕ) (f : Frame) (high : ℕ) (parts : List Conjunct) → Rises low fs mid → mid ≤ f.end → f.start ≤ f.end → f.end ≤ high →
    Rises low (waiting_on fs f parts) high
rises_wait low fs mid f high [] r le start end = rises_up low fs mid high r (omega (arith, le, end))
rises_wait low fs mid f high (part ∷ parts) r le start end = rises_push low fs mid f high r le start end
