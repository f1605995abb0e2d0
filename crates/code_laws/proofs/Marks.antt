-- The instructions that mark the choices of a formula do what the watched run marks.
use Rattle.std.proofs.Common.{◌≡◌, ℕ, suc, ◌+◌, ◌≤◌, Bool, true, false, List, [], ◌∷◌, ◌++◌, length, Option, Some, None, if◌then◌else◌, slice_set, refl, ap, ◌∙◌, subst, arith}
use Rattle.gc0_base.specs.declared.site.Site.{Site}
use Rattle.core_tree.specs.declared.Phase.{Phase}
use Rattle.core_tree.specs.CoreTree.{Core}
use Rattle.gc0_tree.specs.Tree.{Conjuncts, Formula}
use Rattle.core_tree.specs.CoreSites.{choice_decision}
use Rattle.c0_meaning.specs.Heaps.{Cells, Heap}
use Rattle.core_meaning.specs.CoreRuns.{Outcomes}
use Rattle.core_meaning.specs.Choices.{ChoiceOf, choices, outcome, instance_body, instance_words}
use Rattle.core_checks.specs.Placements.{Placement}
use Rattle.watched_core.specs.WatchRuns.{WatchState, change, top_of}
use Rattle.watched_core.specs.Watching.{is_marked, with_marks, mark, mark_over, mark_body}
use Rattle.code_laws.specs.Instrs as instr
use Rattle.code_laws.specs.Instrs.{Words, Over, Instr, Code}
use Rattle.code_laws.specs.Machine.{Frame, Machine, marked, chosen, words_at, words_over}
use Rattle.code_laws.specs.Coding.{when, marks_from, marks, body_marks}
use Rattle.code_laws.proofs.Doing.{HasAt, Leads, leads_now, leads_then, leads_one, Spot, spot, at, Does, now, behind}

module _ (c : Core) (p : Placement) (code : Code) (L : ℕ) (is : List Instr) (callers : List Frame) where
  abbrev there : Spot → WatchState → Machine
  there x s = at code L is callers x s

  -- what the machine decides of a choice is its outcome
  same_choice : (heap : Heap) (owned : Cells) (ws : Option (List ℕ)) (x : ChoiceOf) → chosen heap owned ws x.condition ≡ outcome heap owned ws x
  same_choice heap owned None x = refl
  same_choice heap owned (Some words) x = refl

  pub marks_lead : (g : ℕ) (site : Site) (phase : Phase) (k : ℕ) (o : Over) (ws : Option (List ℕ)) (xs : List ChoiceOf) (pc : ℕ) (operands : List ℕ) (since : ℕ) (s : WatchState) →
      HasAt is pc (marks_from c p g site phase k o xs) → ((q : ℕ) (m : Outcomes) → words_over o (there (spot q operands since) record s { marks = m }) ≡ ws) →
      Leads code (there (spot pc operands since) s) (length (marks_from c p g site phase k o xs))
      (there (spot (pc + length (marks_from c p g site phase k o xs)) operands since) record s { marks = with_marks c p g site phase k s.heap (top_of s.levels) ws xs s.marks })
  marks_lead g site phase k o ws [] pc operands since s h e =
      let q : pc ≡ pc + 0 = omega arith in
      subst (λ n. Leads code (there (spot pc operands since) s) 0 (there (spot n operands since) s)) q (leads_now code (there (spot pc operands since) s))
  marks_lead g site phase k o ws (x ∷ xs) pc operands since s h e =
      by_mark (is_marked p g (choice_decision c site phase k)) h (λ pc t h e. marks_lead g site phase (suc k) o ws xs pc operands since t h e)
    where
      rest : List Instr
      rest = marks_from c p g site phase (suc k) o xs

      d : ℕ
      d = (choice_decision c site phase k).number

      mine : Instr
      mine = instr.markchoice d x.condition o

      by_mark : (b : Bool) → HasAt is pc (when b (mine ∷ []) ++ rest) →
          ((pc : ℕ) (t : WatchState) → HasAt is pc rest → ((q : ℕ) (m : Outcomes) → words_over o (there (spot q operands since) record t { marks = m }) ≡ ws) →
          Leads code (there (spot pc operands since) t) (length rest) (there (spot (pc + length rest) operands since) record t { marks = with_marks c p g site phase (suc k) t.heap (top_of t.levels) ws xs t.marks })) →
          Leads code (there (spot pc operands since) s) (length (when b (mine ∷ []) ++ rest))
          (there (spot (pc + length (when b (mine ∷ []) ++ rest)) operands since)
          record s { marks = with_marks c p g site phase (suc k) s.heap (top_of s.levels) ws xs (if b then slice_set s.marks d (Some (outcome s.heap (top_of s.levels) ws x)) else s.marks) })
      by_mark false h more = more pc s h e
      by_mark true h more =
          let t : WatchState = record s { marks = slice_set s.marks d (Some (outcome s.heap (top_of s.levels) ws x)) } in
          let first : chosen s.heap (top_of s.levels) (words_over o (there (spot pc operands since) s)) x.condition ≡ outcome s.heap (top_of s.levels) ws x =
          ap (λ w. chosen s.heap (top_of s.levels) w x.condition) (e pc s.marks) ∙ same_choice s.heap (top_of s.levels) ws x in
          let q : pc + 1 + length rest ≡ pc + suc (length rest) = omega arith in
          let u : WatchState = record t { marks = with_marks c p g site phase (suc k) t.heap (top_of t.levels) ws xs t.marks } in
          let lead = leads_then code (there (spot pc operands since) s) (there (spot (pc + 1) operands since) t) (there (spot (pc + 1 + length rest) operands since) u) 1 (length rest)
          (leads_one code (there (spot pc operands since) s) (there (spot (pc + 1) operands since) t) mine h.0 (ap (λ b. marked (there (spot pc operands since) s) d b) first))
          (more (pc + 1) t h.1 e) in
          let n : 1 + length rest ≡ suc (length rest) = omega arith in
          subst (λ i. Leads code (there (spot pc operands since) s) i (there (spot (pc + suc (length rest)) operands since) u)) n
          (subst (λ i. Leads code (there (spot pc operands since) s) (1 + length rest) (there (spot i operands since) u)) q lead)

  -- behind some marks the state is the same but for them
  abbrev pub Marked : WatchState → Spot → Unit {0} → WatchState → Spot → Type 0
  Marked s x v t y = (y ≡ x) × (t ≡ record s { marks = t.marks })

  -- the choices of some conjuncts are marked
  pub mark_does : (g : ℕ) (site : Site) (phase : Phase) (o : Over) (words : WatchState → Option (List ℕ)) (parts : Conjuncts) (pc : ℕ) (operands : List ℕ) (since : ℕ) (s : WatchState) →
      HasAt is pc (marks_from c p g site phase 0 o (choices parts)) → ((q : ℕ) (m : Outcomes) → words_over o (there (spot q operands since) record s { marks = m }) ≡ words s) → s.steps ≤ s.turns →
      Does code L is callers 0 (spot pc operands since) s (mark c p g site phase parts words s) (Marked s (spot (pc + length (marks_from c p g site phase 0 o (choices parts))) operands since))
  unfolding mark change
  mark_does g site phase o words parts pc operands since s h e le =
      let n : ℕ = length (marks_from c p g site phase 0 o (choices parts)) in
      behind code L is callers n (marks_lead g site phase 0 o (words s) (choices parts) pc operands since s h e) (omega arith) refl
      (now code L is callers le (refl, refl))

  pub mark_over_does : (g : ℕ) (site : Site) (phase : Phase) (formula : Formula) (w : Words) (words : List ℕ) (pc : ℕ) (operands : List ℕ) (since : ℕ) (s : WatchState) →
      HasAt is pc (marks c p g site phase formula w) → words_at w (there (spot pc operands since) s).frame ≡ words → s.steps ≤ s.turns →
      Does code L is callers 0 (spot pc operands since) s (mark_over c p g site phase formula words s) (Marked s (spot (pc + length (marks c p g site phase formula w)) operands since))
  mark_over_does g site phase formula w words pc operands since s h e le =
      mark_does g site phase (instr.the_words w) (λ s. Some words) formula.parts pc operands since s h (λ q m. ap Some (same w q m ∙ e)) le
    where
      same : (w : Words) (q : ℕ) (m : Outcomes) → words_at w (there (spot q operands since) record s { marks = m }).frame ≡ words_at w (there (spot pc operands since) s).frame
      same (instr.first n) q m = refl
      same (instr.operands n) q m = refl
      same (instr.returning n result) q m = refl
      same (instr.behind_call args result) q m = refl

  pub mark_body_does : (g : ℕ) (site : Site) (phase : Phase) (formula : Formula) (w : Words) (words : List ℕ) (pc : ℕ) (operands : List ℕ) (since : ℕ) (s : WatchState) →
      HasAt is pc (body_marks c p g site phase formula w) → words_at w (there (spot pc operands since) s).frame ≡ words → s.steps ≤ s.turns →
      Does code L is callers 0 (spot pc operands since) s (mark_body c p g site phase formula words s) (Marked s (spot (pc + length (body_marks c p g site phase formula w)) operands since))
  mark_body_does g site phase formula w words pc operands since s h e le =
      mark_does g site phase (instr.the_arguments formula w) (λ s. instance_words s.heap (top_of s.levels) words formula.parts) (instance_body c.predicates formula.parts) pc operands since s h
      (λ q m. ap (λ ws. instance_words s.heap (top_of s.levels) ws formula.parts) (same w q m ∙ e)) le
    where
      same : (w : Words) (q : ℕ) (m : Outcomes) → words_at w (there (spot q operands since) record s { marks = m }).frame ≡ words_at w (there (spot pc operands since) s).frame
      same (instr.first n) q m = refl
      same (instr.operands n) q m = refl
      same (instr.returning n result) q m = refl
      same (instr.behind_call args result) q m = refl
