-- The checks behind their guards stop where the watched run does, and a formula that is consumed is marked and checked.
use Rattle.std.proofs.Common.{◌≡◌, ℕ, zero, suc, ◌+◌, ◌≤◌, Bool, true, false, not, ◌&&◌, List, [], ◌∷◌, ◌++◌, length, Some, None, if◌then◌else◌, slice_get, refl, sym, ap, ◌∙◌, subst, arith, length-append}
use Rattle.gc0_base.specs.declared.site.Site.{Site}
use Rattle.gc0_base.specs.declared.site.Part.{Part}
use Rattle.gc0_base.specs.declared.site.TrapKind.TheVariants as trap
use Rattle.gc0_base.specs.declared.site.Ending.TheVariants.{Stop, Fault}
use Rattle.gc0_tree.specs.Tree.{Formula}
use Rattle.core_tree.specs.declared.Phase.TheVariants.{Consume}
use Rattle.core_tree.specs.CoreTree.{Core}
use Rattle.core_checks.specs.Parts.{part_says, access_says}
use Rattle.core_checks.specs.Subjects.{of_formula, of_access}
use Rattle.core_checks.specs.Entries.{Known, is_last, among_last}
use Rattle.core_checks.specs.Placements.{Guarded, Placement, kept_at}
use Rattle.watched_core.specs.WatchRuns.{View, WatchState, Out, Next, Ends, Run, chain, give, end, top_of}
use Rattle.watched_core.specs.Watching.{mark_over, check_one, check_each, check, consume, access}
use Rattle.code_laws.specs.Instrs as instr
use Rattle.code_laws.specs.Instrs.{Words, Instr, Code}
use Rattle.code_laws.specs.Machine.{Frame, Machine, on, over, onward, past, or_stop, words_at, from_base, with_top, does}
use Rattle.code_laws.specs.Coding.{marks, guarded, checks, access_checks, consume_code}
use Rattle.code_laws.proofs.Doing.{HasAt, has_front, has_back, Spot, spot, at, Does, now, one, ends_by, to, bind, then_go, known}
use Rattle.code_laws.proofs.Marks.{mark_over_does}

module _ (c : Core) (p : Placement) (code : Code) (same : code.predicates ≡ c.predicates) (L : ℕ) (is : List Instr) (callers : List Frame) where
  abbrev there : Spot → WatchState → Machine
  there x s = at code L is callers x s

  -- where nothing but the place is another one
  abbrev pub Passed : WatchState → Spot → Unit {0} → WatchState → Spot → Type 0
  Passed s x v t y = (y ≡ x) × (t ≡ s)

  -- a test of a view: it passes or stops
  abbrev tried : Bool → View → WatchState → Out (Unit {0})
  tried stops v s = if stops then Ends (Stop v.site) (Some v) s else Next tt s

  -- one check behind its guards
  guarded_does : (i : Instr) (says : Bool) (v : View) (operands : List ℕ) (since : ℕ) (s : WatchState) → s.steps ≤ s.turns →
      ((q : ℕ) → does code i (there (spot q operands since) s) ≡ (if says then on (there (spot (q + 1) operands since) s) else over (Stop v.site) (Some v))) →
      (ds : List Known) (pc : ℕ) → HasAt is pc (guarded ds i) →
      Does code L is callers 0 (spot pc operands since) s (tried (among_last s.marks ds && not says) v s) (Passed s (spot (pc + length (guarded ds i)) operands since))
  guarded_does i says v operands since s le acts [] pc h = by_part says (acts pc)
    where
      by_part : (b : Bool) → does code i (there (spot pc operands since) s) ≡ (if b then on (there (spot (pc + 1) operands since) s) else over (Stop v.site) (Some v)) →
          Does code L is callers 0 (spot pc operands since) s (tried (not b) v s) (Passed s (spot (pc + 1) operands since))
      by_part true e = one code L is callers i h.0 e (omega arith) refl (now code L is callers le (refl, refl))
      by_part false e = ends_by code L is callers i h.0 e refl
  guarded_does i says v operands since s le acts (d ∷ ds) pc h =
      by_last (is_last (slice_get s.marks d.0.number) d.1) refl (guarded_does i says v operands since s le acts ds (pc + 1) h.1)
    where
      n : ℕ
      n = length (guarded ds i)

      guard : Instr
      guard = instr.guard d.0.number d.1 n

      ends : pc + 1 + n ≡ pc + suc n
      ends = omega arith

      by_last : (b : Bool) → is_last (slice_get s.marks d.0.number) d.1 ≡ b →
          Does code L is callers 0 (spot (pc + 1) operands since) s (tried (among_last s.marks ds && not says) v s) (Passed s (spot (pc + 1 + n) operands since)) →
          Does code L is callers 0 (spot pc operands since) s (tried ((b && among_last s.marks ds) && not says) v s) (Passed s (spot (pc + suc n) operands since))
      by_last true e next =
          one code L is callers guard h.0 (ap (λ b. if b then on (onward (there (spot pc operands since) s) operands) else on (past (there (spot pc operands since) s) n operands)) e) (omega arith) refl
          (to code L is callers next (λ u t y x a b. (x.0 ∙ ap (λ q. spot q operands since) ends, x.1)))
      by_last false e next =
          one code L is callers {y = spot (pc + 1 + n) operands since} guard h.0
          (ap (λ b. if b then on (onward (there (spot pc operands since) s) operands) else on (past (there (spot pc operands since) s) n operands)) e)
          (omega arith) refl (now code L is callers le (ap (λ q. spot q operands since) ends, refl))

  -- the parts of a formula
  parts_do : (site : Site) (folded : Bool) (formula : Formula) (w : Words) (words operands : List ℕ) (since : ℕ) (s : WatchState) → s.steps ≤ s.turns →
      words_at w (there (spot 0 operands since) s).frame ≡ words → (gs : List Guarded) (pc : ℕ) → HasAt is pc (checks site folded formula w gs) →
      Does code L is callers 0 (spot pc operands since) s (check_each c site (of_formula folded formula) words gs s) (Passed s (spot (pc + length (checks site folded formula w gs)) operands since))
  unfolding give chain
  parts_do site folded formula w words operands since s le e [] pc h =
      let q : pc ≡ pc + 0 = omega arith in
      now code L is callers le (ap (λ n. spot n operands since) q, refl)
  parts_do site folded formula w words operands since s le e (g ∷ gs) pc h =
      let i : Instr = instr.check site folded formula w g.part in
      let a : List Instr = guarded g.decisions i in
      let b : List Instr = checks site folded formula w gs in
      let says : Bool = part_says c.predicates folded formula g.part words s.heap (top_of s.levels) in
      let v : View = record { site = site; words = words; heap = s.heap; owned = top_of s.levels } in
      let n : pc + length a + length b ≡ pc + length (a ++ b) = omega (arith, length-append a b) in
      bind code L is callers (check_one c site (of_formula folded formula) words g) (λ u. check_each c site (of_formula folded formula) words gs)
      (guarded_does i says v operands since s le (λ q. acts q g.part) g.decisions pc (has_front is pc a b h))
      (λ u t y x less fewer. known code L is callers (check_each c site (of_formula folded formula) words gs) (spot (pc + length a) operands since) y s t x.0 x.1
      (to code L is callers (parts_do site folded formula w words operands since s le e gs (pc + length a) (has_back is pc a b h))
      (λ u t y x a b. (x.0 ∙ ap (λ q. spot q operands since) n, x.1))))
    where
      acts : (q : ℕ) (part : Part) → does code (instr.check site folded formula w part) (there (spot q operands since) s)
          ≡ (if part_says c.predicates folded formula part words s.heap (top_of s.levels) then on (there (spot (q + 1) operands since) s)
          else over (Stop site) (Some record { site = site; words = words; heap = s.heap; owned = top_of s.levels }))
      acts q part =
          ap (λ ws. or_stop (there (spot q operands since) s) site ws (part_says code.predicates folded formula part ws s.heap (top_of s.levels))) (same_words w ∙ e)
          ∙ ap (λ ps. or_stop (there (spot q operands since) s) site words (part_says ps folded formula part words s.heap (top_of s.levels))) same
        where
          same_words : (w : Words) → words_at w (there (spot q operands since) s).frame ≡ words_at w (there (spot 0 operands since) s).frame
          same_words (instr.first n) = refl
          same_words (instr.operands n) = refl
          same_words (instr.returning n result) = refl
          same_words (instr.behind_call args result) = refl

  -- the checks of an access, with the base below the value of a store
  accesses_do : (site : Site) (field base : ℕ) (under : Bool) (operands more : List ℕ) (since : ℕ) (s : WatchState) → s.steps ≤ s.turns →
      from_base under operands ≡ base ∷ more → (gs : List Guarded) (pc : ℕ) → HasAt is pc (access_checks site field under gs) →
      Does code L is callers 0 (spot pc operands since) s (check_each c site of_access (base ∷ field ∷ []) gs s) (Passed s (spot (pc + length (access_checks site field under gs)) operands since))
  unfolding give chain
  accesses_do site field base under operands more since s le e [] pc h =
      let q : pc ≡ pc + 0 = omega arith in
      now code L is callers le (ap (λ n. spot n operands since) q, refl)
  accesses_do site field base under operands more since s le e (g ∷ gs) pc h =
      let i : Instr = instr.checkaccess site field under in
      let a : List Instr = guarded g.decisions i in
      let b : List Instr = access_checks site field under gs in
      let says : Bool = access_says (top_of s.levels) (base ∷ field ∷ []) in
      let v : View = record { site = site; words = base ∷ field ∷ []; heap = s.heap; owned = top_of s.levels } in
      let n : pc + length a + length b ≡ pc + length (a ++ b) = omega (arith, length-append a b) in
      bind code L is callers (check_one c site of_access (base ∷ field ∷ []) g) (λ u. check_each c site of_access (base ∷ field ∷ []) gs)
      (guarded_does i says v operands since s le
      (λ q. ap (λ os. with_top os (λ b rest. or_stop (there (spot q operands since) s) site (b ∷ field ∷ []) (access_says (top_of s.levels) (b ∷ field ∷ [])))) e)
      g.decisions pc (has_front is pc a b h))
      (λ u t y x less fewer. known code L is callers (check_each c site of_access (base ∷ field ∷ []) gs) (spot (pc + length a) operands since) y s t x.0 x.1
      (to code L is callers (accesses_do site field base under operands more since s le e gs (pc + length a) (has_back is pc a b h))
      (λ u t y x a b. (x.0 ∙ ap (λ q. spot q operands since) n, x.1))))

  -- at `NULL` each of them passes
  pass_at_null : (site : Site) (field : ℕ) (gs : List Guarded) (s : WatchState) → check_each c site of_access (0 ∷ field ∷ []) gs s ≡ Next tt s
  unfolding give chain
  pass_at_null site field [] s = refl
  pass_at_null site field (g ∷ gs) s = by_guards (among_last s.marks g.decisions) (pass_at_null site field gs s)
    where
      by_guards : (b : Bool) → check_each c site of_access (0 ∷ field ∷ []) gs s ≡ Next tt s →
          chain (λ t. tried (b && false) (record { site = site; words = 0 ∷ field ∷ []; heap = s.heap; owned = top_of s.levels }) t) (λ u. check_each c site of_access (0 ∷ field ∷ []) gs) s ≡ Next tt s
      by_guards true e = e
      by_guards false e = e

  -- an access, up to the instruction that reads or writes the cell
  pub access_does : {B : Type 0} {Q : B → WatchState → Spot → Type 0} → (f : Run B) (site : Site) (field base : ℕ) (under : Bool) (operands more : List ℕ) (since : ℕ) (s : WatchState) (pc : ℕ) (i : Instr) → s.steps ≤ s.turns →
      from_base under operands ≡ base ∷ more → HasAt is pc (access_checks site field under (kept_at p site)) → slice_get is (pc + length (access_checks site field under (kept_at p site))) ≡ Some i →
      ((q : ℕ) → base ≡ 0 → does code i (there (spot q operands since) s) ≡ over (Fault trap.Null site) None) →
      ((b : ℕ) → base ≡ suc b → Does code L is callers 0 (spot (pc + length (access_checks site field under (kept_at p site))) operands since) s (f s) Q) →
      Does code L is callers 0 (spot pc operands since) s (chain (access c p site base field) (λ u. f) s) Q
  unfolding give chain end check
  access_does {Q = Q} f site field zero under operands more since s pc i le e h there null next =
      let a : List Instr = access_checks site field under (kept_at p site) in
      let q : ℕ = pc + length a in
      let first = subst (λ o. Does code L is callers 0 (spot pc operands since) s o (Passed s (spot q operands since))) (pass_at_null site field (kept_at p site) s)
      (accesses_do site field 0 under operands more since s le e (kept_at p site) pc h) in
      let stops : Run _ = λ t. Ends (Fault trap.Null site) None s in
      then_go code L is callers {o = Next tt s} {f = λ u. stops} 0 0 (omega arith) first
      (λ u t y x less fewer. known code L is callers stops (spot q operands since) y s t x.0 x.1
      (ends_by code L is callers i there (null q refl) refl))
  access_does {Q = Q} f site field (suc b) under operands more since s pc i le e h there null next =
      let a : List Instr = access_checks site field under (kept_at p site) in
      let q : ℕ = pc + length a in
      bind code L is callers (check c p site of_access (suc b ∷ field ∷ [])) (λ u. f)
      (accesses_do site field (suc b) under operands more since s le e (kept_at p site) pc h)
      (λ u t y x less fewer. known code L is callers f (spot q operands since) y s t x.0 x.1 (next b refl))

  -- the kept parts at a site
  pub check_does : (site : Site) (folded : Bool) (formula : Formula) (w : Words) (words : List ℕ) (pc : ℕ) (operands : List ℕ) (since : ℕ) (s : WatchState) → s.steps ≤ s.turns →
      words_at w (there (spot 0 operands since) s).frame ≡ words → HasAt is pc (checks site folded formula w (kept_at p site)) →
      Does code L is callers 0 (spot pc operands since) s (check c p site (of_formula folded formula) words s) (Passed s (spot (pc + length (checks site folded formula w (kept_at p site))) operands since))
  unfolding check
  check_does site folded formula w words pc operands since s le e h = parts_do site folded formula w words operands since s le e (kept_at p site) pc h

  -- behind marks and checks the state is the same but for the marks
  abbrev pub Marked : WatchState → Spot → Unit {0} → WatchState → Spot → Type 0
  Marked s x v t y = (y ≡ x) × (t ≡ record s { marks = t.marks })

  pub consume_does : (g : ℕ) (site : Site) (formula : Formula) (w : Words) (words : List ℕ) (pc : ℕ) (operands : List ℕ) (since : ℕ) (s : WatchState) → s.steps ≤ s.turns →
      words_at w (there (spot pc operands since) s).frame ≡ words → HasAt is pc (consume_code c p g site formula w) →
      Does code L is callers 0 (spot pc operands since) s (consume c p g site formula words s) (Marked s (spot (pc + length (consume_code c p g site formula w)) operands since))
  consume_does g site formula w words pc operands since s le e h =
      let a : List Instr = marks c p g site Consume formula w in
      let b : List Instr = checks site false formula w (kept_at p site) in
      let n : pc + length a + length b ≡ pc + length (a ++ b) = omega (arith, length-append a b) in
      bind code L is callers (mark_over c p g site Consume formula words) (λ u. check c p site (of_formula false formula) words)
      (mark_over_does c p code L is callers g site Consume formula w words pc operands since s (has_front is pc a b h) e le)
      (λ u t y x less fewer. known code L is callers (check c p site (of_formula false formula) words) (spot (pc + length a) operands since) y (record s { marks = t.marks }) t x.0 x.1
      (to code L is callers (check_does site false formula w words (pc + length a) operands since (record s { marks = t.marks }) le (same_words t.marks w ∙ e) (has_back is pc a b h))
      (λ u v y z less fewer. (z.0 ∙ ap (λ q. spot q operands since) n, z.1 ∙ ap (λ m. record s { marks = m }) (sym (ap (λ z. z.marks) z.1))))))
    where
      same_words : (m : _) (w : Words) → words_at w (there (spot 0 operands since) record s { marks = m }).frame ≡ words_at w (there (spot pc operands since) s).frame
      same_words m (instr.first n) = refl
      same_words m (instr.operands n) = refl
      same_words m (instr.returning n result) = refl
      same_words m (instr.behind_call args result) = refl
