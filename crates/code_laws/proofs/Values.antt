-- The statements without a branch, a loop or a call.
use Rattle.std.proofs.Common.{◌≡◌, ℕ, zero, suc, ◌+◌, ◌≤◌, Bool, true, false, not, List, [], ◌∷◌, ◌++◌, length, replicate, Option, Some, None, is_some, slice_get, refl, sym, ap, ◌∙◌, arith, length-append}
use Rattle.std.proofs.lemmas.List.{length-replicate}
use Rattle.gc0_base.specs.declared.site.Site.{Site}
use Rattle.gc0_base.specs.declared.site.TrapKind.TheVariants as trap
use Rattle.gc0_base.specs.declared.site.Ending.TheVariants.{Fault}
use Rattle.gc0_tree.specs.declared.UnaryOp.{UnaryOp}
use Rattle.gc0_tree.specs.declared.ExprOp.{ExprOp}
use Rattle.gc0_tree.specs.declared.ExprOp.TheVariants as op
use Rattle.gc0_tree.specs.declared.Shape.{Shape}
use Rattle.gc0_tree.specs.Sites.{may_fault}
use Rattle.core_tree.specs.declared.BinaryOp.{BinaryOp}
use Rattle.core_tree.specs.declared.Simple.{Simple}
use Rattle.core_tree.specs.CoreTree.{do_set, do_unary, do_binary, do_load, do_store, do_new, do_assert, do_raise, CoreFunction, Core}
use Rattle.c0_meaning.specs.Operators.{unary_word, binary_word, pick, fault_of}
use Rattle.c0_meaning.specs.Heaps.{Object, Heap, cells_of, cell_value, set_cell}
use Rattle.c0_meaning.specs.Running.{or_0, fields_of}
use Rattle.core_meaning.specs.CoreRunning.{Flow, On, op_of}
use Rattle.core_meaning.specs.CoreSited.{same_truth}
use Rattle.core_checks.specs.Placements.{Placement, kept_at, is_tracked}
use Rattle.watched_core.specs.WatchRuns.{WatchState, Out, Run, chain, give, end, get, change, added}
use Rattle.watched_core.specs.Watching as watching
use Rattle.watched_core.specs.Watching.{Calls, word_of, word_in, put, put_if, locals_of, access, allocate, fault_at, library_does, consume, mark_body, check, noted, watch}
use Rattle.code_laws.specs.Instrs as instr
use Rattle.code_laws.specs.Instrs.{Words, Instr, Code}
use Rattle.code_laws.specs.Machine as machine
use Rattle.code_laws.specs.Machine.{Frame, Machine, Move, on, over, onward, with_top, with_two, with_levels, at_object, words_at, fields_in, fields_at, does}
use Rattle.code_laws.specs.Coding.{when, access_checks, stmt_code}
use Rattle.code_laws.proofs.Doing.{HasAt, has_front, has_back, Spot, spot, at, Does, one, ends_by}
use Rattle.code_laws.proofs.Checks.{access_does}
use Rattle.code_laws.proofs.Flows.{no_truth, Flows, Goes, goes_on, simple_then, put_does}

-- an operator that has no site has a value
has_value : (o : ExprOp) (x y : ℕ) → may_fault o ≡ false → binary_word o x y ≡ None → ⊥
has_value op.Add x y e h = cc
has_value op.Sub x y e h = cc
has_value op.Mul x y e h = cc
has_value op.Div x y e h = no_truth (sym e)
has_value op.Rem x y e h = no_truth (sym e)
has_value op.Shl x y e h = no_truth (sym e)
has_value op.Shr x y e h = no_truth (sym e)
has_value op.And x y e h = cc
has_value op.Or x y e h = cc
has_value op.Xor x y e h = cc
has_value op.Less x y e h = cc
has_value op.LessEq x y e h = cc
has_value op.Greater x y e h = cc
has_value op.GreaterEq x y e h = cc
has_value op.Equal x y e h = cc
has_value op.NotEqual x y e h = cc

-- the object that was made last
last_made : (heap : Heap) (o : Object) → slice_get (heap ++ o ∷ []) (length heap) ≡ Some o
last_made [] o = refl
last_made (x ∷ heap) o = last_made heap o

pub no_value : (s : Shape) → None ≡ Some s → ⊥
no_value s e = cc

at_some : (site : Site) (n i : ℕ) → n ≡ suc i → (f : ℕ → Move) → at_object site n f ≡ f n
at_some site zero i e f = absurd cc
at_some site (suc n) i e f = refl

pub not_both : (b : Bool) → not b ≡ true → b ≡ false
not_both true e = no_truth e
not_both false e = refl

module _ (c : Core) (p : Placement) (code : Code) (preds : code.predicates ≡ c.predicates) (texts : code.texts ≡ c.texts) (L : ℕ) (g : ℕ) (f : CoreFunction) (is : List Instr) (callers : List Frame) (go : Calls) (loops : ℕ) where
  abbrev there : Spot → WatchState → Machine
  there x s = at code L is callers x s

  abbrev Runs : Spot → WatchState → Out Flow → ℕ → Type 0
  Runs x s o q = Goes c p code L g f is callers x s o q

  pub set_does : (to : ℕ) (a : Simple) (pc since : ℕ) (s : WatchState) → s.steps ≤ s.turns → HasAt is pc (stmt_code c p g f loops (do_set to a)) →
      Runs (spot pc [] since) s (watch c p g f go loops (do_set to a) s) (pc + 2)
  unfolding chain get
  set_does to a pc since s le h =
      simple_then c p code L g f is callers a pc [] since s h.0 (put_does c p code L g f is callers to (word_of a s) (pc + 2) (pc + 1) since s h.1.0 (omega arith) le)

  pub unary_does : (to : ℕ) (o : UnaryOp) (a : Simple) (pc since : ℕ) (s : WatchState) → s.steps ≤ s.turns → HasAt is pc (stmt_code c p g f loops (do_unary to o a)) →
      Runs (spot pc [] since) s (watch c p g f go loops (do_unary to o a) s) (pc + 3)
  unfolding chain get
  unary_does to o a pc since s le h =
      simple_then c p code L g f is callers a pc [] since s h.0
      (one code L is callers {y = spot (pc + 1 + 1) (unary_word o (word_of a s) ∷ []) since} (instr.unary o) h.1.0 refl (omega arith) refl
      (put_does c p code L g f is callers to (unary_word o (word_of a s)) (pc + 3) (pc + 1 + 1) since s h.1.1.0 (omega arith) le))

  pub binary_does : (to : ℕ) (o : BinaryOp) (a b : Simple) (site : Option Site) (pc since : ℕ) (s : WatchState) → s.steps ≤ s.turns → same_truth (is_some site) (may_fault (op_of o)) ≡ true →
      HasAt is pc (stmt_code c p g f loops (do_binary to o a b site)) → Runs (spot pc [] since) s (watch c p g f go loops (do_binary to o a b site) s) (pc + 4)
  unfolding chain get give end
  binary_does to o a b site pc since s le due h =
      simple_then c p code L g f is callers a pc [] since s h.0 (simple_then c p code L g f is callers b (pc + 1) (word_of a s ∷ []) since s h.1.0
      (by_value site (binary_word (op_of o) (word_of a s) (word_of b s)) refl due h.1.1.0))
    where
      q : ℕ
      q = pc + 1 + 1

      by_value : (site : Option Site) (v : Option ℕ) → binary_word (op_of o) (word_of a s) (word_of b s) ≡ v → same_truth (is_some site) (may_fault (op_of o)) ≡ true → slice_get is q ≡ Some (instr.binary o site) →
          Runs (spot q (word_of b s ∷ word_of a s ∷ []) since) s (chain (watching.or_fault (fault_of (op_of o)) site v) (put to) s) (pc + 4)
      by_value site (Some z) e due i =
          one code L is callers {y = spot (q + 1) (z ∷ []) since} (instr.binary o site) i
          (ap (machine.or_fault (there (spot q (word_of b s ∷ word_of a s ∷ []) since) s) (fault_of (op_of o)) site []) e) (omega arith) refl
          (put_does c p code L g f is callers to z (pc + 4) (q + 1) since s h.1.1.1.0 (omega arith) le)
      by_value (Some site) None e due i =
          ends_by code L is callers (instr.binary o (Some site)) i
          (ap (machine.or_fault (there (spot q (word_of b s ∷ word_of a s ∷ []) since) s) (fault_of (op_of o)) (Some site) []) e) refl
      by_value None None e due i = absurd (has_value (op_of o) (word_of a s) (word_of b s) (not_both (may_fault (op_of o)) due) e)

  pub load_does : (to : ℕ) (base : Simple) (k field : ℕ) (site : Site) (pc since : ℕ) (s : WatchState) → s.steps ≤ s.turns → HasAt is pc (stmt_code c p g f loops (do_load to base k field site)) →
      Runs (spot pc [] since) s (watch c p g f go loops (do_load to base k field site) s) (pc + length (stmt_code c p g f loops (do_load to base k field site)))
  unfolding chain get
  load_does to base k field site pc since s le h =
      let a : List Instr = access_checks site field false (kept_at p site) in
      let b : List Instr = instr.get field site ∷ instr.save to ∷ [] in
      let n : ℕ = word_of base s in
      let x : ℕ = or_0 (cell_value s.heap record { object = n; field = field }) in
      let q : ℕ = pc + 1 + length a in
      let past = has_back is (pc + 1) a b h.1 in
      let end_is : q + 1 + 1 ≡ pc + length (stmt_code c p g f loops (do_load to base k field site)) = omega (arith, length-append a b) in
      let rest : Run Flow = chain (get (λ s. or_0 (cell_value s.heap record { object = n; field = field }))) (put to) in
      simple_then c p code L g f is callers base pc [] since s h.0
      (access_does c p code preds L is callers rest site field n false (n ∷ []) [] since s (pc + 1) (instr.get field site) le refl (has_front is (pc + 1) a b h.1) past.0
      (λ q e. ap (λ n. at_object site n (λ n. on (onward (there (spot q (n ∷ []) since) s) (or_0 (cell_value s.heap record { object = n; field = field }) ∷ [])))) e)
      (λ i e. one code L is callers {y = spot (q + 1) (x ∷ []) since} (instr.get field site) past.0
      (at_some site n i e (λ n. on (onward (there (spot q (word_of base s ∷ []) since) s) (or_0 (cell_value s.heap record { object = n; field = field }) ∷ []))))
      (omega arith) refl (put_does c p code L g f is callers to x (pc + length (stmt_code c p g f loops (do_load to base k field site))) (q + 1) since s past.1.0 end_is le)))

  pub store_does : (base : Simple) (k field : ℕ) (value : Simple) (site : Site) (pc since : ℕ) (s : WatchState) → s.steps ≤ s.turns → HasAt is pc (stmt_code c p g f loops (do_store base k field value site)) →
      Runs (spot pc [] since) s (watch c p g f go loops (do_store base k field value site) s) (pc + length (stmt_code c p g f loops (do_store base k field value site)))
  unfolding chain get change give
  store_does base k field value site pc since s le h =
      let a : List Instr = access_checks site field true (kept_at p site) in
      let b : List Instr = instr.put field site ∷ [] in
      let n : ℕ = word_of base s in
      let x : ℕ = word_of value s in
      let q : ℕ = pc + 1 + 1 + length a in
      let past = has_back is (pc + 1 + 1) a b h.1.1 in
      let end_is : q + 1 ≡ pc + length (stmt_code c p g f loops (do_store base k field value site)) = omega (arith, length-append a b) in
      let rest : Run Flow = chain (change (λ s. record s { heap = set_cell s.heap record { object = n; field = field } x })) (λ u. give On) in
      simple_then c p code L g f is callers base pc [] since s h.0 (simple_then c p code L g f is callers value (pc + 1) (n ∷ []) since s h.1.0
      (access_does c p code preds L is callers rest site field n true (x ∷ n ∷ []) [] since s (pc + 1 + 1) (instr.put field site) le refl (has_front is (pc + 1 + 1) a b h.1.1) past.0
      (λ q e. ap (λ n. at_object site n (λ n. on record (onward (there (spot q (x ∷ n ∷ []) since) s) []) { heap = set_cell s.heap record { object = n; field = field } x })) e)
      (λ i e. one code L is callers {y = spot (q + 1) [] since} {t = record s { heap = set_cell s.heap record { object = n; field = field } x }} (instr.put field site) past.0
      (at_some site n i e (λ n. on record (onward (there (spot q (x ∷ word_of base s ∷ []) since) s) []) { heap = set_cell s.heap record { object = n; field = field } x }))
      (omega arith) refl (goes_on c p code L g f is callers (pc + length (stmt_code c p g f loops (do_store base k field value site))) (q + 1) since (record s { heap = set_cell s.heap record { object = n; field = field } x }) end_is le))))

  pub new_does : (to k pc since : ℕ) (s : WatchState) → s.steps ≤ s.turns → HasAt is pc (stmt_code c p g f loops (do_new to k)) →
      Runs (spot pc [] since) s (watch c p g f go loops (do_new to k) s) (pc + length (stmt_code c p g f loops (do_new to k)))
  unfolding chain change give
  new_does to k pc since s le h =
      one code L is callers {y = spot (pc + 1) (object ∷ []) since} {t = made} (instr.new k fields) h.0 refl (omega arith) refl
      (by_tracked (is_tracked p g) h.1)
    where
      fields : ℕ
      fields = fields_of (slice_get c.structs k)

      object : ℕ
      object = suc (length s.heap)

      made : WatchState
      made = record s { heap = s.heap ++ record { of_struct = k; fields = replicate fields 0 } ∷ [] }

      has_fields : fields_at made.heap object ≡ fields
      has_fields = ap fields_in (last_made s.heap record { of_struct = k; fields = replicate fields 0 }) ∙ length-replicate fields 0

      by_tracked : (b : Bool) → HasAt is (pc + 1) (when b (instr.ownnew ∷ []) ++ instr.save to ∷ []) →
          Runs (spot (pc + 1) (object ∷ []) since) made (chain (watching.when b (λ s. record s { levels = added (cells_of object fields) s.levels })) (λ u. put to object) made) (pc + suc (length (when b (instr.ownnew ∷ []) ++ instr.save to ∷ [])))
      by_tracked true h =
          one code L is callers {y = spot (pc + 1 + 1) (object ∷ []) since} {t = record made { levels = added (cells_of object fields) s.levels }} instr.ownnew h.0 (ap (λ n. on (there (spot (pc + 1 + 1) (object ∷ []) since) record made { levels = added (cells_of object n) s.levels })) has_fields) (omega arith) refl
          (put_does c p code L g f is callers to object (pc + 3) (pc + 1 + 1) since (record made { levels = added (cells_of object fields) s.levels }) h.1.0 (omega arith) le)
      by_tracked false h = put_does c p code L g f is callers to object (pc + 2) (pc + 1) since made h.0 (omega arith) le

  pub assert_does : (a : Simple) (site : Site) (pc since : ℕ) (s : WatchState) → s.steps ≤ s.turns → HasAt is pc (stmt_code c p g f loops (do_assert a site)) →
      Runs (spot pc [] since) s (watch c p g f go loops (do_assert a site) s) (pc + 2)
  unfolding chain get give end
  assert_does a site pc since s le h =
      simple_then c p code L g f is callers a pc [] since s h.0 (by_truth (word_of a s) h.1.0)
    where
      by_truth : (x : ℕ) → slice_get is (pc + 1) ≡ Some (instr.assert site) → Runs (spot (pc + 1) (x ∷ []) since) s (pick x (end (Fault trap.Assertion site)) (give On) s) (pc + 2)
      by_truth zero i = ends_by code L is callers (instr.assert site) i refl refl
      by_truth (suc x) i = one code L is callers (instr.assert site) i refl (omega arith) refl (goes_on c p code L g f is callers (pc + 2) (pc + 1 + 1) since s (omega arith) le)

  pub raise_does : (t : ℕ) (site : Site) (pc since : ℕ) (s : WatchState) → s.steps ≤ s.turns → HasAt is pc (stmt_code c p g f loops (do_raise t site)) →
      Does code L is callers 0 (spot pc [] since) s (watch c p g f go loops (do_raise t site) s) (Flows c p code L g f is callers (pc + 1) false false true)
  unfolding end
  raise_does t site pc since s le h = ends_by code L is callers (instr.raise site) h.0 refl refl
