-- What a run answers: the tree of the text, or its first fault.
use Rattle.std.proofs.Common.{◌≡◌, ℕ, ◌≤◌, ◌<◌, max, true, false, cond, nat_le, List, [], ◌∷◌, ◌++◌, Some, None, Result, Ok, Err, ◌⊎◌, inl, inr, refl, sym, ap, ◌∙◌, subst, arith, append_assoc, append-nil}
use Rattle.std.proofs.lemmas.Bool.{leb-true, cases_lt}
use Rattle.gc0_base.specs.declared.place.Place.{Place}
use Rattle.c0_lex.specs.declared.token.Keyword.TheVariants as key
use Rattle.parsed_tree.specs.Tree.{plain, ProgramTree}
use Rattle.c0_grammar.specs.Tokens.{Fixed, word_mark, Token, end_token}
use Rattle.c0_grammar.specs.Lists.{spell_all}
use Rattle.c0_grammar.specs.Texts.{spell_item, spell_use}
use Rattle.c0_grammar.specs.Grammar.{IsProgram}
use Rattle.c0_grammar.specs.Plan.{Plan, await, peek, name, alias, text, peek_text, library_name_of, operand, arrows, acc_arrows, ops, quest, more_args, simple_end, simple, body, loop_body, lines, many, items, finished, step, Fault, syntax_at, deep_at, nowhere, finish, go, run, start}
use Rattle.c0_grammar.specs.Reads.{Reads, CanBe, FirstSyntax, FirstDeep, EndsLast, HasFault, Answers}
use Rattle.c0_grammar.specs.Laws.{RunIsExact, RunIsComplete}
use Rattle.c0_grammar.proofs.Takes.{no_tail, no_link, Passes, Takes, TakesNext}
use Rattle.c0_grammar.proofs.Marks.{within}
use Rattle.c0_grammar.proofs.Ends.{behind_end, behind_program, nothing_more}
use Rattle.c0_grammar.proofs.Backs.{backward}
use Rattle.c0_grammar.proofs.Viable.{Shallow, ShallowNext, least}
use Rattle.c0_grammar.proofs.Shallows.{shallow_step, shallow_start}

-- ---- a run that ends well took a text of the plan
ok_same : (p q : ProgramTree) → ◌≡◌ {A = Result ProgramTree Fault} (Ok p) (Ok q) → p ≡ q
ok_same p q e = cc

err_ok : (f : Fault) (p : ProgramTree) → ◌≡◌ {A = Result ProgramTree Fault} (Err f) (Ok p) → ⊥
err_ok f p e = cc

err_same : (f g : Fault) → ◌≡◌ {A = Result ProgramTree Fault} (Err f) (Err g) → f ≡ g
err_same f g e = cc

record Found (L : ℕ) (plan : Plan) (ts : List Token) (p : ProgramTree) : Type 0 where
  n : ℕ
  takes : Takes plan ts p n
  within : n ≤ L

passes_end : (f : Fixed) → Passes f []
passes_end (word_mark key.Else) = refl
passes_end f = tt

finish_back : (L : ℕ) (plan : Plan) (p : ProgramTree) → Shallow L plan → finish plan ≡ Ok p → Found L plan [] p
finish_back L (peek reach f these others) p (a, b, c) e = let x = finish_back L others p b e in record { n = x.n; takes = inr (passes_end f, x.takes); within = x.within }
finish_back L (alias reach names these others) p (a, b) e = let x = finish_back L others p b e in record { n = x.n; takes = inr x.takes; within = x.within }
finish_back L (peek_text these others) p (a, b) e = let x = finish_back L others p b e in record { n = x.n; takes = inr x.takes; within = x.within }
finish_back L (arrows up y d next) p (u, k) e = let x = finish_back L (next y d) p (k y d u) e in record { n = x.n; takes = record { ls = no_link; rest = []; split = refl; after = x.takes }; within = x.within }
finish_back L (ops r names m up y d next) p (u, k) e = let x = finish_back L (next y d) p (k y d u) e in record { n = x.n; takes = record { tl = no_tail; rest = []; good = tt; split = refl; after = x.takes }; within = x.within }
finish_back L (quest names m up y d next) p (u, k) e = let x = finish_back L (next y d) p (k y d u) e in record { n = x.n; takes = inl x.takes; within = x.within }
finish_back L (simple_end names up y d next) p (u, k) e = let x = finish_back L (next (plain y) d) p (k (plain y) d u) e in record { n = x.n; takes = inl x.takes; within = x.within }
finish_back L (many l next) p (u, k) e = let x = finish_back L (next [] 0) p (k [] 0 (omega (arith, u))) e in record { n = x.n; takes = record { xs = []; rest = []; good = tt; split = refl; after = x.takes }; within = x.within }
finish_back L (finished q d) p h e = record { n = d; takes = (refl, ok_same q p e, refl); within = h }
finish_back L (await reach f next) p h e = absurd (err_ok (syntax_at nowhere) p e)
finish_back L (name names next) p h e = absurd (err_ok (syntax_at nowhere) p e)
finish_back L (text next) p h e = absurd (err_ok (syntax_at nowhere) p e)
finish_back L (library_name_of next) p h e = absurd (err_ok (syntax_at nowhere) p e)
finish_back L (operand names m up next) p h e = absurd (err_ok (syntax_at nowhere) p e)
finish_back L (acc_arrows up x d q f next) p h e = absurd (err_ok (syntax_at nowhere) p e)
finish_back L (more_args names m up next) p h e = absurd (err_ok (syntax_at nowhere) p e)
finish_back L (simple names may up next) p h e = absurd (err_ok (syntax_at nowhere) p e)
finish_back L (body names up next) p h e = absurd (err_ok (syntax_at nowhere) p e)
finish_back L (loop_body names up next) p h e = absurd (err_ok (syntax_at nowhere) p e)
finish_back L (lines names up next) p h e = absurd (err_ok (syntax_at nowhere) p e)
finish_back L (items names next) p h e = absurd (err_ok (syntax_at nowhere) p e)

-- a step that is taken keeps what was shallow
kept : (L : ℕ) (plan : Plan) (t : Token) (x : ℕ × Plan) → step plan t ≡ Some x → x.0 ≤ L → Shallow L plan → Shallow L x.1
kept L plan t x i h s = subst (ShallowNext L) i (shallow_step L plan s t) h

low : (a b : ℕ) → nat_le a b ≡ true → a ≤ b
low a b e = leb-true a b e

sound_behind : (L : ℕ) (plan : Plan) (t : Token) (ts : List Token) (p : ProgramTree) (x : ℕ × Plan) → step plan t ≡ Some x → Found L x.1 ts p → Found L plan (t ∷ ts) p
sound_behind L plan t ts p x i r = record { n = r.n; takes = backward plan t ts p r.n (subst (λ k. TakesNext k ts p r.n) (sym i) r.takes); within = r.within }

sound : (L : ℕ) (plan : Plan) (ts : List Token) (p : ProgramTree) → Shallow L plan → run L plan ts ≡ Ok p → Found L plan ts p
sound L plan [] p s e = finish_back L plan p s e
sound L plan (t ∷ ts) p s e =
    elim (step plan t) as (λ s. step plan t ≡ s → go L s (λ q. run L q ts) t.place ≡ Ok p → Found L plan (t ∷ ts) p) [
      | None ↦ λ i y. absurd (err_ok (syntax_at t.place) p y)
      | Some x ↦ λ i y.
          elim (nat_le x.0 L) as (λ b. nat_le x.0 L ≡ b → cond b (run L x.1 ts) (Err (deep_at t.place)) ≡ Ok p → Found L plan (t ∷ ts) p) [
            | false ↦ λ j z. absurd (err_ok (deep_at t.place) p z)
            | true ↦ λ j z. sound_behind L plan t ts p x i (sound L x.1 ts p (kept L plan t x i (low x.0 L j) s) z)
          ] refl y
    ] refl e

-- ---- a run that ends badly stopped at a dead token, or came to the end too soon
record DeadAt (L : ℕ) (plan : Plan) (ts : List Token) (at : Place) : Type 0 where
  before : List Token
  bad : Token
  after : List Token
  split : ts ≡ before ++ bad ∷ after
  place : bad.place ≡ at
  more : List Token
  p : ProgramTree
  n : ℕ
  takes : Takes plan (before ++ more) p n
  within : n ≤ L
  dead : (K : ℕ) → L ≤ K → (rest : List Token) → run K plan (before ++ bad ∷ rest) ≡ Err (syntax_at at)

record DeepAt (L : ℕ) (plan : Plan) (ts : List Token) (at : Place) : Type 0 where
  before : List Token
  bad : Token
  after : List Token
  split : ts ≡ before ++ bad ∷ after
  place : bad.place ≡ at
  more : List Token
  p : ProgramTree
  n : ℕ
  takes : Takes plan (before ++ more) p n
  within : n ≤ L
  onward : List Token
  q : ProgramTree
  c : ℕ
  goes_on : Takes plan (before ++ bad ∷ onward) q c
  deep : (rest : List Token) → run L plan (before ++ bad ∷ rest) ≡ Err (deep_at at)

abbrev FaultOf : ℕ → Plan → List Token → Fault → Type 0
FaultOf L plan ts (syntax_at at) = DeadAt L plan ts at
FaultOf L plan ts (deep_at at) = DeepAt L plan ts at

record Short (L : ℕ) (plan : Plan) (ts : List Token) : Type 0 where
  more : List Token
  p : ProgramTree
  n : ℕ
  within : n ≤ L
  takes : Takes plan (ts ++ more) p n

abbrev ShallowFrom : ℕ → Plan → Type 0
ShallowFrom L plan = (K : ℕ) → L ≤ K → Shallow K plan

-- one token before a fault
behind_fault : (L : ℕ) (plan : Plan) (t : Token) (ts : List Token) (f : Fault) (x : ℕ × Plan) → step plan t ≡ Some x → x.0 ≤ L → FaultOf L x.1 ts f → FaultOf L plan (t ∷ ts) f
behind_fault L plan t ts (syntax_at at) x i h f = record {
  before = t ∷ f.before;
  bad = f.bad;
  after = f.after;
  split = ap (λ l. t ∷ l) f.split;
  place = f.place;
  more = f.more;
  p = f.p;
  n = f.n;
  takes = backward plan t (f.before ++ f.more) f.p f.n (subst (λ s. TakesNext s (f.before ++ f.more) f.p f.n) (sym i) f.takes);
  within = f.within;
  dead = λ K k rest. ap (λ s. go K s (λ r. run K r (f.before ++ f.bad ∷ rest)) t.place) i ∙ ap (λ b. cond b (run K x.1 (f.before ++ f.bad ∷ rest)) (Err (deep_at t.place))) (within x.0 K (omega (arith, h, k))) ∙ f.dead K k rest;
}
behind_fault L plan t ts (deep_at at) x i h f = record {
  before = t ∷ f.before;
  bad = f.bad;
  after = f.after;
  split = ap (λ l. t ∷ l) f.split;
  place = f.place;
  more = f.more;
  p = f.p;
  n = f.n;
  takes = backward plan t (f.before ++ f.more) f.p f.n (subst (λ s. TakesNext s (f.before ++ f.more) f.p f.n) (sym i) f.takes);
  within = f.within;
  onward = f.onward;
  q = f.q;
  c = f.c;
  goes_on = backward plan t (f.before ++ f.bad ∷ f.onward) f.q f.c (subst (λ s. TakesNext s (f.before ++ f.bad ∷ f.onward) f.q f.c) (sym i) f.goes_on);
  deep = λ rest. ap (λ s. go L s (λ r. run L r (f.before ++ f.bad ∷ rest)) t.place) i ∙ ap (λ b. cond b (run L x.1 (f.before ++ f.bad ∷ rest)) (Err (deep_at t.place))) (within x.0 L h) ∙ f.deep rest;
}

-- the first token is dead
dead_here : (L : ℕ) (plan : Plan) (t : Token) (ts : List Token) → ShallowFrom L plan → step plan t ≡ None → DeadAt L plan (t ∷ ts) t.place
dead_here L plan t ts s i =
    let r = least L plan (s L (omega arith)) in
    record { before = []; bad = t; after = ts; split = refl; place = refl; more = r.ts; p = r.p; n = r.n; takes = r.takes; within = r.within; dead = λ K k rest. ap (λ s. go K s (λ q. run K q rest) t.place) i }

deep_here : (L : ℕ) (plan : Plan) (t : Token) (ts : List Token) (x : ℕ × Plan) → ShallowFrom L plan → step plan t ≡ Some x → nat_le x.0 L ≡ false → DeepAt L plan (t ∷ ts) t.place
deep_here L plan t ts x s i j =
    let r = least L plan (s L (omega arith)) in
    let K : ℕ = max L x.0 in
    let o = least K x.1 (kept K plan t x i (omega arith) (s K (omega arith))) in
    record {
      before = [];
      bad = t;
      after = ts;
      split = refl;
      place = refl;
      more = r.ts;
      p = r.p;
      n = r.n;
      takes = r.takes;
      within = r.within;
      onward = o.ts;
      q = o.p;
      c = o.n;
      goes_on = backward plan t o.ts o.p o.n (subst (λ s. TakesNext s o.ts o.p o.n) (sym i) o.takes);
      deep = λ rest. ap (λ s. go L s (λ q. run L q rest) t.place) i ∙ ap (λ b. cond b (run L x.1 rest) (Err (deep_at t.place))) j;
    }

further_shallow : (L : ℕ) (plan : Plan) (t : Token) (x : ℕ × Plan) → ShallowFrom L plan → step plan t ≡ Some x → x.0 ≤ L → ShallowFrom L x.1
further_shallow L plan t x s i h = λ K k. kept K plan t x i (omega (arith, h, k)) (s K k)

short_here : (L : ℕ) (plan : Plan) → ShallowFrom L plan → Short L plan []
short_here L plan s = let r = least L plan (s L (omega arith)) in record { more = r.ts; p = r.p; n = r.n; within = r.within; takes = r.takes }

beyond : (L : ℕ) (plan : Plan) (t : Token) (ts : List Token) (f : Fault) (x : ℕ × Plan) → step plan t ≡ Some x → x.0 ≤ L → FaultOf L x.1 ts f ⊎ Short L x.1 ts → FaultOf L plan (t ∷ ts) f ⊎ Short L plan (t ∷ ts)
beyond L plan t ts f x i h (inl g) = inl (behind_fault L plan t ts f x i h g)
beyond L plan t ts f x i h (inr g) = inr (record { more = g.more; p = g.p; n = g.n; within = g.within; takes = backward plan t (ts ++ g.more) g.p g.n (subst (λ z. TakesNext z (ts ++ g.more) g.p g.n) (sym i) g.takes) })

means : (L : ℕ) (plan : Plan) (ts : List Token) (f : Fault) → ShallowFrom L plan → run L plan ts ≡ Err f → FaultOf L plan ts f ⊎ Short L plan ts
means L plan [] f s e = inr (short_here L plan s)
means L plan (t ∷ ts) f s e =
    elim (step plan t) as (λ s. step plan t ≡ s → go L s (λ q. run L q ts) t.place ≡ Err f → FaultOf L plan (t ∷ ts) f ⊎ Short L plan (t ∷ ts)) [
      | None ↦ λ i y. inl (subst (FaultOf L plan (t ∷ ts)) (err_same (syntax_at t.place) f y) (dead_here L plan t ts s i))
      | Some x ↦ λ i y.
          elim (nat_le x.0 L) as (λ b. nat_le x.0 L ≡ b → cond b (run L x.1 ts) (Err (deep_at t.place)) ≡ Err f → FaultOf L plan (t ∷ ts) f ⊎ Short L plan (t ∷ ts)) [
            | true ↦ λ j z. beyond L plan t ts f x i (low x.0 L j) (means L x.1 ts f (further_shallow L plan t x s i (low x.0 L j)) z)
            | false ↦ λ j z. inl (subst (FaultOf L plan (t ∷ ts)) (err_same (deep_at t.place) f z) (deep_here L plan t ts x s i j))
          ] refl y
    ] refl e

-- ---- the answers
to_program : (ts : List Token) (p : ProgramTree) (n : ℕ) → Takes start ts p n → IsProgram ts p n
to_program ts p n x =
    let i = x.after in
    record {
      text = record { uses = x.xs; items = i.is; last = i.last };
      good = i.good;
      tokens = sym (x.split ∙ ap (spell_all spell_use x.xs) (i.split ∙ ap (λ l. spell_all spell_item i.is (end_token i.last ∷ l)) i.after.0));
      tree = i.after.1;
      depth = i.after.2;
    }

reads : (L : ℕ) (ts : List Token) (p : ProgramTree) → run L start ts ≡ Ok p → Reads L ts p
reads L ts p e = let x = sound L start ts p (shallow_start L) e in record { nodes = x.n; program = to_program ts p x.n x.takes; within = x.within }

-- tokens that end with the end of the text are not too short
never_short : RunIsComplete → (L : ℕ) (ts : List Token) (f : Fault) → EndsLast ts → run L start ts ≡ Err f → Short L start ts → ⊥
never_short complete L ts f x e s =
    let program = to_program (ts ++ s.more) s.p s.n s.takes in
    let same = ap (λ l. l ++ s.more) x.split in
    let none : s.more ≡ [] = nothing_more x.front x.last s.more (sym (ap behind_end same) ∙ behind_program (ts ++ s.more) s.p s.n program) in
    let whole : IsProgram ts s.p s.n = subst (λ l. IsProgram l s.p s.n) (append-nil ts) (subst (λ l. IsProgram (ts ++ l) s.p s.n) none program) in
    err_ok f s.p (sym e ∙ complete L ts s.p (record { nodes = s.n; program = whole; within = s.within }))

can_be_so : (L : ℕ) (done more : List Token) (p : ProgramTree) (n : ℕ) → n ≤ L → Takes start (done ++ more) p n → CanBe L done
can_be_so L done more p n h x = (more, p, record { nodes = n; program = to_program (done ++ more) p n x; within = h })

to_syntax : RunIsComplete → (L : ℕ) (ts : List Token) (at : Place) → DeadAt L start ts at → FirstSyntax L ts at
to_syntax complete L ts at f = record {
  before = f.before;
  bad = f.bad;
  splits = record { after = f.after; whole = f.split; place = f.place };
  can_be = can_be_so L f.before f.more f.p f.n f.within f.takes;
  none = λ b. none b.0 b.1 b.2 b.3;
}
  where
    none : (more : List Token) (p : ProgramTree) (n : ℕ) → IsProgram ((f.before ++ f.bad ∷ []) ++ more) p n → ⊥
    none more p n x =
        let K : ℕ = max L n in
        let ran = complete K ((f.before ++ f.bad ∷ []) ++ more) p (record { nodes = n; program = x; within = omega arith }) in
        err_ok (syntax_at at) p (sym (f.dead K (omega arith) more) ∙ ap (run K start) (sym (append_assoc f.before (f.bad ∷ []) more)) ∙ ran)

not_above : (L n : ℕ) → (n ≤ L → ⊥) → L < n
not_above L n h = by (cases_lt L n)
  where
    by : (L < n) ⊎ (n ≤ L) → L < n
    by (inl a) = a
    by (inr a) = absurd (h a)

to_deep : RunIsComplete → (L : ℕ) (ts : List Token) (at : Place) → DeepAt L start ts at → FirstDeep L ts at
to_deep complete L ts at f = record {
  before = f.before;
  bad = f.bad;
  splits = record { after = f.after; whole = f.split; place = f.place };
  can_be = can_be_so L f.before f.more f.p f.n f.within f.takes;
  begins = (f.onward, f.q, f.c, subst (λ l. IsProgram l f.q f.c) (sym (append_assoc f.before (f.bad ∷ []) f.onward)) (to_program (f.before ++ f.bad ∷ f.onward) f.q f.c f.goes_on));
  deep = λ more p n x. not_above L n (λ h. clash more p n x h);
}
  where
    clash : (more : List Token) (p : ProgramTree) (n : ℕ) → IsProgram ((f.before ++ f.bad ∷ []) ++ more) p n → n ≤ L → ⊥
    clash more p n x h =
        let ran = complete L ((f.before ++ f.bad ∷ []) ++ more) p (record { nodes = n; program = x; within = h }) in
        err_ok (deep_at at) p (sym (f.deep more) ∙ ap (run L start) (sym (append_assoc f.before (f.bad ∷ []) more)) ∙ ran)

to_fault : RunIsComplete → (L : ℕ) (ts : List Token) (f : Fault) → FaultOf L start ts f → HasFault L ts f
to_fault complete L ts (syntax_at at) x = to_syntax complete L ts at x
to_fault complete L ts (deep_at at) x = to_deep complete L ts at x

answer : RunIsComplete → (L : ℕ) (ts : List Token) → EndsLast ts → (r : Result ProgramTree Fault) → run L start ts ≡ r → Answers L ts r
answer complete L ts x (Ok p) e = reads L ts p e
answer complete L ts x (Err f) e = by (means L start ts f start_shallow e)
  where
    start_shallow : ShallowFrom L start
    start_shallow = λ K k. shallow_start K

    by : FaultOf L start ts f ⊎ Short L start ts → HasFault L ts f
    by (inl g) = to_fault complete L ts f g
    by (inr s) = absurd (never_short complete L ts f x e s)

pub exact_if : RunIsComplete → RunIsExact
exact_if complete L ts x = answer complete L ts x (run L start ts) refl
