-- What a run answers: the tree of the text, or its first fault.
use Rattle.std.proofs.Common.{◌≡◌, ℕ, Bool, true, false, cond, List, [], ◌∷◌, ◌++◌, Some, None, Result, Ok, Err, ◌⊎◌, inl, inr, refl, sym, ap, ◌∙◌, subst, arith, append_assoc, append-nil}
use Rattle.gc0_base.specs.declared.place.Place.{Place}
use Rattle.gc0_base.specs.declared.word.Word.{Word}
use Rattle.built_text.specs.declared.token.Token.{Token}
use Rattle.built_text.specs.declared.token.Kind.{Kind}
use Rattle.built_text.specs.declared.token.Kind.TheVariants.{Name, Number, End}
use Rattle.built_text.specs.declared.token.Fixed.{Fixed}
use Rattle.built_text.specs.declared.token.Fixed.TheVariants as mark
use Rattle.built_text.specs.declared.tree.Shape.TheVariants as shape
use Rattle.built_text.specs.Tree.{ExprTree, number, value, return_stmt, StmtTrees, no_stmts, stmt, ProgramTree}
use Rattle.built_text.specs.Grammar.{token, fixed, operator_mark, clause_word, Written, digits, truth_word, word, result_word, before, between, round, spell, spot, Chain, no_link, link, spell_chain, Args, no_args, some_args, spell_args, CallText, spell_call, named_at, RightText, plain, invoked, spell_right, FormulaText, precise, gradual, spell_formula, NoteText, spell_note, spell_notes, Line, declares, assigns, calls, prints, returns, ifs, whiles, asserts, Otherwise, no_else, elses, Lines, no_lines, line, spell_line, spell_otherwise, spell_lines, typed_at, MoreParameters, no_parameter, parameter, spell_more, Parameters, no_parameters, parameters, spell_parameters, ClauseText, spell_contract, FunctionText, spell_function, spell_functions, IsProgram}
use Rattle.built_text.specs.Plan.{Plan, await, named, typed, peek, operand, ops, chain, right_side, notes, contract, lines, more_parameters, functions, finished, step, nowhere, finish, go, run, start}
use Rattle.built_text.proofs.Takes.{no_tail, Takes, TakesNext}
use Rattle.built_text.specs.Tokens.{EndsLast}
use Rattle.built_text.specs.Reads.{Begins, FirstFault, OneTree, OneFault, EachTokens}
use Rattle.built_text.proofs.Backs.{backward}
use Rattle.built_text.proofs.Enters.{complete}

-- ---- some text of each plan
pub record Some_text (plan : Plan) : Type 0 where
  pub ts : List Token
  pub p : ProgramTree
  pub takes : Takes plan ts p

zero_word : Word
zero_word = record { 0 = 0 }

abbrev nought : ExprTree
nought = number (spot nowhere) (record { 0 = 0 })

abbrev nought_token : Token
nought_token = token (Number (record { 0 = 0 })) nowhere

abbrev last_return : StmtTrees
last_return = stmt (return_stmt nowhere nought) no_stmts

closes_now : (any : Bool) → cond any true true ≡ true
closes_now true = refl
closes_now false = refl

brace_text : (room : ℕ) (any : Bool) (now : Bool) (next : StmtTrees → Place → Plan) → Some_text (next no_stmts nowhere) → Some_text (next last_return nowhere) → Some_text (lines room any now next)
brace_text room any true next r s = record {
  ts = fixed mark.CloseBrace nowhere ∷ r.ts;
  p = r.p;
  takes = record { ls = no_lines; e = nowhere; rest = r.ts; good = tt; closes = refl; split = refl; after = r.takes };
}
brace_text room any false next r s = record {
  ts = fixed mark.Return nowhere ∷ nought_token ∷ fixed mark.Semicolon nowhere ∷ fixed mark.CloseBrace nowhere ∷ s.ts;
  p = s.p;
  takes = record { ls = line (returns nowhere (digits nowhere (record { 0 = 0 })) nowhere) no_lines; e = nowhere; rest = s.ts; good = (record { good = tt; short = omega arith }, tt); closes = closes_now any; split = refl; after = s.takes };
}

pub some_text : (plan : Plan) → Some_text plan
some_text (await f next) = let r = some_text (next nowhere) in record { ts = fixed f nowhere ∷ r.ts; p = r.p; takes = record { at = nowhere; rest = r.ts; split = refl; after = r.takes } }
some_text (named next) = let r = some_text (next (named_at nowhere [])) in record { ts = token (Name []) nowhere ∷ r.ts; p = r.p; takes = record { at = nowhere; name = []; rest = r.ts; split = refl; after = r.takes } }
some_text (typed next) = let r = some_text (next (typed_at nowhere shape.Int)) in record { ts = fixed mark.Int nowhere ∷ r.ts; p = r.p; takes = record { at = nowhere; shape = shape.Int; rest = r.ts; split = refl; after = r.takes } }
some_text (peek f these others) = let r = some_text others in record { ts = r.ts; p = r.p; takes = inr r.takes }
some_text (operand f room left next) = let r = some_text (next nought left) in record { ts = nought_token ∷ r.ts; p = r.p; takes = record { w = digits nowhere (record { 0 = 0 }); rest = r.ts; spare = left; good = tt; flat = refl; count = omega arith; split = refl; after = r.takes } }
some_text (ops k f room left e next) = let r = some_text (next e left) in record { ts = r.ts; p = r.p; takes = record { tl = no_tail; rest = r.ts; spare = left; good = tt; count = omega arith; split = refl; after = r.takes } }
some_text (chain s f room next) = let r = some_text (next []) in record { ts = r.ts; p = r.p; takes = record { xs = no_link; rest = r.ts; good = tt; split = refl; after = r.takes } }
some_text (right_side room next) = let r = some_text (next (value nought)) in record { ts = nought_token ∷ r.ts; p = r.p; takes = record { r = plain (digits nowhere (record { 0 = 0 })); rest = r.ts; good = record { good = tt; short = omega arith }; split = refl; after = r.takes } }
some_text (notes room next) = let r = some_text (next []) in record { ts = r.ts; p = r.p; takes = record { ns = []; rest = r.ts; good = tt; split = refl; after = r.takes } }
some_text (contract next) = let r = some_text (next []) in record { ts = r.ts; p = r.p; takes = record { cs = []; rest = r.ts; good = tt; split = refl; after = r.takes } }
some_text (lines room any now next) = brace_text room any now next (some_text (next no_stmts nowhere)) (some_text (next last_return nowhere))
some_text (more_parameters next) = let r = some_text (next []) in record { ts = fixed mark.Close nowhere ∷ r.ts; p = r.p; takes = record { ps = no_parameter; b = nowhere; rest = r.ts; split = refl; after = r.takes } }
some_text (functions next) = let r = some_text (next []) in record { ts = token End nowhere ∷ r.ts; p = r.p; takes = record { fs = []; last = nowhere; rest = r.ts; good = tt; split = refl; after = r.takes } }
some_text (finished q) = record { ts = []; p = q; takes = (refl, refl) }

-- ---- a run that ends well took a text of the plan
ok_same : (p q : ProgramTree) → ◌≡◌ {A = Result ProgramTree Place} (Ok p) (Ok q) → p ≡ q
ok_same p q e = cc

err_ok : (at : Place) (p : ProgramTree) → ◌≡◌ {A = Result ProgramTree Place} (Err at) (Ok p) → ⊥
err_ok at p e = cc

err_same : (a b : Place) → ◌≡◌ {A = Result ProgramTree Place} (Err a) (Err b) → a ≡ b
err_same a b e = cc

finish_back : (plan : Plan) (p : ProgramTree) → finish plan ≡ Ok p → Takes plan [] p
finish_back (await f next) p e = absurd (err_ok nowhere p e)
finish_back (named next) p e = absurd (err_ok nowhere p e)
finish_back (typed next) p e = absurd (err_ok nowhere p e)
finish_back (peek f these others) p e = inr (finish_back others p e)
finish_back (operand f room left next) p e = absurd (err_ok nowhere p e)
finish_back (ops r f room left x next) p e = record { tl = no_tail; rest = []; spare = left; good = tt; count = omega arith; split = refl; after = finish_back (next x left) p e }
finish_back (chain s f room next) p e = record { xs = no_link; rest = []; good = tt; split = refl; after = finish_back (next []) p e }
finish_back (right_side room next) p e = absurd (err_ok nowhere p e)
finish_back (notes room next) p e = record { ns = []; rest = []; good = tt; split = refl; after = finish_back (next []) p e }
finish_back (contract next) p e = record { cs = []; rest = []; good = tt; split = refl; after = finish_back (next []) p e }
finish_back (lines room any now next) p e = absurd (err_ok nowhere p e)
finish_back (more_parameters next) p e = absurd (err_ok nowhere p e)
finish_back (functions next) p e = absurd (err_ok nowhere p e)
finish_back (finished q) p e = (refl, ok_same q p e)

sound : (plan : Plan) (ts : List Token) (p : ProgramTree) → run plan ts ≡ Ok p → Takes plan ts p
sound plan [] p e = finish_back plan p e
sound plan (t ∷ ts) p e =
    elim (step plan t) as (λ s. step plan t ≡ s → go s (λ q. run q ts) t.place ≡ Ok p → Takes plan (t ∷ ts) p) [
      | None ↦ λ i y. absurd (err_ok t.place p y)
      | Some q ↦ λ i y. backward plan t ts p (subst (λ s. TakesNext s ts p) (sym i) (sound q ts p y))
    ] refl e

-- ---- a run that ends badly stopped at a dead token, or came to the end too soon
record Fault (plan : Plan) (ts : List Token) (at : Place) : Type 0 where
  before : List Token
  bad : Token
  after : List Token
  split : ts ≡ before ++ bad ∷ after
  place : bad.place ≡ at
  more : List Token
  p : ProgramTree
  begins : Takes plan (before ++ more) p
  dead : (rest : List Token) → run plan (before ++ bad ∷ rest) ≡ Err at

record Short (plan : Plan) (ts : List Token) : Type 0 where
  more : List Token
  p : ProgramTree
  takes : Takes plan (ts ++ more) p

means : (plan : Plan) (ts : List Token) (at : Place) → run plan ts ≡ Err at → Fault plan ts at ⊎ Short plan ts
means plan [] at e = let r = some_text plan in inr (record { more = r.ts; p = r.p; takes = r.takes })
means plan (t ∷ ts) at e =
    elim (step plan t) as (λ s. step plan t ≡ s → go s (λ q. run q ts) t.place ≡ Err at → Fault plan (t ∷ ts) at ⊎ Short plan (t ∷ ts)) [
      | None ↦ λ i y. let r = some_text plan in inl (record {
        before = [];
        bad = t;
        after = ts;
        split = refl;
        place = err_same t.place at y;
        more = r.ts;
        p = r.p;
        begins = r.takes;
        dead = λ rest. ap (λ s. go s (λ q. run q rest) t.place) i ∙ y;
      })
      | Some q ↦ λ i y. further q i (means q ts at y)
    ] refl e
  where
    further : (q : Plan) → step plan t ≡ Some q → Fault q ts at ⊎ Short q ts → Fault plan (t ∷ ts) at ⊎ Short plan (t ∷ ts)
    further q i (inl f) = inl (record {
      before = t ∷ f.before;
      bad = f.bad;
      after = f.after;
      split = ap (λ l. t ∷ l) f.split;
      place = f.place;
      more = f.more;
      p = f.p;
      begins = backward plan t (f.before ++ f.more) f.p (subst (λ s. TakesNext s (f.before ++ f.more) f.p) (sym i) f.begins);
      dead = λ rest. ap (λ s. go s (λ r. run r (f.before ++ f.bad ∷ rest)) t.place) i ∙ f.dead rest;
    })
    further q i (inr s) = inr (record { more = s.more; p = s.p; takes = backward plan t (ts ++ s.more) s.p (subst (λ z. TakesNext z (ts ++ s.more) s.p) (sym i) s.takes) })

-- ---- the end stands last in a program
abbrev behind_kind : Kind → List Token → List Token → List Token
behind_kind End ts more = ts
behind_kind k ts more = more

-- what stands behind the first end
abbrev behind_end : List Token → List Token
behind_end [] = []
behind_end (t ∷ ts) = behind_kind t.kind ts (behind_end ts)

abbrev Passed : (List Token → List Token) → Type 0
Passed f = (rest : List Token) → behind_end (f rest) ≡ behind_end rest

pass_expr : (w : Written) → Passed (spell w)
pass_expr (digits at n) rest = refl
pass_expr (truth_word at b) rest = refl
pass_expr (word at n) rest = refl
pass_expr (result_word at) rest = refl
pass_expr (before at o x) rest = pass_expr x rest
pass_expr (between x at o y) rest = pass_expr x (fixed (operator_mark o) at ∷ spell y rest) ∙ pass_expr y rest
pass_expr (round a x b) rest = pass_expr x (fixed mark.Close b ∷ rest)

pass_chain : (s : Fixed) (xs : Chain) → Passed (spell_chain s xs)
pass_chain s no_link rest = refl
pass_chain s (link at x xs) rest = pass_expr x (spell_chain s xs rest) ∙ pass_chain s xs rest

pass_args : (xs : Args) → Passed (spell_args xs)
pass_args no_args rest = refl
pass_args (some_args x xs) rest = pass_expr x (spell_chain mark.Comma xs rest) ∙ pass_chain mark.Comma xs rest

pass_call : (c : CallText) → Passed (spell_call c)
pass_call c rest = pass_args c.args (fixed mark.Close c.b ∷ rest)

pass_right : (r : RightText) → Passed (spell_right r)
pass_right (plain x) rest = pass_expr x rest
pass_right (invoked c) rest = pass_call c rest

pass_formula : (p : FormulaText) → Passed (spell_formula p)
pass_formula (precise x xs) rest = pass_expr x (spell_chain mark.And xs rest) ∙ pass_chain mark.And xs rest
pass_formula (gradual at xs) rest = pass_chain mark.And xs rest

pass_note : (w : Fixed) (n : NoteText) → Passed (spell_note w n)
pass_note w n rest = pass_formula n.formula (fixed mark.Semicolon n.c ∷ fixed mark.LineEnd n.l ∷ rest)

pass_notes : (ns : List NoteText) → Passed (spell_notes ns)
pass_notes [] rest = refl
pass_notes (n ∷ ns) rest = pass_note mark.LoopInvariant n (spell_notes ns rest) ∙ pass_notes ns rest

mutual
  pass_line : (l : Line) → Passed (spell_line l)
  pass_line (declares t s n name q r c) rest = pass_right r (fixed mark.Semicolon c ∷ rest)
  pass_line (assigns n name q r c) rest = pass_right r (fixed mark.Semicolon c ∷ rest)
  pass_line (calls k c) rest = pass_call k (fixed mark.Semicolon c ∷ rest)
  pass_line (prints p s a x b c) rest = pass_expr x (fixed mark.Close b ∷ fixed mark.Semicolon c ∷ rest)
  pass_line (returns r x c) rest = pass_expr x (fixed mark.Semicolon c ∷ rest)
  pass_line (ifs i a x b o ls e m) rest = pass_expr x (fixed mark.Close b ∷ fixed mark.OpenBrace o ∷ spell_lines ls (fixed mark.CloseBrace e ∷ spell_otherwise m rest)) ∙ pass_lines ls (fixed mark.CloseBrace e ∷ spell_otherwise m rest) ∙ pass_otherwise m rest
  pass_line (whiles w a x b ns o ls e) rest = pass_expr x (fixed mark.Close b ∷ spell_notes ns (fixed mark.OpenBrace o ∷ spell_lines ls (fixed mark.CloseBrace e ∷ rest))) ∙ pass_notes ns (fixed mark.OpenBrace o ∷ spell_lines ls (fixed mark.CloseBrace e ∷ rest)) ∙ pass_lines ls (fixed mark.CloseBrace e ∷ rest)
  pass_line (asserts n) rest = pass_note mark.Assert n rest

  pass_otherwise : (m : Otherwise) → Passed (spell_otherwise m)
  pass_otherwise no_else rest = refl
  pass_otherwise (elses s o ls e) rest = pass_lines ls (fixed mark.CloseBrace e ∷ rest)

  pass_lines : (ls : Lines) → Passed (spell_lines ls)
  pass_lines no_lines rest = refl
  pass_lines (line l ls) rest = pass_line l (spell_lines ls rest) ∙ pass_lines ls rest

pass_more : (ps : MoreParameters) → Passed (spell_more ps)
pass_more no_parameter rest = refl
pass_more (parameter at q ps) rest = pass_more ps rest

pass_parameters : (ps : Parameters) → Passed (spell_parameters ps)
pass_parameters no_parameters rest = refl
pass_parameters (parameters q ps) rest = pass_more ps rest

pass_contract : (cs : List ClauseText) → Passed (spell_contract cs)
pass_contract [] rest = refl
pass_contract (c ∷ cs) rest = pass_note (clause_word c.kind) c.note (spell_contract cs rest) ∙ pass_contract cs rest

pass_function : (f : FunctionText) → Passed (spell_function f)
pass_function f rest =
    let inside = spell_lines f.lines (fixed mark.CloseBrace f.e ∷ rest) in
    pass_parameters f.parameters (fixed mark.Close f.b ∷ spell_contract f.contract (fixed mark.OpenBrace f.o ∷ inside))
    ∙ pass_contract f.contract (fixed mark.OpenBrace f.o ∷ inside)
    ∙ pass_lines f.lines (fixed mark.CloseBrace f.e ∷ rest)

behind_functions : (fs : List FunctionText) (last : Place) (rest : List Token) → behind_end (spell_functions fs (token End last ∷ rest)) ≡ rest
behind_functions [] last rest = refl
behind_functions (f ∷ fs) last rest = pass_function f (spell_functions fs (token End last ∷ rest)) ∙ behind_functions fs last rest

behind_program : (ts : List Token) (p : ProgramTree) → IsProgram ts p → behind_end ts ≡ []
behind_program ts p x = ap behind_end x.tokens ∙ behind_functions x.functions x.last []

some_no_end : (front : List Token) (e : Token) (more : List Token) → (front ++ e ∷ []) ++ more ≡ [] → ⊥
some_no_end [] e more h = cc
some_no_end (t ∷ front) e more h = cc

-- nothing stands behind an end with which a program's tokens begin
nothing_more : (front : List Token) (e : Token) (more : List Token) → e.kind ≡ End → behind_end ((front ++ e ∷ []) ++ more) ≡ [] → more ≡ []
nothing_more [] e more i h = sym (ap (λ k. behind_kind k more (behind_end more)) i) ∙ h
nothing_more (t ∷ front) e more i h = by_kind t.kind h (λ g. nothing_more front e more i g)
  where
    by_kind : (k : Kind) → behind_kind k ((front ++ e ∷ []) ++ more) (behind_end ((front ++ e ∷ []) ++ more)) ≡ [] → (behind_end ((front ++ e ∷ []) ++ more) ≡ [] → more ≡ []) → more ≡ []
    by_kind End g ih = absurd (some_no_end front e more g)
    by_kind k g ih = ih g

head_same : (s t : Token) (x y : List Token) → ◌≡◌ {A = List Token} (s ∷ x) (t ∷ y) → s ≡ t
head_same s t x y e = cc

tail_same : (s t : Token) (x y : List Token) → ◌≡◌ {A = List Token} (s ∷ x) (t ∷ y) → x ≡ y
tail_same s t x y e = cc

-- ---- the answers
to_program : (ts : List Token) (p : ProgramTree) → Takes start ts p → IsProgram ts p
to_program ts p x = record { functions = x.fs; last = x.last; good = x.good; tokens = x.split ∙ ap (λ l. spell_functions x.fs (token End x.last ∷ l)) x.after.0; tree = sym x.after.1 }

pub reads : (ts : List Token) (p : ProgramTree) → run start ts ≡ Ok p → IsProgram ts p
reads ts p e = to_program ts p (sound start ts p e)

never_short : (ts : List Token) (at : Place) → EndsLast ts → run start ts ≡ Err at → Short start ts → ⊥
never_short ts at x e s =
    let program = to_program (ts ++ s.more) s.p s.takes in
    let same = ap (λ l. l ++ s.more) x.split in
    let none : s.more ≡ [] = nothing_more x.front (token End x.last) s.more refl (sym (ap behind_end same) ∙ behind_program (ts ++ s.more) s.p program) in
    let whole : IsProgram ts s.p = subst (λ l. IsProgram l s.p) (append-nil ts) (subst (λ l. IsProgram (ts ++ l) s.p) none program) in
    err_ok at s.p (sym e ∙ complete ts s.p whole)

first_fault : (ts : List Token) (at : Place) → Fault start ts at → FirstFault ts at
first_fault ts at f = record {
  before = f.before;
  bad = f.bad;
  after = f.after;
  split = f.split;
  begins = (f.more, f.p, to_program (f.before ++ f.more) f.p f.begins);
  none = λ b. err_ok at b.1 (sym (f.dead b.0) ∙ ap (run start) (sym (append_assoc f.before (f.bad ∷ []) b.0)) ∙ complete ((f.before ++ f.bad ∷ []) ++ b.0) b.1 b.2);
  at = f.place;
}

pub faults : (ts : List Token) (at : Place) → EndsLast ts → run start ts ≡ Err at → FirstFault ts at
faults ts at x e = by (means start ts at e)
  where
    by : Fault start ts at ⊎ Short start ts → FirstFault ts at
    by (inl f) = first_fault ts at f
    by (inr s) = absurd (never_short ts at x e s)

-- tokens have at most one tree
pub one : OneTree
one ts p q x y = ok_same p q (sym (complete ts p x) ∙ complete ts q y)

-- ---- one fault
-- a text begins with each of its fronts
begins_front : (done : List Token) (bad : Token) (after more : List Token) (p : ProgramTree) → IsProgram ((done ++ bad ∷ after) ++ more) p → Begins (done ++ bad ∷ [])
begins_front done bad after more p x =
    (after ++ more, p, subst (λ l. IsProgram l p) (append_assoc done (bad ∷ after) more ∙ sym (append_assoc done (bad ∷ []) (after ++ more))) x)

no_tree : (ts : List Token) (p : ProgramTree) (a : Place) → IsProgram ts p → FirstFault ts a → ⊥
no_tree ts p a x f = f.none (begins_front f.before f.bad f.after [] p (subst (λ l. IsProgram l p) (f.split ∙ sym (append-nil (f.before ++ f.bad ∷ f.after))) x))

-- of two fronts of one list, each with the token behind it, one is longer or both are alike
abbrev Front : List Token → Token → List Token → Type 0
Front done bad other = (more : List Token) × (other ≡ done ++ bad ∷ more)

fronts : (b c : List Token) (s t : Token) (x y : List Token) → b ++ s ∷ x ≡ c ++ t ∷ y → Front b s c ⊎ Front c t b ⊎ (s ≡ t)
fronts [] [] s t x y e = inr (inr (head_same s t x y e))
fronts [] (d ∷ c) s t x y e = inl (c, sym (ap (λ z. z ∷ c) (head_same s d x (c ++ t ∷ y) e)))
fronts (d ∷ b) [] s t x y e = inr (inl (b, ap (λ z. z ∷ b) (head_same d t (b ++ s ∷ x) y e)))
fronts (d ∷ b) (g ∷ c) s t x y e = longer (fronts b c s t x y (tail_same d g (b ++ s ∷ x) (c ++ t ∷ y) e))
  where
    longer : Front b s c ⊎ Front c t b ⊎ (s ≡ t) → Front (d ∷ b) s (g ∷ c) ⊎ Front (g ∷ c) t (d ∷ b) ⊎ (s ≡ t)
    longer (inl f) = inl (f.0, ap (λ l. g ∷ l) f.1 ∙ ap (λ z. z ∷ b ++ s ∷ f.0) (sym (head_same d g (b ++ s ∷ x) (c ++ t ∷ y) e)))
    longer (inr (inl f)) = inr (inl (f.0, ap (λ l. d ∷ l) f.1 ∙ ap (λ z. z ∷ c ++ t ∷ f.0) (head_same d g (b ++ s ∷ x) (c ++ t ∷ y) e)))
    longer (inr (inr i)) = inr (inr i)

one_place : (ts : List Token) (a b : Place) → FirstFault ts a → FirstFault ts b → a ≡ b
one_place ts a b f g = by (fronts f.before g.before f.bad g.bad f.after g.after (sym f.split ∙ g.split))
  where
    dead_front : (done : List Token) (bad : Token) (other : List Token) → (Begins (done ++ bad ∷ []) → ⊥) → Begins other → Front done bad other → ⊥
    dead_front done bad other none x y = none (begins_front done bad y.0 x.0 x.1 (subst (λ l. IsProgram (l ++ x.0) x.1) y.1 x.2))

    by : Front f.before f.bad g.before ⊎ Front g.before g.bad f.before ⊎ (f.bad ≡ g.bad) → a ≡ b
    by (inl y) = absurd (dead_front f.before f.bad g.before f.none g.begins y)
    by (inr (inl y)) = absurd (dead_front g.before g.bad f.before g.none f.begins y)
    by (inr (inr i)) = sym f.at ∙ ap (λ t. t.place) i ∙ g.at

pub one_of_faults : OneFault
one_of_faults = (one_place, no_tree)

pub each : EachTokens
each ts x = by (run start ts) refl
  where
    by : (r : Result ProgramTree Place) → run start ts ≡ r → ((p : ProgramTree) × IsProgram ts p) ⊎ ((at : Place) × FirstFault ts at)
    by (Ok p) e = inl (p, reads ts p e)
    by (Err at) e = inr (at, faults ts at x e)
