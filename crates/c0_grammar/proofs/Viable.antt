-- What has been taken can be completed: each plan takes some text, and where no token so far was sure
-- to need more than so many nodes, one with no more than these.
use Rattle.std.proofs.Common.{◌≡◌, ℕ, zero, suc, ◌+◌, ◌≤◌, Bool, true, false, ◌||◌, List, [], ◌∷◌, length, Some, None, inl, inr, refl, ap, ◌∙◌, arith}
use Rattle.std.proofs.Common.{◌<◌}
use Rattle.std.specs.Str.{bytes_eq}
use Rattle.std.proofs.lemmas.Slice.Eq.{bytes_eq-Decides}
use Rattle.std.proofs.lemmas.Bool.{false_from_ne_true}
use Rattle.gc0_base.specs.declared.place.Place.{Place}
use Rattle.gc0_base.specs.declared.word.Word.{Word}
use Rattle.c0_lex.specs.declared.token.Keyword.TheVariants as key
use Rattle.c0_lex.specs.declared.token.Symbol.TheVariants as mark
use Rattle.parsed_tree.specs.declared.expressions.Named.{Named}
use Rattle.parsed_tree.specs.declared.expressions.Text.{Text}
use Rattle.parsed_tree.specs.declared.items.Library.{Library}
use Rattle.parsed_tree.specs.declared.items.Library.TheVariants as library
use Rattle.parsed_tree.specs.Tree.{ExprTree, number, ExprTrees, no_exprs, InvariantsTree, SimpleTree, plain, StmtTree, simple_stmt, StmtTrees, no_stmts, ItemTree, ProgramTree}
use Rattle.c0_grammar.specs.Tokens.{Fixed, word_mark, fixed, Token, token, keyword, symbol, name_token, text_token, number_token, end_token, is_among}
use Rattle.c0_grammar.specs.Written.{spot, named_at, text_at, digits, no_more}
use Rattle.c0_grammar.specs.Texts.{evaluates, simple_line, no_lines, library_name}
use Rattle.c0_grammar.specs.Plan.{Loop, invariant_loop, note_loop, Part, Plan, await, peek, name, alias, text, peek_text, library_name_of, operand, arrows, acc_arrows, ops, quest, more_args, simple_end, simple, body, loop_body, lines, many, items, finished, Step, nowhere}
use Rattle.c0_grammar.proofs.Takes.{no_tail, no_link, Takes}

abbrev pub loop_up : Loop → ℕ
loop_up (invariant_loop names up) = up
loop_up (note_loop names up) = up
loop_up l = 0

-- where an `else` is looked for, the text can go on with it
abbrev Within_else : Fixed → ℕ → ℕ → Type 0
Within_else (word_mark key.Else) reach L = reach ≤ L
Within_else f reach L = Unit {0}

-- what the plan has taken needs no more than L nodes on a path
abbrev pub Shallow : ℕ → Plan → Type 0
Shallow L (await reach f next) = (reach ≤ L) × ((at : Place) → Shallow L (next at))
Shallow L (peek reach f these others) = (reach ≤ L → (at : Place) → Shallow L (these at)) × Shallow L others × Within_else f reach L
Shallow L (name names next) = (x : Named) → Shallow L (next x)
Shallow L (alias reach names these others) = (reach ≤ L → (at : Place) (n : List ℕ) → Shallow L (these at n)) × Shallow L others
Shallow L (text next) = (t : Text) → Shallow L (next t)
Shallow L (peek_text these others) = ((t : Text) → Shallow L (these t)) × Shallow L others
Shallow L (library_name_of next) = (l : Library) → Shallow L (next l)
Shallow L (operand names m up next) = (up ≤ L) × ((e : ExprTree) (d : ℕ) → up + d ≤ L → Shallow L (next e d))
Shallow L (arrows up e d next) = (up + d ≤ L) × ((e' : ExprTree) (d' : ℕ) → up + d' ≤ L → Shallow L (next e' d'))
Shallow L (acc_arrows up x d p f next) = (up + d + 2 ≤ L) × ((y : ExprTree) (c : ℕ) (q : Place) (g : Named) → up + c + 2 ≤ L → Shallow L (next y c q g))
Shallow L (ops r names m up e d next) = (up + d ≤ L) × ((e' : ExprTree) (d' : ℕ) → up + d' ≤ L → Shallow L (next e' d'))
Shallow L (quest names m up e d next) = (up + d ≤ L) × ((e' : ExprTree) (d' : ℕ) → up + d' ≤ L → Shallow L (next e' d'))
Shallow L (more_args names m up next) = (up ≤ L) × ((es : ExprTrees) (d : ℕ) → up + d ≤ L → Shallow L (next es d))
Shallow L (simple_end names up e d next) = (up + d ≤ L) × ((s : SimpleTree) (d' : ℕ) → up + d' ≤ L → Shallow L (next s d'))
Shallow L (simple names may up next) = (up ≤ L) × ((s : SimpleTree) (d : ℕ) → up + d ≤ L → Shallow L (next s d))
Shallow L (body names up next) = (up + 1 ≤ L) × ((s : StmtTree) (d : ℕ) → up + d ≤ L → Shallow L (next s d))
Shallow L (loop_body names up next) = (up + 1 ≤ L) × ((is : List InvariantsTree) (di : ℕ) (s : StmtTree) (ds : ℕ) → up + di ≤ L → up + ds ≤ L → Shallow L (next is di s ds))
Shallow L (lines names up next) = (up ≤ L) × ((ss : StmtTrees) (d : ℕ) (e : Place) → up + d ≤ L → Shallow L (next ss d e))
Shallow L (many l next) = (loop_up l ≤ L) × ((xs : List (Part l)) (d : ℕ) → loop_up l + d ≤ L → Shallow L (next xs d))
Shallow L (items names next) = (is : List ItemTree) (d : ℕ) → d ≤ L → Shallow L (next is d)
Shallow L (finished p d) = d ≤ L

abbrev pub ShallowNext : ℕ → Step → Type 0
ShallowNext L None = Unit {0}
ShallowNext L (Some x) = x.0 ≤ L → Shallow L x.1

-- ---- some text of a plan
pub record SomeText (L : ℕ) (plan : Plan) : Type 0 where
  pub ts : List Token
  pub p : ProgramTree
  pub n : ℕ
  pub takes : Takes plan ts p n
  pub within : n ≤ L

abbrev zero_word : Word
zero_word = record { 0 = 0 }

abbrev nought : ExprTree
nought = number (spot nowhere) zero_word

abbrev nought_token : Token
nought_token = number_token zero_word nowhere

abbrev nought_line : StmtTree
nought_line = simple_stmt (plain nought)

-- a name that is longer than all of these
abbrev size_of : List (List ℕ) → ℕ
size_of [] = 0
size_of (n ∷ ns) = length n + size_of ns

abbrev zeros : ℕ → List ℕ
zeros zero = []
zeros (suc n) = 0 ∷ zeros n

length_zeros : (n : ℕ) → length (zeros n) ≡ n
length_zeros zero = refl
length_zeros (suc n) = ap suc (length_zeros n)

not_same : (a b : List ℕ) → length a < length b → bytes_eq a b ≡ false
not_same a b h = false_from_ne_true (bytes_eq a b) (λ e. too_long (ap length ((bytes_eq-Decides a b).0 e)))
  where
    too_long : length a ≡ length b → ⊥
    too_long i = omega (arith, h, i)

longer_is_free : (names : List (List ℕ)) (fresh : List ℕ) → size_of names < length fresh → is_among names fresh ≡ false
longer_is_free [] fresh h = refl
longer_is_free (n ∷ ns) fresh h =
    ap (λ b. b || is_among ns fresh) (not_same n fresh (omega (arith, h))) ∙ longer_is_free ns fresh (omega (arith, h))

abbrev fresh : List (List ℕ) → List ℕ
fresh names = zeros (suc (size_of names))

fresh_is_free : (names : List (List ℕ)) → is_among names (fresh names) ≡ false
fresh_is_free names =
    let e = length_zeros (suc (size_of names)) in
    longer_is_free names (fresh names) (omega (arith, e))

-- at an `else` the text goes on with it
peek_text_of : (L reach : ℕ) (f : Fixed) (these : Place → Plan) (others : Plan) → Within_else f reach L → (reach ≤ L → SomeText L (these nowhere)) → SomeText L others → SomeText L (peek reach f these others)
peek_text_of L reach (word_mark key.Else) these others w r s = let t = r w in record { ts = keyword key.Else nowhere ∷ t.ts; p = t.p; n = t.n; takes = inl (record { at = nowhere; rest = t.ts; split = refl; after = t.takes }); within = t.within }
peek_text_of L reach f these others w r s = record { ts = s.ts; p = s.p; n = s.n; takes = inr (tt, s.takes); within = s.within }

may_evaluate : (may : Bool) → (may || true) ≡ true
may_evaluate true = refl
may_evaluate false = refl

pub least : (L : ℕ) (plan : Plan) → Shallow L plan → SomeText L plan
least L (await reach f next) h = let r = least L (next nowhere) (h.1 nowhere) in record { ts = token (fixed f) nowhere ∷ r.ts; p = r.p; n = r.n; takes = record { at = nowhere; rest = r.ts; split = refl; after = r.takes }; within = r.within }
least L (peek reach f these others) (a, b, c) = peek_text_of L reach f these others c (λ w. least L (these nowhere) (a w nowhere)) (least L others b)
least L (name names next) h = let r = least L (next (named_at nowhere (fresh names))) (h (named_at nowhere (fresh names))) in record { ts = name_token (fresh names) nowhere ∷ r.ts; p = r.p; n = r.n; takes = record { at = nowhere; name = fresh names; rest = r.ts; free = fresh_is_free names; split = refl; after = r.takes }; within = r.within }
least L (alias reach names these others) h = let r = least L others h.1 in record { ts = r.ts; p = r.p; n = r.n; takes = inr r.takes; within = r.within }
least L (text next) h = let r = least L (next (text_at nowhere [])) (h (text_at nowhere [])) in record { ts = text_token [] nowhere ∷ r.ts; p = r.p; n = r.n; takes = record { at = nowhere; bytes = []; rest = r.ts; split = refl; after = r.takes }; within = r.within }
least L (peek_text these others) h = let r = least L others h.1 in record { ts = r.ts; p = r.p; n = r.n; takes = inr r.takes; within = r.within }
least L (library_name_of next) h = let r = least L (next library.Conio) (h library.Conio) in record { ts = name_token (library_name library.Conio) nowhere ∷ r.ts; p = r.p; n = r.n; takes = record { at = nowhere; library = library.Conio; rest = r.ts; split = refl; after = r.takes }; within = r.within }
least L (operand names m up next) h = let r = least L (next nought 0) (h.1 nought 0 (omega (arith, h.0))) in record { ts = nought_token ∷ r.ts; p = r.p; n = r.n; takes = record { w = digits nowhere zero_word; rest = r.ts; good = tt; flat = refl; split = refl; after = r.takes }; within = r.within }
least L (arrows up e d next) h = let r = least L (next e d) (h.1 e d h.0) in record { ts = r.ts; p = r.p; n = r.n; takes = record { ls = no_link; rest = r.ts; split = refl; after = r.takes }; within = r.within }
least L (acc_arrows up x d p f next) h = let r = least L (next x d p f) (h.1 x d p f h.0) in record { ts = symbol mark.CloseParen nowhere ∷ r.ts; p = r.p; n = r.n; takes = record { ls = no_link; b = nowhere; rest = r.ts; split = refl; after = r.takes }; within = r.within }
least L (ops k names m up e d next) h = let r = least L (next e d) (h.1 e d h.0) in record { ts = r.ts; p = r.p; n = r.n; takes = record { tl = no_tail; rest = r.ts; good = tt; split = refl; after = r.takes }; within = r.within }
least L (quest names m up e d next) h = let r = least L (next e d) (h.1 e d h.0) in record { ts = r.ts; p = r.p; n = r.n; takes = inl r.takes; within = r.within }
least L (more_args names m up next) h = let r = least L (next no_exprs 0) (h.1 no_exprs 0 (omega (arith, h.0))) in record { ts = symbol mark.CloseParen nowhere ∷ r.ts; p = r.p; n = r.n; takes = record { xs = no_more; b = nowhere; rest = r.ts; good = tt; split = refl; after = r.takes }; within = r.within }
least L (simple_end names up e d next) h = let r = least L (next (plain e) d) (h.1 (plain e) d h.0) in record { ts = r.ts; p = r.p; n = r.n; takes = inl r.takes; within = r.within }
least L (simple names may up next) h = let r = least L (next (plain nought) 0) (h.1 (plain nought) 0 (omega (arith, h.0))) in record { ts = nought_token ∷ r.ts; p = r.p; n = r.n; takes = record { s = evaluates (digits nowhere zero_word); rest = r.ts; good = tt; allowed = may_evaluate may; split = refl; after = r.takes }; within = r.within }
least L (body names up next) h = let r = least L (next nought_line 1) (h.1 nought_line 1 h.0) in record { ts = nought_token ∷ symbol mark.Semicolon nowhere ∷ r.ts; p = r.p; n = r.n; takes = record { l = simple_line (evaluates (digits nowhere zero_word)) nowhere; rest = r.ts; good = tt; allowed = refl; quiet = λ e. cc; split = refl; after = r.takes }; within = r.within }
least L (loop_body names up next) h = let r = least L (next [] 0 nought_line 1) (h.1 [] 0 nought_line 1 (omega (arith, h.0)) h.0) in record { ts = nought_token ∷ symbol mark.Semicolon nowhere ∷ r.ts; p = r.p; n = r.n; takes = record { is = []; l = simple_line (evaluates (digits nowhere zero_word)) nowhere; rest = r.ts; invariants = tt; good = tt; body = refl; quiet = λ e. cc; split = refl; after = r.takes }; within = r.within }
least L (lines names up next) h = let r = least L (next no_stmts 0 nowhere) (h.1 no_stmts 0 nowhere (omega (arith, h.0))) in record { ts = symbol mark.CloseBrace nowhere ∷ r.ts; p = r.p; n = r.n; takes = record { ls = no_lines; e = nowhere; rest = r.ts; good = tt; split = refl; after = r.takes }; within = r.within }
least L (many l next) h = let r = least L (next [] 0) (h.1 [] 0 (omega (arith, h.0))) in record { ts = r.ts; p = r.p; n = r.n; takes = record { xs = []; rest = r.ts; good = tt; split = refl; after = r.takes }; within = r.within }
least L (items names next) h = let r = least L (next [] 0) (h [] 0 (omega arith)) in record { ts = end_token nowhere ∷ r.ts; p = r.p; n = r.n; takes = record { is = []; last = nowhere; rest = r.ts; good = tt; split = refl; after = r.takes }; within = r.within }
least L (finished q d) h = record { ts = []; p = q; n = d; takes = (refl, refl, refl); within = h }
