-- A jump is written before its target is known, and set when the instructions that it passes are there.
use Rattle.std.proofs.Common.{◌≡◌, ℕ, ◌+◌, List, [], ◌∷◌, ◌++◌, length, OnOk, Ok, Err, Result, refl, sym, ap, ◌∙◌, arith, append_assoc, length-append}
use Rattle.std.specs.Prelude.{slice_set}
use Rattle.std.proofs.Math.Seq.{set-append_seam}
use Rattle.gc0_base.specs.declared.place.Place.{Place}
use Rattle.gc0_tree.specs.Tree.{Tree, Stmt, if_at, Stmts, no_stmts, stmt_and}
use Rattle.stack_code.specs.declared.within.Within.{Within}
use Rattle.stack_code.specs.Instrs as instr
use Rattle.stack_code.specs.Instrs.{Instr}
use Rattle.stack_code.specs.Coding.{tree_code, if_code, if_else_code, turn_code, stmt_code, stmts_code}
use Rattle.stack_code.specs.Within.{program_of, function_of, places_of, else_written, back_written}

pub on_ok : {E : Type 0} {P Q : Type 0} (r : Result (Unit {0}) E) → (P → Q) → OnOk r P → OnOk r Q
on_ok (Err e) f h = tt
on_ok (Ok u) f h = f h

-- the code of a choice, with the code of its first side at each place
abbrev pub if_part : Within → ℕ → List Instr → (ℕ → List Instr) → Stmts → List Instr
if_part w from test A no_stmts = instr.step ∷ if_code (from + 1) test (A (from + 1 + length test + 1))
if_part w from test A (stmt_and b bs) =
    let a = A (from + 1 + length test + 1) in
    instr.step ∷ if_else_code (from + 1) test a (stmts_code (program_of w) (function_of w) (places_of w) (from + 1 + length test + 1 + length a + 1) (stmt_and b bs))

pub if_is : (w : Within) (from : ℕ) (place : Place) (c : Tree) (a : Stmt) (b : Stmts) →
    stmt_code (program_of w) (function_of w) (places_of w) from (if_at place c a b) ≡ if_part w from (tree_code (program_of w) (places_of w) c) (λ n. stmt_code (program_of w) (function_of w) (places_of w) n a) b
if_is w from place c a no_stmts = refl
if_is w from place c a (stmt_and b bs) = refl

pub if_written : (w : Within) (c0 test c3 c4 new : List Instr) (A : ℕ → List Instr) (b : Stmts) (hole : ℕ) →
    hole ≡ length (c0 ++ (instr.step ∷ test)) → c3 ≡ (c0 ++ (instr.step ∷ test)) ++ instr.jumpfalse 0 ∷ [] → c4 ≡ c3 ++ A (length c3) → new ≡ else_written w c4 hole b →
    new ≡ c0 ++ if_part w (length c0) test A b
if_written w c0 test c3 c4 new A no_stmts hole at e3 e4 last =
    let F : List Instr = c0 ++ (instr.step ∷ test) in
    let q : ℕ = length c0 + 1 + length test + 1 in
    let a : List Instr = A q in
    let lf : length F ≡ length c0 + 1 + length test = omega (arith, length-append c0 (instr.step ∷ test)) in
    let l3 : length c3 ≡ q = omega (arith, ap (λ l. length l) e3, length-append F (instr.jumpfalse 0 ∷ [])) in
    let flat : c4 ≡ F ++ (instr.jumpfalse 0 ∷ a) = e4 ∙ ap (λ n. c3 ++ A n) l3 ∙ ap (λ l. l ++ a) e3 ∙ append_assoc F (instr.jumpfalse 0 ∷ []) a in
    let l4 : length c4 ≡ q + length a = omega (arith, ap (λ l. length l) flat, length-append F (instr.jumpfalse 0 ∷ a)) in
    last
    ∙ ap (λ n. slice_set c4 hole (instr.jumpfalse n)) l4
    ∙ ap (λ n. slice_set c4 n (instr.jumpfalse (q + length a))) at
    ∙ ap (λ l. slice_set l (length F) (instr.jumpfalse (q + length a))) flat
    ∙ set-append_seam F (instr.jumpfalse 0) a (instr.jumpfalse (q + length a))
    ∙ append_assoc c0 (instr.step ∷ test) (instr.jumpfalse (q + length a) ∷ a)
if_written w c0 test c3 c4 new A (stmt_and d ds) hole at e3 e4 last =
    let F : List Instr = c0 ++ (instr.step ∷ test) in
    let q : ℕ = length c0 + 1 + length test + 1 in
    let a : List Instr = A q in
    let T : ℕ = q + length a + 1 in
    let j : Instr = instr.jump 0 in
    let Bf : ℕ → List Instr = λ n. stmts_code (program_of w) (function_of w) (places_of w) n (stmt_and d ds) in
    let B : List Instr = Bf T in
    let G : List Instr = F ++ (instr.jumpfalse T ∷ a) in
    let finish : List Instr → List Instr = λ opened. slice_set (opened ++ Bf (length opened)) (length c4) (instr.jump (length (opened ++ Bf (length opened)))) in
    let lf : length F ≡ length c0 + 1 + length test = omega (arith, length-append c0 (instr.step ∷ test)) in
    let l3 : length c3 ≡ q = omega (arith, ap (λ l. length l) e3, length-append F (instr.jumpfalse 0 ∷ [])) in
    let flat : c4 ≡ F ++ (instr.jumpfalse 0 ∷ a) = e4 ∙ ap (λ n. c3 ++ A n) l3 ∙ ap (λ l. l ++ a) e3 ∙ append_assoc F (instr.jumpfalse 0 ∷ []) a in
    let l4 : length c4 ≡ q + length a = omega (arith, ap (λ l. length l) flat, length-append F (instr.jumpfalse 0 ∷ a)) in
    let with_jump : c4 ++ j ∷ [] ≡ F ++ (instr.jumpfalse 0 ∷ (a ++ j ∷ [])) = ap (λ l. l ++ j ∷ []) flat ∙ append_assoc F (instr.jumpfalse 0 ∷ a) (j ∷ []) in
    let l5 : length (c4 ++ j ∷ []) ≡ T = omega (arith, length-append c4 (j ∷ [])) in
    let open_is : slice_set (c4 ++ j ∷ []) hole (instr.jumpfalse (length (c4 ++ j ∷ []))) ≡ G ++ j ∷ [] =
    ap (λ n. slice_set (c4 ++ j ∷ []) hole (instr.jumpfalse n)) l5
    ∙ ap (λ n. slice_set (c4 ++ j ∷ []) n (instr.jumpfalse T)) at
    ∙ ap (λ l. slice_set l (length F) (instr.jumpfalse T)) with_jump
    ∙ set-append_seam F (instr.jumpfalse 0) (a ++ j ∷ []) (instr.jumpfalse T)
    ∙ sym (append_assoc F (instr.jumpfalse T ∷ a) (j ∷ [])) in
    let lg : length G ≡ q + length a = omega (arith, length-append F (instr.jumpfalse T ∷ a)) in
    let lo : length (G ++ j ∷ []) ≡ T = omega (arith, length-append G (j ∷ [])) in
    let all : (G ++ j ∷ []) ++ Bf (length (G ++ j ∷ [])) ≡ G ++ (j ∷ B) = ap (λ n. (G ++ j ∷ []) ++ Bf n) lo ∙ append_assoc G (j ∷ []) B in
    let la : length ((G ++ j ∷ []) ++ Bf (length (G ++ j ∷ []))) ≡ T + length B = omega (arith, ap (λ l. length l) all, length-append G (j ∷ B)) in
    let at_jump : length c4 ≡ length G = omega arith in
    last
    ∙ ap finish open_is
    ∙ ap (λ n. slice_set ((G ++ j ∷ []) ++ Bf (length (G ++ j ∷ []))) (length c4) (instr.jump n)) la
    ∙ ap (λ l. slice_set l (length c4) (instr.jump (T + length B))) all
    ∙ ap (λ n. slice_set (G ++ (j ∷ B)) n (instr.jump (T + length B))) at_jump
    ∙ set-append_seam G j B (instr.jump (T + length B))
    ∙ append_assoc F (instr.jumpfalse T ∷ a) (instr.jump (T + length B) ∷ B)
    ∙ append_assoc c0 (instr.step ∷ test) (instr.jumpfalse T ∷ (a ++ (instr.jump (T + length B) ∷ B)))

pub while_written : (c0 test c1 c3 c4 new : List Instr) (entry again : Instr) (A : ℕ → List Instr) (from hole : ℕ) →
    c1 ≡ c0 ++ (instr.step ∷ entry ∷ []) → from ≡ length c1 → hole ≡ length (c1 ++ (instr.step ∷ test)) → c3 ≡ (c1 ++ (instr.step ∷ test)) ++ instr.jumpfalse 0 ∷ [] → c4 ≡ c3 ++ A (length c3) →
    new ≡ back_written c4 again from hole →
    new ≡ c0 ++ (instr.step ∷ entry ∷ turn_code (length c0 + 1 + 1) test (A (length c0 + 1 + 1 + 1 + length test + 1)) again)
while_written c0 test c1 c3 c4 new entry again A from hole e1 starts at e3 e4 last =
    let F : List Instr = c1 ++ (instr.step ∷ test) in
    let s : ℕ = length c0 + 1 + 1 in
    let q : ℕ = s + 1 + length test + 1 in
    let a : List Instr = A q in
    let l1 : length c1 ≡ s = omega (arith, ap (λ l. length l) e1, length-append c0 (instr.step ∷ entry ∷ [])) in
    let lf : length F ≡ s + 1 + length test = omega (arith, length-append c1 (instr.step ∷ test)) in
    let l3 : length c3 ≡ q = omega (arith, ap (λ l. length l) e3, length-append F (instr.jumpfalse 0 ∷ [])) in
    let flat : c4 ≡ F ++ (instr.jumpfalse 0 ∷ a) = e4 ∙ ap (λ n. c3 ++ A n) l3 ∙ ap (λ l. l ++ a) e3 ∙ append_assoc F (instr.jumpfalse 0 ∷ []) a in
    let end : List Instr = again ∷ instr.jump s ∷ [] in
    let from_is : from ≡ s = starts ∙ l1 in
    let whole : c4 ++ end ≡ F ++ (instr.jumpfalse 0 ∷ (a ++ end)) = ap (λ l. l ++ end) flat ∙ append_assoc F (instr.jumpfalse 0 ∷ a) end in
    let N : ℕ = s + 1 + length test + 1 + length a + 2 in
    let la : length (c4 ++ end) ≡ N = omega (arith, ap (λ l. length l) whole, length-append F (instr.jumpfalse 0 ∷ (a ++ end)), length-append a end) in
    last
    ∙ ap (λ n. slice_set (c4 ++ (again ∷ instr.jump n ∷ [])) hole (instr.jumpfalse (length (c4 ++ (again ∷ instr.jump n ∷ []))))) from_is
    ∙ ap (λ n. slice_set (c4 ++ end) hole (instr.jumpfalse n)) la
    ∙ ap (λ n. slice_set (c4 ++ end) n (instr.jumpfalse N)) at
    ∙ ap (λ l. slice_set l (length F) (instr.jumpfalse N)) whole
    ∙ set-append_seam F (instr.jumpfalse 0) (a ++ end) (instr.jumpfalse N)
    ∙ append_assoc c1 (instr.step ∷ test) (instr.jumpfalse N ∷ (a ++ end))
    ∙ ap (λ l. l ++ ((instr.step ∷ test) ++ (instr.jumpfalse N ∷ (a ++ end)))) e1
    ∙ append_assoc c0 (instr.step ∷ entry ∷ []) ((instr.step ∷ test) ++ (instr.jumpfalse N ∷ (a ++ end)))
