-- What statements leave of the locals that are in scope before them, and what is left when a block's own go.
use Rattle.std.proofs.Common.{◌≡◌, ℕ, Bool, List, [], ◌∷◌, ◌++◌, length, take, Option, Some, None, refl, ap, ◌∙◌, append_assoc}
use Rattle.std.proofs.Math.Seq.{take-append_seam}
use Rattle.parsed_tree.specs.Tree.{ExprTree, number, truth, null, local, outcome, unary, binary, choose, arrow, call, call_text, alloc, acc, SimpleTree, declare, assign, stepped, plain, StmtTree, simple_stmt, block_stmt, if_stmt, while_stmt, for_stmt, return_stmt, assert_stmt, error_stmt, notes_stmt, StmtTrees, no_stmts, stmt_and}
use Rattle.c0_names.specs.declared.tables.Tables.{Tables}
use Rattle.c0_value_rules.specs.declared.scope.Standing.{Standing}
use Rattle.c0_value_rules.specs.declared.scope.Flow.{Flow}
use Rattle.c0_value_rules.specs.declared.scope.Scope.{Scope}
use Rattle.c0_value_rules.specs.Scopes.{closed}
use Rattle.c0_rules.specs.Behind.{target_behind, simple_behind, part_behind, stmt_behind, stmts_behind}

-- the locals of one scope, and others behind them
pub record Extends (outer scope : Scope) : Type 0 where
  pub names : List (List ℕ)
  pub standings : List Standing
  pub more_names : scope.names ≡ outer.names ++ names
  pub more_standings : scope.standings ≡ outer.standings ++ standings

append_none : {X : Type 0} (xs : List X) → xs ≡ xs ++ []
append_none [] = refl
append_none (x ∷ xs) = ap (λ l. x ∷ l) (append_none xs)

-- the same names and standings
alike : (outer scope : Scope) → scope.names ≡ outer.names → scope.standings ≡ outer.standings → Extends outer scope
alike outer scope n s = record { names = []; standings = []; more_names = n ∙ append_none outer.names; more_standings = s ∙ append_none outer.standings }

itself : (scope : Scope) → Extends scope scope
itself scope = alike scope scope refl refl

through : (a b c : Scope) → Extends a b → Extends b c → Extends a c
through a b c x y = record {
  names = x.names ++ y.names;
  standings = x.standings ++ y.standings;
  more_names = y.more_names ∙ ap (λ l. l ++ y.names) x.more_names ∙ append_assoc a.names x.names y.names;
  more_standings = y.more_standings ∙ ap (λ l. l ++ y.standings) x.more_standings ∙ append_assoc a.standings x.standings y.standings;
}

closed_names : (outer scope : Scope) → Extends outer scope → (closed outer scope).names ≡ outer.names
closed_names outer scope x = ap (take (length outer.names)) x.more_names ∙ take-append_seam outer.names x.names

closed_standings : (outer scope : Scope) → Extends outer scope → (closed outer scope).standings ≡ outer.standings
closed_standings outer scope x = ap (take (length outer.standings)) x.more_standings ∙ take-append_seam outer.standings x.standings

closed_alike : (outer scope : Scope) → Extends outer scope → Extends outer (closed outer scope)
closed_alike outer scope x = alike outer (closed outer scope) (closed_names outer scope x) (closed_standings outer scope x)

-- with what is known of the paths outside, it is the scope outside
turned : (outer scope : Scope) (f : Flow) → scope.names ≡ outer.names → scope.standings ≡ outer.standings → f ≡ outer.flow → (let made : Scope = record scope { flow = f } in made ≡ outer)
turned outer scope f n z h = ap (λ m. let s : Scope = record { names = m; standings = scope.standings; flow = f } in s) n ∙ ap (λ m. let s : Scope = record { names = outer.names; standings = m; flow = f } in s) z ∙ ap (λ g. let s : Scope = record { names = outer.names; standings = outer.standings; flow = g } in s) h

behind_target : (scope : Scope) (x : ExprTree) → Extends scope (target_behind scope x)
behind_target scope (number s w) = itself scope
behind_target scope (truth s b) = itself scope
behind_target scope (null s) = itself scope
behind_target scope (local s n) = alike scope (target_behind scope (local s n)) refl refl
behind_target scope (outcome s) = itself scope
behind_target scope (unary s o x) = itself scope
behind_target scope (binary s o x y) = itself scope
behind_target scope (choose s x y z) = itself scope
behind_target scope (arrow s x n) = itself scope
behind_target scope (call s n xs) = itself scope
behind_target scope (call_text s n t) = itself scope
behind_target scope (alloc s t) = itself scope
behind_target scope (acc s x p n) = itself scope

behind_simple : (t : Tables) (scope : Scope) (s : SimpleTree) → Extends scope (simple_behind t scope s)
behind_simple t scope (declare ty n v) = record { names = n.name ∷ []; standings = _; more_names = refl; more_standings = refl }
behind_simple t scope (assign x q o y) = behind_target scope x
behind_simple t scope (stepped x q o) = behind_target scope x
behind_simple t scope (plain x) = itself scope

behind_part : (t : Tables) (scope : Scope) (s : Option SimpleTree) → Extends scope (part_behind t scope s)
behind_part t scope None = itself scope
behind_part t scope (Some s) = behind_simple t scope s

mutual
  behind_stmt : (t : Tables) (scope : Scope) (s : StmtTree) → Extends scope (stmt_behind t scope s)
  behind_stmt t scope (simple_stmt s) = behind_simple t scope s
  behind_stmt t scope (block_stmt p ss) = closed_alike scope (stmts_behind t scope ss) (behind_stmts t scope ss)
  behind_stmt t scope (if_stmt p e s os) = alike scope (stmt_behind t scope (if_stmt p e s os)) refl refl
  behind_stmt t scope (while_stmt p e is s) = itself scope
  behind_stmt t scope (for_stmt p a e b is s) = closed_alike scope (part_behind t scope a) (behind_part t scope a)
  behind_stmt t scope (return_stmt p e) = alike scope (stmt_behind t scope (return_stmt p e)) refl refl
  behind_stmt t scope (assert_stmt p e) = itself scope
  behind_stmt t scope (error_stmt p x) = alike scope (stmt_behind t scope (error_stmt p x)) refl refl
  behind_stmt t scope (notes_stmt p ns) = itself scope

  behind_stmts : (t : Tables) (scope : Scope) (ss : StmtTrees) → Extends scope (stmts_behind t scope ss)
  behind_stmts t scope no_stmts = itself scope
  behind_stmts t scope (stmt_and s ss) = through scope (stmt_behind t scope s) (stmts_behind t scope (stmt_and s ss)) (behind_stmt t scope s) (behind_stmts t (stmt_behind t scope s) ss)

take-all : {X : Type 0} (xs : List X) → take (length xs) xs ≡ xs
take-all [] = refl
take-all (x ∷ xs) = ap (λ l. x ∷ l) (take-all xs)

pub closed_itself : (s : Scope) → (closed s s).flow ≡ s.flow
closed_itself s = ap (λ l. let f : Flow = record s.flow { assigned = l } in f) (take-all s.flow.assigned)

-- behind a statement, and back to what is known before it
pub apart_scope : (t : Tables) (s s1 s2 : Scope) (x : StmtTree) (f : Flow) → f ≡ s.flow → s1 ≡ closed s (stmt_behind t s x) → s2 ≡ record s1 { flow = f } → s2 ≡ s
apart_scope t s s1 s2 x f hf h1 h2 =
    let kept = behind_stmt t s x in
    h2 ∙ ap (λ z. let made : Scope = record z { flow = f } in made) h1 ∙ turned s (closed s (stmt_behind t s x)) f (closed_names s (stmt_behind t s x) kept) (closed_standings s (stmt_behind t s x) kept) hf

-- behind the body of a loop and its last part
pub turns_scope : (t : Tables) (s s1 s2 s3 : Scope) (x : StmtTree) (b : Option SimpleTree) (f : Flow) → f ≡ s.flow → s1 ≡ closed s (stmt_behind t s x) → s2 ≡ closed s1 (part_behind t s1 b) → s3 ≡ record s2 { flow = f } → s3 ≡ s
turns_scope t s s1 s2 s3 x b f hf h1 h2 h3 =
    let body = stmt_behind t s x in
    let inner = closed s body in
    let behind = part_behind t inner b in
    let kept = behind_stmt t s x in
    let more = behind_part t inner b in
    let back : s2 ≡ closed inner behind = h2 ∙ ap (λ z. closed z (part_behind t z b)) h1 in
    h3 ∙ ap (λ z. let made : Scope = record z { flow = f } in made) back ∙ turned s (closed inner behind) f (closed_names inner behind more ∙ closed_names s body kept) (closed_standings inner behind more ∙ closed_standings s body kept) hf
