-- Code behind code: the parts of what was written come one after another.
use Rattle.std.specs.Prelude.{if◌then◌else◌}
use Rattle.std.proofs.Common.{◌≡◌, ℕ, suc, List, [], ◌∷◌, ◌++◌, length, refl, sym, ap, subst, ◌∙◌, append_assoc, append-nil, Option, Some, None, Result, Ok, Err, IfOk, OnOk}
use Rattle.std.specs.declared.alloc.AllocError.{AllocError}
use Rattle.core_tree.specs.declared.CoreStmt.{CoreStmt}
use Rattle.core_tree.specs.declared.Simple.{Simple}
use Rattle.temp_counts.specs.Used.{used_in}
use Rattle.core_tree.specs.declared.DecisionAt.{DecisionAt}
use Rattle.core_tree.specs.CoreTree.{Code, no_code, code_and}
use Rattle.core_tree.specs.CoreViews.{code_view, core_stmt_view}
use Rattle.core_tables.specs.declared.PlacedSite.{PlacedSite}
use Rattle.core_tables.specs.SiteTables.{choices_at}
use Rattle.core_tree.specs.declared.Phase.{Phase}
use Rattle.gc0_base.specs.declared.place.Place.{Place}
use Rattle.gc0_base.specs.declared.site.Site.{Site}
use Rattle.gc0_tree.specs.declared.Shape.{Shape}
use Rattle.lowering_laws.specs.Counts.{Counts, same_shape, one_more, with_result, decided}
use Rattle.lowering_laws.specs.Trees.{join}
use Rattle.core_expressions.specs.declared.written.Written.{Written}
use Rattle.core_expressions.specs.declared.operand.Operand.{Operand}
use Rattle.core_expressions.specs.Writing.{StandsFor, IsWritten, IsOperand}

-- ---- code
pub join_assoc : (a b c : Code) → join (join a b) c ≡ join a (join b c)
join_assoc no_code b c = refl
join_assoc (code_and s a) b c = ap (λ k. code_and s k) (join_assoc a b c)

pub join_none : (a : Code) → join a no_code ≡ a
join_none no_code = refl
join_none (code_and s a) = ap (λ k. code_and s k) (join_none a)

-- the code of one list behind another
pub code_behind : (xs ys : List CoreStmt) → code_view (xs ++ ys) ≡ join (code_view xs) (code_view ys)
code_behind [] ys = refl
code_behind (x ∷ xs) ys = ap (λ k. code_and (core_stmt_view x) k) (code_behind xs ys)

-- ---- what was written
-- nothing more
pub nothing : (a : Written) (c : Counts) → StandsFor a c → IsWritten a a c no_code [] []
nothing a c s = record {
  counts = s;
  code = sym (join_none (code_view a.code));
  decisions = sym (append-nil a.decisions);
  placed = sym (append-nil a.placed);
}

-- one after the other
pub followed : {a b d : Written} {c1 c2 : Counts} {code1 code2 : Code} {ds1 ds2 : List DecisionAt} {ps1 ps2 : List PlacedSite} →
    IsWritten a b c1 code1 ds1 ps1 → IsWritten b d c2 code2 ds2 ps2 → IsWritten a d c2 (join code1 code2) (ds1 ++ ds2) (ps1 ++ ps2)
followed {a} {b} {d} {c1} {c2} {code1} {code2} {ds1} {ds2} {ps1} {ps2} v w = record {
  counts = w.counts;
  code = w.code ∙ ap (λ k. join k code2) v.code ∙ join_assoc (code_view a.code) code1 code2;
  decisions = w.decisions ∙ ap (λ l. l ++ ds2) v.decisions ∙ append_assoc a.decisions ds1 ds2;
  placed = w.placed ∙ ap (λ l. l ++ ps2) v.placed ∙ append_assoc a.placed ps1 ps2;
}

-- the same, written in another way
pub alike : {a b : Written} {c : Counts} {code1 : Code} {ds1 : List DecisionAt} {ps1 : List PlacedSite} → IsWritten a b c code1 ds1 ps1 →
    {code2 : Code} {ds2 : List DecisionAt} {ps2 : List PlacedSite} → code1 ≡ code2 → ds1 ≡ ds2 → ps1 ≡ ps2 → IsWritten a b c code2 ds2 ps2
alike {a} {b} {c} w e f g = record {
  counts = w.counts;
  code = w.code ∙ ap (λ k. join (code_view a.code) k) e;
  decisions = w.decisions ∙ ap (λ l. a.decisions ++ l) f;
  placed = w.placed ∙ ap (λ l. a.placed ++ l) g;
}

-- behind it, something that is no decision and no site
pub with_code : {a b d : Written} {c1 c2 : Counts} {code1 code2 : Code} {ds : List DecisionAt} {ps : List PlacedSite} →
    IsWritten a b c1 code1 ds ps → IsWritten b d c2 code2 [] [] → IsWritten a d c2 (join code1 code2) ds ps
with_code {a} {b} {d} {c1} {c2} {code1} {code2} {ds} {ps} v w = alike (followed v w) refl (append-nil ds) (append-nil ps)

-- behind it, something that is no code
pub with_beside : {a b d : Written} {c1 c2 : Counts} {code : Code} {ds1 ds2 : List DecisionAt} {ps1 ps2 : List PlacedSite} →
    IsWritten a b c1 code ds1 ps1 → IsWritten b d c2 no_code ds2 ps2 → IsWritten a d c2 code (ds1 ++ ds2) (ps1 ++ ps2)
with_beside {a} {b} {d} {c1} {c2} {code} {ds1} {ds2} {ps1} {ps2} v w = alike (followed v w) (join_none code) refl refl

-- behind it, a temporary that was taken
pub with_taken : {a b d : Written} {c1 c2 : Counts} {code : Code} {ds : List DecisionAt} {ps : List PlacedSite} →
    IsWritten a b c1 code ds ps → IsWritten b d c2 no_code [] [] → IsWritten a d c2 code ds ps
with_taken {a} {b} {d} {c1} {c2} {code} {ds} {ps} v w = alike (followed v w) (join_none code) (append-nil ds) (append-nil ps)

-- ---- outcomes
pub on_ok : {X E : Type 0} {P Q : Type 0} (r : Result X E) → (P → Q) → OnOk r P → OnOk r Q
on_ok (Err e) f h = tt
on_ok (Ok u) f h = f h

-- what holds in any case
pub if_then : {X E : Type 0} {P : Type 0} (r : Result X E) → P → OnOk r P
if_then (Err e) h = tt
if_then (Ok u) h = h

pub if_ok : {X E : Type 0} {P Q : X → Type 0} (r : Result X E) → ((x : X) → P x → Q x) → IfOk r P → IfOk r Q
if_ok (Err e) f h = tt
if_ok (Ok u) f h = f u h

-- ---- counts
pub one_more_alike : (s u : Shape) (f g : Shape → ℕ) → ((x : Shape) → f x ≡ g x) → one_more s f u ≡ one_more s g u
one_more_alike s u f g h = ap (λ n. if same_shape s u then suc n else n) (h u)

-- code behind a site
pub after_site : {a b d : Written} {c1 c2 : Counts} {code : Code} {ps : List PlacedSite} →
    IsWritten a b c1 no_code [] ps → IsWritten b d c2 code [] [] → IsWritten a d c2 code [] ps
after_site {a} {b} {d} {c1} {c2} {code} {ps} v w = alike (followed v w) refl refl (append-nil ps)

-- code behind a temporary that was taken
pub after_taken : {a b d : Written} {c1 c2 : Counts} {code : Code} {ds : List DecisionAt} {ps : List PlacedSite} →
    IsWritten a b c1 no_code [] [] → IsWritten b d c2 code ds ps → IsWritten a d c2 code ds ps
after_taken {a} {b} {d} {c1} {c2} {code} {ds} {ps} v w = alike (followed v w) refl refl refl

-- behind it, code with sites
pub with_sites : {a b d : Written} {c1 c2 : Counts} {code1 code2 : Code} {ds : List DecisionAt} {ps1 ps2 : List PlacedSite} →
    IsWritten a b c1 code1 ds ps1 → IsWritten b d c2 code2 [] ps2 → IsWritten a d c2 (join code1 code2) ds (ps1 ++ ps2)
with_sites {a} {b} {d} {c1} {c2} {code1} {code2} {ds} {ps1} {ps2} v w = alike (followed v w) refl (append-nil ds) refl

-- the same counts, written in another way
pub counted_alike : {a b : Written} {c1 : Counts} {code : Code} {ds : List DecisionAt} {ps : List PlacedSite} → IsWritten a b c1 code ds ps →
    {c2 : Counts} → c1 ≡ c2 → IsWritten a b c2 code ds ps
counted_alike {a} {b} {c1} {code} {ds} {ps} w e = subst (λ c. IsWritten a b c code ds ps) e w

pub ap3 : {A B C D : Type 0} (f : A → B → C → D) {x x' : A} {y y' : B} {z z' : C} → x ≡ x' → y ≡ y' → z ≡ z' → f x y z ≡ f x' y' z'
ap3 f {x} {x'} {y} {y'} {z} {z'} e g h = ap (λ u. f u y z) e ∙ ap (λ u. f x' u z) g ∙ ap (λ u. f x' y' u) h

-- as many decisions as choices
pub length_choices : (site : Site) (phase : Phase) (k : ℕ) (places : List Place) → length (choices_at site phase k places) ≡ length places
length_choices site phase k [] = refl
length_choices site phase k (p ∷ ps) = ap (λ n. suc n) (length_choices site phase (suc k) ps)

-- ---- operands
-- the counts that stand for what is written
abbrev pub counts_in : Written → Counts
counts_in a = record { used = λ s. used_in a.temps s; next = length a.decisions }

pub stands : (a : Written) → StandsFor a (counts_in a)
stands a = record { used = λ s. refl; next = refl }

pub values : (a b : Written) (v : Simple) (s : Shape) (c : Counts) (code : Code) (ds : List DecisionAt) (ps : List PlacedSite) (r : Result Operand AllocError) →
    IfOk r (λ x. IsOperand a b x v s c code ds ps) → IfOk r (λ x. x.value ≡ v)
values a b v s c code ds ps (Err e) h = tt
values a b v s c code ds ps (Ok x) h = h.value

pub shapes : (a b : Written) (v : Simple) (s : Shape) (c : Counts) (code : Code) (ds : List DecisionAt) (ps : List PlacedSite) (r : Result Operand AllocError) →
    IfOk r (λ x. IsOperand a b x v s c code ds ps) → IfOk r (λ x. x.shape ≡ s)
shapes a b v s c code ds ps (Err e) h = tt
shapes a b v s c code ds ps (Ok x) h = h.shape

-- behind its first part
pub wholly : {a b : Written} {c1 : Counts} {code1 : Code} {ds1 : List DecisionAt} {ps1 : List PlacedSite} (d : Written) (v : Simple) (s : Shape) (c2 : Counts) (code2 : Code) (ds2 : List DecisionAt) (ps2 : List PlacedSite) (r : Result Operand AllocError) →
    IsWritten a b c1 code1 ds1 ps1 → IfOk r (λ x. IsOperand b d x v s c2 code2 ds2 ps2) → OnOk r (IsWritten a d c2 (join code1 code2) (ds1 ++ ds2) (ps1 ++ ps2))
wholly d v s c2 code2 ds2 ps2 (Err e) w h = tt
wholly d v s c2 code2 ds2 ps2 (Ok x) w h = followed w h.written

-- ---- calls
-- code behind decisions and sites
pub after_prepared : {a b d : Written} {c1 c2 : Counts} {code : Code} {ds : List DecisionAt} {ps : List PlacedSite} →
    IsWritten a b c1 no_code ds ps → IsWritten b d c2 code [] [] → IsWritten a d c2 code ds ps
after_prepared {a} {b} {d} {c1} {c2} {code} {ds} {ps} v w = alike (followed v w) refl (append-nil ds) (append-nil ps)

-- decisions take no temporary
pub result_decided : (r : Option Shape) (n : ℕ) (c : Counts) → with_result r (decided n c) ≡ decided n (with_result r c)
result_decided None n c = refl
result_decided (Some s) n c = refl
