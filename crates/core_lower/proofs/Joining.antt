-- What is written piece by piece is written as a whole.
use Rattle.std.proofs.Common.{◌≡◌, ℕ, List, [], ◌∷◌, ◌++◌, length, OnOk, Ok, Err, Result, refl, sym, ap, subst, ◌∙◌, append_assoc, append-nil}
use Rattle.core_tree.specs.declared.DecisionAt.{DecisionAt}
use Rattle.core_tree.specs.declared.CoreStmt as made
use Rattle.core_tree.specs.CoreTree.{CoreStmt, Code, no_code, code_and}
use Rattle.core_tree.specs.CoreViews.{code_view}
use Rattle.core_tables.specs.declared.PlacedSite.{PlacedSite}
use Rattle.lowering_laws.specs.Counts.{Counts}
use Rattle.lowering_laws.specs.Trees.{join, one}
use Rattle.temp_counts.specs.Used.{used_in}
use Rattle.core_expressions.specs.declared.written.Written.{Written}
use Rattle.core_expressions.specs.Writing.{StandsFor, IsWritten}
use Rattle.core_lower.specs.Parts.{AreWritten}

-- a further step where the last call succeeds
pub then_so : {A E : Type 0} {P Q : Type 0} (r : Result A E) → OnOk r P → (P → Q) → OnOk r Q
then_so (Err e) h f = tt
then_so (Ok u) h f = f h

pub join_assoc : (a b c : Code) → join (join a b) c ≡ join a (join b c)
join_assoc no_code b c = refl
join_assoc (code_and s a) b c = ap (λ d. code_and s d) (join_assoc a b c)

pub join_none : (a : Code) → join a no_code ≡ a
join_none no_code = refl
join_none (code_and s a) = ap (λ d. code_and s d) (join_none a)

-- from another beginning, where the temporaries alone differ
pub begun : (a a' b : Written) (c : Counts) (code : Code) (ds : List DecisionAt) (ps : List PlacedSite) →
    a'.code ≡ a.code → a'.decisions ≡ a.decisions → a'.placed ≡ a.placed → IsWritten a' b c code ds ps → IsWritten a b c code ds ps
begun a a' b c code ds ps e1 e2 e3 w = record {
  counts = w.counts;
  code = w.code ∙ ap (λ x. join (code_view x) code) e1;
  decisions = w.decisions ∙ ap (λ x. x ++ ds) e2;
  placed = w.placed ∙ ap (λ x. x ++ ps) e3;
}

-- the counts stand for no more than the number of the decisions
pub ended : {a b : Written} {c : Counts} {code : Code} {ds : List DecisionAt} {ps : List PlacedSite} → IsWritten a b c code ds ps → AreWritten a b c.next code ds ps
ended w = record { next = w.counts.next; code = w.code; decisions = w.decisions; placed = w.placed }

pub joined : {a b d : Written} {n m : ℕ} {code more : Code} {ds es : List DecisionAt} {ps qs : List PlacedSite} →
    AreWritten a b n code ds ps → AreWritten b d m more es qs → AreWritten a d m (join code more) (ds ++ es) (ps ++ qs)
joined {a = a} {code = code} {more = more} {ds = ds} {es = es} {ps = ps} {qs = qs} v w = record {
  next = w.next;
  code = w.code ∙ ap (λ x. join x more) v.code ∙ join_assoc (code_view a.code) code more;
  decisions = w.decisions ∙ ap (λ x. x ++ es) v.decisions ∙ append_assoc a.decisions ds es;
  placed = w.placed ∙ ap (λ x. x ++ qs) v.placed ∙ append_assoc a.placed ps qs;
}

-- the same, said otherwise
pub same : {a b : Written} {n n' : ℕ} {code code' : Code} {ds ds' : List DecisionAt} {ps ps' : List PlacedSite} →
    n ≡ n' → code ≡ code' → ds ≡ ds' → ps ≡ ps' → AreWritten a b n code ds ps → AreWritten a b n' code' ds' ps'
same {a = a} en ec ed ep v = record {
  next = v.next ∙ en;
  code = v.code ∙ ap (λ x. join (code_view a.code) x) ec;
  decisions = v.decisions ∙ ap (λ x. a.decisions ++ x) ed;
  placed = v.placed ∙ ap (λ x. a.placed ++ x) ep;
}

-- code alone behind
pub pushed : {a b d : Written} {n m : ℕ} {code more : Code} {ds : List DecisionAt} {ps : List PlacedSite} →
    AreWritten a b n code ds ps → AreWritten b d m more [] [] → AreWritten a d m (join code more) ds ps
pushed {ds = ds} {ps = ps} v w = same refl refl (append-nil ds) (append-nil ps) (joined v w)

-- sites alone behind
pub sited : {a b d : Written} {n m : ℕ} {code : Code} {ds : List DecisionAt} {ps qs : List PlacedSite} →
    AreWritten a b n code ds ps → AreWritten b d m no_code [] qs → AreWritten a d m code ds (ps ++ qs)
sited {code = code} {ds = ds} v w = same refl (join_none code) (append-nil ds) refl (joined v w)

-- decisions alone behind
pub decided_so : {a b d : Written} {n m : ℕ} {code : Code} {ds es : List DecisionAt} {ps : List PlacedSite} →
    AreWritten a b n code ds ps → AreWritten b d m no_code es [] → AreWritten a d m code (ds ++ es) ps
decided_so {code = code} {ps = ps} v w = same refl (join_none code) refl (append-nil ps) (joined v w)

-- one statement behind, which is known as another
pub put : {a b d : Written} {n : ℕ} {c : Counts} {code : Code} {ds : List DecisionAt} {ps : List PlacedSite} {x y : CoreStmt} →
    AreWritten a b n code ds ps → x ≡ y → IsWritten b d c (one x) [] [] → AreWritten a d c.next (join code (one y)) ds ps
put {code = code} v e w = same refl (ap (λ x. join code (one x)) e) refl refl (pushed v (ended w))

-- one site behind, which is known as another
pub noted : {a b d : Written} {n : ℕ} {c : Counts} {code : Code} {ds : List DecisionAt} {ps : List PlacedSite} {x y : PlacedSite} →
    AreWritten a b n code ds ps → x ≡ y → IsWritten b d c no_code [] (x ∷ []) → AreWritten a d c.next code ds (ps ++ y ∷ [])
noted {ps = ps} v e w = same refl refl refl (ap (λ x. ps ++ x ∷ []) e) (sited v (ended w))

-- nothing came
pub nothing : (a : Written) (c : Counts) → StandsFor a c → IsWritten a a c no_code [] []
nothing a c h = record { counts = h; code = sym (join_none (code_view a.code)); decisions = sym (append-nil a.decisions); placed = sym (append-nil a.placed) }

-- code that is known as another
pub coded : {a b : Written} {c : Counts} {x y : Code} {ds : List DecisionAt} {ps : List PlacedSite} → x ≡ y → IsWritten a b c x ds ps → AreWritten a b c.next y ds ps
coded e w = same refl e refl refl (ended w)

-- decisions behind, which are known as others
pub chose : {a b d : Written} {n : ℕ} {c : Counts} {code : Code} {ds es fs : List DecisionAt} {ps : List PlacedSite} →
    AreWritten a b n code ds ps → es ≡ fs → IsWritten b d c no_code es [] → AreWritten a d c.next code (ds ++ fs) ps
chose {ds = ds} v e w = same refl refl (ap (λ x. ds ++ x) e) refl (decided_so v (ended w))

-- the same, with the counts kept
pub joined_counts : {a b d : Written} {k m : Counts} {code more : Code} {ds es : List DecisionAt} {ps qs : List PlacedSite} →
    IsWritten a b k code ds ps → IsWritten b d m more es qs → IsWritten a d m (join code more) (ds ++ es) (ps ++ qs)
joined_counts {a = a} {code = code} {more = more} {ds = ds} {es = es} {ps = ps} {qs = qs} v w = record {
  counts = w.counts;
  code = w.code ∙ ap (λ x. join x more) v.code ∙ join_assoc (code_view a.code) code more;
  decisions = w.decisions ∙ ap (λ x. x ++ es) v.decisions ∙ append_assoc a.decisions ds es;
  placed = w.placed ∙ ap (λ x. x ++ qs) v.placed ∙ append_assoc a.placed ps qs;
}

pub recoded : {a b : Written} {k : Counts} {x y : Code} {ds : List DecisionAt} {ps : List PlacedSite} → x ≡ y → IsWritten a b k x ds ps → IsWritten a b k y ds ps
recoded {a = a} e w = record { counts = w.counts; code = w.code ∙ ap (λ x. join (code_view a.code) x) e; decisions = w.decisions; placed = w.placed }

-- the counts that stand for what is written
abbrev pub counts_in : Written → Counts
counts_in a = record { used = λ s. used_in a.temps s; next = length a.decisions }

pub stands : (a : Written) → StandsFor a (counts_in a)
stands a = record { used = λ s. refl; next = refl }

-- what came into a list of its own is no code of the outer one
pub nested : (a b d : Written) (outer : List made.CoreStmt) (n : ℕ) (code : Code) (ds : List DecisionAt) (ps : List PlacedSite) →
    AreWritten (record a { code = [] }) b n code ds ps → outer ≡ a.code → d ≡ record b { code = outer } → AreWritten a d n no_code ds ps
nested a b d outer n code ds ps w e1 e2 = record {
  next = ap (λ (x : Written). length x.decisions) e2 ∙ w.next;
  code = ap (λ (x : Written). code_view x.code) e2 ∙ ap (λ x. code_view x) e1 ∙ sym (join_none (code_view a.code));
  decisions = ap (λ (x : Written). x.decisions) e2 ∙ w.decisions;
  placed = ap (λ (x : Written). x.placed) e2 ∙ w.placed;
}

-- a list of its own begins
pub inner : (a b : Written) (c : Counts) → b ≡ record a { code = [] } → StandsFor a c → StandsFor b c
inner a b c e h = subst (λ (x : Written). StandsFor x c) (sym e) (record { used = h.used; next = h.next })

pub started : (a b : Written) {d : Written} {c : Counts} {code : Code} {ds : List DecisionAt} {ps : List PlacedSite} →
    b ≡ record a { code = [] } → IsWritten b d c code ds ps → IsWritten (record a { code = [] }) d c code ds ps
started a b {d = d} {c = c} {code = code} {ds = ds} {ps = ps} e w = subst (λ (x : Written). IsWritten x d c code ds ps) e w

-- the same with the counts kept, said otherwise
pub retold : {a b : Written} {k : Counts} {code code' : Code} {ds ds' : List DecisionAt} {ps ps' : List PlacedSite} →
    code ≡ code' → ds ≡ ds' → ps ≡ ps' → IsWritten a b k code ds ps → IsWritten a b k code' ds' ps'
retold {a = a} ec ed ep w = record {
  counts = w.counts;
  code = w.code ∙ ap (λ x. join (code_view a.code) x) ec;
  decisions = w.decisions ∙ ap (λ x. a.decisions ++ x) ed;
  placed = w.placed ∙ ap (λ x. a.placed ++ x) ep;
}
