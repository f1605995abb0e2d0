-- What gates one after another build: circuits that hold no less, under assignments that go on.
use Rattle.std.proofs.Common.{◌≡◌, ℕ, suc, ◌+◌, ◌<◌, ◌≤◌, Bool, true, not, ◌&&◌, ◌||◌, if◌then◌else◌, List, [], ◌∷◌, ◌++◌, map, refl, ◌∙◌, ap, arith, eqb, inl, inr}
use Rattle.std.proofs.lemmas.Bool.Decides.{eqb_tells}
use Rattle.sat_check.specs.declared.clause.Lit.{Lit}
use Rattle.sat_check.specs.declared.clause.Clause.{Clause}
use Rattle.word_blast.specs.declared.gate.Gate.{Gate}
use Rattle.word_blast.specs.declared.gate.Gate.TheVariants as gate
use Rattle.word_blast.specs.Gates.{Circuit, Made, Row, lit_of, clause_of, gate_value, gate_lits, emit, bit, bits, clause_true, all_true, Holds}
use Rattle.word_blast.proofs.Gating.{same, same-itself, all_true-gate, all_true-append, emit-keeps, emit-worth}

-- literals and clauses over the variables below a number
abbrev pub LitsBelow : ℕ → List Lit → Type 0
LitsBelow n [] = Unit {0}
LitsBelow n (l ∷ ls) = (l.variable < n) × LitsBelow n ls

abbrev pub ClausesBelow : ℕ → List Clause → Type 0
ClausesBelow n [] = Unit {0}
ClausesBelow n (c ∷ cs) = LitsBelow n c.lits × ClausesBelow n cs

pub record Formed (k : Circuit) : Type 0 where
  pub below : ClausesBelow k.variables k.clauses
  pub some : 0 < k.variables
  pub based : (a : ℕ → Bool) → Holds a k → a 0 ≡ true

pub LitsBelow-more : (m n : ℕ) → m ≤ n → (ls : List Lit) → LitsBelow m ls → LitsBelow n ls
LitsBelow-more m n h [] b = tt
LitsBelow-more m n h (l ∷ ls) b = (omega arith, LitsBelow-more m n h ls b.1)

pub ClausesBelow-more : (m n : ℕ) → m ≤ n → (cs : List Clause) → ClausesBelow m cs → ClausesBelow n cs
ClausesBelow-more m n h [] b = tt
ClausesBelow-more m n h (c ∷ cs) b = (LitsBelow-more m n h c.lits b.0, ClausesBelow-more m n h cs b.1)

pub ClausesBelow-append : (n : ℕ) (cs ds : List Clause) → ClausesBelow n cs → ClausesBelow n ds → ClausesBelow n (cs ++ ds)
ClausesBelow-append n [] ds b d = d
ClausesBelow-append n (c ∷ cs) ds b d = (b.0, ClausesBelow-append n cs ds b.1 d)

pub LitsBelow-append : (n : ℕ) (xs ys : List Lit) → LitsBelow n xs → LitsBelow n ys → LitsBelow n (xs ++ ys)
LitsBelow-append n [] ys b d = d
LitsBelow-append n (x ∷ xs) ys b d = (b.0, LitsBelow-append n xs ys b.1 d)

pub gate_lits-below : (n : ℕ) (g : Gate) (o x y z : Lit) → o.variable < n → x.variable < n → y.variable < n → z.variable < n → ClausesBelow n (map clause_of (gate_lits g o x y z))
gate_lits-below n gate.And o x y z ob xb yb zb = ((ob, (xb, tt)), ((ob, (yb, tt)), ((ob, (xb, (yb, tt))), tt)))
gate_lits-below n gate.Xor o x y z ob xb yb zb = ((ob, (xb, (yb, tt))), ((ob, (xb, (yb, tt))), ((ob, (xb, (yb, tt))), ((ob, (xb, (yb, tt))), tt))))
gate_lits-below n gate.Sum o x y z ob xb yb zb =
    let all : LitsBelow n (o ∷ x ∷ y ∷ z ∷ []) = (ob, (xb, (yb, (zb, tt)))) in
    (all, (all, (all, (all, (all, (all, (all, (all, tt))))))))
gate_lits-below n gate.Carry o x y z ob xb yb zb =
    let xy : LitsBelow n (o ∷ x ∷ y ∷ []) = (ob, (xb, (yb, tt))) in
    let xz : LitsBelow n (o ∷ x ∷ z ∷ []) = (ob, (xb, (zb, tt))) in
    let yz : LitsBelow n (o ∷ y ∷ z ∷ []) = (ob, (yb, (zb, tt))) in
    (xy, (xz, (yz, (xy, (xz, (yz, tt))))))
gate_lits-below n gate.Pick o x y z ob xb yb zb =
    let zx : LitsBelow n (o ∷ z ∷ x ∷ []) = (ob, (zb, (xb, tt))) in
    let zy : LitsBelow n (o ∷ z ∷ y ∷ []) = (ob, (zb, (yb, tt))) in
    (zx, (zx, (zy, (zy, tt))))

-- assignments that agree below a number agree on what speaks of variables below it
abbrev pub SameBelow : ℕ → (ℕ → Bool) → (ℕ → Bool) → Type 0
SameBelow n a b = (v : ℕ) → v < n → b v ≡ a v

pub bit-same : (n : ℕ) (a b : ℕ → Bool) → SameBelow n a b → (l : Lit) → l.variable < n → bit b l ≡ bit a l
unfolding bit
bit-same n a b s l h = ap (λ x. if l.positive then x else not x) (s l.variable h)

pub bits-same : (n : ℕ) (a b : ℕ → Bool) → SameBelow n a b → (ls : List Lit) → LitsBelow n ls → bits b ls ≡ bits a ls
bits-same n a b s [] h = refl
bits-same n a b s (l ∷ ls) h = ap (λ x. x ∷ bits b ls) (bit-same n a b s l h.0) ∙ ap (λ xs. bit a l ∷ xs) (bits-same n a b s ls h.1)

clause_true-same : (n : ℕ) (a b : ℕ → Bool) → SameBelow n a b → (ls : List Lit) → LitsBelow n ls → clause_true b ls ≡ clause_true a ls
clause_true-same n a b s [] h = refl
clause_true-same n a b s (l ∷ ls) h = ap (λ x. x || clause_true b ls) (bit-same n a b s l h.0) ∙ ap (λ x. bit a l || x) (clause_true-same n a b s ls h.1)

pub all_true-same : (n : ℕ) (a b : ℕ → Bool) → SameBelow n a b → (cs : List Clause) → ClausesBelow n cs → all_true b cs ≡ all_true a cs
all_true-same n a b s [] h = refl
all_true-same n a b s (c ∷ cs) h = ap (λ x. x && all_true b cs) (clause_true-same n a b s c.lits h.0) ∙ ap (λ x. clause_true a c.lits && x) (all_true-same n a b s cs h.1)

-- an assignment that goes on from one: it agrees on the variables of the first circuit, and the second holds
pub record Extension (k j : Circuit) (a : ℕ → Bool) : Type 0 where
  pub assignment : ℕ → Bool
  pub agrees : SameBelow k.variables a assignment
  pub holds : Holds assignment j

-- a circuit built on another by so many variables
pub record Builds (k j : Circuit) (n : ℕ) : Type 0 where
  pub count : j.variables ≡ k.variables + n
  pub keeps : (a : ℕ → Bool) → Holds a j → Holds a k
  pub formed : Formed k → Formed j
  pub extends : (a : ℕ → Bool) → Formed k → Holds a k → Extension k j a

pub Builds-none : (k : Circuit) → Builds k k 0
Builds-none k = record {
  count = omega arith;
  keeps = λ a h. h;
  formed = λ f. f;
  extends = λ a f h. record { assignment = a; agrees = λ v l. refl; holds = h };
}

pub Builds-then : (k j i : Circuit) (m n p : ℕ) → Builds k j m → Builds j i n → p ≡ m + n → Builds k i p
Builds-then k j i m n p x y e = record {
  count = omega (arith, x.count, y.count);
  keeps = λ a h. x.keeps a (y.keeps a h);
  formed = λ f. y.formed (x.formed f);
  extends = λ a f h.
      let first : Extension k j a = x.extends a f h in
      let second : Extension j i first.assignment = y.extends first.assignment (x.formed f) first.holds in
      record { assignment = second.assignment; agrees = λ v l. second.agrees v (omega (arith, x.count)) ∙ first.agrees v l; holds = second.holds };
}

-- an assignment with one variable changed
abbrev pub with_at : (ℕ → Bool) → ℕ → Bool → ℕ → Bool
with_at a n b v = if eqb v n then b else a v

pub with_at-same : (a : ℕ → Bool) (n : ℕ) (b : Bool) → SameBelow n a (with_at a n b)
with_at-same a n b v h = elim (eqb_tells v n) as (λ _. with_at a n b v ≡ a v) [
  | inl e ↦ absurd (let w : v ≡ n = e.1 in omega arith)
  | inr e ↦ ap (λ t. if t then b else a v) e.0
]

pub with_at-here : (a : ℕ → Bool) (n : ℕ) (b : Bool) → with_at a n b n ≡ b
with_at-here a n b = elim (eqb_tells n n) as (λ _. with_at a n b n ≡ b) [
  | inl e ↦ ap (λ t. if t then b else a n) e.0
  | inr e ↦ absurd (e.1 refl)
]

-- one gate
pub emit-builds : (g : Gate) (x y z : Lit) (k : Circuit) → x.variable < k.variables → y.variable < k.variables → z.variable < k.variables → Builds k (emit g x y z k).circuit 1
unfolding emit bit
emit-builds g x y z k xb yb zb = record {
  count = omega arith;
  keeps = λ a h. emit-keeps a g x y z k h;
  formed = λ f. record {
    below = ClausesBelow-append (suc k.variables) k.clauses (map clause_of (gate_lits g (lit_of k.variables) x y z))
        (ClausesBelow-more k.variables (suc k.variables) (omega arith) k.clauses f.below)
        (gate_lits-below (suc k.variables) g (lit_of k.variables) x y z (omega arith) (omega arith) (omega arith) (omega arith));
    some = omega arith;
    based = λ a h. f.based a (emit-keeps a g x y z k h);
  };
  extends = λ a f h.
      let b : Bool = gate_value g (bit a x) (bit a y) (bit a z) in
      let e : ℕ → Bool = with_at a k.variables b in
      let s : SameBelow k.variables a e = with_at-same a k.variables b in
      let value : gate_value g (bit e x) (bit e y) (bit e z) ≡ b =
      ap (λ p. gate_value g p (bit e y) (bit e z)) (bit-same k.variables a e s x xb)
      ∙ ap (λ p. gate_value g (bit a x) p (bit e z)) (bit-same k.variables a e s y yb)
      ∙ ap (λ p. gate_value g (bit a x) (bit a y) p) (bit-same k.variables a e s z zb) in
      let before : all_true e k.clauses ≡ true = all_true-same k.variables a e s k.clauses f.below ∙ h in
      let here : all_true e (map clause_of (gate_lits g (lit_of k.variables) x y z)) ≡ true =
      all_true-gate e g (lit_of k.variables) x y z
      ∙ ap (λ p. same p (gate_value g (bit e x) (bit e y) (bit e z))) (with_at-here a k.variables b)
      ∙ ap (same b) value ∙ same-itself b in
      record {
        assignment = e;
        agrees = s;
        holds = all_true-append e k.clauses (map clause_of (gate_lits g (lit_of k.variables) x y z)) ∙ ap (λ p. p && all_true e (map clause_of (gate_lits g (lit_of k.variables) x y z))) before ∙ here;
      };
}

pub emit-inside : (g : Gate) (x y z : Lit) (k : Circuit) → (emit g x y z k).lit.variable < (emit g x y z k).circuit.variables
unfolding emit
emit-inside g x y z k = omega arith

-- a row that is built on a circuit, over its variables, and what its bits are worth
pub record Gives (k : Circuit) (r : Row) (n : ℕ) (f : (ℕ → Bool) → List Bool) : Type 0 where
  pub builds : Builds k r.circuit n
  pub inside : LitsBelow r.circuit.variables r.bits
  pub worth : (a : ℕ → Bool) → Holds a r.circuit → bits a r.bits ≡ f a

pub record Puts (k : Circuit) (m : Made) (n : ℕ) (f : (ℕ → Bool) → Bool) : Type 0 where
  pub builds : Builds k m.circuit n
  pub inside : m.lit.variable < m.circuit.variables
  pub worth : (a : ℕ → Bool) → Holds a m.circuit → bit a m.lit ≡ f a

pub emit-puts : (g : Gate) (x y z : Lit) (k : Circuit) → x.variable < k.variables → y.variable < k.variables → z.variable < k.variables
    → Puts k (emit g x y z k) 1 (λ a. gate_value g (bit a x) (bit a y) (bit a z))
emit-puts g x y z k xb yb zb = record {
  builds = emit-builds g x y z k xb yb zb;
  inside = emit-inside g x y z k;
  worth = λ a h. emit-worth a g x y z k h;
}

-- what is over the variables of a circuit is over those of one that is built on it
pub inside-later : (k j : Circuit) (n : ℕ) → Builds k j n → (l : Lit) → l.variable < k.variables → l.variable < j.variables
inside-later k j n b l h = omega (arith, b.count)

pub lits-later : (k j : Circuit) (n : ℕ) → Builds k j n → (ls : List Lit) → LitsBelow k.variables ls → LitsBelow j.variables ls
lits-later k j n b ls h = LitsBelow-more k.variables j.variables (omega (arith, b.count)) ls h
