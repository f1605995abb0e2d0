-- Tokens have at most one first fault, and none where they have a tree that is not too deep.
use Rattle.std.proofs.Common.{◌≡◌, List, [], ◌∷◌, ◌++◌, refl, sym, subst, ◌∙◌, ap, append_assoc, arith}
use Rattle.gc0_base.specs.declared.place.Place.{Place}
use Rattle.parsed_tree.specs.Tree.{ProgramTree}
use Rattle.c0_grammar.specs.Tokens.{Token}
use Rattle.c0_grammar.specs.Grammar.{IsProgram}
use Rattle.c0_grammar.specs.Reads.{Reads, Splits, FirstSyntax, FirstDeep}
use Rattle.gradual_top.specs.Source.{most_nodes}

-- the first token with which no program begins that is not too deep
pub record First (ts : List Token) (at : Place) : Type 0 where
  pub before : List Token
  pub bad : Token
  pub splits : Splits ts before bad at
  pub can_be : (more : List Token) × (p : ProgramTree) × Reads most_nodes (before ++ more) p
  pub none : (more : List Token) (p : ProgramTree) → Reads most_nodes ((before ++ bad ∷ []) ++ more) p → ⊥

pub of_syntax : (ts : List Token) (at : Place) → FirstSyntax most_nodes ts at → First ts at
of_syntax ts at f = record { before = f.before; bad = f.bad; splits = f.splits; can_be = f.can_be; none = λ more p r. f.none (more, p, r.nodes, r.program) }

pub of_deep : (ts : List Token) (at : Place) → FirstDeep most_nodes ts at → First ts at
of_deep ts at f = record { before = f.before; bad = f.bad; splits = f.splits; can_be = f.can_be; none = λ more p r. let deep = f.deep more p r.nodes r.program in let within = r.within in absurd (omega (arith, deep, within)) }

front_of : (before mid more : List Token) (bad : Token) → (before ++ bad ∷ mid) ++ more ≡ (before ++ bad ∷ []) ++ (mid ++ more)
front_of [] mid more bad = refl
front_of (b ∷ before) mid more bad = ap (λ l. b ∷ l) (front_of before mid more bad)

-- no tree has them
pub no_tree : (ts : List Token) (at : Place) (p : ProgramTree) → First ts at → Reads most_nodes ts p → ⊥
no_tree ts at p f r = f.none f.splits.after p (subst (λ l. Reads most_nodes l p) (f.splits.whole ∙ sym (append_assoc f.before (f.bad ∷ []) f.splits.after)) r)

-- two ways to split one list: at the same token, or the one before the other
pub data Order (before more : List Token) (bad worse : Token) : Type 0 where
  same : before ≡ more → bad ≡ worse → Order before more bad worse
  sooner : (mid : List Token) → more ≡ before ++ bad ∷ mid → Order before more bad worse
  later : (mid : List Token) → before ≡ more ++ worse ∷ mid → Order before more bad worse

next_order : (t : Token) (before more : List Token) (bad worse : Token) → Order before more bad worse → Order (t ∷ before) (t ∷ more) bad worse
next_order t before more bad worse (same e d) = same (ap (λ l. t ∷ l) e) d
next_order t before more bad worse (sooner mid e) = sooner mid (ap (λ l. t ∷ l) e)
next_order t before more bad worse (later mid e) = later mid (ap (λ l. t ∷ l) e)

order : (before more : List Token) (bad worse : Token) (rest others : List Token) → before ++ bad ∷ rest ≡ more ++ worse ∷ others → Order before more bad worse
order [] [] bad worse rest others e = same refl (cc)
order [] (t ∷ more) bad worse rest others e = let h : t ≡ bad = cc in sooner more (ap (λ x. x ∷ more) h)
order (t ∷ before) [] bad worse rest others e = let h : t ≡ worse = cc in later before (ap (λ x. x ∷ before) h)
order (t ∷ before) (u ∷ more) bad worse rest others e =
    let h : t ≡ u = cc in
    let d : before ++ bad ∷ rest ≡ more ++ worse ∷ others = cc in
    subst (λ x. Order (t ∷ before) (x ∷ more) bad worse) h (next_order t before more bad worse (order before more bad worse rest others d))

-- none stands before another
not_sooner : (ts : List Token) (a b : Place) (f : First ts a) (g : First ts b) (mid : List Token) → g.before ≡ f.before ++ f.bad ∷ mid → ⊥
not_sooner ts a b f g mid e =
    let c = g.can_be in
    let r : Reads most_nodes ((f.before ++ f.bad ∷ mid) ++ c.0) c.1 = subst (λ l. Reads most_nodes (l ++ c.0) c.1) e c.2 in
    f.none (mid ++ c.0) c.1 (subst (λ l. Reads most_nodes l c.1) (front_of f.before mid c.0 f.bad) r)

pub record SameSplit (before more : List Token) (bad worse : Token) : Type 0 where
  pub fronts : before ≡ more
  pub token : bad ≡ worse

pub one_split : (ts : List Token) (a b : Place) (f : First ts a) (g : First ts b) → SameSplit f.before g.before f.bad g.bad
one_split ts a b f g = of_order (order f.before g.before f.bad g.bad f.splits.after g.splits.after (sym f.splits.whole ∙ g.splits.whole))
  where
    of_order : Order f.before g.before f.bad g.bad → SameSplit f.before g.before f.bad g.bad
    of_order (same e d) = record { fronts = e; token = d }
    of_order (sooner mid e) = absurd (not_sooner ts a b f g mid e)
    of_order (later mid e) = absurd (not_sooner ts b a g f mid e)

pub one_place : (ts : List Token) (a b : Place) → First ts a → First ts b → a ≡ b
one_place ts a b f g = sym f.splits.place ∙ (ap (λ t. t.place) (one_split ts a b f g).token ∙ g.splits.place)

-- no program, and each too deep
pub not_both : (ts : List Token) (a b : Place) → FirstSyntax most_nodes ts a → FirstDeep most_nodes ts b → ⊥
unfolding of_deep of_syntax
not_both ts a b f g =
    let s = one_split ts a b (of_syntax ts a f) (of_deep ts b g) in
    let k = g.begins in
    f.none (k.0, k.1, k.2, subst (λ l. IsProgram (l ++ k.0) k.1 k.2) (sym (ap (λ l. l ++ f.bad ∷ []) s.fronts ∙ ap (λ t. g.before ++ t ∷ []) s.token)) k.3)
