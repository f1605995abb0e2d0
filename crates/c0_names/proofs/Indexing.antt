-- An index of names after a name was put at the end or taken out.
use Rattle.std.proofs.Common.{◌≡◌, ℕ, zero, suc, Bool, true, false, cond, List, [], ◌∷◌, ◌++◌, length, map, Option, Some, None, refl, sym, ap, ◌∙◌, subst, append_assoc}
use Rattle.std.specs.Str.{bytes_eq}
use Rattle.std.specs.HashMap.{HashMap, get_by, UpdatesBy}
use Rattle.std.proofs.lemmas.List.{same_from_push, map-append}
use Rattle.std.proofs.lemmas.Map.Text.{hash_map_updates_str}
use Rattle.std.proofs.lemmas.Slice.Eq.{bytes_eq-Decides}
use denote.Ref.{Bor}
use Rattle.std.proofs.lemmas.List.{length-map}
use Rattle.c0_names.specs.declared.index.Entry.{Entry}
use Rattle.c0_names.specs.Names.{or_here, last_place, front}
use Rattle.c0_names.specs.Indexed.{flat, shadowed, IsIndexed}

-- the last place of a name, with one more name at the end
pub last_place-push : (ns : List (List ℕ)) (n q : List ℕ) → last_place (ns ++ n ∷ []) q ≡ cond (bytes_eq n q) (Some (length ns)) (last_place ns q)
last_place-push [] n q = by (bytes_eq n q)
  where
    by : (b : Bool) → or_here b None ≡ cond b (Some zero) None
    by true = refl
    by false = refl
last_place-push (x ∷ ns) n q = ap (or_here (bytes_eq x q)) (last_place-push ns n q) ∙ by (bytes_eq n q)
  where
    by : (b : Bool) → or_here (bytes_eq x q) (cond b (Some (length ns)) (last_place ns q)) ≡ cond b (Some (suc (length ns))) (or_here (bytes_eq x q) (last_place ns q))
    by true = refl
    by false = refl

pub shadowed-push : (behind ns : List (List ℕ)) (n : List ℕ) → shadowed behind (ns ++ n ∷ []) ≡ shadowed behind ns ++ last_place (behind ++ ns) n ∷ []
shadowed-push behind [] n = ap (λ l. last_place l n ∷ []) (sym (append_nil behind))
  where
    append_nil : (l : List (List ℕ)) → l ++ [] ≡ l
    append_nil [] = refl
    append_nil (x ∷ l) = ap (λ r. x ∷ r) (append_nil l)
shadowed-push behind (x ∷ ns) n =
    ap (λ l. last_place behind x ∷ l) (shadowed-push (behind ++ x ∷ []) ns n ∙ ap (λ l. shadowed (behind ++ x ∷ []) ns ++ last_place l n ∷ []) (append_assoc behind (x ∷ []) ns))

pub front-push : (ns : List (List ℕ)) (n : List ℕ) → front (ns ++ n ∷ []) ≡ ns
front-push [] n = refl
front-push (x ∷ []) n = refl
front-push (x ∷ y ∷ ns) n = ap (λ l. x ∷ l) (front-push (y ∷ ns) n)

module _ {S : Type 0} (m w : HashMap (Bor (List ℕ)) (Option ℕ) S) where
  pub pushed : (names : List (List ℕ)) (before : List (Option ℕ)) (n : List ℕ) → IsIndexed names before m
      → UpdatesBy (λ x y. bytes_eq x.now y.now) (λ k. bytes_eq n k.now) m w (Some (Some (length names)))
      → IsIndexed (names ++ n ∷ []) (before ++ last_place names n ∷ []) w
  pushed names before n i u = record {
    found = λ q. ap flat (hash_map_updates_str n m w (Some (Some (length names))) u q) ∙ by q (bytes_eq n q) ∙ sym (last_place-push names n q);
    shadows = ap (λ l. l ++ last_place names n ∷ []) i.shadows ∙ sym (shadowed-push [] names n);
  }
    where
      by : (q : List ℕ) (b : Bool) → flat (cond b (Some (Some (length names))) (get_by (λ k. bytes_eq q k.now) m)) ≡ cond b (Some (length names)) (last_place names q)
      by q true = refl
      by q false = i.found q

  pub popped : (names : List (List ℕ)) (before : List (Option ℕ)) (n : List ℕ) (b : Option ℕ) → IsIndexed (names ++ n ∷ []) (before ++ b ∷ []) m
      → UpdatesBy (λ x y. bytes_eq x.now y.now) (λ k. bytes_eq n k.now) m w (Some b)
      → IsIndexed names before w
  popped names before n b i u = record {
    found = λ q. ap flat (hash_map_updates_str n m w (Some b) u q) ∙ by q (bytes_eq n q) refl;
    shadows = both.0;
  }
    where
      both : (before ≡ shadowed [] names) × (b ≡ last_place names n)
      both = same_from_push before (shadowed [] names) b (last_place names n) (i.shadows ∙ shadowed-push [] names n)

      by : (q : List ℕ) (t : Bool) → bytes_eq n q ≡ t → flat (cond t (Some b) (get_by (λ k. bytes_eq q k.now) m)) ≡ last_place names q
      by q true e = both.1 ∙ ap (last_place names) ((bytes_eq-Decides n q).0 e)
      by q false e = i.found q ∙ last_place-push names n q ∙ ap (λ t. cond t (Some (length names)) (last_place names q)) e

  -- a name that stands there has a place
  pub stands : (names : List (List ℕ)) (before : List (Option ℕ)) (n : List ℕ) → IsIndexed (names ++ n ∷ []) before m → get_by (λ k. bytes_eq n k.now) m ≡ None → ⊥
  stands names before n i none =
      let here : bytes_eq n n ≡ true = (bytes_eq-Decides n n).1 refl in
      let e : None ≡ Some (length names) = ap flat (sym none) ∙ i.found n ∙ last_place-push names n n ∙ ap (λ t. cond t (Some (length names)) (last_place names n)) here in
      cc

abbrev pub names_of : List Entry → List (List ℕ)
names_of es = map (λ e. e.name.now) es

abbrev pub shadows_of : List Entry → List (Option ℕ)
shadows_of es = map (λ e. e.before) es

module _ {S : Type 0} (m w : HashMap (Bor (List ℕ)) (Option ℕ) S) where
  pub pushed_entry : (es made : List Entry) (e : Entry) (place : ℕ) → made ≡ es ++ e ∷ [] → IsIndexed (names_of es) (shadows_of es) m
      → e.before ≡ last_place (names_of es) e.name.now → place ≡ length es
      → UpdatesBy (λ x y. bytes_eq x.now y.now) (λ k. bytes_eq e.name.now k.now) m w (Some (Some place))
      → IsIndexed (names_of made) (shadows_of made) w
  pushed_entry es made e place p i b at u =
      let names : names_of made ≡ names_of es ++ e.name.now ∷ [] = ap names_of p ∙ map-append _ es (e ∷ []) in
      let shadows : shadows_of made ≡ shadows_of es ++ last_place (names_of es) e.name.now ∷ [] = ap shadows_of p ∙ map-append _ es (e ∷ []) ∙ ap (λ x. shadows_of es ++ x ∷ []) b in
      let far : place ≡ length (names_of es) = at ∙ sym (length-map es (λ x. x.name.now)) in
      let u2 : UpdatesBy (λ x y. bytes_eq x.now y.now) (λ k. bytes_eq e.name.now k.now) m w (Some (Some (length (names_of es)))) = subst (λ n. UpdatesBy (λ x y. bytes_eq x.now y.now) (λ k. bytes_eq e.name.now k.now) m w (Some (Some n))) far u in
      subst (λ l. IsIndexed l (shadows_of made) w) (sym names) (subst (λ l. IsIndexed (names_of es ++ e.name.now ∷ []) l w) (sym shadows) (pushed m w (names_of es) (shadows_of es) e.name.now i u2))

  whole : (es left : List Entry) (e : Entry) → es ≡ left ++ e ∷ [] → IsIndexed (names_of es) (shadows_of es) m → IsIndexed (names_of left ++ e.name.now ∷ []) (shadows_of left ++ e.before ∷ []) m
  whole es left e p i =
      let names : names_of es ≡ names_of left ++ e.name.now ∷ [] = ap names_of p ∙ map-append _ left (e ∷ []) in
      let shadows : shadows_of es ≡ shadows_of left ++ e.before ∷ [] = ap shadows_of p ∙ map-append _ left (e ∷ []) in
      subst (λ l. IsIndexed l (shadows_of left ++ e.before ∷ []) m) names (subst (λ l. IsIndexed (names_of es) l m) shadows i)

  pub popped_entry : (es left : List Entry) (e : Entry) → es ≡ left ++ e ∷ [] → IsIndexed (names_of es) (shadows_of es) m
      → UpdatesBy (λ x y. bytes_eq x.now y.now) (λ k. bytes_eq e.name.now k.now) m w (Some e.before)
      → IsIndexed (names_of left) (shadows_of left) w
  popped_entry es left e p i u = popped m w (names_of left) (shadows_of left) e.name.now e.before (whole es left e p i) u

  pub stands_entry : (es left : List Entry) (e : Entry) → es ≡ left ++ e ∷ [] → IsIndexed (names_of es) (shadows_of es) m
      → get_by (λ k. bytes_eq e.name.now k.now) m ≡ None → ⊥
  stands_entry es left e p i none = stands m w (names_of left) (shadows_of left ++ e.before ∷ []) e.name.now (whole es left e p i) none

pub front_entry : (es left : List Entry) (e : Entry) → es ≡ left ++ e ∷ [] → names_of left ≡ front (names_of es)
front_entry es left e p = sym (front-push (names_of left) e.name.now) ∙ ap front (sym (ap names_of p ∙ map-append _ left (e ∷ [])))
