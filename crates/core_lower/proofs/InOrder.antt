-- The functions of a program are lowered in their order.
use Rattle.std.specs.Prelude.{◌^◌, ◌&&◌, ◌||◌, not, All}
use Rattle.std.proofs.Common.{◌≡◌, ◌<◌, ℕ, suc, Bool, true, false, List, [], ◌∷◌, ◌++◌, Option, Some, map, slice_get, get_or, length, refl, sym, ap, subst, ◌∙◌, append_assoc}
use Rattle.std.proofs.lemmas.List.Elements.{All-append, All-nil, All-cons}
use Rattle.std.specs.Option.{option_map}
use Rattle.std.proofs.lemmas.Option.{slice_get-map, slice_get_read}
use Rattle.gc0_tree.specs.declared.Program as made_program
use Rattle.gc0_tree.specs.declared.Function as made_function
use Rattle.gc0_tree.specs.Tree.{Function, Program}
use Rattle.gc0_tree.specs.Views.{program_view, function_view}
use Rattle.core_tree.specs.declared.CoreFunction as made_core
use Rattle.core_tree.specs.CoreTree.{CoreFunction}
use Rattle.core_tree.specs.CoreViews.{core_function_view}
use Rattle.lowering_laws.specs.Lowering.{Beside, lowered_function, lowered_from}
use Rattle.lowering_laws.specs.Tables.{decisions_in, table_in}
use Rattle.core_lower.specs.Lowered.{mark_in, counted_paths}
use Rattle.core_lower.specs.Wholes.{beside_of}
use Rattle.core_lower.specs.Separate.{all_apart}
use Rattle.lowering_laws.specs.Apart.{is_apart}

pub at_index : (P : made_program.Program) (items : List made_function.Function) (i number : ℕ) (F : made_function.Function) → items ≡ P.functions → number ≡ i → i < length items → F ≡ get_or items i F →
    slice_get (program_view P).functions number ≡ Some (function_view F)
at_index P items i number F e en within is =
    ap (λ n. slice_get (map function_view P.functions) n) en ∙ slice_get-map function_view P.functions i
    ∙ ap (λ (l : List made_function.Function). option_map function_view (slice_get l i)) (sym e) ∙ ap (λ o. option_map function_view o) (slice_get_read items (length items) i F refl within is)

pub same_beside : (p : Program) (marks : List Bool) (g : ℕ) (f : Function) (plain : Bool) (paths : ℕ) → plain ≡ mark_in marks g → paths ≡ counted_paths p g → slice_get p.functions g ≡ Some f →
    lowered_function (record { plain = λ h. plain; paths = λ h. paths; decisions = λ h. decisions_in p g (Some f); sites = λ h. table_in p g (Some f) }) p g f ≡ lowered_function (beside_of p marks) p g f
same_beside p marks g f plain paths e1 e2 at =
    let built : Bool → ℕ → Option Function → CoreFunction = λ b m o. lowered_function (record { plain = λ h. b; paths = λ h. m; decisions = λ h. decisions_in p g o; sites = λ h. table_in p g o }) p g f in
    ap (λ b. built b paths (Some f)) e1 ∙ ap (λ m. built (mark_in marks g) m (Some f)) e2 ∙ ap (λ o. built (mark_in marks g) (counted_paths p g) o) (sym at)

map_snoc : {A B : Type 0} (h : A → B) (xs : List A) (x : A) → map h (xs ++ x ∷ []) ≡ map h xs ++ h x ∷ []
map_snoc h [] x = refl
map_snoc h (y ∷ xs) x = ap (λ l. h y ∷ l) (map_snoc h xs x)

pub one_further : (b : Beside) (p : Program) (fs fs' : List made_core.CoreFunction) (x : made_core.CoreFunction) (number number' : ℕ) (F : made_function.Function) (rest whole : List made_function.Function) (all : List CoreFunction) →
    map core_function_view fs ++ lowered_from b p number (map function_view whole) ≡ all → whole ≡ F ∷ rest → number' ≡ suc number → fs' ≡ fs ++ x ∷ [] → core_function_view x ≡ lowered_function b p number (function_view F) →
    map core_function_view fs' ++ lowered_from b p number' (map function_view rest) ≡ all
one_further b p fs fs' x number number' F rest whole all h ew en ef ex =
    let tail : List CoreFunction = lowered_from b p (suc number) (map function_view rest) in
    let seen : List CoreFunction = map core_function_view fs in
    ap (λ (l : List made_core.CoreFunction). map core_function_view l ++ lowered_from b p number' (map function_view rest)) ef
    ∙ ap (λ n. map core_function_view (fs ++ x ∷ []) ++ lowered_from b p n (map function_view rest)) en
    ∙ ap (λ l. l ++ tail) (map_snoc core_function_view fs x)
    ∙ append_assoc seen (core_function_view x ∷ []) tail
    ∙ ap (λ y. seen ++ (y ∷ tail)) ex
    ∙ ap (λ (l : List made_function.Function). seen ++ lowered_from b p number (map function_view l)) (sym ew)
    ∙ h

-- ---- the decisions of each have numbers
pub one_more_few : (fs fs' : List made_core.CoreFunction) (x : made_core.CoreFunction) → All (λ f. length f.decisions < 2 ^ 32) (map core_function_view fs) →
    length x.decisions < 2 ^ 32 → fs' ≡ fs ++ x ∷ [] → All (λ f. length f.decisions < 2 ^ 32) (map core_function_view fs')
one_more_few fs fs' x few one e =
    let here : All (λ f. length f.decisions < 2 ^ 32) (core_function_view x ∷ []) = All-cons (λ f. length f.decisions < 2 ^ 32) (core_function_view x) [] one (All-nil (λ f. length f.decisions < 2 ^ 32)) in
    subst (λ (l : List CoreFunction). All (λ f. length f.decisions < 2 ^ 32) l) (sym (ap (λ (l : List made_core.CoreFunction). map core_function_view l) e ∙ map_snoc core_function_view fs x))
    (All-append (λ f. length f.decisions < 2 ^ 32) (map core_function_view fs) (core_function_view x ∷ []) few here)

-- ---- whether each is apart
either_shared : (s x a r : Bool) → x ≡ not a → (not (s || x) && r) ≡ (not s && (a && r))
either_shared true x a r e = refl
either_shared false x true r e = ap (λ (b : Bool). not b && r) e
either_shared false x false r e = ap (λ (b : Bool). not b && r) e

pub one_more_apart : (p : Program) (number number' : ℕ) (F : made_function.Function) (rest whole : List made_function.Function) (s x t a : Bool) →
    (not s && all_apart number (map function_view whole)) ≡ a → whole ≡ F ∷ rest → number' ≡ suc number → x ≡ not (is_apart number (function_view F)) → t ≡ (s || x) →
    (not t && all_apart number' (map function_view rest)) ≡ a
one_more_apart p number number' F rest whole s x t a h ew en ex et =
    ap (λ (b : Bool). not b && all_apart number' (map function_view rest)) et
    ∙ ap (λ (n : ℕ). not (s || x) && all_apart n (map function_view rest)) en
    ∙ either_shared s x (is_apart number (function_view F)) (all_apart (suc number) (map function_view rest)) ex
    ∙ ap (λ (l : List made_function.Function). not s && all_apart number (map function_view l)) (sym ew)
    ∙ h

none_left : (s a : Bool) → (not s && true) ≡ a → s ≡ not a
none_left true a e = ap not e
none_left false a e = ap not e

pub all_seen : (number : ℕ) (rest : List made_function.Function) (s a : Bool) → (not s && all_apart number (map function_view rest)) ≡ a → rest ≡ [] → s ≡ not a
all_seen number rest s a h e = none_left s a (ap (λ (l : List made_function.Function). not s && all_apart number (map function_view l)) (sym e) ∙ h)
