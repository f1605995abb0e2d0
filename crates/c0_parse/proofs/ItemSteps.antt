-- Items by their first token, and the lists in them.
use Rattle.std.proofs.Common.{◌≡◌, ℕ, max, true, List, [], ◌∷◌, ◌++◌, refl, sym, ap, ◌∙◌, append_assoc}
use Rattle.gc0_base.specs.declared.place.Place.{Place}
use Rattle.c0_lex.specs.declared.token.Token.{Token}
use Rattle.c0_lex.specs.declared.token.TokenKind.{TokenKind}
use Rattle.c0_lex.specs.declared.token.Symbol.TheVariants as mark
use Rattle.parsed_tree.specs.declared.items.Field.{Field}
use Rattle.parsed_tree.specs.declared.items.Param.{Param}
use Rattle.parsed_tree.specs.Tree.{ItemTree}
use Rattle.c0_grammar.specs.Tokens.{sign_mark, end_mark, What, fixed, name_what, number_what, text_what, token}
use Rattle.c0_grammar.specs.Plan.{is, Plan, await, items, typed, type_step, typed_head, after_item, items_step, step}
use Rattle.c0_cursor.specs.Seen.{starts, reading, stepping}
use Rattle.c0_grammar.specs.Seen.{what_of}
use Rattle.c0_parse.specs.Read.{params_then, fields_then}
use Rattle.c0_parse.proofs.Parts.{typed_step}

pub params_more : (ps : List Param) (next : List Param → Plan) (x : Param) → ◌≡◌ {A = List Param → ℕ → Plan} (λ others d. params_then ps next (x ∷ others) (max 0 d)) (params_then (ps ++ x ∷ []) next)
params_more ps next x = λ i others d. await 0 (sign_mark mark.CloseParen) (λ b. next (sym (append_assoc ps (x ∷ []) others) i))

pub fields_more : (fs : List Field) (next : List Field → Plan) (x : Field) → ◌≡◌ {A = List Field → ℕ → Plan} (λ others d. fields_then fs next (x ∷ others) (max 0 d)) (fields_then (fs ++ x ∷ []) next)
fields_more fs next x = λ i others d. await 0 (sign_mark mark.CloseBrace) (λ b. await 0 (sign_mark mark.Semicolon) (λ c. next (sym (append_assoc fs (x ∷ []) others) i)))

-- ---- an item by its first token
pub item_at : (names : List (List ℕ)) (next : List ItemTree → ℕ → Plan) (t : Token) (ts : List Token) (k : TokenKind) → t.kind ≡ k → reading (items names next) (t ∷ ts) ≡ stepping (items_step names next (what_of k t.text.now) t.place) t.place ts
item_at names next t ts k e = ap (λ z. stepping (items_step names next (what_of z t.text.now) t.place) t.place ts) e

abbrev pub no_more : (List ItemTree → ℕ → Plan) → Place → Plan
no_more next e = next [] 0

end_step : (names : List (List ℕ)) (next : List ItemTree → ℕ → Plan) (w : What) (at : Place) → is end_mark w ≡ true → items_step names next w at ≡ step (await 0 end_mark (no_more next)) (token w at)
end_step names next (fixed end_mark) at e = refl
end_step names next (fixed f) at e = cc
end_step names next (name_what n) at e = cc
end_step names next (number_what w) at e = cc
end_step names next (text_what b) at e = cc

pub items_end : (names : List (List ℕ)) (next : List ItemTree → ℕ → Plan) (ts : List Token) → starts end_mark ts ≡ true → reading (items names next) ts ≡ reading (await 0 end_mark (no_more next)) ts
items_end names next [] e = cc
items_end names next (t ∷ ts) e = ap (λ s. stepping s t.place ts) (end_step names next (what_of t.kind t.text.now) t.place e)

pub item_typed : (names : List (List ℕ)) (next : List ItemTree → ℕ → Plan) (t : Token) (ts : List Token) → items_step names next (what_of t.kind t.text.now) t.place ≡ type_step names 0 (typed_head names (after_item names next)) (what_of t.kind t.text.now) t.place → reading (items names next) (t ∷ ts) ≡ reading (typed names (typed_head names (after_item names next))) (t ∷ ts)
item_typed names next t ts e = ap (λ s. stepping s t.place ts) (e ∙ typed_step names (typed_head names (after_item names next)) (what_of t.kind t.text.now) t.place)
