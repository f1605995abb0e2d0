use Rattle.std.specs.Prelude.{not}
use Rattle.core_tables.specs.Apart.{are_apart}
use Rattle.std.proofs.Common.{◌≡◌, ℕ, List, length, rules, ap, ◌∙◌}
use Rattle.gc0_tree.specs.declared.Shape.{Shape}
use Rattle.gc0_tree.specs.Tree as tree
use Rattle.gc0_tree.specs.Views.{formula_view, function_view, program_view}
use Rattle.core_tree.specs.declared.DecisionAt.{DecisionAt}
use Rattle.core_tree.specs.declared.SiteTable.{SiteTable}
use Rattle.core_tree.specs.CoreTree as core
use Rattle.core_tree.specs.CoreViews.{code_view}
use Rattle.core_tables.specs.declared.PlacedSite.{PlacedSite}
use Rattle.core_tables.specs.SiteTables.{table_of}
use Rattle.lowering_laws.specs.Lowering.{uses, temps_of}
use Rattle.lowering_laws.specs.Tables.{decisions_of, placed_of}
use Rattle.core_lower.proofs.functions.lower_function.Goals as goal

pub returns-clause-function : goal.returns-clause-function
returns-clause-function c =
    let F = c.args.function.now in
    let f : tree.Function = function_view F in
    let p : tree.Program = program_view c.args.program.now in
    let g : ℕ = c.args.known.number in
    let out = c.in_ok-out.out in
    let k = c.in_ok-out.ensures in
    let built : List ℕ → List (List ℕ × Shape) → List Shape → tree.Formula → tree.Formula → List DecisionAt → SiteTable → core.Code → core.CoreFunction =
    λ name locals temps before after decisions sites body. record { name = name; place = F.place; params = F.params; locals = locals; temps = temps; result = F.result; before = before; after = after; plain = c.args.known.plain; paths = c.args.known.paths; decisions = decisions; sites = sites; body = body } in
    let e_name : c.in_ok-name.name ≡ F.name = search rules in
    let e_locals : c.in_ok-locals.locals ≡ F.locals = search rules in
    let e_before : formula_view c.in_ok-before.before ≡ f.before = c.in_ok-before.ensures in
    let e_after : formula_view c.in_ok-after.after ≡ f.after = c.in_ok-after.ensures in
    let e_sites : c.in_ok-sites.sites ≡ table_of g F.place (placed_of g f) (decisions_of p g f) = c.in_ok-sites.ensures ∙ ap (λ (x : List PlacedSite). table_of g F.place x c.as_slice-5.result.now) (c.as_slice-4.ensures ∙ k.placed) ∙ ap (λ (x : List DecisionAt). table_of g F.place (placed_of g f) x) (c.as_slice-5.ensures ∙ k.decisions) in
    let t = c.in_ok-temps.temps.shapes in
    let t1 : List Shape = temps_of (uses p f) (length p.structs) in
    ap (λ x. built x c.in_ok-locals.locals t (formula_view c.in_ok-before.before) (formula_view c.in_ok-after.after) out.decisions c.in_ok-sites.sites (code_view out.code)) e_name
    ∙ ap (λ x. built F.name x t (formula_view c.in_ok-before.before) (formula_view c.in_ok-after.after) out.decisions c.in_ok-sites.sites (code_view out.code)) e_locals
    ∙ ap (λ x. built F.name F.locals x (formula_view c.in_ok-before.before) (formula_view c.in_ok-after.after) out.decisions c.in_ok-sites.sites (code_view out.code)) c.in_ok-temps.ensures.shapes
    ∙ ap (λ x. built F.name F.locals t1 x (formula_view c.in_ok-after.after) out.decisions c.in_ok-sites.sites (code_view out.code)) e_before
    ∙ ap (λ x. built F.name F.locals t1 f.before x out.decisions c.in_ok-sites.sites (code_view out.code)) e_after
    ∙ ap (λ x. built F.name F.locals t1 f.before f.after x c.in_ok-sites.sites (code_view out.code)) k.decisions
    ∙ ap (λ x. built F.name F.locals t1 f.before f.after (decisions_of p g f) x (code_view out.code)) e_sites
    ∙ ap (λ x. built F.name F.locals t1 f.before f.after (decisions_of p g f) (table_of g F.place (placed_of g f) (decisions_of p g f)) x) k.code

pub returns-clause-shared : goal.returns-clause-shared
returns-clause-shared c = c.in_ok-shared.ensures ∙ ap (λ (x : List PlacedSite). not (are_apart x)) (c.as_slice.ensures ∙ c.in_ok-out.ensures.placed)
