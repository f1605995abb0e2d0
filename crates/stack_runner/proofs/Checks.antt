-- The instructions of a built code are built.
use Rattle.std.proofs.Common.{◌≡◌, ℕ, List, map, Some, ap, ◌∙◌, slice_get, IfSome}
use Rattle.std.specs.Bool.{⊤}
use Rattle.std.specs.Option.{option_map}
use Rattle.std.proofs.lemmas.Option.{slice_get-map, MatchOption-at_some}
use Rattle.stack_code.specs.declared.instr.Instr.{Instr}
use Rattle.stack_code.specs.declared.instr.FunctionCode.{FunctionCode}
use Rattle.stack_code.specs.Views.{instr_view, body_view}
use Rattle.stack_code.specs.Instrs as instr
use Rattle.stack_runner.specs.Built.{IsBuiltInstr, AreBuiltInstrs, HasBuiltInstrs}

pub viewed_at : {A B : Type 0} (v : A → B) (xs : List A) (k : ℕ) (x : A) → slice_get xs k ≡ Some x → slice_get (map v xs) k ≡ Some (v x)
viewed_at v xs k x e = slice_get-map v xs k ∙ ap (option_map v) e

pub built_instr : (is : List Instr) (k : ℕ) (x : Instr) → slice_get is k ≡ Some x → AreBuiltInstrs (map instr_view is) → IsBuiltInstr (instr_view x)
built_instr is k x e h = MatchOption-at_some ⊤ IsBuiltInstr (instr_view x) (viewed_at instr_view is k x e) (h k)

pub built_function : (fs : List FunctionCode) (k : ℕ) (x : FunctionCode) → slice_get fs k ≡ Some x → ((n : ℕ) → IfSome (slice_get (map body_view fs) n) HasBuiltInstrs) → HasBuiltInstrs (body_view x)
built_function fs k x e h = MatchOption-at_some ⊤ HasBuiltInstrs (body_view x) (viewed_at body_view fs k x e) (h k)
