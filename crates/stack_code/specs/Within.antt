-- What the code of a statement is written within: a function of a program, and the numbers of its sites.
use Rattle.std.specs.Prelude.{◌≡◌, ℕ, List, [], map, Option, Some, None, length, ◌∷◌, ◌++◌, slice_set}
use Rattle.gc0_base.specs.declared.site.Kind.{Kind}
use Rattle.gc0_base.specs.declared.site.Kind.TheVariants as kind
use Rattle.gc0_tree.specs.declared.Function.{Function}
use Rattle.gc0_tree.specs.declared.numbers.SiteNumbers.{SiteNumbers}
use Rattle.gc0_tree.specs.Tree as tree
use Rattle.gc0_tree.specs.Sites.{Places, sites_of}
use Rattle.gc0_tree.specs.Views.{function_view, program_view}
use Rattle.stack_code.specs.declared.within.Within.{Within}
use Rattle.stack_code.specs.declared.buffer.Buffer.{Buffer}
use Rattle.stack_code.specs.Instrs as instr
use Rattle.stack_code.specs.Coding.{stmts_code}
use Rattle.stack_code.specs.Views.{instr_view}

abbrev pub program_of : Within → tree.Program
program_of w = program_view w.program.now

abbrev pub function_of : Within → tree.Function
function_of w = function_view w.function.now

abbrev pub places_of : Within → Places
places_of w = sites_of w.number (function_of w)

-- the numbers of one kind in a function
pub record AreOf (f : Function) (g : ℕ) (k : Kind) (n : SiteNumbers) : Type 0 where
  pub function : n.function.now ≡ f
  pub number : n.number ≡ g
  pub kind : n.kind ≡ k

pub record IsWithin (w : Within) : Type 0 where
  pub calls : AreOf w.function.now w.number kind.Requires w.calls
  pub returns : AreOf w.function.now w.number kind.Ensures w.returns
  pub first_heads : AreOf w.function.now w.number kind.Entry w.first_heads
  pub later_heads : AreOf w.function.now w.number kind.Again w.later_heads
  pub asserts : AreOf w.function.now w.number kind.Assert w.asserts

-- the instructions that are written so far
abbrev pub shown : Buffer → List instr.Instr
shown b = map instr_view b.instrs.items

-- Where the first side of a choice is written: without `else` the jump past it is set, and with `else` the other side
-- follows, behind a jump past it.
abbrev pub else_written : Within → List instr.Instr → ℕ → tree.Stmts → List instr.Instr
else_written w c hole tree.no_stmts = slice_set c hole (instr.jumpfalse (length c))
else_written w c hole (tree.stmt_and b bs) =
    let opened = slice_set (c ++ instr.jump 0 ∷ []) hole (instr.jumpfalse (length (c ++ instr.jump 0 ∷ []))) in
    let all = opened ++ stmts_code (program_of w) (function_of w) (places_of w) (length opened) (tree.stmt_and b bs) in
    slice_set all (length c) (instr.jump (length all))

-- behind the body of a loop: the check at the next head, the jump back to the test, and past both the end of the loop
abbrev pub back_written : List instr.Instr → instr.Instr → ℕ → ℕ → List instr.Instr
back_written c again from hole =
    let all = c ++ (again ∷ instr.jump from ∷ []) in
    slice_set all hole (instr.jumpfalse (length all))
