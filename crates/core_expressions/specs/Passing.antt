-- The arguments of calls, each in a local.
use Rattle.std.specs.Prelude.{◌≡◌, ℕ, List, ◌++◌}
use Rattle.gc0_tree.specs.Tree.{Tree, Trees}
use Rattle.lowering_laws.specs.Counts.{Counts, with_constant, is_constant, args_counted}
use Rattle.lowering_laws.specs.Trees.{join, argument, argument_code, arguments, args_code}
use Rattle.lowering_laws.specs.Tables.{trees_decisions, trees_placed}
use Rattle.core_expressions.specs.declared.within.Within.{Within}
use Rattle.core_expressions.specs.declared.written.Written.{Written}
use Rattle.core_expressions.specs.Writing.{program_of, places_of, room_in, target_of, IsWritten, counts_behind, shape_in, value_in, code_in, decisions_for, placed_for, temp_in}

-- behind an argument
abbrev pub passed_counts : Within → Counts → Tree → Counts
passed_counts w c e = with_constant (is_constant e) (shape_in w e) (counts_behind w c e)

-- the local of one argument, and what was written for it
pub record IsPassed (w : Within) (before after : Written) (c : Counts) (e : Tree) (local : ℕ) : Type 0 where
  pub local_is : local ≡ argument (is_constant e) (temp_in w (shape_in w e) (counts_behind w c e)) (value_in w c e)
  pub written : IsWritten before after (passed_counts w c e)
      (join (code_in w c e) (argument_code (is_constant e) (temp_in w (shape_in w e) (counts_behind w c e)) (value_in w c e)))
      (decisions_for w e) (placed_for w e)

-- the locals of arguments behind others, and what was written for them
pub record ArePassed (w : Within) (before after : Written) (c : Counts) (es : Trees) (others locals : List ℕ) : Type 0 where
  pub locals_are : locals ≡ others ++ arguments (program_of w) (room_in w) (target_of w) c es
  pub written : IsWritten before after (args_counted (program_of w) (room_in w) c es)
      (args_code (program_of w) (room_in w) (target_of w) c es)
      (trees_decisions (program_of w) (places_of w) es) (trees_placed (places_of w) es)
