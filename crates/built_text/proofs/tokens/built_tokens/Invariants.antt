-- What holds at the loop of `built_tokens`.
use Rattle.std.proofs.Common.{◌≡◌, take}
use Rattle.built_text.specs.Tokens.{all_built}
use Rattle.built_text.proofs.tokens.built_tokens.Given as goal

abbrev pub invariant-loop-token : goal.invariant-loop-token
invariant-loop-token l = l.taken.items ≡ all_built (take l.token-index l.tokens)
