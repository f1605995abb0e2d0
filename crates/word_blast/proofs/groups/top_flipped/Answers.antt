use Rattle.std.proofs.Common.{◌≡◌, ◌<◌, length, arith}
use Rattle.word_blast.proofs.Loops.{top_changed-last}
use Rattle.word_blast.proofs.groups.top_flipped.Goals as goal

pub returns : goal.returns
returns c =
    let e : c.len-count.result ≡ length c.in_ok-bits.bits.items = omega (arith, c.len-count.ensures, c.in_ok-bits.bits.ok.0) in
    let some : 0 < length c.in_ok-bits.bits.items = omega arith in
    let last = top_changed-last c.in_ok-bits.bits.items c.index.result.now some in
    rw (c.opposite.ensures, c.index.ensures, e, ← c.in_ok-bits.ensures.items) last
