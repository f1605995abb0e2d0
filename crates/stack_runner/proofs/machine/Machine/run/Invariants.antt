use Rattle.std.proofs.Common.{◌≡◌, ◌≤◌, ◌<◌, ◌+◌, ◌-◌, ◌*◌, map}
use Rattle.gc0_base.specs.declared.word.Word.{Word}
use Rattle.stack_code.specs.Views.{code_view}
use Rattle.stack_runner.specs.Runs.{seen_of, words_in}
use Rattle.stack_runner.specs.States.{IsFine}
use Rattle.stack_runner.proofs.Taken.{IsSoFar}
use Rattle.stack_runner.proofs.machine.Machine.run.Given as goal

abbrev pub invariant-loop-round : goal.invariant-loop-round
invariant-loop-round g l = record {
  fine : IsFine l.state;
  end : l._round-end ≡ l.self.steps + 2;
  within : l._round ≤ l._round-end;
  so_far : IsSoFar (g.O.Sink.taken l.fn.out) (g.O.Sink.taken l.out) (seen_of l.self) ((l._round-end - l._round) * l.self.turns) (code_view l.self.code.now) (words_in l.self) l.state;
  later : g.O.Sink.faults l.fn.out ≤ g.O.Sink.faults l.out;
}

abbrev pub invariant-loop-turn : goal.invariant-loop-turn
invariant-loop-turn g l = record {
  fine : IsFine l.state;
  end : l._round-end ≡ l.self.steps + 2;
  before : l._round < l._round-end;
  turns : l._turn-end ≡ l.self.turns;
  within : l._turn ≤ l._turn-end;
  so_far : IsSoFar (g.O.Sink.taken l.fn.out) (g.O.Sink.taken l.out) (seen_of l.self) ((l._round-end - (l._round + 1)) * l.self.turns + (l._turn-end - l._turn)) (code_view l.self.code.now) (words_in l.self) l.state;
  later : g.O.Sink.faults l.fn.out ≤ g.O.Sink.faults l.out;
}
