use Rattle.std.proofs.Common.{◌≡◌}
use Rattle.matching.specs.Scores.{best_below, found}
use Rattle.matching.proofs.scoring.winner.Given as goal

abbrev pub invariant-loop-at : goal.invariant-loop-at
invariant-loop-at l = l.best ≡ found (best_below l.sockets l.f l.at)
