use Rattle.std.proofs.Common.{rules, ◌≡◌}
use Rattle.std.specs.Option.{option_map_or}
use Rattle.matching.specs.Scores.{best_below}
use Rattle.matching.proofs.scoring.winner.Goals as goal
use Rattle.matching.proofs.scoring.winner.Goals.{then-map_or-score, else-map_or-score}
use Rattle.matching.proofs.Winner.{best_new, best_kept}

pub loop-at-init : goal.loop-at-init
unfolding best_below
loop-at-init c = search rules

pub loop-at-preserved : goal.loop-at-preserved
loop-at-preserved c =
    let m : c.map_or.result ≡ option_map_or (λ b. b.score) c.loop-at.best 0 = search rules in
    elim c.if-map_or-score.branch [
      | then-map_or-score w ↦ best_new _ _ _ c.loop-at.invariant m c.score-score.ensures w.best-is w.if-map_or-score.true
      | else-map_or-score w ↦ best_kept _ _ _ c.loop-at.invariant m c.score-score.ensures w.best-is w.if-map_or-score.false
    ]
