-- Document 01's cases marked P hold, all in one statement.
-- Assumes nothing.
use mathlib.Core.Path.{◌≡◌, refl}
use mathlib.Core.Bool.{true}
use Rattle.laws.specs.Below.{all_below, lowest}
use Rattle.laws.specs.Places.{copies}
use Rattle.state.specs.Interfaces.{own}
use Rattle.matching.specs.Scores.{score_of, best_below}
use Rattle.matching.specs.Ports.{in_use, port_free, auto_port}
use Rattle.queues.specs.Moves.{with_head, no_queues}
use Rattle.outqueue.specs.Moves.{with_item, no_items}
use Rattle.delivery.specs.Landing.{delivering, settled, noticing}
use Rattle.cases.specs.Table.{table, rows_hold}

pub cases : rows_hold table ≡ true
unfolding table delivering settled noticing with_head with_item no_queues no_items copies score_of best_below in_use port_free auto_port own all_below lowest
cases = refl
