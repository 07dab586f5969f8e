-- Who hears of a notice: document 01, "Arriving notice" (000, delivery.in.icmp.1 and .2, delivery.loopback.icmp.1 and .2)
use Rattle.std.specs.Prelude.{ℕ, List, Bool, ◌||◌, not, cond, eqb}
use Rattle.net.specs.declared.Flow.{Flow}
use Rattle.state.specs.declared.Socket.{Socket}
use Rattle.state.specs.Places.{socket_in}
use Rattle.matching.specs.declared.Best.{Best}
use Rattle.matching.specs.Scores.{best_of}
use Rattle.delivery.specs.declared.Hearing.{Hearing}
use Rattle.delivery.specs.declared.Hearing.TheVariants.{Heard, NotTold, Nobody}

-- the embedded source as local side, the embedded destination as remote side; 000's printed rule has them in datagram order
abbrev pub turned : Flow → Flow
turned f = record { src = f.dst; dst = f.src; sport = f.dport; dport = f.sport }

-- the socket that sent what the notice embeds: the best match of an answer to it
abbrev pub sender_of : List Socket → Flow → Best
sender_of ks f = best_of ks (turned f)

-- there is a remote address, or bsdcompat is off
abbrev pub listens : Socket → Bool
listens s = not (eqb s.raddr 0) || not s.bsdcompat

-- document 01's number, and the descriptor with 27 and 28
pub record Sought : Type 0 where
  pub at : ℕ
  pub number : ℕ

abbrev pub heard_as : Hearing → Sought
heard_as (Heard d) = record { at = d.0; number = 27 }
heard_as (NotTold d) = record { at = d.0; number = 28 }
heard_as Nobody = record { at = 0; number = 29 }

-- 27 its pending error becomes 10; 28 any other winner; 29 no winner
unfoldable pub hearing : List Socket → Flow → Sought
hearing ks f =
    cond (eqb (sender_of ks f).score 0) (record { at = 0; number = 29 })
    (record { at = (sender_of ks f).at; number = cond (listens (socket_in ks (sender_of ks f).at)) 27 28 })
