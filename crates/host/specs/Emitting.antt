-- The out step: document 01, "Out step"
use Rattle.std.specs.Prelude.{ℕ, ◌≤◌, List, [], ◌∷◌, ◌++◌, Bool, cond, ltb, eqb, length}
use Rattle.laws.specs.Places.{part, splice}
use Rattle.net.specs.Address.{loopback, martian}
use Rattle.state.specs.declared.OutItem.{OutItem}
use Rattle.outqueue.specs.Moves.{destination_of, removed, Some}
use Rattle.delivery.specs.Landing.{looping}
use Rattle.host.specs.declared.Host.{Host}
use Rattle.host.specs.Form.{item_at}
use Rattle.answers.specs.Answers.{plain, emitted}
use Rattle.host.specs.Answers.{Outcome, outcome, gives, unless}
use Rattle.host.specs.Moves.{with_out}
use Rattle.answers.specs.Tables.{first}
use Rattle.host.specs.Tables.{ready_rows}
use Rattle.host.specs.Entered.{Ready}
use Rattle.host.specs.Arrivals.{landed_in, heard_step}

-- buffer at least 512, else 16; 31 empty
abbrev pub out_rows : Host → ℕ → ℕ → List (Bool × ℕ)
out_rows h room lent = ready_rows h room ++ ((ltb lent 512, 16) ∷ (eqb h.out.count 0, 31) ∷ [])

-- the oldest item, and the host and the store without it
abbrev pub oldest_item : Host → OutItem
oldest_item h = item_at h 0

abbrev pub without_oldest : Host → List ℕ → Host
without_oldest h s = with_out h (removed h.out s).out

abbrev pub bytes_without : Host → List ℕ → List ℕ
bytes_without h s = (removed h.out s).bytes

-- loopback destination, handled inside: a datagram lands (000, delivery.loopback.udp.1 and .2), a notice is heard (delivery.loopback.icmp.1 and .2)
unfoldable pub handled_inside : Host → List ℕ → List ℕ → Outcome
handled_inside h s b =
    cond (eqb (oldest_item h).kind 0) (landed_in h (looping h.sockets h.queues h.out s) b)
    (outcome (heard_step (without_oldest h s) (oldest_item h).flow) (bytes_without h s) b)

-- the oldest item is removed: 32 martian destination, discarded (000, delivery.out.martian); otherwise 30, emitted with payload (delivery.out.1), loopback sources too
unfoldable pub leaving : Host → List ℕ → List ℕ → Outcome
leaving h s b =
    cond (loopback (destination_of (oldest_item h))) (handled_inside h s b)
    (cond (martian (destination_of (oldest_item h))) (gives (without_oldest h s) (plain 32) (bytes_without h s) b)
    (gives (without_oldest h s) (emitted (oldest_item h)) (bytes_without h s) (splice b 0 (part s 32768 (oldest_item h).len))))

unfoldable pub stepped : Host → List ℕ → List ℕ → Outcome
stepped h s b = unless (first (out_rows h (length s) (length b))) h s b (leaving h s b)

-- ---- what is known once its rows are passed

pub record Leaving (h : Host) (s : List ℕ) (lent : ℕ) : Type 0 where
  pub ready : Ready h (length s)
  pub some : Some h.out s
  pub room : 512 ≤ lent
