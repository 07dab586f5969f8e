-- poll (000, select.3 and select.4 for what is ready at once): 5 if a bit names a closed descriptor; gives each mask's ready bits
use Rattle.std.specs.Prelude.{ℕ, zero, suc, ◌+◌, ◌^◌, ◌/◌, ◌%◌, List, [], ◌∷◌, ◌++◌, Bool, ◌&&◌, ◌||◌, not, cond, ltb, eqb, length, get_or}
use Rattle.state.specs.declared.Socket.{Socket}
use Rattle.state.specs.Places.{socket_in}
use Rattle.laws.specs.Below.{all_below}
use Rattle.host.specs.declared.Host.{Host}
use Rattle.host.specs.Form.{socket_at}
use Rattle.answers.specs.Answers.{polled}
use Rattle.host.specs.Answers.{Outcome, gives, unless}
use Rattle.answers.specs.Tables.{first}
use Rattle.host.specs.Tables.{entry_rows}

-- bit k of a mask
abbrev pub bit : ℕ → ℕ → Bool
bit mask k = eqb (mask / 2 ^ k % 2) 1

-- the bits below n of the mask whose descriptors pass
unfoldable pub ready_below : ℕ → (ℕ → Bool) → ℕ → ℕ
ready_below mask f zero = 0
ready_below mask f (suc n) = ready_below mask f n + cond (bit mask n && f n) (2 ^ n) 0

-- where it is marked, or has an error pending
abbrev pub ready_by : List Socket → List ℕ → ℕ → Bool
ready_by ks marks k = not (eqb (get_or marks k 0) 0) || not (eqb (socket_in ks k).error 0)

-- readable: queue not empty, or error pending
abbrev pub readable_at : Host → ℕ → Bool
readable_at h k = ready_by h.sockets h.queues.counts k

-- writable: out-queue below 16, or error pending
abbrev pub writable_at : Host → ℕ → Bool
writable_at h k = ltb h.out.count 16 || not (eqb (socket_at h k).error 0)

-- every bit names an open descriptor
abbrev pub names_open : List Socket → ℕ → ℕ → Bool
names_open ks mask k = not (bit mask k) || (socket_in ks k).live

unfoldable pub all_open : List Socket → ℕ → Bool
all_open ks mask = all_below (names_open ks mask) 16

abbrev pub poll_refusal : Host → ℕ → ℕ → ℕ → ℕ
poll_refusal h room r w = first (entry_rows h room ++ ((not (all_open h.sockets r && all_open h.sockets w), 5) ∷ []))

unfoldable pub polled_of : Host → List ℕ → ℕ → ℕ → Outcome
polled_of h s r w = unless (poll_refusal h (length s) r w) h s [] (gives h (polled (ready_below r (readable_at h) 16) (ready_below w (writable_at h) 16)) s [])
