-- geterr, getopt, setopt
use Rattle.std.specs.Prelude.{ℕ, List, [], ◌∷◌, ◌++◌, Bool, ◌&&◌, not, cond, eqb, length}
use Rattle.state.specs.declared.Socket.{Socket}
use Rattle.binding.specs.Sockets.{with_error, with_options}
use Rattle.host.specs.declared.Host.{Host}
use Rattle.host.specs.Form.{socket_at}
use Rattle.answers.specs.Answers.{plain, valued}
use Rattle.host.specs.Answers.{Outcome, gives, unless}
use Rattle.host.specs.Moves.{with_socket}
use Rattle.answers.specs.Tables.{first, unknown_option}
use Rattle.host.specs.Tables.{call_rows}
use Rattle.host.specs.Naming.{call_refusal}

-- socket k without its pending error
abbrev pub without_error : Host → ℕ → Host
without_error h k = with_socket h k (with_error (socket_at h k) 0)

-- ---- geterr (000, geterr.1): answers 0, gives the pending error, clears it

unfoldable pub error_given : Host → List ℕ → ℕ → Outcome
error_given h s k = unless (call_refusal h (length s) k) h s [] (gives (without_error h k) (valued (socket_at h k).error) s [])

-- ---- getopt, setopt (000, getsockopt.1, setsockopt.1): 1 bsdcompat, 2 reuse; another number is 6

abbrev pub option_refusal : Host → ℕ → ℕ → ℕ → ℕ
option_refusal h room k o = first (call_rows h room k ++ ((unknown_option o, 6) ∷ []))

-- as a number, 0 or 1
abbrev pub option_of : Socket → ℕ → ℕ
option_of s o = cond (cond (eqb o 1) s.bsdcompat s.reuse) 1 0

unfoldable pub option_given : Host → List ℕ → ℕ → ℕ → Outcome
option_given h s k o = unless (option_refusal h (length s) k o) h s [] (gives h (valued (option_of (socket_at h k) o)) s [])

-- setting reuse, to either value, once there is a local port is 6
abbrev pub set_refusal : Host → ℕ → ℕ → ℕ → ℕ
set_refusal h room k o = first (call_rows h room k ++ ((unknown_option o, 6) ∷ (eqb o 2 && not (eqb (socket_at h k).lport.0 0), 6) ∷ []))

abbrev pub with_option : Socket → ℕ → Bool → Socket
with_option s o on = with_options s (cond (eqb o 1) on s.bsdcompat) (cond (eqb o 1) s.reuse on)

unfoldable pub option_set : Host → List ℕ → ℕ → ℕ → Bool → Outcome
option_set h s k o on = unless (set_refusal h (length s) k o) h s [] (gives (with_socket h k (with_option (socket_at h k) o on)) (plain 0) s [])
