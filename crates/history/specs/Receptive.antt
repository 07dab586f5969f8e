-- The numbers that each step may give, where record and store are as they should be and the thread runs
use Rattle.std.specs.Prelude.{List, [], ◌∷◌, Bool, true, false, ◌&&◌, ◌||◌, ℕ, eqb}
use Rattle.history.specs.Steps.{Step, socket, bind, connect, disconnect, getsockname, getpeername, geterr, getopt, setopt, sendto, recvfrom, resume, interrupt, poll, close, exit, datagram, notice, outstep}

-- the number is in the list
abbrev pub among : ℕ → List ℕ → Bool
among n [] = false
among n (m ∷ ms) = eqb n m || among n ms

-- the test holds of every number of the list
abbrev pub each : (ℕ → Bool) → List ℕ → Bool
each p [] = true
each p (m ∷ ms) = p m && each p ms

abbrev pub numbers_of : Step → List ℕ
numbers_of socket = 0 ∷ 15 ∷ []
numbers_of (bind k a p) = 0 ∷ 5 ∷ 6 ∷ 7 ∷ 8 ∷ 9 ∷ []
numbers_of (connect k a p) = 0 ∷ 5 ∷ 6 ∷ 13 ∷ []
numbers_of (disconnect k) = 0 ∷ 5 ∷ []
numbers_of (getsockname k) = 0 ∷ 5 ∷ []
numbers_of (getpeername k) = 0 ∷ 5 ∷ 12 ∷ []
numbers_of (geterr k) = 0 ∷ 5 ∷ []
numbers_of (getopt k o) = 0 ∷ 5 ∷ 6 ∷ []
numbers_of (setopt k o on) = 0 ∷ 5 ∷ 6 ∷ []
numbers_of (sendto k a p payload) = 0 ∷ 5 ∷ 6 ∷ 10 ∷ 11 ∷ 12 ∷ 13 ∷ 14 ∷ []
numbers_of (recvfrom k nonblocking b) = 0 ∷ 5 ∷ 10 ∷ 14 ∷ 16 ∷ 18 ∷ []
numbers_of (resume b) = 0 ∷ 6 ∷ 10 ∷ 16 ∷ 18 ∷ []
numbers_of interrupt = 0 ∷ 6 ∷ []
numbers_of (poll r v) = 0 ∷ 5 ∷ []
numbers_of (close k) = 0 ∷ 5 ∷ []
numbers_of exit = 0 ∷ []
numbers_of (datagram f p) = 20 ∷ 21 ∷ 22 ∷ 23 ∷ 24 ∷ 25 ∷ 26 ∷ []
numbers_of (notice src dst f) = 24 ∷ 25 ∷ 27 ∷ 28 ∷ 29 ∷ []
numbers_of (outstep b) = 16 ∷ 20 ∷ 21 ∷ 22 ∷ 23 ∷ 27 ∷ 28 ∷ 29 ∷ 30 ∷ 31 ∷ 32 ∷ []
