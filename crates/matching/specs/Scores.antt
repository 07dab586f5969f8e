-- Who gets a datagram: document 01, "Who gets a datagram" (000, 2.3.20: match, score and lookup)
use Rattle.std.specs.Prelude.{ℕ, zero, suc, ◌+◌, List, Option, None, Some, Bool, ◌&&◌, ◌||◌, not, cond, ltb, eqb}
use Rattle.net.specs.declared.Flow.{Flow}
use Rattle.state.specs.declared.Socket.{Socket}
use Rattle.state.specs.Places.{socket_in}
use Rattle.matching.specs.declared.Best.{Best}

-- a part that the socket has must agree
abbrev pub agrees : ℕ → ℕ → Bool
agrees has given = eqb has 0 || eqb has given

-- no local port scores 0; every part that the socket has must agree, or the score is 0
abbrev pub matched : Socket → Flow → Bool
matched s f =
    s.live
    && not (eqb s.lport.0 0)
    && eqb s.lport.0 f.dport.0
    && agrees s.laddr f.dst
    && agrees s.raddr f.src
    && agrees s.rport.0 f.sport.0

-- a part that the socket has counts 1
abbrev pub one : ℕ → ℕ
one has = cond (eqb has 0) 0 1

-- local port alone, 1; local address too, 2; remote address too, 3; remote port too, 4
abbrev pub parts : Socket → ℕ
parts s = 1 + one s.laddr + one s.raddr + one s.rport.0

unfoldable pub score_of : Socket → Flow → ℕ
score_of s f = cond (matched s f) (parts s) 0

-- the better of what was found so far and the next socket: only a greater score takes over
abbrev pub better : Best → ℕ → ℕ → Best
better b i s = cond (ltb b.score s) (record { at = i; score = s }) b

-- among the sockets below n
unfoldable pub best_below : List Socket → Flow → ℕ → Best
best_below ks f zero = record { at = 0; score = 0 }
best_below ks f (suc n) = better (best_below ks f n) n (score_of (socket_in ks n) f)

-- the greatest nonzero score wins, the lowest descriptor among equals (000 allows any best one)
abbrev pub best_of : List Socket → Flow → Best
best_of ks f = best_below ks f 16

-- score 0: nobody
abbrev pub found : Best → Option Best
found b = cond (eqb b.score 0) None (Some b)
