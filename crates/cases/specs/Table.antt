-- Every case marked P in document 01: what is computed beside what it has to be
use Rattle.std.specs.Prelude.{ℕ, List, [], ◌∷◌, Bool, true, ◌&&◌, cond, eqb}
use Rattle.net.specs.Address.{loopback, martian}
use Rattle.net.specs.declared.Flow.{Flow}
use Rattle.state.specs.declared.Socket.{Socket}
use Rattle.state.specs.Places.{socket_in}
use Rattle.matching.specs.Scores.{score_of, best_of}
use Rattle.matching.specs.Ports.{auto_port}
use Rattle.queues.specs.Moves.{head_of, no_queues}
use Rattle.outqueue.specs.Moves.{no_items}
use Rattle.delivery.specs.Landing.{Landed, landing}
use Rattle.answers.specs.Tables.{first}
use Rattle.host.specs.Naming.{bind_rows}
use Rattle.cases.specs.Example.{ip, flow, four, hosting, bound}

-- a test as a number
abbrev yes : Bool → ℕ
yes b = cond b 1 0

-- socket k's score
abbrev score : ℕ → Flow → ℕ
score k f = score_of (socket_in four k) f

abbrev winner : Flow → ℕ
winner f = (best_of four f).at

-- what becomes of an empty datagram: the number, and the descriptor with 20
abbrev lands : Flow → Landed
lands f = landing four no_queues no_items [] (head_of f (record { 0 = 1 }) 0) [] true

-- what bind's own rows say of socket 1
abbrev bind_gives : List Socket → ℕ → ℕ → ℕ
bind_gives ks a p = first (bind_rows (hosting ks) 1 a p)

unfoldable pub table : List (ℕ × ℕ)
table =
    -- to 10.2.0.5:7000 from 10.2.0.9:6000, scores 1, 2, 3, 4: socket 3
    (score 0 (flow (ip 10 2 0 9) 6000 (ip 10 2 0 5) 7000), 1) ∷
    (score 1 (flow (ip 10 2 0 9) 6000 (ip 10 2 0 5) 7000), 2) ∷
    (score 2 (flow (ip 10 2 0 9) 6000 (ip 10 2 0 5) 7000), 3) ∷
    (score 3 (flow (ip 10 2 0 9) 6000 (ip 10 2 0 5) 7000), 4) ∷
    (winner (flow (ip 10 2 0 9) 6000 (ip 10 2 0 5) 7000), 3) ∷
    ((lands (flow (ip 10 2 0 9) 6000 (ip 10 2 0 5) 7000)).number, 20) ∷
    ((lands (flow (ip 10 2 0 9) 6000 (ip 10 2 0 5) 7000)).at, 3) ∷
    -- from 10.2.0.9:6001, 1, 2, 3, 0: socket 2
    (score 0 (flow (ip 10 2 0 9) 6001 (ip 10 2 0 5) 7000), 1) ∷
    (score 1 (flow (ip 10 2 0 9) 6001 (ip 10 2 0 5) 7000), 2) ∷
    (score 2 (flow (ip 10 2 0 9) 6001 (ip 10 2 0 5) 7000), 3) ∷
    (score 3 (flow (ip 10 2 0 9) 6001 (ip 10 2 0 5) 7000), 0) ∷
    (winner (flow (ip 10 2 0 9) 6001 (ip 10 2 0 5) 7000), 2) ∷
    ((lands (flow (ip 10 2 0 9) 6001 (ip 10 2 0 5) 7000)).number, 20) ∷
    ((lands (flow (ip 10 2 0 9) 6001 (ip 10 2 0 5) 7000)).at, 2) ∷
    -- from 10.2.0.8:6000, 1, 2, 0, 0: socket 1
    (score 0 (flow (ip 10 2 0 8) 6000 (ip 10 2 0 5) 7000), 1) ∷
    (score 1 (flow (ip 10 2 0 8) 6000 (ip 10 2 0 5) 7000), 2) ∷
    (score 2 (flow (ip 10 2 0 8) 6000 (ip 10 2 0 5) 7000), 0) ∷
    (score 3 (flow (ip 10 2 0 8) 6000 (ip 10 2 0 5) 7000), 0) ∷
    (winner (flow (ip 10 2 0 8) 6000 (ip 10 2 0 5) 7000), 1) ∷
    ((lands (flow (ip 10 2 0 8) 6000 (ip 10 2 0 5) 7000)).number, 20) ∷
    ((lands (flow (ip 10 2 0 8) 6000 (ip 10 2 0 5) 7000)).at, 1) ∷
    -- to port 7001: 22
    ((best_of four (flow (ip 10 2 0 9) 6000 (ip 10 2 0 5) 7001)).score, 0) ∷
    ((lands (flow (ip 10 2 0 9) 6000 (ip 10 2 0 5) 7001)).number, 22) ∷
    -- 223.255.255.255 not martian, 224.0.0.0 is; 0.255.255.255 is, 1.0.0.0 not
    (yes (martian (ip 223 255 255 255)), 0) ∷
    (yes (martian (ip 224 0 0 0)), 1) ∷
    (yes (martian (ip 0 255 255 255)), 1) ∷
    (yes (martian (ip 1 0 0 0)), 0) ∷
    -- 126.255.255.255 not loopback, 127.0.0.0 is, 128.0.0.0 not
    (yes (loopback (ip 126 255 255 255)), 0) ∷
    (yes (loopback (ip 127 0 0 0)), 1) ∷
    (yes (loopback (ip 128 0 0 0)), 0) ∷
    -- without reuse, wildcard:7000 then 10.2.0.5:7000 gives 9; 10.2.0.5:7000 then 127.0.0.1:7000 gives 0
    (bind_gives (bound 0 7000) (ip 10 2 0 5) 7000, 9) ∷
    (bind_gives (bound (ip 10 2 0 5) 7000) (ip 127 0 0 1) 7000, 0) ∷
    -- port 1023 gives 7, 1024 gives 0
    (bind_gives (bound 0 7000) 0 1023, 7) ∷
    (bind_gives (bound 0 7000) 0 1024, 0) ∷
    -- first autobind 1024; with 1024 taken, 1025
    (auto_port four, 1024) ∷
    (auto_port (bound (ip 10 2 0 5) 1024), 1025) ∷ []

-- each row has what it has to have
abbrev pub rows_hold : List (ℕ × ℕ) → Bool
rows_hold [] = true
rows_hold (r ∷ rs) = eqb r.0 r.1 && rows_hold rs
