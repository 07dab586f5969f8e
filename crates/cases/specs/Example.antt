-- The example of document 01, "Both sides of each line"
use Rattle.std.specs.Prelude.{ℕ, ◌+◌, ◌*◌, List, [], ◌∷◌, Bool, true, false}
use Rattle.net.specs.declared.Flow.{Flow}
use Rattle.state.specs.declared.Socket.{Socket}
use Rattle.state.specs.declared.Thread.TheVariants.{Running}
use Rattle.queues.specs.Moves.{no_queues}
use Rattle.outqueue.specs.Moves.{no_items}
use Rattle.host.specs.declared.Host.{Host}

-- an address by its four numbers
abbrev pub ip : ℕ → ℕ → ℕ → ℕ → ℕ
ip a b c d = ((a * 256 + b) * 256 + c) * 256 + d

abbrev pub flow : ℕ → ℕ → ℕ → ℕ → Flow
flow s sp d dp = record { src = s; dst = d; sport = record { 0 = sp }; dport = record { 0 = dp } }

-- an open socket with these pairs
abbrev pub socket : Bool → ℕ → ℕ → ℕ → ℕ → Socket
socket reuse a p ra rp = record { laddr = a; raddr = ra; lport = record { 0 = p }; rport = record { 0 = rp }; live = true; error = 0; bsdcompat = false; reuse = reuse }

-- sockets 0 to 3 have reuse and port 7000: 0 wildcard; 1 local 10.2.0.5; 2 the same, remote 10.2.0.9; 3 the same, remote 10.2.0.9:6000
abbrev pub four : List Socket
four =
    socket true 0 7000 0 0 ∷
    socket true (ip 10 2 0 5) 7000 0 0 ∷
    socket true (ip 10 2 0 5) 7000 (ip 10 2 0 9) 0 ∷
    socket true (ip 10 2 0 5) 7000 (ip 10 2 0 9) 6000 ∷ []

-- one interface, id 1: 10.2.0.5, mask 255.255.255.0
abbrev pub hosting : List Socket → Host
hosting ks =
    record {
      interfaces = record { mask = ip 255 255 255 0; first = ip 10 2 0 5; second = 0; third = 0; fourth = 0; id = record { 0 = 1 } } ∷ [];
      sockets = ks;
      queues = no_queues;
      out = no_items;
      thread = Running;
      icount = 1;
    }

-- socket 0 is bound without reuse, and socket 1 is to be bound
abbrev pub bound : ℕ → ℕ → List Socket
bound a p = socket false a p 0 0 ∷ socket false 0 0 0 0 ∷ []
