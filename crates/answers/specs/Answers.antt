-- What a step gives back: document 01's number, and what some answers give besides; unused fields are 0
use Rattle.std.specs.Prelude.{ℕ}
use Rattle.net.specs.declared.Port.{Port}
use Rattle.state.specs.declared.OutItem.{OutItem}
use Rattle.state.specs.declared.Queued.{Queued}
use Rattle.state.specs.Places.{no_item}
use Rattle.answers.specs.declared.Answer.{Answer}

abbrev pub no_port : Port
no_port = record { 0 = 0 }

-- a number of document 01's table, and nothing else
abbrev pub plain : ℕ → Answer
plain n = record { item = no_item; address = 0; port = no_port; len = 0; readable = 0; writable = 0; number = n; descriptor = record { 0 = 0 }; value = 0 }

-- with a descriptor: socket, 20 and 21
abbrev pub told : ℕ → ℕ → Answer
told n k = record { item = no_item; address = 0; port = no_port; len = 0; readable = 0; writable = 0; number = n; descriptor = record { 0 = k }; value = 0 }

-- an address and a port: getsockname and getpeername
abbrev pub named : ℕ → Port → Answer
named a p = record { item = no_item; address = a; port = p; len = 0; readable = 0; writable = 0; number = 0; descriptor = record { 0 = 0 }; value = 0 }

-- a value: geterr and getopt
abbrev pub valued : ℕ → Answer
valued v = record { item = no_item; address = 0; port = no_port; len = 0; readable = 0; writable = 0; number = 0; descriptor = record { 0 = 0 }; value = v }

-- 16 with the length needed
abbrev pub needing : ℕ → Answer
needing len = record { item = no_item; address = 0; port = no_port; len = len; readable = 0; writable = 0; number = 16; descriptor = record { 0 = 0 }; value = 0 }

-- a read: the sender's address and port, and the length
abbrev pub read_of : Queued → Answer
read_of h =
    record { item = no_item; address = h.flow.src; port = h.flow.sport; len = h.len; readable = 0; writable = 0; number = 0; descriptor = record { 0 = 0 }; value = 0 }

-- the ready bits of poll's two masks
abbrev pub polled : ℕ → ℕ → Answer
polled r w = record { item = no_item; address = 0; port = no_port; len = 0; readable = r; writable = w; number = 0; descriptor = record { 0 = 0 }; value = 0 }

-- 30 gives the whole item
abbrev pub emitted : OutItem → Answer
emitted x = record { item = x; address = 0; port = no_port; len = 0; readable = 0; writable = 0; number = 30; descriptor = record { 0 = 0 }; value = 0 }
