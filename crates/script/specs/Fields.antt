-- A step's 16 bytes: kind, descriptor (a byte each), address A, port P, address B, port Q, length L (4, 2, 4, 2, 2), all big-endian
use Rattle.std.specs.Prelude.{ℕ, ◌+◌, ◌*◌, List, get_or}
use Rattle.net.specs.declared.Flow.{Flow}
use Rattle.script.specs.declared.Fields.{Fields}

abbrev pub word : List ℕ → ℕ → ℕ
word s i = get_or s i 0 * 256 + get_or s (i + 1) 0

abbrev pub long : List ℕ → ℕ → ℕ
long s i = word s i * 65536 + word s (i + 2)

abbrev pub fields_at : List ℕ → ℕ → Fields
fields_at s i =
    record { a = long s (i + 2); b = long s (i + 8); p = record { 0 = word s (i + 6) }; q = record { 0 = word s (i + 12) }; len = word s (i + 14); kind = get_or s i 0; d = get_or s (i + 1) 0 }

-- from A:P to B:Q
abbrev pub flow_in : Fields → Flow
flow_in f = record { src = f.a; dst = f.b; sport = f.p; dport = f.q }
