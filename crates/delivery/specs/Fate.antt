-- A datagram's fate as document 01 answers it: a number, and a descriptor with 20 and 21
use Rattle.std.specs.Prelude.{ℕ, Option, Some, None}
use Rattle.delivery.specs.declared.Fate.{Fate}
use Rattle.delivery.specs.declared.Fate.TheVariants.{Delivered, Dropped, NoticeQueued, NoticeNotQueued}

abbrev pub fate_number : Fate → ℕ
fate_number (Delivered d) = 20
fate_number (Dropped d) = 21
fate_number NoticeQueued = 22
fate_number NoticeNotQueued = 23

-- the winner, else 0
abbrev pub fate_at : Fate → ℕ
fate_at (Delivered d) = d.0
fate_at (Dropped d) = d.0
fate_at NoticeQueued = 0
fate_at NoticeNotQueued = 0

-- where there may be none: 0
abbrev pub number_so_far : Option Fate → ℕ
number_so_far (Some f) = fate_number f
number_so_far None = 0

abbrev pub at_so_far : Option Fate → ℕ
at_so_far (Some f) = fate_at f
at_so_far None = 0
