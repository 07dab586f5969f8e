-- The classes of addresses (000, 2.3.23), and addresses under a mask (000, 2.3.24)
use Rattle.std.specs.Prelude.{ℕ, ◌<◌, ◌≤◌, ◌/◌, Bool, ◌||◌, ◌⊎◌, eqb, leb}
use Rattle.std.specs.Int.Bits.{bit_and}
use Rattle.net.specs.declared.Flow.{Flow}

-- LOOPBACK is 127/8: the first of the four numbers is 127
abbrev pub loopback : ℕ → Bool
loopback a = eqb (a / 16777216) 127

-- MARTIAN is 0/8, 224/4 and 240/4
abbrev pub martian : ℕ → Bool
martian a = eqb (a / 16777216) 0 || leb 224 (a / 16777216)

-- no source of a datagram from outside
abbrev pub stray : ℕ → Bool
stray a = martian a || loopback a

-- equal under a mask, any mask
abbrev pub agree : ℕ → ℕ → ℕ → Bool
agree a b mask = eqb (bit_and a mask) (bit_and b mask)

-- 127.0.0.1
abbrev pub localhost : ℕ
localhost = 2130706433

-- the flow of nothing
abbrev pub no_flow : Flow
no_flow = record { src = 0; dst = 0; sport = record { 0 = 0 }; dport = record { 0 = 0 } }

-- ---- the ranges that the classes are

-- 127.0.0.0 to 127.255.255.255
abbrev pub InLoopback : ℕ → Type 0
InLoopback a = (2130706432 ≤ a) × (a < 2147483648)

-- 0.0.0.0 to 0.255.255.255, and from 224.0.0.0 on
abbrev pub InMartian : ℕ → Type 0
InMartian a = (a < 16777216) ⊎ (3758096384 ≤ a)
