-- The options of getopt and setopt: document 01, "options 1 bsdcompat, 2 reuse; another number is 6"
use Rattle.std.specs.Prelude.{ℕ, Result, Ok, Err, cond, eqb}
use Rattle.answers.specs.declared.Refusal.{Refusal}
use Rattle.answers.specs.declared.Refusal.TheVariants.{BadArgument}
use Rattle.answers.specs.declared.SocketOption.{SocketOption}
use Rattle.answers.specs.declared.SocketOption.TheVariants.{Bsdcompat, Reuse}

abbrev pub option_number : SocketOption → ℕ
option_number Bsdcompat = 1
option_number Reuse = 2

-- the option of a number
abbrev pub option_named : ℕ → Result SocketOption Refusal
option_named n = cond (eqb n 1) (Ok Bsdcompat) (cond (eqb n 2) (Ok Reuse) (Err BadArgument))
