-- What a step gives back, and everything that it leaves
use Rattle.std.specs.Prelude.{ℕ, List, cond, eqb}
use Rattle.host.specs.declared.Host.{Host}
use Rattle.answers.specs.declared.Answer.{Answer}
use Rattle.answers.specs.Answers.{plain}
use Rattle.host.specs.declared.Stepped.{Stepped}

-- the same host, with that answer
abbrev pub answered : Host → Answer → Stepped
answered h a = record { host = h; answer = a }

-- the same host, with that number
abbrev pub unchanged : Host → ℕ → Stepped
unchanged h n = record { host = h; answer = plain n }

-- ---- everything that a step leaves: the host, its answer, the store, and the lent buffer ([] where none is lent)

pub record Outcome : Type 0 where
  pub host : Host
  pub answer : Answer
  pub bytes : List ℕ
  pub lent : List ℕ

abbrev pub outcome : Stepped → List ℕ → List ℕ → Outcome
outcome r s b = record { host = r.host; answer = r.answer; bytes = s; lent = b }

abbrev pub gives : Host → Answer → List ℕ → List ℕ → Outcome
gives h a s b = record { host = h; answer = a; bytes = s; lent = b }

-- answer n and change nothing, or do what follows
unfoldable pub unless : ℕ → Host → List ℕ → List ℕ → Outcome → Outcome
unless n h s b o = cond (eqb n 0) o (gives h (plain n) s b)
