-- Which step a script's 16 bytes are: the kind chooses the host call, unused fields are ignored
use Rattle.std.specs.Prelude.{ℕ, List, Bool, true, false, ◌&&◌, ◌||◌, not, cond, eqb, leb, Option, Some, None}
use Rattle.answers.specs.declared.Answer.{Answer}
use Rattle.host.specs.declared.Host.{Host}
use Rattle.host.specs.declared.Stepped.{Stepped}
use Rattle.answers.specs.Answers.{plain}
use Rattle.host.specs.Answers.{Outcome}
use Rattle.history.specs.Steps.{Step, after, socket, bind, connect, disconnect, sendto, recvfrom, close, setopt, datagram, notice, outstep, exit}
use Rattle.script.specs.declared.Fields.{Fields}
use Rattle.script.specs.Fields.{flow_in}

-- kinds: 1 socket, 2 bind A P, 3 connect A P, 4 disconnect, 5 sendto A P, 6 recvfrom nonblocking, 7 close, 8 set reuse to (P nonzero), 9 datagram A:P to B:Q,
-- 10 PORT notice from B to A embedding A, P, B, Q, 11 out, 12 exit; p is the payload, b the lent buffer
abbrev pub step_of : ℕ → Fields → List ℕ → List ℕ → Step
step_of k f p b =
    cond (eqb k 1) socket
    (cond (eqb k 2) (bind f.d f.a f.p)
    (cond (eqb k 3) (connect f.d f.a f.p)
    (cond (eqb k 4) (disconnect f.d)
    (cond (eqb k 5) (sendto f.d f.a f.p p)
    (cond (eqb k 6) (recvfrom f.d true b)
    (cond (eqb k 7) (close f.d)
    (cond (eqb k 8) (setopt f.d 2 (not (eqb f.p.0 0)))
    (cond (eqb k 9) (datagram (flow_in f) p)
    (cond (eqb k 10) (notice f.b f.a (flow_in f))
    (cond (eqb k 11) (outstep b) exit))))))))))

-- 1 to 12 are kinds, others are bad
abbrev pub known : ℕ → Bool
known k = not (eqb k 0) && leb k 12

-- what a step made of the host; not known: a kind that is none
pub record Made : Type 0 where
  pub host : Host
  pub answer : Answer
  pub known : Bool

-- of the host h; nothing was made where the kind is none
abbrev pub made_of : Host → Option Stepped → Made
made_of h (Some r) = record { host = r.host; answer = r.answer; known = true }
made_of h None = record { host = h; answer = plain 0; known = false }

-- ---- with the store and the lent buffer

pub record Making : Type 0 where
  pub host : Host
  pub answer : Answer
  pub known : Bool
  pub bytes : List ℕ
  pub lent : List ℕ

abbrev pub made : Made → List ℕ → List ℕ → Making
made r s b = record { host = r.host; answer = r.answer; known = r.known; bytes = s; lent = b }

-- only recvfrom and out are lent the buffer
abbrev pub lends : ℕ → Bool
lends k = eqb k 6 || eqb k 11

abbrev pub doing : Outcome → List ℕ → Making
doing o b = record { host = o.host; answer = o.answer; known = true; bytes = o.bytes; lent = b }

-- the host call that the kind k chooses; a bad kind calls nothing
unfoldable pub making_of : ℕ → Host → List ℕ → Fields → List ℕ → List ℕ → Making
making_of k h s f p b =
    cond (known k)
    (doing (after (record { host = h; bytes = s }) (step_of k f p b)) (cond (lends k) (after (record { host = h; bytes = s }) (step_of k f p b)).lent b))
    (record { host = h; answer = plain 0; known = false; bytes = s; lent = b })

abbrev pub making : Host → List ℕ → Fields → List ℕ → List ℕ → Making
making h s f p b = making_of f.kind h s f p b
