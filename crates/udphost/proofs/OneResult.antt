-- One result for the two functions that C calls and for the conversions that they rest on, as `OneResult` of the histories has it for the host's and all below it.
-- Assumes nothing.
use mathlib.Core.Path.{◌≡◌, refl, sym, ap, ◌∙◌}
use mathlib.Core.List.{List, []}
use Prim.Native.Nat.{ℕ}
use seplogic.Ra.Ura.{Ura}
use base.Logic.{SProp}
use prog.Memory.{Memory}
use prog.Routine.{Routine}
use types.Logic.{Logic}
use contract.Lifetimes.{Lfts}
use contract.Monad.{Fun, fact}
use denote.Triple.Clauses.{AtExit}
use denote.Triple.Entry.{Args}
use Rattle.std.specs.Prelude.{Result}
use Rattle.answers.specs.declared.Refusal.{Refusal}
use Rattle.host.specs.declared.Host.{Host}
use Rattle.lent.specs.List.{opened_list}
use Rattle.history.proofs.OneResult.{Fixed}
use Rattle.udphost.specs.declared.Record.{Record}
use Rattle.udphost.specs.declared.Reply.{Reply}
use Rattle.udphost.specs.Requests.{Crossing, crossing, crossed_of}
use Rattle.udphost.specs.contracts.udphost_open as udphost_open
use Rattle.udphost.proofs.udphost_step.Reads as udphost_step
use Rattle.udphost.proofs.records.HostTryFromRecord.try_from.Reads as host_from_record
use Rattle.udphost.proofs.records.RecordFromHost.from.Reads as record_from_host
use Rattle.udphost.proofs.ReplyFromStepped.from.Reads as reply_from_stepped

-- what `udphost_open` promises: k its lifetimes, a its arguments, r its result, e its parameters at the end
abbrev pub Post : (k : Lfts 2) → Args udphost_open.signature k → Reply → AtExit udphost_open.ended k → Type 0
Post k a r e = crossing r e.1.0.now [] ≡ crossed_of (opened_list a.0.now a.1.0.now)

-- it is what the contract of `udphost_open` says
pub post_is : {M : Type 1} {𝓤 : Ura M} (𝓛 : Logic 𝓤) (mem : Memory → SProp 𝓤) (run : Routine → Fun 𝓤) (k : Lfts 2) (a : Args udphost_open.signature k) (r : Reply) (e : AtExit udphost_open.ended k)
    → (udphost_open.clauses 𝓛 mem run k a).ensures tt r e ≡ fact 𝓤 (Post k a r e)
post_is 𝓛 mem run k a r e = refl

pub record OneResult : Type 0 where
  pub open_once : Fixed {W = Crossing} Post (λ k a r e. crossing r e.1.0.now [])
  pub step_once : Fixed {W = Crossing} udphost_step.Post (λ k a r e. crossing r e.1.0.now e.1.1.1.1.0.now)
  pub host_once : Fixed {W = Result Host Refusal} host_from_record.Post (λ k a r e. r)
  pub record_once : Fixed {W = Record} record_from_host.Post (λ k a r e. r)
  pub reply_once : Fixed {W = Reply} reply_from_stepped.Post (λ k a r e. r)

pub one_result : OneResult
one_result =
    record {
      open_once = record { fixed = λ k a r r' e e' p q. p ∙ sym q };
      step_once = record { fixed = λ k a r r' e e' p q. p ∙ sym q };
      host_once = record { fixed = λ k a r r' e e' p q. p ∙ sym q };
      record_once = record { fixed = λ k a r r' e e' p q. p ∙ sym q };
      reply_once = record { fixed = λ k a r r' e e' p q. p ∙ sym q };
    }

-- ---- what equal views say

pub crossing_tells : {r r' : Reply} {s s' b b' : List ℕ} → crossing r s b ≡ crossing r' s' b' → (r ≡ r') × (s ≡ s') × (b ≡ b')
crossing_tells e = (ap (λ (c : Crossing). record { next = c.next; answer = c.answer }) e, ap (λ (c : Crossing). c.bytes) e, ap (λ (c : Crossing). c.lent) e)
