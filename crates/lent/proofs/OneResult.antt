-- One result: two results that both satisfy the promise of `opening`, or of `opening_one`, on the same arguments are equal, store included.
-- Assumes nothing.
use mathlib.Core.Path.{◌≡◌, refl, sym, ◌∙◌}
use mathlib.Core.List.{[]}
use seplogic.Ra.Ura.{Ura}
use base.Logic.{SProp}
use prog.Memory.{Memory}
use prog.Routine.{Routine}
use types.Logic.{Logic}
use contract.Lifetimes.{Lfts}
use contract.Monad.{Fun, fact}
use denote.Triple.Clauses.{AtExit}
use denote.Triple.Entry.{Args}
use Rattle.host.specs.declared.Stepped.{Stepped}
use Rattle.host.specs.Answers.{outcome}
use Rattle.lent.specs.List.{opened_list}
use Rattle.lent.specs.contracts.opening as f
use Rattle.lent.specs.contracts.opening_one as one
use Rattle.lent.proofs.opening_one.Reads as one_reads

-- what `opening` promises: k its lifetimes, a its arguments, r its result, e its parameters at the end
abbrev pub Post : (k : Lfts 2) → Args f.signature k → Stepped → AtExit f.ended k → Type 0
Post k a r e = outcome r e.1.0.now [] ≡ opened_list a.0.now a.1.0.now

-- it is what the contract of `opening` says
pub post_is : {M : Type 1} {𝓤 : Ura M} (𝓛 : Logic 𝓤) (mem : Memory → SProp 𝓤) (run : Routine → Fun 𝓤) (k : Lfts 2) (a : Args f.signature k) (r : Stepped) (e : AtExit f.ended k)
    → (f.clauses 𝓛 mem run k a).ensures tt r e ≡ fact 𝓤 (Post k a r e)
post_is 𝓛 mem run k a r e = refl

pub opening_once : (k : Lfts 2) (a : Args f.signature k) (r r' : Stepped) (e e' : AtExit f.ended k) → Post k a r e → Post k a r' e' → outcome r e.1.0.now [] ≡ outcome r' e'.1.0.now []
opening_once k a r r' e e' p q = p ∙ sym q

pub opening_one_once : (k : Lfts 1) (a : Args one.signature k) (r r' : Stepped) (e e' : AtExit one.ended k) → one_reads.Post k a r e → one_reads.Post k a r' e'
    → outcome r e.1.0.now [] ≡ outcome r' e'.1.0.now []
opening_one_once k a r r' e e' p q = p ∙ sym q
