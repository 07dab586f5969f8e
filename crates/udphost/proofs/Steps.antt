-- A request is one step of the histories, or it changes nothing: so what is proved of every run is proved of every caller's.
-- Assumes nothing.
use mathlib.Core.Path.{◌≡◌, refl}
use mathlib.Core.List.{List}
use mathlib.Core.Logic.{◌⊎◌, inl, inr, ⊎_elim}
use Prim.Native.Nat.{ℕ}
use lib.Dec.{eqb}
use Rattle.std.proofs.lemmas.Bool.{cond_both}
use Rattle.host.specs.Answers.{Outcome}
use Rattle.history.specs.Steps.{World, Step, after, socket, bind, connect, disconnect, getsockname, getpeername, geterr, getopt, setopt, sendto, recvfrom, resume, interrupt, poll, close, exit, datagram, notice, outstep}
use Rattle.history.specs.Runs.{next}
use Rattle.history.proofs.Facts.{Good, step_facts}
use Rattle.udphost.specs.declared.Request.{Request}
use Rattle.udphost.specs.Requests.{asked_of, making_of}

-- the host and the store that an outcome leaves
abbrev pub world : Outcome → World
world o = record { host = o.host; bytes = o.bytes }

-- the request was this step
pub record Taken (w : World) (o : Outcome) : Type 0 where
  pub step : Step
  pub leaves : world o ≡ next w step
  pub answers : o.answer ≡ (after w step).answer

-- the request was none
pub record Stood (w : World) (o : Outcome) : Type 0 where
  pub leaves : world o ≡ w

module _ (k : ℕ) (w : World) (q : Request) (p b : List ℕ) where
  abbrev Either : Outcome → Type 0
  Either o = Taken w o ⊎ Stood w o

  asks : Either (asked_of k w q)
  unfolding asked_of
  asks =
      cond_both (eqb k 1) _ _ Either (λ e. inl (record { step = socket; leaves = refl; answers = refl })) (λ e.
      cond_both (eqb k 2) _ _ Either (λ e. inl (record { step = bind q.descriptor.0 q.address q.port; leaves = refl; answers = refl })) (λ e.
      cond_both (eqb k 3) _ _ Either (λ e. inl (record { step = connect q.descriptor.0 q.address q.port; leaves = refl; answers = refl })) (λ e.
      cond_both (eqb k 4) _ _ Either (λ e. inl (record { step = disconnect q.descriptor.0; leaves = refl; answers = refl })) (λ e.
      cond_both (eqb k 8) _ _ Either (λ e. inl (record { step = setopt q.descriptor.0 q.option q.on; leaves = refl; answers = refl })) (λ e.
      cond_both (eqb k 10) _ _ Either (λ e. inl (record { step = notice q.src q.dst q.flow; leaves = refl; answers = refl })) (λ e.
      cond_both (eqb k 13) _ _ Either (λ e. inl (record { step = getsockname q.descriptor.0; leaves = refl; answers = refl })) (λ e.
      cond_both (eqb k 14) _ _ Either (λ e. inl (record { step = getpeername q.descriptor.0; leaves = refl; answers = refl })) (λ e.
      cond_both (eqb k 15) _ _ Either (λ e. inl (record { step = geterr q.descriptor.0; leaves = refl; answers = refl })) (λ e.
      cond_both (eqb k 16) _ _ Either (λ e. inl (record { step = getopt q.descriptor.0 q.option; leaves = refl; answers = refl })) (λ e.
      cond_both (eqb k 18) _ _ Either (λ e. inl (record { step = interrupt; leaves = refl; answers = refl })) (λ e.
      cond_both (eqb k 19) _ _ Either (λ e. inl (record { step = poll q.readers q.writers; leaves = refl; answers = refl })) (λ e. inr (record { leaves = refl })))))))))))))

  -- what is not lent to a step stays, which neither host nor store tell
  keeps : {o : Outcome} → Either o → Either (record { host = o.host; answer = o.answer; bytes = o.bytes; lent = b })
  keeps {o} = ⊎_elim (λ (t : Taken w o). inl (record { step = t.step; leaves = t.leaves; answers = t.answers })) (λ (t : Stood w o). inr (record { leaves = t.leaves }))

  pub one_step : Either (making_of k w q p b)
  unfolding making_of
  one_step =
      cond_both (eqb k 5) _ _ Either (λ e. inl (record { step = sendto q.descriptor.0 q.address q.port p; leaves = refl; answers = refl })) (λ e.
      cond_both (eqb k 6) _ _ Either (λ e. inl (record { step = recvfrom q.descriptor.0 q.on b; leaves = refl; answers = refl })) (λ e.
      cond_both (eqb k 7) _ _ Either (λ e. inl (record { step = close q.descriptor.0; leaves = refl; answers = refl })) (λ e.
      cond_both (eqb k 9) _ _ Either (λ e. inl (record { step = datagram q.flow p; leaves = refl; answers = refl })) (λ e.
      cond_both (eqb k 11) _ _ Either (λ e. inl (record { step = outstep b; leaves = refl; answers = refl })) (λ e.
      cond_both (eqb k 12) _ _ Either (λ e. inl (record { step = exit; leaves = refl; answers = refl })) (λ e.
      cond_both (eqb k 17) _ _ Either (λ e. inl (record { step = resume b; leaves = refl; answers = refl })) (λ e. keeps asks)))))))

  -- so a good world stays good under any request
  pub stays_good : Good w → Good (world (making_of k w q p b))
  stays_good g =
      ⊎_elim (λ (t : Taken w (making_of k w q p b)). rw t.leaves (step_facts w g t.step).good) (λ (t : Stood w (making_of k w q p b)). rw t.leaves g) one_step
