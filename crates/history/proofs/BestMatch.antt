-- Best: each delivery went to the winner at its moment: greatest score, lowest descriptor among equals.
-- Assumes nothing.
use mathlib.Core.Path.{◌≡◌, refl, sym, ap, ◌∙◌}
use mathlib.Core.List.{List, [], ◌∷◌}
use mathlib.Core.Logic.{◌≢◌, ◌⊎◌, inl, inr, ⊎_elim}
use mathlib.Core.Bool.{Bool, true, false, ◌&&◌, cond}
use Prim.Native.Nat.{ℕ, ◌<◌, ◌≤◌}
use lib.Dec.{eqb}
use borrow.Author.Tests.{eqb-true}
use Rattle.std.proofs.lemmas.Bool.{cases_Bool}
use Rattle.laws.proofs.Tests.{and_left, and_right}
use Rattle.net.specs.declared.Flow.{Flow}
use Rattle.state.specs.declared.Interface.{Interface}
use Rattle.state.specs.declared.Socket.{Socket}
use Rattle.state.specs.Places.{socket_in}
use Rattle.matching.specs.Scores.{score_of, best_of}
use Rattle.matching.proofs.Winner.{winner_is}
use Rattle.queues.specs.Held.{Datagram}
use Rattle.answers.specs.declared.Answer.{Answer}
use Rattle.history.specs.Steps.{World, Step, after, socket, bind, connect, disconnect, getsockname, getpeername, geterr, getopt, setopt, sendto, recvfrom, resume, interrupt, poll, close, exit, datagram, notice, outstep}
use Rattle.history.specs.Frame.{Picks}
use Rattle.history.specs.Order.{comes, delivered_by, arriving_as, coming_back}
use Rattle.history.specs.Runs.{Accepted, reached}
use Rattle.history.proofs.Facts.{Good}
use Rattle.history.proofs.Arrivals.{datagram_dealt}
use Rattle.history.proofs.Outsteps.{outstep_dealt}
use Rattle.history.proofs.Preservation.{reached_good}

-- socket l is the best for the flow
pub record Best (ks : List Socket) (f : Flow) (l : ℕ) : Type 0 where
  pub some : score_of (socket_in ks l) f ≢ 0
  pub most : (k : ℕ) → k < 16 → score_of (socket_in ks k) f ≤ score_of (socket_in ks l) f
  pub lowest : (k : ℕ) → k < l → score_of (socket_in ks k) f < score_of (socket_in ks l) f

-- what the step t delivers to socket l in w: nothing, or one datagram, for which l is the best
abbrev pub WellDelivered : World → Step → ℕ → Type 0
WellDelivered w t l = (delivered_by w t l ≡ []) ⊎ ((d : Datagram) × (delivered_by w t l ≡ d ∷ []) × Best w.host.sockets d.head.flow l)

-- the theorem
abbrev pub BestMatch : Type 0
BestMatch = (is : List Interface) (n : ℕ) (s : List ℕ) → Accepted is n s → (ts : List Step) (t : Step) (l : ℕ) → WellDelivered (reached is n s ts) t l

-- ---- its proof

picked_best : (ks : List Socket) (f : Flow) (l : ℕ) → Picks ks f l → Best ks f l
picked_best ks f l p =
    let b = winner_is ks f in
    let e : score_of (socket_in ks l) f ≡ (best_of ks f).score = rw p.1 (b.is p.0).1 in
    record { some = λ z. p.0 (sym e ∙ z); most = λ k hk. rw e (b.most k hk); lowest = λ k lt. rw e (b.least p.0 k (rw p.1 at lt)) }

one : (w : World) (t : Step) (l : ℕ) (a : Answer) (d : Datagram) → delivered_by w t l ≡ comes a l d → (a.number ≡ 20 → Best w.host.sockets d.head.flow a.descriptor.0) → WellDelivered w t l
one w t l a d e f =
    ⊎_elim
    (λ (c : (eqb a.number 20 && eqb l a.descriptor.0) ≡ true).
    let i : l ≡ a.descriptor.0 = eqb-true _ _ (and_right (eqb a.number 20) _ c) in
    inr (d, e ∙ ap (λ (b : Bool). cond b (d ∷ []) []) c, rw i (f (eqb-true _ _ (and_left (eqb a.number 20) _ c)))))
    (λ (c : (eqb a.number 20 && eqb l a.descriptor.0) ≡ false). inl (e ∙ ap (λ (b : Bool). cond b (d ∷ []) []) c))
    (cases_Bool (eqb a.number 20 && eqb l a.descriptor.0))

pub step_best : (w : World) → Good w → (t : Step) (l : ℕ) → WellDelivered w t l
unfolding after
step_best w g socket l = inl refl
step_best w g (bind k a p) l = inl refl
step_best w g (connect k a p) l = inl refl
step_best w g (disconnect k) l = inl refl
step_best w g (getsockname k) l = inl refl
step_best w g (getpeername k) l = inl refl
step_best w g (geterr k) l = inl refl
step_best w g (getopt k o) l = inl refl
step_best w g (setopt k o on) l = inl refl
step_best w g (sendto k a p payload) l = inl refl
step_best w g (recvfrom k nonblocking b) l = inl refl
step_best w g (resume b) l = inl refl
step_best w g interrupt l = inl refl
step_best w g (poll r v) l = inl refl
step_best w g (close k) l = inl refl
step_best w g exit l = inl refl
step_best w g (datagram f p) l = one w (datagram f p) l (after w (datagram f p)).answer (arriving_as w f p) refl (λ z. picked_best _ f _ ((datagram_dealt w g.sound f p).best z))
step_best w g (notice src dst f) l = inl refl
step_best w g (outstep b) l = one w (outstep b) l (after w (outstep b)).answer (coming_back w) refl (λ z. picked_best _ _ _ ((outstep_dealt w g.sound b).best z))

pub best_match : BestMatch
best_match is n s a ts t l = step_best (reached is n s ts) (reached_good is n s a ts) t l
