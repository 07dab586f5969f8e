-- Queues: what was read from a socket since it was opened, followed by what it holds, is exactly what was delivered to it since then, in order, with contents.
-- Assumes nothing.
use mathlib.Core.Path.{◌≡◌, refl, sym, ap, ◌∙◌}
use mathlib.Core.List.{List, [], ◌∷◌, ◌++◌, append_assoc}
use mathlib.Core.Logic.{◌⊎◌, inl, inr, ⊎_elim}
use mathlib.Core.Bool.{Bool, true, false, ◌&&◌, cond}
use Prim.Native.Nat.{ℕ, ◌<◌}
use lib.Dec.{eqb}
use lib.ListN.{length}
use borrow.Author.Tests.{eqb-true}
use Rattle.std.proofs.lemmas.Bool.{cases_Bool, cond_both}
use Rattle.laws.proofs.Tests.{and_left, and_right}
use Rattle.state.specs.declared.Interface.{Interface}
use Rattle.queues.specs.Held.{Datagram, held}
use Rattle.queues.proofs.Held.{empty_held}
use Rattle.host.specs.Answers.{Outcome}
use Rattle.host.specs.Opening.{opening_refusal, empty_host, opened}
use Rattle.host.specs.Reading.{awaited_by}
use Rattle.history.specs.Steps.{World, Step, after, socket, bind, connect, disconnect, getsockname, getpeername, geterr, getopt, setopt, sendto, recvfrom, resume, interrupt, poll, close, exit, datagram, notice, outstep}
use Rattle.history.specs.Effects.{lent_by}
use Rattle.history.specs.Order.{holds, first_of, read_by, delivered_by, restarts, Handed}
use Rattle.history.specs.Runs.{next, run, opening, Accepted, reached, Account, none, booked, account}
use Rattle.history.proofs.Facts.{Good, step_facts}
use Rattle.history.proofs.Order.{recvfrom_hands, resume_hands}
use Rattle.history.proofs.Preservation.{opening_good}

-- of socket l, with the account a
abbrev pub Balanced : World → ℕ → Account → Type 0
Balanced w l a = a.read ++ holds w l ≡ a.delivered

-- the theorem, for every descriptor
abbrev pub InOrder : Type 0
InOrder = (is : List Interface) (n : ℕ) (s : List ℕ) → Accepted is n s → (ts : List Step) (l : ℕ) → l < 16 → Balanced (reached is n s ts) l (account (opening is n s) ts l none)

-- what "read" is: nothing, or the socket's oldest datagram, which the answer says and the caller's buffer got
abbrev pub ReadIs : World → Step → ℕ → Type 0
ReadIs w t l = (read_by w t l ≡ []) ⊎ ((read_by w t l ≡ first_of w l ∷ []) × Handed w l (lent_by t) (after w t))

-- ---- its proof

-- one step
booked_balanced : (w : World) → Good w → (t : Step) (l : ℕ) → l < 16 → (a : Account) → Balanced w l a → Balanced (next w t) l (booked w t l a)
booked_balanced w g t l hl a b =
    let f = step_facts w g t in
    cond_both (restarts w t l) none (record { read = a.read ++ read_by w t l; delivered = a.delivered ++ delivered_by w t l }) (Balanced (next w t) l)
    (λ e. f.restart l hl e)
    (λ e. append_assoc a.read (read_by w t l) (holds (next w t) l)
    ∙ ap (λ (x : List Datagram). a.read ++ x) (sym (f.order l hl e))
    ∙ sym (append_assoc a.read (holds w l) (delivered_by w t l))
    ∙ ap (λ (x : List Datagram). x ++ delivered_by w t l) b)

run_balanced : (w : World) → Good w → (ts : List Step) (l : ℕ) → l < 16 → (a : Account) → Balanced w l a → Balanced (run w ts) l (account w ts l a)
unfolding run account
run_balanced w g [] l hl a b = b
run_balanced w g (t ∷ ts) l hl a b = run_balanced (next w t) (step_facts w g t).good ts l hl (booked w t l a) (booked_balanced w g t l hl a b)

-- a host that was just opened holds nothing
opening_holds : (is : List Interface) (n : ℕ) (s : List ℕ) (l : ℕ) → l < 16 → holds (opening is n s) l ≡ []
unfolding opened empty_host
opening_holds is n s l hl =
    cond_both (eqb (opening_refusal is n (length s)) 0) _ _ (λ (o : Outcome). held o.host.queues o.bytes l ≡ []) (λ e. empty_held _ l hl) (λ e. empty_held _ l hl)

pub in_order : InOrder
in_order is n s a ts l hl = run_balanced (opening is n s) (opening_good is n s a) ts l hl none (opening_holds is n s l hl)

-- ---- what "read" is

-- a read of socket k
read_one : (w : World) (t : Step) (l k : ℕ) → read_by w t l ≡ cond (eqb l k && eqb (after w t).answer.number 0) (first_of w k ∷ []) [] → ((after w t).answer.number ≡ 0 → Handed w k (lent_by t) (after w t)) → ReadIs w t l
read_one w t l k r hands =
    ⊎_elim
    (λ (e : (eqb l k && eqb (after w t).answer.number 0) ≡ true).
    let i : l ≡ k = eqb-true l k (and_left (eqb l k) _ e) in
    let z : (after w t).answer.number ≡ 0 = eqb-true _ _ (and_right (eqb l k) _ e) in
    inr (r ∙ ap (λ (b : Bool). cond b (first_of w k ∷ []) []) e ∙ ap (λ (j : ℕ). first_of w j ∷ []) (sym i), rw i (hands z)))
    (λ (e : (eqb l k && eqb (after w t).answer.number 0) ≡ false). inl (r ∙ ap (λ (b : Bool). cond b (first_of w k ∷ []) []) e))
    (cases_Bool (eqb l k && eqb (after w t).answer.number 0))

pub read_is : (w : World) → Good w → (t : Step) (l : ℕ) → ReadIs w t l
read_is w g socket l = inl refl
read_is w g (bind k a p) l = inl refl
read_is w g (connect k a p) l = inl refl
read_is w g (disconnect k) l = inl refl
read_is w g (getsockname k) l = inl refl
read_is w g (getpeername k) l = inl refl
read_is w g (geterr k) l = inl refl
read_is w g (getopt k o) l = inl refl
read_is w g (setopt k o on) l = inl refl
read_is w g (sendto k a p payload) l = inl refl
read_is w g (recvfrom k nonblocking b) l = read_one w (recvfrom k nonblocking b) l k refl (recvfrom_hands w g.sound k nonblocking b)
read_is w g (resume b) l = read_one w (resume b) l (awaited_by w.host.thread) refl (resume_hands w g.sound b)
read_is w g interrupt l = inl refl
read_is w g (poll r v) l = inl refl
read_is w g (close k) l = inl refl
read_is w g exit l = inl refl
read_is w g (datagram f p) l = inl refl
read_is w g (notice src dst f) l = inl refl
read_is w g (outstep b) l = inl refl
