-- What is known once a table of refusals is passed.
-- Assumes nothing.
use mathlib.Core.Path.{◌≡◌, refl, sym, ◌∙◌}
use mathlib.Core.List.{List, [], ◌∷◌, ◌++◌}
use mathlib.Core.Logic.{◌≢◌}
use mathlib.Core.Bool.{Bool, true, false, ◌&&◌, not, true≢false, false≢true}
use Prim.Native.Nat.{ℕ, ◌+◌, ◌*◌, ◌<◌, ◌≤◌}
use native.Mathlib.Omega.{arith}
use lib.Dec.{eqb}
use lib.ListN.{length}
use borrow.Author.Tests.{eqb-true, eqb-false, ltb-false, eq-eqb, ne_eqb, not-true, not-false}
use Rattle.std.proofs.lemmas.Bool.{cond_both}
use Rattle.laws.specs.Places.{splice}
use Rattle.laws.proofs.Below.{lowest_upto}
use Rattle.laws.proofs.Numbers.{below, positive}
use Rattle.laws.proofs.Tests.{and_left, and_right}
use Rattle.state.specs.declared.Interface.{Interface}
use Rattle.state.specs.declared.Socket.{Socket}
use Rattle.state.specs.declared.Thread.{Thread}
use Rattle.state.specs.declared.Thread.TheVariants.{Running, Waiting, Ended}
use Rattle.state.specs.Places.{socket_in}
use Rattle.state.specs.Interfaces.{opening_ok, own}
use Rattle.state.specs.Threads.{ended, waiting}
use Rattle.state.specs.Plain.{Awaited}
use Rattle.state.proofs.Fits.{open_is}
use Rattle.net.specs.declared.Flow.{Flow}
use Rattle.net.specs.declared.Port.{Port}
use Rattle.store.specs.Store.{zeros}
use Rattle.binding.specs.Sockets.{closed_at, lowest_closed}
use Rattle.queues.specs.Moves.{first_head}
use Rattle.host.specs.declared.Host.{Host}
use Rattle.answers.specs.declared.Answer.{Answer}
use Rattle.host.specs.Form.{count_at}
use Rattle.answers.specs.Answers.{plain}
use Rattle.host.specs.Answers.{gives}
use Rattle.answers.specs.Tables.{first_or, first}
use Rattle.host.specs.Tables.{ready_rows, alive_rows, entry_rows, call_rows}
use Rattle.host.specs.Entered.{Ready, RunningIn, Called, Holding}
use Rattle.host.specs.Opening.{empty_host, ended_host, opening_refusal, opened}
use Rattle.host.specs.Sending.{send_rows}
use Rattle.host.specs.Reading.{resume_refusal, awaited_by}
use Rattle.host.specs.Arrivals.{datagram_rows, notice_rows}
use Rattle.host.specs.Emitting.{out_rows, oldest_item, Leaving}
use Rattle.host.proofs.Form.{formed_is}

-- ---- any table

-- every row has a number above 0
abbrev pub numbered : List (Bool × ℕ) → Bool
numbered [] = true
numbered (r ∷ rs) = not (eqb r.1 0) && numbered rs

abbrev pub NoneHolds : List (Bool × ℕ) → Type 0
NoneHolds [] = Unit
NoneHolds (r ∷ rs) = (r.0 ≡ false) × NoneHolds rs

pub rows_passed : (rs : List (Bool × ℕ)) (m : ℕ) → numbered rs ≡ true → first_or rs m ≡ 0 → NoneHolds rs × (m ≡ 0)
rows_passed [] m n = λ e. (tt, e)
rows_passed (r ∷ rs) m n =
    cond_both r.0 r.1 (first_or rs m) (λ x. x ≡ 0 → NoneHolds (r ∷ rs) × (m ≡ 0))
    (λ c e. absurd (eqb-false r.1 0 (not-true _ (and_left (not (eqb r.1 0)) _ n)) e))
    (λ c e. let p = rows_passed rs m (and_right (not (eqb r.1 0)) _ n) e in ((c, p.0), p.1))

-- ---- the rows that stand once

ready_is : (h : Host) (room : ℕ) → NoneHolds (ready_rows h room) → Ready h room
ready_is h room p = record { formed = (formed_is h).says (not-false _ p.0); room = eqb-true _ _ (not-false _ p.1.0) }

running_is : (t : Thread) → ended t ≡ false → waiting t ≡ false → t ≡ Running
running_is Running a b = refl
running_is (Waiting d) a b = absurd (true≢false b)
running_is Ended a b = absurd (true≢false a)

-- a call that names no descriptor, and what its own rows exclude
pub entered : (h : Host) (room : ℕ) (own : ℕ) {n : ℕ} → n ≡ first_or (entry_rows h room) own → n ≡ 0 → RunningIn h room × (own ≡ 0)
entered h room own e z =
    let p = rows_passed (entry_rows h room) own refl (sym e ∙ z) in
    (record { ready = ready_is h room (p.0.0, (p.0.1.0, tt)); running = running_is h.thread p.0.1.1.0 p.0.1.1.1.0 }, p.1)

-- a call that names one
pub called : (h : Host) (room k own : ℕ) {n : ℕ} → n ≡ first_or (call_rows h room k) own → n ≡ 0 → Called h room k × (own ≡ 0)
called h room k own e z =
    let p = rows_passed (call_rows h room k) own refl (sym e ∙ z) in
    let o = (open_is h.sockets k).says (not-false _ p.0.1.1.1.1.0) in
    (record { ready = ready_is h room (p.0.0, (p.0.1.0, tt)); running = running_is h.thread p.0.1.1.0 p.0.1.1.1.0; small = o.0; live = o.1 }, p.1)

-- ---- opening

module _ (is : List Interface) (n : ℕ) (s : List ℕ) {m : ℕ} (e : m ≡ opening_refusal is n (length s)) where
  pub opening_room : m ≡ 0 → length s ≡ 40960
  opening_room z = let p = rows_passed ((not (eqb (length s) 40960), 2) ∷ (not (opening_ok is n), 17) ∷ []) 0 refl (sym e ∙ z) in eqb-true _ _ (not-false _ p.0.0)

  pub opening_refused : {h : Host} {a : Answer} → m ≢ 0 → h ≡ ended_host → a ≡ plain m → gives h a s [] ≡ opened is n s
  unfolding opened
  opening_refused d eh ea = let q : opening_refusal is n (length s) ≢ 0 = λ x. d (e ∙ x) in simp (ne_eqb _ _ q) (rw (eh, ea, e))

  pub opening_done : {h : Host} {a : Answer} {t : List ℕ} → m ≡ 0 → h ≡ empty_host is n Running → a ≡ plain 0 → t ≡ splice s 0 (zeros 40960) → gives h a t [] ≡ opened is n s
  unfolding opened
  opening_done z eh ea et = let q : opening_refusal is n (length s) ≡ 0 = sym e ∙ z in simp (eq-eqb _ _ q) (rw (eh, ea, et))

-- ---- socket: the descriptors end at 16

pub lowest_closed_upto : (ks : List Socket) → lowest_closed ks ≤ 16
unfolding lowest_closed
lowest_closed_upto ks = lowest_upto (λ k. closed_at (socket_in ks k)) 16 0

-- ---- resume and interrupt: a thread that waits, on a descriptor that is one

pub resuming : (h : Host) (room : ℕ) {n : ℕ} → n ≡ resume_refusal h room → n ≡ 0 → Ready h room × (awaited_by h.thread < 16)
resuming h room e z =
    let p = rows_passed (alive_rows h room ++ ((not (waiting h.thread), 6) ∷ [])) 0 refl (sym e ∙ z) in
    let r = ready_is h room (p.0.0, (p.0.1.0, tt)) in
    (r, small h.thread (not-false _ p.0.1.1.1.0) r.formed.awaited)
  where
    small : (t : Thread) → waiting t ≡ true → Awaited h.sockets t → awaited_by t < 16
    small Running w a = absurd (false≢true w)
    small (Waiting d) w a = (a d refl).small
    small Ended w a = absurd (false≢true w)

-- ---- sendto's own rows: the payload fits a slot, and the out-queue has room for it

pub sendable : (h : Host) (room k a : ℕ) (p : Port) (len : ℕ) {n : ℕ} → Ready h room → n ≡ first (send_rows h k a p len) → n ≡ 0 → (len ≤ 512) × (h.out.count < 16)
sendable h room k a p len r e z =
    let q = rows_passed (send_rows h k a p len) 0 refl (sym e ∙ z) in
    (ltb-false _ _ q.0.1.0, below h.out.count 16 r.formed.outcount (eqb-false _ _ q.0.1.1.1.1.0))

-- ---- the oldest datagram of a socket that holds one

pub holds_some : {h : Host} {size k : ℕ} → Holding h size k → (1 ≤ count_at h k) × (count_at h k ≤ 4) × ((first_head h.queues k).len ≤ 512)
holds_some {h} {size} {k} w =
    let some = positive (count_at h k) w.some in
    let e : 4 * k + 0 ≡ 4 * k = omega arith in
    (some, w.ready.formed.counts k w.small, rw e at (w.ready.formed.queued k 0 w.small (omega arith)))

-- ---- arrivals and the out step

-- an arriving datagram: record and store are fine, and the payload fits a slot
pub arrivable : (h : Host) (room : ℕ) (f : Flow) (len : ℕ) {n : ℕ} → n ≡ first (datagram_rows h room f len) → n ≡ 0 → Ready h room × (own h.interfaces f.dst ≡ true) × (len ≤ 512)
arrivable h room f len e z =
    let p = rows_passed (datagram_rows h room f len) 0 refl (sym e ∙ z) in
    (ready_is h room (p.0.0, (p.0.1.0, tt)), not-false _ p.0.1.1.0, ltb-false _ _ p.0.1.1.1.1.0)

pub noticeable : (h : Host) (room src dst : ℕ) (f : Flow) {n : ℕ} → n ≡ first (notice_rows h room src dst f) → n ≡ 0 → Ready h room
noticeable h room src dst f e z = let p = rows_passed (notice_rows h room src dst f) 0 refl (sym e ∙ z) in ready_is h room (p.0.0, (p.0.1.0, tt))

-- the out step: there is an item, and the buffer is long enough
pub leavable : (h : Host) (s : List ℕ) (lent : ℕ) {n : ℕ} → n ≡ first (out_rows h (length s) lent) → n ≡ 0 → Leaving h s lent
leavable h s lent e z =
    let p = rows_passed (out_rows h (length s) lent) 0 refl (sym e ∙ z) in
    let r = ready_is h (length s) (p.0.0, (p.0.1.0, tt)) in
    record {
      ready = r;
      some = record { some = positive h.out.count (eqb-false _ _ p.0.1.1.1.0); few = r.formed.outcount; store = r.room };
      room = ltb-false _ _ p.0.1.1.0;
    }

-- its oldest item's payload fits a slot
pub oldest_small : {h : Host} {s : List ℕ} {lent : ℕ} → Leaving h s lent → (oldest_item h).len ≤ 512
oldest_small w = w.ready.formed.sent 0 w.some.some
