-- Every sequence of requests is a run of the histories: so each theorem over every run is one about callers in C and Rust.
-- Assumes nothing.
use mathlib.Core.Path.{◌≡◌, sym, ap, subst}
use mathlib.Core.List.{List, [], ◌∷◌}
use mathlib.Core.Logic.{⊎_elim}
use mathlib.Core.Bool.{true}
use Prim.Native.Nat.{ℕ}
use lib.ListN.{length}
use Rattle.state.specs.declared.Interface.{Interface}
use Rattle.host.specs.declared.Host.{Host}
use Rattle.host.specs.Answers.{Outcome}
use Rattle.lent.specs.List.{first_four, opened_list}
use Rattle.history.specs.Steps.{World}
use Rattle.history.specs.Runs.{Ran, opening}
use Rattle.history.proofs.Ran.{ran_none, ran_before}
use Rattle.udphost.specs.declared.Record.{Record}
use Rattle.udphost.specs.declared.Request.{Request}
use Rattle.udphost.specs.Crossing.{thread_known, host_of, record_of}
use Rattle.udphost.specs.Requests.{making, Crossing, crossed_of, stepping}
use Rattle.udphost.proofs.Crossing.{comes_back, goes_known}
use Rattle.udphost.proofs.Steps.{world, Taken, Stood, one_step}

-- a request with the payload and the buffer that are lent to it
pub record Asked : Type 0 where
  pub request : Request
  pub payload : List ℕ
  pub buffer : List ℕ

-- the world that a caller has after a sequence of requests: each takes the record and the store that the one before left
unfoldable pub served : Record → List ℕ → List Asked → World
served r s [] = record { host = host_of r; bytes = s }
served r s (a ∷ qs) = served (stepping r s a.request a.payload a.buffer).next (stepping r s a.request a.payload a.buffer).bytes qs

-- ---- its proof

crossed : (r : Record) (s : List ℕ) (a : Asked) → thread_known r.thread r.awaited ≡ true → stepping r s a.request a.payload a.buffer ≡ crossed_of (making (host_of r) s a.request a.payload a.buffer)
unfolding stepping
crossed r s a k = simp k

pub sequence_runs : (r : Record) (s : List ℕ) (qs : List Asked) → thread_known r.thread r.awaited ≡ true → Ran (record { host = host_of r; bytes = s }) (served r s qs)
unfolding served
sequence_runs r s [] k = ran_none
sequence_runs r s (a ∷ qs) k =
    let w : World = record { host = host_of r; bytes = s } in
    let o : Outcome = making (host_of r) s a.request a.payload a.buffer in
    let rest : Ran (record { host = host_of (record_of o.host); bytes = o.bytes }) (served (record_of o.host) o.bytes qs) = sequence_runs (record_of o.host) o.bytes qs (goes_known o.host.thread) in
    let here : Ran (world o) (served (record_of o.host) o.bytes qs) = subst (λ (h : Host). Ran (record { host = h; bytes = o.bytes }) (served (record_of o.host) o.bytes qs)) (comes_back o.host) rest in
    let e : served (stepping r s a.request a.payload a.buffer).next (stepping r s a.request a.payload a.buffer).bytes qs ≡ served (record_of o.host) o.bytes qs = ap (λ (c : Crossing). served c.next c.bytes qs) (crossed r s a k) in
    let there : Ran w (served (record_of o.host) o.bytes qs) =
    ⊎_elim (λ (t : Taken w o). ran_before t.step (subst (λ (v : World). Ran v (served (record_of o.host) o.bytes qs)) t.leaves here)) (λ (t : Stood w o). subst (λ (v : World). Ran v (served (record_of o.host) o.bytes qs)) t.leaves here)
    (one_step a.request.kind w a.request a.payload a.buffer) in
    subst (λ (v : World). Ran w v) (sym e) there

-- from an opening over a lent list on: its world is the one that the runs begin with
pub opened_runs : (xs : List Interface) (s : List ℕ) (qs : List Asked) → Ran (opening (first_four xs) (length xs) s) (served (crossed_of (opened_list xs s)).next (crossed_of (opened_list xs s)).bytes qs)
opened_runs xs s qs =
    let o : Outcome = opened_list xs s in
    subst (λ (h : Host). Ran (record { host = h; bytes = o.bytes }) (served (record_of o.host) o.bytes qs)) (comes_back o.host) (sequence_runs (record_of o.host) o.bytes qs (goes_known o.host.thread))
