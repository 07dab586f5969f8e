-- Opening and a step at the boundary are the host's own.
-- Assumes nothing.
use mathlib.Core.Path.{◌≡◌, ap, ◌∙◌}
use mathlib.Core.List.{List, []}
use mathlib.Core.Bool.{true, false}
use Prim.Native.Nat.{ℕ}
use Rattle.answers.specs.declared.Answer.{Answer}
use Rattle.answers.specs.Answers.{plain}
use Rattle.state.specs.declared.Interface.{Interface}
use Rattle.host.specs.declared.Host.{Host}
use Rattle.host.specs.declared.Stepped.{Stepped}
use Rattle.host.specs.Answers.{outcome}
use Rattle.lent.specs.List.{opened_list}
use Rattle.udphost.specs.declared.Record.{Record}
use Rattle.udphost.specs.declared.Reply.{Reply}
use Rattle.udphost.specs.declared.Request.{Request}
use Rattle.udphost.specs.Crossing.{thread_known, host_of}
use Rattle.udphost.specs.Requests.{making, reply_of, crossing, crossed_of, stepping}

pub opens_known : (xs : List Interface) (s : List ℕ) {m : Stepped} {x : Reply} {t : List ℕ} → outcome m t [] ≡ opened_list xs s → x ≡ reply_of m → crossing x t [] ≡ crossed_of (opened_list xs s)
opens_known xs s {m} {x} {t} em ex = ap (λ (y : Reply). crossing y t []) ex ∙ ap crossed_of em

pub step_known : (r : Record) (s : List ℕ) (q : Request) (p b : List ℕ) {h : Host} {m : Stepped} {x : Reply} {t u : List ℕ} → thread_known r.thread r.awaited ≡ true → h ≡ host_of r → outcome m t u ≡ making h s q p b → x ≡ reply_of m
    → crossing x t u ≡ stepping r s q p b
unfolding stepping
step_known r s q p b {h} {m} {x} {t} {u} e eh em ex =
    simp e (ap (λ (y : Reply). crossing y t u) ex ∙ ap crossed_of (em ∙ ap (λ (g : Host). making g s q p b) eh))

pub step_unknown : (r : Record) (s : List ℕ) (q : Request) (p b : List ℕ) {a : Answer} → thread_known r.thread r.awaited ≡ false → a ≡ plain 1 → crossing (record { next = r; answer = a }) s b ≡ stepping r s q p b
unfolding stepping
step_unknown r s q p b {a} e ea = simp e (ap (λ (y : Answer). crossing (record { next = r; answer = y }) s b) ea)
