-- The checks of a socket, of two sockets, and of the thread decide their plain statements.
-- Assumes nothing.
use mathlib.Core.Path.{◌≡◌, refl, sym, ap, ◌∙◌}
use mathlib.Core.List.{List}
use mathlib.Core.Logic.{◌≢◌, ◌⊎◌, inl, inr, ⊎_elim}
use mathlib.Core.Bool.{Bool, true, false, false≢true}
use Prim.Native.Nat.{ℕ, ◌<◌, ◌≤◌}
use native.Mathlib.Omega.{arith}
use Rattle.std.proofs.lemmas.Bool.{cases_Bool, cases_lt}
use Rattle.laws.specs.Below.{all_below}
use Rattle.laws.specs.Decides.{Decides}
use Rattle.laws.proofs.Numbers.{apart}
use Rattle.laws.proofs.Tests.{not_both}
use Rattle.laws.proofs.Below.{all_from}
use Rattle.laws.proofs.Decide.{d_eq, f_eq, d_lt, f_lt, d_yes, f_yes, d_to, d_not, f_not, d_and, d_or, d_unless, d_cond, d_all}
use Rattle.state.specs.declared.Interface.{Interface}
use Rattle.state.specs.declared.Socket.{Socket}
use Rattle.state.specs.declared.Thread.{Thread}
use Rattle.state.specs.declared.Thread.TheVariants.{Running, Waiting, Ended}
use Rattle.state.specs.Places.{no_socket, socket_in}
use Rattle.state.specs.Interfaces.{own, ours}
use Rattle.state.specs.Sockets.{chained, local_known, blank, socket_ok, sockets_ok, overlap, compatible, earlier, all_apart, open_at}
use Rattle.state.specs.Threads.{bound_at, thread_ok, waiting}
use Rattle.state.specs.Plain.{Chained, LocalKnown, SocketFit, Overlap, Apart, Bound, Awaited}

-- below i where a thing is in use, for none where it is not
d_earlier : {u : Bool} {f : ℕ → Bool} {i : ℕ} {U : Type 0} {P : ℕ → Type 0} → Decides u U → (U → (j : ℕ) → j < i → Decides (f j) (P j))
    → Decides (all_below f (earlier u i)) (U → (j : ℕ) → j < i → P j)
d_earlier {u} {f} {i} {U} {P} c d = go u c
  where
    go : (u : Bool) → Decides u U → Decides (all_below f (earlier u i)) (U → (j : ℕ) → j < i → P j)
    go true y = record { says = λ e x. (d_all (d x)).says e; back = λ p. let x = y.says refl in (d_all (d x)).back (p x) }
    go false y = record { says = λ e x. not_both (y.back x) refl; back = λ p. all_from f 0 (λ j l. absurd (omega arith)) }

-- ---- one socket

blank_is : (s : Socket) → Decides (blank s) (s ≡ no_socket)
blank_is s =
    d_to
    (d_and (d_and (d_and (d_and (d_and (d_and (d_and (d_eq s.laddr 0) (d_eq s.raddr 0)) (d_eq s.lport.0 0)) (d_eq s.rport.0 0)) (d_not (f_yes s.live))) (d_eq s.error 0)) (d_not (f_yes s.bsdcompat))) (d_not (f_yes s.reuse)))
    (λ p. join _ _ _ _ _ _ _ _ p.0.0.0.0.0.0.0 p.0.0.0.0.0.0.1 p.0.0.0.0.0.1 p.0.0.0.0.1 p.0.0.0.1 p.0.0.1 p.0.1 p.1)
    (λ e. (((((((ap (λ (y : Socket). y.laddr) e, ap (λ (y : Socket). y.raddr) e), ap (λ (y : Socket). y.lport.0) e), ap (λ (y : Socket). y.rport.0) e), ap (λ (y : Socket). y.live) e), ap (λ (y : Socket). y.error) e), ap (λ (y : Socket). y.bsdcompat) e), ap (λ (y : Socket). y.reuse) e))
  where
    join : (a b c d : ℕ) (l : Bool) (e : ℕ) (f g : Bool) → a ≡ 0 → b ≡ 0 → c ≡ 0 → d ≡ 0 → l ≡ false → e ≡ 0 → f ≡ false → g ≡ false
        → ◌≡◌ {A = Socket} (record { laddr = a; raddr = b; lport = record { 0 = c }; rport = record { 0 = d }; live = l; error = e; bsdcompat = f; reuse = g }) no_socket
    join a b c d l e f g ea eb ec ed el ee ef eg = rw (ea, eb, ec, ed, el, ee, ef, eg)

chained_is : (s : Socket) → Decides (chained s) (Chained s)
chained_is s =
    d_to
    (d_and (d_and (d_unless (f_eq s.rport.0 0) (d_not (f_eq s.raddr 0))) (d_unless (f_eq s.raddr 0) (d_not (f_eq s.laddr 0)))) (d_unless (f_eq s.laddr 0) (d_not (f_eq s.lport.0 0))))
    (λ p. record { peer = p.0.0; remote = p.0.1; local = p.1 })
    (λ w. ((w.peer, w.remote), w.local))

local_is : (is : List Interface) (s : Socket) → Decides (local_known is s.laddr) (LocalKnown is s)
unfolding local_known own
local_is is s =
    d_to (d_cond (d_eq s.laddr 0) (f_eq s.laddr 0) (d_yes true) (d_yes (ours is s.laddr)))
    (λ p. ⊎_elim (λ e. inl e) (λ d. inr (p.1 d)) (zero_or s.laddr))
    (λ q. (λ e. refl, λ d. ⊎_elim (λ e. absurd (d e)) (λ e. e) q))
  where
    zero_or : (a : ℕ) → (a ≡ 0) ⊎ (a ≢ 0)
    zero_or a = ⊎_elim (λ (w : a < 1). inl (omega arith)) (λ (w : 1 ≤ a). inr (λ e. omega arith)) (cases_lt a 1)

pub socket_is : (is : List Interface) (s : Socket) → Decides (socket_ok is s) (SocketFit is s)
socket_is is s =
    d_to
    (d_cond (d_yes s.live) (f_yes s.live) (d_and (d_and (chained_is s) (local_is is s)) (d_or (d_eq s.error 0) (d_eq s.error 10))) (blank_is s))
    (λ p. ⊎_elim
    (λ x. let q = p.0 x in record { closed = p.1; chain = q.0.0; local = q.0.1; error = q.1 })
    (λ x. let e = p.1 x in record { closed = p.1; chain = rw e nobody_chained; local = inl (ap (λ (y : Socket). y.laddr) e); error = inl (ap (λ (y : Socket). y.error) e) })
    (cases_Bool s.live))
    (λ w. (λ x. ((w.chain, w.local), w.error), w.closed))
  where
    nobody_chained : Chained no_socket
    nobody_chained = record { peer = λ n. n; remote = λ n. n; local = λ n. n }

pub sockets_are : (is : List Interface) (ks : List Socket) → Decides (sockets_ok is ks) ((k : ℕ) → k < 16 → SocketFit is (socket_in ks k))
unfolding sockets_ok
sockets_are is ks = d_all (λ k l. socket_is is (socket_in ks k))

-- a closed one has no local port
pub port_live : {is : List Interface} {s : Socket} → SocketFit is s → s.lport.0 ≢ 0 → s.live ≡ true
port_live {s = s} f n = ⊎_elim (λ x. x) (λ x. absurd (n (ap (λ (y : Socket). y.lport.0) (f.closed x)))) (cases_Bool s.live)

-- ---- two sockets

pub overlap_is : (a b : ℕ) → Decides (overlap a b) (Overlap a b)
overlap_is a b =
    d_to (d_or (d_or (d_eq a b) (d_eq a 0)) (d_eq b 0))
    (λ p. ⊎_elim (λ q. ⊎_elim (λ e. inl e) (λ e. inr (inl e)) q) (λ e. inr (inr e)) p)
    (λ p. ⊎_elim (λ e. inl (inl e)) (λ q. ⊎_elim (λ e. inl (inr e)) (λ e. inr e) q) p)

-- on one port with overlapping addresses: both have reuse
abbrev Reused : Socket → Socket → Type 0
Reused s t = (s.lport.0 ≡ t.lport.0) × Overlap s.laddr t.laddr → (s.reuse ≡ true) × (t.reuse ≡ true)

pub compatible_is : (s t : Socket) → Decides (compatible s t) (Reused s t)
compatible_is s t = d_unless (f_not (d_and (d_eq s.lport.0 t.lport.0) (overlap_is s.laddr t.laddr))) (d_and (d_yes s.reuse) (d_yes t.reuse))

pub apart_sym : {s t : Socket} → Apart s t → Apart t s
apart_sym a =
    record {
      reused =
          λ x y n e o. let b = a.reused y x (λ z. n (e ∙ z)) (sym e) (⊎_elim (λ q. inl (sym q)) (λ q. inr (⊎_elim (λ u. inr u) (λ u. inl u) q)) o) in
          (b.1, b.0);
    }

-- any two of them
abbrev pub AllApart : List Socket → Type 0
AllApart ks = (j k : ℕ) → j < 16 → k < 16 → j ≢ k → Apart (socket_in ks j) (socket_in ks k)

-- where a socket with a local port is open
pub apart_are : (is : List Interface) (ks : List Socket) → ((k : ℕ) → k < 16 → SocketFit is (socket_in ks k)) → Decides (all_apart ks) (AllApart ks)
unfolding all_apart
apart_are is ks fit =
    d_to
    (d_all (λ k l. d_earlier (d_not (f_eq (socket_in ks k).lport.0 0)) (λ n j m. compatible_is (socket_in ks j) (socket_in ks k))))
    (λ p j k lj lk d. ⊎_elim (λ (w : j < k). pair p j k lk w) (λ (w : k < j). apart_sym (pair p k j lj w)) (apart j k d))
    (λ a k l n j m q. let n' : (socket_in ks j).lport.0 ≢ 0 = λ z. n (sym q.0 ∙ z) in
    (a j k (omega arith) l (λ e. omega arith)).reused (port_live (fit j (omega arith)) n') (port_live (fit k l) n) n' q.0 q.1)
  where
    pair : ((k : ℕ) → k < 16 → (socket_in ks k).lport.0 ≢ 0 → (j : ℕ) → j < k → Reused (socket_in ks j) (socket_in ks k)) → (j k : ℕ) → k < 16 → j < k → Apart (socket_in ks j) (socket_in ks k)
    pair p j k l m = record { reused = λ x y n e o. p k l (λ z. n (e ∙ z)) j m (e, o) }

-- ---- a descriptor, and the thread

pub open_is : (ks : List Socket) (k : ℕ) → Decides (open_at ks k) ((k < 16) × ((socket_in ks k).live ≡ true))
unfolding open_at
open_is ks k =
    d_to (d_cond (d_lt k 16) (f_lt k 16) (d_yes (socket_in ks k).live) (d_yes false))
    (λ p. ⊎_elim (λ (w : k < 16). (w, p.0 w)) (λ (w : 16 ≤ k). not_both (p.1 w) refl) (cases_lt k 16))
    (λ q. (λ w. q.1, λ w. absurd (omega arith)))

bound_is : (ks : List Socket) (k : ℕ) → Decides (bound_at ks k) (Bound ks k)
unfolding bound_at
bound_is ks k =
    d_to
    (d_cond (d_lt k 16) (f_lt k 16) (d_and (d_yes (socket_in ks k).live) (d_not (f_eq (socket_in ks k).lport.0 0))) (d_yes false))
    (λ p. ⊎_elim (λ (w : k < 16). record { small = w; live = (p.0 w).0; port = (p.0 w).1 }) (λ (w : 16 ≤ k). not_both (p.1 w) refl) (cases_lt k 16))
    (λ q. (λ w. (q.live, q.port), λ w. absurd (omega (arith, q.small))))

pub thread_is : (ks : List Socket) (t : Thread) → Decides (thread_ok ks t) (Awaited ks t)
unfolding thread_ok
thread_is ks Running = record { says = λ e d q. absurd (false≢true (ap waiting q)); back = λ w. refl }
thread_is ks (Waiting d) = d_to (bound_is ks d.0) (λ p b q. let e : d ≡ b = cc in rw e at p) (λ w. w d refl)
thread_is ks Ended = record { says = λ e d q. absurd (false≢true (ap waiting q)); back = λ w. refl }
