-- Which socket may stand where socket k stands: a law for each way in which calls change one.
-- Assumes nothing.
use mathlib.Core.Path.{◌≡◌, refl, sym, ◌∙◌}
use mathlib.Core.List.{List}
use mathlib.Core.Logic.{◌≢◌, ◌⊎◌, inl, inr, ⊎_elim}
use mathlib.Core.Bool.{Bool, true, false}
use Prim.Native.Nat.{ℕ, ◌<◌}
use native.Mathlib.Omega.{arith}
use lib.Dec.{eqb}
use lib.ListN.{length, set, length-set}
use borrow.Author.Tests.{eqb-false, not-true}
use Rattle.std.proofs.lemmas.Bool.{cases_Bool, cases_eq, cond_both}
use Rattle.laws.proofs.Numbers.{below}
use Rattle.laws.proofs.Tests.{not_both}
use Rattle.laws.proofs.Below.{lowest_passes, lowest_upto}
use Rattle.net.specs.declared.Port.{Port}
use Rattle.state.specs.declared.Interface.{Interface}
use Rattle.state.specs.declared.Socket.{Socket}
use Rattle.state.specs.Places.{no_socket, socket_in}
use Rattle.state.specs.Interfaces.{ours}
use Rattle.state.specs.Plain.{Chained, SocketFit, Overlap, Apart}
use Rattle.state.proofs.Places.{socket_there, socket_else}
use Rattle.state.proofs.Fits.{AllApart, apart_sym}
use Rattle.matching.specs.Ports.{in_use, auto_port}
use Rattle.matching.proofs.Free.{unused_is, auto_free, auto_from}
use Rattle.binding.specs.Sockets.{new_socket, closed_at, lowest_closed, with_local, with_remote, with_error, with_options, port_for}

-- the sockets of a well-formed record
pub record Fitting (is : List Interface) (ks : List Socket) : Type 0 where
  pub sized : length ks ≡ 16
  pub fit : (k : ℕ) → k < 16 → SocketFit is (socket_in ks k)
  pub apart : AllApart ks

-- s may be socket k: it is fine itself, and gets on with every other
pub record Stands (is : List Interface) (ks : List Socket) (k : ℕ) (s : Socket) : Type 0 where
  pub fit : SocketFit is s
  pub apart : (j : ℕ) → j < 16 → j ≢ k → Apart s (socket_in ks j)

-- what may stand there keeps the sockets fitting
pub stands_keeps : {is : List Interface} {ks : List Socket} {k : ℕ} {s : Socket} → Fitting is ks → k < 16 → Stands is ks k s → Fitting is (set ks k s)
stands_keeps {is} {ks} {k} {s} f hk w =
    record {
      sized = simp length-set f.sized;
      fit = λ j hj. ⊎_elim (λ (e : j ≡ k). rw (e, there) w.fit) (λ (d : j ≢ k). rw (socket_else ks k s j d) (f.fit j hj)) (cases_eq j k);
      apart =
          λ i j hi hj d. ⊎_elim
          (λ (e : i ≡ k). let n : j ≢ k = λ x. d (e ∙ sym x) in rw (e, there, socket_else ks k s j n) (w.apart j hj n))
          (λ (n : i ≢ k). ⊎_elim
          (λ (e : j ≡ k). rw (e, there, socket_else ks k s i n) (apart_sym (w.apart i hi n)))
          (λ (m : j ≢ k). rw (socket_else ks k s i n, socket_else ks k s j m) (f.apart i j hi hj d))
          (cases_eq j k))
          (cases_eq i k);
    }
  where
    there : socket_in (set ks k s) k ≡ s
    there = socket_there ks k s (omega (arith, f.sized))

-- ---- two sockets

-- a port that the other does not have
fresh_apart : {s t : Socket} → t.lport.0 ≢ s.lport.0 → Apart s t
fresh_apart d = record { reused = λ x y n e o. absurd (d (sym e)) }

-- the same port and reuse; the same address, or one where there was none
narrow_apart : {s t u : Socket} → t.live ≡ s.live → t.lport.0 ≡ s.lport.0 → t.reuse ≡ s.reuse → (t.laddr ≡ s.laddr) ⊎ (s.laddr ≡ 0) → Apart s u → Apart t u
narrow_apart {s} {t} {u} l p r q a =
    record {
      reused =
          λ x y n e o. let b = a.reused (sym l ∙ x) y (λ z. n (p ∙ z)) (sym p ∙ e) (⊎_elim (λ (w : t.laddr ≡ s.laddr). rw w at o) (λ w. inr (inl w)) q) in
          (r ∙ b.0, b.1);
    }

-- a pair that is not in use
unused_apart : (ks : List Socket) (k a p : ℕ) (s : Socket) → in_use ks k s.reuse a p ≡ false → s.laddr ≡ a → s.lport.0 ≡ p
    → (j : ℕ) → j < 16 → j ≢ k → Apart s (socket_in ks j)
unused_apart ks k a p s free ea ep j hj d = record { reused = λ x y n e o. ⊎_elim (λ u. ⊎_elim (λ v. (v, u)) (λ v. absurd (taken y e o (λ b. not_both b.1 v))) (cases_Bool s.reuse)) (λ u. absurd (taken y e o (λ b. not_both b.0 u))) (cases_Bool (socket_in ks j).reuse) }
  where
    taken : (socket_in ks j).live ≡ true → s.lport.0 ≡ (socket_in ks j).lport.0 → Overlap s.laddr (socket_in ks j).laddr
        → (((socket_in ks j).reuse ≡ true) × (s.reuse ≡ true) → ⊥) → ⊥
    taken y e o u =
        (unused_is ks k s.reuse a p).says free j hj d
        (record { live = y; port = sym e ∙ ep; overlaps = ⊎_elim (λ x. inl (sym x ∙ ea)) (λ x. inr (⊎_elim (λ z. inr (sym ea ∙ z)) (λ z. inl z) x)) o; unshared = u })

-- ---- one socket

pub closed_fit : (is : List Interface) → SocketFit is no_socket
closed_fit is = record { closed = λ e. refl; chain = record { peer = λ n. n; remote = λ n. n; local = λ n. n }; local = inl refl; error = inl refl }

pub new_fit : (is : List Interface) → SocketFit is new_socket
new_fit is = record { closed = λ e. not_both refl e; chain = record { peer = λ n. n; remote = λ n. n; local = λ n. n }; local = inl refl; error = inl refl }

module _ {is : List Interface} {ks : List Socket} (f : Fitting is ks) (k : ℕ) (hk : k < 16) where
  abbrev old : Socket
  old = socket_in ks k

  old_fit : SocketFit is old
  old_fit = f.fit k hk

  -- no local port: socket, close, setopt reuse
  pub unbound_stands : {s : Socket} → s.lport.0 ≡ 0 → SocketFit is s → Stands is ks k s
  unbound_stands z w = record { fit = w; apart = λ j hj d. record { reused = λ x y n e o. absurd (n z) } }

  -- the same local port and reuse; the same local address, or one where there was none
  pub kept_stands : {s : Socket} → s.live ≡ old.live → s.lport.0 ≡ old.lport.0 → s.reuse ≡ old.reuse → (s.laddr ≡ old.laddr) ⊎ (old.laddr ≡ 0) → SocketFit is s → Stands is ks k s
  kept_stands l p r q w = record { fit = w; apart = λ j hj d. narrow_apart l p r q (f.apart k j hk hj (λ e. d (sym e))) }

  module _ (live : old.live ≡ true) where
    -- the same pairs are chained as they were
    same_chain : {s : Socket} → s.laddr ≡ old.laddr → s.raddr ≡ old.raddr → s.lport.0 ≡ old.lport.0 → s.rport.0 ≡ old.rport.0 → Chained s
    same_chain la ra lp rp =
        let c = old_fit.chain in
        record {
          peer = λ n z. c.peer (λ e. n (rp ∙ e)) (sym ra ∙ z);
          remote = λ n z. c.remote (λ e. n (ra ∙ e)) (sym la ∙ z);
          local = λ n z. c.local (λ e. n (la ∙ e)) (sym lp ∙ z);
        }

    -- the pending error
    pub error_stands : (n : ℕ) → (n ≡ 0) ⊎ (n ≡ 10) → Stands is ks k (with_error old n)
    error_stands n e =
        kept_stands {s = with_error old n} refl refl refl (inl refl) (record { closed = λ x. not_both live x; chain = same_chain refl refl refl refl; local = old_fit.local; error = e })

    -- options: reuse only where there is no local port
    pub options_stands : (b r : Bool) → (r ≡ old.reuse) ⊎ (old.lport.0 ≡ 0) → Stands is ks k (with_options old b r)
    options_stands b r q =
        let w : SocketFit is (with_options old b r) = record { closed = λ x. not_both live x; chain = same_chain refl refl refl refl; local = old_fit.local; error = old_fit.error } in
        ⊎_elim (λ e. kept_stands refl refl e (inl refl) w) (λ z. unbound_stands z w) q

    -- other pairs, where the chain and the local address are as document 01 has them
    pair_fit : {a ra : ℕ} {p rp : Port} → Chained (with_remote (with_local old a p) ra rp) → (a ≡ 0) ⊎ (ours is a ≡ true) → SocketFit is (with_remote (with_local old a p) ra rp)
    pair_fit c l = record { closed = λ x. not_both live x; chain = c; local = l; error = old_fit.error }

    -- connect and disconnect of a socket with a local port: another remote pair, and a local address where there was none
    pub linked_stands : {a ra : ℕ} {rp : Port} → (a ≡ old.laddr) ⊎ (old.laddr ≡ 0) → Chained (with_remote (with_local old a old.lport) ra rp) → (a ≡ 0) ⊎ (ours is a ≡ true)
        → Stands is ks k (with_remote (with_local old a old.lport) ra rp)
    linked_stands q c l = kept_stands refl refl refl q (pair_fit c l)

    -- bind: a pair that is not in use
    pub bound_stands : {a ra : ℕ} {p rp : Port} → in_use ks k old.reuse a p.0 ≡ false → Chained (with_remote (with_local old a p) ra rp) → (a ≡ 0) ⊎ (ours is a ≡ true)
        → Stands is ks k (with_remote (with_local old a p) ra rp)
    bound_stands {a} {ra} {p} {rp} free c l = record { fit = pair_fit c l; apart = unused_apart ks k a p.0 (with_remote (with_local old a p) ra rp) free refl refl }

    -- the port of autobind: bind, connect, sendto, recvfrom
    pub auto_stands : {a ra : ℕ} {rp : Port} → Chained (with_remote (with_local old a (record { 0 = auto_port ks })) ra rp) → (a ≡ 0) ⊎ (ours is a ≡ true)
        → Stands is ks k (with_remote (with_local old a (record { 0 = auto_port ks })) ra rp)
    auto_stands c l = record { fit = pair_fit c l; apart = λ j hj d. fresh_apart (auto_free ks j hj) }

-- ---- the descriptor that socket gives

-- where there is one, it is closed
pub lowest_closed_lem : (ks : List Socket) → lowest_closed ks ≢ 16 → (lowest_closed ks < 16) × ((socket_in ks (lowest_closed ks)).live ≡ false)
unfolding lowest_closed
lowest_closed_lem ks d =
    let up = lowest_upto (λ k. closed_at (socket_in ks k)) 16 0 in
    let l : lowest_closed ks < 16 = below (lowest_closed ks) 16 (omega arith) d in
    (l, not-true _ (lowest_passes (λ k. closed_at (socket_in ks k)) 16 0 (omega arith)))

-- autobind gives a port
pub port_some : (ks : List Socket) (p : Port) → (port_for ks p).0 ≢ 0
port_some ks p =
    cond_both (eqb p.0 0) _ _ (λ (q : Port). q.0 ≢ 0) (λ e z. omega (arith, auto_from ks)) (λ e. eqb-false _ _ e)
