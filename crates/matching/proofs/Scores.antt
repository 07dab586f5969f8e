-- What a score says: nothing without an open local port, the number of parts where all agree; and two that match have reuse.
-- Assumes nothing.
use mathlib.Core.Path.{◌≡◌, sym, ◌∙◌}
use mathlib.Core.List.{List}
use mathlib.Core.Logic.{◌≢◌, inl, inr, ⊎_elim}
use mathlib.Core.Bool.{Bool, true, false}
use Prim.Native.Nat.{ℕ, ◌+◌, ◌<◌}
use Rattle.std.proofs.lemmas.Bool.{cases_Bool, cases_eq}
use Rattle.laws.specs.Decides.{Decides}
use Rattle.laws.proofs.Tests.{not_both}
use Rattle.laws.proofs.Decide.{d_eq, f_eq, d_yes, d_not, d_and, d_unless, d_to}
use Rattle.net.specs.declared.Flow.{Flow}
use Rattle.state.specs.declared.Socket.{Socket}
use Rattle.state.specs.Places.{socket_in}
use Rattle.state.specs.Plain.{Overlap, Apart}
use Rattle.state.proofs.Fits.{AllApart}
use Rattle.matching.specs.Scores.{agrees, matched, one, parts, score_of}
use Rattle.matching.specs.Plain.{Matches}

pub matched_is : (s : Socket) (f : Flow) → Decides (matched s f) (Matches s f)
matched_is s f =
    d_to
    (d_and (d_and (d_and (d_and (d_and (d_yes s.live) (d_not (f_eq s.lport.0 0))) (d_eq s.lport.0 f.dport.0))
    (part s.laddr f.dst)) (part s.raddr f.src)) (part s.rport.0 f.sport.0))
    (λ p. record { live = p.0.0.0.0.0; port = p.0.0.0.0.1; here = p.0.0.0.1; local = p.0.0.1; remote = p.0.1; peer = p.1 })
    (λ w. (((((w.live, w.port), w.here), w.local), w.remote), w.peer))
  where
    part : (has given : ℕ) → Decides (agrees has given) (has ≢ 0 → has ≡ given)
    part has given = d_unless (f_eq has 0) (d_eq has given)

-- ---- the score

-- as it is computed
pub scored : (s : Socket) (f : Flow) {m : Bool} {a b c : ℕ} → m ≡ matched s f → m ≡ true → a ≡ one s.laddr → b ≡ one s.raddr → c ≡ one s.rport.0 → 1 + a + b + c ≡ score_of s f
unfolding score_of
scored s f e t ea eb ec = let q : matched s f ≡ true = sym e ∙ t in simp (q, ea, eb, ec)

pub unscored : (s : Socket) (f : Flow) {m : Bool} → m ≡ matched s f → m ≡ false → 0 ≡ score_of s f
unfolding score_of
unscored s f e t = let q : matched s f ≡ false = sym e ∙ t in simp q

-- all agree: the number of parts that the socket has
pub score_parts : (s : Socket) (f : Flow) → Matches s f → score_of s f ≡ parts s
unfolding score_of
score_parts s f m = simp ((matched_is s f).back m)

-- one does not: 0
pub score_none : (s : Socket) (f : Flow) → (Matches s f → ⊥) → score_of s f ≡ 0
unfolding score_of
score_none s f n = let e : matched s f ≡ false = ⊎_elim (λ e. absurd (n ((matched_is s f).says e))) (λ e. e) (cases_Bool (matched s f)) in simp e

-- above 0: all agree
pub score_matches : (s : Socket) (f : Flow) → score_of s f ≢ 0 → Matches s f
unfolding score_of
score_matches s f d = ⊎_elim (λ e. (matched_is s f).says e) (λ e. absurd (d (score_none s f (λ m. not_both ((matched_is s f).back m) e)))) (cases_Bool (matched s f))

pub unbound_scores : (s : Socket) (f : Flow) → s.lport.0 ≡ 0 → score_of s f ≡ 0
unbound_scores s f e = score_none s f (λ m. m.port e)

pub closed_scores : (s : Socket) (f : Flow) → s.live ≡ false → score_of s f ≡ 0
closed_scores s f e = score_none s f (λ m. not_both m.live e)

-- ---- in a well-formed record, two that match one datagram both have reuse

agree_overlap : (a b d : ℕ) → (a ≢ 0 → a ≡ d) → (b ≢ 0 → b ≡ d) → Overlap a b
agree_overlap a b d ea eb =
    ⊎_elim (λ (e : a ≡ 0). inr (inl e))
    (λ (x : a ≢ 0). ⊎_elim (λ (e : b ≡ 0). inr (inr e)) (λ (y : b ≢ 0). inl (ea x ∙ sym (eb y))) (cases_eq b 0))
    (cases_eq a 0)

matching_reuse : {s t : Socket} → Apart s t → (f : Flow) → Matches s f → Matches t f → (s.reuse ≡ true) × (t.reuse ≡ true)
matching_reuse {s} {t} a f m n = a.reused m.live n.live m.port (m.here ∙ sym n.here) (agree_overlap s.laddr t.laddr f.dst m.local n.local)

-- demand 3's first half, of the sockets
pub both_reuse : (ks : List Socket) → AllApart ks → (f : Flow) (j k : ℕ) → j < 16 → k < 16 → j ≢ k → score_of (socket_in ks j) f ≢ 0 → score_of (socket_in ks k) f ≢ 0
    → ((socket_in ks j).reuse ≡ true) × ((socket_in ks k).reuse ≡ true)
both_reuse ks all f j k lj lk d sj sk = matching_reuse (all j k lj lk d) f (score_matches (socket_in ks j) f sj) (score_matches (socket_in ks k) f sk)
