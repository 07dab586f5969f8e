-- Laws of `best_below`: for the loop that computes it, and what it says of the winner.
-- Assumes nothing.
use mathlib.Core.Path.{◌≡◌, refl, sym, ap, ◌∙◌}
use mathlib.Core.List.{List}
use mathlib.Core.Logic.{◌≢◌, ⊎_elim}
use Prim.Native.Nat.{ℕ, zero, suc, ◌+◌, ◌<◌, ◌≤◌}
use native.Mathlib.Numerals.{add-one}
use native.Mathlib.Omega.{arith}
use lib.Dec.{ltb, eqb}
use borrow.Author.Tests.{ltb-true, ltb-false, lt-ltb, le-ltb, eqb-true, ne_eqb}
use Rattle.std.proofs.lemmas.Bool.{cases_eq, cases_lt, cond_both}
use Rattle.std.specs.Prelude.{Option, None, Some}
use Rattle.std.specs.Option.{option_map_or}
use Rattle.net.specs.declared.Flow.{Flow}
use Rattle.state.specs.declared.Socket.{Socket}
use Rattle.state.specs.Places.{socket_in}
use Rattle.matching.specs.declared.Best.{Best}
use Rattle.matching.specs.Scores.{score_of, better, best_below, best_of, found}

-- ---- the loop

pub best_none : (ks : List Socket) (f : Flow) → record { at = 0; score = 0 } ≡ best_below ks f 0
unfolding best_below
best_none ks f = refl

pub best_more : (ks : List Socket) (f : Flow) (i : ℕ) → best_below ks f (i + 1) ≡ better (best_below ks f i) i (score_of (socket_in ks i) f)
unfolding best_below
best_more ks f i = rw (add-one i)

-- the loop has nobody where the score is 0
found_score : (b : Best) → option_map_or (λ (x : Best). x.score) (found b) 0 ≡ b.score
found_score b = cond_both (eqb b.score 0) None (Some b) (λ (o : Option Best). option_map_or (λ (x : Best). x.score) o 0 ≡ b.score) (λ e. sym (eqb-true _ _ e)) (λ e. refl)

-- socket i, which scores s, takes over
found_more : (b : Best) (i : ℕ) {o : Option Best} {m s : ℕ} → o ≡ found b → m ≡ option_map_or (λ (x : Best). x.score) o 0 → m < s → Some (record { at = i; score = s }) ≡ found (better b i s)
found_more b i {o} {m} {s} e q l =
    let h : b.score < s = let k : m ≡ b.score = q ∙ ap (λ (x : Option Best). option_map_or (λ (y : Best). y.score) x 0) e ∙ found_score b in omega arith in
    rw (lt-ltb b.score s h, ne_eqb s 0 (λ z. omega arith)) refl

-- or does not
found_kept : (b : Best) (i : ℕ) {o : Option Best} {m s : ℕ} → o ≡ found b → m ≡ option_map_or (λ (x : Best). x.score) o 0 → s ≤ m → o ≡ found (better b i s)
found_kept b i {o} {m} {s} e q l =
    let h : s ≤ b.score = let k : m ≡ b.score = q ∙ ap (λ (x : Option Best). option_map_or (λ (y : Best). y.score) x 0) e ∙ found_score b in omega arith in
    rw (le-ltb b.score s h) e

module _ (ks : List Socket) (f : Flow) (i : ℕ) {o p : Option Best} {m s : ℕ} (e : o ≡ found (best_below ks f i)) (q : m ≡ option_map_or (λ (x : Best). x.score) o 0) (g : s ≡ score_of (socket_in ks i) f) where
  turn : p ≡ found (better (best_below ks f i) i s) → p ≡ found (best_below ks f (i + 1))
  turn h = h ∙ ap (λ (n : ℕ). found (better (best_below ks f i) i n)) g ∙ ap found (sym (best_more ks f i))

  pub best_new : p ≡ Some (record { at = i; score = s }) → m < s → p ≡ found (best_below ks f (i + 1))
  best_new h l = turn (h ∙ found_more (best_below ks f i) i e q l)

  pub best_kept : p ≡ o → s ≤ m → p ≡ found (best_below ks f (i + 1))
  best_kept h l = turn (h ∙ found_kept (best_below ks f i) i e q l)

-- ---- the winner among the sockets below n

pub record BestOf (ks : List Socket) (f : Flow) (n : ℕ) (b : Best) : Type 0 where
  -- its score is what was found
  pub is : b.score ≢ 0 → (b.at < n) × (score_of (socket_in ks b.at) f ≡ b.score)
  -- no socket scores more
  pub most : (k : ℕ) → k < n → score_of (socket_in ks k) f ≤ b.score
  -- no lower descriptor scores as much
  pub least : b.score ≢ 0 → (k : ℕ) → k < b.at → score_of (socket_in ks k) f < b.score

-- one socket more
best_next : (ks : List Socket) (f : Flow) (n : ℕ) (b : Best) → BestOf ks f n b → BestOf ks f (suc n) (better b n (score_of (socket_in ks n) f))
best_next ks f n b t =
    cond_both (ltb b.score (score_of (socket_in ks n) f)) (record { at = n; score = score_of (socket_in ks n) f }) b (BestOf ks f (suc n))
    (λ e. let more : b.score < score_of (socket_in ks n) f = ltb-true _ _ e in
    record {
      is = λ d. (omega arith, refl);
      most = λ k l. upto k l (score_of (socket_in ks n) f) (λ w. omega (arith, t.most k w)) (omega arith);
      least = λ d k l. omega (arith, t.most k l);
    })
    (λ e. let less : score_of (socket_in ks n) f ≤ b.score = ltb-false _ _ e in
    record {
      is = λ d. (omega (arith, (t.is d).0), (t.is d).1);
      most = λ k l. upto k l b.score (t.most k) less;
      least = t.least;
    })
  where
    -- what holds of each below n and of n holds of each below suc n
    upto : (k : ℕ) → k < suc n → (m : ℕ) → (k < n → score_of (socket_in ks k) f ≤ m) → score_of (socket_in ks n) f ≤ m → score_of (socket_in ks k) f ≤ m
    upto k l m old new = ⊎_elim old (λ (w : n ≤ k). let q : k ≡ n = omega arith in rw q new) (cases_lt k n)

best_among : (ks : List Socket) (f : Flow) (n : ℕ) → BestOf ks f n (best_below ks f n)
unfolding best_below
best_among ks f zero = record { is = λ d. absurd (d refl); most = λ k l. absurd (omega arith); least = λ d. absurd (d refl) }
best_among ks f (suc n) = best_next ks f n (best_below ks f n) (best_among ks f n)

-- the winner: greatest nonzero score, lowest descriptor among equals
pub winner_is : (ks : List Socket) (f : Flow) → BestOf ks f 16 (best_of ks f)
winner_is ks f = best_among ks f 16

best_small : (ks : List Socket) (f : Flow) (n : ℕ) → (best_below ks f (suc n)).at < suc n
unfolding best_below
best_small ks f zero = cond_both (ltb 0 (score_of (socket_in ks 0) f)) _ _ (λ (b : Best). b.at < 1) (λ e. omega arith) (λ e. omega arith)
best_small ks f (suc n) =
    cond_both (ltb (best_below ks f (suc n)).score (score_of (socket_in ks (suc n)) f)) _ (best_below ks f (suc n)) (λ (b : Best). b.at < suc (suc n))
    (λ e. omega arith) (λ e. omega (arith, best_small ks f n))

-- it is a descriptor, whoever wins
pub winner_small : (ks : List Socket) (f : Flow) → (best_of ks f).at < 16
winner_small ks f = best_small ks f 15

-- there is no winner exactly when every socket scores 0
pub nobody : (ks : List Socket) (f : Flow) → (best_of ks f).score ≡ 0 → (k : ℕ) → k < 16 → score_of (socket_in ks k) f ≡ 0
nobody ks f e k l = omega (arith, (winner_is ks f).most k l)

pub nobody_back : (ks : List Socket) (f : Flow) → ((k : ℕ) → k < 16 → score_of (socket_in ks k) f ≡ 0) → (best_of ks f).score ≡ 0
nobody_back ks f none =
    ⊎_elim (λ (e : (best_of ks f).score ≡ 0). e)
    (λ (d : (best_of ks f).score ≢ 0). let w = (winner_is ks f).is d in sym w.1 ∙ none (best_of ks f).at w.0)
    (cases_eq (best_of ks f).score 0)
