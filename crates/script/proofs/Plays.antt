-- A script's loop: where it stands after n turns.
-- Assumes nothing.
use mathlib.Core.Path.{◌≡◌, refl, sym, ap, ◌∙◌}
use mathlib.Core.List.{List}
use mathlib.Core.Logic.{⊎_elim}
use mathlib.Core.Bool.{Bool, true, false, ◌&&◌, not, cond}
use Prim.Native.Nat.{ℕ, zero, suc, ◌+◌, ◌*◌, ◌≤◌, ◌<◌}
use native.Mathlib.Numerals.{add-one}
use native.Mathlib.Omega.{arith}
use Rattle.std.proofs.lemmas.Bool.{cases_lt, cond_both}
use Rattle.std.specs.Prelude.{Option, Some, None, unwrap_or, IfSome}
use lib.Dec.{ltb}
use lib.ListN.{length, length-append}
use borrow.Author.Tests.{ltb-true, not-true}
use Rattle.laws.proofs.Tests.{and_left, and_right}
use Rattle.host.specs.declared.Host.{Host}
use Rattle.answers.specs.declared.Answer.{Answer}
use Rattle.script.specs.declared.lines.Page.{Page}
use Rattle.script.specs.declared.playing.Memory.{Memory}
use Rattle.script.specs.Fields.{fields_at}
use Rattle.script.specs.Steps.{Making, making}
use Rattle.script.specs.Lines.{given, gives_descriptor, gives_length, line_length, line, closing}
use Rattle.script.specs.Pages.{Room}
use Rattle.script.specs.Playing.{payload, bad_word, turn_of, turn, Turned, State, further, played, starting, At}
use Rattle.script.proofs.Text.{put_nothing, put_then, decimal_length, column_length}

-- ---- how long a line is, and a whole text

line_small : (n k : ℕ) (a : Answer) → length (line n k a) ≤ 24
unfolding line given
line_small n k a =
    let b1 = decimal_length n in
    let b2 = column_length true a.number in
    let b3 = column_length (gives_descriptor k a) a.descriptor.0 in
    let b4 = column_length (gives_length k a) (line_length k a) in
    simp length-append (omega arith)

closing_small : (n : ℕ) → length (closing n bad_word) ≤ 24
unfolding closing
closing_small n = simp length-append (omega (arith, decimal_length n))

said_small : (n k : ℕ) (m : Making) → length (turn_of n k m).said ≤ 24
said_small n k m = cond_both m.known _ _ (λ (xs : List ℕ). length xs ≤ 24) (λ e. line_small (n + 1) k m.answer) (λ e. closing_small (n + 1))

turn_small : (input : List ℕ) (n : ℕ) (h : Host) (s b : List ℕ) → length (turn input n h s b).said ≤ 24
turn_small input n h s b = said_small n (fields_at input (13 + 16 * n)).kind (making h s (fields_at input (13 + 16 * n)) (payload (n + 1) (fields_at input (13 + 16 * n)).len) b)

pub text_small : (input : List ℕ) (q : State) (k : ℕ) → length (played input q k).text ≤ length q.text + 24 * k
unfolding played
text_small input q zero = omega arith
text_small input q (suc k) =
    let p = played input q k in
    let b = text_small input q k in
    let t = turn input k p.host p.bytes p.lent in
    cond_both p.ended p (further p t) (λ (x : State). length x.text ≤ length q.text + 24 * suc k) (λ e. omega (arith, b)) (λ e. omega (arith, b, turn_small input k p.host p.bytes p.lent, length-append p.text t.said))

-- ---- the loop's test

pub going_on : (n m : ℕ) (e : Bool) → (ltb n m && not e) ≡ true → n < m
going_on n m e t = ltb-true n m (and_left (ltb n m) _ t)

pub not_ended : (n m : ℕ) (e : Bool) → (ltb n m && not e) ≡ true → e ≡ false
not_ended n m e t = not-true e (and_right (ltb n m) _ t)

-- ---- the invariant

-- where a host is given, it is the turn's
if_given : (r : Option Host) (h : Host) {k : Host} → unwrap_or r h ≡ k → IfSome r (λ x. x ≡ k)
if_given (Some x) h e = e
if_given None h e = tt

module _ (input : List ℕ) (q₀ : State) (a : Page) where
  -- one turn more
  pub kept_turn : (n : ℕ) {h : Host} {r : Option Host} {m m' : Memory} {p p' : Page} → Room a (length (played input q₀ n).text) → At (played input q₀ n) (Some h) m a p → Turned h (turn input n h m.store m.buffer) r m' p p' → At (played input q₀ (n + 1)) r m' a p'
  unfolding played
  kept_turn n {h} {r} {m} {m'} {p} {p'} room k w =
      let q = played input q₀ n in
      let live : q.ended ≡ false = sym k.ended in
      let eq : turn input n h m.store m.buffer ≡ turn input n q.host q.bytes q.lent =
      ap (λ (h : Host). turn input n h m.store m.buffer) k.host ∙ ap (λ (x : List ℕ). turn input n q.host x m.buffer) k.store ∙ ap (λ (x : List ℕ). turn input n q.host q.bytes x) k.buffer in
      let step : played input q₀ (n + 1) ≡ further q (turn input n h m.store m.buffer) =
      ap (played input q₀) (add-one n)
      ∙ ap (λ (x : Bool). cond x q (further q (turn input n q.host q.bytes q.lent))) live
      ∙ ap (further q) (sym eq) in
      let z : At (further q (turn input n h m.store m.buffer)) r m' a p' =
      record { host = if_given r h w.host; store = w.store; buffer = w.buffer; ended = w.ended; text = put_then k.text w.text room } in
      rw step z

  -- once ended, nothing more comes
  ended_stays : (n : ℕ) → (played input q₀ n).ended ≡ true → (k : ℕ) → n ≤ k → played input q₀ k ≡ played input q₀ n
  unfolding played
  ended_stays n e zero h = let z : 0 ≡ n = omega arith in ap (played input q₀) z
  ended_stays n e (suc k) h =
      ⊎_elim
      (λ (l : k < n). let z : suc k ≡ n = omega arith in ap (played input q₀) z)
      (λ (l : n ≤ k).
      let ih = ended_stays n e k l in
      ap (λ (x : Bool). cond x (played input q₀ k) (further (played input q₀ k) (turn input k (played input q₀ k).host (played input q₀ k).bytes (played input q₀ k).lent))) (ap (λ (y : State). y.ended) ih ∙ e) ∙ ih)
      (cases_lt k n)

  -- a bad kind: what follows plays nothing more
  pub kept_end : (n k : ℕ) {h : Host} {m m' : Memory} {p p' : Page} → n < k → Room a (length (played input q₀ n).text) → At (played input q₀ n) (Some h) m a p → Turned h (turn input n h m.store m.buffer) None m' p p' → At (played input q₀ k) None m' a p'
  kept_end n k less room i w =
      let z = kept_turn n room i w in
      rw (ended_stays (n + 1) (sym z.ended) k (omega arith)) z

-- where it begins
pub kept_start : (input : List ℕ) (h : Host) (m : Memory) (a : Page) → At (played input (starting h m.store m.buffer) 0) (Some h) m a a
unfolding played
kept_start input h m a = record { host = refl; store = refl; buffer = refl; ended = refl; text = put_nothing a }
