-- One step of a script, from what it calls.
-- Assumes nothing.
use mathlib.Core.Path.{◌≡◌, refl, ap, ◌∙◌}
use mathlib.Core.Bool.{not, cond}
use mathlib.Core.List.{List}
use Prim.Native.Nat.{ℕ, ◌+◌, ◌-◌, ◌*◌, ◌%◌, ◌≤◌}
use native.Mathlib.Omega.{arith}
use lib.ListN.{length, replicate, take, drop}
use Rattle.laws.specs.Places.{part, splice, copies}
use Rattle.laws.proofs.Splice.{length_copies, part_back}
use Rattle.std.specs.Prelude.{Option, Some, None, is_none, unwrap_or}
use Rattle.host.specs.declared.Host.{Host}
use Rattle.host.specs.declared.Stepped.{Stepped}
use Rattle.script.specs.declared.Fields.{Fields}
use Rattle.script.specs.declared.lines.Page.{Page}
use Rattle.script.specs.declared.playing.Memory.{Memory}
use Rattle.script.specs.Fields.{fields_at}
use Rattle.script.specs.Steps.{Made, made, made_of, making}
use Rattle.script.specs.Lines.{line, closing}
use Rattle.script.specs.Pages.{Printed}
use Rattle.script.specs.Playing.{payload, bad_word, Turn, turn_of, turn, Turned}

-- the lent part of the work area that was filled
pub filled_part : (w t : List ℕ) (len v : ℕ) → len ≤ length w → t ≡ splice w 0 (copies v len) → take (len - 0) (drop 0 t) ≡ copies v len
unfolding part
filled_part w t len v h e =
    let z : len - 0 ≡ len = omega arith in
    let s : length (copies v len) ≡ len = length_copies {A = ℕ} v len in
    rw (z, e) (part_back 0 w 0 (copies v len) (omega (arith, s)) 0 len refl s)

-- the part w of the work area, filled
pub payload_is : (n len : ℕ) (w : List ℕ) {t : List ℕ} → length w ≡ len → (((y : ℕ) → y ≡ n % 256 → y ≡ n % 256) → t ≡ replicate (length w) (n % 256)) → t ≡ payload n len
unfolding copies
payload_is n len w l e = e (λ y q. q) ∙ rw l

module _ (n : ℕ) (h : Host) (input s b : List ℕ) {f : Fields} {x : List ℕ} (ef : f ≡ fields_at input (13 + 16 * n)) (ex : x ≡ payload (n + 1) f.len) where
  -- what the step made is the definition's
  turn_is : {r : Made} {t u : List ℕ} → made r t u ≡ making h s f x b → turn_of n f.kind (made r t u) ≡ turn input n h s b
  turn_is em =
      ap (turn_of n f.kind) (em ∙ ap (λ (y : List ℕ). making h s f y b) ex)
      ∙ ap (λ (g : Fields). turn_of n g.kind (making h s g (payload (n + 1) g.len) b)) ef

  -- known or not: what it says was printed; o is the host that is given back
  turned : (r : Made) (o : Option Host) {m : Memory} {p q : Page} → unwrap_or o h ≡ r.host → is_none o ≡ not r.known → made r m.store m.buffer ≡ making h s f x b
      → Printed p (cond r.known (line (n + 1) f.kind r.answer) (closing (n + 1) bad_word)) q → Turned h (turn input n h s b) o m p q
  turned r o eh ek em w =
      let e = turn_is em in
      record {
        host = eh ∙ ap (λ (y : Turn). y.host) e;
        store = ap (λ (y : Turn). y.bytes) e;
        buffer = ap (λ (y : Turn). y.lent) e;
        ended = ek ∙ ap (λ (y : Turn). y.ended) e;
        text = rw (← ap (λ (y : Turn). y.said) e) w;
      }

  pub turned_line : {r : Stepped} {m : Memory} {p q : Page} → made (made_of h (Some r)) m.store m.buffer ≡ making h s f x b → Printed p (line (n + 1) f.kind r.answer) q → Turned h (turn input n h s b) (Some r.host) m p q
  turned_line {r} em w = turned (made_of h (Some r)) (Some r.host) refl refl em w

  pub turned_bad : {m : Memory} {p q : Page} → made (made_of h None) m.store m.buffer ≡ making h s f x b → Printed p (closing (n + 1) bad_word) q → Turned h (turn input n h s b) None m p q
  turned_bad em w = turned (made_of h None) None refl refl em w
