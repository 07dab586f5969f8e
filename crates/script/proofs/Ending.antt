-- What a whole script prints, by how it ends.
-- Assumes nothing.
use mathlib.Core.Path.{◌≡◌, refl, sym, ap, ◌∙◌}
use mathlib.Core.List.{List, [], ◌++◌, append-nil}
use mathlib.Core.Logic.{◌≢◌}
use mathlib.Core.Bool.{Bool, true, false, ◌&&◌, not, cond}
use Prim.Native.Nat.{ℕ, ◌+◌, ◌*◌, ◌-◌, ◌/◌, ◌≤◌, ◌<◌}
use native.Mathlib.Omega.{arith}
use Rattle.std.proofs.lemmas.Bool.{cond_both}
use Rattle.std.proofs.lemmas.Bool.Decides.{nat_tests}
use Rattle.std.specs.Prelude.{Option, is_none}
use lib.Dec.{eqb, leb, ltb}
use lib.ListN.{length, length-append}
use borrow.Author.Tests.{eq-eqb, ne_eqb, leb-true, ltb-false, lt-ltb, le-ltb}
use Rattle.laws.proofs.Tests.{and_left}
use Rattle.laws.specs.Places.{splice}
use Rattle.state.specs.declared.Interface.{Interface}
use Rattle.store.specs.Store.{zeros}
use Rattle.host.specs.declared.Host.{Host}
use Rattle.host.specs.declared.Stepped.{Stepped}
use Rattle.host.specs.Answers.{Outcome, outcome}
use Rattle.host.specs.Opening.{opened}
use Rattle.script.specs.declared.lines.Page.{Page}
use Rattle.script.specs.declared.playing.Memory.{Memory}
use Rattle.script.specs.Lines.{Wrote, closing}
use Rattle.script.specs.Pages.{Room, Printed}
use Rattle.script.specs.Playing.{State, starting, played, At}
use Rattle.script.specs.Whole.{headed, interfaces_in, steps_in, bad_header, bad_interface, short_word, left_over, finished, output_from, output, ran, running}
use Rattle.script.proofs.Text.{put_then, decimal_length}
use Rattle.script.proofs.Plays.{text_small}

pub headed_long : (input : List ℕ) → headed input ≡ true → 13 ≤ length input
headed_long input e = leb-true 13 (length input) (and_left (leb 13 (length input)) _ (and_left _ _ (and_left _ _ (and_left _ _ e))))

-- the whole steps are there
pub steps_fit : (len m : ℕ) → 13 ≤ len → m ≡ steps_in len → 13 + 16 * m ≤ len
steps_fit len m h e =
    let less : steps_in len ≤ (len - 13) / 16 = cond_both (ltb ((len - 13) / 16) 60000) ((len - 13) / 16) 60000 (λ (x : ℕ). x ≤ (len - 13) / 16) (λ f. omega arith) (λ f. ltb-false _ _ f) in
    let d : 16 * ((len - 13) / 16) ≤ len - 13 = omega arith in
    omega (arith, less, d, e)

pub short_small : (n : ℕ) → length (closing n short_word) ≤ 12
unfolding closing
short_small n = simp length-append (omega (arith, decimal_length n))

-- there is no last line where a step has ended the script
pub left_over_going : (len : ℕ) (b : Bool) → left_over len (not b) ≡ (b && left_over len false)
left_over_going len true = refl
left_over_going len false = refl

-- ---- by how it ends

pub bad_header_lem : (input s b : List ℕ) {out o : List ℕ} {at r : ℕ} → headed input ≡ false → Wrote out at bad_header o r → Wrote out at (output_from input s b) o r
unfolding output_from
bad_header_lem input s b e w = simp e w

-- the same of a page
pub bad_header_put : (input s b : List ℕ) {p q : Page} → headed input ≡ false → Printed p bad_header q → Printed p (output_from input s b) q
bad_header_put input s b e w = record { text = bad_header_lem input s b e w.text; long = w.long; same = w.same }

module _ (input s b : List ℕ) {is : List Interface} {st : Stepped} {t : List ℕ} (eh : headed input ≡ true) (ei : is ≡ interfaces_in input) (eo : outcome st t [] ≡ opened is 1 s) where
  opens : opened (interfaces_in input) 1 s ≡ outcome st t []
  opens = sym (eo ∙ ap (λ (x : List Interface). opened x 1 s) ei)

  pub bad_interface_lem : {out o : List ℕ} {at r : ℕ} → st.answer.number ≢ 0 → Wrote out at bad_interface o r → Wrote out at (output_from input s b) o r
  unfolding output_from
  bad_interface_lem d w =
      let n : (opened (interfaces_in input) 1 s).answer.number ≢ 0 = λ z. d (sym (ap (λ (x : Outcome). x.answer.number) opens) ∙ z) in
      simp (eh, ne_eqb _ _ n) w

  pub bad_interface_put : {p q : Page} → st.answer.number ≢ 0 → Printed p bad_interface q → Printed p (output_from input s b) q
  bad_interface_put d w = record { text = bad_interface_lem d w.text; long = w.long; same = w.same }

  module _ {m : ℕ} (z : st.answer.number ≡ 0) (em : m ≡ steps_in (length input)) where
    abbrev q : State
    q = played input (starting st.host t b) m

    output_is : output_from input s b ≡ finished (length input) q
    unfolding output_from
    output_is =
        let n : (opened (interfaces_in input) 1 s).answer.number ≡ 0 = ap (λ (x : Outcome). x.answer.number) opens ∙ z in
        let y : played input (starting (opened (interfaces_in input) 1 s).host (opened (interfaces_in input) 1 s).bytes b) (steps_in (length input)) ≡ q =
        ap (λ (x : Outcome). played input (starting x.host x.bytes b) (steps_in (length input))) opens ∙ ap (played input (starting st.host t b)) (sym em) in
        simp (eh, eq-eqb _ _ n) (ap (finished (length input)) y)

    pub plain_end : {r : Option Host} {mem : Memory} {p p' : Page} → At q r mem p p' → left_over (length input) (is_none r) ≡ false → Printed p (output_from input s b) p'
    plain_end a e =
        let f : left_over (length input) q.ended ≡ false = ap (left_over (length input)) (sym a.ended) ∙ e in
        let g : output_from input s b ≡ q.text = output_is ∙ ap (λ (x : Bool). q.text ++ cond x (closing (steps_in (length input) + 1) short_word) []) f ∙ append-nil q.text in
        rw g a.text

    pub short_end : {r : Option Host} {mem : Memory} {p p' p'' : Page} → At q r mem p p' → Room p (length q.text) → left_over (length input) (is_none r) ≡ true → Printed p' (closing (m + 1) short_word) p'' → Printed p (output_from input s b) p''
    short_end a fits e w =
        let f : left_over (length input) q.ended ≡ true = ap (left_over (length input)) (sym a.ended) ∙ e in
        let g : output_from input s b ≡ q.text ++ closing (m + 1) short_word =
        output_is ∙ ap (λ (x : Bool). q.text ++ cond x (closing (steps_in (length input) + 1) short_word) []) f ∙ ap (λ (x : ℕ). q.text ++ closing (x + 1) short_word) (sym em) in
        rw g (put_then a.text w fits)

-- ---- how long

steps_few : (len : ℕ) → steps_in len ≤ 60000
steps_few len = grind (arith, nat_tests)

finished_small : (len : ℕ) (q : State) → length q.text ≤ 1440000 → length (finished len q) ≤ 1440032
finished_small len q h =
    let t = cond (left_over len q.ended) (closing (steps_in len + 1) short_word) [] in
    let b : length t ≤ 12 = cond_both (left_over len q.ended) _ _ (λ (xs : List ℕ). length xs ≤ 12) (λ e. short_small (steps_in len + 1)) (λ e. omega arith) in
    omega (arith, b, length-append q.text t)

pub output_small : (input s b : List ℕ) → length (output_from input s b) ≤ 1440032
unfolding output_from
output_small input s b =
    let o = opened (interfaces_in input) 1 s in
    cond_both (headed input) _ bad_header (λ (xs : List ℕ). length xs ≤ 1440032)
    (λ e. cond_both (eqb o.answer.number 0) _ bad_interface (λ (xs : List ℕ). length xs ≤ 1440032)
    (λ f. finished_small (length input) (played input (starting o.host o.bytes b) (steps_in (length input))) (omega (arith, text_small input (starting o.host o.bytes b) (steps_in (length input)), steps_few (length input))))
    (λ f. omega arith))
    (λ e. omega arith)

pub end_small : (input s b : List ℕ) {p q : Page} → p.at ≡ 0 → Printed p (output_from input s b) q → q.at ≤ 1440032
end_small input s b e w = omega (arith, e, w.text.end, output_small input s b)

-- ---- in memory

-- too short for the longest output
pub no_room : (input out : List ℕ) → length out < 1440032 → ran 1440032 out ≡ running input out
unfolding running
no_room input out l = let e : ltb (length out) 1440032 ≡ true = lt-ltb _ _ l in simp e

pub in_memory : (input out : List ℕ) {s b o : List ℕ} {r : ℕ} → 1440032 ≤ length out → s ≡ zeros 40960 → b ≡ zeros 512 → Wrote out 0 (output_from input s b) o r → ran r o ≡ running input out
unfolding running
in_memory input out {s} {b} {o} {r} l es eb w =
    let e : ltb (length out) 1440032 ≡ false = le-ltb _ _ l in
    let x : output_from input s b ≡ output input = ap (λ (t : List ℕ). output_from input t b) es ∙ ap (output_from input (zeros 40960)) eb in
    let n : r ≡ length (output input) = omega (arith, w.end, ap length x) in
    simp e (ap (λ (n : ℕ). ran n o) n ∙ ap (ran (length (output input))) (w.text ∙ ap (splice out 0) x))

-- the same of a page
pub in_memory_page : (input out : List ℕ) {s b o : List ℕ} {p q : Page} → 1440032 ≤ length out → s ≡ zeros 40960 → b ≡ zeros 512 → p.out.now ≡ out → p.at ≡ 0 → Printed p (output_from input s b) q → o ≡ q.out.now → ran q.at o ≡ running input out
in_memory_page input out l es eb ep ea w eo = in_memory input out l es eb (record { text = eo ∙ w.text.text ∙ rw (ep, ea); end = w.text.end ∙ rw ea })
