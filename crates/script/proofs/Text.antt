-- Text that is put behind text.
-- Assumes nothing.
use mathlib.Core.Path.{◌≡◌, refl, sym, ap, ◌∙◌}
use mathlib.Core.List.{List, [], ◌∷◌, ◌++◌, append-nil}
use Rattle.std.proofs.Common.{add-zero}
use Rattle.std.proofs.lemmas.List.{take-append-drop}
use Prim.Native.Nat.{ℕ, ◌+◌, ◌/◌, ◌%◌, ◌≤◌, ◌<◌}
use native.Mathlib.Omega.{arith}
use Rattle.std.proofs.lemmas.Bool.Decides.{nat_tests}
use mathlib.Core.Bool.{Bool, true, false}
use Rattle.std.specs.Prelude.{Option, Some, None, if◌then◌else◌}
use lib.ListN.{length, set, length-append}
use lib.Seq.{sets-eq}
use Rattle.laws.specs.Places.{splice}
use Rattle.laws.proofs.Splice.{splice_then, length_splice}
use Rattle.answers.specs.declared.Answer.{Answer}
use Rattle.script.specs.declared.lines.Page.{Page}
use Rattle.script.specs.Lines.{Wrote, decimal, column, column_of, gives_descriptor, gives_length, line_length, given, line}
use Rattle.script.specs.Pages.{Room, Printed}

-- one byte
pub wrote_one : (s : List ℕ) (at x : ℕ) {r : ℕ} → at + 1 ≤ length s → r ≡ at + 1 → Wrote s at (x ∷ []) (set s at x) r
unfolding splice
wrote_one s at x h e = record { text = sets-eq (x ∷ []) s at h; end = e }

-- two in a row
pub wrote_then : {s : List ℕ} {at : ℕ} {xs t ys u : List ℕ} {r q : ℕ} → Wrote s at xs t r → Wrote t r ys u q → at + length xs ≤ length s → Wrote s at (xs ++ ys) u q
wrote_then a b h = record { text = splice_then _ _ _ _ h a.text a.end b.text; end = simp length-append (omega (arith, a.end, b.end)) }

pub wrote_length : {s : List ℕ} {at : ℕ} {xs t : List ℕ} {r : ℕ} → Wrote s at xs t r → at + length xs ≤ length s → length t ≡ length s
wrote_length {s} {at} {xs} a h = ap length a.text ∙ length_splice s at xs h

-- the same on a page
pub put_of : {p q : Page} {xs : List ℕ} → Room p (length xs) → Wrote p.out.now p.at xs q.out.now q.at → q.out.ghost_name ≡ p.out.ghost_name → Printed p xs q
put_of h w e = record { text = w; long = wrote_length w h; same = e }

pub put_then : {p q r : Page} {xs ys : List ℕ} → Printed p xs q → Printed q ys r → Room p (length xs) → Printed p (xs ++ ys) r
put_then a b h = record { text = wrote_then a.text b.text h; long = b.long ∙ a.long; same = b.same ∙ a.same }

pub put_nothing : (p : Page) → Printed p [] p
unfolding splice
put_nothing p =
    let e : splice p.out.now p.at [] ≡ p.out.now = simp (append-nil, add-zero, take-append-drop) in
    record { text = record { text = sym e; end = omega arith }; long = refl; same = refl }

-- ---- numbers

pub decimal_digit : (n : ℕ) → n < 10 → decimal n ≡ (48 + n) ∷ []
decimal_digit n h = grind (arith, nat_tests)

-- the last digit stands behind the others
pub decimal_step : (n : ℕ) → 10 ≤ n → n < 100000 → decimal n ≡ decimal (n / 10) ++ ((48 + n % 10) ∷ [])
decimal_step n h l = grind (arith, nat_tests)

-- ---- how long

pub decimal_grows : (n : ℕ) → 10 ≤ n → n < 100000 → length (decimal n) ≡ length (decimal (n / 10)) + 1
decimal_grows n h l = ap length (decimal_step n h l) ∙ length-append (decimal (n / 10)) ((48 + n % 10) ∷ [])

pub decimal_length : (n : ℕ) → length (decimal n) ≤ 5
decimal_length n = grind (arith, nat_tests)

pub column_length : (given : Bool) (n : ℕ) → length (column given n) ≤ 6
column_length given n = grind (arith, decimal_length n)

pub column_of_length : (o : Option ℕ) → length (column_of o) ≤ 6
column_of_length (Some n) = column_length true n
column_of_length None = column_length false 0

-- a line in two parts
pub given_wrote : (k : ℕ) (a : Answer) {s : List ℕ} {at : ℕ} {d l : Bool} {m : ℕ} {t u v : List ℕ} {e f g : ℕ} → at + 13 ≤ length s → d ≡ gives_descriptor k a → l ≡ gives_length k a → m ≡ line_length k a
    → Wrote s at (column d a.descriptor.0) t e → Wrote t e (column l m) u f → Wrote u f (10 ∷ []) v g → Wrote s at (given k a) v g
unfolding given
given_wrote k a {s} {at} {d} {l} {m} room ed el em w1 w2 w3 =
    let b1 = column_length d a.descriptor.0 in
    let b2 = column_length l m in
    let e2 = length-append (column d a.descriptor.0) (column l m) in
    let whole = wrote_then (wrote_then w1 w2 (omega (arith, b1))) w3 (omega (arith, b1, b2, e2)) in
    rw (← ed, ← el, ← em) whole

pub line_wrote : (n k : ℕ) (a : Answer) {s : List ℕ} {at : ℕ} {t u v : List ℕ} {e f g : ℕ} → at + 24 ≤ length s → Wrote s at (decimal n) t e → Wrote t e (column true a.number) u f → Wrote u f (given k a) v g → Wrote s at (line n k a) v g
unfolding line
line_wrote n k a room w1 w2 w3 =
    let b1 = decimal_length n in
    let b2 = column_length true a.number in
    let e2 = length-append (decimal n) (column true a.number) in
    wrote_then (wrote_then w1 w2 (omega (arith, b1))) w3 (omega (arith, b1, b2, e2))

-- with where it ends
pub number_ends : (n : ℕ) {s : List ℕ} {at : ℕ} {t : List ℕ} {r : ℕ} → Wrote s at (decimal n) t r → Wrote s at (decimal n) t r × (r ≤ at + 5)
number_ends n w = let b = decimal_length n in (w, omega (arith, w.end))

pub column_ends : (given : Bool) (n : ℕ) {s : List ℕ} {at : ℕ} {t : List ℕ} {r : ℕ} → Wrote s at (column given n) t r → Wrote s at (column given n) t r × (r ≤ at + 6)
column_ends given n w = let b = column_length given n in (w, omega (arith, w.end))

-- ---- a line, part by part

column_if : (b : Bool) (n : ℕ) → column_of (if b then Some n else None) ≡ column b n
column_if true n = refl
column_if false n = refl

pub line_put : (n k : ℕ) (a : Answer) {p q r s t u : Page} {d l : Option ℕ} → Room p 24 → d ≡ (if gives_descriptor k a then Some a.descriptor.0 else None)
    → l ≡ (if gives_length k a then Some (line_length k a) else None)
    → Printed p (decimal n) q → Printed q (column_of (Some a.number)) r → Printed r (column_of d) s → Printed s (column_of l) t → Printed t (10 ∷ []) u → Printed p (line n k a) u
unfolding line given
line_put n k a {p} {q} {r} {s} {t} {u} {d} {l} room ed el w1 w2 w3 w4 w5 =
    let b1 = decimal_length n in
    let b2 = column_length true a.number in
    let b3 = column_of_length d in
    let b4 = column_of_length l in
    let x : Room r 13 = omega (arith, b1, b2, w1.text.end, w1.long, w2.text.end, w2.long) in
    let e3 : column_of d ≡ column (gives_descriptor k a) a.descriptor.0 = ap column_of ed ∙ column_if _ _ in
    let e4 : column_of l ≡ column (gives_length k a) (line_length k a) = ap column_of el ∙ column_if _ _ in
    let one = put_then w1 w2 (omega (arith, b1)) in
    let two = put_then (put_then w3 w4 (omega (arith, b3))) w5 (omega (arith, b3, b4, length-append (column_of d) (column_of l))) in
    put_then one (rw (e3, e4) at two) (omega (arith, b1, b2, length-append (decimal n) (column true a.number)))
