-- A script, step by step
use Rattle.std.specs.Prelude.{◌≡◌, List, [], ◌∷◌, ◌++◌, Bool, false, not, cond, ℕ, zero, suc, ◌+◌, ◌*◌, ◌%◌, ◌≤◌, ◌<◌, length, Option, is_none, IfSome, unwrap_or}
use Rattle.laws.specs.Places.{copies}
use Rattle.host.specs.declared.Host.{Host}
use Rattle.script.specs.declared.lines.Page.{Page}
use Rattle.script.specs.declared.playing.Memory.{Memory}
use Rattle.script.specs.Fields.{fields_at}
use Rattle.script.specs.Steps.{Making, making}
use Rattle.script.specs.Lines.{line, closing}
use Rattle.script.specs.Pages.{Room, Printed}

-- a payload is L bytes, each the step number modulo 256
abbrev pub payload : ℕ → ℕ → List ℕ
payload n len = copies (n % 256) len

-- " bad" and " short", each with the end of its line
abbrev pub bad_word : List ℕ
bad_word = 32 ∷ 98 ∷ 97 ∷ 100 ∷ 10 ∷ []

-- what step n + 1 makes of the host, the store and the lent buffer, and what it prints; a bad kind ends the script
pub record Turn : Type 0 where
  pub host : Host
  pub bytes : List ℕ
  pub lent : List ℕ
  pub said : List ℕ
  pub ended : Bool

abbrev pub turn_of : ℕ → ℕ → Making → Turn
turn_of n kind m = record { host = m.host; bytes = m.bytes; lent = m.lent; said = cond m.known (line (n + 1) kind m.answer) (closing (n + 1) bad_word); ended = not m.known }

abbrev pub turn : List ℕ → ℕ → Host → List ℕ → List ℕ → Turn
turn input n h s b = turn_of n (fields_at input (13 + 16 * n)).kind (making h s (fields_at input (13 + 16 * n)) (payload (n + 1) (fields_at input (13 + 16 * n)).len) b)

-- r is the host one step after h, or none where that ends the script, which leaves h as it was; q is the page p with
-- what was printed
pub record Turned (h : Host) (t : Turn) (r : Option Host) (m : Memory) (p q : Page) : Type 0 where
  pub host : unwrap_or r h ≡ t.host
  pub store : m.store ≡ t.bytes
  pub buffer : m.buffer ≡ t.lent
  pub ended : is_none r ≡ t.ended
  pub text : Printed p t.said q

-- there is a step n + 1, and room for its line
pub record Playable (n : ℕ) (input : List ℕ) (p : Page) : Type 0 where
  pub few : n < 60000
  pub step : 29 + 16 * n ≤ length input
  pub room : Room p 24

-- ---- many steps

-- the host, the store and the lent buffer, all that was printed, and whether the script has ended
pub record State : Type 0 where
  pub host : Host
  pub bytes : List ℕ
  pub lent : List ℕ
  pub text : List ℕ
  pub ended : Bool

abbrev pub further : State → Turn → State
further q t = record { host = t.host; bytes = t.bytes; lent = t.lent; text = q.text ++ t.said; ended = t.ended }

-- the first k steps, up to one that ends the script
unfoldable pub played : List ℕ → State → ℕ → State
played input q zero = q
played input q (suc k) =
    cond (played input q k).ended (played input q k) (further (played input q k) (turn input k (played input q k).host (played input q k).bytes (played input q k).lent))

-- nothing printed yet
abbrev pub starting : Host → List ℕ → List ℕ → State
starting h s b = record { host = h; bytes = s; lent = b; text = []; ended = false }

-- r is the host at the state q, none where the script has ended; b is the page a with all that was printed
pub record At (q : State) (r : Option Host) (m : Memory) (a b : Page) : Type 0 where
  pub host : IfSome r (λ h. h ≡ q.host)
  pub store : m.store ≡ q.bytes
  pub buffer : m.buffer ≡ q.lent
  pub ended : is_none r ≡ q.ended
  pub text : Printed a q.text b

-- the m steps are there, and room for their lines
pub record Stage (m : ℕ) (input : List ℕ) (p : Page) : Type 0 where
  pub few : m ≤ 60000
  pub steps : 13 + 16 * m ≤ length input
  pub room : Room p (24 * m)
