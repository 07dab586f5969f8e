-- A page that text is put on
use Rattle.std.specs.Prelude.{◌≡◌, List, ℕ, ◌+◌, ◌≤◌, length}
use Rattle.script.specs.declared.lines.Page.{Page}
use Rattle.script.specs.Lines.{Wrote}

-- room for n bytes more
abbrev pub Room : Page → ℕ → Type 0
Room p n = p.at + n ≤ length p.out.now

-- q is p with xs put behind what stands there
pub record Printed (p : Page) (xs : List ℕ) (q : Page) : Type 0 where
  pub text : Wrote p.out.now p.at xs q.out.now q.at
  pub long : length q.out.now ≡ length p.out.now
  pub same : q.out.ghost_name ≡ p.out.ghost_name
