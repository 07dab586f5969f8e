-- A test, and the plain statement that it decides
use Rattle.std.specs.Prelude.{◌≡◌, Bool, true, false}

pub record Decides (b : Bool) (P : Type 0) : Type 0 where
  pub says : b ≡ true → P
  pub back : P → b ≡ true

-- the same of a test that fails
pub record Fails (b : Bool) (N : Type 0) : Type 0 where
  pub says : b ≡ false → N
  pub back : N → b ≡ false
