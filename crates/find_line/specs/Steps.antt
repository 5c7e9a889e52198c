-- What the inner functions of finding a line answer; no promise of theirs leaves this crate.
use Rattle.std.specs.Prelude.{ℕ, ◌≤◌, ◌≡◌, true, List}
use Rattle.line.specs.Text.{are_plain}
use Rattle.find_line.specs.Promises.{between}

-- the bytes of t from place a up to place r are plain
pub record Skips (t : List ℕ) (a r : ℕ) : Type 0 where
  pub from : a ≤ r
  pub plain : are_plain (between a r t) ≡ true
