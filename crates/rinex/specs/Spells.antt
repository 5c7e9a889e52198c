-- THE RULE: which texts spell which files. No reader is in it.
use Rattle.std.specs.Prelude.{ℕ, ◌≡◌, List, ◌++◌}
use Rattle.lists.specs.Lists.{All}
use Rattle.line.specs.Text.{text, Line}
use Rattle.rinex.specs.File.{File}
use Rattle.rinex.specs.Header.{HeaderLines}
use Rattle.rinex.specs.Data.{DataLines}

-- the text t is a header's lines and then the lines of its epochs
pub record Spells (t : List ℕ) (f : File) : Type 0 where
  pub header_lines : List (List ℕ)
  pub data_lines : List (List ℕ)
  pub whole : t ≡ text (header_lines ++ data_lines)
  pub lines : All Line (header_lines ++ data_lines)
  pub header : HeaderLines header_lines f.head
  pub epochs : DataLines f.head.lists data_lines f.epochs
