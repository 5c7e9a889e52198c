-- The promises of finding a line: what stands in a text from a place on.
use Rattle.std.specs.Prelude.{ℕ, ◌+◌, ◌-◌, ◌≤◌, ◌<◌, ◌≡◌, true, false, not, ◌||◌, List, [], ◌∷◌, length, get_or, take, drop}
use Rattle.line.specs.Text.{widest, is_plain, are_plain, Line, Raw, split}
use Rattle.find_line.specs.declared.Found.{Found}
use Rattle.find_line.specs.declared.Found.TheVariants.{Over, Faulty, Long, Ends}

-- the bytes of t from place a up to place e
abbrev pub between : ℕ → ℕ → List ℕ → List ℕ
between a e t = take (e - a) (drop a t)

-- r is the place of the first byte from place a on that is not plain, or the length of t
pub record PlainEnd (t : List ℕ) (a r : ℕ) : Type 0 where
  pub from : a ≤ length t → a ≤ r
  pub over : length t ≤ a → r ≡ length t
  pub within : r ≤ length t
  pub plain : are_plain (between a r t) ≡ true
  pub stop : r < length t → is_plain (get_or t r 0) ≡ false

-- the line from place a up to the LF at place e comes first there, and the lines behind the LF follow
pub record LineEnds (t : List ℕ) (a e : ℕ) : Type 0 where
  pub from : a ≤ e
  pub within : e < length t
  pub lines : split (drop a t) ≡ record { bytes = between a e t; ended = true } ∷ split (drop (e + 1) t)

-- a line that refusal 1 is given at comes first there
pub record Fault (t : List ℕ) (a : ℕ) : Type 0 where
  pub line : Raw
  pub rest : List Raw
  pub lines : split (drop a t) ≡ line ∷ rest
  pub fault : (not (are_plain line.bytes) || not line.ended) ≡ true

abbrev pub Finds : List ℕ → ℕ → Found → Type 0
Finds t a Over = split (drop a t) ≡ []
Finds t a Faulty = Fault t a
Finds t a (Long e) = LineEnds t a e × (are_plain (between a e t) ≡ true) × (widest < length (between a e t))
Finds t a (Ends e) = LineEnds t a e × Line (between a e t)
