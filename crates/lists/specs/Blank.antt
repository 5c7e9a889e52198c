-- Blanks: a blank is the byte 32.
use Rattle.std.specs.Prelude.{ℕ, ◌≡◌, Bool, true, List, eqb, replicate}
use Rattle.lists.specs.Lists.{every}

-- n blanks
abbrev pub blanks : ℕ → List ℕ
blanks n = replicate n 32

-- every byte is a blank
abbrev pub is_blank : List ℕ → Bool
is_blank s = every (λ b. eqb b 32) s

abbrev pub Blank : List ℕ → Type 0
Blank s = is_blank s ≡ true
