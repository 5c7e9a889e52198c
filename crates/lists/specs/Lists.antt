-- Words about lists that the rule is written in.
use Rattle.std.specs.Prelude.{ℕ, suc, ◌+◌, Bool, true, false, cond, not, ◌&&◌, ◌||◌, List, [], ◌∷◌, ◌++◌, eqb}
use Prim.Native.String.{String}
use Prim.Native.Char.{Char, code}
use Rattle.std.specs.Prelude.{Option, None, Some}

-- the bytes of a quoted text
abbrev pub bytes : String → List ℕ
bytes Prim.Native.String.[] = []
bytes (Prim.Native.String.◌∷◌ c s) = code c ∷ bytes s

-- the byte of a quoted letter
abbrev pub byte : Char → ℕ
byte c = code c

-- every byte passes the test
abbrev pub every : (ℕ → Bool) → List ℕ → Bool
every p [] = true
every p (b ∷ s) = p b && every p s

-- all numbers together
abbrev pub sum : List ℕ → ℕ
sum [] = 0
sum (n ∷ ns) = n + sum ns

-- P holds of each
abbrev pub All : {A : Type 0} → (A → Type 0) → List A → Type 0
All P [] = Unit
All P (x ∷ xs) = P x × All P xs

-- R holds of the first two, of the second two, and so on; neither list is longer
abbrev pub Each : {A B : Type 0} → (A → B → Type 0) → List A → List B → Type 0
Each R [] [] = Unit
Each R [] (y ∷ ys) = ⊥
Each R (x ∷ xs) [] = ⊥
Each R (x ∷ xs) (y ∷ ys) = R x y × Each R xs ys

-- the lists one after the other
abbrev pub joined : {A : Type 0} → List (List A) → List A
joined [] = []
joined (xs ∷ xss) = xs ++ joined xss

-- none, or one
abbrev pub as_list : {A : Type 0} → Option A → List A
as_list None = []
as_list (Some x) = x ∷ []

-- both are the same bytes
abbrev pub same : List ℕ → List ℕ → Bool
same [] [] = true
same [] (y ∷ ys) = false
same (x ∷ xs) [] = false
same (x ∷ xs) (y ∷ ys) = eqb x y && same xs ys

-- the place of the first that equals x, from 0; where none does, their number
abbrev pub place : {A : Type 0} → (A → A → Bool) → A → List A → ℕ
place eq x [] = 0
place eq x (y ∷ ys) = cond (eq x y) 0 (suc (place eq x ys))

abbrev pub is_in : {A : Type 0} → (A → A → Bool) → A → List A → Bool
is_in eq x [] = false
is_in eq x (y ∷ ys) = eq x y || is_in eq x ys

-- none stands twice, nor in those seen before
abbrev pub fresh : {A : Type 0} → (A → A → Bool) → List A → List A → Bool
fresh eq seen [] = true
fresh eq seen (x ∷ xs) = not (is_in eq x seen) && fresh eq (seen ++ (x ∷ [])) xs
