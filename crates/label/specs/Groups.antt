-- How a label is looked up: "first by length". No promise of this leaves the crate.
use Rattle.std.specs.Prelude.{ℕ, suc, ◌≤◌, ◌≡◌, Bool, true, false, ◌&&◌, List, [], ◌∷◌, map, eqb, length}
use Rattle.lists.specs.Lists.{joined, same}
use Rattle.line.specs.Text.{cut}
use Rattle.label.specs.Labels.{labels}

-- what stands in columns 61 to 80 without its trailing blanks, and not empty
pub record Cut (name : List ℕ) : Type 0 where
  pub some_letter : 1 ≤ length name
  pub width : length name ≤ 20
  pub is_cut : cut name ≡ name

-- a label of the table without its trailing blanks, and its place
pub record Placed : Type 0 where
  pub letters : List ℕ
  pub place : ℕ

-- with one more, or without
abbrev pub keep : Bool → Placed → List Placed → List Placed
keep true e es = e ∷ es
keep false e es = es

-- those of n letters, where the first of all stands at place k
unfoldable pub sized : ℕ → ℕ → List (List ℕ) → List Placed
sized n k [] = []
sized n k (c ∷ cs) = keep (eqb (length (cut c)) n) (record { letters = cut c; place = k }) (sized n (suc k) cs)

-- their letters side by side, and their places
abbrev pub letters_of : List Placed → List ℕ
letters_of es = joined (map (λ (e : Placed). e.letters) es)

abbrev pub places_of : List Placed → List ℕ
places_of es = map (λ (e : Placed). e.place) es

-- these are the labels of n letters, and their places
unfoldable pub group_fits : ℕ → List ℕ → List ℕ → Bool
group_fits n group places = same group (letters_of (sized n 0 labels)) && same places (places_of (sized n 0 labels))

-- a label, and those of its length
pub record Sought (name group places : List ℕ) : Type 0 where
  pub label : Cut name
  pub fits : group_fits (length name) group places ≡ true
