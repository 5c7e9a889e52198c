-- What is asked of a number beside its state.
use Rattle.std.specs.Prelude.{ℕ, ◌≡◌, Bool, true}

-- what is not missing is fit
abbrev pub FitsIf : ℕ → Bool → Type 0
FitsIf state fit = (state ≡ 0 → ⊥) → fit ≡ true
