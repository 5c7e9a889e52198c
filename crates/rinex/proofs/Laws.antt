-- What holds of each system and of each time system. Assumes nothing.
use Prim.Native.Nat.{ℕ, zero, suc, ◌<◌}
use mathlib.Core.Path.{◌≡◌, refl}
use mathlib.Core.Bool.{true}
use mathlib.Core.List.{[], ◌∷◌}
use native.Mathlib.Omega.{arith}
use lib.Dec.{eqb}
use lib.ListN.{get_or}
use Rattle.lists.specs.Lists.{All, same, place, is_in}
use Rattle.rinex.specs.Codes.{systems, letter_of, time_systems}
use Rattle.rinex.specs.Header.{seven}

-- what holds of each of the first numbers
pub below_six : (P : ℕ → Type 0) → All P (0 ∷ 1 ∷ 2 ∷ 3 ∷ 4 ∷ 5 ∷ []) → (n : ℕ) → n < 6 → P n
below_six P a zero h = a.0
below_six P a (suc zero) h = a.1.0
below_six P a (suc (suc zero)) h = a.1.1.0
below_six P a (suc (suc (suc zero))) h = a.1.1.1.0
below_six P a (suc (suc (suc (suc zero)))) h = a.1.1.1.1.0
below_six P a (suc (suc (suc (suc (suc zero))))) h = a.1.1.1.1.1.0
below_six P a (suc (suc (suc (suc (suc (suc n)))))) h = absurd (omega arith)

pub below_seven : (P : ℕ → Type 0) → All P seven → (n : ℕ) → n < 7 → P n
below_seven P a zero h = a.0
below_seven P a (suc n) h = below_six (λ k. P (suc k)) a.1 n (omega arith)

pub letter_place : (s : ℕ) → s < 7 → place eqb (letter_of s) systems ≡ s
letter_place = below_seven (λ s. place eqb (letter_of s) systems ≡ s) (refl, (refl, (refl, (refl, (refl, (refl, (refl, tt)))))))

pub time_in_lem : (s : ℕ) → s < 6 → is_in same (get_or time_systems s []) time_systems ≡ true
time_in_lem = below_six (λ s. is_in same (get_or time_systems s []) time_systems ≡ true) (refl, (refl, (refl, (refl, (refl, (refl, tt))))))

pub time_place : (s : ℕ) → s < 6 → place same (get_or time_systems s []) time_systems ≡ s
time_place = below_six (λ s. place same (get_or time_systems s []) time_systems ≡ s) (refl, (refl, (refl, (refl, (refl, (refl, tt))))))
