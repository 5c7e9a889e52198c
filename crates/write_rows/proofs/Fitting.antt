-- The slots of fit tables, as the spelling functions ask for them; and what they hold, as these see it. Assumes nothing.
use Prim.Native.Nat.{ℕ, zero, suc, ◌+◌, ◌<◌}
use mathlib.Core.Path.{◌≡◌, refl, ap, subst}
use mathlib.Core.Bool.{true, not, ◌&&◌}
use mathlib.Core.List.{List, ◌∷◌}
use native.Mathlib.Omega.{arith}
use lib.ListN.{get_or}
use lib.IntN.{ℤ, pos}
use Rattle.lists.proofs.Bools.{both}
use Rattle.write_field.specs.Normal.{decimal_fits}
use Rattle.rinex.specs.File.{Slot}
use Rattle.rinex.specs.Data.{is_nought}
use Rattle.rinex.specs.Tables.{Buffers}
use Rattle.rinex.specs.Fit.{value_fits, slot_fits, slots_fit}
use Rattle.rinex.specs.Held.{slot_at, slots_at}
use Rattle.columns.specs.Given.{FitsIf}
use Rattle.columns.proofs.States.{state_fits_lem}
use Rattle.spell_data.specs.Slots.{of_slots, NumbersFit}

-- the numbers of slots that fit
abbrev NumberFits : Buffers → ℕ → Type 0
NumberFits b j = FitsIf (get_or b.states j 0) (decimal_fits 14 3 (get_or b.numbers j (pos 0)))

value_fits_lem : (state : ℕ) (z : ℤ) → value_fits state z ≡ true → FitsIf state (decimal_fits 14 3 z)
value_fits_lem state z h = λ e. (both (not (is_nought z)) (decimal_fits 14 3 z) (state_fits_lem state (is_nought z) (not (is_nought z) && decimal_fits 14 3 z) h e)).1

pub numbers_fit : (b : Buffers) (n i : ℕ) → slots_fit b n i ≡ true → NumbersFit n i b
unfolding slots_fit
numbers_fit b zero i h k l = absurd (omega arith)
numbers_fit b (suc n) i h k l = at k l (numbers_fit b n (i + 1) (both (slot_fits b i) _ h).1)
  where
    at : (k : ℕ) → k < suc n → NumbersFit n (i + 1) b → NumberFits b (i + k)
    at zero l r =
        let e : i ≡ i + 0 = omega arith in
        subst (NumberFits b) e (value_fits_lem (get_or b.states i 0) (get_or b.numbers i (pos 0)) (both (value_fits (get_or b.states i 0) (get_or b.numbers i (pos 0))) _ (both (slot_fits b i) _ h).0).0)
    at (suc k) l r = let e : i + 1 + k ≡ i + suc k = omega arith in subst (NumberFits b) e (r k (omega arith))

-- slots are held by their four buffers alone
pub slots_held : (b : Buffers) (n i : ℕ) → slots_at (of_slots b.numbers b.states b.losses b.strengths) n i ≡ slots_at b n i
unfolding slots_at
slots_held b zero i = refl
slots_held b (suc n) i = ap (λ (x : List Slot). slot_at b i ∷ x) (slots_held b n (i + 1))
