-- Entries of epochs and rows, from what was read of the line to what the tables hold. Assumes nothing.
use Prim.Native.Nat.{ℕ, ◌+◌, ◌*◌}
use mathlib.Core.Path.{◌≡◌, refl, ap, subst, ◌∙◌}
use mathlib.Core.List.{List}
use mathlib.Core.Bool.{Bool}
use mir.Val.{bool_byte}
use Rattle.std.specs.Prelude.{Option, None, Some, is_some}
use Rattle.std.specs.Option.{unwrap_or}
use lib.IntN.{ℤ, pos}
use lib.ListN.{get_or, set}
use Rattle.field.specs.Found.{decimal_of}
use Rattle.line.specs.Text.{cols}
use Rattle.rinex.specs.Tables.{state_of, number_of, signed_of}
use Rattle.rinex.specs.Tests.{system_at, number_at}
use Rattle.epoch.specs.Lines.{clock_held}
use Rattle.row_store.specs.Lines.{Put}
use Rattle.state.specs.declared.State.{State}
use Rattle.rinex.specs.Refusals.{name_at}
use Rattle.state.specs.Judge.{slots_of_row}
use Rattle.fill_entries.specs.Entries.{RowStored}

-- a time, and whether there is one
unwrap_number : (o : Option ℕ) → unwrap_or o 0 ≡ number_of o
unwrap_number None = refl
unwrap_number (Some n) = refl

pub time_entry : (b b' : List ℕ) (i v : ℕ) (o p : Option ℕ) → b' ≡ set b i v → v ≡ unwrap_or o 0 → o ≡ p → b' ≡ set b i (number_of p)
time_entry b b' i v o p e f g = e ∙ ap (set b i) (f ∙ (ap (λ (q : Option ℕ). unwrap_or q 0) g ∙ unwrap_number p))

state_told : {A : Type 0} (o : Option A) → bool_byte (is_some o) ≡ state_of o
state_told None = refl
state_told (Some x) = refl

pub state_entry : {A : Type 0} (b b' : List ℕ) (i v : ℕ) (s : Bool) (o p : Option A) → b' ≡ set b i v → v ≡ bool_byte s → s ≡ is_some o → o ≡ p → b' ≡ set b i (state_of p)
state_entry {A} b b' i v s o p e f h g = e ∙ ap (set b i) (f ∙ (ap bool_byte h ∙ (state_told o ∙ ap (λ (q : Option A). state_of q) g)))

-- a clock
pub clock_is : (l : List ℕ) → clock_held l ≡ decimal_of 12 (cols 42 56 l)
unfolding clock_held
clock_is l = refl

unwrap_signed : (o : Option ℤ) → unwrap_or o (pos 0) ≡ signed_of o
unwrap_signed None = refl
unwrap_signed (Some z) = refl

pub clock_entry : (b b' : List ℤ) (i : ℕ) (v : ℤ) (o p : Option ℤ) → b' ≡ set b i v → v ≡ unwrap_or o (pos 0) → o ≡ p → b' ≡ set b i (signed_of p)
clock_entry b b' i v o p e f g = e ∙ ap (set b i) (f ∙ (ap (λ (q : Option ℤ). unwrap_or q (pos 0)) g ∙ unwrap_signed p))

-- how many slots a row of system y has
pub row_slots : (c : State) (l : List ℕ) (y n : ℕ) → y ≡ system_at l → n ≡ get_or c.lengths y 0 → n ≡ slots_of_row c l
row_slots c l y n e f = f ∙ ap (λ (j : ℕ). get_or c.lengths j 0) e

-- a row: n slots, and the name of system y and number m
pub row_stored : (c : State) (l : List ℕ) (y m v n : ℕ) (b b' : List ℕ) (x x' : List ℤ) (s s' p p' q q' : List ℕ)
    → b' ≡ set b c.used.rows v → v ≡ 100 * y + m → y ≡ system_at l → m ≡ number_at l → n ≡ slots_of_row c l
    → Put l n c.used.slots x x' s s' p p' q q' → RowStored c l b b' x x' s s' p p' q q'
row_stored c l y m v n b b' x x' s s' p p' q q' e f g h k d =
    let r : Put l (slots_of_row c l) c.used.slots x x' s s' p p' q q' = subst (λ (j : ℕ). Put l j c.used.slots x x' s s' p p' q q') k d in
    let z : v ≡ name_at l = f ∙ (ap (λ (j : ℕ). 100 * j + m) g ∙ ap (λ (j : ℕ). 100 * system_at l + j) h) in
    record {
      satellites_are = e ∙ ap (set b c.used.rows) z;
      numbers_are = r.numbers_are;
      states_are = r.states_are;
      losses_are = r.losses_are;
      strengths_are = r.strengths_are;
    }
