-- The answer on a value field and its test: each says the other. Assumes nothing.
use Prim.Native.Nat.{ℕ}
use mathlib.Core.Path.{◌≡◌, refl, sym, ◌∙◌}
use mathlib.Core.Bool.{Bool, true, false}
use mathlib.Core.List.{List}
use Rattle.std.specs.Prelude.{Result, Ok, Err, is_ok}
use Rattle.lists.specs.Maybe.{is_given}
use Rattle.lists.proofs.Bools.{never}
use Rattle.field.specs.Found.{decimal_of}
use Rattle.field.proofs.Found.{decimal_or_blank_lem, decimal_or_blank_fits}
use Rattle.rinex.specs.Tests.{value_fits}
use Rattle.value.specs.Lines.{Prints}
use Rattle.field.specs.declared.Unfit.{Unfit}

-- what a value's answer says of the test
pub printed_fit : (s : List ℕ) (numbered : Bool) → Prints s (Ok numbered) → value_fits s ≡ true
unfolding value_fits
printed_fit s numbered h = decimal_or_blank_fits 3 s h.0 h.1

pub printed_unfit : (s : List ℕ) (u : Unfit) → Prints s (Err u) → value_fits s ≡ false
unfolding value_fits
printed_unfit s u h = go (value_fits s) refl
  where
    go : (b : Bool) → value_fits s ≡ b → b ≡ false
    go true e = absurd (h (decimal_of 3 s) (decimal_or_blank_lem 3 s e))
    go false e = refl

-- so the test is whether there is an answer
pub printed_test : (s : List ℕ) (r : Result Bool Unfit) → Prints s r → is_ok r ≡ value_fits s
printed_test s (Ok numbered) h = sym (printed_fit s numbered h)
printed_test s (Err u) h = sym (printed_unfit s u h)

-- and back
pub fit_printed : (s : List ℕ) (numbered : Bool) → value_fits s ≡ true → numbered ≡ is_given (decimal_of 3 s) → Prints s (Ok numbered)
unfolding value_fits
fit_printed s numbered f e = (decimal_of 3 s, decimal_or_blank_lem 3 s f, e)

pub unfit_printed : (s : List ℕ) (u : Unfit) → value_fits s ≡ false → Prints s (Err u)
unfolding value_fits
unfit_printed s u e v q = never (sym e ∙ decimal_or_blank_fits 3 s v q)
