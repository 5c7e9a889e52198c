-- "Both sides of each edge", those marked [P] that concern numbers as they are read, as one table. Assumes nothing.
use Prim.Native.Nat.{ℕ}
use Prim.Native.String.{String}
use mathlib.Core.Path.{◌≡◌, refl}
use mathlib.Core.List.{[], ◌∷◌, map}
use Rattle.std.specs.Prelude.{ℤ, Option, None, Some, Result, Ok, Err}
use lib.IntN.{pos, negsuc}
use Rattle.lists.specs.Lists.{bytes}
use Rattle.field.specs.Found.{unblank, whole_of, digits_of, plain_of, signed_plain, decimal_of, second_of}
use Rattle.field.specs.declared.Unfit.{Unfit}
use Rattle.field.proofs.Settled.{whole_read, second_read, decimal_read}

-- the three answers
abbrev unfit : {A : Type 0} → Result (Option A) Unfit
unfit = Err (record {})

abbrev blank : {A : Type 0} → Result (Option A) Unfit
blank = Ok None

abbrev number : {A : Type 0} → A → Result (Option A) Unfit
number x = Ok (Some x)

-- what a field of d decimals reads as: `reads_decimal_met` says that it is the answer of the promise
pub value : ℕ → String → Result (Option ℤ) Unfit
unfolding unblank digits_of plain_of signed_plain decimal_of
value d t = decimal_read d (bytes t)

-- negsuc n is -(n + 1)
abbrev pub Decimals : Type 0
Decimals = map (value 3)
    ("  23619095.450" ∷ "         -.353" ∷ "        -0.000" ∷ "              " ∷ "9999999999.999" ∷ "-999999999.999"
    ∷ "        +1.000" ∷ "          1.50" ∷ "        1.500 " ∷ "       1e3.000" ∷ "      1 23.450" ∷ "             -" ∷ [])
    ≡ number (pos 23619095450) ∷ number (negsuc 352) ∷ number (pos 0) ∷ blank ∷ number (pos 9999999999999) ∷ number (negsuc 999999999998)
    ∷ unfit ∷ unfit ∷ unfit ∷ unfit ∷ unfit ∷ unfit ∷ []

pub decimals : Decimals
unfolding value
decimals = refl

wholes_read : String → Result (Option ℕ) Unfit
unfolding unblank whole_of
wholes_read t = whole_read (bytes t)

wholes_of : map wholes_read ("  7" ∷ "007" ∷ "   " ∷ " 7 " ∷ "-07" ∷ "" ∷ [])
    ≡ number 7 ∷ number 7 ∷ blank ∷ unfit ∷ unfit ∷ blank ∷ []
unfolding wholes_read
wholes_of = refl

second : String → Result (Option ℕ) Unfit
unfolding unblank digits_of plain_of second_of
second t = second_read (bytes t)

seconds : map second (" 59.9999999" ∷ " 60.0000000" ∷ "  0.0000000" ∷ "   .5000000" ∷ " -0.0000000" ∷ "059.0000000" ∷ [])
    ≡ number 599999999 ∷ unfit ∷ number 0 ∷ unfit ∷ unfit ∷ unfit ∷ []
unfolding second
seconds = refl
