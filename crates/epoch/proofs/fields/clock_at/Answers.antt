-- `epoch::fields::clock_at` meets its contract: what is read in columns 42 to 56 is what `decimal_of` finds there. Assumes nothing.
use Prim.Native.Nat.{ℕ}
use mathlib.Core.Path.{◌≡◌, refl, sym, ap, subst, ◌∙◌}
use mathlib.Core.List.{List}
use native.Mathlib.Omega.{arith}
use lib.IntN.{ℤ}
use Rattle.std.specs.Prelude.{Option, None, Result, Ok, Err}
use Rattle.std.specs.Result.{result_unwrap_or}
use Rattle.field.specs.declared.Unfit.{Unfit}
use Rattle.field.specs.Found.{decimal_of}
use Rattle.field.specs.Reading.{ReadsDecimal}
use Rattle.field.proofs.Short.{decimal_told_lem}
use Rattle.line.specs.Text.{cols}
use Rattle.line.proofs.Columns.{length_cols}
use Rattle.epoch.specs.Lines.{clock_held}
use Rattle.epoch.proofs.fields.clock_at.Goals as goal

told : (l : List ℕ) (r : Result (Option ℤ) Unfit) → ReadsDecimal 12 (cols 42 56 l) r → decimal_of 12 (cols 42 56 l) ≡ result_unwrap_or r None
told l r q = decimal_told_lem (cols 42 56 l) (omega (arith, length_cols 42 56 l)) 12 r q

-- an unfit clock is none
unfit : (r : Result (Option ℤ) Unfit) → ((o : Option ℤ) → r ≡ Ok o → ⊥) → result_unwrap_or r None ≡ None
unfit (Ok o) h = absurd (h o refl)
unfit (Err u) h = refl

pub returns-in_default : goal.returns-in_default
unfolding clock_held
returns-in_default c =
    let r = c.decimal.result in
    sym (told c.args.line.now r (subst (λ (s : List ℕ). ReadsDecimal 12 s r) (c.columns.ensures 56 refl) c.decimal.ensures) ∙ unfit r c.in_default.not-Ok)

pub returns : goal.returns
unfolding clock_held
returns c =
    let r = c.decimal.result in
    sym
    (told c.args.line.now r (subst (λ (s : List ℕ). ReadsDecimal 12 s r) (c.columns.ensures 56 refl) c.decimal.ensures)
    ∙ ap (λ (x : Result (Option ℤ) Unfit). result_unwrap_or x None) c.in-Ok.is)
