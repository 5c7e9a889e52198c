-- `header::fields::above` meets its contract. Assumes nothing.
use mathlib.Core.Path.{◌≡◌, refl, sym, ap, subst, ◌∙◌}
use Rattle.field.specs.Found.{decimal_of}
use Rattle.std.specs.Prelude.{Option, None, Some}
use Rattle.std.specs.Option.{unwrap_or}
use borrow.Author.Rules.{rules}
use mir.Syntax.{w64}
use mir.Val.{SFits}
use mir.ValLaws.{to_z-of_z}
use lib.IntN.{ℤ, pos}
use Rattle.header.specs.Lines
use Rattle.field.proofs.Short.{decimal_told_lem}
use Rattle.header.proofs.fields.above.Goals as goal

or_0 : (o : Option ℤ) → Lines.above (Some (unwrap_or o (pos 0))) ≡ Lines.above o
or_0 None = refl
or_0 (Some z) = refl

pub returns : goal.returns
returns c =
    let told = decimal_told_lem c.args.field.now c.requires 3 c.decimal.result c.decimal.ensures in
    let fits : SFits w64 c.unwrap_or-2.result = search rules in
    rw (to_z-of_z w64 _ fits) at c.positive.ensures
    ∙ (ap (λ (z : ℤ). Lines.above (Some z)) (c.unwrap_or-2.ensures ∙ ap (λ (o : Option ℤ). unwrap_or o (pos 0)) (c.unwrap_or.ensures ∙ sym told))
    ∙ or_0 (decimal_of 3 c.args.field.now))
