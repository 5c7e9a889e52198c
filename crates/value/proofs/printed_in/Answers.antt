-- `value::printed_in` meets its contract. Assumes nothing.
use mathlib.Core.Path.{◌≡◌, sym, ◌∙◌}
use mathlib.Core.Bool.{true}
use Rattle.rinex.specs.Tests.{value_fits}
use Rattle.value.proofs.Answered.{fit_printed, unfit_printed}
use Rattle.value.proofs.printed_in.Goals as goal

pub returns-then-not-value_fits : goal.returns-then-not-value_fits
returns-then-not-value_fits c = unfit_printed c.args.s.now _ (sym c.value_fits.ensures ∙ c.if-not-value_fits.true)

pub has_number-requires : goal.has_number-requires
has_number-requires c =
    let fits : value_fits c.args.s.now ≡ true =
    sym c.value_fits.ensures ∙ c.if-not-value_fits.false in
    (c.requires, fits)

pub returns : goal.returns
returns c =
    let fits : value_fits c.args.s.now ≡ true =
    sym c.value_fits.ensures ∙ c.if-not-value_fits.false in
    fit_printed c.args.s.now _ fits c.has_number.ensures
