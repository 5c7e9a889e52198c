-- `fits_rows::lines::line_run` meets its contract. Assumes nothing.
use mathlib.Core.Path.{ap, sym, ◌∙◌}
use Rattle.label.specs.Labels.{is}
use Rattle.label.specs.declared.Label.TheVariants.{MarkerName}
use Rattle.fits_rows.specs.Carried.{label_fits}
use Rattle.fits_rows.proofs.Running.{not_held, barred_line, line_ran}
use Rattle.fits_rows.proofs.lines.line_run.Goals as goal
use Rattle.fits_rows.proofs.lines.line_run.Goals.{then-not-is_held-via-then-not-is_held, then-not-is_held-via-else-not-is_held+then-not-label_fits}

pub returns-then-not-is_held : goal.returns-then-not-is_held
returns-then-not-is_held c =
    elim c.then-not-is_held.branch [
      | then-not-is_held-via-then-not-is_held w ↦
          not_held c.args.event c.args.text.now c.args.at c.args.end c.requires (sym c.is_held.ensures ∙ w.if-not-is_held.true)
      | then-not-is_held-via-else-not-is_held+then-not-label_fits w ↦
          barred_line c.args.event c.args.text.now c.args.at c.args.end c.requires (sym c.is_held.ensures ∙ w.if-not-is_held.false)
          (sym (w.label_fits.ensures ∙ ap (label_fits c.args.event) c.label-k.ensures) ∙ w.if-not-label_fits.true)
    ]

pub returns : goal.returns
returns c =
    line_ran c.args.event c.args.text.now c.args.at c.args.end c.requires (sym c.is_held.ensures ∙ c.if-not-is_held.false)
    (sym (c.label_fits.ensures ∙ ap (label_fits c.args.event) c.label-k.ensures) ∙ c.if-not-label_fits.false) c.is.result
    (c.is.ensures ∙ ap (is MarkerName) c.label-k.ensures)
