-- `fits_rows::lines::is_held` meets its contract. Assumes nothing.
use mathlib.Core.Path.{◌≡◌, sym, ◌∙◌}
use mathlib.Core.Bool.{true≢false}
use borrow.Author.Tests.{eqb-true, eqb-false, ne_eqb}
use lib.ListN.{length}
use Rattle.lists.proofs.Chain.{stop, after}
use Rattle.fits_rows.proofs.Running.{not_plain, are_plain_lem, not_cut, is_cut}
use Rattle.fits_rows.proofs.lines.is_held.Goals as goal
use Rattle.fits_rows.proofs.lines.is_held.Goals.{then-plain_end-line, else-plain_end-line}

pub returns-then-cut_length-line : goal.returns-then-cut_length-line
returns-then-cut_length-line c =
    let l = c.args.line.now in
    elim c.if-plain_end-line.branch [
      | then-plain_end-line w ↦
          let whole : w.cut_length.result ≡ length l = eqb-true w.cut_length.result (length l) (sym w.value-is ∙ c.if-cut_length-line.true) in
          after (are_plain_lem l c.plain_end.result c.plain_end.ensures w.if-plain_end-line.true)
          (after (is_cut l w.cut_length.result w.cut_length.ensures.1 whole) c.blank_past.ensures)
      | else-plain_end-line w ↦ absurd (true≢false (sym c.if-cut_length-line.true ∙ (w.value-is ∙ ne_eqb c.plain_end.result (length l) w.if-plain_end-line.false)))
    ]

pub returns-else-cut_length-line : goal.returns-else-cut_length-line
returns-else-cut_length-line c =
    let l = c.args.line.now in
    elim c.if-plain_end-line.branch [
      | then-plain_end-line w ↦
          c.if-cut_length-line.false ∙ after (are_plain_lem l c.plain_end.result c.plain_end.ensures w.if-plain_end-line.true)
          (stop _ (not_cut l w.cut_length.result w.cut_length.ensures.0 w.cut_length.ensures.1 (eqb-false w.cut_length.result (length l) (sym w.value-is ∙ c.if-cut_length-line.false))))
      | else-plain_end-line w ↦ c.if-cut_length-line.false ∙ stop _ (not_plain l c.plain_end.result c.plain_end.ensures w.if-plain_end-line.false)
    ]
