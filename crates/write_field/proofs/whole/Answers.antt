-- `write_field::whole` meets its contract: as many digits as are counted fit. Assumes nothing.
use mathlib.Core.Path.{◌≡◌, refl, ◌∙◌}
use mathlib.Core.Bool.{true}
use lib.ListN.{length}
use borrow.Author.Tests.{le-leb, lt-leb}
use Rattle.write_field.proofs.Counting.{count_fits_lem}
use Rattle.write_field.proofs.Writes.{refused, written}
use Rattle.write_field.specs.Normal.{whole_fits}
use Rattle.write_field.proofs.Lead.{whole_put}
use Rattle.write_field.proofs.whole.Goals as goal

pub returns-then-out-count : goal.returns-then-out-count
returns-then-out-count c = refused _ _ _ _ (count_fits_lem _ _ _ c.count.ensures ∙ lt-leb _ _ c.if-out-count.true) refl

pub returns : goal.returns
returns c =
    let fits : whole_fits (length c.args.out.now) c.args.n ≡ true = count_fits_lem _ _ _ c.count.ensures ∙ le-leb _ _ c.if-out-count.false in
    written _ _ _ _ fits (whole_put c.args.out.now c.put_lead.new.out c.digit.result c.args.n c.digit.ensures fits c.put_lead.ensures)
