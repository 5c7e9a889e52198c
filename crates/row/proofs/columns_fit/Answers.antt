-- `row::columns_fit` meets its contract: a field that is not held fails its test. Assumes nothing.
use native.Mathlib.Omega.{arith}
use lib.ListN.{length-take}
use Rattle.row.proofs.columns_fit.Goals as goal

pub slice_bounds-printed_in-end : goal.slice_bounds-printed_in-end
slice_bounds-printed_in-end c = simp length-take (omega arith)

pub printed_in-requires : goal.printed_in-requires
printed_in-requires c = simp length-take (omega arith)
