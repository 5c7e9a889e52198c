-- `summary_text::put_number` meets its contract. Assumes nothing.
use native.Mathlib.Omega.{arith}
use Rattle.summary_text.proofs.Putting.{wide, number_length, number_put}
use Rattle.summary_text.proofs.put_number.Goals as goal

pub put_whole-requires : goal.put_whole-requires
put_whole-requires c =
    let k = c.count-w.ensures in
    (omega (arith, wide _ _ k c.ranges.n.fits), (k.some_digit, k.below))

pub overflow_add-from-2 : goal.overflow_add-from-2
overflow_add-from-2 c = omega (arith, wide _ _ c.count-w.ensures c.ranges.n.fits)

pub put_byte-requires : goal.put_byte-requires
put_byte-requires c = omega (arith, wide _ _ c.count-w.ensures c.ranges.n.fits)

pub overflow_add-result : goal.overflow_add-result
overflow_add-result c = omega (arith, wide _ _ c.count-w.ensures c.ranges.n.fits)

pub overflow_add-result-2 : goal.overflow_add-result-2
overflow_add-result-2 c = omega (arith, wide _ _ c.count-w.ensures c.ranges.n.fits)

pub returns : goal.returns
returns c =
    let a = c.args in
    let w = c.count-w.result in
    let k = c.count-w.ensures in
    let b = c.ranges.n.fits in
    let n = number_length a.n w k b a.name.now in
    record {
      out_after = number_put a.n w k b a.name.now a.out.now _ _ _ a.at c.put_bytes.ensures c.put_whole.ensures c.put_byte.ensures;
      value = omega (arith, n);
      upper_bound = omega (arith, wide _ _ k b);
    }
