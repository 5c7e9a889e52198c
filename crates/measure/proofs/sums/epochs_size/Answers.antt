-- `measure::sums::epochs_size` meets its contract. The invariant: what is summed and what is left are the whole. Assumes nothing.
use Prim.Native.Nat.{ℕ, ◌+◌, ◌-◌}
use mathlib.Core.Bool.{cond}
use mathlib.Core.Path.{◌≡◌, ap, ◌∙◌}
use native.Mathlib.Omega.{arith}
use lib.Dec.{eqb}
use lib.ListN.{get_or}
use Rattle.measure.specs.Size.{epochs_size}
use Rattle.measure.proofs.Steps.{epochs_next, epochs_none, told}
use Rattle.measure.proofs.sums.epochs_size.Goals as goal

pub loop-e-init : goal.loop-e-init
loop-e-init c =
    let q : c.args.n - 0 ≡ c.args.n = omega arith in
    (ap (λ (x : ℕ). c.args.before + epochs_size c.args.clock_states.now x 0) q, omega (arith, c.requires.1))

pub overflow_add-total : goal.overflow_add-total
overflow_add-total c = omega (arith, c.record_size-total.ensures.1)

pub loop-e-preserved : goal.loop-e-preserved
loop-e-preserved c =
    let l = c.loop-e in
    let cs = c.args.clock_states.now in
    let q : ◌≡◌ {A = ℕ} c.record_size-total.result (cond (eqb (get_or cs l.e 0) 0) 36 57) = c.record_size-total.ensures.0 ∙ ap (λ (x : ℕ). cond (eqb x 0) 36 57) c.entry.ensures in
    (omega (arith, l.invariant.0, q, epochs_next cs c.args.n l.e (omega arith)), omega (arith, c.record_size-total.ensures.1))

pub returns : goal.returns
returns c =
    let l = c.loop-e in
    record {
      told = told c.args.limit (c.args.before + epochs_size c.args.clock_states.now c.args.n 0) l.total (omega (arith, l.invariant.0, epochs_none c.args.clock_states.now c.args.n l.e (omega arith)));
      upper_bound = l.invariant.1;
    }
