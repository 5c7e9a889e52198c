-- `measure::sums::rows_size` meets its contract. The invariant: what is summed and what is left are the whole. Assumes nothing.
use Prim.Native.Nat.{ℕ, ◌+◌, ◌-◌, ◌/◌, ◌≤◌}
use mathlib.Core.Path.{◌≡◌, sym, ap, ◌∙◌}
use native.Mathlib.Omega.{arith}
use lib.ListN.{get_or}
use Rattle.rinex.specs.Fit.{row_codes}
use Rattle.measure.specs.Size.{slots_width, rows_size}
use Rattle.measure.proofs.Steps.{rows_next, rows_none, told, told_past}
use Rattle.measure.proofs.sums.rows_size.Goals as goal

pub loop-j-init : goal.loop-j-init
loop-j-init c =
    let q : c.args.n - 0 ≡ c.args.n = omega arith in
    (ap (λ (x : ℕ). c.args.before + rows_size c.args.lengths c.args.rows.now.satellites.now c.args.rows.now.slots.states.now c.args.rows.now.slots.losses.now c.args.rows.now.slots.strengths.now x 0 0) q, (omega (arith, c.requires.1.1.1), omega arith))

pub returns-then-limit-total : goal.returns-then-limit-total
returns-then-limit-total c =
    let l = c.loop-j in
    told_past c.args.limit (c.args.before + rows_size c.args.lengths c.args.rows.now.satellites.now c.args.rows.now.slots.states.now c.args.rows.now.slots.losses.now c.args.rows.now.slots.strengths.now c.args.n 0 0) l.total (omega (arith, c.if-limit-total.true)) (omega (arith, l.invariant.0))

pub slots_width-requires : goal.slots_width-requires
slots_width-requires c =
    let few : c.codes_of-k.result ≤ 64 =
    omega (arith, c.codes_of-k.ensures, c.requires.1.0 (c.entry.result / 100)) in
    (few, omega arith)

pub overflow_add-i : goal.overflow_add-i
overflow_add-i c =
    let few : c.codes_of-k.result ≤ 64 =
    omega (arith, c.codes_of-k.ensures, c.requires.1.0 (c.entry.result / 100)) in
    omega (arith, few)

pub returns : goal.returns
returns c =
    let l = c.loop-j in
    told c.args.limit (c.args.before + rows_size c.args.lengths c.args.rows.now.satellites.now c.args.rows.now.slots.states.now c.args.rows.now.slots.losses.now c.args.rows.now.slots.strengths.now c.args.n 0 0) l.total (omega (arith, l.invariant.0, rows_none c.args.lengths c.args.rows.now.satellites.now c.args.rows.now.slots.states.now c.args.rows.now.slots.losses.now c.args.rows.now.slots.strengths.now c.args.n l.j l.i (omega arith)))

pub loop-j-preserved : goal.loop-j-preserved
loop-j-preserved c =
    let few : c.codes_of-k.result ≤ 64 =
    omega (arith, c.codes_of-k.ensures, c.requires.1.0 (c.entry.result / 100)) in
    let l = c.loop-j in
    let k = c.codes_of-k.result in
    let q : ◌≡◌ {A = ℕ} k (row_codes c.args.lengths c.args.rows.now.satellites.now l.j) = c.codes_of-k.ensures ∙ ap (λ (x : ℕ). get_or c.args.lengths (x / 100) 0) c.entry.ensures in
    let m : rows_size c.args.lengths c.args.rows.now.satellites.now c.args.rows.now.slots.states.now c.args.rows.now.slots.losses.now c.args.rows.now.slots.strengths.now (c.args.n - l.j) l.j l.i ≡ slots_width c.args.rows.now.slots.states.now c.args.rows.now.slots.losses.now c.args.rows.now.slots.strengths.now k l.i + 4 + rows_size c.args.lengths c.args.rows.now.satellites.now c.args.rows.now.slots.states.now c.args.rows.now.slots.losses.now c.args.rows.now.slots.strengths.now (c.args.n - (l.j + 1)) (l.j + 1) (l.i + k) =
    rows_next c.args.lengths c.args.rows.now.satellites.now c.args.rows.now.slots.states.now c.args.rows.now.slots.losses.now c.args.rows.now.slots.strengths.now c.args.n l.j l.i (omega arith) ∙ ap (λ (x : ℕ). slots_width c.args.rows.now.slots.states.now c.args.rows.now.slots.losses.now c.args.rows.now.slots.strengths.now x l.i + 4 + rows_size c.args.lengths c.args.rows.now.satellites.now c.args.rows.now.slots.states.now c.args.rows.now.slots.losses.now c.args.rows.now.slots.strengths.now (c.args.n - (l.j + 1)) (l.j + 1) (l.i + x)) (sym q) in
    (omega (arith, l.invariant.0, m, c.slots_width.ensures.value), (omega (arith, c.slots_width.ensures.upper_bound), omega (arith, l.invariant.1.1, few)))
