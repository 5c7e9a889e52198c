-- `row::slots_fit` meets its contract. The invariant: what is left from slot i on decides as the whole row does. Assumes nothing.
use Prim.Native.Nat.{◌+◌, ◌-◌, ◌*◌}
use mathlib.Core.Path.{◌≡◌, sym, ◌∙◌}
use native.Mathlib.Omega.{arith}
use Rattle.row.proofs.Places.{slots_on, slots_stop, slots_end}
use Rattle.row.proofs.slots_fit.Goals as goal

pub returns-then-not-slot_fits : goal.returns-then-not-slot_fits
returns-then-not-slot_fits c =
    let i = c.loop-i.i in
    sym (slots_stop (c.args.n - i) (4 + 16 * i) c.args.line.now (omega arith) (omega arith) (sym c.if-not-slot_fits.ensures)) ∙ c.loop-i.invariant

pub loop-i-preserved : goal.loop-i-preserved
loop-i-preserved c =
    let i = c.loop-i.i in
    let left : c.args.n - (i + 1) ≡ c.args.n - i - 1 = omega arith in
    let column : 4 + 16 * (i + 1) ≡ 4 + 16 * i + 16 = omega arith in
    rw (left, column) (slots_on (c.args.n - i) (4 + 16 * i) c.args.line.now (omega arith) (omega arith) (sym c.if-not-slot_fits.ensures) ∙ c.loop-i.invariant)

pub returns : goal.returns
returns c =
    let i = c.loop-i.i in
    let end : 3 + 16 * c.args.n ≡ 4 + 16 * i - 1 = omega arith in
    rw end at c.blank_past.ensures ∙ (sym (slots_end (c.args.n - i) (4 + 16 * i) c.args.line.now (omega arith)) ∙ c.loop-i.invariant)
