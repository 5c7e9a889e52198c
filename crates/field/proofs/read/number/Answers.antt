-- `field::read::number` meets its contract. The invariant: with what is left the number is the whole. Assumes nothing.
use Prim.Native.Nat.{ℕ, ◌<◌}
use mathlib.Core.Path.{◌≡◌, sym, ◌∙◌}
use mathlib.Core.Bool.{true}
use native.Mathlib.Omega.{arith}
use borrow.Author.Tests.{leb-true, lt-ltb}
use lib.Dec.{leb}
use lib.ListN.{get_or, drop_of_length-le, length}
use Rattle.lists.proofs.Bools.{both}
use Rattle.field.specs.Field.{is_digit}
use Rattle.field.specs.Reading.{most}
use Rattle.field.specs.Steps.{number_in}
use Rattle.field.proofs.Digits.{number_next, number_stop, number_full}
use Rattle.field.proofs.read.number.Goals as goal
use Rattle.field.proofs.read.number.Goals.{then-not-is_digit-via-then-not-is_digit, then-not-is_digit-via-else-not-is_digit+then-v-ge100000000000000000}

pub returns-then-not-is_digit : goal.returns-then-not-is_digit
returns-then-not-is_digit c =
    let s = c.args.s.now in
    let h : c.loop-b.b-index < length s = omega arith in
    elim c.then-not-is_digit.branch [
      | then-not-is_digit-via-then-not-is_digit w ↦ sym (number_stop s c.loop-b.b-index h c.loop-b.v (sym c.is_digit.ensures ∙ w.if-not-is_digit.true)) ∙ c.loop-b.invariant.1
      | then-not-is_digit-via-else-not-is_digit+then-v-ge100000000000000000 w ↦ sym (number_full s c.loop-b.b-index h c.loop-b.v (omega arith)) ∙ c.loop-b.invariant.1
    ]

pub loop-b-preserved : goal.loop-b-preserved
loop-b-preserved c =
    let byte : ℕ = get_or c.args.s.now c.loop-b.b-index 0 in
    let digit : is_digit byte ≡ true = sym c.is_digit.ensures ∙ c.if-not-is_digit.false in
    let high = leb-true byte 57 (both (leb 48 byte) _ digit).1 in
    (omega (arith, high), rw c.from.ensures (sym (number_next c.args.s.now c.loop-b.b-index (omega arith) c.loop-b.v digit)) ∙ c.loop-b.invariant.1)

pub returns : goal.returns
unfolding number_in
returns c =
    rw (drop_of_length-le c.args.s.now c.loop-b-test.false, lt-ltb c.loop-b.v most c.loop-b.invariant.0) at c.loop-b.invariant.1
