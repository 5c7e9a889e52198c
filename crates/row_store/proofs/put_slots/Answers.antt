-- `row_store::put_slots` meets its contract. Assumes nothing.
use Prim.Native.Nat.{◌+◌, ◌-◌, ◌*◌, ◌≤◌}
use mathlib.Core.Path.{◌≡◌}
use native.Mathlib.Omega.{arith}
use Rattle.row_store.proofs.Places.{slots_both}
use Rattle.row_store.proofs.Tables.{begun, stored, done, number_in, state_in, loss_in, strength_in}
use Rattle.row_store.proofs.put_slots.Goals as goal

pub loop-i-init : goal.loop-i-init
loop-i-init c =
    let left : c.args.n - 0 ≡ c.args.n = omega arith in
    record {
      in_numbers = begun _ _ _ _ _;
      in_states = begun _ _ _ _ _;
      in_losses = begun _ _ _ _ _;
      in_strengths = begun _ _ _ _ _;
      fit = rw left c.requires.1.0;
    }

pub put_slot-requires : goal.put_slot-requires
put_slot-requires c =
    let i = c.loop-i.i in
    let fit = (slots_both (c.args.n - i) (4 + 16 * i) c.args.line.now (omega arith) (omega arith) c.loop-i.invariant.fit).0 in
    (omega arith, (omega (arith, c.requires.0), fit))

pub loop-i-preserved : goal.loop-i-preserved
loop-i-preserved c =
    let i = c.loop-i.i in
    let l = c.loop-i.invariant in
    let p = c.put_slot.ensures in
    let left : c.args.n - (i + 1) ≡ c.args.n - i - 1 = omega arith in
    let column : 4 + 16 * (i + 1) ≡ 4 + 16 * i + 16 = omega arith in
    record {
      in_numbers = stored number_in _ _ _ i c.loop-i-test.true p.numbers_are l.in_numbers;
      in_states = stored state_in _ _ _ i c.loop-i-test.true p.states_are l.in_states;
      in_losses = stored loss_in _ _ _ i c.loop-i-test.true p.losses_are l.in_losses;
      in_strengths = stored strength_in _ _ _ i c.loop-i-test.true p.strengths_are l.in_strengths;
      fit = rw (left, column) (slots_both (c.args.n - i) (4 + 16 * i) c.args.line.now (omega arith) (omega arith) l.fit).1;
    }

pub returns : goal.returns
returns c =
    let i = c.loop-i.i in
    let l = c.loop-i.invariant in
    let end : c.args.n ≤ i = omega arith in
    record {
      numbers_are = done number_in _ _ _ i end l.in_numbers;
      states_are = done state_in _ _ _ i end l.in_states;
      losses_are = done loss_in _ _ _ i end l.in_losses;
      strengths_are = done strength_in _ _ _ i end l.in_strengths;
    }
