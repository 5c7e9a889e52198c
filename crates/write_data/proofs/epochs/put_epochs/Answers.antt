-- `write_data::epochs::put_epochs` meets its contract. The invariant: what is put, with the entries that are left, ends as all do. Assumes nothing.
use mathlib.Core.Path.{refl}
use native.Mathlib.Omega.{arith}
use Rattle.lent.specs.Parts.{data_in}
use Rattle.rinex.specs.Lent.{entry_of}
use Rattle.fits.specs.Stepping.{untaken_of}
use Rattle.write_data.proofs.EpochTurns.{epochs_begun, epochs_done, epochs_first, epochs_more}
use borrow.Author.Rules.{rules}
use Rattle.write_data.proofs.epochs.put_epochs.Goals as goal

pub loop-i-init : goal.loop-i-init
loop-i-init c =
    let lent = data_in c.args.epochs.now c.args.rows.now in
    let begun = untaken_of c.args.carried.now c.args.from in
    (refl, epochs_begun c.args.lengths lent c.args.n begun c.args.out.now c.args.at c.requires.1.0)

pub put_epoch-next-requires : goal.put_epoch-next-requires
put_epoch-next-requires c =
    let lent = data_in c.args.epochs.now c.args.rows.now in
    let begun = untaken_of c.args.carried.now c.args.from in
    let l = c.loop-i in
    let f = epochs_first c.args.lengths lent c.args.n begun c.args.out.now c.args.at l.out l.i l.to (untaken_of c.args.carried.now l.c) l.invariant.1 c.loop-i-test.true (entry_of c.entry-e.result) c.entry-e.ensures in
    (f.0, omega (arith, f.1, c.requires.1.1))

pub returns : goal.returns
returns c =
    let lent = data_in c.args.epochs.now c.args.rows.now in
    let begun = untaken_of c.args.carried.now c.args.from in
    let l = c.loop-i in
    epochs_done c.args.lengths lent c.args.n begun c.args.out.now c.args.at l.out l.i l.to (untaken_of c.args.carried.now l.c) l.invariant.1 c.loop-i-test.false

pub loop-i-preserved : goal.loop-i-preserved
loop-i-preserved c =
    let lent = data_in c.args.epochs.now c.args.rows.now in
    let begun = untaken_of c.args.carried.now c.args.from in
    let l = c.loop-i in
    let p = c.put_epoch-next in
    let e = c.entry-e in (
      search rules,
      epochs_more c.args.lengths lent c.args.n begun c.args.out.now c.args.at l.out l.i l.to (untaken_of c.args.carried.now l.c) l.invariant.1 c.loop-i-test.true (entry_of e.result) e.ensures
          _ p.result.at (untaken_of c.args.carried.now p.result.untaken) p.ensures.out_after p.ensures.at_value.0 p.ensures.at_value.1,
    )
