-- `fill::tables::fill_tables` meets its contract. Assumes nothing.
use Rattle.rinex.specs.Tables.{Buffers}
use Rattle.rinex.specs.Lent.{buffers}
use Rattle.fill.proofs.SecondPass.{head_passed, tables_passed}
use Rattle.fill.proofs.tables.fill_tables.Goals as goal

pub returns : goal.returns
returns c =
    let lent : Buffers =
    buffers c.args.codes.now c.args.times.now c.args.time_states.now c.args.flags.now c.args.tallies.now c.args.clocks.now c.args.clock_states.now c.args.satellites.now c.args.numbers.now c.args.states.now c.args.losses.now c.args.strengths.now c.args.carried.now in
    let e = c.requires.1.0 in
    let h = c.fill_header-head.ensures in
    record {
      result_value = head_passed c.args.text.now c.args.table.now c.args.from e _ h.result_value;
      carried_after = tables_passed c.args.text.now c.args.table.now c.args.from e lent _ _ _ c.fill_codes.ensures h.carried_after (c.fill_data.ensures _);
    }
