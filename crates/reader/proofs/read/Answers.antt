-- `reader::read` meets its promise. Assumes nothing.
use native.Mathlib.Omega.{arith}
use Rattle.rinex.specs.Tables.{Buffers, room}
use Rattle.rinex.specs.Lent.{buffers}
use Rattle.reader.proofs.Replied.{room_is, too_long, turns_away, lined, takes}
use Rattle.reader.proofs.read.Goals as goal

pub returns-then-longest-text : goal.returns-then-longest-text
returns-then-longest-text c =
    let lent : Buffers =
    buffers c.args.codes.now c.args.times.now c.args.time_states.now c.args.flags.now c.args.tallies.now c.args.clocks.now c.args.clock_states.now c.args.satellites.now c.args.numbers.now c.args.states.now c.args.losses.now c.args.strengths.now c.args.carried.now in
    too_long c.args.text.now lent c.refusal.result c.refusal.ensures (omega (arith, c.if-longest-text.true, c.longest.ensures))

pub returns-in-Err : goal.returns-in-Err
unfolding room
returns-in-Err c =
    let lent : Buffers =
    buffers c.args.codes.now c.args.times.now c.args.time_states.now c.args.flags.now c.args.tallies.now c.args.clocks.now c.args.clock_states.now c.args.satellites.now c.args.numbers.now c.args.states.now c.args.losses.now c.args.strengths.now c.args.carried.now in
    let q = room_is lent _ _ c.room_of_six.ensures c.room_of_four.ensures in
    turns_away c.args.text.now _ lent _ q c.in-Err.e c.in-Err.ensures c.refusal-in-Err.result (rw (← c.number.ensures) c.refusal-in-Err.ensures)

pub fill_tables-head-requires : goal.fill_tables-head-requires
unfolding room
fill_tables-head-requires c =
    let lent : Buffers =
    buffers c.args.codes.now c.args.times.now c.args.time_states.now c.args.flags.now c.args.tallies.now c.args.clocks.now c.args.clock_states.now c.args.satellites.now c.args.numbers.now c.args.states.now c.args.losses.now c.args.strengths.now c.args.carried.now in
    let q = room_is lent _ _ c.room_of_six.ensures c.room_of_four.ensures in
    let j = c.in-Ok.ensures in
    ((j.runs, lined c.args.text.now _ lent _ q c.in-Ok.whole j), (j.end, (j.places, j.first)))

pub returns : goal.returns
unfolding room
returns c =
    let lent : Buffers =
    buffers c.args.codes.now c.args.times.now c.args.time_states.now c.args.flags.now c.args.tallies.now c.args.clocks.now c.args.clock_states.now c.args.satellites.now c.args.numbers.now c.args.states.now c.args.losses.now c.args.strengths.now c.args.carried.now in
    let q = room_is lent _ _ c.room_of_six.ensures c.room_of_four.ensures in
    let f = c.fill_tables-head in
    takes c.args.text.now _ lent _ q c.in-Ok.whole c.in-Ok.ensures f.result _ c.acceptance.result c.acceptance.ensures f.ensures.result_value f.ensures.carried_after
