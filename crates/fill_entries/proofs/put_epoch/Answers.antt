-- `fill_entries::put_epoch` meets its contract. Assumes nothing.
use mathlib.Core.Path.{ap, ◌∙◌}
use lib.ListN.{set}
use mir.Syntax.{w64}
use mir.Val.{SFits}
use mir.ValLaws.{to_z-of_z}
use borrow.Author.Rules.{rules}
use Rattle.fill_entries.proofs.Entries.{time_entry, state_entry, clock_is, clock_entry}
use Rattle.fill_entries.proofs.put_epoch.Goals as goal

pub returns : goal.returns
returns c =
    let a = c.args in
    let i = a.c.used.epochs in
    let t = c.epoch_time-t in
    let f = c.flag_at-flag in
    let n = c.count_at in
    let k = c.clock_at-clock in
    let held = k.ensures ∙ clock_is a.line.now in
    let fits : SFits w64 c.unwrap_or-2.result = search rules in
    record {
      times_are = time_entry a.times.now _ i c.unwrap_or.result t.result _ c.put.ensures c.unwrap_or.ensures t.ensures;
      states_are = state_entry a.time_states.now _ i c.from.result c.is_some.result t.result _ c.put-2.ensures c.from.ensures c.is_some.ensures t.ensures;
      flags_are = c.put-3.ensures ∙ ap (set a.flags.now i) f.ensures.0;
      counts_are = c.put-4.ensures ∙ ap (set a.tallies.now i) n.ensures.0;
      clocks_are = clock_entry a.clocks.now _ i c.unwrap_or-2.result k.result _ (rw (to_z-of_z w64 _ fits) at c.put-5.ensures) c.unwrap_or-2.ensures held;
      clock_states_are = state_entry a.clock_states.now _ i c.from-2.result c.is_some-2.result k.result _ c.put-6.ensures c.from-2.ensures c.is_some-2.ensures held;
    }
