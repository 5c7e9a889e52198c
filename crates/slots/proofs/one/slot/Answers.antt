-- `slots::one::slot` meets its contract. Assumes nothing.
use Prim.Native.Nat.{ℕ, ◌+◌, ◌/◌, ◌<◌}
use mathlib.Core.Path.{◌≡◌, sym, ◌∙◌, subst}
use mathlib.Core.Bool.{true}
use native.Mathlib.Omega.{arith}
use lib.ListN.{length, get_or}
use Rattle.rinex.specs.Tables.{Buffers}
use Rattle.rinex.specs.Fit.{tables_fit, row_codes}
use Rattle.rinex.specs.Lent.{head_of, counts_of}
use Rattle.lent.specs.Parts.{tables_in}
use Rattle.slot_answers.specs.Handed.{meant}
use Rattle.slot_answers.specs.AtPlace.{HeldSlots, slot_answer}
use Rattle.slots.specs.InTables.{slots_before}
use Rattle.slots.proofs.FitRows.{codes_room, rows_hold, row_lies}
use Rattle.slots.proofs.SlotReplies.{no_tables, absent, there}
use Rattle.slots.proofs.one.slot.Goals as goal

pub returns-then-not-tables_fit : goal.returns-then-not-tables_fit
returns-then-not-tables_fit c =
    let lent : Buffers = tables_in c.args.tables.now in
    let h = head_of c.args.head in
    let n = counts_of c.args.counts in
    let a = c.args in
    no_tables h n lent a.row a.code (sym c.tables_fit.ensures ∙ c.if-not-tables_fit.true)

pub returns-then-counts-row : goal.returns-then-counts-row
returns-then-counts-row c =
    let lent : Buffers = tables_in c.args.tables.now in
    let h = head_of c.args.head in
    let n = counts_of c.args.counts in
    let a = c.args in
    let fit : tables_fit h n lent ≡ true = sym c.tables_fit.ensures ∙ c.if-not-tables_fit.false in
    absent h n lent a.row a.code fit c.if-counts-row.true

pub offset_bounds-rows-row : goal.offset_bounds-rows-row
offset_bounds-rows-row c =
    let lent : Buffers = tables_in c.args.tables.now in
    let h = head_of c.args.head in
    let n = counts_of c.args.counts in
    let a = c.args in
    let fit : tables_fit h n lent ≡ true = sym c.tables_fit.ensures ∙ c.if-not-tables_fit.false in
    let row_held : a.row < length a.tables.now.rows.satellites.now = omega (arith, rows_hold h n lent fit, c.if-counts-row.false) in
    omega (arith, row_held)

pub bounds-rows-row : goal.bounds-rows-row
bounds-rows-row c =
    let lent : Buffers = tables_in c.args.tables.now in
    let h = head_of c.args.head in
    let n = counts_of c.args.counts in
    let a = c.args in
    let fit : tables_fit h n lent ≡ true = sym c.tables_fit.ensures ∙ c.if-not-tables_fit.false in
    let row_held : a.row < length a.tables.now.rows.satellites.now = omega (arith, rows_hold h n lent fit, c.if-counts-row.false) in
    row_held

pub slots_before-at-requires : goal.slots_before-at-requires
slots_before-at-requires c =
    let lent : Buffers = tables_in c.args.tables.now in
    let h = head_of c.args.head in
    let n = counts_of c.args.counts in
    let a = c.args in
    let fit : tables_fit h n lent ≡ true = sym c.tables_fit.ensures ∙ c.if-not-tables_fit.false in
    let row_held : a.row < length a.tables.now.rows.satellites.now = omega (arith, rows_hold h n lent fit, c.if-counts-row.false) in
    let row_there : HeldSlots (slots_before a.head.lengths a.tables.now.rows.satellites.now a.row 0 0 + row_codes a.head.lengths a.tables.now.rows.satellites.now a.row) a.tables.now.rows.slots.numbers.now a.tables.now.rows.slots.states.now = row_lies h n lent fit a.row c.if-counts-row.false in
    (omega (arith, row_held), omega (arith, row_there.numbers_hold))

pub code_place-place-requires : goal.code_place-place-requires
code_place-place-requires c =
    let lent : Buffers = tables_in c.args.tables.now in
    let h = head_of c.args.head in
    let n = counts_of c.args.counts in
    let a = c.args in
    let fit : tables_fit h n lent ≡ true = sym c.tables_fit.ensures ∙ c.if-not-tables_fit.false in
    codes_room h n lent fit (get_or a.tables.now.rows.satellites.now a.row 0 / 100)

pub answer_at-requires : goal.answer_at-requires
answer_at-requires c =
    let lent : Buffers = tables_in c.args.tables.now in
    let h = head_of c.args.head in
    let n = counts_of c.args.counts in
    let a = c.args in
    let fit : tables_fit h n lent ≡ true = sym c.tables_fit.ensures ∙ c.if-not-tables_fit.false in
    let row_there : HeldSlots (slots_before a.head.lengths a.tables.now.rows.satellites.now a.row 0 0 + row_codes a.head.lengths a.tables.now.rows.satellites.now a.row) a.tables.now.rows.slots.numbers.now a.tables.now.rows.slots.states.now = row_lies h n lent fit a.row c.if-counts-row.false in
    subst (λ (k : ℕ). HeldSlots (c.slots_before-at.result + k) a.tables.now.rows.slots.numbers.now a.tables.now.rows.slots.states.now) (sym c.codes_of-n.ensures)
    (subst (λ (k : ℕ). HeldSlots (k + row_codes a.head.lengths a.tables.now.rows.satellites.now a.row) a.tables.now.rows.slots.numbers.now a.tables.now.rows.slots.states.now) (sym c.slots_before-at.ensures) row_there)

pub returns : goal.returns
returns c =
    let lent : Buffers = tables_in c.args.tables.now in
    let h = head_of c.args.head in
    let n = counts_of c.args.counts in
    let a = c.args in
    let fit : tables_fit h n lent ≡ true = sym c.tables_fit.ensures ∙ c.if-not-tables_fit.false in
    let p = c.slots_before-at.ensures in
    let q = c.codes_of-n.ensures in
    let r = c.code_place-place.ensures in
    there h n lent a.row a.code fit c.if-counts-row.false (meant c.answer_at.result)
    (c.answer_at.ensures ∙ λ k. slot_answer a.tables.now.rows.slots.numbers.now a.tables.now.rows.slots.states.now (p k) (q k) (r k) a.code)
