-- `slots::all::answered` meets its contract. Assumes nothing.
use mathlib.Core.Path.{◌≡◌, sym, ap, ◌∙◌}
use mathlib.Core.Bool.{true, ◌&&◌}
use mathlib.Core.List.{map}
use Prim.Native.Nat.{ℕ}
use lib.Dec.{leb}
use lib.ListN.{length}
use lib.Seq.{sets}
use Rattle.rinex.specs.Tables.{Buffers}
use Rattle.rinex.specs.Fit.{tables_fit}
use Rattle.rinex.specs.Lent.{head_of, counts_of}
use Rattle.lent.specs.Parts.{tables_in}
use Rattle.rinex.specs.Answers.{kind, float}
use Rattle.slots.specs.InTables.{column_from}
use Rattle.slots.proofs.FitRows.{codes_room, rows_hold, slots_lie}
use Rattle.slots.proofs.ColumnReplies.{no_text, cramped, kinds_hold, floats_hold, done}
use Rattle.slots.proofs.all.answered.Goals as goal

pub returns-then-not-tables_fit : goal.returns-then-not-tables_fit
returns-then-not-tables_fit c =
    let lent : Buffers = tables_in c.args.tables.now in
    let h = head_of c.args.head in
    let n = counts_of c.args.counts in
    let a = c.args in
    no_text h n lent a.system a.code a.kinds.now a.floats.now (sym c.tables_fit.ensures ∙ c.if-not-tables_fit.true)

pub returns-then-not-has_room : goal.returns-then-not-has_room
returns-then-not-has_room c =
    let lent : Buffers = tables_in c.args.tables.now in
    let h = head_of c.args.head in
    let n = counts_of c.args.counts in
    let a = c.args in
    let fit : tables_fit h n lent ≡ true = sym c.tables_fit.ensures ∙ c.if-not-tables_fit.false in
    cramped h n lent a.system a.code a.kinds.now a.floats.now fit (sym c.has_room.ensures ∙ c.if-not-has_room.true)

pub code_place-place-requires : goal.code_place-place-requires
code_place-place-requires c =
    let lent : Buffers = tables_in c.args.tables.now in
    let h = head_of c.args.head in
    let n = counts_of c.args.counts in
    let a = c.args in
    let fit : tables_fit h n lent ≡ true = sym c.tables_fit.ensures ∙ c.if-not-tables_fit.false in
    codes_room h n lent fit a.system

pub fill-requires : goal.fill-requires
fill-requires c =
    let lent : Buffers = tables_in c.args.tables.now in
    let h = head_of c.args.head in
    let n = counts_of c.args.counts in
    let a = c.args in
    let fit : tables_fit h n lent ≡ true = sym c.tables_fit.ensures ∙ c.if-not-tables_fit.false in
    let room : (leb a.counts.rows (length a.kinds.now) && leb a.counts.rows (length a.floats.now)) ≡ true = sym c.has_room.ensures ∙ c.if-not-has_room.false in (
      (rows_hold h n lent fit, slots_lie h n lent fit),
      (
        kinds_hold h n lent a.system a.code a.kinds.now a.floats.now fit room,
        floats_hold h n lent a.system a.code a.kinds.now a.floats.now fit room,
      ),
    )

pub returns : goal.returns
returns c =
    let lent : Buffers = tables_in c.args.tables.now in
    let h = head_of c.args.head in
    let n = counts_of c.args.counts in
    let a = c.args in
    let fit : tables_fit h n lent ≡ true = sym c.tables_fit.ensures ∙ c.if-not-tables_fit.false in
    let room : (leb a.counts.rows (length a.kinds.now) && leb a.counts.rows (length a.floats.now)) ≡ true = sym c.has_room.ensures ∙ c.if-not-has_room.false in
    let f = c.fill in
    let p = c.code_place-place.ensures in
    done h n lent a.system a.code a.kinds.now a.floats.now fit room _ _
    (f.ensures.kinds_after ∙ ap (λ (x : ℕ). sets a.kinds.now 0 (map kind (column_from a.head.lengths a.tables.now.rows.satellites.now a.tables.now.rows.slots.numbers.now a.tables.now.rows.slots.states.now a.system x a.code a.counts.rows 0 0))) p)
    (f.ensures.floats_after ∙ ap (λ (x : ℕ). sets a.floats.now 0 (map float (column_from a.head.lengths a.tables.now.rows.satellites.now a.tables.now.rows.slots.numbers.now a.tables.now.rows.slots.states.now a.system x a.code a.counts.rows 0 0))) p)
