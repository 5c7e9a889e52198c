-- `writer::whole::written` meets its contract. Assumes nothing.
use mathlib.Core.Path.{◌≡◌, refl, sym, ◌∙◌}
use mathlib.Core.Bool.{true}
use native.Mathlib.Omega.{arith}
use Rattle.rinex.specs.Tables.{FlatHead, Counts}
use Rattle.rinex.specs.Fit.{tables_fit}
use Rattle.rinex.specs.Lent.{head_of, counts_of}
use Rattle.lent.specs.Parts.{tables_in}
use Rattle.rinex.specs.Promises.{written, no_text, no_place}
use Rattle.writer.proofs.FitParts.{few}
use Rattle.writer.proofs.FileReplies.{no_tables, no_place_for, ends_within, wrote}
use Rattle.writer.proofs.whole.written.Goals as goal

pub returns-then-not-tables_fit : goal.returns-then-not-tables_fit
returns-then-not-tables_fit c =
    let a = c.args in
    let b = tables_in a.tables.now in
    let h : FlatHead = head_of a.head in
    let n : Counts = counts_of a.counts in
    record { reply = no_text; told_so = refl; kept = no_tables h n b a.out.now a.at (sym c.tables_fit.ensures ∙ c.if-not-tables_fit.true) }

pub text_size-size-requires : goal.text_size-size-requires
text_size-size-requires c =
    let a = c.args in
    let b = tables_in a.tables.now in
    let h : FlatHead = head_of a.head in
    let n : Counts = counts_of a.counts in
    let f : tables_fit h n b ≡ true = sym c.tables_fit.ensures ∙ c.if-not-tables_fit.false in
    let s = few h n a.tables.now f in
    (s.0, (s.1, omega (arith, c.room_behind-most.ensures)))

pub returns-then-most-size : goal.returns-then-most-size
returns-then-most-size c =
    let a = c.args in
    let b = tables_in a.tables.now in
    let h : FlatHead = head_of a.head in
    let n : Counts = counts_of a.counts in
    let f : tables_fit h n b ≡ true = sym c.tables_fit.ensures ∙ c.if-not-tables_fit.false in
    let t = c.text_size-size in
    let m = c.room_behind-most in
    record {
      reply = no_place;
      told_so = refl;
      kept = no_place_for h n b a.out.now a.at f m.result t.result m.ensures t.ensures c.if-most-size.true;
    }

pub put_tables-requires : goal.put_tables-requires
put_tables-requires c =
    let a = c.args in
    let b = tables_in a.tables.now in
    let h : FlatHead = head_of a.head in
    let n : Counts = counts_of a.counts in
    let f : tables_fit h n b ≡ true = sym c.tables_fit.ensures ∙ c.if-not-tables_fit.false in
    let t = c.text_size-size in
    let m = c.room_behind-most in
    (f, omega (arith, ends_within h n b a.out.now a.at f m.result t.result m.ensures t.ensures c.if-most-size.false, c.well_formed))

pub returns : goal.returns
returns c =
    let a = c.args in
    let b = tables_in a.tables.now in
    let h : FlatHead = head_of a.head in
    let n : Counts = counts_of a.counts in
    let f : tables_fit h n b ≡ true = sym c.tables_fit.ensures ∙ c.if-not-tables_fit.false in
    let t = c.text_size-size in
    let m = c.room_behind-most in
    record {
      reply = written t.result;
      told_so = refl;
      kept = wrote h n b a.out.now a.at f m.result t.result m.ensures t.ensures c.if-most-size.false _ c.put_tables.ensures;
    }
