-- `writer::whole::put_tables` meets its contract. Assumes nothing.
use Prim.Native.Nat.{ℕ, ◌+◌, ◌<◌, ◌^◌}
use mathlib.Core.Path.{refl, sym, ap, ◌∙◌, subst}
use mathlib.Core.List.{List}
use native.Mathlib.Omega.{arith}
use lib.ListN.{length, take, length-take}
use lib.Seq.{sets}
use Rattle.rinex.specs.Tables.{FlatHead, Counts}
use Rattle.rinex.specs.Lent.{head_of, counts_of}
use Rattle.lent.specs.Parts.{tables_in}
use Rattle.fits.specs.declared.Untaken.{Untaken}
use Rattle.fits.proofs.Alone.{data_alone}
use Rattle.fits.specs.Stepping.{untaken_of}
use Rattle.write_data.specs.EpochTexts.{epochs_text, EpochsReady}
use Rattle.writer.proofs.FitParts.{parts, head_ready, start_ready, size_parts, put_parts}
use Rattle.writer.proofs.whole.put_tables.Goals as goal

pub slice_bounds-lines-end : goal.slice_bounds-lines-end
slice_bounds-lines-end c =
    let a = c.args in
    let t = a.tables.now in
    let h : FlatHead = head_of a.head in
    let n : Counts = counts_of a.counts in
    let carried = (parts h n t c.requires.0).holds.carried in simp length-take (omega arith)

pub put_header-top-requires : goal.put_header-top-requires
put_header-top-requires c =
    let a = c.args in
    let t = a.tables.now in
    let h : FlatHead = head_of a.head in
    let n : Counts = counts_of a.counts in
    (head_ready h n t c.requires.0, omega (arith, c.requires.1, size_parts h n t c.requires.0 _ refl))

pub put_epochs-requires : goal.put_epochs-requires
put_epochs-requires c =
    let a = c.args in
    let t = a.tables.now in
    let h : FlatHead = head_of a.head in
    let n : Counts = counts_of a.counts in
    let rest : Untaken → List ℕ =
    λ x. epochs_text h.lengths (data_alone (tables_in t)) n.epochs 0 (untaken_of (take n.carried t.carried.now) x) in
    let p = c.put_header-top in
    let f = c.requires.0 in (
      (parts h n t f).holds.entries,
      subst (λ (x : Untaken). EpochsReady h.lengths (data_alone (tables_in t)) n.epochs 0 (untaken_of (take n.carried t.carried.now) x) × (p.result.at + length (rest x) < 2 ^ 64)) (sym c.begin-start.ensures) (
        start_ready h n t f _ p.ensures.at_value.1,
        omega (arith, c.requires.1, size_parts h n t f _ p.ensures.at_value.1, p.ensures.at_value.0),
      ),
    )

pub returns : goal.returns
returns c =
    let a = c.args in
    let t = a.tables.now in
    let h : FlatHead = head_of a.head in
    let n : Counts = counts_of a.counts in
    let rest : Untaken → List ℕ =
    λ x. epochs_text h.lengths (data_alone (tables_in t)) n.epochs 0 (untaken_of (take n.carried t.carried.now) x) in
    let p = c.put_header-top in
    put_parts h n t c.requires.0 _ p.ensures.at_value.1 a.out.now p.new.out _ a.at p.result.at p.ensures.out_after p.ensures.at_value.0
    (c.put_epochs.ensures ∙ ap (λ (x : Untaken). sets p.new.out p.result.at (rest x)) c.begin-start.ensures)
