-- THE NORMAL TEXT OF ONE EPOCH is as long as `specs/Size` says. Assumes nothing.
use Prim.Native.Nat.{ℕ, ◌+◌}
use mathlib.Core.Path.{◌≡◌, sym, ap, ◌∙◌, subst}
use mathlib.Core.Bool.{true, false, cond}
use mathlib.Core.List.{List, map}
use native.Mathlib.Omega.{arith}
use lib.Dec.{eqb, leb}
use lib.ListN.{length}
use borrow.Author.Tests.{le-leb, lt-leb}
use Rattle.lists.specs.Lists.{All}
use Rattle.line.specs.Text.{text, Raw, split}
use Rattle.rinex.specs.File.{Row, Epoch, observed, event}
use Rattle.rinex.specs.Tables.{state_of, clock_of, rows_of, lines_of, FlatEpoch, flat_epoch, Buffers}
use Rattle.rinex.specs.Held.{rows_at, epoch_at}
use Rattle.rinex.specs.Normal.{row_line, epoch_lines, normal_epoch}
use Rattle.rinex.specs.Promises.{EpochSpelled}
use Rattle.rinex.proofs.Forms.{RowForm, EpochForm, epoch_form}
use Rattle.rinex.proofs.HeldFile.{held_epoch}
use Rattle.measure.specs.Size.{rows_size, lone_size}
use Rattle.measure.proofs.LineSizes.{size, length_text}
use Rattle.measure.proofs.TextSize.{rows_size_lem, epoch_size}

module _ (lengths : List ℕ) (lists : List (List (List ℕ))) (p : FlatEpoch) (b : Buffers) (ws : List Raw) where
  rows_here : leb p.flag 1 ≡ true → rows_of (epoch_at lengths b p 0 0 ws) ≡ rows_at lengths b p.count 0 0
  unfolding epoch_at
  rows_here low = rw low

  parts : (e : Epoch) → p ≡ flat_epoch e → EpochForm lists e → epoch_at lengths b p 0 0 ws ≡ e
      → cond (eqb (state_of (clock_of e)) 0) 36 57 + (size (map row_line (rows_of e)) + size (lines_of e)) ≡ lone_size lengths p b (length (text (lines_of e)))
  unfolding flat_epoch
  parts (observed o) q f h =
      let c : p.clock_state ≡ state_of o.clock = ap (λ (y : FlatEpoch). y.clock_state) q in
      let g : p.flag ≡ o.flag = ap (λ (y : FlatEpoch). y.flag) q in
      let low : leb p.flag 1 ≡ true = le-leb p.flag 1 (omega (arith, g, f.flag)) in
      let r : rows_at lengths b p.count 0 0 ≡ o.rows = sym (rows_here low) ∙ ap rows_of h in
      let s : size (map row_line o.rows) ≡ rows_size lengths b.satellites b.states b.losses b.strengths p.count 0 0 =
      ap (λ (x : List Row). size (map row_line x)) (sym r) ∙ rows_size_lem lengths lists b p.count 0 0 (subst (All (RowForm lists)) (sym r) f.rows) in
      rw (c, low) (omega (arith, s))
  parts (event v) q f h =
      let c : p.clock_state ≡ 0 = ap (λ (y : FlatEpoch). y.clock_state) q in
      let g : p.flag ≡ v.flag = ap (λ (y : FlatEpoch). y.flag) q in
      let high : leb p.flag 1 ≡ false = lt-leb p.flag 1 (omega (arith, g, f.flag_from)) in
      rw (c, high) (omega (arith, length_text v.lines))

pub lone_size_lem : (lengths : List ℕ) (p : FlatEpoch) (b : Buffers) (e : Epoch) → EpochSpelled lengths p b e → length (normal_epoch e) ≡ lone_size lengths p b (length (text (lines_of e)))
unfolding normal_epoch
lone_size_lem lengths p b e s =
    let form : EpochForm s.lists e = epoch_form s.lists s.lines e s.spells s.plain in
    length_text (epoch_lines e) ∙ (epoch_size s.lists e form ∙ parts lengths s.lists p b (split b.carried) e s.epoch form (held_epoch lengths p b e s))
