-- `epoch::fields::whole_at` meets its contract: the first of four columns. Assumes nothing.
use Prim.Native.Nat.{ℕ, ◌+◌, ◌-◌}
use mathlib.Core.Path.{sym, ap, subst, ◌∙◌}
use mathlib.Core.List.{List}
use native.Mathlib.Omega.{arith}
use lib.ListN.{take}
use Rattle.field.specs.Reading.{ReadsWhole}
use Rattle.field.proofs.Short.{whole_told_lem}
use Rattle.line.specs.Text.{cols}
use Rattle.line.proofs.Columns.{cols_front, length_cols}
use Rattle.epoch.proofs.fields.whole_at.Goals as goal

pub returns : goal.returns
returns c =
    let a = c.args in
    let n = a.b - a.a + 1 in
    let e = ap (take n) (c.columns.ensures (a.a + 3) (omega arith)) ∙ cols_front a.a a.b (a.a + 3) a.line.now (omega arith) (omega arith) in
    c.unwrap_or.ensures
    ∙ sym (whole_told_lem (cols a.a a.b a.line.now) (omega (arith, length_cols a.a a.b a.line.now)) c.whole.result
    (subst (λ (s : List ℕ). ReadsWhole s c.whole.result) e c.whole.ensures))
