-- `header::fields::six` meets its contract. Assumes nothing.
use Prim.Native.Nat.{ℕ, ◌+◌}
use mathlib.Core.Path.{sym, subst, ◌∙◌}
use mathlib.Core.List.{List}
use native.Mathlib.Omega.{arith}
use Rattle.field.specs.Reading.{ReadsWhole}
use Rattle.field.proofs.Short.{whole_told_lem}
use Rattle.line.specs.Text.{cols}
use Rattle.line.proofs.Columns.{length_cols}
use Rattle.header.proofs.fields.six.Goals as goal

pub returns : goal.returns
returns c =
    let a = c.args in
    let s = cols a.a (a.a + 5) a.line.now in
    c.unwrap_or.ensures
    ∙ sym (whole_told_lem s (omega (arith, length_cols a.a (a.a + 5) a.line.now)) c.whole.result
    (subst (λ (t : List ℕ). ReadsWhole t c.whole.result) (c.columns.ensures (a.a + 5) (omega arith)) c.whole.ensures))
