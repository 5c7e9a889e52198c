-- `row::mark_of` meets its contract. Assumes nothing.
use Prim.Native.Nat.{ℕ}
use mathlib.Core.Path.{◌≡◌, refl, ◌∙◌}
use Rattle.std.specs.Prelude.{Option, None, Some, Err}
use Rattle.std.specs.Option.{unwrap_or}
use Rattle.std.proofs.lemmas.Result.{err_from_is_err_and}
use Rattle.field.specs.Field.{Mark}
use Rattle.field.specs.Reading.{ReadsMark}
use Rattle.field.specs.declared.Unfit.{Unfit}
use Rattle.rinex.specs.Tables.{mark_of}
use Rattle.row.proofs.mark_of.Goals as goal

neither : {top b : ℕ} {u : Unfit} → ReadsMark top b (Err u) → (v : Option ℕ) → Mark top b v → ⊥
neither h None q = h.0 q
neither h (Some m) q = h.1 m q

held : (o : Option ℕ) → unwrap_or o 255 ≡ mark_of o
held None = refl
held (Some m) = refl

pub returns-in_err-mark : goal.returns-in_err-mark
returns-in_err-mark c =
    let p = err_from_is_err_and c.from_residual.result c.from_residual.ensures.1 in
    rw p.1 (neither c.in_err-mark.ensures)

pub returns : goal.returns
returns c = (c.in_ok-mark.field-0, c.in_ok-mark.ensures, c.unwrap_or.ensures ∙ held c.in_ok-mark.field-0)
