-- `field::read::whole` meets its contract: what stands behind the blanks decides. Assumes nothing.
use mathlib.Core.Path.{subst}
use mathlib.Core.List.{List}
use Prim.Native.Nat.{ℕ}
use Rattle.lists.proofs.Parts.{to_end}
use Rattle.field.specs.Steps.{ReadsDigits}
use Rattle.field.proofs.Split.{whole_answer}
use Rattle.field.proofs.read.whole.Goals as goal

pub returns : goal.returns
returns c =
    let s = c.args.s.now in
    whole_answer s c.blanks.result c.blanks.ensures c.some_digits.result
    (subst (λ (t : List ℕ). ReadsDigits t c.some_digits.result) (to_end s c.blanks.result) c.some_digits.ensures)
