-- `field::read::whole_or` meets its contract. Assumes nothing.
use mathlib.Core.Path.{◌≡◌, refl, sym, ap, ◌∙◌}
use Prim.Native.Nat.{ℕ}
use Rattle.std.specs.Prelude.{Option, None, Some}
use Rattle.std.specs.Option.{unwrap_or}
use Rattle.lists.specs.Maybe.{given}
use Rattle.field.specs.Found.{whole_of}
use Rattle.field.proofs.Short.{whole_told_lem}
use Rattle.field.proofs.read.whole_or.Goals as goal

or_other : (k : ℕ) (o : Option ℕ) → unwrap_or o k ≡ given k o
or_other k None = refl
or_other k (Some n) = refl

pub returns : goal.returns
returns c =
    let k = c.args.other in
    c.unwrap_or-2.ensures
    ∙ (ap (λ (o : Option ℕ). unwrap_or o k) (c.unwrap_or.ensures ∙ sym (whole_told_lem c.args.field.now c.requires c.whole.result c.whole.ensures)) ∙ or_other k (whole_of c.args.field.now))
