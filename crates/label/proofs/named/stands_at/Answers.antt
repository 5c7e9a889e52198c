-- `label::named::stands_at` meets its contract: with another first letter it is another label. Assumes nothing.
use Prim.Native.Nat.{ℕ, ◌+◌, ◌-◌}
use mathlib.Core.Path.{◌≡◌, ap, ◌∙◌}
use native.Mathlib.Omega.{arith}
use lib.ListN.{length, take, drop}
use Rattle.lists.specs.Lists.{same}
use Rattle.label.proofs.Groups.{other_letter}
use Rattle.label.proofs.named.stands_at.Goals as goal

pub returns-then-name-group : goal.returns-then-name-group
returns-then-name-group c = other_letter c.args.name.now c.args.group.now c.args.at c.requires.0 c.if-name-group.true

pub returns : goal.returns
returns c =
    let a = c.args in
    let e : a.at + length a.name.now - a.at ≡ length a.name.now = omega arith in
    c.same.ensures ∙ ap (λ (n : ℕ). same a.name.now (take n (drop a.at a.group.now))) e
