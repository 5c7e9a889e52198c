-- `code_list::list_count` meets its contract. Assumes nothing.
use Prim.Native.Nat.{ℕ, ◌<◌}
use mathlib.Core.Path.{◌≡◌, ◌∙◌, ap, refl}
use mathlib.Core.List.{List}
use native.Mathlib.Omega.{arith}
use Rattle.lists.specs.Maybe.{given}
use Rattle.field.specs.Found.{whole_of}
use Rattle.rinex.specs.Tests.{list_count}
use Rattle.code_list.proofs.Listed.{count_below}
use Rattle.code_list.proofs.list_count.Goals as goal

pub returns : goal.returns
unfolding list_count
returns c =
    let count : c.whole_or.result ≡ list_count c.args.line.now =
    c.whole_or.ensures ∙ ap (λ (s : List ℕ). given 0 (whole_of s)) (c.columns.ensures 6 refl) in
    let h : list_count c.args.line.now < 1000 = count_below c.args.line.now in
    (count, omega (arith, count))
