-- `columns::put_blanks` meets its contract. Assumes nothing.
use Prim.Native.Nat.{◌+◌, ◌-◌}
use mathlib.Core.Path.{◌≡◌, ap, ◌∙◌}
use native.Mathlib.Omega.{arith}
use borrow.Author.Rules.{rules}
use lib.ListN.{length, take, drop, replicate, length-replicate, length-take, length-drop}
use lib.Seq.{sets}
use Rattle.lists.specs.Blank.{blanks}
use Rattle.lists.proofs.Stores.{part_back}
use Rattle.columns.proofs.put_blanks.Goals as goal

pub returns : goal.returns
returns c =
    let a = c.args in
    let n = a.at + a.n - a.at in
    let d : n ≡ a.n = omega arith in
    let m : length (take n (drop a.at a.out.now)) ≡ n = omega (arith, length-take n (drop a.at a.out.now), length-drop a.at a.out.now) in
    let f : c.fill.new.self ≡ replicate (length (take n (drop a.at a.out.now))) 32 = search rules in
    let e : c.fill.new.self ≡ blanks a.n = f ∙ ap blanks (m ∙ d) in
    let k : length c.fill.new.self ≡ n = ap length f ∙ (length-replicate _ 32 ∙ m) in
    part_back a.out.now c.fill.new.self a.at n (omega arith) k ∙ ap (sets a.out.now a.at) e
