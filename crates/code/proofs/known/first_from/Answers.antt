-- `code::known::first_from` meets its contract. Assumes nothing.
use Prim.Native.Nat.{ℕ, ◌≤◌}
use mathlib.Core.Path.{◌≡◌, sym, ap, subst}
use mathlib.Core.Bool.{true, false}
use mathlib.Core.List.{List}
use native.Mathlib.Omega.{arith}
use lib.Dec.{ltb}
use lib.ListN.{length}
use Rattle.std.proofs.Common.{rules}
use Rattle.std.specs.List.Sorted.{IsPartitionPoint, IsPartitionedBy}
use Rattle.std.proofs.lemmas.List.Sorted.{IsPartitionPoint-from_clause, IsPartitionedBy-ltb}
use Rattle.rinex.specs.CodeNumbers.{code_numbers}
use Rattle.code.proofs.Halving.{rising, found}
use Rattle.code.proofs.known.first_from.Goals as goal

pub returns : goal.returns
returns c =
    let n = c.args.number in
    let t = c.args.table.now in
    let r = c.partition_point.result in
    let parted : IsPartitionedBy (λ (x : ℕ). ltb x n) t = subst (IsPartitionedBy (λ (x : ℕ). ltb x n)) (sym c.requires) (IsPartitionedBy-ltb (λ (x : ℕ). x) code_numbers n rising) in
    let point = IsPartitionPoint-from_clause (λ (x : ℕ). ltb x n) _ _ c.partition_point.ensures.partitioned parted (λ a s q k. search rules) in
    let bound : r ≤ length code_numbers = omega (arith, ap (λ (x : List ℕ). length x) c.requires, c.partition_point.ensures.bound) in
    found n r bound (subst (λ (x : List ℕ). IsPartitionPoint (λ (y : ℕ). ltb y n ≡ true) (λ (y : ℕ). ltb y n ≡ false) x r) c.requires point)
