-- `field::read::second` meets its contract: what stands behind the blanks decides. Assumes nothing.
use Prim.Native.Nat.{ℕ}
use mathlib.Core.Path.{◌≡◌, subst}
use mathlib.Core.List.{List}
use native.Mathlib.Omega.{arith}
use lib.ListN.{drop}
use Rattle.std.specs.Prelude.{Ok, Err}
use Rattle.std.proofs.lemmas.Result.{err_from_is_err_and}
use Rattle.std.proofs.lemmas.Grind.{common_steps}
use Rattle.std.proofs.iter.runs.Sources.{ranges}
use Rattle.lists.proofs.Parts.{to_end}
use Rattle.field.specs.Steps.{ReadsPlain}
use Rattle.field.proofs.Split.{all_blank, not_blank, second_answer, second_behind}
use Rattle.field.proofs.Found.{plain_one}
use Rattle.field.proofs.read.second.Goals as goal

pub returns-then-b-s : goal.returns-then-b-s
returns-then-b-s c = all_blank _ _ c.blanks-b.ensures c.if-b-s.true

pub returns-then-not-contains : goal.returns-then-not-contains
returns-then-not-contains c =
    let s = c.args.s.now in
    let b = c.blanks-b.result in
    let t = c.contains.ensures.cases in
    let f = c.if-not-contains.true in (
      not_blank s b c.blanks-b.ensures (omega (arith, c.blanks-b.ensures.within)),
      λ n q.
          let h = second_behind s b c.blanks-b.ensures n q in
          let i = h.long in
          let j = h.short in
          grind (arith, common_steps, ranges),
    )

pub returns-in_err-n : goal.returns-in_err-n
returns-in_err-n c =
    let s = c.args.s.now in
    let b = c.blanks-b.result in
    let p = err_from_is_err_and c.from_residual.result c.from_residual.ensures.1 in
    let read : ReadsPlain 7 (drop b s) (Err c.in_err-n.field-0.0) =
    subst (λ (t : List ℕ). ReadsPlain 7 t (Err c.in_err-n.field-0.0)) (to_end s b) c.in_err-n.ensures in
    rw p.1 (
      not_blank s b c.blanks-b.ensures (omega (arith, c.blanks-b.ensures.within)),
      λ n q.
          let h = second_behind s b c.blanks-b.ensures n q in
          read n h.plain (omega (arith, h.below)),
    )

pub returns-then-n-ge600000000 : goal.returns-then-n-ge600000000
returns-then-n-ge600000000 c =
    let s = c.args.s.now in
    let b = c.blanks-b.result in
    let k = subst (λ (t : List ℕ). ReadsPlain 7 t (Ok c.in_ok-n.n)) (to_end s b) c.in_ok-n.ensures in (
      not_blank s b c.blanks-b.ensures (omega (arith, c.blanks-b.ensures.within)),
      λ n q.
          let h = second_behind s b c.blanks-b.ensures n q in
          let f : n ≡ c.in_ok-n.n = plain_one 7 (drop b s) _ _ h.plain k.0 in
          omega (arith, h.below),
    )

pub returns : goal.returns
returns c =
    let s = c.args.s.now in
    let b = c.blanks-b.result in
    let k = subst (λ (t : List ℕ). ReadsPlain 7 t (Ok c.in_ok-n.n)) (to_end s b) c.in_ok-n.ensures in
    let t = c.if-not-contains.ensures.cases in
    second_answer s b c.blanks-b.ensures c.in_ok-n.n k.0 (grind (arith, common_steps, ranges)) (grind (arith, common_steps, ranges)) (omega arith)
