-- `put_line::put_line` meets its contract. Assumes nothing.
use Prim.Native.Nat.{◌+◌, ◌-◌}
use mathlib.Core.Path.{◌≡◌, sym, ap, ◌∙◌}
use mathlib.Core.List.{[], ◌∷◌, ◌++◌}
use native.Mathlib.Omega.{arith}
use lib.ListN.{length, take, drop, length-drop}
use lib.Seq.{sets, length-take-le}
use Rattle.line.specs.Text.{cut}
use Rattle.line.proofs.Columns.{cut_size}
use Rattle.put_line.proofs.Stored.{line_back}
use Rattle.put_line.proofs.put_line.Goals as goal

pub overflow_add-end-2 : goal.overflow_add-end-2
overflow_add-end-2 c =
    let size : length (cut c.args.line.now) ≡ c.cut_length-n.result =
    cut_size c.args.line.now c.cut_length-n.result c.cut_length-n.ensures.0 c.cut_length-n.ensures.1 in
    omega (arith, size)

pub slice_bounds-copy_line-end : goal.slice_bounds-copy_line-end
slice_bounds-copy_line-end c =
    let taken : length (take c.cut_length-n.result c.args.line.now) ≡ c.cut_length-n.result =
    length-take-le c.cut_length-n.result c.args.line.now c.cut_length-n.ensures.0 in
    sym taken

pub copy_line-requires : goal.copy_line-requires
copy_line-requires c =
    let taken : length (take c.cut_length-n.result c.args.line.now) ≡ c.cut_length-n.result =
    length-take-le c.cut_length-n.result c.args.line.now c.cut_length-n.ensures.0 in
    let a = c.args in
    let n = c.cut_length-n.result + 1 in
    let e : a.at + n - a.at ≡ n = omega arith in
    rw e (length-take-le n (drop a.at a.out.now) (omega (arith, length-drop a.at a.out.now)) ∙ omega (arith, taken))

pub returns-then-end-out : goal.returns-then-end-out
returns-then-end-out c =
    let size : length (cut c.args.line.now) ≡ c.cut_length-n.result =
    cut_size c.args.line.now c.cut_length-n.result c.cut_length-n.ensures.0 c.cut_length-n.ensures.1 in
    let taken : length (take c.cut_length-n.result c.args.line.now) ≡ c.cut_length-n.result =
    length-take-le c.cut_length-n.result c.args.line.now c.cut_length-n.ensures.0 in
    let a = c.args in
    let n = c.cut_length-n in
    record {
      out_after = line_back a.out.now _ (take n.result a.line.now) a.at n.result (omega arith) taken c.copy_line.ensures
          ∙ ap (λ k. sets a.out.now a.at (k ++ (10 ∷ []))) n.ensures.1;
      value = ap (λ k. a.at + (k + 1)) (sym size);
    }

pub slice_bounds-put_past-end : goal.slice_bounds-put_past-end
slice_bounds-put_past-end c =
    let taken : length (take c.cut_length-n.result c.args.line.now) ≡ c.cut_length-n.result =
    length-take-le c.cut_length-n.result c.args.line.now c.cut_length-n.ensures.0 in
    sym taken

pub put_past-requires : goal.put_past-requires
put_past-requires c =
    let size : length (cut c.args.line.now) ≡ c.cut_length-n.result =
    cut_size c.args.line.now c.cut_length-n.result c.cut_length-n.ensures.0 c.cut_length-n.ensures.1 in
    let taken : length (take c.cut_length-n.result c.args.line.now) ≡ c.cut_length-n.result =
    length-take-le c.cut_length-n.result c.args.line.now c.cut_length-n.ensures.0 in
    omega (arith, taken, size)

pub returns : goal.returns
returns c =
    let size : length (cut c.args.line.now) ≡ c.cut_length-n.result =
    cut_size c.args.line.now c.cut_length-n.result c.cut_length-n.ensures.0 c.cut_length-n.ensures.1 in
    let a = c.args in
    let n = c.cut_length-n in
    record { out_after = c.put_past.ensures ∙ ap (λ k. sets a.out.now a.at (k ++ (10 ∷ []))) n.ensures.1; value = ap (λ k. a.at + (k + 1)) (sym size) }
