-- `put_line::put_past` meets its contract: what is stored, with the bytes that are left, ends alike. Assumes nothing.
use Prim.Native.Nat.{ℕ, ◌+◌}
use mathlib.Core.Path.{◌≡◌, ap, ◌∙◌}
use mathlib.Core.List.{List, [], ◌∷◌, ◌++◌}
use native.Mathlib.Nat.{add-zero}
use native.Mathlib.Omega.{arith}
use lib.ListN.{length, set}
use Rattle.lists.proofs.Parts.{next}
use Rattle.lists.proofs.Stores.{store_more}
use Rattle.put_line.proofs.Stored.{line_done}
use Rattle.put_line.proofs.put_past.Goals as goal

pub loop-i-init : goal.loop-i-init
loop-i-init c = rw add-zero

pub loop-i-preserved : goal.loop-i-preserved
loop-i-preserved c =
    let a = c.args in
    store_more c.loop-i.out _ _ _ _ (a.at + c.loop-i.i) (a.at + (c.loop-i.i + 1)) c.put.ensures (omega arith) (ap (λ (v : List ℕ). v ++ (10 ∷ [])) (next a.line.now c.loop-i.i (omega arith))) ∙ c.loop-i.invariant

pub returns : goal.returns
returns c =
    let a = c.args in
    let b : length a.line.now ≡ c.loop-i.i = omega arith in
    line_done a.line.now c.loop-i.out _ c.loop-i.i (a.at + c.loop-i.i) 10 (omega arith) (c.put-2.ensures ∙ ap (λ k. set c.loop-i.out (a.at + k) 10) b)
    ∙ c.loop-i.invariant
