-- `put_line::copy_line` meets its contract: what is stored, with the bytes that are left, ends alike. Assumes nothing.
use Prim.Native.Nat.{ℕ, ◌+◌}
use mathlib.Core.Path.{refl, ap, ◌∙◌}
use mathlib.Core.List.{List, [], ◌∷◌, ◌++◌}
use lib.ListN.{length}
use Rattle.lists.proofs.Parts.{next}
use Rattle.lists.proofs.Stores.{store_more}
use borrow.Author.Rules.{rules}
use Rattle.put_line.proofs.Stored.{copy_done}
use Rattle.put_line.proofs.copy_line.Goals as goal

pub loop-i-preserved : goal.loop-i-preserved
loop-i-preserved c =
    let a = c.args in (
      search rules,
      store_more c.loop-i.out _ _ _ _ c.loop-i.i (c.loop-i.i + 1) refl refl (ap (λ (v : List ℕ). v ++ (10 ∷ [])) (next a.line.now c.loop-i.i (search rules))) ∙ c.loop-i.invariant.1,
    )

pub returns : goal.returns
returns c =
    let a = c.args in
    copy_done a.line.now a.out.now c.loop-i.out c.loop-i.i (length a.line.now) (search rules) (search rules) (search rules) c.loop-i.invariant.1
