-- `summary_text::refused` meets its contract. Assumes nothing.
use Prim.Native.Nat.{ℕ}
use mathlib.Core.Path.{refl, ap}
use mathlib.Core.List.{List, [], ◌∷◌, ◌++◌}
use native.Mathlib.Omega.{arith}
use Rattle.lists.specs.Lists.{bytes}
use Rattle.rinex.specs.Summary.{entry, refused_text}
use Rattle.summary_text.specs.Said.{numbered}
use Rattle.summary_text.proofs.Putting.{and_then, says, entered, last_entered}
use Rattle.summary_text.proofs.refused.Goals as goal

pub returns : goal.returns
unfolding entry refused_text
returns c =
    let a = c.args in
    let p = c.put_bytes in
    let q = c.put_number-at in
    let r = c.put_number-size in
    let x = numbered (bytes "number=") a.number in
    let y = numbered (bytes "line=") a.line in
    says (refused_text a.number a.line) _ _ _
    (and_then (bytes "result=refused" ++ (10 ∷ [])) (x ++ y) (record { lies = p.ensures; place = refl })
    (and_then x y (record { lies = q.ensures.out_after; place = q.ensures.value }) (record { lies = r.ensures.out_after; place = r.ensures.value })))
    (ap (λ (x : List ℕ). bytes "result=refused" ++ (10 ∷ x)) (entered (bytes "number=") a.number (last_entered (bytes "line=") a.line)))
    (omega (arith, q.ensures.upper_bound, r.ensures.upper_bound))
