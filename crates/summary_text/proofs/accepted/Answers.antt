-- `summary_text::accepted` meets its contract. Assumes nothing.
use Prim.Native.Nat.{ℕ}
use mathlib.Core.Path.{refl, ap}
use mathlib.Core.List.{List, [], ◌∷◌, ◌++◌}
use native.Mathlib.Omega.{arith}
use Rattle.lists.specs.Lists.{bytes}
use Rattle.rinex.specs.Summary.{entry, tally_text}
use Rattle.summary_text.specs.Said.{numbered}
use Rattle.summary_text.proofs.Putting.{and_then, says, entered, last_entered}
use Rattle.summary_text.proofs.accepted.Goals as goal

pub returns : goal.returns
unfolding entry tally_text
returns c =
    let a = c.args in
    let p = c.put_bytes in
    let q = c.put_number-at_events in
    let r = c.put_number-at_rows in
    let s = c.put_number-at_slots in
    let t = c.put_number-at_blank in
    let u = c.put_number-size in
    let v = numbered (bytes "epochs=") a.epochs in
    let w = numbered (bytes "events=") a.events in
    let x = numbered (bytes "rows=") a.rows in
    let y = numbered (bytes "slots=") a.slots in
    let z = numbered (bytes "blank=") a.blank in
    says (tally_text a.epochs a.events a.rows a.slots a.blank) _ _ _
    (and_then (bytes "result=accepted" ++ (10 ∷ [])) (v ++ (w ++ (x ++ (y ++ z)))) (record { lies = p.ensures; place = refl })
    (and_then v (w ++ (x ++ (y ++ z))) (record { lies = q.ensures.out_after; place = q.ensures.value })
    (and_then w (x ++ (y ++ z)) (record { lies = r.ensures.out_after; place = r.ensures.value })
    (and_then x (y ++ z) (record { lies = s.ensures.out_after; place = s.ensures.value })
    (and_then y z (record { lies = t.ensures.out_after; place = t.ensures.value }) (record { lies = u.ensures.out_after; place = u.ensures.value }))))))
    (ap (λ (x : List ℕ). bytes "result=accepted" ++ (10 ∷ x)) (entered (bytes "epochs=") a.epochs (entered (bytes "events=") a.events (entered (bytes "rows=") a.rows (entered (bytes "slots=") a.slots (last_entered (bytes "blank=") a.blank))))))
    (omega (arith, q.ensures.upper_bound, r.ensures.upper_bound, s.ensures.upper_bound, t.ensures.upper_bound, u.ensures.upper_bound))
