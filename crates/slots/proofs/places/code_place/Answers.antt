-- `slots::places::code_place` meets its contract. Assumes nothing.
use Prim.Native.Nat.{ℕ, ◌+◌, ◌-◌, ◌*◌, ◌≤◌}
use mathlib.Core.Path.{◌≡◌, sym, ap, ◌∙◌}
use Rattle.std.specs.Prelude.{Option}
use Rattle.std.specs.Option.{unwrap_or}
use native.Mathlib.Omega.{arith}
use lib.Dec.{eqb}
use lib.ListN.{length, get_or, take, drop, length-take, length-drop}
use Rattle.std.specs.Prelude.{position}
use Rattle.rinex.specs.Fit.{part}
use Rattle.slots.proofs.CodePlaces.{place_or}
use Rattle.slots.proofs.places.code_place.Goals as goal

pub returns : goal.returns
returns c =
    let a = c.args in
    let from = 64 * a.system in
    let n = get_or a.lengths a.system 0 in
    let room : from + n ≤ length a.codes.now = c.requires (omega (arith, c.if-lengths-system-eq0.false)) in
    let list = part a.codes.now from n in
    let whole : length list ≡ n = omega (arith, length-take n (drop from a.codes.now), length-drop from a.codes.now, room) in
    let end : from + n - from ≡ n = omega arith in
    c.unwrap_or.ensures
    ∙ (ap (λ (o : Option ℕ). unwrap_or o n) (c.place_in.ensures ∙ ap (λ (k : ℕ). position (eqb a.code) (take k (drop from a.codes.now))) end)
    ∙ (ap (unwrap_or (position (eqb a.code) list)) (sym whole) ∙ place_or a.code list))
