-- `write_field::decimal` meets its contract: each refusal says which part of `HasRoom` fails. Assumes nothing.
use Prim.Native.Nat.{ℕ, ◌+◌, ◌-◌, ◌^◌, ◌≤◌, ◌<◌}
use mathlib.Core.Path.{◌≡◌, refl, sym, ap, ◌∙◌}
use mathlib.Core.Bool.{Bool}
use mathlib.Core.List.{◌++◌}
use native.Mathlib.Omega.{arith}
use lib.Dec.{ltb}
use lib.IntN.{nat_abs}
use lib.ListN.{length}
use borrow.Author.Tests.{ltb-true, ltb-false}
use mir.Syntax.{w64}
use mir.ValLaws.{to_z-of_z}
use Rattle.field.specs.Field.{sign}
use Rattle.write_field.specs.Normal.{right, plain}
use Rattle.write_field.specs.Steps.{HasRoom, is_minus}
use Rattle.write_field.proofs.Written.{room_decimal, decimal_unfit, decimal_is}
use Rattle.write_field.proofs.Writes.{refused, written}
use Rattle.write_field.proofs.decimal.Goals as goal

pub returns-then-out-taken : goal.returns-then-out-taken
returns-then-out-taken c =
    let sign_is : c.is_minus-minus.result ≡ is_minus c.args.z = c.is_minus-minus.ensures ∙ ap is_minus (to_z-of_z w64 c.args.z c.ranges.z) in
    let taken : c.others-taken.result ≡ length (sign (is_minus c.args.z)) + 1 = c.others-taken.ensures ∙ ap (λ (m : Bool). length (sign m) + 1) sign_is in
    refused _ _ _ _ (decimal_unfit _ _ _ (λ r. omega (arith, taken, r.decimals))) refl

pub returns-then-digits-d : goal.returns-then-digits-d
returns-then-digits-d c =
    let sign_is : c.is_minus-minus.result ≡ is_minus c.args.z = c.is_minus-minus.ensures ∙ ap is_minus (to_z-of_z w64 c.args.z c.ranges.z) in
    let taken : c.others-taken.result ≡ length (sign (is_minus c.args.z)) + 1 = c.others-taken.ensures ∙ ap (λ (m : Bool). length (sign m) + 1) sign_is in
    refused _ _ _ _ (decimal_unfit _ _ _ (λ r. omega (arith, taken, r.decimals))) refl

pub returns-then-not-holds : goal.returns-then-not-holds
returns-then-not-holds c =
    let sign_is : c.is_minus-minus.result ≡ is_minus c.args.z = c.is_minus-minus.ensures ∙ ap is_minus (to_z-of_z w64 c.args.z c.ranges.z) in
    let size_is : c.size-n.result ≡ nat_abs c.args.z = c.size-n.ensures ∙ ap nat_abs (to_z-of_z w64 c.args.z c.ranges.z) in
    let taken : c.others-taken.result ≡ length (sign (is_minus c.args.z)) + 1 = c.others-taken.ensures ∙ ap (λ (m : Bool). length (sign m) + 1) sign_is in
    let w : ℕ = length c.args.out.now in
    let held : c.holds.result ≡ ltb (nat_abs c.args.z) (10 ^ (w - c.others-taken.result)) =
    c.holds.ensures ∙ ap (λ (n : ℕ). ltb n (10 ^ (w - c.others-taken.result))) size_is in
    refused _ _ _ _
    (decimal_unfit _ _ _
    (λ r.
    let f : w - c.others-taken.result ≡ w - (length (sign (is_minus c.args.z)) + 1) = omega arith in
    let g : 10 ^ (w - c.others-taken.result) ≤ nat_abs c.args.z = ltb-false _ _ (sym held ∙ c.if-not-holds.true) in
    let k : nat_abs c.args.z < 10 ^ (w - c.others-taken.result) = rw f r.digits in
    omega (arith, g, k)))
    refl

pub returns : goal.returns
returns c =
    let sign_is : c.is_minus-minus.result ≡ is_minus c.args.z = c.is_minus-minus.ensures ∙ ap is_minus (to_z-of_z w64 c.args.z c.ranges.z) in
    let size_is : c.size-n.result ≡ nat_abs c.args.z = c.size-n.ensures ∙ ap nat_abs (to_z-of_z w64 c.args.z c.ranges.z) in
    let taken : c.others-taken.result ≡ length (sign (is_minus c.args.z)) + 1 = c.others-taken.ensures ∙ ap (λ (m : Bool). length (sign m) + 1) sign_is in
    let w : ℕ = length c.args.out.now in
    let held : c.holds.result ≡ ltb (nat_abs c.args.z) (10 ^ (w - c.others-taken.result)) =
    c.holds.ensures ∙ ap (λ (n : ℕ). ltb n (10 ^ (w - c.others-taken.result))) size_is in
    let f : w - (length (sign (is_minus c.args.z)) + 1) ≡ w - c.others-taken.result = omega arith in
    let room : HasRoom (is_minus c.args.z) (nat_abs c.args.z) c.args.d w =
    record { decimals = omega arith; digits = rw f (ltb-true _ _ (sym held ∙ c.if-not-holds.false)) } in
    written _ _ _ _ (room_decimal _ _ _ room)
    (c.put_decimal.ensures
    ∙ (ap (λ (m : Bool). right w (sign m ++ plain w c.args.d c.size-n.result)) sign_is
    ∙ (ap (λ (n : ℕ). right w (sign (is_minus c.args.z) ++ plain w c.args.d n)) size_is ∙ sym (decimal_is _ _ c.args.z))))
