-- `label::named::place_of` meets its contract: the labels of each length are those of its arm, by computation. Assumes nothing.
use Prim.Native.Nat.{ℕ}
use mathlib.Core.Path.{◌≡◌, refl}
use mathlib.Core.Bool.{true}
use mathlib.Core.List.{List, [], ◌∷◌}
use native.Mathlib.Omega.{arith}
use lib.ListN.{length}
use Rattle.line.specs.Text.{cut}
use Rattle.label.specs.Labels.{labels, known, padded}
use Rattle.label.specs.Groups.{sized, group_fits}
use Rattle.label.proofs.Arms.{others, other}
use Rattle.label.proofs.Groups.{of_length, begun, none_left}
use Rattle.label.proofs.named.place_of.Goals as goal

arms : List ℕ
arms = 16 ∷ 15 ∷ 14 ∷ 13 ∷ 12 ∷ 11 ∷ 8 ∷ 7 ∷ []

no_others : others arms (λ n. group_fits n [] []) 17 ≡ true
unfolding arms group_fits sized labels known padded cut
no_others = refl

pub long_place-requires : goal.long_place-requires
long_place-requires c = (c.requires, c.if-name-ge17.true)

pub found-requires : goal.found-requires
unfolding cut group_fits known labels padded sized
found-requires c = of_length c.args.name.now _ _ 7 c.in-7.is c.requires refl

pub found-requires-in-8 : goal.found-requires-in-8
unfolding cut group_fits known labels padded sized
found-requires-in-8 c = of_length c.args.name.now _ _ 8 c.in-8.is c.requires refl

pub found-requires-in-11 : goal.found-requires-in-11
unfolding cut group_fits known labels padded sized
found-requires-in-11 c = of_length c.args.name.now _ _ 11 c.in-11.is c.requires refl

pub found-requires-in-12 : goal.found-requires-in-12
unfolding cut group_fits known labels padded sized
found-requires-in-12 c = of_length c.args.name.now _ _ 12 c.in-12.is c.requires refl

pub found-requires-in-13 : goal.found-requires-in-13
unfolding cut group_fits known labels padded sized
found-requires-in-13 c = of_length c.args.name.now _ _ 13 c.in-13.is c.requires refl

pub found-requires-in-14 : goal.found-requires-in-14
unfolding cut group_fits known labels padded sized
found-requires-in-14 c = of_length c.args.name.now _ _ 14 c.in-14.is c.requires refl

pub found-requires-in-15 : goal.found-requires-in-15
unfolding cut group_fits known labels padded sized
found-requires-in-15 c = of_length c.args.name.now _ _ 15 c.in-15.is c.requires refl

pub found-requires-in-16 : goal.found-requires-in-16
unfolding cut group_fits known labels padded sized
found-requires-in-16 c = of_length c.args.name.now _ _ 16 c.in-16.is c.requires refl

pub returns-in_default : goal.returns-in_default
unfolding arms
returns-in_default c =
    let name = c.args.name.now in
    let f : group_fits (length name) [] [] ≡ true = other arms (λ n. group_fits n [] []) 17 no_others (length name) c.if-name-ge17.false ((((((((tt, λ e. omega arith), λ e. omega arith), λ e. omega arith), λ e. omega arith), λ e. omega arith), λ e. omega arith), λ e. omega arith), λ e. omega arith) in
    none_left name [] [] 0 0 (begun name [] [] (record { label = c.requires; fits = f })) (omega arith)
