-- `row_store::put_columns` meets its contract: a fit slot has no unfit field, and what each field holds is stored. Assumes nothing.
use Prim.Native.Nat.{ℕ}
use mathlib.Core.Path.{◌≡◌, refl, ap, subst, ◌∙◌}
use mathlib.Core.Bool.{true, false≢true}
use mathlib.Core.List.{List}
use Prim.Native.Nat.{◌≤◌}
use Rattle.std.specs.Prelude.{Some, Result, Ok, Err}
use Rattle.field.specs.declared.Unfit.{Unfit}
use lib.IntN.{ℤ}
use native.Mathlib.Omega.{arith}
use mir.Syntax.{w64}
use mir.Val.{SFits}
use mir.ValLaws.{to_z-of_z}
use lib.ListN.{take, get_or, length-take}
use Rattle.field.specs.Found.{decimal_of, mark_fits}
use Rattle.lists.proofs.Bools.{both}
use Rattle.rinex.specs.Data.{held_as}
use Rattle.rinex.specs.Tables.{state_of}
use Rattle.rinex.specs.Tests.{value_fits}
use Rattle.value.proofs.States.{held_number, held_state}
use Rattle.row.specs.Lines.{HoldsMark}
use Rattle.row_store.specs.Steps.{slot_in}
use Rattle.row.specs.Steps.{slot_fits}
use Rattle.row.proofs.Places.{ToldMark, mark_held, mark_test}
use Rattle.row_store.proofs.Tables.{stored_as}
use borrow.Author.Rules.{rules}
use Rattle.row_store.proofs.put_columns.Goals as goal

fits : (s : List ℕ) → slot_fits s ≡ true → (value_fits (take 14 s) ≡ true) × (mark_fits 7 (get_or s 14 0) ≡ true) × (mark_fits 9 (get_or s 15 0) ≡ true)
unfolding slot_fits
fits s h =
    let p = both (value_fits (take 14 s)) _ h in
    let q = both (mark_fits 7 (get_or s 14 0)) _ p.1 in
    (p.0, q.0, q.1)

pub slice_bounds-value_number-end : goal.slice_bounds-value_number-end
slice_bounds-value_number-end c = simp length-take (omega arith)

pub value_number-number-requires : goal.value_number-number-requires
value_number-number-requires c = (simp length-take (omega arith), (fits c.args.s.now c.requires.1).0)

-- a fit mark is held
not_held : (top b : ℕ) → top ≤ 9 → mark_fits top b ≡ true → (r : Result ℕ Unfit) → HoldsMark top b r → ((m : ℕ) → r ≡ Ok m → ⊥) → ⊥
not_held top b k f (Ok m) h n = n m refl
not_held top b k f (Err u) h n = false≢true (mark_test top b k (Err u) h ∙ f)

pub returns-in_default : goal.returns-in_default
returns-in_default c =
    let s = c.args.s.now in
    absurd (not_held 7 (get_or s 14 0) (omega arith) (fits s c.requires.1).1 c.mark_of.result c.mark_of.ensures c.in_default.not-Ok)

pub returns-in_default-mark_of : goal.returns-in_default-mark_of
returns-in_default-mark_of c =
    let s = c.args.s.now in
    absurd (not_held 9 (get_or s 15 0) (omega arith) (fits s c.requires.1).2 c.mark_of-2.result c.mark_of-2.ensures c.in_default-mark_of.not-Ok)

pub returns : goal.returns
unfolding slot_in
returns c =
    let s = c.args.s.now in
    let loss_told : ToldMark 7 (get_or s 14 0) c.in-Ok.loss =
    mark_held 7 (get_or s 14 0) _ (omega arith) (subst (HoldsMark 7 (get_or s 14 0)) c.in-Ok.is c.mark_of.ensures) in
    let strength_told : ToldMark 9 (get_or s 15 0) c.in-Ok-mark_of.strength =
    mark_held 9 (get_or s 15 0) _ (omega arith) (subst (HoldsMark 9 (get_or s 15 0)) c.in-Ok-mark_of.is c.mark_of-2.ensures) in
    let o = decimal_of 3 (take 14 s) in
    let held : SFits w64 c.value_number-number.result = search rules in
    let n = to_z-of_z w64 c.value_number-number.result held ∙ c.value_number-number.ensures in
    stored_as c.args.at c.put_entry.ensures
    (n ∙ held_number o)
    (c.held_state-state.ensures ∙ (ap (λ (z : ℤ). state_of (held_as (Some z))) n ∙ held_state o)) loss_told.mark_is strength_told.mark_is
