-- What is held of a number, and its state. Assumes nothing.
use Prim.Native.Nat.{zero, suc}
use mathlib.Core.Path.{◌≡◌, refl, sym, ap}
use Rattle.std.specs.Prelude.{Option, None, Some}
use native.Mathlib.Omega.{arith}
use borrow.Author.Tests.{ne_eqb}
use lib.IntN.{ℤ, pos, negsuc}
use Rattle.rinex.specs.Data.{held_as}
use Rattle.rinex.specs.Tables.{state_of, signed_of}
use Rattle.rinex.proofs.Zeros.{kept}

-- of a number: 0 is held as blank, any other as it is
pub nought_held : (z : ℤ) → z ≡ pos 0 → 0 ≡ state_of (held_as (Some z))
nought_held z e = sym (ap (λ (x : ℤ). state_of (held_as (Some x))) e)

pub given_held : (z : ℤ) → (z ≡ pos 0 → ⊥) → 1 ≡ state_of (held_as (Some z))
given_held z h = sym (ap state_of (kept z h))

-- of what is printed: the number stays, 0 where there is none, and the state is that of the number
pub held_number : (o : Option ℤ) → signed_of o ≡ signed_of (held_as o)
held_number None = refl
held_number (Some (pos zero)) = refl
held_number (Some (pos (suc n))) = rw (ne_eqb (suc n) 0 (λ e. omega arith))
held_number (Some (negsuc n)) = refl

pub held_state : (o : Option ℤ) → state_of (held_as (Some (signed_of o))) ≡ state_of (held_as o)
held_state None = refl
held_state (Some z) = refl
