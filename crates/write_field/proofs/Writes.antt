-- The two answers of writing a field. Assumes nothing.
use Prim.Native.Nat.{ℕ}
use mathlib.Core.Path.{◌≡◌, sym}
use mathlib.Core.Bool.{Bool, true, false}
use mathlib.Core.List.{List}
use Rattle.write_field.specs.Writing.{WritesField}

pub refused : (f : Bool) (spelling old new : List ℕ) → f ≡ false → new ≡ old → WritesField f spelling old new false
refused f spelling old new e h = record { reply = sym e; columns = rw e h }

pub written : (f : Bool) (spelling old new : List ℕ) → f ≡ true → new ≡ spelling → WritesField f spelling old new true
written f spelling old new e h = record { reply = sym e; columns = rw e h }
