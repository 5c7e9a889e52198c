-- No fault has the number 0, by which an acceptance is told. Assumes nothing.
use Prim.Native.Nat.{◌≤◌}
use native.Mathlib.Omega.{arith}
use Rattle.state.specs.declared.fault.LineFault.{LineFault}
use Rattle.state.specs.declared.fault.LineFault.TheVariants.{OtherByte, TooWide, NoVersion, NoLabel, OutOfPlace, UnfitHeader, NoEpoch, OtherFlag, NotLater, NoSatellite, NoList, SatelliteAgain, UnfitSlot, CutOff, NoMarkerName, NoRoom}
use Rattle.state.specs.Faults.{refusal_number}

pub some_number : (e : LineFault) → 1 ≤ refusal_number e
some_number OtherByte = omega arith
some_number TooWide = omega arith
some_number NoVersion = omega arith
some_number NoLabel = omega arith
some_number OutOfPlace = omega arith
some_number UnfitHeader = omega arith
some_number NoEpoch = omega arith
some_number OtherFlag = omega arith
some_number NotLater = omega arith
some_number NoSatellite = omega arith
some_number NoList = omega arith
some_number SatelliteAgain = omega arith
some_number UnfitSlot = omega arith
some_number CutOff = omega arith
some_number NoMarkerName = omega arith
some_number NoRoom = omega arith
