-- The faults of a line, by the numbers of the refusals.
use Rattle.std.specs.Prelude.{ℕ, Result, Ok, Err}
use Rattle.state.specs.declared.fault.LineFault.{LineFault}
use Rattle.state.specs.declared.fault.LineFault.TheVariants.{OtherByte, TooWide, NoVersion, NoLabel, OutOfPlace, UnfitHeader, NoEpoch, OtherFlag, NotLater, NoSatellite, NoList, SatelliteAgain, UnfitSlot, CutOff, NoMarkerName, NoRoom}

abbrev pub refusal_number : LineFault → ℕ
refusal_number OtherByte = 1
refusal_number TooWide = 2
refusal_number NoVersion = 3
refusal_number NoLabel = 4
refusal_number OutOfPlace = 5
refusal_number UnfitHeader = 6
refusal_number NoEpoch = 7
refusal_number OtherFlag = 8
refusal_number NotLater = 9
refusal_number NoSatellite = 10
refusal_number NoList = 11
refusal_number SatelliteAgain = 12
refusal_number UnfitSlot = 13
refusal_number CutOff = 14
refusal_number NoMarkerName = 15
refusal_number NoRoom = 16

-- 0 where there is none
abbrev pub fault_number : {T : Type 0} → Result T LineFault → ℕ
fault_number (Ok x) = 0
fault_number (Err f) = refusal_number f
