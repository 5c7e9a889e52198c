-- The line at a place: refusals 1 and 2 are the faults that it has by itself.
use Rattle.std.specs.Prelude.{ℕ, ◌≡◌, false, cond, List, ◌∷◌, drop, Result, IfOk}
use Rattle.line.specs.Text.{Raw, Line, split}
use Rattle.find_line.specs.Promises.{LineEnds, between}
use Rattle.rinex.specs.Refusals.{refusal1, refusal2}
use Rattle.state.specs.declared.fault.LineFault.{LineFault}
use Rattle.state.specs.Faults.{fault_number}

unfoldable pub own_fault : Raw → ℕ
own_fault w = cond (refusal1 w) 1 (cond (refusal2 w.bytes) 2 0)

-- the fault of the line that begins at place a, and its end where it has none
pub record Reaches (t : List ℕ) (a : ℕ) (r : Result ℕ LineFault) : Type 0 where
  pub fault : (w : Raw) (ws : List Raw) → split (drop a t) ≡ w ∷ ws → fault_number r ≡ own_fault w
  pub ends : IfOk r (λ e. LineEnds t a e × Line (between a e t))

-- the first line from place a on ends at place e, unless refusal 1 or 2 is given at it
abbrev pub EndsAt : List ℕ → ℕ → ℕ → Type 0
EndsAt t a e = (w : Raw) (ws : List Raw) → split (drop a t) ≡ w ∷ ws → refusal1 w ≡ false → refusal2 w.bytes ≡ false → LineEnds t a e × Line (between a e t)
