-- `columns::put_fixed` meets its contract. Assumes nothing.
use native.Mathlib.Omega.{arith}
use Rattle.write_field.specs.Normal.{fixed, whole_fits}
use Rattle.write_field.proofs.Written.{room_whole, fixed_length}
use Rattle.columns.proofs.Put.{number_back}
use Rattle.columns.proofs.put_fixed.Goals as goal

pub returns : goal.returns
returns c = let a = c.args in number_back a.out.now c.fixed.new.out a.at a.w (λ k. whole_fits k a.n) (λ k. fixed k a.n) (omega arith) (room_whole a.w a.n (record { column = c.requires.1.0; below = c.requires.1.1 })) (fixed_length a.w a.n) c.fixed.ensures.columns
