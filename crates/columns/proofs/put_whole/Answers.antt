-- `columns::put_whole` meets its contract. Assumes nothing.
use native.Mathlib.Omega.{arith}
use Rattle.write_field.specs.Normal.{whole, whole_fits}
use Rattle.write_field.proofs.Written.{room_whole, whole_length}
use Rattle.columns.proofs.Put.{number_back}
use Rattle.columns.proofs.put_whole.Goals as goal

pub returns : goal.returns
returns c = let a = c.args in let f = room_whole a.w a.n (record { column = c.requires.1.0; below = c.requires.1.1 }) in number_back a.out.now c.whole.new.out a.at a.w (λ k. whole_fits k a.n) (λ k. whole k a.n) (omega arith) f (whole_length a.w a.n f) c.whole.ensures.columns
