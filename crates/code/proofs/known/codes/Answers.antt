-- `code::known::codes` meets its contract: the table is the rule's, entry by entry. Assumes nothing.
use mathlib.Core.Path.{refl}
use Rattle.rinex.specs.CodeTable.{code_table}
use Rattle.rinex.specs.CodeNumbers.{numbers_from, code_numbers}
use Rattle.code.proofs.known.codes.Goals as goal

pub returns : goal.returns
unfolding code_numbers code_table numbers_from
returns c = refl
