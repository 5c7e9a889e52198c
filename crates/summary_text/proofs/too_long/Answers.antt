-- `summary_text::too_long` meets its contract. Assumes nothing.
use mathlib.Core.Path.{refl}
use mathlib.Core.List.{[], ◌∷◌, ◌++◌}
use native.Mathlib.Omega.{arith}
use Rattle.lists.specs.Lists.{bytes}
use Rattle.rinex.specs.Summary.{too_long_text}
use Rattle.summary_text.proofs.Putting.{says}
use Rattle.summary_text.proofs.too_long.Goals as goal

pub returns : goal.returns
unfolding too_long_text
returns c = says too_long_text (bytes "result=toolong" ++ (10 ∷ [])) _ 15 (record { lies = c.put_bytes.ensures; place = refl }) refl (omega arith)
