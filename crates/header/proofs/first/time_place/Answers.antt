-- `header::first::time_place` meets its contract: what is none of the names. Assumes nothing.
use mathlib.Core.Path.{◌≡◌, sym, ◌∙◌}
use mathlib.Core.Bool.{false}
use Rattle.lists.specs.Lists.{bytes, same}
use Rattle.header.proofs.first.time_place.Goals as goal

pub returns-else-same-6 : goal.returns-else-same-6
returns-else-same-6 c =
    let s = c.args.name.now in
    let not_GPS : same s (bytes "GPS") ≡ false = sym c.same.ensures ∙ c.if-same.false in
    let not_GLO : same s (bytes "GLO") ≡ false = sym c.same-else-same.ensures ∙ c.if-same-2.false in
    let not_GAL : same s (bytes "GAL") ≡ false = sym c.same-else-same-2.ensures ∙ c.if-same-3.false in
    let not_QZS : same s (bytes "QZS") ≡ false = sym c.same-else-same-3.ensures ∙ c.if-same-4.false in
    let not_BDT : same s (bytes "BDT") ≡ false = sym c.same-else-same-4.ensures ∙ c.if-same-5.false in
    let not_IRN : same s (bytes "IRN") ≡ false = sym c.same-else-same-5.ensures ∙ c.if-same-6.false in
    rw (not_GPS, not_GLO, not_GAL, not_QZS, not_BDT, not_IRN)
