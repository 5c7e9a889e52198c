-- `fits_values::code_lists::list_fits` meets its contract. Assumes nothing.
use mathlib.Core.Path.{sym, ◌∙◌}
use Rattle.fits_values.proofs.Listed.{no_list, many_codes, not_allowed, no_room, not_taken, list_is}
use Rattle.fits_values.proofs.code_lists.list_fits.Goals as goal
use Rattle.fits_values.proofs.code_lists.list_fits.Goals.{then-n-gt64-via-then-n-gt64, then-n-gt64-via-else-n-gt64+then-not-allows, then-n-gt64-via-else-n-gt64+else-not-allows+then-codes-from}

pub returns-then-n-eq0 : goal.returns-then-n-eq0
returns-then-n-eq0 c = let a = c.args in no_list a.letter a.codes.now a.s a.n c.if-n-eq0.true

pub returns-then-n-gt64 : goal.returns-then-n-gt64
returns-then-n-gt64 c =
    let a = c.args in
    elim c.then-n-gt64.branch [
      | then-n-gt64-via-then-n-gt64 w ↦ many_codes a.letter a.codes.now a.s a.n c.if-n-eq0.false w.if-n-gt64.true
      | then-n-gt64-via-else-n-gt64+then-not-allows w ↦
          not_allowed a.letter a.codes.now a.s a.n c.if-n-eq0.false w.if-n-gt64.false (sym w.allows.ensures ∙ w.if-not-allows.true)
      | then-n-gt64-via-else-n-gt64+else-not-allows+then-codes-from w ↦
          no_room a.letter a.codes.now a.s a.n c.if-n-eq0.false w.if-n-gt64.false (sym w.allows.ensures ∙ w.if-not-allows.false) w.if-codes-from.true
    ]

pub returns-then-are_taken : goal.returns-then-are_taken
returns-then-are_taken c =
    let a = c.args in
    c.are_fresh.ensures
    ∙ list_is a.letter a.codes.now a.s a.n c.if-n-eq0.false c.if-n-gt64.false (sym c.allows.ensures ∙ c.if-not-allows.false) c.if-codes-from.false
    (sym c.are_taken.ensures ∙ c.if-are_taken.true)

pub returns-else-are_taken : goal.returns-else-are_taken
returns-else-are_taken c =
    let a = c.args in
    c.if-are_taken.false
    ∙ not_taken a.letter a.codes.now a.s a.n c.if-n-eq0.false c.if-n-gt64.false (sym c.allows.ensures ∙ c.if-not-allows.false) c.if-codes-from.false
    (sym c.are_taken.ensures ∙ c.if-are_taken.false)
