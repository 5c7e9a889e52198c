-- `code::known::is_taken_by` meets its contract. Assumes nothing.
use Prim.Native.Nat.{ℕ, ◌/◌, ◌%◌}
use mathlib.Core.Path.{◌≡◌, sym, ap, ◌∙◌, subst}
use mathlib.Core.List.{List}
use lib.Dec.{eqb}
use lib.ListN.{get_or}
use borrow.Author.Tests.{ne_eqb}
use Rattle.rinex.specs.Codes.{is_taken}
use Rattle.rinex.specs.Fit.{unpacked}
use Rattle.rinex.specs.CodeNumbers.{number_under, code_numbers}
use Rattle.code.proofs.Taken.{no_system, too_large, none_left, hit, no_blank, band}
use Rattle.code.proofs.known.is_taken_by.Goals as goal

pub returns-then-system-ge7 : goal.returns-then-system-ge7
returns-then-system-ge7 c = let a = c.args in no_system a.system (unpacked a.code) c.if-system-ge7.true

pub returns-then-code-ge-STEP : goal.returns-then-code-ge-STEP
returns-then-code-ge-STEP c = let a = c.args in too_large a.system a.code c.if-code-ge-STEP.true

pub returns-then-at-ge-COUNT : goal.returns-then-at-ge-COUNT
returns-then-at-ge-COUNT c =
    let a = c.args in
    none_left a.system a.code c.if-code-ge-STEP.false c.first_from-at.result c.first_from-at.ensures c.if-at-ge-COUNT.true

pub returns-then-found-number : goal.returns-then-found-number
returns-then-found-number c =
    let f = c.first_from-at in
    let there : get_or c.args.table.now f.result 0 ≡ get_or code_numbers f.result 0 = ap (λ (ks : List ℕ). get_or ks f.result 0) c.requires in
    let a = c.args in
    hit a.system a.code c.if-code-ge-STEP.false f.result c.if-at-ge-COUNT.false (sym there ∙ c.if-found-number.true)

pub returns-then-code-eq-BLANK : goal.returns-then-code-eq-BLANK
returns-then-code-eq-BLANK c =
    let f = c.first_from-at in
    let there : get_or c.args.table.now f.result 0 ≡ get_or code_numbers f.result 0 = ap (λ (ks : List ℕ). get_or ks f.result 0) c.requires in
    let a = c.args in
    subst (λ (x : ℕ). eqb (x / 256) (number_under a.system a.code / 256) ≡ is_taken a.system (unpacked a.code)) (sym there)
    (band a.system a.code c.if-code-ge-STEP.false f.result f.ensures (λ e. c.if-found-number.false (there ∙ e)) c.if-at-ge-COUNT.false c.if-code-eq-BLANK.true)

pub returns-else-code-eq-BLANK : goal.returns-else-code-eq-BLANK
returns-else-code-eq-BLANK c =
    let f = c.first_from-at in
    let there : get_or c.args.table.now f.result 0 ≡ get_or code_numbers f.result 0 = ap (λ (ks : List ℕ). get_or ks f.result 0) c.requires in
    let a = c.args in
    ne_eqb (a.code % 256) 32 c.if-code-eq-BLANK.false
    ∙ no_blank a.system a.code c.if-code-ge-STEP.false f.result f.ensures (λ e. c.if-found-number.false (there ∙ e)) c.if-code-eq-BLANK.false
