-- `code_list::list_fits` meets its contract. Assumes nothing.
use mathlib.Core.Path.{◌≡◌, refl, sym, ap, ◌∙◌}
use mathlib.Core.Bool.{false≢true}
use mathlib.Core.List.{[]}
use native.Mathlib.Omega.{arith}
use Rattle.std.proofs.lemmas.Grind.{common_steps}
use Rattle.std.proofs.iter.runs.Sources.{ranges}
use Rattle.rinex.specs.Codes
use Rattle.rinex.specs.Tests.{system_at}
use Rattle.code_list.proofs.Listed.{no_system, not_allowed, no_gap, not_counted, list_is, list_next, list_put}
use Rattle.code_list.proofs.list_fits.Goals as goal

pub returns-then-system-ge7 : goal.returns-then-system-ge7
returns-then-system-ge7 c =
    let a = c.args in
    record { told = no_system a.letter a.line.now (omega (arith, c.system_at-system.ensures.0)); put = λ f. absurd (false≢true f) }

pub returns-then-not-allows : goal.returns-then-not-allows
returns-then-not-allows c =
    let allowed : Codes.allows c.args.letter (system_at c.args.line.now) ≡ c.allows.result =
    let a = c.args in
    ap (Codes.allows a.letter) (sym c.system_at-system.ensures.0) ∙ sym c.allows.ensures in
    let a = c.args in
    record { told = not_allowed a.letter a.line.now (allowed ∙ c.if-not-allows.true); put = λ f. absurd (false≢true f) }

pub returns-then-not-blank_columns : goal.returns-then-not-blank_columns
returns-then-not-blank_columns c =
    let a = c.args in
    record { told = no_gap a.letter a.line.now (sym c.blank_columns.ensures ∙ c.if-not-blank_columns.true); put = λ f. absurd (false≢true f) }

pub returns-then-contains : goal.returns-then-contains
returns-then-contains c =
    let allowed : Codes.allows c.args.letter (system_at c.args.line.now) ≡ c.allows.result =
    let a = c.args in
    ap (Codes.allows a.letter) (sym c.system_at-system.ensures.0) ∙ sym c.allows.ensures in
    let a = c.args in
    let k = c.next_fits.ensures [] refl (record { within = omega (arith, c.requires); codes = tt; entries = refl }) in
    let m = c.list_count-n.ensures.0 in
    let t = c.if-contains.ensures.cases in
    let f = list_is a.letter a.line.now (omega (arith, c.system_at-system.ensures.0)) (allowed ∙ c.if-not-allows.false)
    (sym c.blank_columns.ensures ∙ c.if-not-blank_columns.false) (grind (arith, m, common_steps, ranges)) (grind (arith, m, common_steps, ranges)) in
    let s = c.system_at-system.ensures.0 in
    record {
      told = k.told ∙ (list_next c.system_at-system.result c.list_count-n.result a.line.now s m ∙ f);
      put = λ e. list_put c.system_at-system.result c.list_count-n.result a.line.now s m a.table.now _ (k.put e);
    }

pub returns-else-contains : goal.returns-else-contains
returns-else-contains c =
    let a = c.args in
    let n = c.list_count-n.ensures.0 in
    let t = c.if-contains.ensures.cases in
    record {
      told = c.if-contains.false ∙ not_counted a.letter a.line.now (λ p q. grind (arith, n, common_steps, ranges));
      put = λ f. absurd (false≢true (sym c.if-contains.false ∙ f));
    }
