-- `code_list::next_fits` meets its contract. Assumes nothing.
use Prim.Native.Nat.{ℕ}
use mathlib.Core.Path.{◌≡◌, sym, ap, ◌∙◌}
use mathlib.Core.Bool.{false≢true}
use Rattle.rinex.specs.Tests.{codes_fit, in_line}
use Rattle.code_list.proofs.Listed.{next_unfit, next_told, next_put}
use Rattle.code_list.proofs.next_fits.Goals as goal

pub returns-else-codes_fit : goal.returns-else-codes_fit
returns-else-codes_fit c =
    let fits : codes_fit c.args.system (in_line c.args.left) 7 c.args.line.now ≡ c.codes_fit.result =
    let a = c.args in
    ap (λ (n : ℕ). codes_fit a.system n 7 a.line.now) (sym c.in_line-n.ensures.0) ∙ sym c.codes_fit.ensures in
    λ cs m s.
    let a = c.args in
    record {
      told = c.if-codes_fit.false ∙ next_unfit a.system cs a.left a.line.now (fits ∙ c.if-codes_fit.false);
      put = λ f. absurd (false≢true (sym c.if-codes_fit.false ∙ f));
    }

pub returns-then-codes_fit : goal.returns-then-codes_fit
returns-then-codes_fit c =
    let fits : codes_fit c.args.system (in_line c.args.left) 7 c.args.line.now ≡ c.codes_fit.result =
    let a = c.args in
    ap (λ (n : ℕ). codes_fit a.system n 7 a.line.now) (sym c.in_line-n.ensures.0) ∙ sym c.codes_fit.ensures in
    λ cs m s.
    let a = c.args in
    let f = fits ∙ c.if-codes_fit.true in
    let q = c.put_codes.ensures in
    record {
      told = next_told a.system a.left c.in_line-n.result a.before a.line.now cs c.in_line-n.ensures.0 m a.table.now s f c.put_codes.result q.told;
      put = λ e. next_put a.system a.left c.in_line-n.result a.before a.line.now cs c.in_line-n.ensures.0 m a.table.now _ (q.put e);
    }
