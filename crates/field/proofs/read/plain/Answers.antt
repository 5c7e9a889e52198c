-- `field::read::plain` meets its contract: at each `return` the tests that led there say which part of `Look` fails, or that all hold. Assumes nothing.
use Prim.Native.Nat.{ℕ}
use mathlib.Core.Path.{sym, ap, ◌∙◌}
use Rattle.std.specs.Prelude.{Option}
use Rattle.lists.specs.Maybe.{◌>>=◌}
use Rattle.field.specs.Steps.{number_in}
use Rattle.field.proofs.Digits.{number_append, number_held, none_there}
use Rattle.field.proofs.Places.{before, after, plain_answer}
use Rattle.field.proofs.read.plain.Goals as goal

pub returns-in_err-whole : goal.returns-in_err-whole
returns-in_err-whole c =
    let d = c.args.d in
    let s = c.args.s.now in
    plain_answer d s c.if-s-d.false c.if-s-p-ne46.false c.from_residual.result
    (sym (number_append 0 (before d s) (after d s)) ∙ ap (λ (o : Option ℕ). o >>= λ v. number_in v (after d s)) (sym c.number.ensures ∙ c.in_err-whole.ensures.ok_part) ∙ none_there c.from_residual.result c.from_residual.ensures.0)

pub number-requires-2 : goal.number-requires-2
number-requires-2 c = (number_held 0 _ c.in_ok-whole.whole (sym c.number.ensures ∙ c.in_ok-whole.ensures.ok_part)).2

pub returns : goal.returns
returns c =
    let d = c.args.d in
    let s = c.args.s.now in
    plain_answer d s c.if-s-d.false c.if-s-p-ne46.false c.ok_or-2.result
    (sym (number_append 0 (before d s) (after d s)) ∙ ap (λ (o : Option ℕ). o >>= λ v. number_in v (after d s)) (sym c.number.ensures ∙ c.in_ok-whole.ensures.ok_part) ∙ (sym c.number-2.ensures ∙ c.ok_or-2.ensures.ok_part))
