-- `find_line::find` meets its contract: what the first byte that is not plain says of the line. Assumes nothing.
use native.Mathlib.Omega.{arith}
use Rattle.find_line.proofs.Finding.{over_line, first_line, faulty_line, length_between}
use Rattle.find_line.proofs.find.Goals as goal

pub returns-then-text-at : goal.returns-then-text-at
returns-then-text-at c = let a = c.args in over_line a.text.now a.at c.if-text-at.true

pub returns-then-text-end : goal.returns-then-text-end
returns-then-text-end c =
    let a = c.args in
    faulty_line a.text.now a.at c.plain_end-end.result c.plain_end-end.ensures (omega arith) (λ h. absurd (omega arith))

pub returns-then-text-end-ne10 : goal.returns-then-text-end-ne10
returns-then-text-end-ne10 c =
    let a = c.args in
    faulty_line a.text.now a.at c.plain_end-end.result c.plain_end-end.ensures (omega arith) (λ h. c.if-text-end-ne10.true)

pub overflow_sub-end : goal.overflow_sub-end
overflow_sub-end c = c.plain_end-end.ensures.from (omega arith)

pub returns-then-end-at-gt1027 : goal.returns-then-end-at-gt1027
returns-then-end-at-gt1027 c =
    let a = c.args in
    let e = c.plain_end-end.result in
    let f = first_line a.text.now a.at e c.plain_end-end.ensures (omega arith) (omega arith) c.if-text-end-ne10.false in
    (f, c.plain_end-end.ensures.plain, omega (arith, length_between a.text.now a.at e f.from (omega arith)))

pub returns : goal.returns
returns c =
    let a = c.args in
    let e = c.plain_end-end.result in
    let f = first_line a.text.now a.at e c.plain_end-end.ensures (omega arith) (omega arith) c.if-text-end-ne10.false in
    (f, record { plain = c.plain_end-end.ensures.plain; width = omega (arith, length_between a.text.now a.at e f.from (omega arith)) })
