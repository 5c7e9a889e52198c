-- `code::put_codes` meets its contract. The invariant: the codes that are left, put into the table as it is, give what all give.
use Prim.Native.Nat.{◌+◌, ◌-◌, ◌<◌}
use mathlib.Core.Path.{◌≡◌, refl, sym, ◌∙◌}
use native.Mathlib.Omega.{arith}
use lib.ListN.{length, set, length-set}
use Rattle.code.proofs.Packed.{left_none, put_stop, put_fresh, put_sets}
use Rattle.code.proofs.put_codes.Goals as goal

pub loop-i-init : goal.loop-i-init
loop-i-init c =
    let a = c.args in
    let p : a.before + 0 ≡ a.before = omega arith in
    let q : a.from + a.before + 0 ≡ a.from + a.before = omega arith in
    let r : a.n - 0 ≡ a.n = omega arith in
    (refl, rw (p, r), rw (q, r))

pub returns-then-stands-clause-told : goal.returns-then-stands-clause-told
returns-then-stands-clause-told c =
    let a = c.args in
    let l = c.loop-i in
    let e = put_stop a.n l.i a.line.now c.loop-i-test.true c.code_at-code.result c.code_at-code.ensures l.table a.from a.before
    (sym c.stands.ensures ∙ c.if-stands.true) in
    sym e ∙ l.invariant.1

pub loop-i-preserved : goal.loop-i-preserved
loop-i-preserved c =
    let a = c.args in
    let i = c.loop-i.i in
    let t = c.loop-i.table in
    let v = c.code_at-code.result in
    let h = c.loop-i-test.true in
    let m : a.from + a.before + i < length t = omega (arith, c.loop-i.invariant.0, c.requires) in
    let n : length (set t (a.from + a.before + i) v) ≡ length t = simp length-set in (
      n ∙ c.loop-i.invariant.0,
      put_fresh a.n i a.line.now h v c.code_at-code.ensures t a.from a.before m (sym c.stands.ensures ∙ c.if-stands.false) ∙ c.loop-i.invariant.1,
      put_sets a.n i a.line.now h v c.code_at-code.ensures t a.from a.before m ∙ c.loop-i.invariant.2,
    )

pub returns-clause-told : goal.returns-clause-told
returns-clause-told c =
    let e = left_none c.args.n c.loop-i.i c.args.line.now c.loop-i-test.false in
    rw e at c.loop-i.invariant.1

pub returns-clause-put : goal.returns-clause-put
returns-clause-put c =
    let e = left_none c.args.n c.loop-i.i c.args.line.now c.loop-i-test.false in
    λ f. rw e at c.loop-i.invariant.2
