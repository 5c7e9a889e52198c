-- `write_header::code_lists::put_list` meets its contract: what is put, with the lines that are ahead, ends alike. Assumes nothing.
use Prim.Native.Nat.{ℕ, ◌+◌, ◌-◌, ◌*◌, ◌^◌}
use mathlib.Core.Path.{◌≡◌}
use mathlib.Core.List.{List, [], ◌∷◌}
use native.Mathlib.Omega.{arith}
use Rattle.line.specs.Text.{cut}
use Rattle.rinex.specs.Normal.{list_lines, next_lines_of}
use borrow.Author.Rules.{rules}
use Rattle.write_header.proofs.Ahead.{Ahead, begun, upon, seen, one_put, one_room, all_put}
use Rattle.write_header.proofs.CodeLines.{codes_of, part_few, next_over, no_list, Listed, listed, first_ahead, next_ahead}
use Rattle.write_header.proofs.code_lists.put_list.Goals as goal

pub list_line-requires : goal.list_line-requires
list_line-requires c =
    let fit : Listed c.args.codes.now c.args.s c.args.n =
    listed c.args.letter c.args.codes.now c.args.s c.args.n c.requires.1.0 c.if-n-eq0.false in
    let k = c.in_line-done in
    let w : 64 * c.args.s + k.result - 64 * c.args.s ≡ k.result = omega arith in
    rw w (search rules, (omega (arith, fit.few), (part_few c.args.codes.now (64 * c.args.s) k.result 13 (omega (arith, k.ensures.0)), fit.first_lie k.result (omega (arith, k.ensures.0)))))

pub slice_bounds-list_line-end : goal.slice_bounds-list_line-end
slice_bounds-list_line-end c =
    let fit : Listed c.args.codes.now c.args.s c.args.n =
    listed c.args.letter c.args.codes.now c.args.s c.args.n c.requires.1.0 c.if-n-eq0.false in
    omega (arith, fit.within, c.in_line-done.ensures.0)

pub overflow_add-next : goal.overflow_add-next
overflow_add-next c =
    let fit : Listed c.args.codes.now c.args.s c.args.n =
    listed c.args.letter c.args.codes.now c.args.s c.args.n c.requires.1.0 c.if-n-eq0.false in
    record { fits = omega (arith, fit.few, c.loop-done-test.true) }

pub overflow_add-next-in-loop-done : goal.overflow_add-next-in-loop-done
overflow_add-next-in-loop-done c =
    let fit : Listed c.args.codes.now c.args.s c.args.n =
    listed c.args.letter c.args.codes.now c.args.s c.args.n c.requires.1.0 c.if-n-eq0.false in
    record { fits = omega (arith, fit.few, c.loop-done-test.true, c.in_line-k.ensures.0) }

pub offset_bounds-codes-next : goal.offset_bounds-codes-next
offset_bounds-codes-next c =
    let fit : Listed c.args.codes.now c.args.s c.args.n =
    listed c.args.letter c.args.codes.now c.args.s c.args.n c.requires.1.0 c.if-n-eq0.false in
    record { fits = omega (arith, fit.few, c.loop-done-test.true) }

pub slice_bounds-next_line-end : goal.slice_bounds-next_line-end
slice_bounds-next_line-end c =
    let fit : Listed c.args.codes.now c.args.s c.args.n =
    listed c.args.letter c.args.codes.now c.args.s c.args.n c.requires.1.0 c.if-n-eq0.false in
    omega (arith, fit.within, c.loop-done-test.true, c.in_line-k.ensures.0)

pub loop-done-init : goal.loop-done-init
loop-done-init c = (omega (arith, c.in_line-done.ensures.0), search rules, search rules, begun _ _ _)

pub next_line-requires : goal.next_line-requires
next_line-requires c =
    let fit : Listed c.args.codes.now c.args.s c.args.n =
    listed c.args.letter c.args.codes.now c.args.s c.args.n c.requires.1.0 c.if-n-eq0.false in
    let k = c.in_line-k in
    let p = 64 * c.args.s + c.loop-done.done in
    let w : p + k.result - p ≡ k.result = omega arith in
    rw w (search rules, (part_few c.args.codes.now p k.result 13 (omega (arith, k.ensures.0)), fit.lie c.loop-done.done k.result (omega (arith, k.ensures.0))))

pub returns-then-n-eq0 : goal.returns-then-n-eq0
returns-then-n-eq0 c =
    let a = c.args in
    let r = all_put a.out.now a.out.now a.at a.at _ (seen [] (no_list a.codes.now a.s a.n c.if-n-eq0.true) (begun a.out.now a.at _)) in
    record { out_after = r.0; value = r.1 }

pub put_line-to-requires : goal.put_line-to-requires
put_line-to-requires c =
    let rest : ℕ → List (List ℕ) =
    λ done. next_lines_of c.args.n (codes_of c.args.codes.now (64 * c.args.s + done) (c.args.n - done)) in
    let Left : List ℕ → ℕ → List (List ℕ) → Type 0 =
    λ out to ls. Ahead out to ls c.args.out.now c.args.at (list_lines c.args.s (codes_of c.args.codes.now (64 * c.args.s) c.args.n)) in
    let fit : Listed c.args.codes.now c.args.s c.args.n =
    listed c.args.letter c.args.codes.now c.args.s c.args.n c.requires.1.0 c.if-n-eq0.false in
    let at_first : Left c.args.out.now c.args.at (cut c.list_line.new.out ∷ rest c.in_line-done.result) =
    let a = c.args in
    let k = c.in_line-done in
    first_ahead a.codes.now _ a.out.now a.out.now a.s a.n k.result a.at a.at fit _ (omega arith) k.ensures.0 c.list_line.ensures in
    one_room c.args.out.now c.args.out.now c.args.at c.args.at _ _ _ (2 ^ 64) c.requires.1.1 at_first

pub put_line-to-requires-in-loop-done : goal.put_line-to-requires-in-loop-done
put_line-to-requires-in-loop-done c =
    let rest : ℕ → List (List ℕ) =
    λ done. next_lines_of c.args.n (codes_of c.args.codes.now (64 * c.args.s + done) (c.args.n - done)) in
    let Left : List ℕ → ℕ → List (List ℕ) → Type 0 =
    λ out to ls. Ahead out to ls c.args.out.now c.args.at (list_lines c.args.s (codes_of c.args.codes.now (64 * c.args.s) c.args.n)) in
    let fit : Listed c.args.codes.now c.args.s c.args.n =
    listed c.args.letter c.args.codes.now c.args.s c.args.n c.requires.1.0 c.if-n-eq0.false in
    let at_first : Left c.args.out.now c.args.at (cut c.list_line.new.out ∷ rest c.in_line-done.result) =
    let a = c.args in
    let k = c.in_line-done in
    first_ahead a.codes.now _ a.out.now a.out.now a.s a.n k.result a.at a.at fit _ (omega arith) k.ensures.0 c.list_line.ensures in
    let after_first : Left c.put_line-to.new.out c.put_line-to.result (rest c.in_line-done.result) =
    let a = c.args in
    one_put a.out.now a.out.now a.at a.at _ _ _ _ _ c.put_line-to.ensures.out_after c.put_line-to.ensures.value at_first in
    let at_next : Ahead c.loop-done.out c.loop-done.to (cut c.next_line.new.out ∷ rest (c.loop-done.done + c.in_line-k.result)) c.put_line-to.new.out c.put_line-to.result (rest c.in_line-done.result) =
    let a = c.args in
    let k = c.in_line-k in
    let l = c.loop-done in
    next_ahead a.codes.now _ l.out _ a.s a.n k.result l.to _ fit _ l.done _ (omega arith) c.loop-done-test.true k.ensures.0 c.next_line.ensures l.invariant.3 in
    let l = c.loop-done in
    one_room l.out c.args.out.now l.to c.args.at _ _ _ (2 ^ 64) c.requires.1.1 (upon at_next after_first)

pub loop-done-preserved : goal.loop-done-preserved
loop-done-preserved c =
    let rest : ℕ → List (List ℕ) =
    λ done. next_lines_of c.args.n (codes_of c.args.codes.now (64 * c.args.s + done) (c.args.n - done)) in
    let fit : Listed c.args.codes.now c.args.s c.args.n =
    listed c.args.letter c.args.codes.now c.args.s c.args.n c.requires.1.0 c.if-n-eq0.false in
    let at_next : Ahead c.loop-done.out c.loop-done.to (cut c.next_line.new.out ∷ rest (c.loop-done.done + c.in_line-k.result)) c.put_line-to.new.out c.put_line-to.result (rest c.in_line-done.result) =
    let a = c.args in
    let k = c.in_line-k in
    let l = c.loop-done in
    next_ahead a.codes.now _ l.out _ a.s a.n k.result l.to _ fit _ l.done _ (omega arith) c.loop-done-test.true k.ensures.0 c.next_line.ensures l.invariant.3 in
    let l = c.loop-done in (
      omega (arith, c.in_line-k.ensures.0),
      search rules,
      search rules,
      one_put l.out _ l.to _ _ _ _ _ _ c.put_line-to-in-loop-done.ensures.out_after c.put_line-to-in-loop-done.ensures.value at_next,
    )

pub returns : goal.returns
returns c =
    let rest : ℕ → List (List ℕ) =
    λ done. next_lines_of c.args.n (codes_of c.args.codes.now (64 * c.args.s + done) (c.args.n - done)) in
    let Left : List ℕ → ℕ → List (List ℕ) → Type 0 =
    λ out to ls. Ahead out to ls c.args.out.now c.args.at (list_lines c.args.s (codes_of c.args.codes.now (64 * c.args.s) c.args.n)) in
    let fit : Listed c.args.codes.now c.args.s c.args.n =
    listed c.args.letter c.args.codes.now c.args.s c.args.n c.requires.1.0 c.if-n-eq0.false in
    let at_first : Left c.args.out.now c.args.at (cut c.list_line.new.out ∷ rest c.in_line-done.result) =
    let a = c.args in
    let k = c.in_line-done in
    first_ahead a.codes.now _ a.out.now a.out.now a.s a.n k.result a.at a.at fit _ (omega arith) k.ensures.0 c.list_line.ensures in
    let after_first : Left c.put_line-to.new.out c.put_line-to.result (rest c.in_line-done.result) =
    let a = c.args in
    one_put a.out.now a.out.now a.at a.at _ _ _ _ _ c.put_line-to.ensures.out_after c.put_line-to.ensures.value at_first in
    let l = c.loop-done in
    let a = c.args in
    let r = all_put l.out a.out.now l.to a.at _ (seen [] (next_over a.codes.now a.n (64 * a.s + l.done) (a.n - l.done) (omega arith)) (upon l.invariant.3 after_first)) in
    record { out_after = r.0; value = r.1 }
