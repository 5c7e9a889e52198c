-- `write_field::put_decimal` meets its contract: `decimal_lent` puts the columns together. Assumes nothing.
use Prim.Native.Nat.{ℕ, ◌+◌, ◌-◌, ◌/◌, ◌^◌}
use mathlib.Core.Path.{◌≡◌, ap, ◌∙◌}
use mathlib.Core.List.{List, ◌++◌}
use native.Mathlib.Omega.{arith}
use lib.ListN.{length, take, drop, set, length-set, length-take, length-drop}
use lib.Seq.{length-take-le}
use Rattle.lists.proofs.Stores.{length_lent}
use Rattle.write_field.specs.Normal.{fixed}
use Rattle.write_field.specs.Steps.{lead}
use Rattle.write_field.proofs.Written.{fixed_length}
use Rattle.write_field.proofs.Lead.{decimal_lent}
use Rattle.write_field.proofs.put_decimal.Goals as goal

pub returns : goal.returns
returns c =
    let s : List ℕ = c.args.out.now in
    let p : ℕ = length s - c.args.d - 1 in
    let r = c.requires.decimals in
    let behind : List ℕ = c.put_digits-rest.new.out in
    let x = c.digit.result in
    let behind_length : length (take (length s - (p + 1)) (drop (p + 1) s)) ≡ c.args.d = rw (length-take, length-drop) (omega arith) in
    let behind_is : behind ≡ fixed c.args.d c.args.n = c.put_digits-rest.ensures.1 ∙ ap (λ (w : ℕ). fixed w c.args.n) behind_length in
    let back : List ℕ = take (p + 1) s ++ (behind ++ drop (length s - (p + 1)) (drop (p + 1) s)) in
    let back_length : length back ≡ length s =
    length_lent s behind (p + 1) (omega arith) (ap length behind_is ∙ omega (arith, fixed_length c.args.d c.args.n)) in
    let l : length (take (p - 1) (set (set back p 46) (p - 1) x)) ≡ p - 1 =
    length-take-le (p - 1) (set (set back p 46) (p - 1) x) (simp length-set (omega (arith, back_length))) in
    decimal_lent c.args.minus s behind c.put_lead.new.out c.args.d c.args.n c.put_digits-rest.result x p
    c.requires (omega arith)
    (c.put_digits-rest.ensures.0 ∙ ap (λ (k : ℕ). c.args.n / 10 ^ k) behind_length)
    c.digit.ensures behind_is
    (c.put_lead.ensures ∙ ap (λ (k : ℕ). lead c.args.minus k (c.put_digits-rest.result / 10)) l)
