-- One answer keeps the promise of a summary, and one only. Assumes nothing.
use mathlib.Core.Path.{◌≡◌, sym, ap, ◌∙◌}
use mathlib.Core.List.{List}
use Prim.Native.Nat.{ℕ}
use lib.ListN.{length, replicate}
use lib.Seq.{sets, length-take-le}
use Rattle.rinex.proofs.SummaryOne.{summary_one}
use Rattle.summary_text.specs.declared.SummaryText.{SummaryText}
use Rattle.summary_text.specs.Said.{said}
use Rattle.summarize.specs.Summarizes.{Summarizes}

pub one_answer : (t : List ℕ) (r s : SummaryText) → Summarizes t r → Summarizes t s → r ≡ s
one_answer t r s p q =
    let e : said r ≡ said s = summary_one t (said r) (said s) p.summary q.summary in
    let b : r.bytes ≡ s.bytes = p.whole.rest ∙ (ap (λ (x : List ℕ). sets (replicate 160 0) 0 x) e ∙ sym q.whole.rest) in
    let n : r.size ≡ s.size =
    sym (length-take-le r.size r.bytes p.whole.within) ∙ (ap length e ∙ length-take-le s.size s.bytes q.whole.within) in
    λ i. record { bytes = b i; size = n i }
