-- The summary of an input is one text, and there is one. Assumes nothing.
use Prim.Native.Nat.{ℕ, ◌≤◌, ◌<◌}
use mathlib.Core.Path.{◌≡◌, refl, ap, sym, ◌∙◌}
use mathlib.Core.Bool.{Bool, true, false}
use mathlib.Core.List.{List}
use native.Mathlib.Omega.{arith}
use lib.Dec.{leb}
use lib.ListN.{length}
use borrow.Author.Tests.{leb-true, leb-false}
use Rattle.rinex.specs.Refusals.{Verdict, accepted, refused, verdict}
use Rattle.rinex.specs.Summary.{longest_input, its_room, accepted_text, refused_text, too_long_text, Judged, Summary}
use Rattle.rinex.proofs.Agree.{agree, one_of_text}

judged_one : (t out put : List ℕ) (v : Verdict) → Judged t out v → Judged t put v → out ≡ put
judged_one t out put (accepted n) p q = p.2 ∙ (ap accepted_text (one_of_text t p.0 q.0 p.1 q.1) ∙ sym q.2)
judged_one t out put (refused n k) p q = p ∙ sym q

pub summary_one : (t out put : List ℕ) → Summary t out → Summary t put → out ≡ put
summary_one t out put p q = go (leb (length t) longest_input) refl
  where
    go : (y : Bool) → leb (length t) longest_input ≡ y → out ≡ put
    go true e =
        let h : length t ≤ longest_input = leb-true (length t) longest_input e in
        judged_one t out put (verdict its_room t) (p.short h) (q.short h)
    go false e =
        let h : longest_input < length t = leb-false (length t) longest_input e in
        p.long h ∙ sym (q.long h)

pub summary_met : (t : List ℕ) → (out : List ℕ) × Summary t out
summary_met t = go (leb (length t) longest_input) refl
  where
    judged-met : (v : Verdict) → verdict its_room t ≡ v → (out : List ℕ) × Judged t out v
    judged-met (accepted n) e = let x = agree.sound its_room t n e in (accepted_text x.file, (x.file, x.spells, refl))
    judged-met (refused n k) e = (refused_text n k, refl)

    go : (y : Bool) → leb (length t) longest_input ≡ y → (out : List ℕ) × Summary t out
    go true e =
        let h : length t ≤ longest_input = leb-true (length t) longest_input e in
        let j = judged-met (verdict its_room t) refl in
        (j.0, record { short = λ m. j.1; long = λ m. absurd (omega (arith, h, m)) })
    go false e =
        let h : longest_input < length t = leb-false (length t) longest_input e in
        (too_long_text, record { short = λ m. absurd (omega (arith, h, m)); long = λ m. refl })
