-- The promise of `summarize`.
use Rattle.std.specs.Prelude.{List, ℕ}
use Rattle.rinex.specs.Summary.{Summary}
use Rattle.summary_text.specs.Said.{said, ZeroBehind}
use Rattle.summary_text.specs.declared.SummaryText.{SummaryText}

pub record Summarizes (t : List ℕ) (r : SummaryText) : Type 0 where
  pub summary : Summary t (said r)
  pub whole : ZeroBehind r
