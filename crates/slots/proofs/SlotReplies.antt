-- The answers for one slot keep its promise. Assumes nothing.
use Prim.Native.Nat.{ℕ, ◌+◌, ◌≤◌, ◌<◌}
use mathlib.Core.Path.{◌≡◌, sym, ap, ◌∙◌}
use mathlib.Core.Bool.{true, false}
use mathlib.Core.List.{List}
use native.Mathlib.Omega.{arith}
use Rattle.lists.proofs.Bools.{never}
use Rattle.rinex.specs.File.{Row}
use Rattle.rinex.specs.Tables.{all_rows, FlatHead, Counts, Buffers}
use Rattle.rinex.specs.Fit.{tables_fit}
use Rattle.rinex.specs.Held.{row_at, rows_at, lists_at}
use Rattle.rinex.specs.Answers.{Answer, no_row, unspelled, answer_of, row_answer, answer}
use Rattle.rinex.specs.Promises.{Slotted}
use Rattle.rinex.proofs.FitTables.{fit_tables}
use Rattle.rinex.proofs.Replies.{slotted}
use Rattle.slots.specs.InTables.{slots_before}
use Rattle.slots.proofs.HeldAnswers.{found, answer_is, row_there, row_none}
use Rattle.slots.proofs.FitRows.{file, spelled, lists_are, rows_are, codes_whole}

module _ (h : FlatHead) (n : Counts) (b : Buffers) (row code : ℕ) where
  pub no_tables : tables_fit h n b ≡ false → Slotted h n b row code unspelled
  no_tables e = λ f p. never (sym e ∙ fit_tables.complete h n b f p)

  module _ (fit : tables_fit h n b ≡ true) where
    -- the rule's answer, of the rows of the table
    in_table : answer (file h n b fit) row code ≡ row_answer (lists_at 0 h.lengths b.codes) (rows_at h.lengths b n.rows 0 0) row code
    unfolding answer
    in_table =
        ap (λ (ls : List (List (List ℕ))). row_answer ls (all_rows (file h n b fit).epochs) row code) (lists_are h n b fit)
        ∙ ap (λ (rs : List Row). row_answer (lists_at 0 h.lengths b.codes) rs row code) (rows_are h n b fit)

    handed : (a : Answer) → a ≡ answer (file h n b fit) row code → Slotted h n b row code a
    handed a e = slotted h n b row code a (record { file = file h n b fit; spelled = spelled h n b fit; answers = e })

    pub absent : n.rows ≤ row → Slotted h n b row code no_row
    absent m = handed no_row (sym (in_table ∙ row_none (lists_at 0 h.lengths b.codes) h.lengths b code n.rows 0 0 row m))

    pub there : row < n.rows → (a : Answer) → a ≡ found h.lengths b code row (slots_before h.lengths b.satellites row 0 0) → Slotted h n b row code a
    there m a e =
        let z : 0 + row ≡ row = omega arith in
        let i : ℕ = slots_before h.lengths b.satellites row 0 0 in
        handed a (e ∙ sym (in_table ∙ (row_there (lists_at 0 h.lengths b.codes) h.lengths b code n.rows 0 0 row m ∙ (ap (λ (j : ℕ). answer_of (lists_at 0 h.lengths b.codes) code (row_at h.lengths b j i)) z ∙ answer_is h.lengths b code (codes_whole h n b fit) row i))))
