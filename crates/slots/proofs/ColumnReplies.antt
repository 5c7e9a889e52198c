-- The replies of a column keep its promise. Assumes nothing.
use Prim.Native.Nat.{ℕ, ◌≤◌}
use mathlib.Core.Path.{◌≡◌, refl, sym, ap, ◌∙◌}
use mathlib.Core.Bool.{true, false, ◌&&◌}
use mathlib.Core.List.{List, map}
use native.Mathlib.Omega.{arith}
use lib.Dec.{leb}
use lib.Ieee.{Float}
use lib.ListN.{length}
use lib.Seq.{sets}
use borrow.Author.Tests.{le-leb, leb-true}
use Rattle.lists.proofs.Bools.{never, both, all_of}
use Rattle.rinex.specs.File.{Row}
use Rattle.rinex.specs.Tables.{all_rows, FlatHead, Counts, Buffers}
use Rattle.rinex.specs.Fit.{tables_fit}
use Rattle.rinex.specs.Answers.{Answer, kind, float, answer_in, answers}
use Rattle.rinex.specs.Promises.{filled, no_tables, no_room, laid_column, Columned}
use Rattle.rinex.proofs.FitTables.{fit_tables}
use Rattle.slot_answers.specs.Handed.{column_of}
use Rattle.slots.specs.InTables.{column_from}
use Rattle.slots.proofs.ColumnTurns.{column_length}
use Rattle.slots.proofs.HeldAnswers.{lists, place_in, column_is}
use Rattle.slots.proofs.FitRows.{file, spelled, lists_are, rows_are, codes_whole}

module _ (h : FlatHead) (n : Counts) (b : Buffers) (s code : ℕ) (kinds : List ℕ) (floats : List Float) where
  pub no_text : tables_fit h n b ≡ false → Columned h n b s code (column_of kinds floats) (column_of kinds floats) no_tables
  no_text e = (λ f p. never (sym e ∙ fit_tables.complete h n b f p), refl)

  -- the answers, as they are found in the tables
  abbrev pub found : List Answer
  found = column_from h.lengths b.satellites b.numbers b.states s (place_in h.lengths b code s) code n.rows 0 0

  module _ (fit : tables_fit h n b ≡ true) where
    answers_are : answers (file h n b fit) s code ≡ found
    unfolding answers
    answers_are =
        ap (λ (ls : List (List (List ℕ))). map (answer_in ls s code) (all_rows (file h n b fit).epochs)) (lists_are h n b fit)
        ∙ (ap (λ (rs : List Row). map (answer_in (lists h.lengths b) s code) rs) (rows_are h n b fit) ∙ column_is h.lengths b code s (codes_whole h n b fit) n.rows 0 0)

    many : length (answers (file h n b fit) s code) ≡ n.rows
    many = ap length answers_are ∙ column_length h.lengths b.satellites b.numbers b.states s (place_in h.lengths b code s) code n.rows 0 0

    pub cramped : (leb n.rows (length kinds) && leb n.rows (length floats)) ≡ false → Columned h n b s code (column_of kinds floats) (column_of kinds floats) no_room
    cramped e =
        let m = many in (
          file h n b fit,
          spelled h n b fit,
          (λ r. never (sym e ∙ all_of (leb n.rows (length kinds)) (leb n.rows (length floats)) (le-leb n.rows (length kinds) (omega (arith, m, r.kinds))) (le-leb n.rows (length floats) (omega (arith, m, r.floats))))),
          refl,
        )

    module _ (room : (leb n.rows (length kinds) && leb n.rows (length floats)) ≡ true) where
      pub kinds_hold : n.rows ≤ length kinds
      kinds_hold = leb-true n.rows (length kinds) (both (leb n.rows (length kinds)) (leb n.rows (length floats)) room).0

      pub floats_hold : n.rows ≤ length floats
      floats_hold = leb-true n.rows (length floats) (both (leb n.rows (length kinds)) (leb n.rows (length floats)) room).1

      pub done : (ks : List ℕ) (xs : List Float) → ks ≡ sets kinds 0 (map kind found) → xs ≡ sets floats 0 (map float found)
          → Columned h n b s code (column_of kinds floats) (column_of ks xs) (filled n.rows)
      unfolding laid_column
      done ks xs p q =
          let m = many in
          let e = answers_are in
          let p' : ks ≡ sets kinds 0 (map kind (answers (file h n b fit) s code)) = p ∙ ap (λ (ys : List Answer). sets kinds 0 (map kind ys)) (sym e) in
          let q' : xs ≡ sets floats 0 (map float (answers (file h n b fit) s code)) = q ∙ ap (λ (ys : List Answer). sets floats 0 (map float ys)) (sym e) in (
            file h n b fit,
            spelled h n b fit,
            record {
              room = record { kinds = omega (arith, m, kinds_hold); floats = omega (arith, m, floats_hold) };
              rows = sym m;
              entries = λ i. record { kinds = p' i; floats = q' i };
            },
          )
