-- A header line that is written: its body in columns 1-60, its label in columns 61-80. Assumes nothing.
use Prim.Native.Nat.{ℕ, ◌+◌, ◌-◌, ◌≤◌, ◌<◌}
use Prim.Native.String.{String}
use mathlib.Core.Path.{◌≡◌, sym, ap, ◌∙◌}
use mathlib.Core.Bool.{true}
use mathlib.Core.List.{List, [], ◌++◌, append-nil}
use native.Mathlib.Omega.{arith}
use lib.ListN.{length, get_or, take, drop, length-append, get_or-append}
use lib.Seq.{drop_at, get_or-take}
use Rattle.lists.specs.Blank.{blanks, Blank}
use Rattle.line.specs.Text.{are_plain, Line, col, cols, past}
use Rattle.label.specs.Labels.{padded, known, among, label_of}
use Rattle.line.proofs.Columns.{cols_same, cols_at, cols_end, past_end, get_or_cut, length_cut, cols_cut, plain_append, plain_cut, plain_take, plain_blanks, get_or_blanks, length_filled}
use Rattle.label.proofs.Labels.{length_padded}
use Rattle.rinex.specs.Normal.{line}

module _ (body : List ℕ) (label : String) where
  in_line : (i : ℕ) → i < 60 → get_or (line body label) i 32 ≡ get_or body i 32
  unfolding line
  in_line i h =
      get_or_cut (take 60 (body ++ blanks 60) ++ padded label) i
      ∙ get_or-append (take 60 (body ++ blanks 60)) (padded label) 32 i (omega (arith, length_filled 60 body))
      ∙ get_or-take 60 (body ++ blanks 60) i 32 h
      ∙ get_or_blanks body 60 i

  pub line_cols : (a b : ℕ) → 1 ≤ a → b ≤ 60 → cols a b (line body label) ≡ cols a b body
  line_cols a b p q = cols_same a b (line body label) body p (λ i u. in_line i (omega arith))

  pub line_col : (a : ℕ) → 1 ≤ a → a ≤ 60 → col a (line body label) ≡ col a body
  unfolding col
  line_col a p q = in_line (a - 1) (omega arith)

  length_line : length (line body label) ≤ 80
  unfolding line
  length_line = omega (
    arith,
    length_cut (take 60 (body ++ blanks 60) ++ padded label),
    length-append (take 60 (body ++ blanks 60)) (padded label),
    length_filled 60 body,
    length_padded label,
  )

  pub line_rest : Blank (past 80 (line body label))
  line_rest = past_end 80 (line body label) length_line

  pub line_label : label_of (line body label) ≡ among known (padded label)
  unfolding line label_of
  line_label =
      let whole : List ℕ = take 60 (body ++ blanks 60) ++ padded label in
      let d : drop 60 whole ≡ padded label ++ [] = drop_at (take 60 (body ++ blanks 60)) (padded label) 60 (length_filled 60 body) ∙ sym (append-nil (padded label)) in
      ap (among known) (cols_cut 61 80 whole (omega arith) ∙ cols_at 61 80 whole (padded label) [] d (length_padded label))

  pub line_line : are_plain body ≡ true → are_plain (padded label) ≡ true → Line (line body label)
  unfolding line
  line_line p q =
      record {
        plain = plain_cut (take 60 (body ++ blanks 60) ++ padded label)
            (plain_append (take 60 (body ++ blanks 60)) (padded label) (plain_take 60 (body ++ blanks 60) (plain_append body (blanks 60) p (plain_blanks 60))) q);
        width = omega (arith, length_line);
      }

-- a piece of a header line's body
pub seen : (body : List ℕ) (label : String) (a b : ℕ) (x r : List ℕ) → 1 ≤ a → b ≤ 60 → drop (a - 1) body ≡ x ++ r → length x ≡ b + 1 - a
    → cols a b (line body label) ≡ x
seen body label a b x r p q e n = line_cols body label a b p q ∙ cols_at a b body x r e n

pub unseen : (body : List ℕ) (label : String) (a b : ℕ) → 1 ≤ a → b ≤ 60 → length body < a → Blank (cols a b (line body label))
unseen body label a b p q h = rw (line_cols body label a b p q) (cols_end a b body h)
