-- What the loops over the lines of a text keep: of the data, and of the header. Assumes nothing.
use Prim.Native.Nat.{ℕ, ◌-◌, ◌≤◌}
use mathlib.Core.Path.{◌≡◌}
use mathlib.Core.List.{List}
use lib.ListN.{length, drop}
use Rattle.line.specs.Text.{split}
use Rattle.rinex.specs.Tables.{Buffers}
use Rattle.state.specs.declared.State.{State}
use Rattle.judge.specs.Step.{Runs}
use Rattle.fill.specs.declared.HeadRest.{HeadRest}
use Rattle.fill.specs.Fill.{filled_from, head_from, carried_from, nothing_read}
use Rattle.fill.specs.Filling.{rest_of, Lined}

-- what is stored, with the lines that are left, ends as it would from the start
pub record Left (text : List ℕ) (c₀ : State) (at₀ : ℕ) (c : State) (at : ℕ) (old now : List ℕ → Buffers) : Type 0 where
  pub same : (codes : List ℕ) → filled_from c (now codes) (split (drop at text)) ≡ filled_from c₀ (old codes) (split (drop at₀ text))
  pub runs : Runs text c at

-- what is read and stored of the header, with the lines that are left, ends alike
pub record Headed (text : List ℕ) (lines : ℕ) (carried₀ carried : List ℕ) (h : HeadRest) (at i : ℕ) : Type 0 where
  pub same_head : head_from (lines - i) (rest_of h) (split (drop at text)) ≡ head_from lines nothing_read (split text)
  pub same_carried : carried_from (lines - i) (rest_of h) carried (split (drop at text)) ≡ carried_from lines nothing_read carried₀ (split text)
  pub lined : Lined (drop at text)
  pub inside : at ≤ length text
  pub few_lines : h.lines ≤ at
  pub few_bytes : h.carried ≤ at
  pub size : length carried ≡ length carried₀
