-- What an answer says, and the texts that the functions inside put together.
use Rattle.std.specs.Prelude.{ℕ, ◌≤◌, ◌≡◌, List, [], ◌∷◌, ◌++◌, length, take, replicate}
use Rattle.std.proofs.lemmas.List.Edits.{sets}
use Rattle.write_field.specs.Normal.{digits}
use Rattle.summary_text.specs.declared.SummaryText.{SummaryText}

-- the first bytes, as many as it says
abbrev pub said : SummaryText → List ℕ
said r = take r.size r.bytes

-- it has as many bytes, and those behind them are 0
pub record ZeroBehind (r : SummaryText) : Type 0 where
  pub within : r.size ≤ length r.bytes
  pub rest : r.bytes ≡ sets (replicate 160 0) 0 (said r)

-- an answer that says t
pub record Says (t : List ℕ) (r : SummaryText) : Type 0 where
  pub is : said r ≡ t
  pub whole : ZeroBehind r

-- a name, a number and an LF
unfoldable pub numbered : List ℕ → ℕ → List ℕ
numbered name n = name ++ (digits 20 n ++ (10 ∷ []))
