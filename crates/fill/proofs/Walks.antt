-- Lines of the header, walked through one after the other: the state and the table of codes behind them. Assumes nothing.
use Prim.Native.Nat.{ℕ, ◌+◌}
use mathlib.Core.Path.{◌≡◌, refl, ap, sym, ◌∙◌}
use mathlib.Core.Bool.{true}
use mathlib.Core.List.{List, [], ◌∷◌, ◌++◌, map, append_assoc}
use native.Mathlib.Nat.{add-zero}
use native.Mathlib.Omega.{arith}
use lib.ListN.{length, length-append}
use Rattle.line.specs.Text.{Raw, raw}
use Rattle.state.specs.declared.State.{State}
use Rattle.state.specs.declared.Stage.{Stage}
use Rattle.state.specs.declared.Stage.TheVariants as stages
use Rattle.state.specs.Judge.{in_heading, next_at, table_at}
use Rattle.judge.specs.Ending.{Ended, more, after_header}
use Rattle.judge.proofs.Opening.{none_more}

-- these lines lead from a state and a table to others, within the header
abbrev pub Walks : State → List ℕ → List (List ℕ) → State → List ℕ → Type 0
Walks c t ls c' t' = (ms : List (List ℕ)) → after_header c t (map raw (ls ++ ms)) ≡ more (length ls) (after_header c' t' (map raw ms))

more_same : (m n : ℕ) (e : Ended) → m ≡ n → more m e ≡ more n e
more_same m n e h = ap (λ (k : ℕ). more k e) h

more_more : (m n : ℕ) (e : Ended) → more m (more n e) ≡ more (m + n) e
more_more m n e = ap (λ (k : ℕ). record { lines = k; state = e.state; table = e.table; rest = e.rest }) (omega arith)

pub walk_none : (c : State) (t : List ℕ) → Walks c t [] c t
walk_none c t ms = none_more (after_header c t (map raw ms))

pub walk_one : (c : State) (t l : List ℕ) (k : Stage) → c.stage ≡ k → in_heading k ≡ true → Walks c t (l ∷ []) (next_at k c l) (table_at k c l t)
unfolding after_header
walk_one c t l k h b ms = rw (h, b)

pub walk_on : (c c' c'' : State) (t t' t'' : List ℕ) (a b : List (List ℕ)) → Walks c t a c' t' → Walks c' t' b c'' t'' → Walks c t (a ++ b) c'' t''
walk_on c c' c'' t t' t'' a b v w ms =
    ap (λ (x : List (List ℕ)). after_header c t (map raw x)) (append_assoc a b ms)
    ∙ (v (b ++ ms) ∙ (ap (more (length a)) (w ms) ∙ (more_more (length a) (length b) _ ∙ more_same _ _ _ (sym (length-append a b)))))

pub walk_to : (c c₁ c₂ : State) (t t₁ t₂ : List ℕ) (ls : List (List ℕ)) → c₁ ≡ c₂ → t₁ ≡ t₂ → Walks c t ls c₁ t₁ → Walks c t ls c₂ t₂
walk_to c c₁ c₂ t t₁ t₂ ls p q w ms = w ms ∙ ap (more (length ls)) (ap (λ (x : State). after_header x t₁ (map raw ms)) p ∙ ap (λ (x : List ℕ). after_header c₂ x (map raw ms)) q)

-- where the first epoch is due, the header is at its end
at_end : (c : State) (t : List ℕ) (ws : List Raw) → c.stage ≡ stages.Epoch → after_header c t ws ≡ record { lines = 0; state = c; table = t; rest = ws }
unfolding after_header
at_end c t [] h = refl
at_end c t (w ∷ ws) h = rw h

pub walk_end : (c c' : State) (t t' : List ℕ) (ls ms : List (List ℕ)) → Walks c t ls c' t' → c'.stage ≡ stages.Epoch
    → after_header c t (map raw (ls ++ ms)) ≡ record { lines = length ls; state = c'; table = t'; rest = map raw ms }
walk_end c c' t t' ls ms w h =
    w ms ∙ (ap (more (length ls)) (at_end c' t' (map raw ms) h)
    ∙ ap (λ (k : ℕ). record { lines = k; state = c'; table = t'; rest = map raw ms }) (add-zero (length ls)))
