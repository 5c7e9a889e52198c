-- The header's second pass, one line at a time: what a line leaves by its label, and the lines that are left end alike. Assumes nothing.
use Prim.Native.Nat.{ℕ, zero, suc, ◌+◌, ◌≤◌, ◌<◌}
use mathlib.Core.Path.{◌≡◌, refl, sym, ap, subst, ◌∙◌}
use mathlib.Core.Bool.{true}
use mathlib.Core.List.{List, [], ◌∷◌, ◌++◌, map}
use native.Mathlib.Omega.{arith}
use borrow.Author.Tests.{le-ltb}
use lib.ListN.{length, drop}
use Rattle.lists.specs.Lists.{All}
use Rattle.lists.proofs.Lists.{cons_same, cons_nil}
use Rattle.line.specs.Text.{cut, widest, Line, Raw, split, raw}
use Rattle.find_line.specs.Promises.{between, LineEnds}
use Rattle.label.specs.declared.Label.{Label}
use Rattle.label.specs.declared.Label.TheVariants.{Version, ObsTypes, FirstObs, Interval, EndOfHeader, ScaleFactor, MarkerName, Other, Unknown}
use Rattle.label.specs.Labels.{label_of}
use Rattle.line.proofs.Columns.{length_cut}
use Rattle.line.proofs.Texts.{split_text}
use Rattle.find_line.proofs.Finding.{line_there}
use Rattle.fill.specs.declared.HeadRest.{HeadRest}
use Rattle.fill.specs.Fill.{HeadRead, head_after, carried_put, head_from, carried_from}
use Rattle.rinex.specs.File.{File}
use Rattle.rinex.specs.Spells.{Spells}
use Rattle.rinex.specs.Refusals.{refusal1, refusal2}
use Rattle.judge.specs.Reached.{EndsAt}
use Rattle.fill.specs.Filling.{rest_of, Lined, HeadPut}

-- A LINE THAT IS CARRIED
pub put_carried : (h : HeadRest) (l old new : List ℕ) (n : ℕ) → n ≡ h.carried + (length (cut l) + 1) → new ≡ carried_put (rest_of h) l Other old
    → HeadPut h (record { first = h.first; time_system = h.time_system; interval = h.interval; lines = h.lines + 1; carried = n }) l Other old new
unfolding head_after
put_carried h l old new n e p = record { head = rw e; carried = p }

-- what is counted grows by no more than the line
pub record Grown (h r : HeadRead) (l : List ℕ) : Type 0 where
  pub lines : r.lines ≤ h.lines + 1
  pub carried : r.carried ≤ h.carried + (length l + 1)

grown_at : (h : HeadRead) (l : List ℕ) (k : Label) → Grown h (head_after h l k) l
unfolding head_after
grown_at h l Version = record { lines = omega arith; carried = omega arith }
grown_at h l ObsTypes = record { lines = omega arith; carried = omega arith }
grown_at h l FirstObs = record { lines = omega arith; carried = omega arith }
grown_at h l Interval = record { lines = omega arith; carried = omega arith }
grown_at h l EndOfHeader = record { lines = omega arith; carried = omega arith }
grown_at h l ScaleFactor = record { lines = omega arith; carried = omega arith }
grown_at h l MarkerName = record { lines = omega arith; carried = omega (arith, length_cut l) }
grown_at h l Other = record { lines = omega arith; carried = omega (arith, length_cut l) }
grown_at h l Unknown = record { lines = omega arith; carried = omega arith }

pub grown : (h r : HeadRest) (l : List ℕ) (k : Label) (old new : List ℕ) → HeadPut h r l k old new → Grown (rest_of h) (rest_of r) l
grown h r l k old new p = subst (λ (x : HeadRead). Grown (rest_of h) x l) (sym p.head) (grown_at (rest_of h) l k)

-- LINE AFTER LINE
pub head_more : (n m : ℕ) (h h' : HeadRead) (ws vs : List Raw) (w : Raw) → n ≡ suc m → ws ≡ w ∷ vs → h' ≡ head_after h w.bytes (label_of w.bytes) → head_from m h' vs ≡ head_from n h ws
unfolding head_from
head_more n m h h' ws vs w e d p = rw (e, d, p)

pub carried_more : (n m : ℕ) (h h' : HeadRead) (b b' : List ℕ) (ws vs : List Raw) (w : Raw) → n ≡ suc m → ws ≡ w ∷ vs
    → h' ≡ head_after h w.bytes (label_of w.bytes) → b' ≡ carried_put h w.bytes (label_of w.bytes) b → carried_from m h' b' vs ≡ carried_from n h b ws
unfolding carried_from
carried_more n m h h' b b' ws vs w e d p q = rw (e, d, p, q)

-- no line is left
pub head_over_lem : (n : ℕ) (h : HeadRead) (ws : List Raw) → ws ≡ [] → head_from n h ws ≡ h
unfolding head_from
head_over_lem zero h ws e = refl
head_over_lem (suc n) h ws e = rw e

pub carried_over_lem : (n : ℕ) (h : HeadRead) (b : List ℕ) (ws : List Raw) → ws ≡ [] → carried_from n h b ws ≡ b
unfolding carried_from
carried_over_lem zero h b ws e = refl
carried_over_lem (suc n) h b ws e = rw e

-- nor is one to be read
pub head_done : (n : ℕ) (h : HeadRead) (ws : List Raw) → n ≡ 0 → head_from n h ws ≡ h
unfolding head_from
head_done n h ws e = rw e

pub carried_done : (n : ℕ) (h : HeadRead) (b : List ℕ) (ws : List Raw) → n ≡ 0 → carried_from n h b ws ≡ b
unfolding carried_from
carried_done n h b ws e = rw e

-- LINES THAT MAY STAND IN A TEXT
lined_at : (s : List ℕ) (ls : List (List ℕ)) (w : Raw) (ws : List Raw) → split s ≡ map raw ls → All Line ls → split s ≡ w ∷ ws
    → (w.ended ≡ true) × Line w.bytes × ((s' : List ℕ) → split s' ≡ ws → Lined s')
lined_at s [] w ws e a d = absurd (cons_nil _ _ (sym d ∙ e))
lined_at s (l ∷ ls) w ws e a d =
    let p = cons_same (sym d ∙ e) in (
      ap (λ (x : Raw). x.ended) p.0,
      subst (λ (x : Raw). Line x.bytes) (sym p.0) a.0,
      λ s' f. record { lines = ls; are = f ∙ p.1; each = a.1 },
    )

-- those of a text that spells a file
pub spells_lined : (t : List ℕ) (f : File) → Spells t f → Lined t
spells_lined t f s =
    record {
      lines = s.header_lines ++ s.data_lines;
      are = ap split s.whole ∙ split_text (s.header_lines ++ s.data_lines) s.lines;
      each = s.lines;
    }

pub lined_next : (t : List ℕ) (a e : ℕ) → Lined (drop a t) → LineEnds t a e → Lined (drop (e + 1) t)
lined_next t a e s f = (lined_at (drop a t) s.lines _ _ s.are s.each f.lines).2 (drop (e + 1) t) refl

-- the line that comes first ends there
pub lined_ends : (t : List ℕ) (a e : ℕ) → a < length t → Lined (drop a t) → EndsAt t a e → LineEnds t a e × Line (between a e t)
unfolding refusal1 refusal2
lined_ends t a e h s f =
    let p = line_there t a h in
    let q = lined_at (drop a t) s.lines p.0 p.1 s.are s.each p.2 in
    f p.0 p.1 p.2 (rw (q.1.plain, q.0)) (le-ltb widest (length p.0.bytes) q.1.width)
