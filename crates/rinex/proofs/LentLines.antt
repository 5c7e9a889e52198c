-- Times and carried lines in lent tables: what the tests of `specs/Fit` find is what the form of a file asks, both ways. Assumes nothing.
use Prim.Native.Nat.{ℕ, ◌≤◌, ◌<◌}
use mathlib.Core.Path.{◌≡◌, refl, sym, ap, ◌∙◌}
use mathlib.Core.Bool.{Bool, true, false, cond, not, ◌||◌}
use mathlib.Core.List.{List, [], ◌∷◌, ◌++◌, map, append_assoc}
use Rattle.std.specs.Prelude.{Some}
use native.Mathlib.Omega.{arith}
use lib.Dec.{eqb}
use lib.ListN.{length, take}
use lib.Seq.{take-append_seam}
use borrow.Author.Tests.{eqb-true, lt-ltb, ltb-true, not-true}
use Rattle.lists.specs.Lists.{All, Each, same}
use Rattle.lists.specs.Blank.{Blank}
use Rattle.lists.proofs.Bools.{both, all_of}
use Rattle.lists.proofs.Lists.{same_true, eq_same}
use Rattle.moment.specs.Found.{date_at}
use Rattle.moment.proofs.Days.{instant_below}
use Rattle.moment.proofs.DateAt.{date_there}
use Rattle.line.specs.Text.{text, widest, are_plain, Line, past, cut, Raw, onto, split, raw}
use Rattle.label.specs.declared.Label.TheVariants.{MarkerName, Unknown}
use Rattle.label.specs.Labels.{is, label_of, carried_in_header, barred_from_events}
use Rattle.line.proofs.Columns.{cut_short}
use Rattle.rinex.specs.Data.{EventLine, any_marker_name}
use Rattle.rinex.specs.Fit.{times_end, is_time, is_held, header_lines_fit, event_lines_fit, some_marker}
use Rattle.rinex.proofs.Forms.{Timed, Kept}

-- times: below the end are those of the dates that there are
pub time_back : (t : ℕ) → Timed (Some t) → is_time t ≡ true
time_back t h = lt-ltb t times_end (omega (arith, h.2, instant_below h.0 h.1))

pub time_found : (t : ℕ) → is_time t ≡ true → Timed (Some t)
time_found t h = let d = date_there t (ltb-true t times_end h) in (date_at t, d.0, d.1)

-- a run of bytes from its lines
together : List Raw → List ℕ
together [] = []
together (w ∷ ws) = w.bytes ++ cond w.ended (10 ∷ together ws) (together ws)

together_onto : (b : ℕ) (ws : List Raw) → together (onto b ws) ≡ b ∷ together ws
unfolding together onto
together_onto b [] = refl
together_onto b (w ∷ ws) = refl

together_split : (t : List ℕ) → together (split t) ≡ t
unfolding together split
together_split [] = refl
together_split (b ∷ bs) = at (eqb b 10) refl (together_split bs)
  where
    at : (c : Bool) → eqb b 10 ≡ c → together (split bs) ≡ bs → together (cond c (raw [] ∷ split bs) (onto b (split bs))) ≡ b ∷ bs
    at true e h = rw (eqb-true b 10 e, h)
    at false e h = together_onto b (split bs) ∙ ap (λ (x : List ℕ). b ∷ x) h

together_text : (ls : List (List ℕ)) (ws : List Raw) → together (map raw ls ++ ws) ≡ text ls ++ together ws
unfolding together
together_text [] ws = refl
together_text (l ∷ ls) ws = rw (together_text ls ws) (sym (append_assoc l (10 ∷ text ls) (together ws)))

-- it begins with the text of its first lines, where each has its LF
pub begins_text : (t : List ℕ) (ls : List (List ℕ)) (ws : List Raw) → split t ≡ map raw ls ++ ws → take (length (text ls)) t ≡ text ls
begins_text t ls ws h =
    let e : t ≡ text ls ++ together ws = sym (together_split t) ∙ (ap together h ∙ together_text ls ws) in
    rw e (take-append_seam (text ls) (together ws))

-- a line as it is held
pub record Held (w : Raw) : Type 0 where
  pub raw_is : w ≡ raw w.bytes
  pub line : Line w.bytes
  pub kept : w.bytes ≡ cut w.bytes
  pub rest : Blank (past 80 w.bytes)

held_found : (w : Raw) → is_held w ≡ true → Held w
held_found w h =
    let p = both w.ended _ h in
    let q = both (are_plain w.bytes) _ p.1 in
    let r = both (same (cut w.bytes) w.bytes) _ q.1 in
    let k : w.bytes ≡ cut w.bytes = sym (same_true (cut w.bytes) w.bytes r.0) in
    let m : length w.bytes ≤ 80 = cut_short w.bytes 80 k r.1 in
    record { raw_is = ap (λ (x : Bool). record { bytes = w.bytes; ended = x }) p.0; line = record { plain = q.0; width = omega arith }; kept = k; rest = r.1 }

-- a longer line is none
pub too_long : (l : List ℕ) → widest < length l → is_held (raw l) ≡ false
too_long l h = go (is_held (raw l)) refl
  where
    go : (b : Bool) → is_held (raw l) ≡ b → b ≡ false
    go true e = let m = (held_found (raw l) e).line.width in absurd (omega arith)
    go false e = refl

held_back : (c : List ℕ) → Line c → c ≡ cut c → Blank (past 80 c) → is_held (raw c) ≡ true
held_back c l k r = rw (l.plain, eq_same (cut c) c (sym k)) r

pub record HeaderLinesFound (ws : List Raw) : Type 0 where
  pub lines : List (List ℕ)
  pub raws : ws ≡ map raw lines
  pub line : All Line lines
  pub kept : All Kept lines

pub header_lines_found : (ws : List Raw) → header_lines_fit ws ≡ true → HeaderLinesFound ws
unfolding header_lines_fit
header_lines_found [] h = record { lines = []; raws = refl; line = tt; kept = tt }
header_lines_found (w ∷ ws) h =
    let p = both (is_held w) _ h in
    let q = both (carried_in_header (label_of w.bytes)) _ p.1 in
    let k = held_found w p.0 in
    let r = header_lines_found ws q.1 in
    record {
      lines = w.bytes ∷ r.lines;
      raws = let x = k.raw_is in let y = r.raws in λ i. x i ∷ y i;
      line = (k.line, r.line);
      kept = (record { kept = k.kept; label = q.0; rest = k.rest }, r.kept);
    }

pub header_lines_back : (cs : List (List ℕ)) → All Line cs → All Kept cs → header_lines_fit (map raw cs) ≡ true
unfolding header_lines_fit
header_lines_back [] a k = refl
header_lines_back (c ∷ cs) a k =
    all_of (is_held (raw c)) _ (held_back c a.0 k.0.kept k.0.rest) (all_of (carried_in_header (label_of c)) _ k.0.label (header_lines_back cs a.1 k.1))

pub record EventLinesFound (ws : List Raw) : Type 0 where
  pub lines : List (List ℕ)
  pub raws : ws ≡ map raw lines
  pub line : All Line lines
  pub kept : Each EventLine lines lines

pub event_lines_found : (ws : List Raw) → event_lines_fit ws ≡ true → EventLinesFound ws
unfolding event_lines_fit
event_lines_found [] h = record { lines = []; raws = refl; line = tt; kept = tt }
event_lines_found (w ∷ ws) h =
    let p = both (is_held w) _ h in
    let q = both (not (is Unknown (label_of w.bytes))) _ p.1 in
    let u = both (not (barred_from_events (label_of w.bytes))) _ q.1 in
    let k = held_found w p.0 in
    let r = event_lines_found ws u.1 in
    record {
      lines = w.bytes ∷ r.lines;
      raws = let x = k.raw_is in let y = r.raws in λ i. x i ∷ y i;
      line = (k.line, r.line);
      kept = (record { kept = k.kept; known = not-true _ q.0; not_barred = not-true _ u.0; rest = k.rest }, r.kept);
    }

pub event_lines_back : (cs : List (List ℕ)) → All Line cs → Each EventLine cs cs → event_lines_fit (map raw cs) ≡ true
unfolding event_lines_fit
event_lines_back [] a k = refl
event_lines_back (c ∷ cs) a k =
    all_of (is_held (raw c)) _ (held_back c a.0 k.0.kept k.0.rest) (rw (k.0.known, k.0.not_barred) (event_lines_back cs a.1 k.1))

pub marker_raw : (cs : List (List ℕ)) → some_marker (map raw cs) ≡ any_marker_name cs
unfolding some_marker
marker_raw [] = refl
marker_raw (c ∷ cs) = ap (λ (x : Bool). is MarkerName (label_of c) || x) (marker_raw cs)
