-- THE JUDGE AND THE RULE AGREE: accepted are exactly the texts that spell a file for which there is room; and no text spells two files. Assumes nothing.
use Prim.Native.Nat.{ℕ, ◌≤◌}
use mathlib.Core.Path.{◌≡◌, refl, ap, sym, subst, ◌∙◌}
use mathlib.Core.Bool.{Bool, true, false, cond}
use mathlib.Core.List.{List, ◌++◌}
use native.Mathlib.Omega.{arith}
use lib.Dec.{ltb}
use lib.ListN.{length}
use borrow.Author.Tests.{ltb-false, le-ltb}
use Rattle.lists.specs.Lists.{All}
use Rattle.line.specs.Text.{text, Line, longest, Raw, split}
use Rattle.line.proofs.Texts.{text_of, split_text, lines_one}
use Rattle.rinex.specs.File.{File, Head, Epoch}
use Rattle.rinex.specs.Data.{DataLines}
use Rattle.rinex.specs.Spells.{Spells}
use Rattle.rinex.specs.Tables.{Room, Counts, counts, Fits}
use Rattle.rinex.specs.Refusals.{State, start, Verdict, accepted, refused, judge, verdict}
use Rattle.rinex.specs.Theorems.{Taken}
use Rattle.rinex.proofs.Reach.{Lines, judge_to, judge_back}
use Rattle.rinex.proofs.Counting.{Within, add_all, head_counts, counts_same, counted, carried_first}
use Rattle.rinex.proofs.DataSound.{data_sound}
use Rattle.rinex.proofs.DataComplete.{data_complete}
use Rattle.rinex.proofs.OneData.{data_one}
use Rattle.rinex.proofs.Headers.{After, Headed, header_sound, header_complete}
use Rattle.rinex.proofs.OneHeader.{header_one}
use Rattle.rinex.specs.Theorems

used_after : (h : Head) (s : State) → After h s → s.used ≡ head_counts h.carried
used_after h s a = counts_same _ _ a.epochs a.rows a.slots a.carried

-- the counts of a text that is taken
total : (f : File) (s : State) → After f.head s → add_all s.used f.epochs ≡ counts f
total f s a = ap (λ (x : Counts). add_all x f.epochs) (used_after f.head s a) ∙ counted f

passed_17 : (b : Bool) (v : Verdict) (n : Counts) → cond b (refused 17 0) v ≡ accepted n → (b ≡ false) × (v ≡ accepted n)
passed_17 true v n h = absurd (let z : ◌≡◌ {A = ℕ} 0 1 = cc in omega arith)
passed_17 false v n h = (refl, h)

-- the text of lines that lead from the start through a header and through data to the end
spelled : (r : Room) (t : List ℕ) (n : Counts) → length t ≤ longest → (j : Lines r start (split t) n) (i : Headed r j.lines j.last) (es : List Epoch)
    → DataLines i.state.head.lists i.rest es → j.last.used ≡ counts (record { head = i.head; epochs = es }) → Within r j.last.used → Taken r t n
spelled r t n m j i es d c w =
    let v : Within r (counts (record { head = i.head; epochs = es })) = subst (λ (x : Counts). Within r x) c w in
    record {
      file = record { head = i.head; epochs = es };
      size = m;
      spells =
          record {
            header_lines = i.header;
            data_lines = i.rest;
            whole = text_of t j.lines j.same ∙ ap text i.lines;
            lines = subst (λ (x : List (List ℕ)). All Line x) i.lines j.fit;
            header = i.spelled;
            epochs = subst (λ (x : List (List (List ℕ))). DataLines x i.rest es) i.after.lists d;
          };
      fits = record { codes = i.fits.codes; epochs = v.epochs; rows = v.rows; slots = v.slots; carried = v.carried };
      lengths = j.counts ∙ c;
    }

headed : (r : Room) (t : List ℕ) (n : Counts) → length t ≤ longest → (j : Lines r start (split t) n) → Headed r j.lines j.last → Taken r t n
headed r t n m j i =
    let a = i.after in
    let w : Within r i.state.used =
    record {
      epochs = omega (arith, a.epochs);
      rows = omega (arith, a.rows);
      slots = omega (arith, a.slots);
      carried = omega (arith, a.carried, i.fits.carried);
    } in
    let d = data_sound r i.state.head j.last j.place i.state i.rest a.place a.last refl w i.reach in
    spelled r t n m j i d.0 d.1 (d.2 ∙ total (record { head = i.head; epochs = d.0 }) i.state a) d.3

sound : (r : Room) (t : List ℕ) (n : Counts) → verdict r t ≡ accepted n → Taken r t n
unfolding verdict
sound r t n h =
    let p = passed_17 (ltb longest (length t)) (judge r start 1 (split t)) n h in
    let j = judge_to r n (split t) start 1 p.1 in
    headed r t n (ltb-false _ _ p.0) j (header_sound r j.last j.place j.lines j.reach)

complete : (r : Room) (t : List ℕ) (f : File) → length t ≤ longest → Spells t f → Fits r f → verdict r t ≡ accepted (counts f)
unfolding verdict
complete r t f m s w =
    let hs : List (List ℕ) = s.header_lines in
    let ds : List (List ℕ) = s.data_lines in
    let i = header_complete r hs f.head s.header (record { codes = w.codes; carried = carried_first f w.carried }) in
    let a = i.1 in
    let v : Within r (counts f) = record { epochs = w.epochs; rows = w.rows; slots = w.slots; carried = w.carried } in
    let x : DataLines i.0.head.lists ds f.epochs = subst (λ (x : List (List (List ℕ))). DataLines x ds f.epochs) (sym a.lists) s.epochs in
    let e = data_complete r i.0.head (counts f) i.0 ds f.epochs a.place a.last refl x v (total f i.0 a) in
    let k = judge_back r (hs ++ ds) start e.last 1 s.lines (i.2 ds e.last e.reach) e.place in
    let l : ltb longest (length t) ≡ false = le-ltb _ _ m in
    rw l (ap (λ (x : List Raw). judge r start 1 x) (ap split s.whole ∙ split_text (hs ++ ds) s.lines) ∙ (k ∙ ap accepted e.used))

pub agree : Theorems.Agree
agree = record { sound = sound; complete = complete }

pub one_of_text : Theorems.OneOfText
one_of_text t f g a b =
    let q = lines_one (a.header_lines ++ a.data_lines) (b.header_lines ++ b.data_lines) a.lines b.lines (sym a.whole ∙ b.whole) in
    let o = header_one a.header_lines b.header_lines a.data_lines b.data_lines f.head g.head a.header b.header q in
    let x : DataLines g.head.lists b.data_lines f.epochs =
    subst (λ (h : Head). DataLines h.lists b.data_lines f.epochs) o.2 (subst (λ (y : List (List ℕ)). DataLines f.head.lists y f.epochs) o.1 a.epochs) in
    let y : f.epochs ≡ g.epochs = data_one g.head.lists b.data_lines f.epochs g.epochs x b.epochs in
    ap (λ (h : Head). record { head = h; epochs = f.epochs }) o.2 ∙ ap (λ (es : List Epoch). record { head = g.head; epochs = es }) y
