-- ONLY CODES THE TABLES KNOW: each code of a list that some text spells is taken. Assumes nothing.
use Prim.Native.Nat.{ℕ, zero, suc, ◌+◌, ◌*◌, ◌/◌, ◌≤◌, ◌<◌}
use mathlib.Core.Path.{◌≡◌, refl, sym, ap, ◌∙◌}
use mathlib.Core.Bool.{Bool, true, false, true≢false}
use mathlib.Core.List.{List, [], ◌∷◌, map}
use native.Mathlib.Omega.{arith}
use lib.Dec.{eqb, ltb}
use lib.ListN.{length, get_or, length-map, get_or-map}
use borrow.Author.Tests.{eqb-true, ltb-true, ltb-false, le-leb}
use Rattle.lists.specs.Lists.{All, place}
use Rattle.lists.proofs.Lists.{all_at}
use Rattle.lists.proofs.Places.{place_at}
use Rattle.line.proofs.Columns.{plain_at}
use Rattle.rinex.specs.Codes.{is_taken}
use Rattle.rinex.specs.File.{Row, Epoch, File}
use Rattle.rinex.specs.Tables.{packed, FlatEpoch, all_rows, FlatHead, flat_head, Counts, counts, Buffers, laid_codes, laid, room, CodesFit}
use Rattle.rinex.specs.Fit.{unpacked}
use Rattle.rinex.specs.Normal.{normal, normal_epoch}
use Rattle.rinex.specs.Answers.{Answer, not_declared, answer_at, answer}
use Rattle.rinex.specs.Promises.{taken, Read, Spelled, WriteReply, written, no_text, no_place, Writes, EpochSpelled, Slotted}
use Rattle.rinex.specs.Theorems.{Unlisted}
use Rattle.rinex.specs.Theorems
use Rattle.rinex.proofs.Forms.{IsTaken, taken_form, AreLists, head_lists}
use Rattle.rinex.proofs.OneTables.{code_held}
use Rattle.rinex.proofs.LentLists.{unpacked_packed}
use Rattle.rinex.proofs.ColumnSlots.{no_row, row_at, row_form, system_of, slot_of}
use Rattle.rinex.proofs.RoundTrip.{round_trip}

abbrev lengths_of : List (List (List ℕ)) → List ℕ
lengths_of lists = map (λ (cs : List (List ℕ)). length cs) lists

-- a list that is not empty is one of them
one_of : (lists : List (List (List ℕ))) (s i : ℕ) → i < length (get_or lists s []) → s < length lists
one_of [] s i h = absurd (omega arith)
one_of (cs ∷ lists) zero i h = omega arith
one_of (cs ∷ lists) (suc s) i h = let g : s < length lists = one_of lists s i h in omega arith

-- the lists of a header, as they lie in a table of codes
module _ (letter : ℕ) (lists : List (List (List ℕ))) (codes : List ℕ) (seven : length lists ≡ 7) (form : AreLists letter lists) (fits : CodesFit (length codes) lists)
    (lie : laid_codes 0 lists codes ≡ codes) (s i : ℕ) where
  held_taken : i < get_or (lengths_of lists) s 0 → is_taken s (unpacked (get_or codes (64 * s + i) 0)) ≡ true
  held_taken h =
      let n : i < length (get_or lists s []) = omega (arith, h, get_or-map (λ (cs : List (List ℕ)). length cs) lists s []) in
      let w : s < 7 = omega (arith, one_of lists s i n, seven) in
      let c : List ℕ = get_or (get_or lists s []) i [] in
      let t : IsTaken s c = all_at (IsTaken s) [] (get_or lists s []) i (form s w).codes n in
      let f = taken_form s c t in
      ap (is_taken s) (ap unpacked (code_held letter lists codes seven form fits lie s i w n) ∙ unpacked_packed c f.long (λ j. plain_at c j f.bytes)) ∙ t

tables : (h : FlatHead) (n : Counts) (b : Buffers) (f : File) (s i : ℕ) → Spelled h n b f → Unlisted h.lengths b s i → ⊥
unfolding laid flat_head room
tables h n b f s i p u =
    let l : get_or h.lengths s 0 ≡ get_or (lengths_of f.head.lists) s 0 = ap (λ (x : FlatHead). get_or x.lengths s 0) p.hold.head in
    true≢false (sym (held_taken f.head.letter f.head.lists b.codes p.spells.header.systems (head_lists p.spells.header_lines f.head p.spells.header) p.hold.fits.codes
    (ap (λ (x : Buffers). x.codes) p.hold.entries) s i (omega (arith, u.in_list, l))) ∙ u.not_taken)

epoch : (lengths : List ℕ) (p : FlatEpoch) (b : Buffers) (e : Epoch) (s i : ℕ) → EpochSpelled lengths p b e → Unlisted lengths b s i → ⊥
epoch lengths p b e s i q u =
    let h = q.header in
    let l : get_or lengths s 0 ≡ get_or (lengths_of q.lists) s 0 = ap (λ (x : List ℕ). get_or x s 0) q.lengths_are in
    true≢false (sym (held_taken h.head.letter q.lists b.codes (ap length h.same ∙ h.header.systems) (rw h.same (head_lists h.lines h.head h.header)) q.codes_fit q.codes
    s i (omega (arith, u.in_list, l))) ∙ u.not_taken)

read : (t : List ℕ) (b a : Buffers) (h : FlatHead) (n : Counts) (s i : ℕ) → Read t b a (taken h n) → Unlisted h.lengths a s i → ⊥
read t b a h n s i r u = let x = round_trip.held t b a h n r in tables h n a x.0 s i x.2 u

-- where nothing can be written, that is the reply
none_written : {A : Type 0} (P : A → Type 0) (normal : A → List ℕ) (out after : List ℕ) (at : ℕ) (r : WriteReply) → ((x : A) → P x → ⊥) → Writes P normal out after at r → r ≡ no_text
none_written P normal out after at (written k) n w = absurd (n w.0 w.1)
none_written P normal out after at no_text n w = refl
none_written P normal out after at no_place n w = absurd (n w.0 w.1)

-- a code that is not taken is in no list of taken ones
not_in : (s code : ℕ) (cs : List (List ℕ)) → All (IsTaken s) cs → is_taken s (unpacked code) ≡ false → length cs ≤ place eqb code (map packed cs)
not_in s code cs h n = at (ltb (place eqb code (map packed cs)) (length cs)) refl
  where
    at : (b : Bool) → ltb (place eqb code (map packed cs)) (length cs) ≡ b → length cs ≤ place eqb code (map packed cs)
    at true e =
        let i : ℕ = place eqb code (map packed cs) in
        let m : i < length cs = ltb-true i (length cs) e in
        let c : List ℕ = get_or cs i [] in
        let t : IsTaken s c = all_at (IsTaken s) [] cs i h m in
        let f = taken_form s c t in
        let p : packed c ≡ code = sym (get_or-map packed cs i []) ∙ place_at eqb eqb-true 0 code (map packed cs) (omega (arith, m, length-map cs packed)) in
        let u : unpacked code ≡ c = ap unpacked (sym p) ∙ unpacked_packed c f.long (λ j. plain_at c j f.bytes) in
        absurd (true≢false (sym (ap (is_taken s) u ∙ t) ∙ n))
    at false e = ltb-false (place eqb code (map packed cs)) (length cs) e

slot : (h : FlatHead) (n : Counts) (b : Buffers) (f : File) (row code : ℕ) (a : Answer) → Spelled h n b f → row < n.rows
    → is_taken (get_or b.satellites row 0 / 100) (unpacked code) ≡ false → Slotted h n b row code a → a ≡ not_declared
unfolding counts answer answer_at
slot h n b f row code a p m t q =
    let rs : List Row = all_rows f.epochs in
    let here : row < length rs = omega (arith, m, ap (λ (x : Counts). x.rows) p.hold.lengths) in
    let r : Row = get_or rs row no_row in
    let y : ℕ = r.system in
    let e : get_or b.satellites row 0 / 100 ≡ y = system_of h n b f p row here in
    let form = head_lists p.spells.header_lines f.head p.spells.header y (row_form h n b f p row here).system in
    let k : length (get_or f.head.lists y []) ≤ place eqb code (map packed (get_or f.head.lists y [])) =
    not_in y code (get_or f.head.lists y []) form.codes (sym (ap (λ (x : ℕ). is_taken x (unpacked code)) e) ∙ t) in
    slot_of h n b f p row code a q ∙ (row_at f.head.lists rs row code here ∙ rw (le-leb _ _ k))

pub only_tabled : Theorems.OnlyTabled
only_tabled =
    record {
      tables = tables;
      epoch = epoch;
      read = read;
      write = λ h n b out after at r s i u w. none_written (Spelled h n b) normal out after at r (λ f p. tables h n b f s i p u) w;
      write_epoch = λ lengths p b out after at r s i u w. none_written (EpochSpelled lengths p b) normal_epoch out after at r (λ e q. epoch lengths p b e s i q u) w;
      slot = slot;
    }
