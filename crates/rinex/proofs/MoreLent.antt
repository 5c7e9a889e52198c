-- LONGER BUFFERS: what reading answers and leaves in two sets of them. Assumes nothing.
use Prim.Native.Nat.{ℕ, ◌+◌, ◌*◌, ◌≤◌, ◌<◌, min}
use mathlib.Core.Path.{◌≡◌, ap, sym, subst, ◌∙◌}
use mathlib.Core.List.{List, [], map}
use native.Mathlib.Omega.{arith}
use lib.ListN.{length, length-map, get_or, get_or-map}
use lib.Seq.{sets}
use Rattle.lists.proofs.Apart.{stores_there}
use Rattle.rinex.specs.File.{Slot, Epoch, File, satellite}
use Rattle.rinex.specs.Tables.{state_of, number_of, signed_of, mark_of, time_of, flag_of, count_of, clock_of, packed, all_rows, all_slots, carried_bytes, FlatHead, flat_head, counts, Buffers, laid_codes, laid, room, Fits, CodesFit}
use Rattle.rinex.specs.Refusals.{Verdict, accepted, refused, verdict}
use Rattle.rinex.specs.Promises.{ReadReply, taken, turned_away, Read}
use Rattle.rinex.specs.MoreRoom.{NoLess, NowhereShorter, SameFirst, SameTables, SameInUse}
use Rattle.rinex.specs.Theorems
use Rattle.rinex.proofs.Agree.{agree, one_of_text}
use Rattle.rinex.proofs.Forms.{FileForm, file_form}
use Rattle.rinex.proofs.OneTables.{fit, codes_held}
use Rattle.rinex.proofs.MoreRoom.{more_room}

min_less : (a b c d : ℕ) → a ≤ c → b ≤ d → min a b ≤ min c d
min_less a b c d h k = omega arith

-- the room of longer buffers is no less
room_no_less : (b c : Buffers) → NowhereShorter b c → NoLess (room b) (room c)
unfolding room
room_no_less b c m =
    record {
      codes = m.codes;
      epochs =
          min_less _ _ _ _ m.times (min_less _ _ _ _ m.time_states (min_less _ _ _ _ m.flags
          (min_less _ _ _ _ m.counts (min_less _ _ _ _ m.clocks m.clock_states))));
      rows = m.satellites;
      slots = min_less _ _ _ _ m.numbers (min_less _ _ _ _ m.states (min_less _ _ _ _ m.losses m.strengths));
      carried = m.carried;
    }

-- what the room of a table holds, each of its buffers does
record InEach (b : Buffers) (n k : ℕ) : Type 0 where
  times : n ≤ length b.times
  time_states : n ≤ length b.time_states
  flags : n ≤ length b.flags
  counts : n ≤ length b.counts
  clocks : n ≤ length b.clocks
  clock_states : n ≤ length b.clock_states
  numbers : k ≤ length b.numbers
  states : k ≤ length b.states
  losses : k ≤ length b.losses
  strengths : k ≤ length b.strengths

in_each : (b : Buffers) (n k : ℕ) → n ≤ (room b).epochs → k ≤ (room b).slots → InEach b n k
unfolding room
in_each b n k h l =
    record {
      times = omega (arith, h);
      time_states = omega (arith, h);
      flags = omega (arith, h);
      counts = omega (arith, h);
      clocks = omega (arith, h);
      clock_states = omega (arith, h);
      numbers = omega (arith, l);
      states = omega (arith, l);
      losses = omega (arith, l);
      strengths = omega (arith, l);
    }

-- what is stored from the first entry on is there
module _ {A : Type 0} (b c xs : List A) where
  first_of : length xs ≤ length b → length xs ≤ length c → SameFirst (length xs) (sets b 0 xs) (sets c 0 xs)
  first_of h k = stores_there b 0 xs (omega arith) ∙ sym (stores_there c 0 xs (omega arith))

column : {A B : Type 0} (b c : List A) (g : B → A) (xs : List B) → length xs ≤ length b → length xs ≤ length c → SameFirst (length xs) (sets b 0 (map g xs)) (sets c 0 (map g xs))
column b c g xs h k =
    subst (λ (n : ℕ). SameFirst n (sets b 0 (map g xs)) (sets c 0 (map g xs))) (length-map xs g)
    (first_of b c (map g xs) (omega (arith, length-map xs g)) (omega (arith, length-map xs g)))

module _ (f : File) (form : FileForm f) where
  code_in : (b : List ℕ) → CodesFit (length b) f.head.lists → (s i : ℕ) → s < 7 → i < length (get_or f.head.lists s [])
      → get_or (laid_codes 0 f.head.lists b) (64 * s + i) 0 ≡ packed (get_or (get_or f.head.lists s []) i [])
  code_in b room s i h k =
      let e : 0 + 64 * s + i ≡ 64 * s + i = omega arith in
      let m = form.head.systems in
      subst (λ (x : ℕ). get_or (laid_codes 0 f.head.lists b) x 0 ≡ packed (get_or (get_or f.head.lists s []) i [])) e
      (codes_held f.head.lists 0 b (fit f.head.letter f.head.lists b form.head.systems form.head.lists room) s i (omega arith) k)

  each_alike : (b c : Buffers) → Fits (room b) f → Fits (room c) f → InEach b (counts f).epochs (counts f).slots → InEach c (counts f).epochs (counts f).slots
      → SameTables (flat_head f.head) (counts f) (laid f b) (laid f c)
  unfolding laid counts room flat_head
  each_alike b c p q m n =
      let es : List Epoch = f.epochs in
      let ss : List Slot = all_slots (all_rows f.epochs) in
      record {
        codes = λ s i h d.
            let lists : List (List (List ℕ)) = f.head.lists in
            let e : get_or (map (λ (cs : List (List ℕ)). length cs) lists) s 0 ≡ length (get_or lists s []) = get_or-map (λ (cs : List (List ℕ)). length cs) lists s [] in
            let u : i < length (get_or lists s []) = omega arith in
            code_in b.codes p.codes s i h u ∙ sym (code_in c.codes q.codes s i h u);
        times = column b.times c.times (λ (e : Epoch). number_of (time_of e)) es m.times n.times;
        time_states = column b.time_states c.time_states (λ (e : Epoch). state_of (time_of e)) es m.time_states n.time_states;
        flags = column b.flags c.flags flag_of es m.flags n.flags;
        counts = column b.counts c.counts count_of es m.counts n.counts;
        clocks = column b.clocks c.clocks (λ (e : Epoch). signed_of (clock_of e)) es m.clocks n.clocks;
        clock_states = column b.clock_states c.clock_states (λ (e : Epoch). state_of (clock_of e)) es m.clock_states n.clock_states;
        satellites = column b.satellites c.satellites satellite (all_rows es) p.rows q.rows;
        numbers = column b.numbers c.numbers (λ (s : Slot). signed_of s.value) ss m.numbers n.numbers;
        states = column b.states c.states (λ (s : Slot). state_of s.value) ss m.states n.states;
        losses = column b.losses c.losses (λ (s : Slot). mark_of s.loss) ss m.losses n.losses;
        strengths = column b.strengths c.strengths (λ (s : Slot). mark_of s.strength) ss m.strengths n.strengths;
        carried = first_of b.carried c.carried (carried_bytes f) p.carried q.carried;
      }

  -- the entries in use of one file that is laid into both
  laid_alike : (b c : Buffers) → Fits (room b) f → Fits (room c) f → SameTables (flat_head f.head) (counts f) (laid f b) (laid f c)
  laid_alike b c p q = each_alike b c p q (in_each b _ _ p.epochs p.slots) (in_each c _ _ q.epochs q.slots)

-- the verdict that a reply tells
abbrev verdict_of : ReadReply → Verdict
verdict_of (taken h n) = accepted n
verdict_of (turned_away n k) = refused n k

refused_so : (s : ReadReply) (n k : ℕ) → verdict_of s ≡ refused n k → s ≡ turned_away n k
refused_so (taken h m) n k e = absurd (let z : ◌≡◌ {A = ℕ} 0 1 = cc in omega arith)
refused_so (turned_away m j) n k e =
    let x : m ≡ n = cc in
    let y : j ≡ k = cc in
    ap (λ (u : ℕ). turned_away u j) x ∙ ap (turned_away n) y

verdict_told : (t : List ℕ) (b a : Buffers) (r : ReadReply) → Read t b a r → verdict (room b) t ≡ verdict_of r
verdict_told t b a (taken h n) p = agree.complete (room b) t p.file p.size p.spells p.fits ∙ ap accepted (sym p.lengths)
verdict_told t b a (turned_away n k) p = p.which

module _ (t : List ℕ) (b a c d : Buffers) (w : NowhereShorter b c) where
  -- where the first is not 16, the second has the same verdict
  same_verdict : (r s : ReadReply) → Read t b a r → Read t c d s → ((k : ℕ) → r ≡ turned_away 16 k → ⊥) → verdict_of s ≡ verdict_of r
  same_verdict r s p q x =
      sym (verdict_told t c d s q) ∙ (more_room.same (room b) (room c) t (room_no_less b c w) (λ k e. x k (refused_so r 16 k (sym (verdict_told t b a r p) ∙ e))) ∙ verdict_told t b a r p)

  same : (r s : ReadReply) → Read t b a r → Read t c d s → ((k : ℕ) → r ≡ turned_away 16 k → ⊥) → (s ≡ r) × SameInUse r a d
  same (taken h n) (taken k m) p q x =
      let e : q.file ≡ p.file = one_of_text t q.file p.file q.spells p.spells in
      let i : k ≡ h = q.head ∙ (ap (λ (f : File). flat_head f.head) e ∙ sym p.head) in
      let j : m ≡ n = q.lengths ∙ (ap counts e ∙ sym p.lengths) in
      let v : Fits (room c) p.file = subst (λ (f : File). Fits (room c) f) e q.fits in
      let u = laid_alike p.file (file_form t p.file p.spells) b c p.fits v in
      let z : d ≡ laid p.file c = q.entries ∙ ap (λ (f : File). laid f c) e in
      (ap (λ (g : FlatHead). taken g m) i ∙ ap (taken h) j, rw (p.head, p.lengths, p.entries, z) u)
  same (taken h n) (turned_away m j) p q x = absurd (let e : refused m j ≡ accepted n = same_verdict (taken h n) (turned_away m j) p q x in let z : ◌≡◌ {A = ℕ} 0 1 = cc in omega arith)
  same (turned_away n k) s p q x = (refused_so s n k (same_verdict (turned_away n k) s p q x), tt)

  no_earlier : (r s : ReadReply) (k m j : ℕ) → Read t b a r → Read t c d s → r ≡ turned_away 16 k → s ≡ turned_away m j → k ≤ j
  no_earlier r s k m j p q e f =
      more_room.no_earlier (room b) (room c) t k m j (room_no_less b c w) (verdict_told t b a r p ∙ ap verdict_of e) (verdict_told t c d s q ∙ ap verdict_of f)

pub more_lent : Theorems.MoreLent (λ (r : ReadReply). r) Read
more_lent =
    record {
      same = λ t b a c d r s w p q x. same t b a c d w r s p q x;
      no_earlier = λ t b a c d r s k m j w p q e f. no_earlier t b a c d w r s k m j p q e f;
    }

pub more_room_of_the_rule : Theorems.MoreRoomOfTheRule
more_room_of_the_rule = record { of_the_verdict = more_room; of_reading = more_lent }
