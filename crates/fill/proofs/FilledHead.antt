-- What the header's lines leave in the head's values and in the carried bytes. Assumes nothing.
use Prim.Native.Nat.{ℕ, ◌+◌}
use mathlib.Core.Path.{◌≡◌, refl, ap, ◌∙◌}
use mathlib.Core.List.{List, [], ◌∷◌, ◌++◌, map}
use Rattle.std.specs.Prelude.{Option, None, Some}
use native.Mathlib.Omega.{arith}
use lib.ListN.{length, length-append}
use lib.Seq.{sets}
use lib.IntN.{pos}
use Rattle.lists.specs.Lists
use Rattle.lists.specs.Lists.{Each, joined, same, place}
use Rattle.lists.specs.Maybe.{given}
use Rattle.lists.proofs.Bools.{Either, left, right}
use Rattle.field.proofs.Found.{decimal_back}
use Rattle.moment.proofs.Times.{time_back}
use Rattle.line.specs.Text.{cols, text, cut, raw}
use Rattle.label.specs.declared.Label.{Label}
use Rattle.label.specs.declared.Label.TheVariants.{Version, FirstObs, Interval, EndOfHeader, MarkerName, Other}
use Rattle.label.specs.Labels.{label_of}
use Rattle.rinex.specs.Codes.{time_systems}
use Rattle.rinex.specs.File.{Head}
use Rattle.rinex.specs.Tables.{state_of, number_of}
use Rattle.rinex.specs.Header.{NextLines, CodeList, FirstLine, IntervalLine, CarriedLine, Entry, a_list, a_first, an_interval, a_carried, Entered, First, firsts, intervals, carrieds, HeaderLines}
use Rattle.rinex.proofs.Laws.{time_place}
use Rattle.rinex.specs.Tests.{first_time}
use Rattle.header.specs.Lines.{time_system_at, interval_at}
use Rattle.fill.specs.Fill.{HeadRead, head_after, carried_put, head_from, carried_from, nothing_read}
use Rattle.fill.proofs.Puts.{texts_more}
use Rattle.fill.proofs.FilledHeader.{carried_is}

-- THE LINES, one after the other: the values, and the bytes
abbrev head_over : HeadRead → List (List ℕ) → HeadRead
head_over h [] = h
head_over h (l ∷ ls) = head_over (head_after h l (label_of l)) ls

abbrev carried_over : HeadRead → List ℕ → List (List ℕ) → List ℕ
carried_over h b [] = b
carried_over h b (l ∷ ls) = carried_over (head_after h l (label_of l)) (carried_put h l (label_of l) b) ls

over_head : (ls ms : List (List ℕ)) (h : HeadRead) → head_from (length ls) h (map raw (ls ++ ms)) ≡ head_over h ls
unfolding head_from
over_head [] ms h = refl
over_head (l ∷ ls) ms h = over_head ls ms (head_after h l (label_of l))

over_carried : (ls ms : List (List ℕ)) (h : HeadRead) (b : List ℕ) → carried_from (length ls) h b (map raw (ls ++ ms)) ≡ carried_over h b ls
unfolding carried_from
over_carried [] ms h b = refl
over_carried (l ∷ ls) ms h b = over_carried ls ms (head_after h l (label_of l)) (carried_put h l (label_of l) b)

-- both at once
pub record Read : Type 0 where
  pub head : HeadRead
  pub bytes : List ℕ

abbrev over : Read → List (List ℕ) → Read
over x ls = record { head = head_over x.head ls; bytes = carried_over x.head x.bytes ls }

over_on : (a b : List (List ℕ)) (x : Read) → over x (a ++ b) ≡ over (over x a) b
over_on [] b x = refl
over_on (l ∷ a) b x = over_on a b (record { head = head_after x.head l (label_of l); bytes = carried_put x.head l (label_of l) x.bytes })

-- WHAT A RECORD LEAVES
abbrev took : Read → Entry → Read
took x (a_list y codes) = x
took x (a_first t z) =
    record {
      head = record { first = t; time_system = z; interval_state = x.head.interval_state; interval = x.head.interval; lines = x.head.lines; carried = x.head.carried };
      bytes = x.bytes;
    }
took x (an_interval n) =
    record {
      head = record { first = x.head.first; time_system = x.head.time_system; interval_state = 1; interval = n; lines = x.head.lines; carried = x.head.carried };
      bytes = x.bytes;
    }
took x (a_carried k) =
    record {
      head =
          record {
            first = x.head.first;
            time_system = x.head.time_system;
            interval_state = x.head.interval_state;
            interval = x.head.interval;
            lines = x.head.lines + 1;
            carried = x.head.carried + (length k + 1);
          };
      bytes = sets x.bytes x.head.carried (k ++ (10 ∷ []));
    }

-- a line of a known label
one_over : (x : Read) (l : List ℕ) (k : Label) → label_of l ≡ k → over x (l ∷ []) ≡ record { head = head_after x.head l k; bytes = carried_put x.head l k x.bytes }
one_over x l k e = rw e

lists_over : (ls : List (List ℕ)) (y : ℕ) (codes : List (List ℕ)) (x : Read) → NextLines ls y codes → over x ls ≡ x
unfolding head_after carried_put
lists_over [] y codes x h = refl
lists_over (l ∷ ls) y codes x h = rw h.1.label (lists_over ls y _ x h.2)

list_over : (letter : ℕ) (ls : List (List ℕ)) (y : ℕ) (codes : List (List ℕ)) (x : Read) → CodeList ls letter y codes → over x ls ≡ x
unfolding head_after carried_put
list_over letter ls y codes x h = rw (h.lines, h.first_line.label) (lists_over h.next y _ x h.next_lines)

first_time_lem : (l : List ℕ) (t z : ℕ) → FirstLine l t z → given 0 (first_time l) ≡ t
first_time_lem l t z h = ap (given 0) (time_back _ _ _ _ _ _ t h.time_at)

first_system : (l : List ℕ) (t z : ℕ) → FirstLine l t z → time_system_at l ≡ z
unfolding time_system_at
first_system l t z h = ap (λ (s : List ℕ). place same s time_systems) h.time_system_at ∙ time_place z h.time_system_is

first_over : (l : List ℕ) (t z : ℕ) (x : Read) → FirstLine l t z → over x (l ∷ []) ≡ took x (a_first t z)
unfolding head_after carried_put
first_over l t z x h = one_over x l FirstObs h.label ∙ rw (first_time_lem l t z h, first_system l t z h)

interval_over : (l : List ℕ) (n : ℕ) (x : Read) → IntervalLine l n → over x (l ∷ []) ≡ took x (an_interval n)
unfolding head_after carried_put interval_at
interval_over l n x h = one_over x l Interval h.label ∙ rw (decimal_back 3 (cols 1 10 l) (pos n) h.interval)

carried_over_lem : (l k : List ℕ) (x : Read) → CarriedLine l k → over x (l ∷ []) ≡ took x (a_carried k)
unfolding head_after carried_put
carried_over_lem l k x h = rw h.kept (go (carried_is (label_of l) h.label))
  where
    go : Either (label_of l ≡ MarkerName) (label_of l ≡ Other) → over x (l ∷ []) ≡ took x (a_carried (cut l))
    go (left e) = one_over x l MarkerName e
    go (right e) = one_over x l Other e

entry_over : (letter : ℕ) (e : Entry) (ls : List (List ℕ)) (x : Read) → Entered letter ls e → over x ls ≡ took x e
entry_over letter (a_list y codes) ls x v = list_over letter ls y codes x v
entry_over letter (a_first t z) ls x v = rw v.1 (first_over v.0 t z x v.2)
entry_over letter (an_interval n) ls x v = rw v.1 (interval_over v.0 n x v.2)
entry_over letter (a_carried k) ls x v = rw v.1 (carried_over_lem v.0 k x v.2)

-- all records
abbrev took_all : Read → List Entry → Read
took_all x [] = x
took_all x (e ∷ es) = took_all (took x e) es

entries_over : (letter : ℕ) (gs : List (List (List ℕ))) (es : List Entry) (x : Read) → Each (Entered letter) gs es → over x (joined gs) ≡ took_all x es
entries_over letter [] [] x v = refl
entries_over letter [] (e ∷ es) x v = absurd v
entries_over letter (g ∷ gs) [] x v = absurd v
entries_over letter (g ∷ gs) (e ∷ es) x v =
    over_on g (joined gs) x ∙ (ap (λ (z : Read). over z (joined gs)) (entry_over letter e g x v.0) ∙ entries_over letter gs es (took x e) v.1)

-- the version line before them and the last line after them leave all as it is
header_over : (ls : List (List ℕ)) (h : Head) (x : Read) (v : HeaderLines ls h) → over x ls ≡ took_all x v.entries
unfolding head_after carried_put
header_over ls h x v =
    let g : List (List ℕ) = joined v.groups in
    ap (over x) v.lines
    ∙ (ap (λ (z : Read). over z (g ++ (v.end ∷ []))) (one_over x v.version Version v.version_line.label)
    ∙ (over_on g (v.end ∷ []) x ∙ (one_over (over x g) v.end EndOfHeader v.end_line.label ∙ entries_over h.letter v.groups v.entries x v.entered)))

-- WHAT THEY COME TO, in the words of the rule: the last of those that came, or what stood before
abbrev latest : ℕ → List ℕ → ℕ
latest n [] = n
latest n (m ∷ ms) = latest m ms

record Took (x z : Read) (es : List Entry) : Type 0 where
  first : z.head.first ≡ latest x.head.first (map (λ (f : First). f.time) (firsts es))
  time_system : z.head.time_system ≡ latest x.head.time_system (map (λ (f : First). f.time_system) (firsts es))
  interval_state : z.head.interval_state ≡ latest x.head.interval_state (map (λ (n : ℕ). 1) (intervals es))
  interval : z.head.interval ≡ latest x.head.interval (intervals es)
  lines : z.head.lines ≡ x.head.lines + length (carrieds es)
  carried : z.head.carried ≡ x.head.carried + length (text (carrieds es))
  bytes : z.bytes ≡ sets x.bytes x.head.carried (text (carrieds es))

all_took : (es : List Entry) (x : Read) → Took x (took_all x es) es
all_took [] x = record { first = refl; time_system = refl; interval_state = refl; interval = refl; lines = omega arith; carried = omega arith; bytes = refl }
all_took (a_list y codes ∷ es) x =
    let i = all_took es x in
    record { first = i.first; time_system = i.time_system; interval_state = i.interval_state; interval = i.interval; lines = i.lines; carried = i.carried; bytes = i.bytes }
all_took (a_first t z ∷ es) x =
    let i = all_took es (took x (a_first t z)) in
    record { first = i.first; time_system = i.time_system; interval_state = i.interval_state; interval = i.interval; lines = i.lines; carried = i.carried; bytes = i.bytes }
all_took (an_interval n ∷ es) x =
    let i = all_took es (took x (an_interval n)) in
    record { first = i.first; time_system = i.time_system; interval_state = i.interval_state; interval = i.interval; lines = i.lines; carried = i.carried; bytes = i.bytes }
all_took (a_carried k ∷ es) x =
    let i = all_took es (took x (a_carried k)) in
    let n : length (k ++ (10 ∷ [])) ≡ length k + 1 = length-append k (10 ∷ []) in
    record {
      first = i.first;
      time_system = i.time_system;
      interval_state = i.interval_state;
      interval = i.interval;
      lines = i.lines ∙ omega arith;
      carried = i.carried ∙ omega (arith, length-append k (10 ∷ text (carrieds es)));
      bytes = i.bytes ∙ texts_more x.bytes x.head.carried _ (k ∷ []) (carrieds es) (omega (arith, n));
    }

-- THE HEADER'S VALUES
pub record HeadIs (h : Head) (r : HeadRead) : Type 0 where
  pub first : r.first ≡ h.first
  pub time_system : r.time_system ≡ h.time_system
  pub interval_state : r.interval_state ≡ state_of h.interval
  pub interval : r.interval ≡ number_of h.interval
  pub lines : r.lines ≡ length h.carried
  pub carried : r.carried ≡ length (text h.carried)

pub head_is : (ls ms : List (List ℕ)) (h : Head) → HeaderLines ls h → HeadIs h (head_from (length ls) nothing_read (map raw (ls ++ ms)))
unfolding nothing_read
head_is ls ms h v =
    let x : Read = record { head = nothing_read; bytes = [] } in
    let i = all_took v.entries x in
    let q : head_from (length ls) nothing_read (map raw (ls ++ ms)) ≡ (took_all x v.entries).head = over_head ls ms nothing_read ∙ ap (λ (z : Read). z.head) (header_over ls h x v) in
    record {
      first = ap (λ (z : HeadRead). z.first) q ∙ (i.first ∙ ap (λ (f : List First). latest 0 (map (λ (y : First). y.time) f)) v.first);
      time_system = ap (λ (z : HeadRead). z.time_system) q ∙ (i.time_system ∙ ap (λ (f : List First). latest 0 (map (λ (y : First). y.time_system) f)) v.first);
      interval_state = ap (λ (z : HeadRead). z.interval_state) q ∙ (i.interval_state ∙ (ap (λ (k : List ℕ). latest 0 (map (λ (n : ℕ). 1) k)) v.interval ∙ state-there h.interval));
      interval = ap (λ (z : HeadRead). z.interval) q ∙ (i.interval ∙ (ap (latest 0) v.interval ∙ number_there h.interval));
      lines = ap (λ (z : HeadRead). z.lines) q ∙ (i.lines ∙ omega (arith, ap (λ (k : List (List ℕ)). length k) v.carried));
      carried = ap (λ (z : HeadRead). z.carried) q ∙ (i.carried ∙ omega (arith, ap (λ (k : List (List ℕ)). length (text k)) v.carried));
    }
  where
    state-there : (o : Option ℕ) → latest 0 (map (λ (n : ℕ). 1) (Lists.as_list o)) ≡ state_of o
    state-there None = refl
    state-there (Some n) = refl

    number_there : (o : Option ℕ) → latest 0 (Lists.as_list o) ≡ number_of o
    number_there None = refl
    number_there (Some n) = refl

pub carried_bytes_lem : (ls ms : List (List ℕ)) (h : Head) (b : List ℕ) → HeaderLines ls h → carried_from (length ls) nothing_read b (map raw (ls ++ ms)) ≡ sets b 0 (text h.carried)
unfolding nothing_read
carried_bytes_lem ls ms h b v =
    let x : Read = record { head = nothing_read; bytes = b } in
    let i = all_took v.entries x in
    over_carried ls ms nothing_read b ∙ (ap (λ (z : Read). z.bytes) (header_over ls h x v) ∙ (i.bytes ∙ ap (λ (k : List (List ℕ)). sets b 0 (text k)) v.carried))
