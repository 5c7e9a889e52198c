-- The header's lines before those that are carried, put one after the other: after each, those behind it are ahead. Assumes nothing.
use Prim.Native.Nat.{ℕ, ◌+◌, ◌<◌}
use mathlib.Core.Path.{◌≡◌, sym, ap}
use mathlib.Core.List.{List, [], ◌∷◌, ◌++◌, append-nil}
use lib.ListN.{length}
use lib.Seq.{sets}
use Rattle.lists.specs.Lists.{bytes}
use Rattle.line.specs.Text.{cut}
use Rattle.moment.specs.Found.{date_at}
use Rattle.rinex.specs.Tables.{FlatHead}
use Rattle.rinex.specs.Held.{optional}
use Rattle.rinex.specs.Normal.{first_body, first_line_of, interval_lines}
use Rattle.spell_header.specs.Wide.{wide}
use Rattle.write_header.specs.Heading.{interval_text, lists_text, top_lines, top_text}
use Rattle.write_header.proofs.Ahead.{Ahead, begun, seen, one_put, one_room, some_put, some_room, all_put}
use Rattle.write_header.proofs.CodeLines.{lists_from}
use Rattle.write_header.proofs.HeadLines.{version_is, first_is}

-- they are to be put into o, from place at on, and end below `most`
module _ (h : FlatHead) (codes o : List ℕ) (at most : ℕ) (fit : at + length (top_text h codes) < most) where
  abbrev lists : List (List ℕ)
  lists = lists_from 0 h.lengths codes

  abbrev first : List ℕ
  first = first_line_of h.first h.time_system

  abbrev last : List (List ℕ)
  last = interval_lines (optional h.interval_state h.interval)

  abbrev Left : List ℕ → ℕ → List (List ℕ) → Type 0
  Left out to ls = Ahead out to ls o at (top_lines h codes)

  -- the version's line is spelled as v
  module _ (v : List ℕ) (v_is : v ≡ wide (bytes "     3.03           OBSERVATION DATA    " ++ (h.letter ∷ [])) "RINEX VERSION / TYPE") where
    at_version : Left o at (cut v ∷ (lists ++ (first ∷ last)))
    at_version = seen _ (ap (λ (x : List ℕ). x ∷ (lists ++ (first ∷ last))) (version_is h.letter v v_is)) (begun o at _)

    pub version_room : at + (length (cut v) + 1) < most
    version_room = one_room o o at at _ (cut v) _ most fit at_version

    -- it is put, and then the lists
    module _ (m1 : List ℕ) (p1 : ℕ) (e1 : m1 ≡ sets o at (cut v ++ (10 ∷ []))) (q1 : p1 ≡ at + (length (cut v) + 1)) where
      at_lists : Left m1 p1 (lists ++ (first ∷ last))
      at_lists = one_put o o at at _ (cut v) _ m1 p1 e1 q1 at_version

      pub lists_room : p1 + length (lists_text 0 h.lengths codes) < most
      lists_room = some_room m1 o p1 at _ lists (first ∷ last) most fit at_lists

      -- the line of the first observation is spelled as f
      module _ (m2 : List ℕ) (p2 : ℕ) (e2 : m2 ≡ sets m1 p1 (lists_text 0 h.lengths codes)) (q2 : p2 ≡ p1 + length (lists_text 0 h.lengths codes))
          (f : List ℕ) (f_is : f ≡ wide (first_body (date_at h.first) h.time_system) "TIME OF FIRST OBS") where
        at_first : Left m2 p2 (cut f ∷ last)
        at_first = seen _ (ap (λ (x : List ℕ). x ∷ last) (first_is h.first h.time_system f f_is)) (some_put m1 o p1 at _ lists (first ∷ last) m2 p2 e2 q2 at_lists)

        pub first_room : p2 + (length (cut f) + 1) < most
        first_room = one_room m2 o p2 at _ (cut f) last most fit at_first

        -- it is put, and then the interval's line
        module _ (m3 : List ℕ) (p3 : ℕ) (e3 : m3 ≡ sets m2 p2 (cut f ++ (10 ∷ []))) (q3 : p3 ≡ p2 + (length (cut f) + 1)) where
          at_interval : Left m3 p3 (last ++ [])
          at_interval = seen _ (sym (append-nil last)) (one_put m2 o p2 at _ (cut f) last m3 p3 e3 q3 at_first)

          pub interval_room : p3 + length (interval_text (optional h.interval_state h.interval)) < most
          interval_room = some_room m3 o p3 at _ last [] most fit at_interval

          pub top_put : (m4 : List ℕ) (p4 : ℕ) → m4 ≡ sets m3 p3 (interval_text (optional h.interval_state h.interval)) → p4 ≡ p3 + length (interval_text (optional h.interval_state h.interval))
              → (m4 ≡ sets o at (top_text h codes)) × (p4 ≡ at + length (top_text h codes))
          top_put m4 p4 e4 q4 = all_put m4 o p4 at _ (some_put m3 o p3 at _ last [] m4 p4 e4 q4 at_interval)
