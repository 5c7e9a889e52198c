-- The parts of the header put one after the other: after each, those behind it are ahead. Assumes nothing.
use Prim.Native.Nat.{ℕ, ◌+◌, ◌<◌}
use mathlib.Core.Path.{◌≡◌, ap}
use mathlib.Core.List.{List, [], ◌∷◌, ◌++◌}
use lib.ListN.{length, take}
use lib.Seq.{sets}
use Rattle.line.specs.Text.{Raw, cut}
use Rattle.rinex.specs.Tables.{FlatHead}
use Rattle.rinex.specs.Held.{bytes_of, head_at}
use Rattle.rinex.specs.Normal.{line, head_lines}
use Rattle.spell_header.specs.Wide.{wide}
use Rattle.write_lines.specs.Lines.{lines_text}
use Rattle.write_header.specs.Heading.{top_lines, top_text, head_text}
use Rattle.write_header.proofs.Ahead.{Ahead, begun, seen, one_put, one_room, some_put, some_room, all_put}
use Rattle.write_header.proofs.HeadLines.{end_is, head_parts}

-- the header is to be put into o, from place at on, and ends below `most`
module _ (h : FlatHead) (codes : List ℕ) (ws : List Raw) (o : List ℕ) (at most : ℕ) (fit : at + length (head_text h codes ws) < most) where
  abbrev held : List (List ℕ)
  held = bytes_of (take h.header_lines ws)

  abbrev end : List (List ℕ)
  end = line [] "END OF HEADER" ∷ []

  abbrev Left : List ℕ → ℕ → List (List ℕ) → Type 0
  Left out to ls = Ahead out to ls o at (head_lines (head_at h codes ws))

  at_top : Left o at (top_lines h codes ++ (held ++ end))
  at_top = seen _ (head_parts h codes ws) (begun o at _)

  pub top_room : at + length (top_text h codes) < most
  top_room = some_room o o at at _ (top_lines h codes) (held ++ end) most fit at_top

  -- the lines before those that are carried are put
  module _ (m1 : List ℕ) (p1 : ℕ) (e1 : m1 ≡ sets o at (top_text h codes)) (q1 : p1 ≡ at + length (top_text h codes)) where
    at_held : Left m1 p1 (held ++ end)
    at_held = some_put o o at at _ (top_lines h codes) (held ++ end) m1 p1 e1 q1 at_top

    pub held_room : p1 + length (lines_text h.header_lines ws) < most
    held_room = some_room m1 o p1 at _ held end most fit at_held

    -- those that are carried, too; the last is spelled as l
    module _ (m2 : List ℕ) (p2 : ℕ) (e2 : m2 ≡ sets m1 p1 (lines_text h.header_lines ws)) (q2 : p2 ≡ p1 + length (lines_text h.header_lines ws))
        (l : List ℕ) (l_is : l ≡ wide [] "END OF HEADER") where
      at_end : Left m2 p2 (cut l ∷ [])
      at_end = seen _ (ap (λ (x : List ℕ). x ∷ []) (end_is l l_is)) (some_put m1 o p1 at _ held end m2 p2 e2 q2 at_held)

      pub end_room : p2 + (length (cut l) + 1) < most
      end_room = one_room m2 o p2 at _ (cut l) [] most fit at_end

      pub header_put : (m3 : List ℕ) (p3 : ℕ) → m3 ≡ sets m2 p2 (cut l ++ (10 ∷ [])) → p3 ≡ p2 + (length (cut l) + 1)
          → (m3 ≡ sets o at (head_text h codes ws)) × (p3 ≡ at + length (head_text h codes ws))
      header_put m3 p3 e3 q3 = all_put m3 o p3 at _ (one_put m2 o p2 at _ (cut l) [] m3 p3 e3 q3 at_end)
