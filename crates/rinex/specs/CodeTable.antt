-- "the codes of Tables 4 to 10 of RINEX 3.03, some three hundred across the seven systems, in one table"
use Rattle.std.specs.Prelude.{ℕ, List, [], ◌∷◌, ◌++◌, get_or}
use Rattle.lists.specs.Lists.{bytes}

-- codes of three bytes, a blank between them
abbrev pub words : List ℕ → List (List ℕ)
words [] = []
words (a ∷ []) = []
words (a ∷ b ∷ []) = []
words (a ∷ b ∷ c ∷ []) = (a ∷ b ∷ c ∷ []) ∷ []
words (a ∷ b ∷ c ∷ d ∷ s) = (a ∷ b ∷ c ∷ []) ∷ words s

-- by system, in the paper's order; each system's codes in byte order, so that each type has a line: pseudorange, Doppler, phase, strength
unfoldable pub code_table : List (List (List ℕ))
code_table =
    -- G: Table 4
    (words (bytes "C1C C1L C1M C1P C1S C1W C1X C1Y C2C C2D C2L C2M C2P C2S C2W C2X C2Y C5I C5Q C5X") ++
    words (bytes "D1C D1L D1M D1N D1P D1S D1W D1X D1Y D2C D2D D2L D2M D2N D2P D2S D2W D2X D2Y D5I D5Q D5X") ++
    words (bytes "L1C L1L L1M L1N L1P L1S L1W L1X L1Y L2C L2D L2L L2M L2N L2P L2S L2W L2X L2Y L5I L5Q L5X") ++
    words (bytes "S1C S1L S1M S1N S1P S1S S1W S1X S1Y S2C S2D S2L S2M S2N S2P S2S S2W S2X S2Y S5I S5Q S5X")) ∷
    -- R: Table 5
    (words (bytes "C1C C1P C2C C2P C3I C3Q C3X") ++
    words (bytes "D1C D1P D2C D2P D3I D3Q D3X") ++
    words (bytes "L1C L1P L2C L2P L3I L3Q L3X") ++
    words (bytes "S1C S1P S2C S2P S3I S3Q S3X")) ∷
    -- E: Table 6
    (words (bytes "C1A C1B C1C C1X C1Z C5I C5Q C5X C6A C6B C6C C6X C6Z C7I C7Q C7X C8I C8Q C8X") ++
    words (bytes "D1A D1B D1C D1X D1Z D5I D5Q D5X D6A D6B D6C D6X D6Z D7I D7Q D7X D8I D8Q D8X") ++
    words (bytes "L1A L1B L1C L1X L1Z L5I L5Q L5X L6A L6B L6C L6X L6Z L7I L7Q L7X L8I L8Q L8X") ++
    words (bytes "S1A S1B S1C S1X S1Z S5I S5Q S5X S6A S6B S6C S6X S6Z S7I S7Q S7X S8I S8Q S8X")) ∷
    -- J: Table 8
    (words (bytes "C1C C1L C1S C1X C1Z C2L C2S C2X C5I C5Q C5X C6L C6S C6X") ++
    words (bytes "D1C D1L D1S D1X D1Z D2L D2S D2X D5I D5Q D5X D6L D6S D6X") ++
    words (bytes "L1C L1L L1S L1X L1Z L2L L2S L2X L5I L5Q L5X L6L L6S L6X") ++
    words (bytes "S1C S1L S1S S1X S1Z S2L S2S S2X S5I S5Q S5X S6L S6S S6X")) ∷
    -- C: Table 9
    (words (bytes "C2I C2Q C2X C6I C6Q C6X C7I C7Q C7X") ++
    words (bytes "D2I D2Q D2X D6I D6Q D6X D7I D7Q D7X") ++
    words (bytes "L2I L2Q L2X L6I L6Q L6X L7I L7Q L7X") ++
    words (bytes "S2I S2Q S2X S6I S6Q S6X S7I S7Q S7X")) ∷
    -- I: Table 10
    (words (bytes "C5A C5B C5C C5X C9A C9B C9C C9X") ++
    words (bytes "D5A D5B D5C D5X D9A D9B D9C D9X") ++
    words (bytes "L5A L5B L5C L5X L9A L9B L9C L9X") ++
    words (bytes "S5A S5B S5C S5X S9A S9B S9C S9X")) ∷
    -- S: Table 7
    (words (bytes "C1C C5I C5Q C5X") ++
    words (bytes "D1C D5I D5Q D5X") ++
    words (bytes "L1C L5I L5Q L5X") ++
    words (bytes "S1C S5I S5Q S5X")) ∷
    []

-- those of a system, which is its place from 0
unfoldable pub tabled : ℕ → List (List ℕ)
tabled s = get_or code_table s []
