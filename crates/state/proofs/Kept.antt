-- What the code's state keeps of the rule's: the lists behind its counts and its table, and the satellites behind its stamps. Assumes nothing.
use Prim.Native.Nat.{ℕ, zero, suc, ◌+◌, ◌*◌, ◌≤◌, ◌<◌}
use mathlib.Core.Path.{◌≡◌, refl, ap, ◌∙◌}
use mathlib.Core.List.{List, [], map}
use native.Mathlib.Omega.{arith}
use lib.Dec.{eqb}
use lib.ListN.{length, get_or, take, drop, replicate, length-replicate, get_or-map}
use Rattle.lists.specs.Lists.{All, is_in}
use Rattle.rinex.specs.Tables.{packed}
use Rattle.rinex.specs.Fit.{unpacked}
use Rattle.rinex.specs.Refusals.{Place, version_due, in_header, next_due, epoch_due, row_due, line_due, start}
use Rattle.rinex.specs.Refusals as rule
use Rattle.rinex.proofs.Forms.{IsCode}
use Rattle.state.specs.declared.State.{State}
use Rattle.state.specs.declared.Stage.{Stage}
use Rattle.state.specs.declared.Stage.TheVariants as stages
use Rattle.rinex.specs.Lent.{counts_of}
use Rattle.state.specs.Judge.{codes_in, begin, no_codes, none_seen}
use Rattle.state.proofs.Packed.{Held, held_part, held_codes}

-- THE RULE'S STATE, by the stage, under these lists and with these satellites in the epoch
abbrev pub place_at : Stage → State → Place
place_at stages.Version c = version_due
place_at stages.Record c = in_header
place_at stages.Continuation c = next_due c.system c.left
place_at stages.Epoch c = epoch_due
place_at stages.Row c = row_due c.left
place_at stages.Event c = line_due c.flag c.left c.marked

abbrev pub rule_at : Place → State → List (List (List ℕ)) → List ℕ → rule.State
rule_at p c lists names =
    record {
      place = p;
      head = record { letter = c.letter; lists = lists; has_first = c.first; has_interval = c.interval };
      last = c.last;
      seen = names;
      used = counts_of c.used;
    }

-- WHAT IS KEPT. A list of system y
pub record ListKept (table : List ℕ) (y : ℕ) (cs : List (List ℕ)) : Type 0 where
  pub few : length cs ≤ 64
  pub codes : All IsCode cs
  pub held : Held table (64 * y) cs

-- a continuation is due
pub record NextDue (c : State) (lists : List (List (List ℕ))) : Type 0 where
  pub system : c.system < 7
  pub some_left : 1 ≤ c.left
  pub few : length (get_or lists c.system []) + c.left ≤ 64

-- the stamps that tell which satellites stand in this epoch
abbrev pub Stamped : List ℕ → ℕ → List ℕ → Type 0
Stamped seen e names = (k : ℕ) → k < 700 → eqb (get_or seen k 0) e ≡ is_in eqb k names

-- a row is due
pub record RowDue (c : State) (names seen : List ℕ) : Type 0 where
  pub some_left : 1 ≤ c.left
  pub few : c.left < 1000
  pub stamped : Stamped seen c.used.epochs names

-- a line of an event is due
pub record LineDue (c : State) : Type 0 where
  pub some_left : 1 ≤ c.left
  pub few : c.left < 1000
  pub flag : c.flag ≤ 5

-- by the stage
abbrev pub Due : Stage → State → List (List (List ℕ)) → (names seen : List ℕ) → Type 0
Due stages.Version c lists names seen = Unit
Due stages.Record c lists names seen = Unit
Due stages.Continuation c lists names seen = NextDue c lists
Due stages.Epoch c lists names seen = Unit
Due stages.Row c lists names seen = RowDue c names seen
Due stages.Event c lists names seen = LineDue c

abbrev pub lengths_of : List (List (List ℕ)) → List ℕ
lengths_of lists = map (λ (cs : List (List ℕ)). length cs) lists

-- at any stage
pub record Settled (c : State) (table seen : List ℕ) (lists : List (List (List ℕ))) : Type 0 where
  pub seven : length lists ≡ 7
  pub lengths : c.lengths ≡ lengths_of lists
  pub kept : (y : ℕ) → ListKept table y (get_or lists y [])
  pub places : length table ≡ 448
  pub stamps : length seen ≡ 700
  pub old : (k : ℕ) → get_or seen k 0 ≤ c.used.epochs

pub record Kept (c : State) (table seen : List ℕ) : Type 0 where
  pub lists : List (List (List ℕ))
  pub names : List ℕ
  pub settled : Settled c table seen lists
  pub due : Due c.stage c lists names seen

-- the rule's state that is kept
abbrev pub rule_of : (c : State) (table seen : List ℕ) → Kept c table seen → rule.State
rule_of c table seen k = rule_at (place_at c.stage c) c k.lists k.names

-- AT THE BEGINNING
nothing_at : {A : Type 0} (n i : ℕ) (x : A) → get_or (replicate n x) i x ≡ x
nothing_at zero i x = refl
nothing_at (suc n) zero x = refl
nothing_at (suc n) (suc i) x = nothing_at n i x

no_list : (table : List ℕ) (y : ℕ) → ListKept table y []
no_list table y = record { few = omega arith; codes = tt; held = λ i h. absurd (omega arith) }

pub kept_begin : Kept begin no_codes none_seen
unfolding begin
kept_begin =
    record {
      lists = replicate 7 [];
      names = [];
      settled =
          record {
            seven = refl;
            lengths = refl;
            kept = λ y. rw (nothing_at {A = List (List ℕ)} 7 y []) (no_list no_codes y);
            places = length-replicate {A = ℕ} 448 0;
            stamps = length-replicate {A = ℕ} 700 0;
            old = λ k. rw (nothing_at {A = ℕ} 700 k 0) (omega arith);
          };
      due = tt;
    }

pub begin_is_start : rule_of begin no_codes none_seen kept_begin ≡ start
unfolding begin start kept_begin
begin_is_start = refl

-- WHAT IT SAYS OF THE COUNTS AND OF THE TABLE
module _ (c : State) (table seen : List ℕ) (lists : List (List (List ℕ))) (k : Settled c table seen lists) where
  pub length_at : (y : ℕ) → get_or c.lengths y 0 ≡ length (get_or lists y [])
  length_at y = ap (λ (x : List ℕ). get_or x y 0) k.lengths ∙ get_or-map (λ (cs : List (List ℕ)). length cs) lists y []

  -- the part of the table that a system's codes fill
  pub part_at : (y : ℕ) → y < 7 → take (length (get_or lists y [])) (drop (64 * y) table) ≡ map packed (get_or lists y [])
  part_at y h = held_part table (64 * y) (get_or lists y []) (k.kept y).held (omega (arith, k.places, (k.kept y).few))

  pub codes_at : (y : ℕ) → y < 7 → codes_in c table y ≡ get_or lists y []
  codes_at y h =
      ap (λ (n : ℕ). map unpacked (take n (drop (64 * y) table))) (length_at y)
      ∙ held_codes table (64 * y) (get_or lists y []) (k.kept y).held (omega (arith, k.places, (k.kept y).few)) (k.kept y).codes

  -- another state of the same lengths, and of no fewer epochs
  pub settled_on : (d : State) → d.lengths ≡ c.lengths → c.used.epochs ≤ d.used.epochs → Settled d table seen lists
  settled_on d e h =
      record { seven = k.seven; lengths = e ∙ k.lengths; kept = k.kept; places = k.places; stamps = k.stamps; old = λ i. omega (arith, h, k.old i) }

  abbrev pub kept_on : (names : List ℕ) (d : State) → d.lengths ≡ c.lengths → c.used.epochs ≤ d.used.epochs → Due d.stage d lists names seen → Kept d table seen
  kept_on names d e h u = record { lists = lists; names = names; settled = settled_on d e h; due = u }
