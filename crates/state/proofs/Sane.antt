-- What the code needs of its state at each line to be safe: it follows from what is kept. Assumes nothing.
use Prim.Native.Nat.{ℕ, ◌+◌, ◌*◌, ◌≤◌, ◌<◌}
use mathlib.Core.Path.{◌≡◌, sym, ap, subst, ◌∙◌}
use mathlib.Core.List.{List, [], map}
use native.Mathlib.Omega.{arith}
use lib.ListN.{length, get_or, take, drop, length-map}
use Rattle.lists.specs.Lists.{All}
use Rattle.rinex.specs.Tables.{packed}
use Rattle.rinex.proofs.Forms.{IsCode}
use Rattle.state.specs.declared.State.{State}
use Rattle.state.specs.declared.Stage.{Stage}
use Rattle.state.specs.declared.Stage.TheVariants as stages
use Rattle.state.specs.Judge.{codes_in}
use Rattle.state.proofs.Kept.{NextDue, RowDue, LineDue, Due, Kept, length_at, part_at, codes_at}

-- the codes of a system, in the table
pub record CodesSane (c : State) (table : List ℕ) (y : ℕ) : Type 0 where
  pub many : length (codes_in c table y) ≡ get_or c.lengths y 0
  pub codes : All IsCode (codes_in c table y)
  pub part : take (length (codes_in c table y)) (drop (64 * y) table) ≡ map packed (codes_in c table y)

-- where a continuation is due
pub record NextSane (c : State) : Type 0 where
  pub system : c.system < 7
  pub some_left : 1 ≤ c.left
  pub few : get_or c.lengths c.system 0 + c.left ≤ 64

-- where a row is due, or a line of an event
pub record LeftSane (c : State) : Type 0 where
  pub some_left : 1 ≤ c.left
  pub few : c.left < 1000

pub record Sane (c : State) (table seen : List ℕ) : Type 0 where
  pub seven : length c.lengths ≡ 7
  pub few : (y : ℕ) → get_or c.lengths y 0 ≤ 64
  pub places : length table ≡ 448
  pub stamps : length seen ≡ 700
  pub codes : (y : ℕ) → y < 7 → CodesSane c table y
  pub next : c.stage ≡ stages.Continuation → NextSane c
  pub row : c.stage ≡ stages.Row → LeftSane c
  pub line : c.stage ≡ stages.Event → LeftSane c
  pub flag : c.stage ≡ stages.Event → c.flag ≤ 5

module _ (c : State) (table seen : List ℕ) (k : Kept c table seen) where
  codes_sane : (y : ℕ) → y < 7 → CodesSane c table y
  codes_sane y h =
      let cs : List (List ℕ) = get_or k.lists y [] in
      let e : codes_in c table y ≡ cs = codes_at c table seen k.lists k.settled y h in
      let sane : (x : List (List ℕ)) → codes_in c table y ≡ x → length x ≡ get_or c.lengths y 0 → All IsCode x → take (length x) (drop (64 * y) table) ≡ map packed x → CodesSane c table y =
      λ x d m a p.
      record {
        many = ap length d ∙ m;
        codes = subst (λ (z : List (List ℕ)). All IsCode z) (sym d) a;
        part = subst (λ (z : List (List ℕ)). take (length z) (drop (64 * y) table) ≡ map packed z) (sym d) p;
      }
      in
      sane cs e (sym (length_at c table seen k.lists k.settled y)) (k.settled.kept y).codes (part_at c table seen k.lists k.settled y h)

  due_at : (n : Stage) → c.stage ≡ n → Due n c k.lists k.names seen
  due_at n e = subst (λ (m : Stage). Due m c k.lists k.names seen) e k.due

  next_sane : NextDue c k.lists → NextSane c
  next_sane d = record { system = d.system; some_left = d.some_left; few = omega (arith, length_at c table seen k.lists k.settled c.system, d.few) }

  row_sane : RowDue c k.names seen → LeftSane c
  row_sane d = record { some_left = d.some_left; few = d.few }

  line_sane : LineDue c → LeftSane c
  line_sane d = record { some_left = d.some_left; few = d.few }

  pub kept_sane : Sane c table seen
  kept_sane =
      record {
        seven = ap length k.settled.lengths ∙ (length-map k.lists (λ (cs : List (List ℕ)). length cs) ∙ k.settled.seven);
        few = λ y. omega (arith, length_at c table seen k.lists k.settled y, (k.settled.kept y).few);
        places = k.settled.places;
        stamps = k.settled.stamps;
        codes = codes_sane;
        next = λ e. next_sane (due_at stages.Continuation e);
        row = λ e. row_sane (due_at stages.Row e);
        line = λ e. line_sane (due_at stages.Event e);
        flag = λ e. let d : LineDue c = due_at stages.Event e in d.flag;
      }
