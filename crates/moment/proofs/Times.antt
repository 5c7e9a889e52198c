-- The time that six fields spell is the one that `time_in` finds. Assumes nothing.
use Prim.Native.Nat.{ℕ}
use mathlib.Core.Path.{◌≡◌, ap, sym, ◌∙◌}
use mathlib.Core.List.{List}
use Rattle.std.specs.Prelude.{Some}
use Rattle.lists.proofs.Maybe.{some_one, when_some, bind_some}
use Rattle.field.specs.Found.{whole_of, second_of}
use Rattle.field.proofs.Found.{whole_found, whole_back, second_found, second_back}
use Rattle.moment.specs.declared.Date.{Date}
use Rattle.moment.specs.Moment.{instant, Time}
use Rattle.moment.specs.Found.{is_date, time_in}
use Rattle.moment.proofs.Dates.{date_found, date_back}

module _ (y mo d h mi s : List ℕ) (t : ℕ) where
  pub time_found : time_in y mo d h mi s ≡ Some t → Time y mo d h mi s t
  unfolding time_in
  time_found e =
      let a = bind_some (whole_of y) _ t e in
      let b = bind_some (whole_of mo) _ t a.2 in
      let c = bind_some (whole_of d) _ t b.2 in
      let f = bind_some (whole_of h) _ t c.2 in
      let g = bind_some (whole_of mi) _ t f.2 in
      let i = bind_some (second_of s) _ t g.2 in
      let date : Date = record { year = a.0; month = b.0; day = c.0; hour = f.0; minute = g.0; ticks = i.0 } in
      let j = when_some (is_date date) (instant date) t i.2 in
      record {
        date = date;
        year = whole_found y a.0 a.1;
        month = whole_found mo b.0 b.1;
        day = whole_found d c.0 c.1;
        hour = whole_found h f.0 f.1;
        minute = whole_found mi g.0 g.1;
        second = second_found s i.0 i.1;
        fit = date_found date j.0;
        time = sym j.1;
      }

  pub time_back : Time y mo d h mi s t → time_in y mo d h mi s ≡ Some t
  unfolding time_in
  time_back q =
      rw (
        whole_back y _ q.year,
        whole_back mo _ q.month,
        whole_back d _ q.day,
        whole_back h _ q.hour,
        whole_back mi _ q.minute,
        second_back s _ q.second,
        date_back q.date q.fit,
      ) (ap Some (sym q.time))

-- so there is one at most
pub time_one : (y mo d h mi s : List ℕ) (t u : ℕ) → Time y mo d h mi s t → Time y mo d h mi s u → t ≡ u
time_one y mo d h mi s t u p q = some_one t u (sym (time_back y mo d h mi s t p) ∙ time_back y mo d h mi s u q)
