-- A form that holds a sheet and what each of its elements is now.
use Rattle.std.specs.Prelude.{◌≡◌, ℕ, List, map}
use Rattle.base.specs.Lists.{from}
use Rattle.rules.specs.Sheet.{Limits, Model, Sheet}
use Rattle.rules.specs.Bound.{History}
use Rattle.sheets.specs.Form.{view_of, Holds}

-- The form holds the sheet, and its history says what each element is now.
pub record HoldsNow (lim : Limits) (w : List ℕ) (x : Sheet) (now : History) : Type 0 where
  pub holds : Holds lim w x
  pub history : (view_of lim w).history ≡ map now (from 0 lim.elements)

abbrev pub with_model : Model → Sheet → Sheet
with_model m x = record { number = x.number; place = x.place; model = m }
