-- Values that are read at one look.
use Rattle.std.specs.Prelude.{◌≡◌, ℕ, ◌<◌, List, length}
use Rattle.std.specs.Str.Parse.{AllDigits, digits_value}
use Rattle.serde_json.specs.Data.{Num, unsigned, negative, float, Data, null, boolean, number, string, array, object, no_items, no_members}
use Rattle.osm_json.specs.declared.figure.Figure.{Figure}
use Rattle.osm_json.specs.declared.figure.Figure.TheVariants as figures
use Rattle.osm_json.specs.declared.scalar.Scalar.{Scalar}
use Rattle.osm_json.specs.declared.scalar.Scalar.TheVariants as scalars

abbrev pub figure_view : Figure → Num
figure_view (figures.Natural n) = unsigned n
figure_view (figures.Negative z) = negative z
figure_view (figures.Float x) = float x

-- an array and an object without what they contain
abbrev pub scalar_view : Scalar → Data
scalar_view scalars.Null = null
scalar_view (scalars.Flag b) = boolean b
scalar_view (scalars.Number n) = number (figure_view n)
scalar_view (scalars.Text s) = string s.now
scalar_view scalars.List = array no_items
scalar_view scalars.Record = object no_members

abbrev pub flat : Data → Data
flat null = null
flat (boolean b) = boolean b
flat (number n) = number n
flat (string s) = string s
flat (array ds) = array no_items
flat (object ms) = object no_members

-- n is what the digits write, which are few
pub record IsPlain (digits : List ℕ) (n : ℕ) : Type 0 where
  pub some : 0 < length digits
  pub all : AllDigits 10 digits
  pub value : n ≡ digits_value 10 digits
  pub small : n < 1000000000000000000
