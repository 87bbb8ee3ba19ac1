-- The sizes of a problem's effects and readings.
use Rattle.std.specs.Prelude.{ℕ, ◌≤◌, ◌<◌, ◌≡◌, List, Float, get_or, length}

-- one or two effects, each of one of four values
pub record Effects (places : List ℕ) : Type 0 where
  pub some : 1 ≤ length places
  pub two : length places ≤ 2
  pub within : (r : ℕ) → r < length places → get_or places r 0 < 4

-- at most 512 readings, each with its grams and one of 32 groups
pub record Readings (doses grams : List Float) (groups : List ℕ) : Type 0 where
  pub many : length doses ≤ 512
  pub grams_each : length grams ≡ length doses
  pub group_each : length groups ≡ length doses
  pub grouped : (i : ℕ) → i < length doses → get_or groups i 0 < 32
