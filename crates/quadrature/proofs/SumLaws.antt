-- The cases of log_sum_exp by computation. Assumes nothing.
use Rattle.std.specs.Prelude.{ℕ, Bool, true, false, List, [], ◌∷◌, T, eqb, Float}
use Rattle.std.specs.Float.{nan, inf, binary64}
use lib.Ieee.{to_bits, is_nan}
use Rattle.math.specs.Basic.{zero, max_of, is_finite}
use Rattle.math.specs.laws.Computes.{exp_computes, ln_computes}
use Rattle.quadrature.specs.Sums.{log_sum_exp}
use Rattle.std.specs.List.{list_all}

-- ---- of no terms, of NaNs alone and with an infinity: -infinity; a NaN beside a number: a NaN; of 0: 0; of 0 and 0: ln 2
pub record Row : Type 0 where
  pub terms : List Float
  pub pattern : ℕ

abbrev pub rows : List Row
rows =
    record { terms = []; pattern = 0xfff0_0000_0000_0000 }
    ∷ record { terms = nan ∷ []; pattern = 0xfff0_0000_0000_0000 }
    ∷ record { terms = inf false ∷ zero ∷ []; pattern = 0xfff0_0000_0000_0000 }
    ∷ record { terms = inf true ∷ []; pattern = 0xfff0_0000_0000_0000 }
    ∷ record { terms = nan ∷ zero ∷ []; pattern = 0x7ff8_0000_0000_0000 }
    ∷ record { terms = zero ∷ []; pattern = 0 }
    ∷ record { terms = zero ∷ zero ∷ []; pattern = 0x3fe6_2e42_fefa_39ef }
    ∷ []

unfoldable pub row_right : Row → Bool
row_right r = eqb (to_bits binary64 (log_sum_exp r.terms)) r.pattern

pub rows_right : T (list_all row_right rows)
unfolding exp_computes ln_computes log_sum_exp max_of is_finite is_nan to_bits row_right
rows_right = tt
