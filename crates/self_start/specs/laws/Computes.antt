-- What opens the starts for computation.
use Rattle.std.specs.Float.Ieee.{lt, le}
use Rattle.std.specs.Float.Ieee as Ieee
use Rattle.math.specs.Basic.{abs_of, max_of, min_of, is_finite}
use Rattle.math.specs.laws.Computes.{ln_computes}
use Rattle.sorting.specs.Sort.{insert, insert_all}
use Rattle.curves.specs.MeanFn.{n_params_of}
use Rattle.self_start.specs.Points.{near_dose, mean_of_run, points_of_run, averaged_of, sorted_xy_data, between_of, window_of, approx_of, approx_x_from_y}
use Rattle.self_start.specs.Start.{scal_or_one, sslogis_from, sslogis_start, lrc_of, ssasymp_start, ssmicmen_start, apart_of, width_of, ssfpl_from, ssfpl_start, start_from_points, self_start_of, start_fault, call_of}

-- ---- the public operation

-- `unfolding start_computes` opens all that a value of call_of is computed by
unfoldable pub start_computes : Unit {0}
unfolding ln_computes insert insert_all near_dose mean_of_run points_of_run averaged_of sorted_xy_data between_of window_of approx_of approx_x_from_y scal_or_one sslogis_from sslogis_start lrc_of ssasymp_start ssmicmen_start apart_of width_of ssfpl_from ssfpl_start n_params_of start_from_points self_start_of start_fault call_of abs_of max_of min_of is_finite Ieee.add Ieee.sub Ieee.mul Ieee.div Ieee.lt Ieee.le Ieee.eq Ieee.neg Ieee.of_bits Ieee.of_int Ieee.is_nan
start_computes = tt
