-- The public operation: document 01's number and floats for every input.
use Rattle.std.specs.Prelude.{ℕ, cond, Result, Ok, Err, List, [], ◌∷◌, eqb, Float, length}
use Rattle.refusal.specs.declared.Refusal.{Refusal}
use Rattle.refusal.specs.Refusal.{number_of}
use Rattle.curves.specs.declared.Mean.{Mean}
use Rattle.curves.specs.MeanFn.{no_curve, n_params_of, eval_of}

-- the mean, then the four gradients
abbrev pub floats : Mean → List Float
floats m = m.mu ∷ m.d0 ∷ m.d1 ∷ m.d2 ∷ m.d3 ∷ []

-- the number and the floats that an answer stands for: a refusal has its number alone, a value the number 0
unfoldable pub told : Result Mean Refusal → ℕ × List Float
told (Err e) = (number_of e, [])
told (Ok m) = (0, floats m)

-- refused 1 where the code is not 1 to 4, then 6 for a wrong number of values
unfoldable pub curve_of : ℕ → List Float → Float → ℕ × List Float
curve_of code values dose =
    cond (no_curve code) (1, [])
    (cond (eqb (length values) (n_params_of code)) (0, floats (eval_of code values dose)) (6, []))
