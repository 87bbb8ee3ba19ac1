-- The curve of a code, alone and with a group's effects (mean_fn.rs).
use Rattle.std.specs.Prelude.{ℕ, ◌≡◌, Bool, true, ◌||◌, cond, Option, Some, None, Result, MatchResult, List, [], ◌∷◌, eqb, ltb, Float, get_or, set}
use Rattle.std.specs.Float.{nan}
use Rattle.math.specs.Basic.{add}
use Rattle.refusal.specs.declared.Refusal.{Refusal}
use Rattle.refusal.specs.declared.Refusal.TheVariants.{Code}
use Rattle.curves.specs.declared.mean_fn.Curve.{Curve}
use Rattle.curves.specs.declared.mean_fn.Curve.TheVariants.{Sslogis, Ssasymp, Ssmicmen, Ssfpl}
use Rattle.curves.specs.declared.Mean.{Mean}
use Rattle.curves.specs.Sslogis.{sslogis_of}
use Rattle.curves.specs.Ssasymp.{ssasymp_of}
use Rattle.curves.specs.Ssmicmen.{ssmicmen_of}
use Rattle.curves.specs.Ssfpl.{ssfpl_of}

-- each curve's code
abbrev pub code_of : Curve → ℕ
code_of Sslogis = 1
code_of Ssasymp = 2
code_of Ssmicmen = 3
code_of Ssfpl = 4

-- no curve has the code
abbrev pub no_curve : ℕ → Bool
no_curve code = ltb code 1 || ltb 4 code

-- the result is the curve of the code, or refuses 1 a code that no curve has
abbrev pub Decodes : ℕ → Result Curve Refusal → Type 0
Decodes code r = MatchResult r (λ curve. code_of curve ≡ code) (λ e. (e ≡ Code) × (no_curve code ≡ true))

-- `n_params`, p: 3, 3, 2, 4
unfoldable pub n_params_of : ℕ → ℕ
n_params_of code = cond (eqb code 3) 2 (cond (eqb code 4) 4 3)

-- where scal stands among the values of a curve that `needs_positive_scal`: the third of curve 1, the fourth of curve 4
unfoldable pub scal_index_of : ℕ → Option ℕ
scal_index_of code = cond (eqb code 1) (Some 2) (cond (eqb code 4) (Some 3) None)

-- a curve's values in four places, of which those past its last are not read
abbrev pub four_of : List Float → List Float
four_of l = get_or l 0 nan ∷ get_or l 1 nan ∷ get_or l 2 nan ∷ get_or l 3 nan ∷ []

-- `eval`, at the values of a list
unfoldable pub eval_of : ℕ → List Float → Float → Mean
eval_of code v x =
    cond (eqb code 1) (sslogis_of (get_or v 0 nan) (get_or v 1 nan) (get_or v 2 nan) x)
    (cond (eqb code 2) (ssasymp_of (get_or v 0 nan) (get_or v 1 nan) (get_or v 2 nan) x)
    (cond (eqb code 3) (ssmicmen_of (get_or v 0 nan) (get_or v 1 nan) x)
    (ssfpl_of (get_or v 0 nan) (get_or v 1 nan) (get_or v 2 nan) (get_or v 3 nan) x)))

-- an effect added at its place
abbrev pub add_at : ℕ → Float → List Float → List Float
add_at i effect v = set v i (add (get_or v i nan) effect)

-- the values with a group's effects, the first effect at the first place
unfoldable pub effective_of : List ℕ → List Float → List Float → List Float
effective_of [] effects v = v
effective_of (i ∷ places) [] v = v
effective_of (i ∷ places) (effect ∷ effects) v = effective_of places effects (add_at i effect v)

-- `eval_mean_with_re`
unfoldable pub eval_with_re_of : ℕ → List Float → List ℕ → List Float → Float → Mean
eval_with_re_of code v places effects x = eval_of code (effective_of places effects v) x
