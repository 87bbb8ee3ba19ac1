-- The covariance of one or two random effects from packed theta (re_cov.rs): k is 1, and any other counts as 2. A matrix is two rows of two; for one effect
-- the entries that are not used are +0.
use Rattle.std.specs.Prelude.{ℕ, cond, List, [], ◌∷◌, eqb, Float, get_or}
use Rattle.std.specs.Float.{nan}
use Rattle.std.specs.Float.Ieee.{neg}
use Rattle.math.specs.Basic.{add, sub, mul, div, bits, zero, one, two, max_of}
use Rattle.math.specs.Ln.{ln_of}
use Rattle.math.specs.Matrix.{rows, entry}
use Rattle.math.specs.Rationals.{1e-8}

-- the floors, beside 1e-8
abbrev pub 1e-12 : Float
1e-12 = bits 0x3d71_9799_812d_ea11

abbrev pub 1e-16 : Float
1e-16 = bits 0x3c9c_d2b2_97d8_89bc

-- `lower_chol`: theta by columns, a diagonal entry not below 1e-8
unfoldable pub lower_chol_of : ℕ → List Float → List (List Float)
lower_chol_of k theta =
    let a = max_of (get_or theta 0 nan) 1e-8 in
    cond (eqb k 1) (rows a zero zero zero) (rows a zero (get_or theta 1 nan) (max_of (get_or theta 2 nan) 1e-8))

-- the product of two rows: from 0, in rising index
unfoldable pub dot_of_two : Float → Float → Float → Float → Float
dot_of_two a b c d = add (add zero (mul a c)) (mul b d)

-- row i of l times row j
abbrev pub row_times : List (List Float) → ℕ → ℕ → Float
row_times l i j = dot_of_two (entry l i 0) (entry l i 1) (entry l j 0) (entry l j 1)

-- `sigma_from_theta`: the factor times its transpose
unfoldable pub sigma_of : ℕ → List Float → List (List Float)
sigma_of k theta =
    let l = lower_chol_of k theta in
    cond (eqb k 1) (rows (add zero (mul (entry l 0 0) (entry l 0 0))) zero zero zero)
    (rows (row_times l 0 0) (row_times l 0 1) (row_times l 1 0) (row_times l 1 1))

-- the determinant, not below 1e-16
unfoldable pub sigma_det : List (List Float) → Float
sigma_det s = max_of (sub (mul (entry s 0 0) (entry s 1 1)) (mul (entry s 0 1) (entry s 1 0))) 1e-16

-- `sigma_inv_from_theta`, from the covariance on
unfoldable pub inverse_from : ℕ → List (List Float) → List (List Float)
inverse_from k s =
    cond (eqb k 1) (rows (div one (max_of (entry s 0 0) 1e-16)) zero zero zero)
    (rows (div (entry s 1 1) (sigma_det s)) (div (neg (entry s 0 1)) (sigma_det s)) (div (neg (entry s 1 0)) (sigma_det s))
    (div (entry s 0 0) (sigma_det s)))

-- `sigma_inv_from_theta`
unfoldable pub sigma_inverse : ℕ → List Float → List (List Float)
sigma_inverse k theta = inverse_from k (sigma_of k theta)

-- `log_det_sigma`: twice the sum, from 0, of the logarithms of the factor's diagonal
unfoldable pub log_det_of : ℕ → List Float → Float
log_det_of k theta =
    let l = lower_chol_of k theta in
    let first = add zero (ln_of (entry l 0 0)) in
    cond (eqb k 1) (mul two first) (mul two (add first (ln_of (entry l 1 1))))

-- `lower_solve`: the x of L x = rhs; what it divides by is not below 1e-12
unfoldable pub lower_solve_of : ℕ → List Float → List Float → List Float
lower_solve_of k theta rhs =
    let l = lower_chol_of k theta in
    let x = div (get_or rhs 0 nan) (max_of (entry l 0 0) 1e-12) in
    let y = div (sub (get_or rhs 1 nan) (mul (entry l 1 0) x)) (max_of (entry l 1 1) 1e-12) in
    cond (eqb k 1) (x ∷ zero ∷ []) (x ∷ y ∷ [])

-- `re_penalty` of one group's effects b: the squares of the x of L x = b, added from 0 (the source adds from -0; no square is -0, so the sums are the same)
unfoldable pub penalty_of : ℕ → List Float → List Float → Float
penalty_of k theta b =
    let r = lower_solve_of k theta b in
    let first = add zero (mul (get_or r 0 nan) (get_or r 0 nan)) in
    cond (eqb k 1) first (add first (mul (get_or r 1 nan) (get_or r 1 nan)))
