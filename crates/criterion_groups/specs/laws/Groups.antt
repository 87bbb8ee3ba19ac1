-- A group has as many doses of its own as grams. Assumes nothing.
use Prim.Native.Nat.{ℕ, zero, suc, ◌+◌}
use mathlib.Core.Path.{◌≡◌, refl, ap}
use mathlib.Core.Bool.{Bool, true, false, cond}
use mathlib.Core.List.{List, [], ◌∷◌, ◌++◌}
use lib.Dec.{eqb}
use lib.Ieee.{Float}
use lib.ListN.{length, get_or, length-append}
use Rattle.math.specs.Loops.{iter}
use Rattle.criterion_groups.specs.Groups.{own_at, own_of}

more : (b : Bool) (own own' : List Float) (v w : Float) → length own ≡ length own' → length (cond b (own ++ (v ∷ [])) own) ≡ length (cond b (own' ++ (w ∷ [])) own')
more true own own' v w e = simp length-append (ap (λ m. m + 1) e)
more false own own' v w e = e

so_far : (groups : List ℕ) (g : ℕ) (l m : List Float) (i : ℕ) → length (iter (own_at groups g l) i []) ≡ length (iter (own_at groups g m) i [])
unfolding iter
so_far groups g l m zero = refl
so_far groups g l m (suc i) = more (eqb (get_or groups i 0) g) _ _ _ _ (so_far groups g l m i)

pub own_as_long : (groups : List ℕ) (g : ℕ) (l m : List Float) → length (own_of groups g l) ≡ length (own_of groups g m)
unfolding own_of
own_as_long groups g l m = so_far groups g l m (length groups)
