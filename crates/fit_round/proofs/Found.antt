-- What `solve` answers and leaves, as the definition's direction. Assumes nothing.
use Rattle.std.proofs.Common.{◌≡◌, refl, ◌+◌, ◌*◌, List, length, Bool, true, false, cond}
use Rattle.std.specs.Prelude.{Float, Option, Some, None, is_some}
use Rattle.math.specs.Basic.{is_finite}
use Rattle.math.specs.Lists.{every}
use Rattle.block_solve.specs.declared.normal.BlockNormal.{BlockNormal}
use Rattle.block_solve.specs.Direction.{finite_only, is_direction, left_in, finished_of, solved_of, direction_of}
use Rattle.block_solve.specs.laws.Direction.{solve_fits}
use Rattle.fit_refusals.specs.Problem.{Problem, p, k}
use Rattle.fit_refusals.specs.Valid.{Valid}
use Rattle.curves.specs.laws.Params.{params_most}
use Rattle.fit_round.specs.Round.{direction}

some_by : (e b : Bool) (l d : List Float) → b ≡ is_some (cond e (Some l) None) → d ≡ l → cond e (Some l) None ≡ cond b (Some d) None
some_by true b l d h f = rw (h, f) refl
some_by false b l d h f = rw h refl

found : (o : Option (List Float)) (b : Bool) (d e : List Float) → b ≡ is_direction o → d ≡ left_in o e → finite_only o ≡ cond b (Some d) None
found None b d e h f = rw h refl
found (Some l) b d e h f = some_by (every is_finite l) b l d h f

module _ (q : Problem) (valid : Valid q) (n : BlockNormal) (l : Float) where
  -- in a list as long as the direction
  pub direction_found : (d e : List Float) (b : Bool) → length e ≡ p q + q.group_count * k q
      → (b ≡ is_direction (solved_of n (p q) (k q) q.group_count l (length e))) × (d ≡ left_in (solved_of n (p q) (k q) q.group_count l (length e)) e)
      → direction q n l ≡ cond b (Some d) None
  unfolding direction_of
  direction_found d e b long answer =
      let z = valid.sizes in
      let fits : solved_of n (p q) (k q) q.group_count l (length e) ≡ finished_of n (p q) (k q) q.group_count l
      = solve_fits n (p q) (k q) q.group_count l (length e) (params_most q.code) z.effects_low z.effects_high z.groups_high long in
      found (finished_of n (p q) (k q) q.group_count l) b d e (rw fits at answer.0) (rw fits at answer.1)
