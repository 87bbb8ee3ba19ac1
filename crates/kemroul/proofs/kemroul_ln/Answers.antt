-- The argument is handed on as it is: `ln` promises the result. By this line, and not by search, a wrong argument is refused for what it gives.
use Rattle.kemroul.proofs.kemroul_ln.Goals as goal

pub returns : goal.returns
returns c = c.ln.ensures
