-- A run of texts, one more at a time.
use Rattle.std.proofs.Common.{◌≡◌, ℕ, ◌+◌, List, [], ◌++◌}
use Rattle.math.specs.laws.Loops.{iter_zero, iter_next}
use Rattle.text_buffer.specs.Text.{Written, wrote}
use Rattle.text_buffer.specs.laws.Text.{wrote_none, wrote_then}
use Rattle.svg_marks.specs.Escape.{each_text}

pub each_none : (w : Written) (f : ℕ → List ℕ) → wrote w (each_text f 0) ≡ w
each_none w f = rw (iter_zero (λ i t. t ++ f i) []) (wrote_none w)

pub each_next : (w : Written) (f : ℕ → List ℕ) (i : ℕ) → wrote w (each_text f (i + 1)) ≡ wrote (wrote w (each_text f i)) (f i)
each_next w f i = rw (iter_next (λ i t. t ++ f i) i []) (wrote_then w (each_text f i) (f i))

pub ruleset running = (each_none, each_next)
