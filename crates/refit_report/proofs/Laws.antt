-- The lines of a list of names, from one on.
use Rattle.std.proofs.Common.{◌≡◌, ℕ, ◌+◌, ◌<◌, ◌≤◌, List, map, length, drop, get_or, drop-cons, drop_of_length-le, add-one, Float, Bor}
use Rattle.text_buffer.specs.Text.{Written, wrote}
use Rattle.text_buffer.specs.laws.Text.{wrote_none, wrote_then}
use Rattle.refit_report.specs.Report.{value_line, value_lines}

pub lines_end : (w : Written) (names : List (Bor (List ℕ))) (left : List Float) (i : ℕ) → length names ≤ i
    → wrote w (value_lines (map (λ name. name.now) (drop i names)) left) ≡ w
unfolding value_lines
lines_end w names left i h = rw (drop_of_length-le names {i = i} h) (wrote_none w)

pub lines_next : (w : Written) (names : List (Bor (List ℕ))) (left : List Float) (i : ℕ) (d : Bor (List ℕ)) → i < length names
    → wrote w (value_lines (map (λ name. name.now) (drop i names)) left)
    ≡ wrote (wrote w (value_line (get_or names i d).now left)) (value_lines (map (λ name. name.now) (drop (i + 1) names)) (drop 1 left))
unfolding value_lines
lines_next w names left i d h = rw (add-one i, drop-cons names i d h) (wrote_then w _ _)

pub ruleset lines = (lines_end, lines_next)
