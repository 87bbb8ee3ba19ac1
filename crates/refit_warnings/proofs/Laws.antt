-- The lines of a list of warnings, from one on.
use Rattle.std.proofs.Common.{◌≡◌, ℕ, ◌+◌, ◌<◌, ◌≤◌, length, drop, get_or, drop-cons, drop_of_length-le, add-one}
use Rattle.std.specs.Prelude.{List}
use Rattle.text_buffer.specs.Text.{Written, wrote}
use Rattle.text_buffer.specs.laws.Text.{wrote_none, wrote_then}
use Rattle.refit_warnings.specs.declared.findings.Warning.{Warning}
use Rattle.refit_warnings.specs.Warnings.{FindingsLists}
use Rattle.refit_warnings.specs.Told.{warned_text, warning_lines_for}

pub lines_end : (w : Written) (r : FindingsLists) (ws : List Warning) (i : ℕ) → length ws ≤ i → wrote w (warning_lines_for r (drop i ws)) ≡ w
unfolding warning_lines_for
lines_end w r ws i h = rw (drop_of_length-le ws {i = i} h) (wrote_none w)

pub lines_next : (w : Written) (r : FindingsLists) (ws : List Warning) (i : ℕ) (d : Warning) → i < length ws
    → wrote w (warning_lines_for r (drop i ws)) ≡ wrote (wrote w (warned_text r (get_or ws i d))) (warning_lines_for r (drop (i + 1) ws))
unfolding warning_lines_for
lines_next w r ws i d h = rw (add-one i, drop-cons ws i d h) (wrote_then w _ _)

pub ruleset lines = (lines_end, lines_next)
