-- What was passed of the line has no newline.
use Rattle.std.proofs.Common.{◌≡◌, length, option_map}
use Rattle.std.specs.Io.BufRead.{drop_through}
use Rattle.std.specs.Io.KnownBytes.{Keeps}
use Rattle.replay_cases.specs.Lines.{bytes_ahead}
use Rattle.replay_cases.proofs.lines.Lines.skip_line.Given as goal

abbrev pub invariant-loop : goal.invariant-loop
invariant-loop g l =
    (length l.self.buf.now ≡ length l.initial.self.buf.now) × Keeps (option_map (drop_through 10) (bytes_ahead g.R.Read.remaining l.initial.self)) (option_map (drop_through 10) (bytes_ahead g.R.Read.remaining l.self))
