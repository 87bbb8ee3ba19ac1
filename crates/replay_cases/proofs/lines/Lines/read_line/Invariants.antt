-- No byte of the line that was looked at is a newline, and no byte was lost.
use Rattle.std.proofs.Common.{◌≡◌, ◌≢◌, ◌≤◌, length, take, All}
use Rattle.std.specs.Io.KnownBytes.{Keeps}
use Rattle.replay_cases.specs.Lines.{held, bytes_ahead}
use Rattle.replay_cases.proofs.lines.Lines.read_line.Given as goal

abbrev pub invariant-loop : goal.invariant-loop
invariant-loop g l =
    (length l.self.buf.now ≡ length l.initial.self.buf.now) × (l.len ≤ length (held l.self)) × All (λ b. b ≢ 10) (take l.len (held l.self)) × Keeps (bytes_ahead g.R.Read.remaining l.initial.self) (bytes_ahead g.R.Read.remaining l.self)
