-- The bytes read so far are a part of the buffer; the room behind them becomes less.
use Rattle.std.proofs.Common.{◌≡◌, ◌-◌, ◌≤◌, length}
use Rattle.sheet_main.proofs.read_input.Given as goal

abbrev pub invariant-loop-length : goal.invariant-loop-length
invariant-loop-length l = (length l.buf ≡ length l.initial.buf) × (l.length ≤ length l.buf)

abbrev pub decreases-loop-length : goal.decreases-loop-length
decreases-loop-length l = length l.initial.buf - l.length
