use Rattle.std.proofs.Common.{◌-◌}
use Rattle.zullqami.proofs.transfer.transfer.Given as goal

-- the blocks that a card may have from the start of what is left on
abbrev pub decreases-loop-stop : goal.decreases-loop-stop
decreases-loop-stop g l = 16777216 - l.left.start
