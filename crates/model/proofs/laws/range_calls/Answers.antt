use Rattle.model.proofs.Ranging.{range_calls}
use Rattle.model.proofs.laws.range_calls.Goals as goal

pub returns : goal.returns
returns c = range_calls
