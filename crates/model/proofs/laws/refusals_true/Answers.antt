use Rattle.model.proofs.Truth.{refusals_true}
use Rattle.model.proofs.laws.refusals_true.Goals as goal

pub returns : goal.returns
returns c = refusals_true
