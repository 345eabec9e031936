use Rattle.model.proofs.Telling.{contents}
use Rattle.model.proofs.laws.contents.Goals as goal

pub returns : goal.returns
returns c = contents
