use Rattle.model.proofs.Reserving.{fewest_pieces}
use Rattle.model.proofs.laws.fewest_pieces.Goals as goal

pub returns : goal.returns
returns c = fewest_pieces
