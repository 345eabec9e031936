use Rattle.model.proofs.Querying.{queries_right}
use Rattle.model.proofs.laws.queries_right.Goals as goal

pub returns : goal.returns
returns c = queries_right
