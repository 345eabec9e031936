-- The steps of a card of zeros.
use Rattle.std.proofs.lemmas.List.{length-replicate, get_or-replicate}
use Rattle.std.proofs.lemmas.Bool.Decides.{nat_tests}

pub ruleset steps = (nat_tests, length-replicate, get_or-replicate)
