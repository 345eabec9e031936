use Rattle.std.proofs.Common.{◌≡◌}
use Rattle.card_copy.specs.Copies.{Copied}
use Rattle.card_copy.proofs.copy.copy.Given as goal

abbrev pub invariant-loop-copied : goal.invariant-loop-copied
invariant-loop-copied g l =
    Copied (g.S.ReadCard.contents l.from) (g.D.ReadCard.contents l.initial.to) (g.D.Card.worn (g.D.Card.kept l.initial.to)) l.range.first l.range.start l.copied-counter (g.D.ReadCard.contents l.to)
    × (g.D.Card.kept l.to ≡ g.D.Card.kept l.initial.to)
