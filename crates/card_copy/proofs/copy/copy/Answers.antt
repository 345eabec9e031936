use Rattle.std.proofs.Common.{◌≡◌, true, is_ok, rules, ap}
use Rattle.card_copy.proofs.Copying.{copied_more}
use Rattle.card_copy.proofs.copy.copy.Goals as goal

-- with copied_more among the steps, grind still does not find this
pub loop-copied-preserved : goal.loop-copied-preserved
loop-copied-preserved g c =
    let granted : is_ok c.copy_block.result ≡ true = search rules in
    let same = ap g.D.Card.worn c.loop-copied.invariant.1 in
    (copied_more _ _ _ c.args.range.first c.args.range.start _ _ _ _ _ c.loop-copied.invariant.0 same c.copy_block.ensures.copied granted, search rules)
