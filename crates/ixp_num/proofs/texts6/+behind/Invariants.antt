use Rattle.std.proofs.Common.{◌+◌, ◌*◌}
use Rattle.ixp_num.proofs.texts6.+behind.Given as goal

abbrev pub decreases-behind_text : goal.decreases-behind_text
decreases-behind_text l = 3 * l.room + 2

abbrev pub decreases-more_text : goal.decreases-more_text
decreases-more_text l = 3 * l.room + 1

abbrev pub decreases-next_text : goal.decreases-next_text
decreases-next_text l = 3 * l.room + 3
