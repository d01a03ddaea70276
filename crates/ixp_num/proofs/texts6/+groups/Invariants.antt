use Rattle.std.proofs.Common.{◌+◌, ◌*◌}
use Rattle.ixp_num.proofs.texts6.+groups.Given as goal

abbrev pub decreases-colon_text : goal.decreases-colon_text
decreases-colon_text l = 2 * l.room

abbrev pub decreases-groups_text : goal.decreases-groups_text
decreases-groups_text l = 2 * l.room + 1
