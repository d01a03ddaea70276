use Rattle.std.proofs.Common.{◌≡◌, length}
use Rattle.ixp_lang.specs.Meaning.{bind, find_named}
use Rattle.ixp_eval.specs.Views.{vals}
use Rattle.ixp_eval.proofs.frames.argument.Given as goal

abbrev pub invariant-params : goal.invariant-params
invariant-params l = find_named (bind l.left.0.now (vals l.left.1.now)) l.name ≡ find_named (bind l.params (vals l.args)) l.name

abbrev pub decreases-params : goal.decreases-params
decreases-params l = length l.left.0.now
