use Rattle.std.proofs.Common.{◌≡◌, drop}
use Rattle.ixp_lang.specs.Trees.{stmts}
use Rattle.ixp_lang.specs.Views.{arms_view, stmts_view}
use Rattle.ixp_eval.specs.Machine.{chosen}
use Rattle.ixp_eval.specs.Views.{val_of}
use Rattle.ixp_eval.proofs.act.selected.Given as goal

abbrev pub invariant-arms : goal.invariant-arms
invariant-arms l =
    chosen (arms_view (drop l.labels-index l.arms)) (stmts (stmts_view l.other)) (val_of l.value)
    ≡ chosen (arms_view l.arms) (stmts (stmts_view l.other)) (val_of l.value)
