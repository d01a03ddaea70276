use Rattle.std.proofs.Common.{rules, ◌≡◌, true, List, sym, ap, subst, ◌∙◌}
use Rattle.std.specs.List.{AllByRecursion}
use Rattle.ixp_build_pending.specs.declared.rows.PendingText.{PendingText}
use Rattle.ixp_build_pending.specs.Rows.{all_put, is_pending}
use Rattle.ixp_build_pending.proofs.Noting.{noted_by, rows_pending}
use Rattle.ixp_build_pending.proofs.pending.Pending.note.Goals as goal

pub put_all-requires : goal.put_all-requires
put_all-requires c = subst (AllByRecursion (λ (r : PendingText). is_pending r ≡ true)) (sym c.in_ok-rows.ensures) (rows_pending c.args.count c.args.touch.now c.requires)

pub returns-then-touch-clause-ok : goal.returns-then-touch-clause-ok
returns-then-touch-clause-ok c =
    noted_by c.args.count c.args.touch.now c.args.self.now _
    (c.in_ok-put_all.ensures.ok ∙ ap (λ (rs : List PendingText). all_put rs c.args.self.now.texts) c.in_ok-rows.ensures) (search rules)

pub returns-else-touch-clause-ok : goal.returns-else-touch-clause-ok
returns-else-touch-clause-ok c =
    noted_by c.args.count c.args.touch.now c.args.self.now _
    (c.in_ok-put_all.ensures.ok ∙ ap (λ (rs : List PendingText). all_put rs c.args.self.now.texts) c.in_ok-rows.ensures) (search rules)
