use Rattle.std.proofs.Common.{◌≡◌, ◌∙◌, filter, ap}
use Rattle.ixp_build_pending.specs.Rows.{all_put, is_pending}
use Rattle.ixp_build_pending.proofs.Filters.{puts_kept}
use Rattle.ixp_build_pending.proofs.rows.PendingTexts.put_all.Goals as goal

pub returns-clause-ok : goal.returns-clause-ok
returns-clause-ok c =
    ap (filter is_pending) c.fill.ensures
    ∙ (puts_kept is_pending c.args.fresh.items c.make_room.new.rows c.as_slice-rows.ensures.ascends c.requires
    ∙ ap (all_put c.args.fresh.items) (c.in_ok-make_room.ensures.same ∙ c.self.view_is))
