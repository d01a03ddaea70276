use Rattle.std.proofs.Common.{rules}
use Rattle.ixp_desk_lock.proofs.PresentRoas.{roas_made, roas_shared}
use Rattle.ixp_desk_lock.proofs.locked.Locked.present_roas.Goals as goal

pub returns-then-has_roas : goal.returns-then-has_roas
returns-then-has_roas g c = roas_made c.args.self.now c.self.inside.pen c.self.inside.owed c.self.inside.state c.self.inside.pending c.in_ok-table.table c.new-then-has_roas.result c.self.view_is c.requires.none c.self.invariant.1 (search rules) c.new-then-has_roas.ensures

pub returns : goal.returns
returns g c = roas_shared c.args.self.now c.self.inside.pen c.self.inside.owed c.self.inside.state c.self.inside.pending c.view.result.now c.has_roas.result c.get-2.result.now.roas c.shared_roas.result c.self.view_is c.requires.none c.self.invariant.1 c.view.ensures
    c.has_roas.ensures c.if-has_roas.false (search rules) c.shared_roas.ensures
