use Rattle.std.proofs.Common.{rules, ◌≡◌, sym, subst}
use Rattle.ixp_build.specs.Bundles.{built_of}
use Rattle.ixp_desk_lock.specs.Facts.{HasBuilt}
use Rattle.ixp_desk_lock.proofs.Installs.{built_now}
use Rattle.ixp_desk_lock.proofs.locked.Locked.built.Goals as goal

pub returns : goal.returns
returns g c =
    let is : c.built.result ≡ built_of c.view.result.now.bundle = search rules in
    subst (HasBuilt c.args.self.now.0) (sym is) (built_now c.args.self.now c.self.inside.pen c.self.inside.owed c.self.inside.state c.self.inside.pending c.view.result.now c.self.view_is c.requires.none c.self.invariant.1 c.view.ensures)
