use Rattle.std.proofs.Common.{◌≡◌, Ok, refl, subst}
use Rattle.ixp_desk_history.specs.declared.turn.Event.TheVariants.{Install}
use Rattle.ixp_desk_history.specs.declared.turn.Shown.{Shown}
use Rattle.ixp_desk_lock.specs.Calls.{One}
use Rattle.ixp_desk_lock.specs.Published.{IsInstall, Reads}
use Rattle.ixp_desk_lock.proofs.Installs.{ordered_here}
use Rattle.ixp_desk_lock.proofs.PublishLaws.{adds_as, installs_one, text_if}
use Rattle.ixp_desk_lock.proofs.locked.Locked.install_text.Goals as goal

pub installation-requires-clause-ordered : goal.installation-requires-clause-ordered
installation-requires-clause-ordered g c = ordered_here c.args.self.now.0 c.in_ok-made.made c.in_ok-made.ensures.ordered

pub put_installation-requires-clause-turn : goal.put_installation-requires-clause-turn
put_installation-requires-clause-turn g c = (c.in_ok-made.made, c.in_ok-turn.ensures, refl)

pub returns-clause-turns : goal.returns-clause-turns
returns-clause-turns g c = adds_as (One (λ v. v ≡ Install c.in_ok-made.made.upto)) (One IsInstall) c.args.seat.now c.put_installation.new.seat (installs_one c.in_ok-made.made.upto) c.in_ok-put_installation.ensures.ok

pub returns-clause-text : goal.returns-clause-text
returns-clause-text g c = text_if c.args.self.now.0 c.put_installation.new.self.0 c.in_ok-made.made c.in_ok-turn.turn.view c.args.router.now (Ok c.in_ok-text.text) c.in_ok-made.ensures.ordered c.in_ok-made.ensures.upto c.in_ok-put_installation.ensures.view c.in_ok-put_installation.ensures.built
    (subst (λ (w : Shown). Reads w c.args.router.now c.in_ok-text.text) c.get.ensures c.in_ok-text.ensures)
