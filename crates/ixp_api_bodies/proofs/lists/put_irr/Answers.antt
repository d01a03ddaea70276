use Rattle.std.proofs.Common.{refl}
use Rattle.ixp_api_bodies.proofs.Families.{read-family}
use Rattle.ixp_api_bodies.proofs.lists.put_irr.Goals as goal

pub returns-in-Ok-clause-lawful : goal.returns-in-Ok-clause-lawful
returns-in-Ok-clause-lawful c = rw (read-family c.args.args.now.family c.args.body.now _ c.in-Ok.ensures) refl
