use Rattle.ixp_explain_member.proofs.Explaining.{part_text}
use Rattle.ixp_explain_member.proofs.member.own_part.Goals as goal

pub returns-in-Ok : goal.returns-in-Ok
returns-in-Ok c = λ s its. part_text c.args.registry.now c.args.handle.now c.args.router.now c.args.interface s c.in-Ok.text c.requires.there its c.in-Ok.ensures
