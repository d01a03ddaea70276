use Rattle.std.proofs.Common.{sym}
use Rattle.ixp_policy.specs.Views.{session_of}
use Rattle.ixp_build_demo.proofs.Parts.{session_few}
use Rattle.ixp_build_demo.proofs.sessions.patterns_at.Goals as goal

pub set_sizes-requires-clause-few : goal.set_sizes-requires-clause-few
set_sizes-requires-clause-few c =
    session_few c.args.registry.now c.args.router.now c.args.interface.now (session_of c.in-Some.session) c.requires.valid (sym c.in-Some.ensures)
