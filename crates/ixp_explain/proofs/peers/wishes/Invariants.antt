use Rattle.std.proofs.Common.{◌≡◌, drop}
use Rattle.ixp_lang.specs.Views.{config_view}
use Rattle.ixp_eval.specs.Views.{environment_of}
use Rattle.ixp_explain.specs.Explained.{wishes_told}
use Rattle.ixp_explain.proofs.Telling.{carried}
use Rattle.ixp_explain.proofs.peers.wishes.Given as goal

abbrev pub invariant-each : goal.invariant-each
invariant-each l =
    carried l.wishes (wishes_told (config_view l.config) (environment_of l.env) l.route (drop l.peer-index l.peers))
    ≡ wishes_told (config_view l.config) (environment_of l.env) l.route l.peers
