use Rattle.std.proofs.Common.{ap, sym, ◌∙◌, subst}
use Rattle.ixp_build.specs.Bundles.{built_of}
use Rattle.ixp_desk_history.specs.declared.turn.Shown.{Shown}
use Rattle.ixp_desk_lock.specs.Facts.{HasBuilt}
use Rattle.ixp_desk_rtr.proofs.Shown.{built_shown}
use Rattle.ixp_desk_rtr.proofs.roas.built_seen.Goals as goal

pub returns : goal.returns
returns g c =
    let same = c.built.ensures ∙ ap built_of (c.get-2.ensures ∙ ap (λ (w : Shown). w.bundle) c.get.ensures) in
    subst (HasBuilt c.args.seat.now.2) (sym same) (built_shown c.args.seat.now.2 c.view.result.now c.view.ensures)
