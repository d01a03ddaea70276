use Rattle.std.proofs.Common.{ℕ, List, ap, sym, ◌∙◌, subst}
use Rattle.ixp_num.specs.declared.roa.Roa.{Roa}
use Rattle.ixp_build.specs.declared.bundle.Bundle.{Bundle}
use Rattle.ixp_build.specs.Bundles.{built_of, roas_of}
use Rattle.ixp_desk_history.specs.declared.turn.Shown.{Shown}
use Rattle.ixp_desk_lock.specs.Facts.{HasBuilt}
use Rattle.ixp_desk_rtr.specs.Roas.{AreRoasAt}
use Rattle.ixp_desk_rtr.proofs.Shown.{built_shown, roas_shown}
use Rattle.ixp_desk_rtr.proofs.roas.roas_seen.Goals as goal

pub returns-clause-built : goal.returns-clause-built
returns-clause-built g c =
    let same = c.built.ensures ∙ ap built_of (c.get-bundle.ensures ∙ ap (λ (w : Shown). w.bundle) c.get.ensures) in
    subst (HasBuilt c.args.seat.now.2) (sym same) (built_shown c.args.seat.now.2 c.view.result.now c.view.ensures)

pub returns-clause-roas : goal.returns-clause-roas
returns-clause-roas g c =
    let bundle = c.get-bundle.ensures ∙ ap (λ (w : Shown). w.bundle) c.get.ensures in
    let built = c.built.ensures ∙ ap built_of bundle in
    let roas = c.in_ok-roas.ensures ∙ ap roas_of bundle in
    subst (λ (k : ℕ). AreRoasAt c.args.seat.now.2 k c.in_ok-roas.roas) (sym built)
    (subst (λ (rs : List Roa). AreRoasAt c.args.seat.now.2 (built_of c.view.result.now.bundle) rs) (sym roas) (roas_shown c.args.seat.now.2 c.view.result.now c.view.ensures))
