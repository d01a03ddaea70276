use Rattle.std.proofs.Common.{rules, ◌≡◌, ◌==◌, ◌||◌, Bool, subst}
use Rattle.std.specs.List.{list_any}
use Rattle.ixp_registry.specs.declared.router.Router.{Router}
use Rattle.ixp_registry.specs.Lines.{routers_at}
use Rattle.ixp_registry.specs.Words.{is_reserved}
use Rattle.ixp_registry_breach.proofs.asns.routers_have_asns.Goals as goal

pub returns : goal.returns
returns c =
    let test : Router → Bool = λ r. is_reserved r.asn.0 || list_any (λ m. m.asn.0 == r.asn.0) c.args.rows.now.members in
    c.first.ensures (routers_at c.args.rows.now) c.args.rows.now.routers test c.routers_at.ensures c.as_slice-routers.ensures.rows
    (λ r b says.
    let h : b ≡ test says.shown.now = search rules in
    let P : Router → Type 0 = λ x. b ≡ test x in
    subst P says.shows h)
