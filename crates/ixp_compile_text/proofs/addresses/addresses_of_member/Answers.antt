use Rattle.std.proofs.Common.{◌≡◌, List, [], ◌∷◌, ◌++◌, rules, sym, ap, ◌∙◌}
use Rattle.ixp_registry.specs.declared.network.Interface.{Interface}
use Rattle.ixp_compile_text.specs.declared.addresses.Listed.{Listed}
use Rattle.ixp_compile_text.specs.Addresses.{onto, own_addresses}
use Rattle.ixp_compile_text.proofs.Ascending.{onto_nothing, own_last, plain}
use Rattle.ixp_compile_text.proofs.addresses.addresses_of_member.Goals as goal

pub each-init : goal.each-init
each-init c =
    ap (λ (addresses : List Listed). onto (own_addresses c.args.family c.args.vlan c.args.member c.args.interfaces.now) (plain addresses)) c.new-addresses.ensures
    ∙ onto_nothing (own_addresses c.args.family c.args.vlan c.args.member c.args.interfaces.now)

pub each-preserved : goal.each-preserved
each-preserved c =
    let split : c.each.left.now ≡ c.in-Some.earlier.now ++ c.in-Some.interface.now ∷ [] = search rules in
    ap (onto (own_addresses c.args.family c.args.vlan c.args.member c.in-Some.earlier.now)) c.in_ok-put_own.ensures
    ∙ sym (own_last c.args.family c.args.vlan c.args.member c.in-Some.earlier.now c.in-Some.interface.now (plain c.each.addresses))
    ∙ ap (λ (is : List Interface). onto (own_addresses c.args.family c.args.vlan c.args.member is) (plain c.each.addresses)) (sym split)
    ∙ c.each.invariant
