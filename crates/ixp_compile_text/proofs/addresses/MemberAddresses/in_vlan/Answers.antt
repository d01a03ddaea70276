use Rattle.std.proofs.Common.{◌≡◌, List, [], ◌∷◌, ◌++◌, rules, sym, ap, ◌∙◌}
use Rattle.ixp_registry.specs.declared.network.Interface.{Interface}
use Rattle.ixp_compile_text.specs.Addresses.{addresses_of, onto, own_addresses}
use Rattle.ixp_compile_text.proofs.Ascending.{onto_nothing, own_last}
use Rattle.ixp_compile_text.proofs.addresses.MemberAddresses.in_vlan.Goals as goal

pub each-init : goal.each-init
each-init c =
    λ m.
    ap (onto (own_addresses c.args.family c.args.vlan m c.args.interfaces.now)) (c.new-addresses.ensures m)
    ∙ onto_nothing (own_addresses c.args.family c.args.vlan m c.args.interfaces.now)

pub each-preserved : goal.each-preserved
each-preserved c =
    let split : c.each.left.now ≡ c.in-Some.earlier.now ++ c.in-Some.interface.now ∷ [] = search rules in
    λ m.
    ap (onto (own_addresses c.args.family c.args.vlan m c.in-Some.earlier.now)) (c.in_ok-add.ensures m)
    ∙ sym (own_last c.args.family c.args.vlan m c.in-Some.earlier.now c.in-Some.interface.now (addresses_of c.each.addresses m))
    ∙ ap (λ (is : List Interface). onto (own_addresses c.args.family c.args.vlan m is) (addresses_of c.each.addresses m)) (sym split)
    ∙ c.each.invariant m
