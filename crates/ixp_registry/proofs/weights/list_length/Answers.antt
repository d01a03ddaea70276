use Rattle.std.proofs.Common.{rules, ◌≡◌, length, [], ◌∷◌, Some, arith}
use Rattle.ixp_num.specs.AddressForms.{version_of}
use Rattle.ixp_num_tables.specs.Tables.{find}
use Rattle.ixp_num_tables.proofs.Looking.{all_found}
use Rattle.ixp_registry.specs.Keys.{irr_key}
use Rattle.ixp_registry.specs.Valid.{ValidIrrList}
use Rattle.ixp_registry.proofs.weights.list_length.Goals as goal

pub returns-in-Some-clause-small : goal.returns-in-Some-clause-small
returns-in-Some-clause-small c =
    let l = c.in-Some.list.now in
    let key = c.args.member ∷ version_of c.args.family ∷ [] in
    let found : find irr_key key c.args.registry.now.irr ≡ Some l = search rules in
    let each : ValidIrrList l = all_found irr_key ValidIrrList key l c.args.registry.now.irr c.requires.irr.each found in
    let short = each.few in
    let e : c.len.result ≡ length l.prefixes = search rules in
    omega (arith, e, short)
