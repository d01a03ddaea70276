use Rattle.std.proofs.Common.{rules, ◌≡◌, ◌++◌, ◌∷◌, [], subst, sym, ap, ◌∙◌, append-nil, flat_map, length, map}
use Rattle.ixp_num.specs.declared.family.Family.TheVariants.{V4, V6}
use Rattle.ixp_num_tables.specs.Tables.{Ascends}
use Rattle.ixp_num_tables.proofs.Places.{Ascends_behind}
use Rattle.ixp_registry.specs.Keys.{address_key, interface_row_key}
use Rattle.ixp_registry.specs.Registries.{bare, addresses_of}
use Rattle.ixp_registry.specs.Valid.{IsIn}
use Rattle.ixp_rows.proofs.Gathered.{no_rows, AreThere, all_more, all_behind, none_below, there_behind, none_there, interface_more, addresses_moved}
use Rattle.ixp_rows.proofs.gathering.interfaces_of.Goals as goal

pub rows-preserved : goal.rows-preserved
rows-preserved c =
    let e : c.rows.behind.now ≡ c.in-Some.row.now ∷ c.in-Some.others.now = search rules in
    let i = c.with_addresses.result in
    let pushed : c.push.new.self.items ≡ c.rows.interfaces.items ++ i ∷ [] = search rules in
    let up = subst (Ascends interface_row_key) e c.rows.invariant.up in
    let there = subst (λ rows. AreThere rows c.rows.left.items) e c.rows.invariant.there in
    let above = c.with_addresses.ensures.behind c.rows.invariant.ascends (none_below c.in-Some.row.now c.in-Some.others.now c.rows.left.items up there) in
    record {
      rows = rw pushed (interface_more c.rows.interfaces.items i c.in-Some.row.now c.in-Some.others.now c.args.rows.now (ap (λ t. map bare c.rows.interfaces.items ++ t) (sym e) ∙ c.rows.invariant.rows) c.with_addresses.ensures.row);
      addresses = rw pushed (addresses_moved c.rows.interfaces.items i c.rows.left.items c.with_addresses.new.addresses.items c.args.addresses.items c.rows.invariant.addresses c.with_addresses.ensures.taken);
      families = rw pushed (all_more (λ i. IsIn V4 i.v4 × IsIn V6 i.v6) c.rows.interfaces.items i c.rows.invariant.families c.with_addresses.ensures.families);
      up = up.1;
      ascends = Ascends_behind address_key (addresses_of i) c.with_addresses.new.addresses.items (subst (Ascends address_key) c.with_addresses.ensures.taken c.rows.invariant.ascends);
      there = there_behind c.in-Some.row.now c.in-Some.others.now c.with_addresses.new.addresses.items
          (all_behind _ (addresses_of i) c.with_addresses.new.addresses.items (subst (AreThere (c.in-Some.row.now ∷ c.in-Some.others.now)) c.with_addresses.ensures.taken there)) above;
    }

pub returns-clause-addresses : goal.returns-clause-addresses
returns-clause-addresses c =
    let none_left : length c.rows.behind.now ≡ 0 = search rules in
    let e = no_rows c.rows.behind.now none_left in
    let none = none_there c.rows.left.items (subst (λ rows. AreThere rows c.rows.left.items) e c.rows.invariant.there) in
    sym (append-nil (flat_map addresses_of c.rows.interfaces.items)) ∙ (ap (λ t. flat_map addresses_of c.rows.interfaces.items ++ t) (sym none) ∙ c.rows.invariant.addresses)
