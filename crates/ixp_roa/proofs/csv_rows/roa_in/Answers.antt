use Rattle.std.proofs.Common.{sym, subst, arith, ◌∙◌}
use Rattle.ixp_roa.specs.CsvRoas.{IsMaxField}
use Rattle.ixp_roa.proofs.CsvFields.{no_roa_net, no_roa_max, length_capped, not_length, length_told, length_denied, few_bits}
use Rattle.ixp_roa.proofs.csv_rows.roa_in.Goals as goal

pub returns-in_default-prefix_field : goal.returns-in_default-prefix_field
returns-in_default-prefix_field c = no_roa_net c.args.asn.now c.args.net.now c.args.max.now c.in_default-prefix_field.ensures

pub returns-in_default-max_field : goal.returns-in_default-max_field
returns-in_default-max_field c = no_roa_max c.args.asn.now c.args.net.now c.args.max.now c.in-Some-prefix_field.prefix c.in-Some-prefix_field.ensures c.in_default-max_field.ensures

pub returns-then-not-is_length : goal.returns-then-not-is_length
returns-then-not-is_length c =
    let said = c.in-Some-max_field.ensures in
    let denied = length_denied c.in-Some-prefix_field.prefix c.in-Some-max_field.max (sym c.is_length.ensures ∙ c.if-not-is_length.true) in
    (c.in-Some.asn, c.in-Some-prefix_field.prefix, said.0, (c.in-Some.ensures, c.in-Some-prefix_field.ensures, said.1), not_length c.in-Some-prefix_field.prefix c.in-Some-max_field.max said.0 said.2 denied)

pub overflow_cast-result : goal.overflow_cast-result
overflow_cast-result c =
    let told = length_told c.in-Some-prefix_field.prefix c.in-Some-max_field.max (sym c.is_length.ensures ∙ c.if-not-is_length.false) in
    let few = few_bits c.in-Some-prefix_field.prefix.family in
    let high = told.1 in
    omega arith

pub returns : goal.returns
returns c =
    let said = c.in-Some-max_field.ensures in
    let told = length_told c.in-Some-prefix_field.prefix c.in-Some-max_field.max (sym c.is_length.ensures ∙ c.if-not-is_length.false) in
    let same = length_capped c.in-Some-prefix_field.prefix c.in-Some-max_field.max said.0 said.2 told in
    ((c.in-Some.ensures, c.in-Some-prefix_field.ensures, subst (IsMaxField c.args.max.now c.in-Some-prefix_field.prefix) same said.1), told)
