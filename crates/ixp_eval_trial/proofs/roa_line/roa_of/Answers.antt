use Rattle.std.proofs.Common.{sym, ◌∙◌}
use Rattle.ixp_eval_trial.proofs.Fields.{no_line, no_name, no_roa}
use Rattle.ixp_eval_trial.proofs.roa_line.roa_of.Goals as goal

pub returns-in_default : goal.returns-in_default
returns-in_default c = no_line c.args.rest.now c.in_default.ensures

pub returns-then-not-is_name : goal.returns-then-not-is_name
returns-then-not-is_name c =
    no_name c.args.rest.now c.in-Some.fields.table.now c.in-Some.fields.net.now c.in-Some.fields.max.now c.in-Some.fields.asn.now c.in-Some.ensures (sym c.is_name.ensures ∙ c.if-not-is_name.true)

pub returns-in_default-roa_in : goal.returns-in_default-roa_in
returns-in_default-roa_in c =
    no_roa c.args.rest.now c.in-Some.fields.table.now c.in-Some.fields.net.now c.in-Some.fields.max.now c.in-Some.fields.asn.now c.in-Some.ensures c.in_default-roa_in.ensures
