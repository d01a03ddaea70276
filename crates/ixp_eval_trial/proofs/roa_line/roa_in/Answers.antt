use Rattle.ixp_eval_trial.proofs.Fields.{no_net_field, no_asn_field}
use Rattle.ixp_eval_trial.proofs.roa_line.roa_in.Goals as goal

pub returns-in-Err : goal.returns-in-Err
returns-in-Err c = no_net_field c.args.fields.now.net.now c.args.fields.now.max.now c.args.fields.now.asn.now c.in-Err.field-0 c.in-Err.ensures

pub returns-in-Err-read_asn : goal.returns-in-Err-read_asn
returns-in-Err-read_asn c = no_asn_field c.args.fields.now.net.now c.args.fields.now.max.now c.args.fields.now.asn.now c.in-Err-read_asn.field-0 c.in-Err-read_asn.ensures
