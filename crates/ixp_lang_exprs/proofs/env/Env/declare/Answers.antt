use Rattle.std.proofs.Common.{◌∙◌, subst, Some}
use Rattle.std.specs.BTreeMap.{UpdatesBy}
use Rattle.ixp_lang_exprs.proofs.DeclaredNames.{in_order, sought, declared_name}
use Rattle.ixp_lang_exprs.proofs.env.Env.declare.Goals as goal

pub returns : goal.returns
returns c = λ i other.
    declared_name c.args.self.now.names c.insert.new.self c.args.name.now c.args.what
    (subst (λ bytes. UpdatesBy in_order (sought bytes) c.args.self.now.names c.insert.new.self (Some c.args.what)) (c.in_ok-key.ensures.items ∙ c.as_bytes.ensures.bytes) c.in_ok-insert.ensures.updates) other i
