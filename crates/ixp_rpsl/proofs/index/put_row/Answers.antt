use Rattle.std.proofs.Common.{rules, ◌≡◌, ◌++◌, ◌∙◌, Some, subst}
use Rattle.std.specs.BTreeMap.{UpdatesBy}
use Rattle.ixp_rpsl.specs.Expansion.{sets_in}
use Rattle.ixp_rpsl.specs.Lookups.{sought, sets_at}
use Rattle.ixp_rpsl.proofs.Keys.{in_order, sets_changed, put_back}
use Rattle.ixp_rpsl.proofs.index.put_row.Goals as goal

pub returns : goal.returns
returns c =
    let name = c.args.row.now.name in
    let more = sets_in c.args.row.now.members in
    let put : c.put_sets.new.names ≡ sets_at c.args.index.now name ++ more = search rules in
    put_back (sets_at c.args.index.now) (sets_at c.taken-names.new.index) (sets_at c.insert.new.self) name more c.taken-names.ensures.others
    (sets_changed c.taken-names.new.index c.insert.new.self name (Some (sets_at c.args.index.now name ++ more))
    (subst (λ names. UpdatesBy in_order (sought name) c.taken-names.new.index c.insert.new.self (Some names)) put
    (subst (λ bytes. UpdatesBy in_order (sought bytes) c.taken-names.new.index c.insert.new.self (Some c.put_sets.new.names)) (c.in_ok-key.ensures.items ∙ c.as_bytes.ensures.bytes) c.in_ok-insert.ensures.updates)))
