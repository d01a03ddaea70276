use Rattle.std.proofs.Common.{rules, ◌≡◌, [], ◌∷◌, ◌++◌, Some}
use Rattle.ixp_lang.specs.Values.{values_of, values_in}
use Rattle.ixp_lang.proofs.Grouping.{value_added, values_after}
use Rattle.ixp_lang.proofs.groups.Groups.add.Goals as goal

pub returns : goal.returns
returns g c =
    let pushed : c.push.new.self.items ≡ c.take-values.result.items ++ c.args.value ∷ [] = search rules in
    value_added (values_of c.args.self.now) (values_of c.take-values.new.self) (values_in c.insert.new.self) c.args.name.now c.take-values.result.items c.push.new.self.items c.args.value
    c.take-values.ensures.values pushed c.take-values.ensures.others
    (values_after c.take-values.new.self.by_name c.insert.new.self c.args.name.now (Some c.push.new.self) c.in_ok-insert.ensures.updates)
