use Rattle.std.proofs.Common.{◌≡◌, ◌∙◌, ◌<◌, ◌≤◌, length, Err, ap, subst, arith}
use Rattle.ixp_api_bodies.specs.Answers.{Gives}
use Rattle.ixp_api_bodies.proofs.AskedItems.{too_many, not_many}
use Rattle.ixp_api_bodies.proofs.asked.list_upto.Goals as goal

pub returns-then-values-most : goal.returns-then-values-most
returns-then-values-most g c = λ free.
    let over : c.args.most < length c.args.values.now = omega arith in
    ap Err c.fault_at.ensures ∙ too_many g.L.Listed.item_at c.args.field c.args.most c.args.values.now over

pub returns : goal.returns
returns g c =
    let few : length c.args.values.now ≤ c.args.most = omega arith in
    subst (λ x. Gives (λ r. r ≡ x) c.items_of.result) (not_many g.L.Listed.item_at c.args.field c.args.most c.args.values.now few) c.items_of.ensures
