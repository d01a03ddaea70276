use Rattle.std.proofs.Common.{◌≡◌, ◌∷◌, ◌||◌, Some, sym, ap, ◌∙◌, subst}
use Rattle.std.specs.BTreeMap.{UpdatesBy, get_by}
use Rattle.std.specs.Option.{is_some}
use Rattle.ixp_rpsl.specs.Expansion.{has_name}
use Rattle.ixp_rpsl.specs.Lookups.{sought}
use Rattle.ixp_rpsl.proofs.Keys.{in_order}
use Rattle.ixp_rpsl.proofs.Marking.{name_marked}
use Rattle.ixp_rpsl.proofs.origins.names_of.Goals as goal

pub names-preserved : goal.names-preserved
names-preserved c = λ q.
    let left : c.names.left.now ≡ c.in-Some.reach.now ∷ c.in-Some.others.now = c.in-Some.ensures.cases.0 in
    let updates : UpdatesBy in_order (sought c.in-Some.reach.now.set) c.names.names c.insert.new.self (Some tt) =
    subst (λ bytes. UpdatesBy in_order (sought bytes) c.names.names c.insert.new.self (Some tt)) (c.in_ok-key.ensures.items ∙ c.as_bytes.ensures.bytes) c.in_ok-insert.ensures.updates in
    name_marked c.names.names c.insert.new.self c.in-Some.reach.now c.in-Some.others.now updates q
    ∙ (ap (λ l. is_some (get_by (sought q) c.names.names) || has_name l q) (sym left) ∙ c.names.invariant q)
