use Rattle.std.proofs.Common.{rules, ◌≡◌, ◌++◌, ◌∷◌, [], ◌∙◌, Some, subst}
use Rattle.std.specs.BTreeMap.{UpdatesBy}
use Rattle.ixp_rpsl.specs.Lookups.{sought}
use Rattle.ixp_rpsl.proofs.Keys.{in_order}
use Rattle.ixp_rpsl_sources.specs.Told.{places_at}
use Rattle.ixp_rpsl_sources.proofs.Places.{places_changed, put_back}
use Rattle.ixp_rpsl_sources.proofs.claims.put_place.Goals as goal

pub returns : goal.returns
returns c =
    let name = c.args.name.now in
    let more = c.args.place ∷ [] in
    let put : c.push.new.self ≡ places_at c.args.index.now name ++ more = search rules in
    put_back (places_at c.args.index.now) (places_at c.taken-places.new.index) (places_at c.insert.new.self) name more c.taken-places.ensures.others
    (places_changed c.taken-places.new.index c.insert.new.self name (Some (places_at c.args.index.now name ++ more))
    (subst (λ places. UpdatesBy in_order (sought name) c.taken-places.new.index c.insert.new.self (Some places)) put
    (subst (λ bytes. UpdatesBy in_order (sought bytes) c.taken-places.new.index c.insert.new.self (Some c.push.new.self)) (c.in_ok-key.ensures.items ∙ c.as_bytes.ensures.bytes) c.in_ok-insert.ensures.updates)))
