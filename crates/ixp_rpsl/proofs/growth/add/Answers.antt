use Rattle.std.proofs.Common.{◌≡◌, ◌++◌, ◌∷◌, [], ◌∙◌, sym, ap, Some, subst, List, ℕ, true, false}
use Rattle.std.specs.BTreeMap.{UpdatesBy, get_by}
use Rattle.std.specs.Option.{is_some}
use Rattle.ixp_rpsl.specs.Expansion.{has_name}
use Rattle.ixp_rpsl.specs.Lookups.{sought}
use Rattle.ixp_rpsl.specs.declared.objects.Reach.{Reach}
use Rattle.ixp_rpsl.proofs.Keys.{in_order, marked, added_once}
use Rattle.ixp_rpsl.proofs.growth.add.Goals as goal

pub returns-then-contains_key : goal.returns-then-contains_key
returns-then-contains_key c =
    let x : Reach = record { set = c.args.name.now; by = c.args.by } in
    let there : has_name c.args.reached.list c.args.name.now ≡ true =
    sym (c.requires c.args.name.now) ∙ (ap (λ bytes. is_some (get_by (sought bytes) c.args.reached.seen)) (sym c.as_bytes.ensures.bytes) ∙ (sym c.contains_key.ensures ∙ c.if-contains_key.true)) in
    (c.requires, sym (added_once c.args.reached.list x true there))

pub returns : goal.returns
returns c =
    let x : Reach = record { set = c.args.name.now; by = c.args.by } in
    let there : has_name c.args.reached.list c.args.name.now ≡ false =
    sym (c.requires c.args.name.now) ∙ (ap (λ bytes. is_some (get_by (sought bytes) c.args.reached.seen)) (sym c.as_bytes.ensures.bytes) ∙ (sym c.contains_key.ensures ∙ c.if-contains_key.false)) in
    let pushed : c.push.new.self ≡ c.args.reached.list ++ x ∷ [] = c.in_ok-push.ensures.ok ∙ ap (λ n. c.args.reached.list ++ record { set = n; by = c.args.by } ∷ []) c.in_ok-copied.ensures in (
      subst (λ l. (q : List ℕ) → is_some (get_by (sought q) c.insert.new.self) ≡ has_name l q) (sym pushed)
          (marked c.args.reached.seen c.insert.new.self c.args.reached.list c.args.name.now c.args.by
          (subst (λ bytes. UpdatesBy in_order (sought bytes) c.args.reached.seen c.insert.new.self (Some tt)) (c.in_ok-key.ensures.items ∙ c.as_bytes-2.ensures.bytes) c.in_ok-insert.ensures.updates) c.requires),
      pushed ∙ sym (added_once c.args.reached.list x false there),
    )
