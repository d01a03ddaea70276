use Rattle.std.proofs.Common.{rules, ◌≡◌, ◌==◌, ◌&&◌, [], ◌∷◌, Some, find as first_with, sym, ap, ◌∙◌}
use Rattle.ixp_num_tables.specs.Tables.{find}
use Rattle.ixp_registry.specs.declared.kind.Kind.TheVariants.{Interfaces}
use Rattle.ixp_registry.specs.declared.refusal.RowKey.TheVariants.{Number}
use Rattle.ixp_registry.specs.Keys.{member_key}
use Rattle.ixp_registry.specs.Lookups.{is_left}
use Rattle.ixp_machine_edits.specs.Tests.{in_use_by}
use Rattle.ixp_machine_refusals.proofs.Columning.{left_says}
use Rattle.ixp_machine_refusals.proofs.members.move_status.Goals as goal

pub returns-in-Some-unless_left : goal.returns-in-Some-unless_left
returns-in-Some-unless_left c =
    let r = c.args.registry.now in
    let m = c.in-Some.row.now in
    let found : find member_key (c.args.member ∷ []) r.members ≡ Some m = search rules in
    let uses : in_use_by Interfaces (λ i. Number i.number) (first_with (λ i. is_left c.args.to && i.member == c.args.member) r.interfaces) ≡ Some c.in-Some-unless_left.refusal =
    ap (λ is. in_use_by Interfaces (λ i. Number i.number) (first_with (λ i. is_left c.args.to && i.member == c.args.member) is)) (sym c.as_slice.ensures.rows) ∙ (sym c.unless_left.ensures ∙ c.in-Some-unless_left.is) in
    sym (left_says r c.args.member c.args.to m c.in-Some-unless_left.refusal found (sym (c.if-not-may_move.ensures)) uses)
