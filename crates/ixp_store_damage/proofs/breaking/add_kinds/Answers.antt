use Rattle.std.proofs.Common.{◌≡◌, ◌++◌, List, [], append-nil, map, refl, sym, ◌∙◌, subst}
use Rattle.ixp_io.specs.Tables.{row_entry}
use Rattle.ixp_rows.proofs.Gathered.{no_rows}
use Rattle.ixp_store_rows.specs.Names.{Entry}
use Rattle.ixp_store_damage.specs.Placing.{AreSections, ref_entry}
use Rattle.ixp_store_damage.proofs.BrokenLines.{kind_step}
use Rattle.ixp_store_damage.proofs.breaking.add_kinds.Goals as goal

pub each-preserved : goal.each-preserved
each-preserved c = λ said.
    kind_step (map row_entry c.args.rows.now) c.in-Some.kind.now c.in-Some.others.now (map ref_entry c.each.ordered.items) (map ref_entry c.add_kind.new.ordered.items)
    (λ l. (all : List Entry) × AreSections (map row_entry c.args.rows.now) c.args.kinds.now all × (l ≡ map ref_entry c.args.ordered.now.items ++ all))
    (λ own are. c.each.invariant said own (subst (λ ks. AreSections (map row_entry c.args.rows.now) ks own) (sym c.in-Some.ensures.cases.0) are)) (c.in_ok-add_kind.ensures (said c.in-Some.kind.now)).1

pub returns : goal.returns
returns c = λ said.
    let none = no_rows c.each.left.now c.in_default.ensures.cases in
    let added = c.each.invariant said [] (subst (λ ks. AreSections (map row_entry c.args.rows.now) ks []) (sym none) refl) in
    (refl, (added.0, added.1, sym (append-nil (map ref_entry c.each.ordered.items)) ∙ added.2))
