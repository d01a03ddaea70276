use Rattle.std.proofs.Common.{◌≡◌, ◌+◌, ◌++◌, ◌∷◌, [], take, sym, ap, ◌∙◌, subst, arith}
use Rattle.std.proofs.lemmas.List.{take_more, take_all}
use Rattle.ixp_num.specs.declared.prefix.Prefix.{Prefix}
use Rattle.ixp_pfxset.proofs.Fronts.{AddsRows, AddsFronts, one_row_more}
use Rattle.ixp_pfxset.proofs.plain.all_fronts.Goals as goal

pub loop-r-preserved : goal.loop-r-preserved
loop-r-preserved c =
    let list = c.args.list.now in
    let i = c.loop-r.r-index in
    let r : Prefix = c.r-item.result in
    let more : take (i + 1) list ≡ take i list ++ r ∷ [] = take_more list i r (omega arith) ∙ ap (λ x. take i list ++ x ∷ []) (sym c.r-item.is) in
    let step = subst (λ h. AddsFronts list c.loop-r.blocks.items r h c.push_fronts.new.blocks.items) c.upper_bound.ensures c.in_ok-push_fronts.ensures in
    subst (λ rows. AddsRows list c.args.mode c.args.high rows c.push_fronts.new.blocks.items) (sym more)
    (one_row_more list c.args.mode c.args.high (take i list) r c.loop-r.blocks.items c.push_fronts.new.blocks.items c.loop-r.invariant step)

pub returns : goal.returns
returns c = subst (λ rows. AddsRows c.args.list.now c.args.mode c.args.high rows c.loop-r.blocks.items) (take_all c.loop-r.r-index c.args.list.now (omega arith)) c.loop-r.invariant
