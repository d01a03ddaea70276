use Rattle.std.proofs.Common.{◌≡◌, true, sym, ◌∙◌, subst, IsTrue}
use Rattle.ixp_rpsl.specs.Breadth.{IsBreadthFirst, has_object}
use Rattle.ixp_rpsl.specs.Expansion.{is_chain}
use Rattle.ixp_rpsl.proofs.Nearest.{nearest_in_order}
use Rattle.ixp_rpsl.proofs.growth.expand.Goals as goal

pub returns-in-Ok : goal.returns-in-Ok
returns-in-Ok c =
    let there : has_object c.args.objects.now.sets c.args.root.now ≡ true = subst (λ rows. has_object rows c.args.root.now ≡ true) c.as_slice-rows.ensures (sym c.has_object.ensures ∙ c.if-not-has_object.false) in
    let both : IsTrue (is_chain c.args.objects.now.sets c.args.root.now c.in-Ok.reached) × IsBreadthFirst c.args.objects.now.sets c.args.root.now c.in-Ok.reached =
    subst (λ rows. IsTrue (is_chain rows c.args.root.now c.in-Ok.reached) × IsBreadthFirst rows c.args.root.now c.in-Ok.reached) c.as_slice-rows.ensures c.in-Ok.ensures in
    let more = nearest_in_order c.args.objects.now.sets c.args.root.now c.in-Ok.reached both.1 in
    (there, both.0, more.0, more.1)
