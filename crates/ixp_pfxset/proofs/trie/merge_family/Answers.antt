use Rattle.std.proofs.Common.{◌≡◌, ◌+◌, ◌⊎◌, ◌↔◌, min, arith, subst}
use Rattle.std.specs.List.{Contains}
use Rattle.ixp_num.specs.Families.{bits_of}
use Rattle.ixp_num.specs.declared.pattern.Pattern.{Pattern}
use Rattle.ixp_pfxset.specs.Trie.{IsMerged}
use Rattle.ixp_pfxset.proofs.Families.{adds_none, adds_length, adds_family}
use Rattle.ixp_pfxset.proofs.OneLength.{length_of_list, still_alike}
use Rattle.ixp_pfxset.proofs.trie.merge_family.Goals as goal

pub merge_length-requires-clause-alike : goal.merge_length-requires-clause-alike
merge_length-requires-clause-alike c = still_alike c.args.list.now c.rows_of-rows.result.now c.args.family c.loop-l.l c.rows_of-rows.ensures.rows

pub loop-l-init : goal.loop-l-init
loop-l-init c = adds_none c.args.list.now c.args.mode c.args.high c.args.family c.args.out.now.items

pub loop-l-preserved : goal.loop-l-preserved
loop-l-preserved c =
    let rows = c.rows_of-rows.result.now in
    let list = c.args.list.now in
    let step = subst (λ h. (t : Pattern) → Contains c.merge_length.new.out.items t ↔ (Contains c.loop-l.out.items t ⊎ ((t.prefix.family ≡ c.args.family) × IsMerged rows c.loop-l.l h t))) c.upper_bound.ensures c.in_ok-merge_length.ensures in
    adds_length list c.args.mode c.args.high c.args.family c.args.out.now.items c.loop-l.l c.loop-l.out.items c.merge_length.new.out.items c.loop-l.invariant
    (length_of_list list rows c.args.family c.loop-l.l _ c.loop-l.out.items c.merge_length.new.out.items c.rows_of-rows.ensures.rows step)

pub returns-in_ok-merge_length : goal.returns-in_ok-merge_length
returns-in_ok-merge_length c =
    let rows = c.rows_of-rows.result.now in
    let list = c.args.list.now in
    let step = subst (λ h. (t : Pattern) → Contains c.merge_length.new.out.items t ↔ (Contains c.loop-l.out.items t ⊎ ((t.prefix.family ≡ c.args.family) × IsMerged rows c.loop-l.l h t))) c.upper_bound.ensures c.in_ok-merge_length.ensures in
    let below = adds_length list c.args.mode c.args.high c.args.family c.args.out.now.items c.loop-l.l c.loop-l.out.items c.merge_length.new.out.items c.loop-l.invariant
    (length_of_list list rows c.args.family c.loop-l.l _ c.loop-l.out.items c.merge_length.new.out.items c.rows_of-rows.ensures.rows step) in
    let last : c.loop-l.l + 1 ≡ min c.args.high (bits_of c.args.family) + 1 = omega arith in
    adds_family list c.args.mode c.args.high c.args.family c.args.out.now.items (c.loop-l.l + 1) c.merge_length.new.out.items last below
