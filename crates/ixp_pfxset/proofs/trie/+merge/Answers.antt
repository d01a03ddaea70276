use Rattle.std.proofs.Common.{◌≡◌, ◌≤◌, ◌<◌, ◌+◌, ◌↔◌, ◌⊎◌, List, [], ◌∷◌, refl, arith, sym, ◌∙◌, subst}
use Rattle.std.specs.List.{Contains}
use Rattle.std.proofs.lemmas.Bool.{and_parts, and_from}
use Rattle.ixp_num.specs.Families.{bits_of}
use Rattle.ixp_num.specs.declared.pattern.Pattern.{Pattern}
use Rattle.ixp_num.specs.declared.prefix.Prefix.{Prefix}
use Rattle.ixp_pfxset.specs.Plain.{Fills}
use Rattle.ixp_pfxset.specs.Trie.{AllWithin, IsMergedBelow}
use Rattle.ixp_pfxset.proofs.Members.{first_in}
use Rattle.ixp_pfxset.proofs.OneRow.{not_filled, one_item, row_added}
use Rattle.ixp_pfxset.proofs.Covering.{covers_says}
use Rattle.ixp_pfxset.proofs.Parting.{IsParted, a_within, b_within, both_full, full_first, full_second, all_added, none_full, own_row, no_items, some_item, none_added}
use Rattle.ixp_pfxset.proofs.trie.+merge.Goals as goal

pub returns-then-is_empty-clause-full : goal.returns-then-is_empty-clause-full
returns-then-is_empty-clause-full t c =
    let none = no_items c.args.list.now (sym c.is_empty.ensures ∙ c.if-is_empty.true) in (
      (λ e. let h : ⊥ = cc in absurd h),
      (λ fills. absurd (none_full c.args.l c.args.n.now c.args.list.now none c.requires.longer c.requires.short fills)),
    )

pub returns-then-is_empty-clause-adds : goal.returns-then-is_empty-clause-adds
returns-then-is_empty-clause-adds t c = λ u. none_added c.args.l c.args.high c.args.n.now c.args.list.now c.args.out.now.items u (no_items c.args.list.now (sym c.is_empty.ensures ∙ c.if-is_empty.true)) c.requires.short

pub returns-then-n-l-clause-full : goal.returns-then-n-l-clause-full
returns-then-n-l-clause-full t c =
    let some = some_item c.args.list.now (sym c.is_empty.ensures ∙ c.if-is_empty.false) in (
      (λ e. own_row c.args.l c.args.n.now some.0 c.args.list.now c.requires.within c.if-n-l.true some.1),
      (λ fills. refl),
    )

pub merge-requires : goal.merge-requires
merge-requires t c =
    let n : Prefix = c.args.n.now in
    let first : Prefix = c.first_half-first.result in
    let second : Prefix = c.second_half-second.result in
    let list : List Prefix = c.args.list.now in
    let a : List Prefix = c.parted.result.0.now in
    let b : List Prefix = c.parted.result.1.now in
    let longer : n.len < c.args.l = omega arith in
    let parted : IsParted list a b c.args.l n first second = record {
      at = c.first_half-first.ensures.parent;
      bt = c.second_half-second.ensures.parent;
      begins = c.first_half-first.ensures.value;
      step = c.second_half-second.ensures.step;
      longer = longer;
      within = c.requires.within;
      both = c.parted.ensures.both;
      below = c.parted.ensures.below;
      above = c.parted.ensures.above;
    } in
    let len : n.len + 1 ≡ first.len = c.first_half-first.ensures.parent.0 in (
      omega arith,
      (
        omega arith,
        (
          subst (λ f. c.args.l ≤ bits_of f) (covers_says n first c.first_half-first.ensures.parent.1).family c.requires.short,
          (c.parted.ensures.first, a_within list a b c.args.l n first second parted),
        ),
      ),
    )

pub merge-requires-2 : goal.merge-requires-2
merge-requires-2 t c =
    let n : Prefix = c.args.n.now in
    let first : Prefix = c.first_half-first.result in
    let second : Prefix = c.second_half-second.result in
    let list : List Prefix = c.args.list.now in
    let a : List Prefix = c.parted.result.0.now in
    let b : List Prefix = c.parted.result.1.now in
    let longer : n.len < c.args.l = omega arith in
    let parted : IsParted list a b c.args.l n first second = record {
      at = c.first_half-first.ensures.parent;
      bt = c.second_half-second.ensures.parent;
      begins = c.first_half-first.ensures.value;
      step = c.second_half-second.ensures.step;
      longer = longer;
      within = c.requires.within;
      both = c.parted.ensures.both;
      below = c.parted.ensures.below;
      above = c.parted.ensures.above;
    } in
    let len : n.len + 1 ≡ second.len = c.second_half-second.ensures.parent.0 in (
      omega arith,
      (
        omega arith,
        (
          subst (λ f. c.args.l ≤ bits_of f) (covers_says n second c.second_half-second.ensures.parent.1).family c.requires.short,
          (c.parted.ensures.second, b_within list a b c.args.l n first second parted),
        ),
      ),
    )

pub returns-clause-full : goal.returns-clause-full
returns-clause-full t c =
    let n : Prefix = c.args.n.now in
    let first : Prefix = c.first_half-first.result in
    let second : Prefix = c.second_half-second.result in
    let list : List Prefix = c.args.list.now in
    let a : List Prefix = c.parted.result.0.now in
    let b : List Prefix = c.parted.result.1.now in
    let longer : n.len < c.args.l = omega arith in
    let parted : IsParted list a b c.args.l n first second = record {
      at = c.first_half-first.ensures.parent;
      bt = c.second_half-second.ensures.parent;
      begins = c.first_half-first.ensures.value;
      step = c.second_half-second.ensures.step;
      longer = longer;
      within = c.requires.within;
      both = c.parted.ensures.both;
      below = c.parted.ensures.below;
      above = c.parted.ensures.above;
    } in
    let low = c.in_ok-low_full.low_full in
    let upper = c.in_ok-upper_full.upper_full in (
      (λ e. let parts = and_parts low upper e in both_full list a b c.args.l n first second parted (c.in_ok-low_full.ensures.full.0 parts.0) (c.in_ok-upper_full.ensures.full.0 parts.1)),
      (λ fills. and_from low upper (c.in_ok-low_full.ensures.full.1 (full_first list a b c.args.l n first second parted fills)) (c.in_ok-upper_full.ensures.full.1 (full_second list a b c.args.l n first second parted fills))),
    )

pub returns-clause-adds : goal.returns-clause-adds
returns-clause-adds t c =
    let n : Prefix = c.args.n.now in
    let first : Prefix = c.first_half-first.result in
    let second : Prefix = c.second_half-second.result in
    let list : List Prefix = c.args.list.now in
    let a : List Prefix = c.parted.result.0.now in
    let b : List Prefix = c.parted.result.1.now in
    let longer : n.len < c.args.l = omega arith in
    let parted : IsParted list a b c.args.l n first second = record {
      at = c.first_half-first.ensures.parent;
      bt = c.second_half-second.ensures.parent;
      begins = c.first_half-first.ensures.value;
      step = c.second_half-second.ensures.step;
      longer = longer;
      within = c.requires.within;
      both = c.parted.ensures.both;
      below = c.parted.ensures.below;
      above = c.parted.ensures.above;
    } in
    all_added list a b c.args.l n first second parted c.args.high c.in_ok-low_full.low_full c.in_ok-upper_full.upper_full c.in_ok-low_full.ensures.full c.in_ok-upper_full.ensures.full
    c.args.out.now.items c.merge.new.out.items c.merge-2.new.out.items c.push_if.new.out.items c.push_if-2.new.out.items
    c.in_ok-low_full.ensures.adds c.in_ok-upper_full.ensures.adds c.in_ok-push_if.ensures c.in_ok-push_if-2.ensures

pub returns-in-len1-clause-full : goal.returns-in-len1-clause-full
returns-in-len1-clause-full t c =
    let list : c.args.list.now ≡ c.only-item.result ∷ [] = one_item c.args.list.now c.only-item.result (omega arith) c.only-item.is in
    let n : Prefix = c.args.n.now in
    let longer : n.len < c.args.l = omega arith in (
      (λ e. let h : ⊥ = cc in absurd h),
      (λ fills. absurd (not_filled c.only-item.result n c.args.l longer c.requires.short (subst (λ xs. Fills xs c.args.l n) list fills))),
    )

pub returns-in-len1-clause-adds : goal.returns-in-len1-clause-adds
returns-in-len1-clause-adds t c =
    let row = c.only-item.result in
    let list : c.args.list.now ≡ row ∷ [] = one_item c.args.list.now row (omega arith) c.only-item.is in
    let n : Prefix = c.args.n.now in
    let longer : n.len < c.args.l = omega arith in
    let within = subst (λ xs. AllWithin xs c.args.l n) list c.requires.within row (first_in row []) in
    subst (λ xs. (u : Pattern) → Contains c.push_row.new.out.items u ↔ (Contains c.args.out.now.items u ⊎ IsMergedBelow xs c.args.l c.args.high n u)) (sym list)
    (row_added row n c.args.l c.args.high within.0 within.1 longer c.requires.short c.args.out.now.items c.push_row.new.out.items c.in_ok-push_row.ensures)
