use Rattle.std.proofs.Common.{rules, ◌≡◌, true, false, sym, ◌∙◌}
use Rattle.ixp_rows_lines.specs.Lines.{place_of}
use Rattle.ixp_store_damage.proofs.FaultsTold.{list_next, list_wrong}
use Rattle.ixp_store_damage.proofs.lines.lists.Goals as goal

pub returns-then-not-branch-clause-told : goal.returns-then-not-branch-clause-told
returns-then-not-branch-clause-told g c = λ es r.
    let kind : c.in-Some.row.now.name.kind ≡ place_of g.R.Lined.row_kind = search rules in
    list_wrong g.R.Lined.row_kind es c.rows.left.now c.in-Some.others.now c.in-Some.row.now c.in-Some.ensures.cases.0 c.damaged.result c.requires.listed kind
    (λ is. absurd (let bad : true ≡ false = sym ((c.in_ok-is_list.ensures kind).1 is) ∙ c.if-not-branch.true in cc)) c.damaged.ensures (c.rows.invariant es r)

pub rows-preserved : goal.rows-preserved
rows-preserved g c = λ es r.
    let kind : c.in-Some.row.now.name.kind ≡ place_of g.R.Lined.row_kind = search rules in
    list_next g.R.Lined.row_kind es c.rows.left.now c.in-Some.others.now c.in-Some.row.now c.in-Some.ensures.cases.0 c.requires.listed kind ((c.in_ok-is_list.ensures kind).0 c.if-not-branch.false) (c.rows.invariant es r)
