use Rattle.std.proofs.Common.{rules, ◌≡◌, ◌∷◌, codes, map, sym, ap, ◌∙◌}
use Rattle.ixp_io.specs.Tables.{row_entry}
use Rattle.ixp_rows.proofs.Gathered.{no_rows}
use Rattle.ixp_store_damage.proofs.Ends.{version_is}
use Rattle.ixp_store_damage.proofs.FaultsTold.{no_version, other_version, wrong_version}
use Rattle.ixp_store_load.proofs.opened.after_version.Goals as goal

pub returns-in_default-clause-told : goal.returns-in_default-clause-told
returns-in_default-clause-told c = λ up. no_version c.args.rows.now c.missing.result (no_rows c.args.rows.now c.in_default.ensures.cases) c.missing.ensures

pub returns-then-not-is_version-clause-told : goal.returns-then-not-is_version-clause-told
returns-then-not-is_version-clause-told c = λ up.
    other_version c.args.rows.now c.in-Some.others.now c.in-Some.row.now c.missing-then-not-is_version.result c.in-Some.ensures.cases.0 (sym c.is_version.ensures ∙ c.if-not-is_version.true) c.missing-then-not-is_version.ensures up

pub returns-then-eq-clause-first : goal.returns-then-eq-clause-first
returns-then-eq-clause-first c =
    let body : c.in-Some.row.now.body ≡ codes "2" = search rules in
    ap (map row_entry) c.in-Some.ensures.cases.0 ∙ ap (λ e. e ∷ map row_entry c.in-Some.others.now) (version_is c.in-Some.row.now (sym c.is_version.ensures ∙ c.if-not-is_version.false) body)

pub returns-else-eq-clause-told : goal.returns-else-eq-clause-told
returns-else-eq-clause-told c = λ up.
    wrong_version c.args.rows.now c.in-Some.others.now c.in-Some.row.now c.damaged.result c.in-Some.ensures.cases.0 (sym c.is_version.ensures ∙ c.if-not-is_version.false) (λ body. search rules) c.damaged.ensures
