use Rattle.std.proofs.Common.{sym, subst, length}
use Rattle.std.specs.List.{AllByRecursion}
use Rattle.ixp_num_tables.specs.Tables.{Ascends}
use Rattle.ixp_num_tables.proofs.Views.{Ascends-more}
use Rattle.ixp_rows.specs.Reading.{section}
use Rattle.ixp_rows.proofs.Sections.{all_and, Reads, step, stop, fail, clash, fails, above}
use Rattle.ixp_rows.proofs.section.section.Goals as goal

pub returns-in-Some-clause-reads : goal.returns-in-Some-clause-reads
returns-in-Some-clause-reads g c =
    let F = g.K.Lined.fields c.args.version in
    let K = g.K.Lined.key in
    let whole = section c.args.version g.K.Lined.row_kind c.args.text.now in
    fails F K c.args.version g.K.Lined.row_kind whole c.in-Some.misread
    (clash F K c.args.version g.K.Lined.row_kind whole c.each.rows.items c.in-Ok-Some.row c.each.rest.now c.in-Ok-Some.after.now c.in-Some.misread c.each.invariant.reads
    (g.met.K.Lined.keyed c.args.version) (rw c.in-Ok-Some.field-0-is at c.in-Ok-Some.ensures.reads) (sym (rw c.as_slice.ensures.value at c.in-Some.ensures)))

pub each-preserved : goal.each-preserved
each-preserved g c =
    let F = g.K.Lined.fields c.args.version in
    let K = g.K.Lined.key in
    let whole = section c.args.version g.K.Lined.row_kind c.args.text.now in
    record {
      reads = subst (λ rows. Reads F K c.args.version g.K.Lined.row_kind whole rows c.in-Ok-Some.after.now) (sym c.in_ok-push-in-Ok-Some.ensures)
          (step F K c.args.version g.K.Lined.row_kind whole c.each.rows.items c.in-Ok-Some.row c.each.rest.now c.in-Ok-Some.after.now c.each.invariant.reads
          (g.met.K.Lined.keyed c.args.version) (rw c.in-Ok-Some.field-0-is at c.in-Ok-Some.ensures.reads) (rw c.in-Ok-Some.field-0-is at c.in-Ok-Some.ensures.shorter)
          (sym (rw c.as_slice.ensures.value at c.in_default.ensures)));
      ascends = subst (λ rows. Ascends K rows) (sym c.in_ok-push-in-Ok-Some.ensures)
          (Ascends-more K c.each.rows.items c.in-Ok-Some.row c.each.invariant.ascends
          (above F K c.args.version g.K.Lined.row_kind whole c.each.rows.items c.in-Ok-Some.row (length c.each.rest.now) (sym (rw c.as_slice.ensures.value at c.in_default.ensures))));
      of_version = subst (λ rows. AllByRecursion (g.K.Lined.of_version c.args.version) rows) (sym c.in_ok-push-in-Ok-Some.ensures)
          (all_and (g.K.Lined.of_version c.args.version) c.each.rows.items c.in-Ok-Some.row c.each.invariant.of_version (rw c.in-Ok-Some.field-0-is at c.in-Ok-Some.ensures.of_version));
    }

pub returns-in-Ok-None-clause-reads : goal.returns-in-Ok-None-clause-reads
returns-in-Ok-None-clause-reads g c =
    stop (g.K.Lined.fields c.args.version) g.K.Lined.key c.args.version g.K.Lined.row_kind (section c.args.version g.K.Lined.row_kind c.args.text.now) c.each.rows.items c.each.rest.now c.each.invariant.reads
    (rw c.in-Ok-None.field-0-is at c.in-Ok-None.ensures.reads)

pub returns-in-Err-Bad-clause-reads : goal.returns-in-Err-Bad-clause-reads
returns-in-Err-Bad-clause-reads g c =
    fail (g.K.Lined.fields c.args.version) g.K.Lined.key c.args.version g.K.Lined.row_kind (section c.args.version g.K.Lined.row_kind c.args.text.now) c.each.rows.items c.each.rest.now c.each.invariant.reads
    (rw c.in-Err-Bad.field-0-is at c.in-Err-Bad.ensures.reads)
