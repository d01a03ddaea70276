use Rattle.std.proofs.Common.{◌≡◌, ◌∷◌, sym, ap, ◌∙◌, subst}
use Rattle.std.specs.declared.cmp.Ordering.TheVariants.{Less, Equal, Greater}
use Rattle.ixp_num_tables.specs.Tables.{Ascends, order}
use Rattle.ixp_num_tables.proofs.Orders.{chained, as_equal}
use Rattle.ixp_num_sorted.specs.Keys.{roa_key}
use Rattle.ixp_num_sorted.specs.Told.{roa_ordered}
use Rattle.ixp_rtr.specs.Changes.{is_among}
use Rattle.ixp_rtr.proofs.Merging.{past, found, above}
use Rattle.ixp_rtr.proofs.changes.pass.Goals as goal

pub rows-preserved : goal.rows-preserved
rows-preserved c =
    let first = c.in-Some.first.now in
    let rest = c.in-Some.rest.now in
    let is : c.rows.left.now ≡ first ∷ rest = c.in-Some.ensures.cases.0 in
    let less : order (roa_key first) (roa_key c.args.roa.now) ≡ Less = sym (roa_ordered first c.args.roa.now) ∙ (sym c.cmp.ensures ∙ c.in-Less.is) in
    let up : Ascends roa_key (first ∷ rest) = subst (Ascends roa_key) is c.rows.invariant.ascends in
    record {
      ascends = up.1;
      among = c.rows.invariant.among ∙ (ap (λ l. is_among l c.args.roa.now) is ∙ past first c.args.roa.now rest less);
      rest = λ r e. c.rows.invariant.rest r e ∙ (ap (λ l. is_among l r) is ∙ past first r rest (chained (roa_key first) (roa_key c.args.roa.now) (roa_key r) less e));
    }

pub returns-in-Equal-clause-among : goal.returns-in-Equal-clause-among
returns-in-Equal-clause-among c =
    let first = c.in-Some.first.now in
    let rest = c.in-Some.rest.now in
    let is : c.rows.left.now ≡ first ∷ rest = c.in-Some.ensures.cases.0 in
    let equal : order (roa_key first) (roa_key c.args.roa.now) ≡ Equal = sym (roa_ordered first c.args.roa.now) ∙ (sym c.cmp.ensures ∙ c.in-Equal.is) in
    sym (c.rows.invariant.among ∙ (ap (λ l. is_among l c.args.roa.now) is ∙ found first c.args.roa.now rest equal))

pub returns-in-Equal-clause-rest : goal.returns-in-Equal-clause-rest
returns-in-Equal-clause-rest c r e =
    let first = c.in-Some.first.now in
    let rest = c.in-Some.rest.now in
    let is : c.rows.left.now ≡ first ∷ rest = c.in-Some.ensures.cases.0 in
    let equal : order (roa_key first) (roa_key c.args.roa.now) ≡ Equal = sym (roa_ordered first c.args.roa.now) ∙ (sym c.cmp.ensures ∙ c.in-Equal.is) in
    c.rows.invariant.rest r e ∙ (ap (λ l. is_among l r) is ∙ past first r rest (as_equal (roa_key first) (roa_key c.args.roa.now) (roa_key r) equal ∙ e))

pub returns-in-Greater-clause-among : goal.returns-in-Greater-clause-among
returns-in-Greater-clause-among c =
    let first = c.in-Some.first.now in
    let rest = c.in-Some.rest.now in
    let is : c.rows.left.now ≡ first ∷ rest = c.in-Some.ensures.cases.0 in
    let greater : order (roa_key first) (roa_key c.args.roa.now) ≡ Greater = sym (roa_ordered first c.args.roa.now) ∙ (sym c.cmp.ensures ∙ c.in-Greater.is) in
    sym (c.rows.invariant.among ∙ (ap (λ l. is_among l c.args.roa.now) is ∙ above first c.args.roa.now rest (subst (Ascends roa_key) is c.rows.invariant.ascends) greater))
