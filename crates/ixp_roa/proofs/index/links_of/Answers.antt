use Rattle.std.proofs.Common.{◌≡◌, ◌≤◌, ◌<◌, ◌+◌, [], ◌∷◌, length, get_or, sym, ap, subst, ◌∙◌, arith}
use Rattle.std.proofs.Math.Seq.{get_or-append_seam}
use Rattle.std.proofs.lemmas.List.{get_or_append_left, length-append}
use Rattle.ixp_roa.specs.Climbs.{NoneFrom, StandsAt}
use Rattle.ixp_roa.proofs.Between.{upto_before}
use Rattle.ixp_roa.proofs.Climbing.{before, more_links}
use Rattle.ixp_roa.proofs.index.links_of.Goals as goal

pub upto_cover-link-requires-clause-upto : goal.upto_cover-link-requires-clause-upto
upto_cover-link-requires-clause-upto c j s here less =
    let row = c.at-row.result in
    let count = c.len.ensures in
    let size = c.rows.invariant.1 in
    let ok = c.rows.links.ok in
    let at : j < c.rows.i = omega arith in
    upto_before s.prefix row.prefix (before c.args.rows.now j c.rows.i s row c.requires at here ((let n = c.len-i-end.ensures in let lt = c.rows-test.true in omega arith), c.at-row.ensures))

pub rows-preserved : goal.rows-preserved
rows-preserved c =
    let links = c.rows.links.items in
    let link = c.upto_cover-link.result in
    let row = c.at-row.result in
    let rows = c.args.rows.now in
    let i = c.rows.i in
    let size : length links ≡ i = c.rows.invariant.1 in
    let count = c.len-in-rows.ensures in
    let ok = c.rows.links.ok in
    let from : c.len-in-rows.result ≡ length links = omega arith in
    let n = c.len-i-end.ensures in
    let lt = c.rows-test.true in
    let is = c.in_ok-push.ensures.items in
    let long : length c.push.new.self.items ≡ length links + 1 = ap length is ∙ length-append links (link ∷ []) in
    let here : StandsAt rows i row = (omega arith, c.at-row.ensures) in (
      more_links rows links link row c.push.new.self.items c.rows.invariant.0 (subst (λ k. StandsAt rows k row) (sym size) here) (subst (λ k. link ≤ k) from c.upto_cover-link.ensures.before)
          (subst (λ k. NoneFrom rows row.prefix link k) from c.upto_cover-link.ensures.none)
          long (λ k less. ap (λ xs. get_or xs k 0) is ∙ get_or_append_left links (link ∷ []) 0 k less) (ap (λ xs. get_or xs (length links) 0) is ∙ get_or-append_seam links link [] 0),
      long ∙ ap (λ k. k + 1) size,
    )
