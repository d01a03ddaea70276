use Rattle.std.proofs.Common.{◌∙◌, ◌+◌, drop, get_or, sym, ap}
use Rattle.std.proofs.Math.ListN.{drop_of_length-le}
use Rattle.std.proofs.lemmas.List.{drop_more}
use Rattle.ixp_lang.specs.Values.{values_of}
use Rattle.ixp_eval.specs.Indexed.{items_of}
use Rattle.ixp_eval.specs.Places.{is_between}
use Rattle.ixp_eval.proofs.Piping.{first_at, first_here, between_found}
use Rattle.ixp_eval.proofs.search.pipe_between.Goals as goal

pub returns-in-Some : goal.returns-in-Some
returns-in-Some c =
    let items = items_of c.args.index.now in
    let places = c.of-places.result.now in
    first_here (is_between c.args.primary.now c.args.peer.now) items (get_or places c.each.place-index 0) (drop (c.each.place-index + 1) places) c.in-Some.pipe.now c.in-Some.ensures
    ∙ ap (first_at (is_between c.args.primary.now c.args.peer.now) items) (sym (drop_more places c.each.place-index 0 c.each-test.true)) ∙ c.each.invariant
    ∙ ap (first_at (is_between c.args.primary.now c.args.peer.now) items) (c.of-places.ensures ∙ ap (values_of c.args.index.now.places) c.as_bytes.ensures.bytes ∙ c.args.index.now.are c.args.peer.now)
    ∙ between_found c.args.primary.now c.args.peer.now items

pub returns : goal.returns
returns c =
    let items = items_of c.args.index.now in
    let places = c.of-places.result.now in
    ap (first_at (is_between c.args.primary.now c.args.peer.now) items) (sym (drop_of_length-le places c.each-test.false)) ∙ c.each.invariant
    ∙ ap (first_at (is_between c.args.primary.now c.args.peer.now) items) (c.of-places.ensures ∙ ap (values_of c.args.index.now.places) c.as_bytes.ensures.bytes ∙ c.args.index.now.are c.args.peer.now)
    ∙ between_found c.args.primary.now c.args.peer.now items
