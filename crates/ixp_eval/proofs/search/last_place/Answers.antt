use Rattle.std.proofs.Common.{◌≡◌, ◌∙◌, [], None, drop, ap}
use Rattle.std.proofs.Math.ListN.{drop_of_length-le}
use Rattle.ixp_lang.specs.Values.{values_of}
use Rattle.ixp_eval.specs.Indexed.{is_of, items_of}
use Rattle.ixp_eval.specs.Places.{is_at}
use Rattle.ixp_eval.proofs.Placing.{chosen, chosen_end, last_chosen, of_finds}
use Rattle.ixp_eval.proofs.search.last_place.Goals as goal

pub returns : goal.returns
returns c =
    let name = c.args.name.now in
    let items = items_of c.args.before.index.now in
    let test = is_at c.args.before.count (is_of c.args.sort name) items in
    let none : drop c.each.place-index c.of-places.result.now ≡ [] = drop_of_length-le c.of-places.result.now c.each-test.false in
    chosen_end test c.each.found (drop c.each.place-index c.of-places.result.now) c.of-places.result.now none c.each.invariant
    ∙ ap (chosen test None) (c.of-places.ensures ∙ ap (values_of c.args.before.index.now.places) c.as_bytes.ensures.bytes ∙ c.args.before.index.now.are name)
    ∙ last_chosen name (is_of c.args.sort name) (of_finds c.args.sort name) c.args.before.count items
