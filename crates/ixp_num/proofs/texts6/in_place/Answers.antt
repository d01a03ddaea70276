use Rattle.std.proofs.Common.{ap, ◌∙◌, ◌*◌, ◌^◌, ◌%◌, arith}
use Rattle.ixp_num.proofs.Places.{in_place_fits}
use Rattle.ixp_num.proofs.texts6.in_place.Goals as goal

pub returns : goal.returns
returns c =
    ap (λ g. g * 2 ^ (16 * c.from-2.result) % 2 ^ 128) c.from.ensures
    ∙ ap (λ r. c.args.group * 2 ^ (16 * r) % 2 ^ 128) c.from-2.ensures
    ∙ in_place_fits c.args.group c.args.room (omega arith) c.requires
