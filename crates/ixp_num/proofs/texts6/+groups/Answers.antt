use Rattle.std.proofs.Common.{◌≡◌, ◌+◌, ◌-◌, ◌*◌, ◌^◌, ◌<◌, ◌≤◌, arith, subst, sym, pow_pos, pow_mono}
use Rattle.ixp_num.specs.declared.family.Family.TheVariants.{V6}
use Rattle.ixp_num.specs.AddressForms.{tail_form}
use Rattle.ixp_num.specs.Reading.{Gives, read, said_of}
use Rattle.ixp_num.proofs.Places.{next_fits, groups_more}
use Rattle.ixp_num.proofs.texts6.+groups.Goals as goal

pub colon_text-overflow_add-value : goal.colon_text-overflow_add-value
colon_text-overflow_add-value t c =
    let small : c.in_ok-group.group < 65536 = c.in_ok-group.ensures.small in
    let fits = next_fits (2 ^ 128) c.args.value c.in_ok-group.group c.args.room small c.requires.fits in
    let there = c.in_place.ensures in
    let some = pow_pos (16 * c.args.room) in
    omega arith

pub colon_text-colons_text-requires : goal.colon_text-colons_text-requires
colon_text-colons_text-requires t c =
    let small : c.in_ok-group.group < 65536 = c.in_ok-group.ensures.small in
    let fits = next_fits (2 ^ 128) c.args.value c.in_ok-group.group c.args.room small c.requires.fits in
    let there = c.in_place.ensures in
    let less : 2 ^ (16 * (c.args.room - 1)) ≤ 2 ^ (16 * c.args.room) = pow_mono {i = 16 * (c.args.room - 1)} {j = 16 * c.args.room} (omega arith) in
    omega arith

pub colon_text-groups_text-requires : goal.colon_text-groups_text-requires
colon_text-groups_text-requires t c =
    let small : c.in_ok-group.group < 65536 = c.in_ok-group.ensures.small in
    let fits = next_fits (2 ^ 128) c.args.value c.in_ok-group.group c.args.room small c.requires.fits in
    let there = c.in_place.ensures in
    let e : c.args.room - 1 + 1 ≡ c.args.room = (let some = c.requires.room in omega arith) in
    let room : c.args.value + c.in_place.result + 2 ^ (16 * c.args.room) ≤ 2 ^ 128 = omega arith in
    (omega arith, (omega arith, subst (λ r. c.args.value + c.in_place.result + 2 ^ (16 * r) ≤ 2 ^ 128) (sym e) room))

pub groups_text-returns-in_default-clause-says : goal.groups_text-returns-in_default-clause-says
groups_text-returns-in_default-clause-says t c =
    let some : 1 < c.args.room = omega arith in
    let form = tail_form c.args.tail V6 in
    subst (λ f. Gives said_of c.colon_text-in_default.result (read f c.args.bytes.now))
    (sym (groups_more c.args.room form c.args.value some))
    c.colon_text-in_default.ensures.says
