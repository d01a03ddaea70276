use Rattle.std.proofs.Common.{◌≡◌, ◌+◌, ◌-◌, ◌*◌, ◌^◌, ◌<◌, ◌≤◌, arith, subst, sym}
use Rattle.ixp_num.specs.declared.family.Family.TheVariants.{V6}
use Rattle.ixp_num.specs.AddressForms.{tail_form, dotted_form, more_form, behind_form}
use Rattle.ixp_num.specs.Reading.{Gives, farther, read, said_of}
use Rattle.ixp_num.proofs.Places.{more_fits, fits_group, fits_dotted, behind_more, farther_gives}
use Rattle.ixp_num.proofs.texts6.+behind.Goals as goal

pub behind_text-overflow_mul-value : goal.behind_text-overflow_mul-value
behind_text-overflow_mul-value t c =
    let some : 0 < c.args.room = omega arith in
    let fits = fits_dotted (2 ^ 128) c.args.base c.args.value c.args.room some c.requires in
    omega arith

pub behind_text-overflow_add-base : goal.behind_text-overflow_add-base
behind_text-overflow_add-base t c =
    let some : 0 < c.args.room = omega arith in
    let fits = fits_dotted (2 ^ 128) c.args.base c.args.value c.args.room some c.requires in
    omega arith

pub behind_text-dotted_text-requires : goal.behind_text-dotted_text-requires
behind_text-dotted_text-requires t c =
    let some : 0 < c.args.room = omega arith in
    let fits = fits_dotted (2 ^ 128) c.args.base c.args.value c.args.room some c.requires in
    omega arith

pub behind_text-returns-clause-says : goal.behind_text-returns-clause-says
behind_text-returns-clause-says t c =
    let some : 0 < c.args.room = omega arith in
    let form = tail_form c.args.tail V6 in
    subst (λ f. Gives said_of c.farther_of.result (read f c.args.bytes.now))
    (sym (behind_more c.args.room form c.args.base c.args.value some))
    (subst (λ r. Gives said_of r (farther (read (dotted_form (c.args.base + c.args.value * 2 ^ 32) form) c.args.bytes.now) (read (more_form form (behind_form (c.args.room - 1) form c.args.base) c.args.base c.args.value) c.args.bytes.now)))
    (sym c.farther_of.ensures)
    (farther_gives said_of c.dotted_text.result c.more_text.result (read (dotted_form (c.args.base + c.args.value * 2 ^ 32) form) c.args.bytes.now) (read (more_form form (behind_form (c.args.room - 1) form c.args.base) c.args.base c.args.value) c.args.bytes.now) c.dotted_text.ensures.says c.more_text.ensures.says))

pub more_text-overflow_mul-value : goal.more_text-overflow_mul-value
more_text-overflow_mul-value t c =
    let fits = fits_group (2 ^ 128) c.args.base c.args.value c.args.room c.requires.fits in
    omega (arith, c.in_ok-group.ensures.small)

pub more_text-overflow_add-value : goal.more_text-overflow_add-value
more_text-overflow_add-value t c =
    let fits = fits_group (2 ^ 128) c.args.base c.args.value c.args.room c.requires.fits in
    omega (arith, c.in_ok-group.ensures.small)

pub more_text-overflow_add-base : goal.more_text-overflow_add-base
more_text-overflow_add-base t c =
    let fits = fits_group (2 ^ 128) c.args.base c.args.value c.args.room c.requires.fits in
    omega (arith, c.in_ok-group.ensures.small)

pub more_text-tail_text-requires : goal.more_text-tail_text-requires
more_text-tail_text-requires t c =
    let fits = fits_group (2 ^ 128) c.args.base c.args.value c.args.room c.requires.fits in
    omega (arith, c.in_ok-group.ensures.small)

pub more_text-next_text-requires : goal.more_text-next_text-requires
more_text-next_text-requires t c =
    let e : c.args.room - 1 + 1 ≡ c.args.room = (let some = c.requires.room in omega arith) in
    let small : c.from.result < 65536 = omega (arith, c.in_ok-group.ensures.small) in
    (omega arith, subst (λ r. c.args.base + (c.args.value * 65536 + c.from.result + 1) * 2 ^ (16 * r) ≤ 2 ^ 128) (sym e) (more_fits (2 ^ 128) c.args.base c.args.value c.from.result c.args.room small c.requires.fits))
