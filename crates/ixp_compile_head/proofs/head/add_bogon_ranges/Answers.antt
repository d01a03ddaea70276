use Rattle.std.proofs.Common.{ap, ◌∙◌}
use Rattle.ixp_lang.specs.declared.value.SetLit.TheVariants as set
use Rattle.ixp_compile.specs.Header.{joined_ranges}
use Rattle.ixp_compile_pieces.proofs.Bodies.{set_made}
use Rattle.ixp_compile_head.proofs.head.add_bogon_ranges.Goals as goal

pub returns : goal.returns
returns c =
    set_made _ _ _ _ (λ rs. set.Ints rs) _ (joined_ranges c.args.h.now.bogon_as) c.in_ok-name.ensures
    (c.in_ok-joined.ensures ∙ ap joined_ranges c.as_slice-ranges.ensures) c.in_ok-add_ranges.ensures
