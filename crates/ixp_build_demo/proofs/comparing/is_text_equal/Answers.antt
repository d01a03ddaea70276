use Rattle.std.proofs.Common.{◌≡◌, ℕ, List, Some, rules, ap, ◌∙◌}
use Rattle.ixp_compile_text.proofs.Bounds.{high_fits}
use Rattle.ixp_build_demo.proofs.Equals.{same_text}
use Rattle.ixp_build_demo.proofs.comparing.is_text_equal.Goals as goal

pub generate-requires : goal.generate-requires
generate-requires c q there = high_fits c.args.registry.now c.args.handle.now q c.requires.valid there

pub returns-in-Ok : goal.returns-in-Ok
returns-in-Ok c =
    let whole : c.in-Ok.full.items ≡ c.as_slice.result.now = search rules in
    c.is_text.ensures
    (c.in_ok-held.ensures
    ∙ (same_text c.args.bundle.now c.args.registry.now c.args.handle.now c.in-Ok.full c.requires.valid c.requires.whole c.in-Ok.ensures
    ∙ ap (λ (t : List ℕ). Some t) whole))
