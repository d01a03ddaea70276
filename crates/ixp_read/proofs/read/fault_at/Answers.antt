use Rattle.std.proofs.Common.{◌≡◌, ◌∙◌, ◌-◌, ℕ, length, slice_get, option_map, ap}
use Rattle.ixp_read.specs.Answers.{named, byte_of}
use Rattle.ixp_read.proofs.PlacedFaults.{kind_there, as_many}
use Rattle.ixp_read.proofs.read.fault_at.Goals as goal

pub returns : goal.returns
returns c placed are same =
    let others : c.saturating_sub-others.result ≡ length placed - c.args.left = c.saturating_sub-others.ensures ∙ ap (λ n. n - c.args.left) (as_many c.args.tokens.now placed same) in
    c.named.ensures
    ∙ ap (λ k. named c.args.cause k c.byte_at-at.result) (kind_there c.args.tokens.now placed c.token_at.result c.saturating_sub-others.result same c.token_at.ensures)
    ∙ ap (named c.args.cause (option_map (λ t. t.kind) (slice_get placed c.saturating_sub-others.result))) (c.byte_at-at.ensures placed are same)
    ∙ ap (λ i. named c.args.cause (option_map (λ t. t.kind) (slice_get placed i)) (byte_of c.args.text.now (slice_get placed i))) others
