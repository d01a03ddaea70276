use Rattle.std.proofs.Common.{arith}
use Rattle.ixp_pfxset.proofs.Halves.{fills_itself, fills_halves, fills_half}
use Rattle.ixp_pfxset.proofs.full.+is_full.Goals as goal

pub returns-then-n-l : goal.returns-then-n-l
returns-then-n-l t c =
    let is = fills_itself c.args.list.now c.args.l c.args.n.now c.if-n-l.true in (
      (λ e. is.0 (c.has_prefix.ensures.0 e)),
      (λ fills. c.has_prefix.ensures.1 (is.1 fills)),
    )

pub returns-then-is_full : goal.returns-then-is_full
returns-then-is_full t c = (
  (λ e. fills_halves c.args.list.now c.args.l c.args.n.now c.first_half-first.result c.second_half-second.result c.first_half-first.ensures.parent c.second_half-second.ensures.parent (omega arith) (omega arith)
      (c.is_full.ensures.0 c.if-is_full.true) (c.is_full-then-is_full.ensures.0 e)),
  (λ fills. c.is_full-then-is_full.ensures.1 (fills_half c.args.list.now c.args.l c.args.n.now c.second_half-second.result c.second_half-second.ensures.parent fills)),
)

pub returns-else-is_full : goal.returns-else-is_full
returns-else-is_full t c = (
  (λ e. let no_ = c.if-is_full.false in cc),
  (λ fills. c.is_full.ensures.1 (fills_half c.args.list.now c.args.l c.args.n.now c.first_half-first.result c.first_half-first.ensures.parent fills)),
)
