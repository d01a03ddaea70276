use Rattle.std.proofs.Common.{sym, arith}
use Rattle.ixp_lang_tokens.proofs.GapLaws.{gap_more}
use Rattle.ixp_lang_tokens.proofs.gap.behind_gap.Goals as goal

pub gap-preserved : goal.gap-preserved
gap-preserved c = (
  λ here h. c.gap.invariant.0 here (gap_more _ _ here (sym c.in-Some.ensures.rest) h),
  omega (arith, c.gap.invariant.1, c.in-Some.ensures.shorter),
)
