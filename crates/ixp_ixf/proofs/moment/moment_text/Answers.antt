use Rattle.std.proofs.Common.{◌≡◌, ◌∙◌, ◌*ℤ◌, pos, subst, to_z, w64, IfOk}
use Rattle.std.proofs.lemmas.Result.{IfOk-weaker}
use Rattle.ixp_ixf.proofs.Calendar.{stamped}
use Rattle.ixp_ixf.proofs.moment.moment_text.Goals as goal

pub returns : goal.returns
returns c =
    let instant : c.unwrap-stamp.result.nanosecond ≡ to_z w64 c.min.result *ℤ pos 1_000_000_000 =
    subst (λ r. IfOk r (λ t. t.nanosecond ≡ to_z w64 c.min.result *ℤ pos 1_000_000_000)) c.unwrap-stamp.ensures c.from_second.ensures.value in
    let text = stamped c.to_datetime-civil.result c.unwrap-stamp.result.nanosecond c.min.result c.args.second c.min.ensures instant c.to_datetime-civil.ensures in
    IfOk-weaker c.format.result _ _ (λ s e. e ∙ text) c.format.ensures.ok
