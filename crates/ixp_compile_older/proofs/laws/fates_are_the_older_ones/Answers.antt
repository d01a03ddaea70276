use Rattle.std.proofs.Common.{ap}
use Rattle.ixp_policy.specs.Export.{wish}
use Rattle.ixp_policy.specs.Fates.{fate_of}
use Rattle.ixp_policy.specs.Import.{refusal, refusal_number}
use Rattle.ixp_policy.specs.Tags.{tagged}
use Rattle.ixp_compile_older.specs.Fates.{older_fate_of}
use Rattle.ixp_compile_older.specs.Tables.{older_refusal, older_tagged}
use Rattle.ixp_compile_older.proofs.Bare.{bare}
use Rattle.ixp_compile_older.proofs.Fated.{alike_at, fated_alike, fated_there, refused_alike, tagged_alike}
use Rattle.ixp_compile_older.proofs.laws.fates_are_the_older_ones.Goals as goal

pub returns : goal.returns
returns c = record {
  fate = λ r handle n route older.
      alike_at r older handle n (λ q s. fate_of r q route s) (λ q s. older_fate_of r q route s) (λ q s. fated_alike r q s route);
  number = λ r handle n route older.
      alike_at r older handle n (λ q s. refusal_number (refusal r q s route)) (λ q s. refusal_number (older_refusal r q s route))
      (λ q s. ap refusal_number (refused_alike r q s route));
  ask = λ r handle n route to older.
      alike_at r older handle n (λ q s. wish q s (tagged r q s route) to) (λ q s. wish q s (older_tagged r q s route) to)
      (λ q s. ap (λ t. wish (bare q) s t to) (tagged_alike r q s route));
  session = λ r handle router s route older there. fated_there r older handle router there s route;
}
