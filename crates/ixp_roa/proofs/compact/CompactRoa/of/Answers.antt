use Rattle.std.proofs.Common.{◌^◌, refl}
use Rattle.std.proofs.lemmas.Nat.{div-add-mod'}
use Rattle.ixp_num.proofs.SameParts.{one_prefix, one_roa}
use Rattle.ixp_roa.proofs.compact.CompactRoa.of.Goals as goal

pub returns : goal.returns
returns c = one_roa _ _ (one_prefix _ _ refl (div-add-mod' c.args.roa.now.prefix.value (2 ^ 64)) refl) refl refl
