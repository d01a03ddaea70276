use Rattle.std.proofs.Common.{refl}
use Rattle.ixp_num.proofs.SameParts.{one_prefix, one_roa}
use Rattle.ixp_roa.proofs.HalfNumbers.{whole_number}
use Rattle.ixp_roa.proofs.compact.CompactRoa.roa.Goals as goal

pub returns : goal.returns
returns c =
    let r = c.args.self.now in
    one_roa _ _ (one_prefix _ _ refl (whole_number r.family r.upper r.lower c.from.result c.from-2.result c.from.ensures c.from-2.ensures r.fits) refl) refl refl
