use Rattle.ixp_compile.proofs.Rights.{own_right, own_up, own_sends, own_counts}
use Rattle.ixp_compile.proofs.walk_laws.own_part_tells.Goals as goal

pub returns : goal.returns
returns c = record {
  walk = λ r handle router n s route valid there its family.
      own_right r valid handle router there n s its route family;
  up = λ r handle router n s env route valid there its family pass.
      own_up r valid handle router there n s its env route family pass;
  sends = λ r handle router n s env t to valid there its.
      own_sends r valid handle router there n s its env t to;
  counts = λ r handle router n s env t to times valid there its asked.
      own_counts r valid handle router there n s its env t to times asked;
}
