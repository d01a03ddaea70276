use Rattle.ixp_api_paths.specs.declared.table.TheConstants.{TABLE}
use Rattle.ixp_api_paths.specs.Serves.{OnlyTable, HasBelow}
use Rattle.ixp_api_paths.proofs.Clash.{AllBelow}
use Rattle.ixp_api_paths.proofs.served.Paths.new.Given as goal

abbrev pub invariant-loop-place : goal.invariant-loop-place
invariant-loop-place l = record {
  only : OnlyTable TABLE l.router;
  all : HasBelow TABLE l.place l.router;
  below : AllBelow l.place l.router;
}
