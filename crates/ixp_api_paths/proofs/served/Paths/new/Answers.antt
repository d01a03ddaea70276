use Rattle.std.proofs.Common.{arith}
use Rattle.ixp_api_paths.specs.declared.table.TheConstants.{TABLE}
use Rattle.ixp_api_paths.proofs.Clash.{insert-fails, insert-below}
use Rattle.ixp_api_paths.proofs.Serve.{insert-keeps}
use Rattle.ixp_api_paths.proofs.served.Paths.new.Goals as goal

pub no_memory-requires : goal.no_memory-requires
no_memory-requires c =
    insert-fails _ c.loop-place.place c.loop-place.router c.insert.new.self c.in-Err.error c.route_at-route.ensures (omega arith) c.in-Err.ensures c.loop-place.invariant.only c.loop-place.invariant.below

pub loop-place-preserved : goal.loop-place-preserved
loop-place-preserved c =
    let k = insert-keeps TABLE _ c.loop-place.place c.loop-place.router c.insert.new.self c.in-Ok.field-0 c.route_at-route.ensures (omega arith) c.in-Ok.ensures c.loop-place.invariant.only c.loop-place.invariant.all in
    let b = insert-below _ c.loop-place.place c.loop-place.router c.insert.new.self c.in-Ok.field-0 c.in-Ok.ensures c.loop-place.invariant.below in
    record { only = k.0; all = k.1; below = b }
