use Rattle.std.proofs.Common.{ℕ, List, refl, subst, ◌∙◌}
use Rattle.ixp_io.specs.Told.{TakesPart}
use Rattle.ixp_cli_plain.proofs.Loading.{unloaded_dump}
use Rattle.ixp_cli_plain.proofs.dump.run_dump.Goals as goal

pub returns-in-Err : goal.returns-in-Err
returns-in-Err g c = unloaded_dump _ _ _ _ c.in-Err.fault _ c.in-Err.ensures.cause c.in-Err.ensures.version (record { whole = c.in-Err.ensures.complete; nothing = c.in-Err.ensures.nothing }) c.in-Err.ensures.damage c.load.ensures.kept c.unloaded.ensures

pub returns : goal.returns
returns g c =
    let out = g.K.Stream in (
      c.in-Ok.state,
      record {
        valid = c.in-Ok.ensures.valid;
        storable = c.in-Ok.ensures.storable;
        state = c.in-Ok.ensures.state;
        all = record { whole = c.in-Ok.ensures.complete; nothing = c.in-Ok.ensures.nothing };
        version = c.in-Ok.ensures.version;
      },
      refl,
      c.load.ensures.kept,
      subst (λ (t : List ℕ). TakesPart (out.written c.args.output.now) (out.written c.write_all.new.sink) t) (c.as_slice.ensures.value ∙ c.in-Ok-dump_of.ensures) c.in-Err-write_all.ensures.err,
      c.in-Err-write_all.ensures.cause,
    )
