-- How many rows there may be.
use Rattle.std.specs.Prelude.{length, ◌+◌, ◌<◌, ◌^◌}
use Rattle.ixp_registry.specs.declared.rows.Rows.{Rows}
use Rattle.ixp_registry.specs.Lines.{roas_at}

-- the numbers of all lines fit a `usize`
abbrev pub HasLines : Rows → Type 0
HasLines w = roas_at w + length w.public.roas < 2 ^ 64
