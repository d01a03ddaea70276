-- What a ROA in little room stands for.
use Rattle.std.specs.Prelude.{◌+◌, ◌*◌, ◌^◌}
use Rattle.ixp_num.specs.declared.roa.Roa.{Roa}
use Rattle.ixp_roa.specs.declared.compact.CompactRoa.{CompactRoa}

abbrev pub roa_of : CompactRoa → Roa
roa_of r = record {
  prefix = record {
    family = r.family;
    value = r.upper * 2 ^ 64 + r.lower;
    len = r.len;
    short = r.short;
    fits = r.fits;
    no_host_bits = r.no_host_bits;
  };
  max = r.max;
  asn = r.asn;
}
