use Rattle.std.proofs.Common.{◌≡◌, ◌+◌, ◌++◌, true, map, length}
use Rattle.std.specs.List.{list_all}
use Rattle.std.specs.Char.{to_ascii_uppercase}
use Rattle.std.specs.Option.{option_map, unwrap_or}
use Rattle.ixp_rpsl.specs.Puts.{parts_of}
use Rattle.ixp_rpsl_sources.specs.Sources.{is_source_name, sources_in}
use Rattle.ixp_rpsl_sources.proofs.sources.names_between.Given as goal

abbrev pub invariant-parts : goal.invariant-parts
invariant-parts l = record {
  so_far : l.names ++ map (map to_ascii_uppercase) (parts_of 44 (option_map (λ r. r.now) l.left)) ≡ sources_in l.fn.t;
  fine : list_all is_source_name l.names ≡ true;
}

abbrev pub decreases-parts : goal.decreases-parts
decreases-parts l = unwrap_or (option_map (λ r. length r.now + 1) l.left) 0
