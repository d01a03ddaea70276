use Rattle.std.proofs.Common.{◌≡◌, drop}
use Rattle.ixp_lang.specs.Meaning.{find_named}
use Rattle.ixp_explain.proofs.kinds.sort_named.Given as goal

abbrev pub invariant-sorts : goal.invariant-sorts
invariant-sorts l = find_named (drop l.sort_name-index l.sorts) l.name ≡ find_named l.sorts l.name
