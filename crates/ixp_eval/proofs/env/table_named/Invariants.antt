use Rattle.std.proofs.Common.{◌≡◌, drop}
use Rattle.ixp_lang.specs.Meaning.{find_named}
use Rattle.ixp_eval.proofs.env.table_named.Given as goal

abbrev pub invariant-tables : goal.invariant-tables
invariant-tables l = find_named (drop l.table_name-index l.tables) l.name ≡ find_named l.tables l.name
