-- How a run ends whose store cannot be loaded, and the codes of links that ended before their input did.
use Rattle.std.specs.Prelude.{◌≡◌, ◌⊎◌, ℕ, List, ◌∷◌, ◌++◌, codes, decimal}
use Rattle.ixp_io.specs.declared.keeper.RowName.{RowName}
use Rattle.ixp_rows_lines.specs.Fields.{free_text}
use Rattle.ixp_store_words.specs.declared.fault.Damage.{Damage}
use Rattle.ixp_store_words.specs.declared.fault.Damage.TheVariants.{Row, Rule}
use Rattle.ixp_store_words.specs.declared.fault.LoadFault.{LoadFault}
use Rattle.ixp_store_words.specs.declared.fault.LoadFault.TheVariants as load
use Rattle.ixp_cli_plain.specs.declared.end.End.{End}
use Rattle.ixp_cli_plain.specs.declared.end.End.TheVariants.{KeeperFault, NoMemory, Damaged, OldVersion}
use Rattle.ixp_cli_plain.specs.declared.end.LinkCode.{LinkCode}
use Rattle.ixp_cli_plain.specs.declared.end.LinkCode.TheVariants.{H1, H2, H3, H4, H5, S1}

abbrev pub code_word : LinkCode → List ℕ
code_word H1 = codes "H1"
code_word H2 = codes "H2"
code_word H3 = codes "H3"
code_word H4 = codes "H4"
code_word H5 = codes "H5"
code_word S1 = codes "S1"

-- the rule that a row breaks, `row` for one that is no row
abbrev pub damage_word : Damage → List ℕ
damage_word Row = codes "row"
damage_word (Rule n) = 81 ∷ decimal n

-- what is told of a damaged row: its kind, its key as a free text, and the rule
abbrev pub damage_text : RowName → Damage → List ℕ
damage_text name damage = decimal name.kind ++ (32 ∷ (free_text name.key ++ (32 ∷ damage_word damage)))

-- how a run ends whose store can't be loaded; memory may run out instead
abbrev pub Unloaded : LoadFault → End → Type 0
Unloaded load.KeeperFault end = end ≡ KeeperFault
Unloaded (load.Damaged name damage) end = (end ≡ Damaged (damage_text name damage)) ⊎ (end ≡ NoMemory)
Unloaded (load.OldVersion found) end = end ≡ OldVersion found
Unloaded load.NoMemory end = end ≡ NoMemory
