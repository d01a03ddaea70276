-- What a store of the first version holds of a state, and that store read as one of today's version.
use Rattle.std.specs.Prelude.{◌≡◌, ℕ, ◌==◌, ◌&&◌, Bool, if◌then◌else◌, List, ◌∷◌, ◌++◌, map, length, codes}
use Rattle.std.specs.FinMap.{entries, from_sorted}
use Rattle.std.specs.List.{AllByRecursion}
use Rattle.ixp_io.specs.declared.keeper.RowName.{RowName}
use Rattle.ixp_io.specs.Tables.{Table, changed}
use Rattle.ixp_registry.specs.declared.router.Router.{Router}
use Rattle.ixp_rows_lines.specs.declared.version.Version.{Version}
use Rattle.ixp_rows_lines.specs.declared.version.Version.TheVariants.{One, Two}
use Rattle.ixp_rows_lines.specs.Lines.{router_line, IsOfVersion}
use Rattle.ixp_machine_steps.specs.declared.state.State.{State}
use Rattle.ixp_machine_steps.specs.States.{ValidState}
use Rattle.ixp_store_rows.specs.Names.{Entry, line_row, version_name}
use Rattle.ixp_store_rows.specs.States.{set_row, tables}
use Rattle.ixp_store_words.specs.Storing.{IsStorable}

-- The rows in which the versions differ: that of the version, and those of the routers, which have the
-- routers' lines in a dump of the version.
abbrev pub version_text : Version → List ℕ
version_text One = codes "1"
version_text Two = codes "2"

abbrev pub router_row : Version → Router → Entry
router_row version q = line_row (router_line version q)

abbrev pub version_rows : Version → State → List Entry
version_rows version s = (version_name, version_text version) ∷ map (router_row version) s.registry.routers

-- A state of the first version: a valid one, to which requests lead, whose routers have no blackhole address
-- and no bound on communities.
pub record IsFirst (s : State) : Type 0 where
  pub valid : ValidState s
  pub storable : IsStorable s
  pub routers : AllByRecursion (IsOfVersion One) s.registry.routers

-- what a store of the first version holds of it: today's rows, but for those in which the versions differ
abbrev pub tables_1 : State → Table
tables_1 s = changed (tables s) (map set_row (version_rows One s))

-- A row of the first version as one of today's: the version is 2, and a router's line has two fields more,
-- which say that it has no blackhole address and no bound on communities.
abbrev pub is_version : RowName → Bool
is_version name = name.kind == 0 && length name.key == 0

abbrev pub body_now : RowName → List ℕ → List ℕ
body_now name body = if is_version name then codes "2" else if name.kind == 10 then body ++ codes " - 0"
    else body

abbrev pub row_now : Entry → Entry
row_now e = (e.0, body_now e.0 e.1)

-- all rows as such
abbrev pub table_now : Table → Table
table_now rows = from_sorted (map row_now (entries rows))
