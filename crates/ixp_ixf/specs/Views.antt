-- The text of the export.
use Rattle.std.specs.Prelude.{ℕ, List}
use Rattle.serde_json.specs.Written.{compact_text}
use Rattle.ixp_registry.specs.declared.registry.Registry.{Registry}
use Rattle.ixp_ixf.specs.Export.{export}

-- the compact text of the tree, as serde_json writes it
unfoldable pub ixf_text_of : Registry → ℕ → List ℕ
ixf_text_of r second = compact_text (export r second)
