-- What is generated, from a valid registry.
use Rattle.std.proofs.Common.{ℕ, List, None, Some, Ok, sym, subst}
use Rattle.ixp_registry.specs.declared.registry.Registry.{Registry}
use Rattle.ixp_compile_laws.specs.Right.{Right}
use Rattle.ixp_compile_laws.proofs.ReadBack.{whole_right}
use Rattle.ixp_rows.specs.Dumps.{RegistryAnswer, version_in}
use Rattle.ixp_compile_laws.specs.Texts.{IsTextOf}
use Rattle.ixp_cli_plain.specs.Generates.{Generates, IsUnknown}

pub generated_is : (r : Registry) (handle input text : List ℕ) → RegistryAnswer (version_in input) input (Ok r) → IsTextOf r handle (Some text) → Generates handle input text
generated_is r handle input text dump (router, there, is) = record {
  registry = r;
  is_dump = dump;
  router = router;
  is_there = there;
  is_text = is;
  is_right = subst (λ t. Right t r router) (sym is) (whole_right r handle router dump.2 there);
}

pub unknown_is : (r : Registry) (handle input : List ℕ) → RegistryAnswer (version_in input) input (Ok r) → IsTextOf r handle None → IsUnknown handle input
unknown_is r handle input dump away = record { registry = r; is_dump = dump; is_away = away }

pub ruleset generating = (generated_is, unknown_is)
