-- An interface's address set, and the rules that speak of addresses.
use Rattle.std.specs.Prelude.{◌≡◌, ℕ, [], ◌∷◌, Some, None}
use Rattle.ixp_num.specs.declared.family.Family.{Family}
use Rattle.ixp_num.specs.declared.family.Family.TheVariants.{V4, V6}
use Rattle.ixp_num_tables.specs.Tables.{find, put, if_there}
use Rattle.ixp_registry.specs.declared.network.IfAddr.{IfAddr}
use Rattle.ixp_registry.specs.declared.network.Interface.{Interface}
use Rattle.ixp_registry.specs.declared.registry.Registry.{Registry}
use Rattle.ixp_registry.specs.Keys.{interface_key}
use Rattle.ixp_registry.specs.Registries.{rows_of}
use Rattle.ixp_registry.specs.Rules.{rule_6, rule_7, rule_15}

-- the interface with this address of the family
abbrev pub addressed : Family → IfAddr → Interface → Interface
addressed V4 x i = record i { v4 = Some x }
addressed V6 x i = record i { v6 = Some x }

-- the registry in which the interface with the number has it
abbrev pub with_address : Registry → ℕ → Family → IfAddr → Registry
with_address r n f x =
    if_there (find interface_key (n ∷ []) r.interfaces) r
    (λ i. record r { interfaces = put interface_key (addressed f x i) r.interfaces })

-- addresses are hosts of their VLANs, nobody shares one or an API key's secret, and blackhole addresses are
-- as they have to be
abbrev pub KeepsAddressRules : Registry → Type 0
KeepsAddressRules r = (rule_6 (rows_of r) ≡ None) × (rule_7 (rows_of r) ≡ None) × (rule_15 (rows_of r) ≡ None)
