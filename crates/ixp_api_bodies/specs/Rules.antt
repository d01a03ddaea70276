-- A member's rules in a body.
use Rattle.std.specs.Prelude.{◌≡◌, ℕ, List, Option, Some, None, Result, Ok, option_map}
use Rattle.serde_json.specs.Data.{Data, Items, no_items}
use Rattle.serde_json.specs.Find.{as_array}
use Rattle.ixp_num.specs.declared.asn.Asn.{Asn}
use Rattle.ixp_num.specs.declared.prefix.Prefix.{Prefix}
use Rattle.ixp_machine_edits.specs.declared.edit.Edit.TheVariants as edit
use Rattle.ixp_machine_edits.specs.declared.edit.NewRule.{NewRule}
use Rattle.ixp_api_json.specs.declared.field.Field.TheVariants as field
use Rattle.ixp_api_json.specs.declared.pointer.CallFault.{CallFault}
use Rattle.ixp_api_json.specs.declared.pointer.Pointer.TheVariants.{In}
use Rattle.ixp_api_paths.specs.declared.table.Args.{Args}
use Rattle.ixp_api_bodies.specs.Answers.{must, read_then}
use Rattle.ixp_api_bodies.specs.Each.{Each}
use Rattle.ixp_api_bodies.specs.Values.{way_in, action_in, number_or_null, PrefixOrNull}
use Rattle.ixp_api_bodies.specs.Edits.{Said}

abbrev pub numbered : Option ℕ → Option Asn
numbered peer = option_map (λ n. record { 0 = n }) peer

-- a rule of the list, at its place from 0
abbrev pub rule : ℕ → Option (Option Prefix) → Data → Result NewRule CallFault
rule place net d =
    read_then (must (In place field.Way) (way_in field.Way d)) (λ way.
    read_then (must (In place field.Peer) (number_or_null field.Peer d)) (λ peer.
    read_then (must (In place field.Prefix) net) (λ prefix.
    read_then (must (In place field.Action) (action_in field.Action d)) (λ action.
    Ok (record { way = way; peer = numbered peer; prefix = prefix; action = action })))))

abbrev pub Rule : ℕ → Data → Result NewRule CallFault → Type 0
Rule place d r = (net : Option (Option Prefix)) × PrefixOrNull field.Prefix d net × (r ≡ rule place net d)

-- the rules, or the fault of the first that is none
abbrev pub Rules : Items → Result (List NewRule) CallFault → Type 0
Rules ds r = Each Rule 0 ds r

abbrev pub items_in : Option Items → Items
items_in None = no_items
items_in (Some items) = items

abbrev pub SetRules : Args → Data → Said → Type 0
SetRules args d r =
    (xs : Result (List NewRule) CallFault) × Rules (items_in (as_array d)) xs
    × (r ≡ read_then xs (λ rules. Ok (edit.SetRules args.row rules)))
