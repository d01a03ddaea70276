-- The change of an edit makes of a registry what the edit does.
use Rattle.std.proofs.Common.{◌≡◌, ℕ, List, [], ◌∷◌, Option, Some, None, refl, ap}
use Rattle.ixp_num.specs.AddressForms.{version_of}
use Rattle.ixp_num.specs.declared.family.Family.{Family}
use Rattle.ixp_num_tables.specs.Tables.{find, put, without, if_there}
use Rattle.ixp_registry.specs.declared.registry.Registry.{Registry}
use Rattle.ixp_registry.specs.Keys.{member_key, port_key, interface_key, router_key, irr_key, origins_key, rules_key}
use Rattle.ixp_registry_change.specs.Changes.{changed_rows, with_change}
use Rattle.ixp_machine_edits.specs.declared.edit.Edit.{Edit}
use Rattle.ixp_machine_edits.specs.declared.edit.Edit.TheVariants.{RenameMember, MoveStatus, SetMacro, AssignPort, FreePort, SetAddress, SetRouter, PutIrr, PutOrigins, SetRules}
use Rattle.ixp_machine_edits.specs.Edits.{change, next}
use Rattle.ixp_machine_edits.specs.Interfaces.{addressed}
use Rattle.ixp_machine_edits.specs.Lists.{placed, put_unless_empty}
use Rattle.ixp_machine_edits.specs.Routers.{with_settings}
use Rattle.ixp_registry_change.specs.Changes.{changed_row, row_or_none}

module _ {R K : Type 0} (key : R → List ℕ) (named : K → List ℕ) where
  row_changed : (f : R → R) (rs : List R) (o : Option R) → changed_rows key named (changed_row f o) rs ≡ if_there o rs (λ r. put key (f r) rs)
  row_changed f rs None = refl
  row_changed f rs (Some r) = refl

  list_put : {X : Type 0} (r : R) (k : K) (xs : List X) (rs : List R) → named k ≡ key r → changed_rows key named (row_or_none r k xs) rs ≡ put_unless_empty key r xs rs
  list_put r k [] rs e = ap (λ z. without key z rs) e
  list_put r k (x ∷ xs) rs e = refl

pub change_is_next : (r : Registry) (e : Edit) → with_change r (change r e) ≡ next r e
change_is_next r (RenameMember member name) = ap (λ ms. record r { members = ms }) (row_changed member_key (λ (k : ℕ). k ∷ []) (λ m. record m { name = name }) r.members (find member_key (member ∷ []) r.members))
change_is_next r (MoveStatus member to) = ap (λ ms. record r { members = ms }) (row_changed member_key (λ (k : ℕ). k ∷ []) (λ m. record m { status = to }) r.members (find member_key (member ∷ []) r.members))
change_is_next r (SetMacro member as_macro) = ap (λ ms. record r { members = ms }) (row_changed member_key (λ (k : ℕ). k ∷ []) (λ m. record m { as_macro = as_macro }) r.members (find member_key (member ∷ []) r.members))
change_is_next r (AssignPort port member) = ap (λ ps. record r { ports = ps }) (row_changed port_key (λ (k : ℕ). k ∷ []) (λ p. record p { member = member }) r.ports (find port_key (port ∷ []) r.ports))
change_is_next r (FreePort port) = ap (λ ps. record r { ports = ps }) (row_changed port_key (λ (k : ℕ). k ∷ []) (λ p. record p { member = 0 }) r.ports (find port_key (port ∷ []) r.ports))
change_is_next r (SetAddress interface f x) = ap (λ is. record r { interfaces = is }) (row_changed interface_key (λ (k : ℕ). k ∷ []) (addressed f x) r.interfaces (find interface_key (interface ∷ []) r.interfaces))
change_is_next r (SetRouter handle settings) = ap (λ qs. record r { routers = qs }) (row_changed router_key (λ (k : List ℕ). k) (with_settings settings) r.routers (find router_key handle r.routers))
change_is_next r (PutIrr member family prefixes) = ap (λ ls. record r { irr = ls }) (list_put irr_key (λ (k : ℕ × Family). k.0 ∷ version_of k.1 ∷ []) (record { member = member; family = family; prefixes = prefixes }) (member, family) prefixes r.irr refl)
change_is_next r (PutOrigins member family asns) = ap (λ ls. record r { origins = ls }) (list_put origins_key (λ (k : ℕ × Family). k.0 ∷ version_of k.1 ∷ []) (record { member = member; family = family; asns = asns }) (member, family) asns r.origins refl)
change_is_next r (SetRules member rules) = ap (λ ls. record r { rules = ls }) (list_put rules_key (λ (k : ℕ). k ∷ []) (record { member = member; rules = placed member 1 rules }) member rules r.rules refl)
change_is_next r e = refl
