-- What it says that a list has a prefix, or a pattern, by the derived comparison.
use Rattle.std.proofs.Common.{◌≡◌, Bool, true, ◌↔◌, List, sym, ◌∙◌, subst}
use Rattle.std.specs.List.{Contains, list_any}
use Rattle.ixp_num.specs.declared.prefix.Prefix.{Prefix}
use Rattle.ixp_num.specs.Prefixes.{same_prefix}
use Rattle.ixp_pfxset.proofs.Covering.{same_says, same_itself}
use Rattle.ixp_pfxset.proofs.Members.{passing, passed}

pub found_prefix : {E : Prefix → Prefix → Bool} → ((x y : Prefix) → E x y ≡ same_prefix x y) → (list : List Prefix) (q : Prefix) (r : Bool) → r ≡ list_any (λ y. E y q) list → (r ≡ true) ↔ Contains list q
found_prefix {E = E} same list q r e = (
  (λ t. let some = passing (λ y. E y q) list (sym e ∙ t) in subst (Contains list) (same_says some.0 q (sym (same some.0 q) ∙ some.2)) some.1),
  (λ there. e ∙ passed (λ y. E y q) list q there (same q q ∙ same_itself q)),
)
