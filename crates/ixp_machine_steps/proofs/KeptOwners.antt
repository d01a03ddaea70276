-- What is kept for an owner, and what it is when a number of an owner is kept.
use Rattle.std.proofs.Common.{◌≡◌, ℕ, Bool, true, false, nat_le, List, [], ◌∷◌, length, Option, Some, None, refl, sym, ap, ◌∙◌, arith, if◌then◌else◌}
use Rattle.std.specs.declared.cmp.Ordering.TheVariants.{Equal}
use Rattle.std.specs.List.{AllByRecursion}
use Rattle.ixp_num_tables.specs.Tables.{order, find, put, if_there}
use Rattle.ixp_num_tables.proofs.Orders.{order_same, order_equal}
use Rattle.ixp_num_tables.proofs.TableLaws.{find-put-same-key, find-put-other, find-key}
use Rattle.ixp_num_tables.proofs.Looking.{all_found}
use Rattle.ixp_registry.specs.declared.members.Owner.{Owner}
use Rattle.ixp_registry.specs.declared.members.Owner.TheVariants.{Staff, Member}
use Rattle.ixp_registry.specs.Words.{owner_numbers}
use Rattle.ixp_machine_steps.specs.declared.kept.KeptNumber.{KeptNumber}
use Rattle.ixp_machine_steps.specs.declared.kept.KeptOwner.{KeptOwner}
use Rattle.ixp_machine_steps.specs.Kept.{kept_key, kept_owner_key, kept_of, without_least, noted, noted_for, ValidKept}

pub one_owner : (a b : Owner) → owner_numbers a ≡ owner_numbers b → a ≡ b
one_owner (Staff m) (Staff n) e = let is : m ≡ n = cc in ap Staff is
one_owner (Staff m) (Member n) e = absurd (let bad : ⊥ = cc in bad)
one_owner (Member m) (Staff n) e = absurd (let bad : ⊥ = cc in bad)
one_owner (Member m) (Member n) e = let is : m ≡ n = cc in ap Member is

-- what is kept for an owner is the owner's
pub owner_kept : (ks : List KeptOwner) (owner : Owner) → (kept_of ks owner).owner ≡ owner
owner_kept ks owner = by_row (find kept_owner_key (owner_numbers owner) ks) refl where
  by_row : (o : Option KeptOwner) → find kept_owner_key (owner_numbers owner) ks ≡ o → (if_there o (record { owner = owner; floor = 0; numbers = [] }) (λ o. o)).owner ≡ owner
  by_row None e = refl
  by_row (Some k) e = one_owner k.owner owner (order_equal (owner_numbers k.owner) (owner_numbers owner) (find-key kept_owner_key (owner_numbers owner) k ks e))

least_owner : (o : KeptOwner) (ns : List KeptNumber) → (without_least o ns).owner ≡ o.owner
least_owner o [] = refl
least_owner o (k ∷ ks) = refl

noted_owner : (k : KeptNumber) (o : KeptOwner) → (noted k o).owner ≡ o.owner
noted_owner k o = by_room (nat_le (length (put kept_key k o.numbers)) 1024) where
  by_room : (b : Bool) → (if b then record o { numbers = put kept_key k o.numbers } else without_least o (put kept_key k o.numbers)).owner ≡ o.owner
  by_room true = refl
  by_room false = least_owner o (put kept_key k o.numbers)

pub noted_is : (k : KeptNumber) (ks : List KeptOwner) (owner : Owner) → (noted k (kept_of ks owner)).owner ≡ owner
noted_is k ks owner = noted_owner k (kept_of ks owner) ∙ owner_kept ks owner

noted_key : (k : KeptNumber) (ks : List KeptOwner) (owner : Owner) (q : List ℕ) → order (owner_numbers owner) q ≡ order (kept_owner_key (noted k (kept_of ks owner))) q
noted_key k ks owner q = ap (λ o. order (owner_numbers o) q) (sym (noted_is k ks owner))

-- of the owner whose number is kept
pub kept_now : (k : KeptNumber) (ks : List KeptOwner) (owner : Owner) → kept_of (noted_for owner k ks) owner ≡ noted k (kept_of ks owner)
kept_now k ks owner =
    ap (λ o. if_there o (record { owner = owner; floor = 0; numbers = [] }) (λ o. o))
    (find-put-same-key kept_owner_key (owner_numbers owner) (noted k (kept_of ks owner)) ks (sym (noted_key k ks owner (owner_numbers owner)) ∙ order_same (owner_numbers owner)))

-- and of another one
pub kept_other : (k : KeptNumber) (ks : List KeptOwner) (owner other : Owner) → (order (owner_numbers owner) (owner_numbers other) ≡ Equal → ⊥) → kept_of (noted_for owner k ks) other ≡ kept_of ks other
kept_other k ks owner other apart =
    ap (λ o. if_there o (record { owner = other; floor = 0; numbers = [] }) (λ o. o))
    (find-put-other kept_owner_key (owner_numbers other) (noted k (kept_of ks owner)) ks (λ e. apart (noted_key k ks owner (owner_numbers other) ∙ e)))

-- what is kept for an owner is valid
pub valid_kept : (a : ℕ) (ks : List KeptOwner) (owner : Owner) → AllByRecursion (ValidKept a) ks → ValidKept a (kept_of ks owner)
valid_kept a ks owner all = by_row (find kept_owner_key (owner_numbers owner) ks) refl where
  by_row : (o : Option KeptOwner) → find kept_owner_key (owner_numbers owner) ks ≡ o → ValidKept a (if_there o (record { owner = owner; floor = 0; numbers = [] }) (λ o. o))
  by_row None e = record { order = tt; above = tt; counted = tt; few = omega arith; floor = omega arith; places = tt }
  by_row (Some k) e = all_found kept_owner_key (ValidKept a) (owner_numbers owner) k ks all e
