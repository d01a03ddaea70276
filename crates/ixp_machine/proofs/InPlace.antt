-- What is kept of an owner, changed where it stands.
use Rattle.std.proofs.Common.{◌≡◌, ℕ, ◌<◌, Bool, true, false, List, [], ◌∷◌, length, get_or, set, nat_le, Option, Some, None, Result, Ok, Err, OnOk, OnErr, refl, sym, ap, ◌∙◌, subst, if◌then◌else◌}
use Rattle.ixp_num_tables.specs.Tables.{Ascends, find, if_there, place, put}
use Rattle.ixp_num_tables.proofs.Orders.{order_equal}
use Rattle.ixp_num_tables.proofs.Places.{find_here, put_here}
use Rattle.ixp_num_tables.proofs.TableLaws.{Ascends-put, find-key}
use Rattle.ixp_registry.specs.declared.members.Owner.{Owner}
use Rattle.ixp_registry.specs.Words.{owner_numbers}
use Rattle.ixp_machine_steps.specs.declared.kept.KeptNumber.{KeptNumber}
use Rattle.ixp_machine_steps.specs.declared.kept.KeptOwner.{KeptOwner}
use Rattle.ixp_machine_steps.specs.Kept.{kept_key, kept_owner_key, kept_of, without_least, noted, noted_for}

least_owner : (o : KeptOwner) (ks : List KeptNumber) → kept_owner_key (without_least o ks) ≡ kept_owner_key o
least_owner o [] = refl
least_owner o (k ∷ ks) = refl

noted_owner : (k : KeptNumber) (o : KeptOwner) → kept_owner_key (noted k o) ≡ kept_owner_key o
noted_owner k o = by_bool (nat_le (length (put kept_key k o.numbers)) 1024)
  where
    by_bool : (b : Bool) → kept_owner_key (if b then record o { numbers = put kept_key k o.numbers } else without_least o (put kept_key k o.numbers)) ≡ kept_owner_key o
    by_bool true = refl
    by_bool false = least_owner o (put kept_key k o.numbers)

-- the row at this place of the owner, and what becomes of it
module _ (ks : List KeptOwner) (owner : Owner) (i : ℕ) (row : KeptOwner) (up : Ascends kept_owner_key ks) (stands : place kept_owner_key (owner_numbers owner) ks ≡ Ok i) (within : i < length ks) (is : row ≡ get_or ks i row) where
  found : Some row ≡ find kept_owner_key (owner_numbers owner) ks
  found = find_here kept_owner_key (owner_numbers owner) ks i row up (sym stands) within is

  pub of_owner : kept_of ks owner ≡ row
  of_owner = ap (λ (o : Option KeptOwner). if_there o (record { owner = owner; floor = 0; numbers = [] }) (λ x. x)) (sym found)

  key_is : kept_owner_key row ≡ owner_numbers owner
  key_is = order_equal (kept_owner_key row) (owner_numbers owner) (find-key kept_owner_key (owner_numbers owner) row ks (sym found))

  pub set_is_put : (now : KeptOwner) → kept_owner_key now ≡ kept_owner_key row → set ks i now ≡ put kept_owner_key now ks
  set_is_put now same = put_here kept_owner_key now ks i (sym (ap (λ (k : List ℕ). place kept_owner_key k ks) (same ∙ key_is) ∙ stands))

pub key_kept : {A E : Type 0} (result : Result A E) (k : KeptNumber) (row now : KeptOwner) → OnOk result (now ≡ noted k row) → OnErr result (now ≡ row) → kept_owner_key now ≡ kept_owner_key row
key_kept (Ok a) k row now ok err = ap kept_owner_key ok ∙ noted_owner k row
key_kept (Err e) k row now ok err = ap kept_owner_key err

pub ascends_now : (ks made : List KeptOwner) (now : KeptOwner) → Ascends kept_owner_key ks → made ≡ put kept_owner_key now ks → Ascends kept_owner_key made
ascends_now ks made now up is = subst (Ascends kept_owner_key) (sym is) (Ascends-put kept_owner_key now ks up)

pub noted_now :
    {A E : Type 0} (result : Result A E) (ks made : List KeptOwner) (owner : Owner) (k : KeptNumber) (row now : KeptOwner)
    → OnOk result (now ≡ noted k row) → kept_of ks owner ≡ row → made ≡ put kept_owner_key now ks → OnOk result (made ≡ noted_for owner k ks)
noted_now (Ok a) ks made owner k row now ok of is = is ∙ ap (λ (r : KeptOwner). put kept_owner_key r ks) (ok ∙ ap (noted k) (sym of))
noted_now (Err e) ks made owner k row now ok of is = tt
