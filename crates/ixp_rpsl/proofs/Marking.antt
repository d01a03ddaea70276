-- Names and numbers that are marked in a map, and what is picked by them.
use Rattle.std.proofs.Common.{◌≡◌, ◌++◌, ◌||◌, ℕ, Bool, true, false, List, ◌∷◌, Option, Some, Vec, BTreeMap, Global, bytes_eq, if◌then◌else◌, refl, sym, ap, ◌∙◌, append_assoc}
use Rattle.std.specs.BTreeMap.{UpdatesBy, get_by}
use Rattle.std.specs.Option.{is_some}
use Rattle.ixp_num.specs.declared.asn.Asn.{Asn}
use Rattle.ixp_rpsl.specs.Expansion.{has_name}
use Rattle.ixp_rpsl.specs.Lookups.{sought}
use Rattle.ixp_rpsl.specs.Origins.{numbers_in, origins_in}
use Rattle.ixp_rpsl.specs.declared.objects.Reach.{Reach}
use Rattle.ixp_rpsl.specs.declared.objects.SetRow.{SetRow}
use Rattle.ixp_rpsl.proofs.Keys.{changed, in_order}

test_of : {X : Type 0} (b : Bool) (x : X) (o : Option X) (rest : Bool) → (is_some (if b then Some x else o) || rest) ≡ (is_some o || (b || rest))
test_of false x o rest = refl
test_of true x o rest = by (is_some o) where
  by : (a : Bool) → true ≡ (a || true)
  by true = refl
  by false = refl

-- one more name is marked
pub name_marked : (m n : BTreeMap (Vec ℕ Global) (Unit {0})) (r : Reach) (rs : List Reach) → UpdatesBy in_order (sought r.set) m n (Some tt)
    → (q : List ℕ) → (is_some (get_by (sought q) n) || has_name rs q) ≡ (is_some (get_by (sought q) m) || has_name (r ∷ rs) q)
name_marked m n r rs h q = ap (λ o. is_some o || has_name rs q) (changed m n r.set (Some tt) h q) ∙ test_of (bytes_eq r.set q) tt (get_by (sought q) m) (has_name rs q)

-- an object whose set is in the list, and one whose set isn't
pub row_in : (r : SetRow) (rs : List SetRow) (c : List Reach) (numbers : List Asn) → has_name c r.name ≡ true → (numbers ++ numbers_in r.members) ++ origins_in rs c ≡ numbers ++ origins_in (r ∷ rs) c
row_in r rs c numbers e = append_assoc numbers (numbers_in r.members) (origins_in rs c) ∙ ap (λ b. numbers ++ (if b then numbers_in r.members ++ origins_in rs c else origins_in rs c)) (sym e)

pub row_out : (r : SetRow) (rs : List SetRow) (c : List Reach) (numbers : List Asn) → has_name c r.name ≡ false → numbers ++ origins_in rs c ≡ numbers ++ origins_in (r ∷ rs) c
row_out r rs c numbers e = ap (λ b. numbers ++ (if b then numbers_in r.members ++ origins_in rs c else origins_in rs c)) (sym e)
