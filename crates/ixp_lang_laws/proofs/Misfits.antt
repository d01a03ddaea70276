-- Levels, and what is known of an operand where there is no fault.
use Rattle.std.proofs.Common.{◌≡◌, ℕ, zero, suc, Bool, true, false, Option, Some, None, option_map, refl, if◌then◌else◌}
use Rattle.std.specs.Option.{option_or}
use Rattle.ixp_lang_tokens.specs.declared.fault.Cause.{Cause}
use Rattle.ixp_lang_exprs.specs.declared.types.ValueType.{ValueType}
use Rattle.ixp_lang_exprs.specs.declared.types.ValueType.TheVariants.{Bool as Truth}
use Rattle.ixp_lang_exprs.specs.Types.{same_type}
use Rattle.ixp_lang_exprs.specs.Sets.{unless_so}
use Rattle.ixp_lang_exprs.specs.Operands.{Operand, misfit_at, settled, fits}
use Rattle.ixp_lang_exprs.specs.Expressions.{part_misfit}

-- levels that are as many or more
abbrev pub Within : ℕ → ℕ → Type 0
Within zero m = Unit {0}
Within (suc n) zero = ⊥
Within (suc n) (suc m) = Within n m

pub within_same : (n : ℕ) → Within n n
within_same zero = tt
within_same (suc n) = within_same n

pub within_more : (n m : ℕ) → Within n m → Within n (suc m)
within_more zero m w = tt
within_more (suc n) zero w = absurd w
within_more (suc n) (suc m) w = within_more n m w

pub both_none : {A : Type 0} (x y : Option A) → option_or x y ≡ None → (x ≡ None) × (y ≡ None)
both_none None y e = (refl, e)
both_none (Some a) y e = absurd cc

pub is_so : (b : Bool) (fault : Cause × ℕ) → unless_so b fault ≡ None → b ≡ true
is_so true fault e = refl
is_so false fault e = absurd cc

pub none_settled : (m : Option ℕ) → option_map misfit_at m ≡ None → m ≡ None
none_settled None e = refl
none_settled (Some n) e = absurd cc

pub if_none : (b : Bool) (p : ℕ) → ◌≡◌ {A = Option ℕ} (if b then None else Some p) None → b ≡ true
if_none true p e = refl
if_none false p e = absurd cc

pub none_part : (o : Operand) (p : ℕ) → part_misfit o p ≡ None → (o.misfit ≡ None) × (same_type o.ty Truth ≡ true)
none_part o p e = (let h : (o.misfit ≡ None) × (◌≡◌ {A = Option ℕ} (if same_type o.ty Truth then None else Some p) None) = both_none o.misfit _ e in (h.0, if_none (same_type o.ty Truth) p h.1))

pub none_unfit : (o : Operand) (t : ValueType) (p : ℕ) → fits o t p ≡ None → (o.misfit ≡ None) × (same_type o.ty t ≡ true)
none_unfit o t p e =
    let h : (settled o ≡ None) × (unless_so (same_type o.ty t) (misfit_at p) ≡ None) = both_none (settled o) _ e in
    (none_settled o.misfit h.0, is_so (same_type o.ty t) _ h.1)
