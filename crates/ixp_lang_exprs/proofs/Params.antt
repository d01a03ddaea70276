-- The parameter of an index.
use Rattle.std.proofs.Common.{◌≡◌, ℕ, zero, suc, Bool, List, [], ◌∷◌, drop, refl}
use Rattle.ixp_lang_exprs.specs.declared.types.ValueType.{ValueType}
use Rattle.ixp_lang_exprs.specs.Operands.{Operand}
use Rattle.ixp_lang_exprs.specs.Expressions.{fits_argument, argument_wanted}

pub drop_params : (params : List ValueType) (index : ℕ) (is_last : Bool) (part : Operand) (place : ℕ)
    → fits_argument params index is_last part place ≡ fits_argument (drop index params) 0 is_last part place
drop_params [] zero is_last part place = refl
drop_params [] (suc index) is_last part place = refl
drop_params (p ∷ []) zero is_last part place = refl
drop_params (p ∷ q ∷ ps) zero is_last part place = refl
drop_params (p ∷ []) (suc index) is_last part place = drop_params [] index is_last part place
drop_params (p ∷ q ∷ ps) (suc index) is_last part place = drop_params (q ∷ ps) index is_last part place

pub drop_wanted : (params : List ValueType) (index place : ℕ) → argument_wanted params index place ≡ argument_wanted (drop index params) 0 place
drop_wanted [] zero place = refl
drop_wanted [] (suc index) place = refl
drop_wanted (p ∷ ps) zero place = refl
drop_wanted (p ∷ ps) (suc index) place = drop_wanted ps index place
