-- Rows of ROAs, one after the other.
use Rattle.std.proofs.Common.{◌≡◌, ℕ, suc, codes, Bool, false, List, [], ◌∷◌, ◌++◌, length, Some, None, Result, Ok, Err, refl, ap, ◌∙◌, subst}
use Rattle.std.specs.Str.{bytes_eq}
use Rattle.csv.specs.Records.{field_at}
use Rattle.ixp_num.specs.declared.roa.Roa.{Roa}
use Rattle.ixp_roa.specs.declared.fault.Misfit.{Misfit}
use Rattle.ixp_roa.specs.declared.fault.Misfit.TheVariants as misfit
use Rattle.ixp_roa.specs.CsvRoas.{FieldsAnswer, RowAnswer, AreRoas, is_header}

pub AreRoas-push : (good : List (List (List ℕ))) (before : List Roa) (row : List (List ℕ)) (r : Roa) → AreRoas good before → RowAnswer row (Ok r) → AreRoas (good ++ row ∷ []) (before ++ r ∷ [])
AreRoas-push [] [] row r are is = (is, tt)
AreRoas-push [] (x ∷ xs) row r are is = absurd are
AreRoas-push (y ∷ ys) [] row r are is = absurd are
AreRoas-push (y ∷ ys) (x ∷ xs) row r are is = (are.0, AreRoas-push ys xs row r are.1 is)

pub AreRoas-length : (rows : List (List (List ℕ))) (rs : List Roa) → AreRoas rows rs → length rs ≡ length rows
AreRoas-length [] [] are = refl
AreRoas-length [] (x ∷ xs) are = absurd are
AreRoas-length (y ∷ ys) [] are = absurd are
AreRoas-length (y ∷ ys) (x ∷ xs) are = ap suc (AreRoas-length ys xs are.1)

-- a row of which the first three fields are read
pub row_fields : (row : List (List ℕ)) (a n m : List ℕ) (r : Result Roa Misfit) → Some a ≡ field_at row 0 → Some n ≡ field_at row 1 → Some m ≡ field_at row 2 → FieldsAnswer a n m r → RowAnswer row r
unfolding field_at
row_fields [] a n m r one two three answer = absurd (let h : ⊥ = cc in h)
row_fields (x ∷ []) a n m r one two three answer = absurd (let h : ⊥ = cc in h)
row_fields (x ∷ y ∷ []) a n m r one two three answer = absurd (let h : ⊥ = cc in h)
row_fields (x ∷ y ∷ z ∷ more) a n m r one two three answer =
    let first : a ≡ x = cc in
    let second : n ≡ y = cc in
    let third : m ≡ z = cc in
    subst (λ m. FieldsAnswer x y m r) third (subst (λ n. FieldsAnswer x n m r) second (subst (λ a. FieldsAnswer a n m r) first answer))

-- a row with too few fields
pub row_short : (row : List (List ℕ)) → None ≡ field_at row 2 → RowAnswer row (Err misfit.Form)
unfolding field_at
row_short [] none = refl
row_short (x ∷ []) none = refl
row_short (x ∷ y ∷ []) none = refl
row_short (x ∷ y ∷ z ∷ more) none = absurd (let h : ⊥ = cc in h)

pub row_without_net : (row : List (List ℕ)) → None ≡ field_at row 1 → RowAnswer row (Err misfit.Form)
unfolding field_at
row_without_net [] none = refl
row_without_net (x ∷ []) none = refl
row_without_net (x ∷ y ∷ more) none = absurd (let h : ⊥ = cc in h)

pub row_without_asn : (row : List (List ℕ)) → None ≡ field_at row 0 → RowAnswer row (Err misfit.Form)
unfolding field_at
row_without_asn [] none = refl
row_without_asn (x ∷ more) none = absurd (let h : ⊥ = cc in h)

pub no_name : (row : List (List ℕ)) → None ≡ field_at row 0 → false ≡ is_header row
unfolding field_at
no_name [] none = refl
no_name (x ∷ more) none = absurd (let h : ⊥ = cc in h)

pub name_is : (row : List (List ℕ)) (field : List ℕ) (b : Bool) → Some field ≡ field_at row 0 → b ≡ bytes_eq field (codes "ASN") → b ≡ is_header row
unfolding field_at
name_is [] field b there e = absurd (let h : ⊥ = cc in h)
name_is (x ∷ more) field b there e = let same : field ≡ x = cc in e ∙ ap (λ f. bytes_eq f (codes "ASN")) same
