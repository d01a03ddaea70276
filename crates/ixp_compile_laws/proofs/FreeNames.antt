-- A parameter's name is free for each function that follows.
use Rattle.std.proofs.Common.{◌≡◌, ℕ, suc, ◌≤◌, Bool, true, false, ◌==◌, not, List, [], ◌∷◌, codes, Option, Some, None, refl, ap, arith}
use Rattle.std.proofs.lemmas.Bool.{and_from, eqb-true}
use Rattle.ixp_lang.specs.Trees.{function_item, StmtTrees, stmts}
use Rattle.ixp_lang.specs.declared.item.Ty.TheVariants.{Int}
use Rattle.ixp_lang_tokens.specs.Pieces.{same_word}
use Rattle.ixp_lang_exprs.specs.Names.{Names}
use Rattle.ixp_lang_exprs.specs.Declarations.{standing, is_free_in}
use Rattle.ixp_lang_exprs.specs.declared.types.ValueType.{ValueType}
use Rattle.ixp_lang_exprs.specs.declared.types.ValueType.TheVariants as type
use Rattle.ixp_lang_exprs.specs.declared.context.Scope.TheVariants as scope
use Rattle.ixp_lang_exprs.specs.declared.env.Declared.{Declared}
use Rattle.ixp_lang_exprs.specs.declared.env.Declared.TheVariants.{Begun, Function, Parameter}
use Rattle.ixp_read.specs.Functions.{as_written}
use Rattle.ixp_compile.specs.Header.{drop_body, count_body, pad_body}
use Rattle.ixp_lang_laws.specs.SoundItems.{names_behind, inside, items_fit}
use Rattle.ixp_lang_laws.specs.SoundStatements.{returned_in}
use Rattle.ixp_compile_laws.proofs.Facts.{Facts, Known, apart, known_behind}
use Rattle.ixp_compile_laws.proofs.OtherFilters.{eq_self}
use Rattle.ixp_compile_laws.proofs.HeadFunctions.{pad_fits, count_fits, drop_free_fits}

-- a parameter of a function from this number on may have the name
abbrev pub Free : ℕ → Names → List ℕ → Type 0
Free number names p = (m : ℕ) → number ≤ m → is_free_in (names p) m ≡ true

pub free_here : (number : ℕ) (names : Names) (p : List ℕ) → Free number names p → is_free_in (names p) number ≡ true
free_here number names p free = free number (let h : number ≤ number = omega arith in h)

pub free_later : (number : ℕ) (names : Names) (p : List ℕ) → Free number names p → Free (suc number) names p
free_later number names p free m h = free m (let g : number ≤ m = omega (arith, h) in g)

other_number : (a b : ℕ) → suc a ≤ b → (c : Bool) → (a == b) ≡ c → not c ≡ true
other_number a b h false e = refl
other_number a b h true e = absurd (let g : a ≡ b = eqb-true a b e in omega (arith, h, g))

-- behind a function the parameter's name is free for those that follow, as every other one
pub free_behind : (number : ℕ) (names : Names) (w p : List ℕ) (d : Declared) (t : ValueType) → same_word w p ≡ false → same_word p p ≡ true → Free (suc number) (standing (standing (standing names w Begun) p (Parameter number t)) w d) p
free_behind number names w p d t apart_ same m h = rw (apart_, same) (other_number number m h (number == m) refl)

-- A function of one parameter, a number.
pub one_param : (number : ℕ) (names : Names) (w p : List ℕ) (body : StmtTrees) (r : Option ValueType) (fs : Facts) → Known names fs → apart w fs ≡ true → apart p fs ≡ true → same_word w w ≡ true
    → (returned_in (inside number names w ((Int, p) ∷ [])) (scope.Function number) (as_written None) body).ty ≡ r
    → Known (names_behind number names (function_item w ((Int, p) ∷ []) body)) ((w, Some (Function (record { params = type.Int ∷ []; returns = r }))) ∷ fs)
one_param number names w p body r fs known apart_w apart_p same returns = (
  rw same (ap (λ (x : Option ValueType). Some (Function (record { params = type.Int ∷ []; returns = x }))) returns),
  known_behind (standing (standing names w Begun) p (Parameter number type.Int)) w _ fs apart_w (known_behind (standing names w Begun) p (Parameter number type.Int) fs apart_p (known_behind names w Begun fs apart_w known)),
)

-- the last three functions, for example
three : (number rs : ℕ) (names : Names) (fs : Facts) → Known names ((codes "ixp_drop", None) ∷ (codes "ixp_count", None) ∷ (codes "ixp_pad", None) ∷ fs) → Free number names (codes "n") → Free number names (codes "p")
    → apart (codes "ixp_drop") fs ≡ true → apart (codes "ixp_count") fs ≡ true → apart (codes "ixp_pad") fs ≡ true → apart (codes "n") fs ≡ true → apart (codes "p") fs ≡ true
    → items_fit number names (function_item (codes "ixp_drop") ((Int, codes "n") ∷ []) (stmts (drop_body rs)) ∷ function_item (codes "ixp_count") ((Int, codes "p") ∷ []) (stmts (count_body rs)) ∷ function_item (codes "ixp_pad") ((Int, codes "n") ∷ []) (stmts pad_body) ∷ []) ≡ true
three number rs names fs (drop, (count, (pad, k))) free_n free_p a b c d e =
    (let one = one_param number names (codes "ixp_drop") (codes "n") (stmts (drop_body rs)) None ((codes "ixp_count", None) ∷ (codes "ixp_pad", None) ∷ fs) (count, (pad, k)) a d refl refl in
    let names1 : Names = names_behind number names (function_item (codes "ixp_drop") ((Int, codes "n") ∷ []) (stmts (drop_body rs))) in
    let two = one_param (suc number) names1 (codes "ixp_count") (codes "p") (stmts (count_body rs)) (Some type.Int) ((codes "ixp_pad", None) ∷ fs) (one.1.1) b e refl refl in
    let names2 : Names = names_behind (suc number) names1 (function_item (codes "ixp_count") ((Int, codes "p") ∷ []) (stmts (count_body rs))) in
    and_from _ _ (drop_free_fits number rs names drop (free_here number names (codes "n") free_n) (eq_self number))
    (and_from _ _ (count_fits (suc number) rs names1 one.1.0 (free_here (suc number) names1 (codes "p") (free_later number names (codes "p") free_p)) (eq_self (suc number)))
    (and_from _ true (pad_fits (suc (suc number)) names2 two.1.0 (free_here (suc (suc number)) names2 (codes "n") (free_later (suc number) names1 (codes "n") (free_behind number names (codes "ixp_drop") (codes "n") Begun type.Int refl refl))) (eq_self (suc (suc number)))) refl)))
