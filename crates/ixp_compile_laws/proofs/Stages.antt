-- What is known of names at each item of the head, and after it.
use Rattle.std.proofs.Common.{◌≡◌, ℕ, suc, Bool, true, false, ◌&&◌, not, List, [], ◌∷◌, ◌++◌, codes, Option, Some, None, refl, sym, ap, subst, if◌then◌else◌}
use Rattle.std.proofs.lemmas.Bool.{and_parts, and_from}
use Rattle.ixp_lang.specs.Trees.{ItemTree, StmtTrees, function_item}
use Rattle.ixp_lang.specs.declared.value.SetLit.{SetLit}
use Rattle.ixp_lang_tokens.specs.Pieces.{same_word}
use Rattle.ixp_lang_exprs.specs.Names.{Names}
use Rattle.ixp_lang_exprs.specs.Declarations.{standing, is_free_in}
use Rattle.ixp_lang_exprs.specs.declared.types.ValueType.{ValueType}
use Rattle.ixp_lang_exprs.specs.declared.context.Scope.TheVariants as scope
use Rattle.ixp_lang_exprs.specs.declared.env.Declared.{Declared}
use Rattle.ixp_lang_exprs.specs.declared.env.Declared.TheVariants.{Begun, Function}
use Rattle.ixp_read.specs.Functions.{as_written}
use Rattle.ixp_compile.specs.Pieces.{defined}
use Rattle.ixp_lang_laws.specs.Sound.{set_type, set_fits}
use Rattle.ixp_lang_laws.specs.SoundItems.{item_fits, names_behind, items_fit}
use Rattle.ixp_lang_laws.specs.SoundStatements.{stmts_fit, returned_in}
use Rattle.ixp_compile_laws.proofs.Facts.{Facts, Known, apart, known_behind, names_after, past}
use Rattle.ixp_compile_laws.proofs.Session.{if_any}
use Rattle.ixp_compile_laws.proofs.FreeNames.{Free, free_later}

-- what is free yet, what is known, and that functions from here on may have parameters of the two names
abbrev pub Stage : Facts → Facts → ℕ → Names → Type 0
Stage todo known number names = Known names todo × Known names known × Free number names (codes "n") × Free number names (codes "p")

-- how many items stand before what follows these
abbrev pub behind : ℕ → List ItemTree → ℕ
behind number [] = number
behind number (i ∷ is) = behind (suc number) is

abbrev pub Goes : (ℕ → Names → Type 0) → List ItemTree → (ℕ → Names → Type 0) → Type 0
Goes P items Q = (number : ℕ) (names : Names) → P number names → (items_fit number names items ≡ true) × Q (behind number items) (names_after number names items)

go_on : (a b : List ItemTree) (R : ℕ → Names → Type 0) (number : ℕ) (names : Names) → items_fit number names a ≡ true
    → (items_fit (behind number a) (names_after number names a) b ≡ true) × R (behind (behind number a) b) (names_after (behind number a) (names_after number names a) b)
    → (items_fit number names (a ++ b) ≡ true) × R (behind number (a ++ b)) (names_after number names (a ++ b))
go_on [] b R number names fit more = more
go_on (i ∷ a) b R number names fit more =
    let h : (item_fits number names i ≡ true) × (items_fit (suc number) (names_behind number names i) a ≡ true) = and_parts (item_fits number names i) (items_fit (suc number) (names_behind number names i) a) fit in
    (let m = go_on a b R (suc number) (names_behind number names i) h.1 more in (and_from (item_fits number names i) _ h.0 m.0, m.1))

pub then_goes : (P Q R : ℕ → Names → Type 0) (a b : List ItemTree) → Goes P a Q → Goes Q b R → Goes P (a ++ b) R
then_goes P Q R a b one two number names p = (let h = one number names p in go_on a b R number names h.0 (two (behind number a) (names_after number names a) h.1))

pub stays : (P : ℕ → Names → Type 0) → Goes P [] P
stays P number names p = (refl, p)

-- a name that is neither parameter's
abbrev pub is_plain : List ℕ → Bool
is_plain w = not (same_word w (codes "n")) && not (same_word w (codes "p"))

pub kept_free : (number : ℕ) (names : Names) (w p : List ℕ) (d : Declared) → not (same_word w p) ≡ true → Free number names p → Free (suc number) (standing names w d) p
kept_free number names w p d e free m h = subst (λ x. is_free_in x m ≡ true) (sym (past (same_word w p) (Some d) (names p) e)) (free_later number names p free m h)

pub same_free : (number : ℕ) (names : Names) (w p : List ℕ) (d : Declared) → not (same_word w p) ≡ true → Free number names p → Free number (standing names w d) p
same_free number names w p d e free m h = subst (λ x. is_free_in x m ≡ true) (sym (past (same_word w p) (Some d) (names p) e)) (free m h)

-- an item that declares one name, and no parameters
pub declares : (w : List ℕ) (d : Declared) (i : ItemTree) (todo known : Facts) → ((number : ℕ) (names : Names) → names w ≡ None → Known names known → item_fits number names i ≡ true)
    → ((number : ℕ) (names : Names) → names_behind number names i ≡ standing names w d) → same_word w w ≡ true → is_plain w ≡ true → apart w todo ≡ true → apart w known ≡ true
    → Goes (Stage ((w, None) ∷ todo) known) (i ∷ []) (Stage todo ((w, Some d) ∷ known))
declares w d i todo known fit behind_ same plain apart_todo apart_known number names ((free, t), k, free_n, free_p) =
    let h : (not (same_word w (codes "n")) ≡ true) × (not (same_word w (codes "p")) ≡ true) = and_parts (not (same_word w (codes "n"))) (not (same_word w (codes "p"))) plain in (
      and_from (item_fits number names i) true (fit number names free k) refl,
      subst (Stage todo ((w, Some d) ∷ known) (suc number)) (sym (behind_ number names))
          (known_behind names w d todo apart_todo t, (rw same refl, known_behind names w d known apart_known k), kept_free number names w (codes "n") d h.0 free_n, kept_free number names w (codes "p") d h.1 free_p),
    )

-- a function without parameters, whose body fits where what is known is known
pub procedure_goes : (w : List ℕ) (body : StmtTrees) (r : Option ValueType) (todo known : Facts)
    → ((number : ℕ) (names : Names) → Known names known → (stmts_fit names (scope.Function number) 63 (as_written None) body ≡ true) × ((returned_in names (scope.Function number) (as_written None) body).ty ≡ r))
    → same_word w w ≡ true → is_plain w ≡ true → apart w todo ≡ true → apart w known ≡ true
    → Goes (Stage ((w, None) ∷ todo) known) (function_item w [] body ∷ []) (Stage todo ((w, Some (Function (record { params = []; returns = r }))) ∷ known))
procedure_goes w body r todo known fit same plain apart_todo apart_known number names ((free, t), k, free_n, free_p) =
    let h : (not (same_word w (codes "n")) ≡ true) × (not (same_word w (codes "p")) ≡ true) = and_parts (not (same_word w (codes "n"))) (not (same_word w (codes "p"))) plain in
    let inner : Names = standing names w Begun in
    let inner_known : Known inner known = known_behind names w Begun known apart_known k in
    let g : (stmts_fit inner (scope.Function number) 63 (as_written None) body ≡ true) × ((returned_in inner (scope.Function number) (as_written None) body).ty ≡ r) = fit number inner inner_known in (
      rw (free, g.0) refl,
      (
        known_behind inner w _ todo apart_todo (known_behind names w Begun todo apart_todo t),
        (rw same (ap (λ (x : Option ValueType). Some (Function (record { params = []; returns = x }))) g.1), known_behind inner w _ known apart_known inner_known),
        kept_free number inner w (codes "n") _ h.0 (same_free number names w (codes "n") Begun h.0 free_n),
        kept_free number inner w (codes "p") _ h.1 (same_free number names w (codes "p") Begun h.1 free_p),
      ),
    )

-- a set that may be left out
pub set_goes : {A : Type 0} (w : List ℕ) (made : List A → SetLit) (t : ValueType) (xs : List A) (todo known : Facts) → ((ys : List A) → set_type (made ys) ≡ t) → ((x : A) (ys : List A) → x ∷ ys ≡ xs → set_fits 64 (made (x ∷ ys)) ≡ true)
    → same_word w w ≡ true → is_plain w ≡ true → apart w todo ≡ true → apart w known ≡ true
    → Goes (Stage ((w, None) ∷ todo) known) (defined w made xs) (Stage todo (if_any xs w t ++ known))
set_goes w made t [] todo known types fit same plain apart_todo apart_known number names ((free, rest), k, free_n, free_p) = (refl, (rest, k, free_n, free_p))
set_goes w made t (x ∷ xs) todo known types fit same plain apart_todo apart_known number names ((free, rest), k, free_n, free_p) =
    let h : (not (same_word w (codes "n")) ≡ true) × (not (same_word w (codes "p")) ≡ true) = and_parts (not (same_word w (codes "n"))) (not (same_word w (codes "p"))) plain in (
      rw (free, fit x xs refl) refl,
      (known_behind names w _ todo apart_todo rest, (rw (same, types (x ∷ xs)) refl, known_behind names w _ known apart_known k), kept_free number names w (codes "n") _ h.0 free_n, kept_free number names w (codes "p") _ h.1 free_p),
    )
