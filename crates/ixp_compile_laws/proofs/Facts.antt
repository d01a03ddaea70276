-- What is known of names, kept after items that declare others.
use Rattle.std.proofs.Common.{◌≡◌, ℕ, suc, Bool, true, false, ◌&&◌, ◌==◌, not, eqb-true, List, [], ◌∷◌, ◌++◌, Option, Some, refl, sym, ap, ◌∙◌, if◌then◌else◌}
use Rattle.std.proofs.lemmas.Bool.{and_parts, and_from}
use Rattle.ixp_lang.specs.Trees.{ItemTree}
use Rattle.ixp_lang_tokens.specs.Pieces.{same_word}
use Rattle.ixp_lang_exprs.specs.Names.{Names}
use Rattle.ixp_lang_exprs.specs.Declarations.{standing}
use Rattle.ixp_lang_exprs.specs.declared.env.Declared.{Declared}
use Rattle.ixp_lang_laws.specs.SoundItems.{item_fits, names_behind, items_fit}

-- what these names stand for
abbrev pub Facts : Type 0
Facts = List (List ℕ × Option Declared)

abbrev pub Known : Names → Facts → Type 0
Known names [] = Unit {0}
Known names (f ∷ fs) = (names f.0 ≡ f.1) × Known names fs

abbrev pub apart : List ℕ → Facts → Bool
apart name [] = true
apart name (f ∷ fs) = not (same_word name f.0) && apart name fs

pub past : (b : Bool) (x y : Option Declared) → not b ≡ true → (if b then x else y) ≡ y
past true x y e = absurd cc
past false x y e = refl

pub known_behind : (names : Names) (name : List ℕ) (d : Declared) (fs : Facts) → apart name fs ≡ true → Known names fs → Known (standing names name d) fs
known_behind names name d [] e k = tt
known_behind names name d (f ∷ fs) e (one, k) =
    let h : (not (same_word name f.0) ≡ true) × (apart name fs ≡ true) = and_parts (not (same_word name f.0)) (apart name fs) e in
    (past (same_word name f.0) (Some d) (names f.0) h.0 ∙ one, known_behind names name d fs h.1 k)

pub word_same : (a b : List ℕ) → same_word a b ≡ true → a ≡ b
word_same [] [] e = refl
word_same [] (y ∷ b) e = absurd cc
word_same (x ∷ a) [] e = absurd cc
word_same (x ∷ a) (y ∷ b) e =
    let h : ((x == y) ≡ true) × (same_word a b ≡ true) = and_parts (x == y) (same_word a b) e in
    ap (λ z. z ∷ a) (eqb-true x y h.0) ∙ ap (λ z. y ∷ z) (word_same a b h.1)

-- the same once more
pub known_again : (names : Names) (name : List ℕ) (d : Declared) (fs : Facts) → names name ≡ Some d → Known names fs → Known (standing names name d) fs
known_again names name d [] is k = tt
known_again names name d (f ∷ fs) is (one, k) = (by_case (same_word name f.0) refl, known_again names name d fs is k)
  where
    by_case : (b : Bool) → same_word name f.0 ≡ b → (if b then Some d else names f.0) ≡ f.1
    by_case false e = one
    by_case true e = sym is ∙ (ap names (word_same name f.0 e) ∙ one)

pub known_front : (names : Names) (fs gs : Facts) → Known names (fs ++ gs) → Known names fs × Known names gs
known_front names [] gs k = (tt, k)
known_front names (f ∷ fs) gs (one, k) = (let h = known_front names fs gs k in ((one, h.0), h.1))

pub known_both : (names : Names) (fs gs : Facts) → Known names fs → Known names gs → Known names (fs ++ gs)
known_both names [] gs j k = k
known_both names (f ∷ fs) gs (one, j) k = (one, known_both names fs gs j k)

-- what names stand for behind items, before which there are so many
abbrev pub names_after : ℕ → Names → List ItemTree → Names
names_after number names [] = names
names_after number names (i ∷ is) = names_after (suc number) (names_behind number names i) is

-- from such names the items fit, and lead to such
abbrev pub Leads : (Names → Type 0) → List ItemTree → (Names → Type 0) → Type 0
Leads P items Q = (number : ℕ) (names : Names) → P names → (items_fit number names items ≡ true) × Q (names_after number names items)

joins : (a b : List ItemTree) (R : Names → Type 0) (number : ℕ) (names : Names) → items_fit number names a ≡ true
    → ((other : ℕ) → (items_fit other (names_after number names a) b ≡ true) × R (names_after other (names_after number names a) b))
    → (items_fit number names (a ++ b) ≡ true) × R (names_after number names (a ++ b))
joins [] b R number names fit more = more number
joins (i ∷ a) b R number names fit more =
    let h : (item_fits number names i ≡ true) × (items_fit (suc number) (names_behind number names i) a ≡ true) = and_parts (item_fits number names i) (items_fit (suc number) (names_behind number names i) a) fit in
    (let m = joins a b R (suc number) (names_behind number names i) h.1 more in (and_from (item_fits number names i) _ h.0 m.0, m.1))

pub then_leads : (P Q R : Names → Type 0) (a b : List ItemTree) → Leads P a Q → Leads Q b R → Leads P (a ++ b) R
then_leads P Q R a b one two number names p = joins a b R number names (one number names p).0 (λ other. two other (names_after number names a) (one number names p).1)

pub nothing_leads : (P : Names → Type 0) → Leads P [] P
nothing_leads P number names p = (refl, p)

pub item_leads : (P Q : Names → Type 0) (i : ItemTree) → ((number : ℕ) (names : Names) → P names → (item_fits number names i ≡ true) × Q (names_behind number names i)) → Leads P (i ∷ []) Q
item_leads P Q i h number names p = (and_from (item_fits number names i) true (h number names p).0 refl, (h number names p).1)

pub if_leads : (P Q : Names → Type 0) (b : Bool) (a c : List ItemTree) → (b ≡ true → Leads P a Q) → (b ≡ false → Leads P c Q) → Leads P (if b then a else c) Q
if_leads P Q true a c one two = one refl
if_leads P Q false a c one two = two refl

pub all_lead : {A : Type 0} (P : List A → Names → Type 0) (part : A → List ItemTree) → ((x : A) (xs : List A) → Leads (P (x ∷ xs)) (part x) (P xs)) → (xs : List A) → Leads (P xs) (Rattle.std.specs.Prelude.flat_map part xs) (P [])
all_lead P part h [] = nothing_leads (P [])
all_lead P part h (x ∷ xs) = then_leads (P (x ∷ xs)) (P xs) (P []) (part x) _ (h x xs) (all_lead P part h xs)
