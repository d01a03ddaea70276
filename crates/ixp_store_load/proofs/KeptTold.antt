-- The row of a kept number tells the number.
use Rattle.std.proofs.Common.{◌≡◌, ◌⊎◌, inl, inr, ℕ, ◌<◌, ◌^◌, true, List, [], ◌∷◌, ◌++◌, decimal, Option, Some, refl, sym, ap, ◌∙◌, subst, arith}
use Rattle.std.specs.Prelude.{find as first_with}
use Rattle.std.proofs.lemmas.Fmt.{decimal_injective}
use Rattle.ixp_num_tables.specs.Tables.{same}
use Rattle.ixp_registry.specs.declared.edit_kind.EditKind.{EditKind}
use Rattle.ixp_registry.specs.declared.edit_kind.EditKind.TheVariants as kind
use Rattle.ixp_registry.specs.declared.public_kind.PublicKind.{PublicKind}
use Rattle.ixp_registry.specs.declared.public_kind.PublicKind.TheVariants.{Bogons, BogonAs, Transit, Roas}
use Rattle.ixp_registry.specs.Alphabets.{is_handle}
use Rattle.ixp_registry.specs.Codes.{edit_word, public_word}
use Rattle.ixp_registry.specs.Widths.{IsNumber}
use Rattle.ixp_rows_lines.proofs.Spelling.{some_is}
use Rattle.ixp_machine_steps.specs.declared.kept.KeptNumber.{KeptNumber}
use Rattle.ixp_machine_steps.specs.declared.subject.Subject.{Subject}
use Rattle.ixp_machine_steps.specs.declared.subject.Subject.TheVariants as about
use Rattle.ixp_store_rows.specs.Names.{subject_text, kept_body}
use Rattle.ixp_store_words.specs.declared.words.Form.{Form}
use Rattle.ixp_store_words.specs.declared.words.TheConstants.{EDIT_KINDS}
use Rattle.ixp_store_words.specs.declared.words.Form.TheVariants.{OneNumber, TwoNumbers, WithFamily, RouterHandle, SharedList}
use Rattle.ixp_store_words.specs.Storing.{form_of, HasForm, HasSubject}
use Rattle.ixp_store_words.proofs.Gathered.{same_small}
use Rattle.ixp_store_words.proofs.WordTexts.{edit_unbroken, public_unbroken, handle_unbroken, small_unbroken, pair_text}
use Rattle.ixp_store_load.proofs.KeptTable.{two_words}

-- a word tells its kind of edit, and its public list
abbrev kind_named : List ℕ → Option EditKind
kind_named word = first_with (λ k. same (edit_word k) word) EDIT_KINDS.now

named_kind : (k : EditKind) → kind_named (edit_word k) ≡ Some k
named_kind kind.AddMember = refl
named_kind k = refl

edit_told : (a b : EditKind) → edit_word a ≡ edit_word b → a ≡ b
edit_told a b e = some_is a b (sym (named_kind a) ∙ (ap kind_named e ∙ named_kind b))

abbrev list_named : List ℕ → Option PublicKind
list_named word = first_with (λ p. same (public_word p) word) (Bogons ∷ BogonAs ∷ Transit ∷ Roas ∷ [])

named_list : (p : PublicKind) → list_named (public_word p) ≡ Some p
named_list Bogons = refl
named_list BogonAs = refl
named_list Transit = refl
named_list Roas = refl

public_told : (a b : PublicKind) → public_word a ≡ public_word b → a ≡ b
public_told a b e = some_is a b (sym (named_list a) ∙ (ap list_named e ∙ named_list b))

number_told : (m n : ℕ) → IsNumber m → IsNumber n → decimal m ≡ decimal n → m ≡ n
number_told m n small fits e = decimal_injective m n (omega (arith, small)) (omega (arith, fits)) e

-- what stands behind a subject, and the subject, are told by the text of both
abbrev Told : Subject → Subject → List ℕ → List ℕ → Type 0
Told s t x y = subject_text s ++ 32 ∷ x ≡ subject_text t ++ 32 ∷ y → (s ≡ t) × (x ≡ y)

numbers_told : (m n : ℕ) (x y : List ℕ) → IsNumber m → IsNumber n → Told (about.Number m) (about.Number n) x y
numbers_told m n x y small fits e =
    let parts = two_words (decimal m) (decimal n) x y (small_unbroken m small) (small_unbroken n fits) e in
    (ap (λ k. about.Number k) (number_told m n small fits parts.0), parts.1)

pairs_told : (a b m n : ℕ) (x y : List ℕ) → IsNumber a × IsNumber b → IsNumber m × IsNumber n → Told (about.Pair a b) (about.Pair m n) x y
pairs_told a b m n x y small fits e =
    let first = two_words (decimal a) (decimal m) (decimal b ++ 32 ∷ x) (decimal n ++ 32 ∷ y) (small_unbroken a small.0) (small_unbroken m fits.0) (sym (pair_text a b x) ∙ (e ∙ pair_text m n y)) in
    let second = two_words (decimal b) (decimal n) x y (small_unbroken b small.1) (small_unbroken n fits.1) first.1 in
    let one : a ≡ m = number_told a m small.0 fits.0 first.0 in
    let other : b ≡ n = number_told b n small.1 fits.1 second.0 in
    ((λ i. about.Pair (one i) (other i)), second.1)

handles_told : (g h : List ℕ) (x y : List ℕ) → is_handle g ≡ true → is_handle h ≡ true → Told (about.Handle g) (about.Handle h) x y
handles_told g h x y is too e =
    let parts = two_words g h x y (handle_unbroken g is) (handle_unbroken h too) e in
    (ap (λ t. about.Handle t) parts.0, parts.1)

lists_told : (p q : PublicKind) (x y : List ℕ) → Told (about.Public p) (about.Public q) x y
lists_told p q x y e =
    let parts = two_words (public_word p) (public_word q) x y (public_unbroken p) (public_unbroken q) e in
    (ap (λ t. about.Public t) (public_told p q parts.0), parts.1)

-- an IP version is small
version_fits : (n : ℕ) → (n ≡ 4) ⊎ (n ≡ 6) → IsNumber n
version_fits n (inl is) = omega (arith, is)
version_fits n (inr is) = omega (arith, is)

subjects_told : (f : Form) (s t : Subject) (x y : List ℕ) → HasForm f s → HasForm f t → Told s t x y
subjects_told OneNumber (about.Number m) (about.Number n) x y a b e = numbers_told m n x y a b e
subjects_told OneNumber (about.Number m) (about.Pair n k) x y a b e = absurd b
subjects_told OneNumber (about.Number m) (about.Handle h) x y a b e = absurd b
subjects_told OneNumber (about.Number m) (about.Public q) x y a b e = absurd b
subjects_told OneNumber (about.Pair m k) t x y a b e = absurd a
subjects_told OneNumber (about.Handle g) t x y a b e = absurd a
subjects_told OneNumber (about.Public p) t x y a b e = absurd a
subjects_told TwoNumbers (about.Pair a b) (about.Pair m n) x y small fits e = pairs_told a b m n x y small fits e
subjects_told TwoNumbers (about.Pair a b) (about.Number n) x y small fits e = absurd fits
subjects_told TwoNumbers (about.Pair a b) (about.Handle h) x y small fits e = absurd fits
subjects_told TwoNumbers (about.Pair a b) (about.Public q) x y small fits e = absurd fits
subjects_told TwoNumbers (about.Number m) t x y a b e = absurd a
subjects_told TwoNumbers (about.Handle g) t x y a b e = absurd a
subjects_told TwoNumbers (about.Public p) t x y a b e = absurd a
subjects_told WithFamily (about.Pair a b) (about.Pair m n) x y small fits e =
    pairs_told a b m n x y (small.0, version_fits b small.1) (fits.0, version_fits n fits.1) e
subjects_told WithFamily (about.Pair a b) (about.Number n) x y small fits e = absurd fits
subjects_told WithFamily (about.Pair a b) (about.Handle h) x y small fits e = absurd fits
subjects_told WithFamily (about.Pair a b) (about.Public q) x y small fits e = absurd fits
subjects_told WithFamily (about.Number m) t x y a b e = absurd a
subjects_told WithFamily (about.Handle g) t x y a b e = absurd a
subjects_told WithFamily (about.Public p) t x y a b e = absurd a
subjects_told RouterHandle (about.Handle g) (about.Handle h) x y a b e = handles_told g h x y a b e
subjects_told RouterHandle (about.Handle g) (about.Number n) x y a b e = absurd b
subjects_told RouterHandle (about.Handle g) (about.Pair m n) x y a b e = absurd b
subjects_told RouterHandle (about.Handle g) (about.Public q) x y a b e = absurd b
subjects_told RouterHandle (about.Number m) t x y a b e = absurd a
subjects_told RouterHandle (about.Pair m n) t x y a b e = absurd a
subjects_told RouterHandle (about.Public p) t x y a b e = absurd a
subjects_told SharedList (about.Public p) (about.Public q) x y a b e = lists_told p q x y e
subjects_told SharedList (about.Public p) (about.Number n) x y a b e = absurd b
subjects_told SharedList (about.Public p) (about.Pair m n) x y a b e = absurd b
subjects_told SharedList (about.Public p) (about.Handle h) x y a b e = absurd b
subjects_told SharedList (about.Number m) t x y a b e = absurd a
subjects_told SharedList (about.Pair m n) t x y a b e = absurd a
subjects_told SharedList (about.Handle g) t x y a b e = absurd a

-- kept numbers with one number and one body are one
pub body_told : (j k : KeptNumber) → HasSubject j → HasSubject k → j.place < 2 ^ 64 → k.place < 2 ^ 64 → j.number ≡ k.number → kept_body j ≡ kept_body k → j ≡ k
body_told j k has too low high number e =
    let words =
    two_words (edit_word j.kind) (edit_word k.kind) (subject_text j.subject ++ 32 ∷ decimal j.place) (subject_text k.subject ++ 32 ∷ decimal k.place) (edit_unbroken j.kind) (edit_unbroken k.kind) e in
    let kinds : j.kind ≡ k.kind = edit_told j.kind k.kind words.0 in
    let rest =
    subjects_told (form_of k.kind) j.subject k.subject (decimal j.place) (decimal k.place) (subst (λ c. HasForm (form_of c) j.subject) kinds has) too words.1 in
    let subjects : j.subject ≡ k.subject = rest.0 in
    let places : j.place ≡ k.place = decimal_injective j.place k.place low high rest.1 in
    (λ i. record { number = j.number; kind = kinds i; subject = subjects i; place = places i; small = j.small }) ∙ same_small k j.number number j.small
