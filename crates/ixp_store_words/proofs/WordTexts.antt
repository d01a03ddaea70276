-- Words of names and bodies are read again.
use Rattle.std.proofs.Common.{◌≡◌, ℕ, ◌<◌, ◌^◌, true, List, [], ◌∷◌, ◌++◌, append_assoc, length, length-append, take, drop, decimal, Some, refl, ap, ◌∙◌, arith}
use Rattle.std.specs.List.{position, position_or_len}
use Rattle.std.proofs.Math.Seq.{take-append_seam, drop-append_seam}
use Rattle.std.proofs.lemmas.Bool.{lt-ltb}
use Rattle.ixp_registry.specs.declared.edit_kind.EditKind.{EditKind}
use Rattle.ixp_registry.specs.declared.edit_kind.EditKind.TheVariants as kind
use Rattle.ixp_registry.specs.declared.members.Owner.{Owner}
use Rattle.ixp_registry.specs.declared.members.Owner.TheVariants.{Staff, Member as Of}
use Rattle.ixp_registry.specs.Alphabets.{is_handle}
use Rattle.ixp_registry.specs.Codes.{edit_word}
use Rattle.ixp_registry.specs.Widths.{owner_number}
use Rattle.ixp_registry.proofs.HandleNames.{handle_is_name}
use Rattle.ixp_rows_lines.specs.Fields.{is_break, Number, ANumber, Handle, AHandle}
use Rattle.ixp_rows_lines.specs.Lines.{owner_word}
use Rattle.ixp_rows_lines.specs.Reading.{parted_at}
use Rattle.ixp_rows_lines.proofs.Unbroken.{Unbroken, word_unbroken, field_unbroken}
use Rattle.ixp_registry.specs.declared.public_kind.PublicKind.{PublicKind}
use Rattle.ixp_registry.specs.declared.public_kind.PublicKind.TheVariants.{Bogons, BogonAs, Transit, Roas}
use Rattle.ixp_registry.specs.Codes.{public_word}
use Rattle.ixp_store_rows.specs.Names.{key_text, owner_fields}

first_at : (front more : List ℕ) → Unbroken front → position_or_len is_break (front ++ 32 ∷ more) ≡ length front
first_at [] more all = refl
first_at (x ∷ xs) more all = rw (all.0, first_at xs more all.1) (omega arith)

-- a word ends at the first blank
pub word_parted : (front more : List ℕ) → Unbroken front → parted_at (position is_break (front ++ 32 ∷ more)) (front ++ 32 ∷ more) ≡ (front, 32 ∷ more)
word_parted front more all =
    let first = first_at front more all in
    let long = length-append front (32 ∷ more) in
    let less : position_or_len is_break (front ++ 32 ∷ more) < length (front ++ 32 ∷ more) = omega arith in
    let here : position is_break (front ++ 32 ∷ more) ≡ Some (length front) = rw (lt-ltb _ _ less) (ap (λ n. Some n) first) in
    ap (λ o. parted_at o (front ++ 32 ∷ more)) here ∙ seam
  where
    seam : ◌≡◌ {A = List ℕ × List ℕ} (take (length front) (front ++ 32 ∷ more), drop (length front) (front ++ 32 ∷ more)) (front, 32 ∷ more)
    seam = rw (take-append_seam front (32 ∷ more), drop-append_seam front (32 ∷ more)) refl

pub parted_of : (text front more : List ℕ) → Unbroken front → text ≡ front ++ 32 ∷ more → parted_at (position is_break text) text ≡ (front, 32 ∷ more)
parted_of text front more all e = ap (λ t. parted_at (position is_break t) t) e ∙ word_parted front more all

-- no blank stands in a word
pub owner_unbroken : (o : Owner) → Unbroken (owner_word o)
owner_unbroken (Staff n) = word_unbroken (owner_word (Staff n)) refl
owner_unbroken (Of n) = word_unbroken (owner_word (Of n)) refl

pub edit_unbroken : (k : EditKind) → Unbroken (edit_word k)
edit_unbroken kind.AddMember = word_unbroken (edit_word kind.AddMember) refl
edit_unbroken k = word_unbroken (edit_word k) refl

pub public_unbroken : (p : PublicKind) → Unbroken (public_word p)
public_unbroken Bogons = word_unbroken (public_word Bogons) refl
public_unbroken BogonAs = word_unbroken (public_word BogonAs) refl
public_unbroken Transit = word_unbroken (public_word Transit) refl
public_unbroken Roas = word_unbroken (public_word Roas) refl

pub handle_unbroken : (h : List ℕ) → is_handle h ≡ true → Unbroken h
handle_unbroken h e = field_unbroken AHandle (Handle h) tt (handle_is_name h e)

pub small_unbroken : (n : ℕ) → n < 2 ^ 32 → Unbroken (decimal n)
small_unbroken n fits = field_unbroken ANumber (Number n) tt fits

-- the words of a key
pub owner_key : (o : Owner) → key_text (owner_fields o) ≡ owner_word o ++ 32 ∷ decimal (owner_number o)
owner_key o = refl

pub numbered_key : (o : Owner) (n : ℕ) → key_text (owner_fields o) ++ 32 ∷ decimal n ≡ owner_word o ++ 32 ∷ (decimal (owner_number o) ++ 32 ∷ decimal n)
numbered_key o n = append_assoc (owner_word o) (32 ∷ decimal (owner_number o)) (32 ∷ decimal n)

pub pair_text : (m n : ℕ) (more : List ℕ) → (decimal m ++ 32 ∷ decimal n) ++ 32 ∷ more ≡ decimal m ++ 32 ∷ (decimal n ++ 32 ∷ more)
pair_text m n more = append_assoc (decimal m) (32 ∷ decimal n) (32 ∷ more)
