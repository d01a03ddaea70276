-- A text is the dump of one registry at most, or has one fault.
use Rattle.std.proofs.Common.{◌≡◌, ◌≢◌, ◌⊎◌, inl, inr, ℕ, List, Some, Result, Ok, Err, refl, sym, ap, ◌∙◌}
use Rattle.ixp_registry.specs.declared.breach.Breach.{Breach}
use Rattle.ixp_registry.specs.declared.registry.Registry.{Registry}
use Rattle.ixp_registry.specs.declared.rows.Rows.{Rows}
use Rattle.ixp_registry.specs.Registries.{rows_of, breach}
use Rattle.ixp_rows_lines.specs.declared.version.Version.{Version}
use Rattle.ixp_rows_lines.proofs.Spelling.{some_is, none_some}
use Rattle.ixp_rows.specs.declared.fault.DumpFault.{DumpFault}
use Rattle.ixp_rows.specs.declared.fault.DumpFault.TheVariants.{BadLine, Order, Twice, Invalid, NoMemory}
use Rattle.ixp_rows.specs.Answers.{DumpAnswer}
use Rattle.ixp_rows.specs.Dumps.{RegistryAnswer}
use Rattle.ixp_rows.proofs.OneAnswer.{one_answer}
use Rattle.ixp_rows.proofs.SameRows.{rows_tell}
use Rattle.ixp_registry_laws.proofs.Sentences.{unbroken}
use Rattle.ixp_registry_laws.proofs.ToRules.{all_kept}

abbrev Read : Type 0
Read = Result Rows DumpFault

-- a fault is that of rows that break a rule, or of a line
abbrev Broken : Version → List ℕ → DumpFault → Type 0
Broken version t f = (w : Rows) × (b : Breach) × DumpAnswer version t (Ok w) × (breach w ≡ Some b) × (f ≡ Invalid b.rule b.line)

parted : (version : Version) (t : List ℕ) (f : DumpFault) → RegistryAnswer version t (Err f) → Broken version t f ⊎ DumpAnswer version t (Err f)
parted version t (Invalid rule line) a = inl (a.0, record { rule = rule; line = line }, a.1, a.2, refl)
parted version t (BadLine n) a = inr a
parted version t (Order n) a = inr a
parted version t (Twice n) a = inr a
parted version t NoMemory a = inr a

never : (w : Rows) → ◌≢◌ {A = Read} (Ok w) (Err NoMemory)
never w e = cc

told : (f : DumpFault) → ◌≢◌ {A = Result Registry DumpFault} (Err f) (Err NoMemory) → ◌≢◌ {A = Read} (Err f) (Err NoMemory)
told f some e = some (let h : f ≡ NoMemory = cc in ap (λ g. Err g) h)

two_rows : (version : Version) (t : List ℕ) (w v : Rows) → DumpAnswer version t (Ok w) → DumpAnswer version t (Ok v) → w ≡ v
two_rows version t w v a b = let e = one_answer version t (Ok w) (Ok v) (never w) (never v) a b in cc

rows_or_fault : (version : Version) (t : List ℕ) (w : Rows) (f : DumpFault) → ◌≢◌ {A = Result Registry DumpFault} (Err f) (Err NoMemory) → DumpAnswer version t (Ok w) → DumpAnswer version t (Err f) → ⊥
rows_or_fault version t w f some a b = let e = one_answer version t (Ok w) (Err f) (never w) (told f some) a b in cc

two_faults : (version : Version) (t : List ℕ) (f g : DumpFault) → ◌≢◌ {A = Result Registry DumpFault} (Err f) (Err NoMemory) → ◌≢◌ {A = Result Registry DumpFault} (Err g) (Err NoMemory)
    → DumpAnswer version t (Err f) → DumpAnswer version t (Err g) → f ≡ g
two_faults version t f g some more a b = let e = one_answer version t (Err f) (Err g) (told f some) (told g more) a b in cc

two_breaches : (a b : Breach) (w v : Rows) → w ≡ v → breach w ≡ Some a → breach v ≡ Some b → a ≡ b
two_breaches a b w v same at bt = some_is a b (sym at ∙ (ap breach same ∙ bt))

-- a dump of a valid registry has no fault
valid_or_fault : (version : Version) (t : List ℕ) (r : Registry) (f : DumpFault) → ◌≢◌ {A = Result Registry DumpFault} (Err f) (Err NoMemory) → RegistryAnswer version t (Ok r) → RegistryAnswer version t (Err f) → ⊥
valid_or_fault version t r f some a b = by_fault (parted version t f b)
  where
    by_fault : Broken version t f ⊎ DumpAnswer version t (Err f) → ⊥
    by_fault (inl x) = let same = two_rows version t (rows_of r) x.0 a.0 x.2 in none_some x.1 (sym (unbroken (rows_of r) (all_kept r a.2)) ∙ (ap breach same ∙ x.3))
    by_fault (inr x) = rows_or_fault version t (rows_of r) f some a.0 x

one_fault : (version : Version) (t : List ℕ) (f g : DumpFault) → ◌≢◌ {A = Result Registry DumpFault} (Err f) (Err NoMemory) → ◌≢◌ {A = Result Registry DumpFault} (Err g) (Err NoMemory)
    → RegistryAnswer version t (Err f) → RegistryAnswer version t (Err g) → f ≡ g
one_fault version t f g some more a b = by_faults (parted version t f a) (parted version t g b)
  where
    by_faults : Broken version t f ⊎ DumpAnswer version t (Err f) → Broken version t g ⊎ DumpAnswer version t (Err g) → f ≡ g
    by_faults (inl x) (inl y) = x.4 ∙ (ap (λ b. Invalid b.rule b.line) (two_breaches x.1 y.1 x.0 y.0 (two_rows version t x.0 y.0 x.2 y.2) x.3 y.3) ∙ sym y.4)
    by_faults (inl x) (inr y) = absurd (rows_or_fault version t x.0 g more x.2 y)
    by_faults (inr x) (inl y) = absurd (rows_or_fault version t y.0 f some y.2 x)
    by_faults (inr x) (inr y) = two_faults version t f g some more x y

pub one_registry : (version : Version) (t : List ℕ) (x y : Result Registry DumpFault) → x ≢ Err NoMemory → y ≢ Err NoMemory → RegistryAnswer version t x → RegistryAnswer version t y → x ≡ y
one_registry version t (Ok r) (Ok s) some more a b = ap (λ q. Ok q) (rows_tell r s a.2 b.2 (two_rows version t (rows_of r) (rows_of s) a.0 b.0))
one_registry version t (Ok r) (Err f) some more a b = absurd (valid_or_fault version t r f more a b)
one_registry version t (Err f) (Ok s) some more a b = absurd (valid_or_fault version t s f some b a)
one_registry version t (Err f) (Err g) some more a b = ap (λ h. Err h) (one_fault version t f g some more a b)
