-- The reader against the forms: what is read is spelt so, what is spelt is read, and a reader stops where it must.
use Rattle.std.proofs.Common.{◌≡◌, ℕ, suc, ◌<◌, ◌⊎◌, inl, inr, cond, List, [], ◌∷◌, length, min, nat_le, Result, Ok, Err, refl, sym, ap, ◌∙◌, arith}
use Rattle.std.proofs.lemmas.Bool.Decides.{nat_tests}
use Rattle.ixp_num.specs.Forms.{Form, End, Mark, Decimal, Hex, Either, IsDigit, Said, bounded, Spelt, IsOf}
use Rattle.ixp_num.specs.Reading.{◌>>=◌, cap, group_at, number_at, mark_at, end_at, farther, read}
use Rattle.ixp_num.proofs.Groups.{IsHexByte, group_again, Grouped, group_split, group_missing}
use Rattle.ixp_num.proofs.Digits.{pair, Ends, number_again, Numbered, number_split, number_missing, mark_again, mark_split, mark_missing}

-- no text of the form begins with such a byte
abbrev pub NeverBegins : (ℕ → Type 0) → Form → Type 0
NeverBegins P form = (c : ℕ) (rest : List ℕ) → P c → ¬ (IsOf form (c ∷ rest))

-- no text is of both forms
abbrev pub Apart : Form → Form → Type 0
Apart one other = (t : List ℕ) → IsOf one t → ¬ (IsOf other t)

-- each number ends where its digits do, and each text is of one form alone
abbrev pub Parted : Form → Type 0
Parted (End ns) = Unit {0}
Parted (Mark b form) = Parted form
Parted (Decimal bound form) = (bound < cap) × ((n : ℕ) → NeverBegins IsDigit (form n) × Parted (form n))
Parted (Hex form) = (n : ℕ) → NeverBegins IsHexByte (form n) × Parted (form n)
Parted (Either one other) = Apart one other × Parted one × Parted other

pub ends_from : (P : ℕ → Type 0) (form : Form) (t : List ℕ) → NeverBegins P form → IsOf form t → Ends P t
ends_from P form [] never is_of = tt
ends_from P form (c ∷ cs) never is_of = λ p. never c cs p is_of

pub result_cases : {A : Type 0} (r : Result A ℕ) → ((a : A) × (r ≡ Ok a)) ⊎ ((left : ℕ) × (r ≡ Err left))
result_cases (Ok a) = inl (a, refl)
result_cases (Err left) = inr (left, refl)

capped_min : (n bound : ℕ) → bound < cap → min (min cap n) bound ≡ min n bound
capped_min n bound low = omega arith

capped_le : (n bound : ℕ) → bound < cap → nat_le (min cap n) bound ≡ nat_le n bound
capped_le n bound low = grind (arith, nat_tests)

-- what is read is spelt so

-- what is done with the number at the front
abbrev pub going : ℕ → (ℕ → Form) → List ℕ → ℕ × List ℕ → Result Said ℕ
going bound form t p = read (form (min p.0 bound)) p.1 >>= λ said. Ok (bounded bound p.0 (length t) said)

going_at : (bound : ℕ) (form : ℕ → Form) (t rest : List ℕ) (n : ℕ) → bound < cap → going bound form t (min cap n, rest) ≡ (read (form (min n bound)) rest >>= λ said. Ok (bounded bound n (length t) said))
going_at bound form t rest n low =
    ap (λ m. read (form m) rest >>= λ said. Ok (bounded bound (min cap n) (length t) said)) (capped_min n bound low)
    ∙ ap (λ b. read (form (min n bound)) rest >>= λ said. Ok (cond b said (Err (length t)))) (capped_le n bound low)

mark_sound : (b : ℕ) (form : Form) (said : Said) (t : List ℕ) → ((rest : List ℕ) → read form rest ≡ Ok said → Spelt form said rest) → ((rest : List ℕ) × (t ≡ b ∷ rest)) ⊎ Ends (λ c. c ≡ b) t → read (Mark b form) t ≡ Ok said → Spelt (Mark b form) said t
mark_sound b form said t below (inl (rest, e)) reads =
    let there : mark_at b t ≡ Ok rest = ap (mark_at b) e ∙ mark_again b rest in
    (rest, e, below rest (ap (λ x. x >>= read form) (sym there) ∙ reads))
mark_sound b form said t below (inr ends) reads =
    let stops : Err (length t) ≡ Ok said = ap (λ x. x >>= read form) (sym (mark_missing b t ends)) ∙ reads in
    absurd cc

pub decimal_read : (bound : ℕ) (form : ℕ → Form) (t : List ℕ) → bound < cap → (x : Numbered t) → read (Decimal bound form) t ≡ (read (form (min x.n bound)) x.rest >>= λ said. Ok (bounded bound x.n (length t) said))
decimal_read bound form t low x =
    let there : number_at t ≡ Ok (min cap x.n, x.rest) = ap number_at x.parts ∙ number_again x.front x.rest x.n x.spelt x.closed in
    ap (λ r. r >>= going bound form t) there ∙ going_at bound form t x.rest x.n low

bound_sound : (bound n left : ℕ) (said : Said) (r : Result Said ℕ) → ((after : Said) × (r ≡ Ok after)) ⊎ ((l : ℕ) × (r ≡ Err l)) → (r >>= λ after. Ok (bounded bound n left after)) ≡ Ok said → (after : Said) × (r ≡ Ok after) × (said ≡ bounded bound n left after)
bound_sound bound n left said r (inl (after, e)) h =
    let same : Ok (bounded bound n left after) ≡ Ok said = ap (λ x. x >>= λ a. Ok (bounded bound n left a)) (sym e) ∙ h in
    (after, e, cc)
bound_sound bound n left said r (inr (l, e)) h =
    let stops : Err l ≡ Ok said = ap (λ x. x >>= λ a. Ok (bounded bound n left a)) (sym e) ∙ h in
    absurd cc

decimal_sound : (bound : ℕ) (form : ℕ → Form) (said : Said) (t : List ℕ) → bound < cap → ((n : ℕ) (after : Said) (rest : List ℕ) → read (form n) rest ≡ Ok after → Spelt (form n) after rest) → Numbered t ⊎ Ends IsDigit t → read (Decimal bound form) t ≡ Ok said → Spelt (Decimal bound form) said t
decimal_sound bound form said t low below (inl x) reads =
    let got = bound_sound bound x.n (length t) said (read (form (min x.n bound)) x.rest) (result_cases (read (form (min x.n bound)) x.rest)) (sym (decimal_read bound form t low x) ∙ reads) in
    (x.front, x.rest, x.n, got.0, x.parts, x.spelt, below (min x.n bound) got.0 x.rest got.1, got.2)
decimal_sound bound form said t low below (inr ends) reads =
    let stops : Err (length t) ≡ Ok said = ap (λ r. r >>= going bound form t) (sym (number_missing t ends)) ∙ reads in
    absurd cc

-- what is done with the group at the front
abbrev pub grouping : (ℕ → Form) → ℕ × List ℕ → Result Said ℕ
grouping form p = read (form p.0) p.1

pub hex_read : (form : ℕ → Form) (t : List ℕ) → (x : Grouped t) → read (Hex form) t ≡ read (form x.n) x.rest
hex_read form t x =
    let there : group_at t ≡ Ok (pair x.n x.rest) = ap group_at x.parts ∙ group_again x.front x.rest x.n x.spelt x.closed in
    ap (λ r. r >>= grouping form) there

hex_sound : (form : ℕ → Form) (said : Said) (t : List ℕ) → ((n : ℕ) (after : Said) (rest : List ℕ) → read (form n) rest ≡ Ok after → Spelt (form n) after rest) → Grouped t ⊎ Ends IsHexByte t → read (Hex form) t ≡ Ok said → Spelt (Hex form) said t
hex_sound form said t below (inl x) reads =
    (x.front, x.rest, x.n, x.parts, x.spelt, below x.n said x.rest (sym (hex_read form t x) ∙ reads))
hex_sound form said t below (inr ends) reads =
    let stops : Err (length t) ≡ Ok said = ap (λ r. r >>= grouping form) (sym (group_missing t ends)) ∙ reads in
    absurd cc

either_sound : (one other : Form) (said : Said) (t : List ℕ) → (read one t ≡ Ok said → Spelt one said t) → (read other t ≡ Ok said → Spelt other said t) → ((a : Said) × (read one t ≡ Ok a)) ⊎ ((l : ℕ) × (read one t ≡ Err l)) → ((a : Said) × (read other t ≡ Ok a)) ⊎ ((l : ℕ) × (read other t ≡ Err l)) → read (Either one other) t ≡ Ok said → Spelt (Either one other) said t
either_sound one other said t here there (inl (a, e)) y reads =
    let same : Ok a ≡ Ok said = ap (λ r. farther r (read other t)) (sym e) ∙ reads in
    inl (here (e ∙ same))
either_sound one other said t here there (inr (l, e)) (inl (a, f)) reads =
    let same : Ok a ≡ Ok said = ap (λ r. farther (Err l) r) (sym f) ∙ ap (λ r. farther r (read other t)) (sym e) ∙ reads in
    inr (there (f ∙ same))
either_sound one other said t here there (inr (l, e)) (inr (m, f)) reads =
    let same : Err (min l m) ≡ Ok said = ap (λ r. farther (Err l) r) (sym f) ∙ ap (λ r. farther r (read other t)) (sym e) ∙ reads in
    absurd cc

pub read_sound : (form : Form) → Parted form → (said : Said) (t : List ℕ) → read form t ≡ Ok said → Spelt form said t
read_sound (End ns) parted said [] reads = let same : Ok (Ok ns) ≡ Ok said = reads in (refl, cc)
read_sound (End ns) parted said (c ∷ cs) reads = let stops : Err (suc (length cs)) ≡ Ok said = reads in absurd cc
read_sound (Mark b form) parted said t reads = mark_sound b form said t (read_sound form parted said) (mark_split b t) reads
read_sound (Decimal bound form) parted said t reads = decimal_sound bound form said t parted.0 (λ n. read_sound (form n) (parted.1 n).1) (number_split t) reads
read_sound (Hex form) parted said t reads = hex_sound form said t (λ n. read_sound (form n) (parted n).1) (group_split t) reads
read_sound (Either one other) parted said t reads =
    either_sound one other said t (read_sound one parted.1 said t) (read_sound other parted.2 said t) (result_cases (read one t)) (result_cases (read other t)) reads

-- what is spelt is read

either_other : (one other : Form) (said : Said) (t : List ℕ) → Parted one → Apart one other → Spelt other said t → read other t ≡ Ok said → ((a : Said) × (read one t ≡ Ok a)) ⊎ ((l : ℕ) × (read one t ≡ Err l)) → read (Either one other) t ≡ Ok said
either_other one other said t parted apart spelt reads (inl (a, e)) = absurd (apart t (a, read_sound one parted a t e) (said, spelt))
either_other one other said t parted apart spelt reads (inr (l, e)) = ap (λ r. farther r (read other t)) e ∙ ap (λ r. farther (Err l) r) reads

pub read_again : (form : Form) → Parted form → (said : Said) (t : List ℕ) → Spelt form said t → read form t ≡ Ok said
read_again (End ns) parted said t spelt = ap (end_at ns) spelt.0 ∙ ap Ok (sym spelt.1)
read_again (Mark b form) parted said t (rest, e, spelt) =
    ap (λ x. mark_at b x >>= read form) e ∙ ap (λ r. r >>= read form) (mark_again b rest) ∙ read_again form parted said rest spelt
read_again (Decimal bound form) parted said t (front, rest, n, after, e, number, spelt, says) =
    let x : Numbered t = record { front = front; rest = rest; n = n; parts = e; spelt = number; closed = inr (ends_from IsDigit (form (min n bound)) rest (parted.1 (min n bound)).0 (after, spelt)) } in
    decimal_read bound form t parted.0 x
    ∙ ap (λ r. r >>= λ a. Ok (bounded bound n (length t) a)) (read_again (form (min n bound)) (parted.1 (min n bound)).1 after rest spelt)
    ∙ ap Ok (sym says)
read_again (Hex form) parted said t (front, rest, n, e, group, spelt) =
    let x : Grouped t = record { front = front; rest = rest; n = n; parts = e; spelt = group; closed = inr (ends_from IsHexByte (form n) rest (parted n).0 (said, spelt)) } in
    hex_read form t x ∙ read_again (form n) (parted n).1 said rest spelt
read_again (Either one other) parted said t (inl spelt) = ap (λ r. farther r (read other t)) (read_again one parted.1 said t spelt)
read_again (Either one other) parted said t (inr spelt) =
    either_other one other said t parted.1 parted.0 spelt (read_again other parted.2 said t spelt) (result_cases (read one t))
