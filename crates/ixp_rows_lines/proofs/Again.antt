-- What is spelt is read.
use Rattle.std.proofs.Common.{◌≡◌, ◌≢◌, ℕ, ◌<◌, ◌^◌, ◌⊎◌, Bool, true, false, ◌&&◌, List, [], ◌∷◌, ◌++◌, length, length-append, take, drop, decimal, codes, Option, Some, inl, inr, refl, sym, ap, ◌∙◌, subst, arith, if◌then◌else◌}
use Rattle.std.specs.List.{AllByRecursion, position, position_or_len}
use Rattle.std.proofs.Math.Seq.{take-append_seam, drop-append_seam}
use Rattle.std.proofs.lemmas.Bool.{lt-ltb, eq-eqb}
use Rattle.std.proofs.lemmas.List.Elements.{All-from_recursion}
use Rattle.ixp_num.specs.declared.family.Family.{Family}
use Rattle.ixp_num.specs.declared.family.Family.TheVariants.{V4}
use Rattle.ixp_num.specs.declared.addr.Addr.{Addr}
use Rattle.ixp_num.specs.declared.prefix.Prefix.{Prefix}
use Rattle.ixp_num.specs.declared.pattern.Pattern.{Pattern}
use Rattle.ixp_num.specs.Families.{bits_of, IsPrefix}
use Rattle.ixp_num.proofs.PrintedAddresses.{addr_printed, prefix_printed, bounds_printed, asn_printed}
use Rattle.percent_encoding.specs.Percent.{percent_encode, percent_decode}
use Rattle.percent_encoding.proofs.PercentLemmas.{round_trip, percent_decode-nil, percent_encode_nonempty}
use Rattle.ixp_num_tables.specs.Tables.{same}
use Rattle.ixp_rows_lines.specs.declared.free.TheConstants.{ESCAPED}
use Rattle.ixp_registry.specs.declared.kind.Kind.{Kind}
use Rattle.ixp_registry.specs.declared.kind.Kind.TheVariants.{Sites, Members, Contacts, Keys, Switches, Ports, Vlans, Interfaces, Addresses, Routers, Prefixes, Origins, Rules, Bogons, BogonAs, Transit, Roas}
use Rattle.ixp_rows_lines.specs.declared.version.Version.{Version}
use Rattle.ixp_rows_lines.specs.declared.version.Version.TheVariants.{One, Two}
use Rattle.ixp_rows_lines.specs.Fields.{Field, Number, Octet, Word, Free, Secret, Handle, Address, Net, Bounds, field_text, free_text, or_dash, is_break, Piece, ANumber, AnOctet, OneOf, AFree, ASecret, AHandle, AnAddress, AnIdentifier, ANet, ABounds, Or, Fits, AllFit}
use Rattle.ixp_registry.specs.Widths.{IsByte}
use Rattle.ixp_rows_lines.specs.Lines.{spelled, form_of, router_form}
use Rattle.ixp_rows_lines.specs.Reading.{◌>>=◌, kept, octet_with, without_dash, secret_in, identifier_with, value_of, parted_at, field_at, end_at, piece_at, fields_at}
use Rattle.ixp_rows_lines.proofs.Spelling.{same_is, joined, added}
use Rattle.ixp_rows_lines.proofs.Values.{number_said, octet_value, or_word, or_other, address_same, net_same, bounds_same}
use Rattle.ixp_rows_lines.proofs.Unbroken.{Unbroken, IsSolid, solid_apart, number_text, address_text, net_text, IsLetter, letters, IsClear, or_fits, field_unbroken}

pub same_refl : (t : List ℕ) → same t t ≡ true
same_refl [] = refl
same_refl (c ∷ cs) = ap (λ b. b && same cs cs) (eq-eqb c c refl) ∙ same_refl cs

kept_again : (d : Field) → kept true d (field_text d) ≡ Some d
kept_again d = rw (same_refl (field_text d)) refl

-- an encoded text isn't a dash
no_dash : (x : List ℕ) → AllByRecursion IsLetter x → same x (codes "-") ≡ false
no_dash x all = by_test (same x (codes "-")) refl
  where
    by_test : (b : Bool) → same x (codes "-") ≡ b → b ≡ false
    by_test true e = absurd ((subst (AllByRecursion IsLetter) (same_is x (codes "-") e) all).0.2 refl)
    by_test false e = refl

dash_kept : (x : List ℕ) → 0 < length x → AllByRecursion IsLetter x → without_dash (or_dash x) ≡ x
dash_kept [] some all = absurd (omega (arith, some))
dash_kept (c ∷ cs) some all = rw (no_dash (c ∷ cs) all) refl

-- a free text is decoded to its bytes
free_back : (t : List ℕ) → AllByRecursion IsByte t → percent_decode (without_dash (free_text t)) ≡ t
unfolding percent_encode
free_back [] bytes = percent_decode-nil
free_back (c ∷ cs) bytes =
    ap percent_decode (dash_kept (percent_encode ESCAPED (c ∷ cs)) (percent_encode_nonempty ESCAPED (c ∷ cs) (omega arith)) (letters (c ∷ cs)))
    ∙ round_trip ESCAPED (c ∷ cs) refl (All-from_recursion IsByte (c ∷ cs) bytes)

secret_again : (t : List ℕ) → t ≢ codes "-" → secret_in (or_dash t) ≡ Some (Secret t)
secret_again [] other = refl
secret_again (c ∷ cs) other = by_test (same (c ∷ cs) (codes "-")) refl
  where
    by_test : (b : Bool) → same (c ∷ cs) (codes "-") ≡ b → Some (Secret (if b then [] else c ∷ cs)) ≡ Some (Secret (c ∷ cs))
    by_test true e = absurd (other (same_is (c ∷ cs) (codes "-") e))
    by_test false e = refl

number_again : (n : ℕ) → n < 2 ^ 32 → value_of ANumber (decimal n) ≡ Some (Number n)
number_again n fits = number_said (decimal n) (record { 0 = n }) (asn_printed n fits)

address_again : (f : Family) (v : ℕ) → v < 2 ^ bits_of f → value_of AnAddress (field_text (Address f v)) ≡ Some (Address f v)
address_again f v fits =
    let a : Addr = record { family = f; value = v; fits = fits } in
    address_same (field_text (Address f v)) a (addr_printed a) (same_refl (field_text (Address f v)))

net_again : (f : Family) (v l : ℕ) → IsPrefix f v l → value_of ANet (field_text (Net f v l)) ≡ Some (Net f v l)
net_again f v l is =
    let p : Prefix = record { family = f; value = v; len = l; short = is.0; fits = is.1; no_host_bits = is.2 } in
    net_same (field_text (Net f v l)) p (prefix_printed p) (same_refl (field_text (Net f v l)))

bounds_again : (f : Family) (v l lo hi : ℕ) → Fits ABounds (Bounds f v l lo hi) → value_of ABounds (field_text (Bounds f v l lo hi)) ≡ Some (Bounds f v l lo hi)
bounds_again f v l lo hi (is, small, big) =
    let p : Prefix = record { family = f; value = v; len = l; short = is.0; fits = is.1; no_host_bits = is.2 } in
    let q : Pattern = record { prefix = p; low = lo; high = hi } in
    bounds_same (field_text (Bounds f v l lo hi)) q small big (bounds_printed q small big) (same_refl (field_text (Bounds f v l lo hi)))

-- the field of a kind is read of its text
pub value_again : (p : Piece) (d : Field) → IsClear p → Fits p d → value_of p (field_text d) ≡ Some d
unfolding value_of
value_again ANumber (Number n) clear fits = number_again n fits
value_again ANumber d clear fits = absurd fits
value_again AnOctet (Octet n) clear fits =
    octet_value (decimal n) ∙ (ap (λ v. v >>= octet_with) (number_again n (omega arith)) ∙ rw (lt-ltb n 256 fits) refl)
value_again AnOctet d clear fits = absurd fits
value_again (OneOf words) (Word w) clear fits = rw fits refl
value_again (OneOf words) d clear fits = absurd fits
value_again AFree (Free t) clear fits = ap (λ s. kept true (Free s) (free_text t)) (free_back t fits) ∙ kept_again (Free t)
value_again AFree d clear fits = absurd fits
value_again ASecret (Secret t) clear fits = secret_again t fits.1
value_again ASecret d clear fits = absurd fits
value_again AHandle (Handle t) clear fits = rw fits refl
value_again AHandle d clear fits = absurd fits
value_again AnAddress (Address f v) clear fits = address_again f v fits
value_again AnAddress d clear fits = absurd fits
value_again AnIdentifier (Address V4 v) clear fits = ap (λ x. x >>= identifier_with) (address_again V4 v fits)
value_again AnIdentifier d clear fits = absurd fits
value_again ANet (Net f v l) clear fits = net_again f v l fits
value_again ANet d clear fits = absurd fits
value_again ABounds (Bounds f v l lo hi) clear fits = bounds_again f v l lo hi fits
value_again ABounds d clear fits = absurd fits
value_again (Or word piece) d clear fits = by_kind (or_fits word piece d fits) (value_again piece d clear.2)
  where
    by_kind : (d ≡ Word word) ⊎ Fits piece d → (Fits piece d → value_of piece (field_text d) ≡ Some d) → value_of (Or word piece) (field_text d) ≡ Some d
    by_kind (inl e) again = subst (λ x. value_of (Or word piece) (field_text x) ≡ Some x) (sym e) (or_word word piece word (same_refl word))
    by_kind (inr f) again = or_other word piece (field_text d) (clear.1 d f) ∙ again f

-- the first break behind a text without one
first_break : (front more : List ℕ) (c : ℕ) → Unbroken front → is_break c ≡ true → position_or_len is_break (front ++ c ∷ more) ≡ length front
first_break [] more c all e = rw e refl
first_break (x ∷ xs) more c all e = rw (all.0, first_break xs more c all.1 e) (omega arith)

parted_again : (front more : List ℕ) (c : ℕ) → Unbroken front → is_break c ≡ true → parted_at (position is_break (front ++ c ∷ more)) (front ++ c ∷ more) ≡ (front, c ∷ more)
parted_again front more c all e =
    let first = first_break front more c all e in
    let long = length-append front (c ∷ more) in
    let less : position_or_len is_break (front ++ c ∷ more) < length (front ++ c ∷ more) = omega arith in
    let here : position is_break (front ++ c ∷ more) ≡ Some (length front) = rw (lt-ltb _ _ less) (ap (λ n. Some n) first) in
    ap (λ o. parted_at o (front ++ c ∷ more)) here ∙ seam
  where
    seam : ◌≡◌ {A = List ℕ × List ℕ} (take (length front) (front ++ c ∷ more), drop (length front) (front ++ c ∷ more)) (front, c ∷ more)
    seam = rw (take-append_seam front (c ∷ more), drop-append_seam front (c ∷ more)) refl

field_again : (front more : List ℕ) (c : ℕ) → Unbroken front → is_break c ≡ true → field_at (32 ∷ (front ++ c ∷ more)) ≡ Some (front, c ∷ more)
unfolding field_at
field_again front more c all e = ap (λ x. Some x) (parted_again front more c all e)

piece_again : (p : Piece) (d : Field) (c : ℕ) (more : List ℕ) → IsClear p → Fits p d → is_break c ≡ true → piece_at p (32 ∷ (field_text d ++ c ∷ more)) ≡ Some (d, c ∷ more)
piece_again p d c more clear fits e =
    ap (λ f. f >>= λ f. value_of p f.0 >>= λ field. Some (field, f.1)) (field_again (field_text d) more c (field_unbroken p d clear fits) e)
    ∙ ap (λ v. v >>= λ field. Some (field, c ∷ more)) (value_again p d clear fits)

-- what is behind a field begins with a break
pub record BeginsBroken (t : List ℕ) : Type 0 where
  pub first : ℕ
  pub others : List ℕ
  pub whole : t ≡ first ∷ others
  pub breaks : is_break first ≡ true

begins_broken : (ds : List Field) (rest : List ℕ) → BeginsBroken (spelled ds ++ rest)
begins_broken [] rest = record { first = 10; others = rest; whole = refl; breaks = refl }
begins_broken (d ∷ ds) rest = record { first = 32; others = field_text d ++ (spelled ds ++ rest); whole = sym (joined d ds rest); breaks = refl }

-- the fields of a form are read of their text
pub fields_again : (form : List Piece) (ds : List Field) (rest : List ℕ) → AllByRecursion IsClear form → AllFit form ds → fields_at form (spelled ds ++ rest) ≡ Some (ds, rest)
unfolding end_at
fields_again [] [] rest clear fits = refl
fields_again [] (d ∷ ds) rest clear fits = absurd fits
fields_again (p ∷ form) [] rest clear fits = absurd fits
fields_again (p ∷ form) (d ∷ ds) rest clear fits =
    let broken = begins_broken ds rest in
    let text : spelled (d ∷ ds) ++ rest ≡ 32 ∷ (field_text d ++ broken.first ∷ broken.others) = sym (joined d ds rest) ∙ ap (λ x. 32 ∷ (field_text d ++ x)) broken.whole in
    let first : piece_at p (spelled (d ∷ ds) ++ rest) ≡ Some (d, spelled ds ++ rest) =
    ap (piece_at p) text ∙ (piece_again p d broken.first broken.others clear.0 fits.0 broken.breaks ∙ ap (λ x. Some (d, x)) (sym broken.whole)) in
    ap (λ f. f >>= λ f. added f.0 (fields_at form f.1)) first ∙ ap (added d) (fields_again form ds rest clear.1 fits.1)

-- the forms of lines
dash_free : ¬ (IsSolid 45)
dash_free is = is.1 refl

star_free : ¬ (IsSolid 42)
star_free is = absurd (let low : 43 < 42 = is.0 in omega arith)

net_clear : (c : ℕ) → ¬ (IsSolid c) → (d : Field) → Fits ANet d → same (field_text d) (c ∷ []) ≡ false
net_clear c never (Net f v l) fits = solid_apart (field_text (Net f v l)) c (net_text f v l fits) never
net_clear c never d fits = absurd fits

address_clear : (c : ℕ) → ¬ (IsSolid c) → (d : Field) → Fits AnAddress d → same (field_text d) (c ∷ []) ≡ false
address_clear c never (Address f v) fits = solid_apart (field_text (Address f v)) c (address_text f v fits) never
address_clear c never d fits = absurd fits

number_clear : (c : ℕ) → ¬ (IsSolid c) → (d : Field) → Fits ANumber d → same (field_text d) (c ∷ []) ≡ false
number_clear c never (Number n) fits = solid_apart (decimal n) c (number_text n fits) never
number_clear c never d fits = absurd fits

router_clear : (version : Version) → AllByRecursion IsClear (router_form version)
router_clear One = (tt, (tt, (refl, (tt, (tt, (tt, (tt, (tt, (refl, tt)))))))))
router_clear Two = (tt, (tt, (refl, (tt, (tt, (tt, (tt, (tt, (refl, ((refl, address_clear 45 dash_free, tt), (tt, tt)))))))))))

pub form_clear : (version : Version) (kind : Kind) → AllByRecursion IsClear (form_of version kind)
form_clear version Sites = (tt, (tt, (tt, tt)))
form_clear version Members = (tt, (tt, (refl, (tt, (tt, tt)))))
form_clear version Contacts = (tt, (tt, (tt, (tt, (tt, tt)))))
form_clear version Keys = (tt, (refl, (tt, (tt, tt))))
form_clear version Switches = (tt, (tt, tt))
form_clear version Ports = (tt, (tt, (tt, (tt, (tt, tt)))))
form_clear version Vlans = (tt, (tt, ((refl, net_clear 45 dash_free, tt), ((refl, net_clear 45 dash_free, tt), (tt, tt)))))
form_clear version Interfaces = (tt, (tt, (tt, (tt, tt))))
form_clear version Addresses = (tt, (tt, (tt, (refl, (refl, (refl, (tt, tt)))))))
form_clear version Routers = router_clear version
form_clear version Prefixes = (tt, (tt, tt))
form_clear version Origins = (tt, (refl, (tt, tt)))
form_clear version Rules = (tt, (tt, (refl, ((refl, number_clear 42 star_free, tt), ((refl, net_clear 42 star_free, tt), (refl, tt))))))
form_clear version Bogons = (tt, tt)
form_clear version BogonAs = (tt, (tt, tt))
form_clear version Transit = (tt, tt)
form_clear version Roas = (tt, (tt, (tt, tt)))
