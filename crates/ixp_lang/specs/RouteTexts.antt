-- Which texts spell a route.
use Rattle.std.specs.Prelude.{◌≡◌, ◌<◌, ◌≤◌, ◌⊎◌, ℕ, List, [], ◌∷◌, ◌++◌, length, codes, Ok}
use Rattle.std.specs.List.{AllByRecursion}
use Rattle.ixp_num.specs.declared.asn.Asn.{Asn}
use Rattle.ixp_num.specs.Forms.{IsDecimal, Begins, StopsAt}
use Rattle.ixp_num.specs.Answers.{AddrAnswer, PrefixAnswer}
use Rattle.ixp_lang.specs.declared.route.Route.{Route}

-- an AS number (RFC 5396, asplain)
abbrev pub IsAsnText : Asn → List ℕ → Type 0
IsAsnText a t = IsDecimal t a.0

-- `a:b`
abbrev pub IsPairText : ℕ × ℕ → List ℕ → Type 0
IsPairText p t = (a b : List ℕ) × (t ≡ a ++ 58 ∷ b) × IsDecimal a p.0 × IsDecimal b p.1

-- `a:b:c`
abbrev pub IsTripleText : ℕ × ℕ × ℕ → List ℕ → Type 0
IsTripleText p t = (a b c : List ℕ) × (t ≡ a ++ 58 ∷ (b ++ 58 ∷ c)) × IsDecimal a p.0 × IsDecimal b p.1
    × IsDecimal c p.2

module _ {A : Type 0} (Is : A → List ℕ → Type 0) where
  -- items, each behind a comma
  abbrev pub IsMoreText : List A → List ℕ → Type 0
  IsMoreText [] t = t ≡ []
  IsMoreText (x ∷ xs) t = (item rest : List ℕ) × (t ≡ 44 ∷ (item ++ rest)) × Is x item × IsMoreText xs rest

  -- items with commas between them, or `-` where there is none
  abbrev pub IsListText : List A → List ℕ → Type 0
  IsListText [] t = t ≡ codes "-"
  IsListText (x ∷ xs) t = (item rest : List ℕ) × (t ≡ item ++ rest) × Is x item × IsMoreText xs rest

-- five fields with single blanks; net and next hop stand in any spelling of RFC 4291
pub record IsRouteText (r : Route) (t : List ℕ) : Type 0 where
  pub net : List ℕ
  pub path : List ℕ
  pub next_hop : List ℕ
  pub pairs : List ℕ
  pub triples : List ℕ
  pub whole : t ≡ net ++ 32 ∷ (path ++ 32 ∷ (next_hop ++ 32 ∷ (pairs ++ 32 ∷ triples)))
  pub is_net : PrefixAnswer net (Ok r.net)
  pub is_path : IsListText IsAsnText r.path path
  pub is_next_hop : AddrAnswer next_hop (Ok r.next_hop)
  pub is_pairs : IsListText IsPairText r.pairs pairs
  pub is_triples : IsListText IsTripleText r.triples triples

-- numbers of 32 bits, and of 16 in communities
abbrev pub AsnFits : Asn → Type 0
AsnFits a = a.0 ≤ 4294967295

abbrev pub PairFits : ℕ × ℕ → Type 0
PairFits p = (p.0 ≤ 65535) × (p.1 ≤ 65535)

abbrev pub TripleFits : ℕ × ℕ × ℕ → Type 0
TripleFits p = (p.0 ≤ 4294967295) × (p.1 ≤ 4294967295) × (p.2 ≤ 4294967295)

-- every number is within its bound, and no list has more than 1,000 items
pub record IsBounded (r : Route) : Type 0 where
  pub path : AllByRecursion AsnFits r.path
  pub pairs : AllByRecursion PairFits r.pairs
  pub triples : AllByRecursion TripleFits r.triples
  pub path_length : length r.path ≤ 1000
  pub pairs_length : length r.pairs ≤ 1000
  pub triples_length : length r.triples ≤ 1000

-- the text but for its last `left` bytes is the beginning of a list
abbrev pub BeginsList : {A : Type 0} → (A → List ℕ → Type 0) → (A → Type 0) → List ℕ → ℕ → Type 0
BeginsList {A} Is Fits t left =
    (front rest more : List ℕ) × (xs : List A) × (t ≡ front ++ rest) × (length rest ≡ left)
    × IsListText Is xs (front ++ more) × AllByRecursion Fits xs

-- a text of a list whose numbers are within their bounds
abbrev pub IsBoundedList : {A : Type 0} → (A → List ℕ → Type 0) → (A → Type 0) → List ℕ → Type 0
IsBoundedList {A} Is Fits t = (xs : List A) × IsListText Is xs t × AllByRecursion Fits xs

-- such a text, a blank, and what follows it
abbrev pub IsFieldText : (List ℕ → Type 0) → List ℕ → Type 0
IsFieldText L t = (field rest : List ℕ) × (t ≡ field ++ 32 ∷ rest) × L field

-- at the place stands a number above the bound: some text of L goes on to it, and none goes on with it
pub record ExceedsAt (L : List ℕ → Type 0) (bound : ℕ) (t : List ℕ) (place : ℕ) : Type 0 where
  pub front : List ℕ
  pub number : List ℕ
  pub rest : List ℕ
  pub value : ℕ
  pub whole : t ≡ front ++ (number ++ rest)
  pub here : length front ≡ place
  pub is_number : IsDecimal number value
  pub above : bound < value
  pub begins : Begins L front
  pub no_more : ¬ (Begins L (front ++ number))

-- the place of the first byte with which no text of L goes on, or of the first byte of a number above the
-- bound
abbrev pub HaltsAt : (List ℕ → Type 0) → ℕ → List ℕ → ℕ → Type 0
HaltsAt L bound t place = StopsAt L t place ⊎ ExceedsAt L bound t place

-- the bytes end with this one
abbrev pub EndsIn : ℕ → List ℕ → Type 0
EndsIn b bytes = (front : List ℕ) × (bytes ≡ front ++ b ∷ [])

abbrev pub BeginsIn : ℕ → List ℕ → Type 0
BeginsIn b bytes = (rest : List ℕ) × (bytes ≡ b ∷ rest)

-- At the place of the bytes stands a number that no address has, whatever follows it: one above 255 beside a
-- dot, or one above `bits` behind a slash.
pub record NumberAbove (bits : ℕ) (bytes : List ℕ) (place : ℕ) : Type 0 where
  pub before : List ℕ
  pub number : List ℕ
  pub behind : List ℕ
  pub value : ℕ
  pub whole : bytes ≡ before ++ (number ++ behind)
  pub here : length before ≡ place
  pub is_number : IsDecimal number value
  pub above : ((255 < value) × (EndsIn 46 before ⊎ BeginsIn 46 behind)) ⊎ ((bits < value) × EndsIn 47 before)

-- the text but for its last `left` bytes is a list of 1,000 items and a comma, and what is left begins as an
-- item does
abbrev pub IsLongList : {A : Type 0} → (A → List ℕ → Type 0) → (A → Type 0) → List ℕ → ℕ → Type 0
IsLongList {A} Is Fits t left =
    (front rest : List ℕ) × (xs : List A) × (t ≡ front ++ 44 ∷ rest) × (length rest ≡ left)
    × IsListText Is xs front × AllByRecursion Fits xs × (length xs ≡ 1000)
    × (c : ℕ) × (cs more : List ℕ) × (x : A) × (rest ≡ c ∷ cs) × Is x (c ∷ more) × Fits x
