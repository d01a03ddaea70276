-- Rows in order, their links, and what is known on the way up.
use Rattle.std.proofs.Common.{◌≡◌, ◌≤◌, ◌<◌, ◌+◌, ◌⊎◌, inl, inr, ℕ, suc, Bool, true, false, cond, List, ◌&&◌, ◌||◌, ◌==◌, nat_le, not, length, get_or, refl, sym, ap, ◌∙◌, subst, arith}
use Rattle.std.specs.List.{list_any}
use Rattle.std.specs.List.Sorted.{IsPartitionedBy, IsPartitionPoint}
use Rattle.std.proofs.lemmas.Bool.{and_parts, cases_lt, both_ways}
use Rattle.std.proofs.lemmas.List.{get_or_default}
use Rattle.std.proofs.lemmas.List.Folds.{list_any_at, list_any_none}
use Rattle.ixp_num.specs.Prefixes.{covers}
use Rattle.ixp_num.specs.Roas.{is_covered, is_matched, validity}
use Rattle.ixp_num.specs.declared.prefix.Prefix.{Prefix}
use Rattle.ixp_num.specs.declared.roa.Roa.{Roa}
use Rattle.ixp_num.specs.declared.roa.Validity.TheVariants.{Valid, Invalid, Unknown}
use Rattle.ixp_roa.specs.Climbs.{AreInOrder, AreLinked, IsPlace, NoneFrom, StandsAt, is_match, is_upto}
use Rattle.ixp_roa.proofs.Between.{IsBefore, between, rows_before, upto_back, upto_covering}

-- rows at places

pub stands : (rows : List Roa) (i : ℕ) (d : Roa) → i < length rows → StandsAt rows i (get_or rows i d)
stands rows i d less = (less, get_or_default rows i d (get_or rows i d) less)

pub one_row : (rows : List Roa) (i : ℕ) (r s : Roa) → StandsAt rows i r → StandsAt rows i s → r ≡ s
one_row rows i r s here there = here.1 ∙ (get_or_default rows i r s here.0 ∙ sym there.1)

pub before_at : (rows : List Roa) (i j : ℕ) (d : Roa) → AreInOrder rows → i < j → j < length rows → IsBefore (get_or rows i d).prefix (get_or rows j d).prefix
before_at rows i j d up less short = rows_before (get_or rows i d) (get_or rows j d) (up i j d (omega arith) short)

pub before : (rows : List Roa) (i j : ℕ) (r s : Roa) → AreInOrder rows → i < j → StandsAt rows i r → StandsAt rows j s → IsBefore r.prefix s.prefix
before rows i j r s up less here there =
    let same : get_or rows i s ≡ r = get_or_default rows i s r here.0 ∙ sym here.1 in
    subst (λ (x : Roa). IsBefore r.prefix x.prefix) (sym there.1) (subst (λ (x : Roa). IsBefore x.prefix (get_or rows j s).prefix) same (before_at rows i j s up less there.0))

-- the place of a net

pub partitioned : (rows : List Roa) (net : Prefix) → AreInOrder rows → IsPartitionedBy (λ r. is_upto r.prefix net) rows
partitioned rows net up i j d le less upto = by (cases_lt i j) where
  by : (i < j) ⊎ (j ≤ i) → is_upto (get_or rows i d).prefix net ≡ true
  by (inl lt) = upto_back (get_or rows i d).prefix (get_or rows j d).prefix net (before_at rows i j d up lt less) upto
  by (inr ge) = let same : j ≡ i = omega arith in subst (λ k. is_upto (get_or rows k d).prefix net ≡ true) same upto

pub placed : (rows : List Roa) (net : Prefix) (n : ℕ) → n ≤ length rows → IsPartitionPoint (λ r. is_upto r.prefix net ≡ true) (λ r. is_upto r.prefix net ≡ false) rows n → IsPlace rows net n
placed rows net n within parts = (
  within,
  λ j s here less. subst (λ (x : Roa). is_upto x.prefix net ≡ true) (sym here.1) (parts.0 j s (omega arith) less),
  λ j s here le. subst (λ (x : Roa). is_upto x.prefix net ≡ false) (sym here.1) (parts.1 j s le here.0),
)

-- one step up

-- a row before this one that covers the net stands before its link
pub step : (rows : List Roa) (links : List ℕ) (net : Prefix) (i link : ℕ) (r : Roa) → AreInOrder rows → NoneFrom rows r.prefix link i → StandsAt rows i r → is_upto r.prefix net ≡ true
    → (j : ℕ) (s : Roa) → StandsAt rows j s → j < i → covers s.prefix net ≡ true → j < link
step rows links net i link r up none here upto j s there less over =
    none j s there less (between s.prefix r.prefix net (before rows j i s r up less there here) upto over)

pub none_after : (rows : List Roa) (links : List ℕ) (net : Prefix) (at end i link : ℕ) (r : Roa) → at ≡ suc i → AreInOrder rows → NoneFrom rows r.prefix link i → StandsAt rows i r → is_upto r.prefix net ≡ true
    → covers r.prefix net ≡ false → NoneFrom rows net at end → NoneFrom rows net link end
none_after rows links net at end i link r is up none here upto apart so_far j s there less over = by (cases_lt j i) where
  by : (j < i) ⊎ (i ≤ j) → j < link
  by (inl lt) = step rows links net i link r up none here upto j s there lt over
  by (inr ge) =
      let below : j < at = so_far j s there less over in
      let same : j ≡ i = omega arith in
      let one : s ≡ r = one_row rows i s r (subst (λ k. StandsAt rows k s) same there) here in
      absurd (both_ways (covers r.prefix net) apart (subst (λ (x : Roa). covers x.prefix net ≡ true) one over))

-- links that were found so far, with one more
pub more_links : (rows : List Roa) (links : List ℕ) (link : ℕ) (row : Roa) (more : List ℕ) → AreLinked rows links → StandsAt rows (length links) row → link ≤ length links → NoneFrom rows row.prefix link (length links)
    → length more ≡ length links + 1 → ((i : ℕ) → i < length links → get_or more i 0 ≡ get_or links i 0) → get_or more (length links) 0 ≡ link → AreLinked rows more
more_links rows links link row more linked here low none size same last =
    (let less = here.0 in omega arith, λ i r short there. by i r short there (cases_lt i (length links))) where
      by : (i : ℕ) (r : Roa) → i < length more → StandsAt rows i r → (i < length links) ⊎ (length links ≤ i) → (get_or more i 0 ≤ i) × NoneFrom rows r.prefix (get_or more i 0) i
      by i r short there (inl lt) = subst (λ k. (k ≤ i) × NoneFrom rows r.prefix k i) (sym (same i lt)) (linked.1 i r lt there)
      by i r short there (inr ge) =
          let at : i ≡ length links = omega arith in
          let one : row ≡ r = one_row rows (length links) row r here (subst (λ k. StandsAt rows k r) at there) in
          let value : get_or more i 0 ≡ link = ap (λ k. get_or more k 0) at ∙ last in
          let new : (link ≤ i) × NoneFrom rows r.prefix link i = (omega arith, subst (λ k. NoneFrom rows r.prefix link k) (sym at) (subst (λ (x : Roa). NoneFrom rows x.prefix link (length links)) one none)) in
          subst (λ k. (k ≤ i) × NoneFrom rows r.prefix k i) (sym value) new

-- the way up

-- Of the rows that cover the net those from this place on were met: there was one if `covered` says so, and none matches.
pub record IsUpTo (rows : List Roa) (net : Prefix) (origin at : ℕ) (covered : Bool) : Type 0 where
  pub within : at ≤ length rows
  pub upto : (j : ℕ) (s : Roa) → StandsAt rows j s → j < at → is_upto s.prefix net ≡ true
  pub met : (j : ℕ) (s : Roa) → StandsAt rows j s → at ≤ j → covers s.prefix net ≡ true → (covered ≡ true) × (is_match s net origin ≡ false)
  pub some : covered ≡ true → is_covered rows net ≡ true

pub starts : (rows : List Roa) (net : Prefix) (origin n : ℕ) → IsPlace rows net n → IsUpTo rows net origin n false
starts rows net origin n place = record {
  within = place.0;
  upto = place.1;
  met = λ j s here le over. absurd (both_ways (is_upto s.prefix net) (place.2 j s here le) (upto_covering s.prefix net over));
  some = λ e. absurd (let h : ⊥ = cc in h);
}

or_true : (a b : Bool) → a ≡ true → (a || b) ≡ true
or_true true b e = refl
or_true false b e = absurd (let h : ⊥ = cc in h)

true_or : (a b : Bool) → b ≡ true → (a || b) ≡ true
true_or true b e = refl
true_or false b e = e

or_cases : (a b : Bool) → (a || b) ≡ true → (a ≡ true) ⊎ (b ≡ true)
or_cases true b e = inl refl
or_cases false b e = inr e

pub goes_on : (rows : List Roa) (links : List ℕ) (net : Prefix) (origin at i link : ℕ) (r : Roa) (covered : Bool) → at ≡ suc i → AreInOrder rows → link ≤ i → NoneFrom rows r.prefix link i → StandsAt rows i r
    → is_match r net origin ≡ false → IsUpTo rows net origin at covered → IsUpTo rows net origin link (covered || covers r.prefix net)
goes_on rows links net origin at i link r covered is up low none here apart so_far = record {
  within = let a = so_far.within in omega arith;
  upto = λ j s there less. so_far.upto j s there (omega arith);
  met = λ j s there le over. by j s there le over (cases_lt j i);
  some = λ e. seen (or_cases covered (covers r.prefix net) e);
} where
  upto_net : is_upto r.prefix net ≡ true
  upto_net = so_far.upto i r here (omega arith)

  seen : (covered ≡ true) ⊎ (covers r.prefix net ≡ true) → is_covered rows net ≡ true
  seen (inl before_) = so_far.some before_
  seen (inr now) = list_any_at (λ x. covers x.prefix net) rows i r here.0 (subst (λ (x : Roa). covers x.prefix net ≡ true) here.1 now)

  by : (j : ℕ) (s : Roa) → StandsAt rows j s → link ≤ j → covers s.prefix net ≡ true → (j < i) ⊎ (i ≤ j) → ((covered || covers r.prefix net) ≡ true) × (is_match s net origin ≡ false)
  by j s there le over (inl lt) = absurd (let less : j < link = step rows links net i link r up none here upto_net j s there lt over in let h : ⊥ = omega arith in h)
  by j s there le over (inr ge) = at_or_after (cases_lt i j) where
    at_or_after : (i < j) ⊎ (j ≤ i) → ((covered || covers r.prefix net) ≡ true) × (is_match s net origin ≡ false)
    at_or_after (inl lt) =
        let both = so_far.met j s there (omega arith) over in
        (or_true covered (covers r.prefix net) both.0, both.1)
    at_or_after (inr le) =
        let same : j ≡ i = omega arith in
        let one : s ≡ r = one_row rows i s r (subst (λ k. StandsAt rows k s) same there) here in
        (true_or covered (covers r.prefix net) (subst (λ (x : Roa). covers x.prefix net ≡ true) one over), subst (λ x. is_match x net origin ≡ false) (sym one) apart)

pub valid_at : (rows : List Roa) (net : Prefix) (origin i : ℕ) (r : Roa) → StandsAt rows i r → is_match r net origin ≡ true → Valid ≡ validity rows net origin
valid_at rows net origin i r here matches =
    let found : is_matched rows net origin ≡ true = list_any_at (λ x. is_match x net origin) rows i r here.0 (subst (λ x. is_match x net origin ≡ true) here.1 matches) in
    sym (ap (λ b. cond b Valid (cond (is_covered rows net) Invalid Unknown)) found)

covers_match : (r : Roa) (net : Prefix) (origin : ℕ) → is_match r net origin ≡ true → covers r.prefix net ≡ true
covers_match r net origin e =
    let one = and_parts (covers r.prefix net && nat_le net.len r.max && r.asn.0 == origin) (not (origin == 0)) e in
    let two = and_parts (covers r.prefix net && nat_le net.len r.max) (r.asn.0 == origin) one.0 in
    (and_parts (covers r.prefix net) (nat_le net.len r.max) two.0).0

none_of : (test : Roa → Bool) (rows : List Roa) → ((j : ℕ) (s : Roa) → StandsAt rows j s → test s ≡ false) → list_any test rows ≡ false
none_of test rows each = list_any_none test rows (λ k d less. each k (get_or rows k d) (stands rows k d less))

false_unless : (b : Bool) → (b ≡ true → ⊥) → b ≡ false
false_unless true no_ = absurd (no_ refl)
false_unless false no_ = refl

-- at the top
pub ends : (rows : List Roa) (net : Prefix) (origin : ℕ) (covered : Bool) → IsUpTo rows net origin 0 covered → cond covered Invalid Unknown ≡ validity rows net origin
ends rows net origin covered so_far =
    ap (λ b. cond b Invalid Unknown) same ∙ sym (ap (λ b. cond b Valid (cond (is_covered rows net) Invalid Unknown)) unmatched) where
      unmatched : is_matched rows net origin ≡ false
      unmatched = none_of (λ x. is_match x net origin) rows
          (λ j s here. false_unless (is_match s net origin) (λ e. both_ways (is_match s net origin) (so_far.met j s here (omega arith) (covers_match s net origin e)).1 e))

      by : (c : Bool) → covered ≡ c → c ≡ is_covered rows net
      by true e = sym (so_far.some e)
      by false e = sym (none_of (λ x. covers x.prefix net) rows
          (λ j s here. false_unless (covers s.prefix net) (λ over. both_ways covered e (so_far.met j s here (omega arith) over).0)))

      same : covered ≡ is_covered rows net
      same = by covered refl
