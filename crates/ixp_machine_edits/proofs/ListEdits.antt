-- Edits of members' lists and rules, and of public lists.
use Rattle.std.proofs.Common.{◌≡◌, ◌≢◌, ℕ, suc, ◌≤◌, ◌+◌, Bool, true, false, ◌&&◌, nat_le, List, [], ◌∷◌, length, None, option_map, refl, ap, arith}
use Rattle.std.specs.List.{AllByRecursion, list_all, position}
use Rattle.std.proofs.lemmas.Bool.{and_parts}
use Rattle.ixp_num.specs.declared.asn.Asn.{Asn}
use Rattle.ixp_num.specs.declared.family.Family.{Family}
use Rattle.ixp_num.specs.declared.prefix.Prefix.{Prefix}
use Rattle.ixp_num_sorted.specs.Keys.{prefix_key, asn_key}
use Rattle.ixp_num_tables.specs.Tables.{Ascends, find, if_there}
use Rattle.ixp_num_tables.proofs.TableLaws.{all_put, all_without, Ascends-put, Ascends-without}
use Rattle.ixp_registry.specs.declared.kind.Kind.TheVariants.{Members, Prefixes, Origins, Rules, Bogons as BogonRows, BogonAs as BogonAsRows, Transit as TransitRows, Roas as RoaRows}
use Rattle.ixp_registry.specs.declared.lists.IrrList.{IrrList}
use Rattle.ixp_registry.specs.declared.lists.OriginList.{OriginList}
use Rattle.ixp_registry.specs.declared.rules.RuleList.{RuleList}
use Rattle.ixp_registry.specs.declared.registry.Registry.{Registry}
use Rattle.ixp_registry.specs.declared.refusal.Refusal.TheVariants.{BadRule}
use Rattle.ixp_registry.specs.declared.refusal.RowKey.TheVariants.{Number}
use Rattle.ixp_registry.specs.Keys.{member_key, irr_key, origins_key, rules_key}
use Rattle.ixp_registry.specs.Lookups.{has_member}
use Rattle.ixp_registry.specs.Valid.{Valid, ValidIrrList, ValidOriginList, ValidRuleList, ArePlaced}
use Rattle.ixp_registry.specs.Weight.{weight}
use Rattle.ixp_registry.specs.Widths.{IsNumber, AsnFits, RuleFits}
use Rattle.ixp_registry.specs.Words.{is_action_of, is_lawful, pattern_has_bounds, range_ascends, roa_has_bounds}
use Rattle.ixp_registry_laws.proofs.LineForms.{first_all}
use Rattle.ixp_registry_laws.proofs.Truths.{holds as true_where}
use Rattle.ixp_machine_edits.specs.declared.edit.NewRule.{NewRule}
use Rattle.ixp_registry_change.specs.declared.change.PublicList.{PublicList}
use Rattle.ixp_registry_change.specs.declared.change.PublicList.TheVariants.{Bogons, BogonAs, Transit, Roas}
use Rattle.ixp_machine_edits.specs.Edits.{NewRuleFits, IsPublicList}
use Rattle.ixp_machine_edits.specs.Tests.{first_refused}
use Rattle.ixp_machine_edits.specs.Lists.{put_unless_empty, with_prefixes, prefixes_in, put_irr_tests, with_origins, put_origins_tests, placed, with_rules, is_bad, set_rules_tests, put_public_tests}
use Rattle.ixp_registry_change.specs.Changes.{with_public}
use Rattle.ixp_machine_edits.proofs.Passing.{no_refusal, holds as allowed, unmapped, is_there, is_within, is_light}
use Rattle.ixp_machine_edits.proofs.Frames.{irr_on, origins_on, rules_on, public_on}

module _ {R X : Type 0} (key : R → List ℕ) where
  all_put_unless_empty : (P : R → Type 0) (r : R) (xs : List X) (rs : List R) → (xs ≢ [] → P r) → AllByRecursion P rs → AllByRecursion P (put_unless_empty key r xs rs)
  all_put_unless_empty P r [] rs new all = all_without key P (key r) rs all
  all_put_unless_empty P r (x ∷ xs) rs new all = all_put key P r rs (new (λ e. let bad : ⊥ = cc in bad)) all

  still_ascends : (r : R) (xs : List X) (rs : List R) → Ascends key rs → Ascends key (put_unless_empty key r xs rs)
  still_ascends r [] rs up = Ascends-without key (key r) rs up
  still_ascends r (x ∷ xs) rs up = Ascends-put key r rs up

pub irr_put : (r : Registry) (member : ℕ) (family : Family) (ps : List Prefix) → IsNumber member × Ascends prefix_key ps × AllByRecursion (λ p. p.family ≡ family) ps → Valid r → first_refused (put_irr_tests r member family ps) ≡ None
    → Valid (record r { irr = with_prefixes member family ps r.irr })
irr_put r member family ps fits s ok =
    let l : IrrList = record { member = member; family = family; prefixes = ps } in
    let after = with_prefixes member family ps r.irr in
    let t = no_refusal (put_irr_tests r member family ps) ok in
    irr_on r after
    (record {
      order = still_ascends irr_key l ps r.irr s.irr.order;
      each = all_put_unless_empty irr_key ValidIrrList l ps r.irr (λ some. record { fits = fits.0; some = some; order = fits.1; family = fits.2; few = is_within Prefixes (length ps) 300000 t.1.0 }) s.irr.each;
      members = all_put_unless_empty irr_key (λ l. has_member r.members l.member ≡ true) l ps r.irr (λ some. is_there (find member_key (member ∷ []) r.members) Members (Number member) t.0) s.irr.members;
      few = is_within Prefixes (prefixes_in after) 4000000 t.1.1.0;
    })
    (is_light (weight r.members r.interfaces r.routers after) t.1.1.1.0) s

pub origins_put : (r : Registry) (member : ℕ) (family : Family) (asns : List Asn) → IsNumber member × Ascends asn_key asns × AllByRecursion AsnFits asns → Valid r → first_refused (put_origins_tests r member family asns) ≡ None
    → Valid (record r { origins = with_origins member family asns r.origins })
origins_put r member family asns fits s ok =
    let l : OriginList = record { member = member; family = family; asns = asns } in
    let t = no_refusal (put_origins_tests r member family asns) ok in
    origins_on r (with_origins member family asns r.origins)
    (record {
      order = still_ascends origins_key l asns r.origins s.origins.order;
      each = all_put_unless_empty origins_key ValidOriginList l asns r.origins (λ some. record { fits = (fits.0, fits.2); some = some; order = fits.1; few = is_within Origins (length asns) 300000 t.1.0 }) s.origins.each;
      members = all_put_unless_empty origins_key (λ l. has_member r.members l.member ≡ true) l asns r.origins (λ some. is_there (find member_key (member ∷ []) r.members) Members (Number member) t.0) s.origins.members;
    }) s

-- rules with their places
placed_length : (member n : ℕ) (xs : List NewRule) → length (placed member n xs) ≡ length xs
placed_length member n [] = refl
placed_length member n (x ∷ xs) = ap suc (placed_length member (suc n) xs)

placed_some : (member n : ℕ) (xs : List NewRule) → xs ≢ [] → placed member n xs ≢ []
placed_some member n [] some = absurd (some refl)
placed_some member n (x ∷ xs) some = λ e. let bad : ⊥ = cc in bad

placed_members : (member n : ℕ) (xs : List NewRule) → AllByRecursion (λ x. x.member ≡ member) (placed member n xs)
placed_members member n [] = tt
placed_members member n (x ∷ xs) = (refl, placed_members member (suc n) xs)

placed_places : (member n : ℕ) (xs : List NewRule) → ArePlaced n (placed member n xs)
placed_places member n [] = tt
placed_places member n (x ∷ xs) = (refl, placed_places member (suc n) xs)

placed_lawful : (member n : ℕ) (xs : List NewRule) → AllByRecursion (λ x. is_bad x ≡ false) xs → AllByRecursion (λ x. is_lawful x ≡ true) (placed member n xs)
placed_lawful member n [] all = tt
placed_lawful member n (x ∷ xs) all = (true_where (is_action_of x.way x.action && if_there x.peer true (λ p. nat_le 1 p.0)) all.0, placed_lawful member (suc n) xs all.1)

placed_fit : (member n : ℕ) (xs : List NewRule) → IsNumber member → n + length xs ≤ 65 → AllByRecursion NewRuleFits xs → AllByRecursion RuleFits (placed member n xs)
placed_fit member n [] fits few all = tt
placed_fit member n (x ∷ xs) fits few all = ((fits, place_fits, all.0), placed_fit member (suc n) xs fits (omega (arith, few)) all.1) where
  place_fits : IsNumber n
  place_fits = omega (arith, few)

pub rules_set : (r : Registry) (member : ℕ) (xs : List NewRule) → IsNumber member × AllByRecursion NewRuleFits xs → Valid r → first_refused (set_rules_tests r member xs) ≡ None → Valid (record r { rules = with_rules member xs r.rules })
rules_set r member xs fits s ok =
    let l : RuleList = record { member = member; rules = placed member 1 xs } in
    let t = no_refusal (set_rules_tests r member xs) ok in
    let good = first_all 0 is_bad xs (ap (option_map (λ i. 0 + i)) (unmapped (λ i. BadRule (i + 1)) (position is_bad xs) t.1.0)) in
    let few = is_within Rules (length xs) 64 t.1.1.0 in
    let count = placed_length member 1 xs in
    rules_on r (with_rules member xs r.rules)
    (record {
      order = still_ascends rules_key l xs r.rules s.rules.order;
      each = all_put_unless_empty rules_key ValidRuleList l xs r.rules
          (λ some. record {
            fits = (fits.0, placed_fit member 1 xs fits.0 (omega (arith, few)) fits.1);
            some = placed_some member 1 xs some;
            member = placed_members member 1 xs;
            places = placed_places member 1 xs;
            lawful = placed_lawful member 1 xs good;
            few = omega (arith, few, count);
          }) s.rules.each;
      members = all_put_unless_empty rules_key (λ l. has_member r.members l.member ≡ true) l xs r.rules (λ some. is_there (find member_key (member ∷ []) r.members) Members (Number member) t.0) s.rules.members;
    }) s

all_pass : {X : Type 0} (p : X → Bool) (xs : List X) → list_all p xs ≡ true → AllByRecursion (λ x. p x ≡ true) xs
all_pass p [] e = tt
all_pass p (x ∷ xs) e = let both = and_parts (p x) (list_all p xs) e in (both.0, all_pass p xs both.1)

pub public_put : (r : Registry) (list : PublicList) → IsPublicList list → Valid r → first_refused (put_public_tests list) ≡ None → Valid (record r { public = with_public list r.public })
public_put r (Bogons xs) fits s ok =
    let p = s.public in
    let t = no_refusal (put_public_tests (Bogons xs)) ok in
    public_on r (with_public (Bogons xs) r.public)
    (record {
      bogons = fits;
      bogon_as = p.bogon_as;
      transit = p.transit;
      roas = p.roas;
      fits = p.fits;
      patterns = all_pass pattern_has_bounds xs (allowed (list_all pattern_has_bounds xs) (BadRule 0) t.0);
      ranges = p.ranges;
      lengths = p.lengths;
      few = (is_within BogonRows (length xs) 10000 t.1.0, p.few.1, p.few.2, p.few.3);
    }) s
public_put r (BogonAs xs) fits s ok =
    let p = s.public in
    let t = no_refusal (put_public_tests (BogonAs xs)) ok in
    public_on r (with_public (BogonAs xs) r.public)
    (record {
      bogons = p.bogons;
      bogon_as = fits.0;
      transit = p.transit;
      roas = p.roas;
      fits = (fits.1, p.fits.1, p.fits.2);
      patterns = p.patterns;
      ranges = all_pass range_ascends xs (allowed (list_all range_ascends xs) (BadRule 0) t.0);
      lengths = p.lengths;
      few = (p.few.0, is_within BogonAsRows (length xs) 10000 t.1.0, p.few.2, p.few.3);
    }) s
public_put r (Transit xs) fits s ok =
    let p = s.public in
    let t = no_refusal (put_public_tests (Transit xs)) ok in
    public_on r (with_public (Transit xs) r.public)
    (record {
      bogons = p.bogons;
      bogon_as = p.bogon_as;
      transit = fits.0;
      roas = p.roas;
      fits = (p.fits.0, fits.1, p.fits.2);
      patterns = p.patterns;
      ranges = p.ranges;
      lengths = p.lengths;
      few = (p.few.0, p.few.1, is_within TransitRows (length xs) 10000 t.0, p.few.3);
    }) s
public_put r (Roas xs) fits s ok =
    let p = s.public in
    let t = no_refusal (put_public_tests (Roas xs)) ok in
    public_on r (with_public (Roas xs) r.public)
    (record {
      bogons = p.bogons;
      bogon_as = p.bogon_as;
      transit = p.transit;
      roas = fits.0;
      fits = (p.fits.0, p.fits.1, fits.1);
      patterns = p.patterns;
      ranges = p.ranges;
      lengths = all_pass roa_has_bounds xs (allowed (list_all roa_has_bounds xs) (BadRule 0) t.0);
      few = (p.few.0, p.few.1, p.few.2, is_within RoaRows (length xs) 1000000 t.1.0);
    }) s
