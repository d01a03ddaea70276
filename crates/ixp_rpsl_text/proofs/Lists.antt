-- The texts of AS numbers and of prefixes are lists.
use Rattle.std.proofs.Common.{◌≡◌, ◌+◌, ◌<◌, ◌≤◌, ◌++◌, ◌&&◌, ◌⊎◌, inl, inr, ℕ, zero, suc, Bool, true, false, List, [], ◌∷◌, Ok, decimal, map, length, length-append, refl, sym, ap, ◌∙◌, subst, arith, if◌then◌else◌}
use Rattle.std.specs.List.{AllByRecursion, Contains}
use Rattle.std.proofs.lemmas.Bool.{and_parts}
use Rattle.ixp_num.specs.declared.asn.Asn.{Asn}
use Rattle.ixp_num.specs.declared.family.Family.{Family}
use Rattle.ixp_num.specs.declared.family.Family.TheVariants.{V4, V6}
use Rattle.ixp_num.specs.declared.prefix.Prefix.{Prefix}
use Rattle.ixp_num.specs.Families.{same_family}
use Rattle.ixp_num.specs.Printing.{prefix_text, value_text}
use Rattle.ixp_num.proofs.PrintedAddresses.{asn_printed, prefix_printed}
use Rattle.ixp_num_tables.specs.Tables.{Ascends}
use Rattle.ixp_num_sorted.specs.Keys.{asn_key, prefix_key}
use Rattle.ixp_num_sorted.specs.Sorted.{IsInOrder}
use Rattle.ixp_irr.specs.Items.{IsAsnText, Says, SaysPrefixOf}
use Rattle.ixp_irr.specs.Lists.{AreItems, ListAnswer}
use Rattle.ixp_rpsl.specs.Origins.{is_origin, origins_in, prefixes_in}
use Rattle.ixp_rpsl.specs.declared.objects.Objects.{Objects}
use Rattle.ixp_rpsl.specs.declared.objects.Reach.{Reach}
use Rattle.ixp_rpsl.proofs.Numbers.{Fits, read_origins_fit}
use Rattle.ixp_rpsl_text.specs.declared.listing.Listing.TheVariants.{Origins, Prefixes}
use Rattle.ixp_rpsl_text.specs.Listings.{Expands, IsExpanded, OriginsAnswer, PrefixesAnswer}
use Rattle.ixp_rpsl_text.specs.Texts.{asn_line, origins_text, prefixes_text}
use Rattle.ixp_rpsl_text.proofs.HighTexts.{IsHigh, asn_high, prefix_high}
use Rattle.ixp_rpsl_text.proofs.Listed.{IsLine, lines_counted}

module _ {A : Type 0} (P : A → Type 0) where
  later : (y x : A) (xs : List A) → Contains xs x → Contains (y ∷ xs) x
  later y x xs (k, inside, is) = (suc k, omega arith, is)

  all_contained : (xs : List A) → ((x : A) → Contains xs x → P x) → AllByRecursion P xs
  all_contained [] each = tt
  all_contained (x ∷ xs) each = (each x (0, omega arith, refl), all_contained xs (λ y there. each y (later x y xs there)))

  contained : (xs : List A) (x : A) → AllByRecursion P xs → Contains xs x → P x
  contained [] x all (k, inside, is) = absurd (let h : ⊥ = omega arith in h)
  contained (y ∷ ys) x all (zero, inside, is) = subst P is all.0
  contained (y ∷ ys) x all (suc k, inside, is) = contained ys x all.1 (k, omega arith, is)

  -- what holds of items holds of them in order
  in_order : (key : A → List ℕ) (items sorted : List A) → IsInOrder key items sorted → AllByRecursion P items → AllByRecursion P sorted
  in_order key items sorted is all = all_contained sorted (λ x there. contained items x all (is.adds_none x there))

all_as : {A : Type 0} (P Q : A → Type 0) (xs : List A) → ((x : A) → P x → Q x) → AllByRecursion P xs → AllByRecursion Q xs
all_as P Q [] f all = tt
all_as P Q (x ∷ xs) f all = (f x all.0, all_as P Q xs f all.1)

any : {A : Type 0} (P : A → Type 0) (xs : List A) → ((x : A) → P x) → AllByRecursion P xs
any P [] f = tt
any P (x ∷ xs) f = (f x, any P xs f)

asn_says : (a : Asn) → Fits a → Says IsAsnText (asn_line a) (Ok a)
asn_says a fits = inr (decimal a.0, refl, asn_printed a.0 fits)

asn_items : (list : List Asn) → AllByRecursion Fits list → AreItems (Says IsAsnText) (map asn_line list) list
asn_items [] fit = tt
asn_items (a ∷ list) fit = (asn_says a fit.0, asn_items list fit.1)

asn_is_line : (a : Asn) → Fits a → IsLine asn_line a
asn_is_line a fits = (asn_high a fits, (let h : 0 < length (asn_line a) = omega arith in h))

itself : {A : Type 0} (key : A → List ℕ) (list : List A) → Ascends key list → IsInOrder key list list
itself key list ascends = record { ascends = ascends; keeps = λ x there. there; adds_none = λ x there. there }

origins_listed : (list : List Asn) → AllByRecursion Fits list → Ascends asn_key list → length list ≤ 300000 → ListAnswer (Says IsAsnText) asn_key (origins_text list) (Ok list)
origins_listed list fit ascends few = (
  list,
  subst (λ ls. AreItems (Says IsAsnText) ls list) (sym (lines_counted asn_line list (all_as Fits (IsLine asn_line) list asn_is_line fit))) (asn_items list fit),
  itself asn_key list ascends,
  few,
)

prefix_some : (p : Prefix) → 0 < length (prefix_text p)
prefix_some p = let sum = length-append (value_text p.family p.value) (47 ∷ decimal p.len) in omega arith

prefix_line : (p : Prefix) → IsLine prefix_text p
prefix_line p = (prefix_high p, prefix_some p)

prefix_items : (family : Family) (list : List Prefix) → AllByRecursion (λ p. p.family ≡ family) list → AreItems (SaysPrefixOf family) (map prefix_text list) list
prefix_items family [] same = tt
prefix_items family (p ∷ list) same = ((prefix_printed p, same.0), prefix_items family list same.1)

prefixes_listed : (family : Family) (list : List Prefix) → AllByRecursion (λ p. p.family ≡ family) list → Ascends prefix_key list → length list ≤ 300000
    → ListAnswer (SaysPrefixOf family) prefix_key (prefixes_text list) (Ok list)
prefixes_listed family list same ascends few = (
  list,
  subst (λ ls. AreItems (SaysPrefixOf family) ls list) (sym (lines_counted prefix_text list (any (IsLine prefix_text) list prefix_line))) (prefix_items family list same),
  itself prefix_key list ascends,
  few,
)

family_is : (f g : Family) → same_family f g ≡ true → f ≡ g
family_is V4 V4 e = refl
family_is V6 V6 e = refl
family_is V4 V6 e = absurd (let h : ⊥ = cc in h)
family_is V6 V4 e = absurd (let h : ⊥ = cc in h)

of_family : (routes : List (Prefix × Asn)) (origins : List Asn) (family : Family) → AllByRecursion (λ p. p.family ≡ family) (prefixes_in routes origins family)
of_family [] origins family = tt
of_family (r ∷ routes) origins family = by (same_family r.0.family family && is_origin origins r.1) refl (of_family routes origins family) where
  by : (x : Bool) → (same_family r.0.family family && is_origin origins r.1) ≡ x → AllByRecursion (λ p. p.family ≡ family) (prefixes_in routes origins family)
      → AllByRecursion (λ p. p.family ≡ family) (if x then r.0 ∷ prefixes_in routes origins family else prefixes_in routes origins family)
  by true e rest = (family_is r.0.family family (and_parts (same_family r.0.family family) (is_origin origins r.1) e).0, rest)
  by false e rest = rest

module _ (input root text : List ℕ) (family : Family) where
  pub origins_are_listed : Expands input root family Origins text
      → (o : Objects) × (c : List Reach) × (list : List Asn) × IsExpanded input root o c × OriginsAnswer o c (Ok list) × ListAnswer (Says IsAsnText) asn_key text (Ok list)
  origins_are_listed (o, c, here, (list, are, e)) =
      let order = are.0 in
      let fit = in_order Fits asn_key (origins_in o.sets c) list order (read_origins_fit input o c here.0) in
      (o, c, list, here, are, subst (λ t. ListAnswer (Says IsAsnText) asn_key t (Ok list)) (sym e) (origins_listed list fit order.ascends are.1))

  pub prefixes_are_listed : Expands input root family Prefixes text
      → (o : Objects) × (c : List Reach) × (origins : List Asn) × (list : List Prefix) × IsExpanded input root o c × OriginsAnswer o c (Ok origins) × PrefixesAnswer o family origins (Ok list)
      × ListAnswer (SaysPrefixOf family) prefix_key text (Ok list)
  prefixes_are_listed (o, c, here, (origins, are, list, nets, e)) =
      let order = nets.0 in
      let same = in_order (λ p. p.family ≡ family) prefix_key (prefixes_in o.routes origins family) list order (of_family o.routes origins family) in
      (o, c, origins, list, here, are, nets, subst (λ t. ListAnswer (SaysPrefixOf family) prefix_key t (Ok list)) (sym e) (prefixes_listed family list same order.ascends nets.1))
