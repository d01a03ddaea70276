-- What is printed of a route is its text.
use Rattle.std.proofs.Common.{◌≡◌, ℕ, ◌≤◌, List, [], ◌∷◌, ◌++◌, decimal, codes, refl, arith, append_assoc}
use Rattle.std.specs.List.{AllByRecursion}
use Rattle.ixp_num.specs.declared.asn.Asn.{Asn}
use Rattle.ixp_num.specs.Forms.{IsDecimal}
use Rattle.ixp_num.specs.Printing.{addr_text, prefix_text}
use Rattle.ixp_num.proofs.PrintedTexts.{decimal_spelt}
use Rattle.ixp_num.proofs.PrintedAddresses.{addr_printed, prefix_printed}
use Rattle.ixp_num_tables.specs.Joined.{more_joined}
use Rattle.ixp_lang.specs.declared.route.Route.{Route}
use Rattle.ixp_lang.specs.Texts.{list_text, asn_text, pair_text, triple_text, route_text}
use Rattle.ixp_lang.specs.RouteTexts.{IsAsnText, IsPairText, IsTripleText, IsMoreText, IsListText, IsRouteText, AsnFits, PairFits, TripleFits, IsBounded}

spelt : (n : ℕ) → n ≤ 4294967295 → IsDecimal (decimal n) n
spelt n low = decimal_spelt n (omega arith)

asn_printed : (a : Asn) → AsnFits a → IsAsnText a (asn_text a)
asn_printed a fits = spelt a.0 fits

pair_printed : (p : ℕ × ℕ) → PairFits p → IsPairText p (pair_text p)
pair_printed p fits =
    let one = fits.0 in
    let two = fits.1 in
    (decimal p.0, decimal p.1, append_assoc (decimal p.0) (58 ∷ []) (decimal p.1), spelt p.0 (omega arith), spelt p.1 (omega arith))

triple_printed : (p : ℕ × ℕ × ℕ) → TripleFits p → IsTripleText p (triple_text p)
triple_printed p fits = (decimal p.0, decimal p.1, decimal p.2, simp append_assoc, spelt p.0 fits.0, spelt p.1 fits.1, spelt p.2 fits.2)

module _ {A : Type 0} (Is : A → List ℕ → Type 0) (Fits : A → Type 0) (text : A → List ℕ) (printed : (x : A) → Fits x → Is x (text x)) where
  more_printed : (xs : List A) → AllByRecursion Fits xs → IsMoreText Is xs (more_joined (codes ",") text xs)
  more_printed [] fits = refl
  more_printed (x ∷ xs) fits = (text x, more_joined (codes ",") text xs, refl, printed x fits.0, more_printed xs fits.1)

  list_printed : (xs : List A) → AllByRecursion Fits xs → IsListText Is xs (list_text text xs)
  list_printed [] fits = refl
  list_printed (x ∷ xs) fits = (text x, more_joined (codes ",") text xs, refl, printed x fits.0, more_printed xs fits.1)

whole_text : (net path hop pairs triples : List ℕ) → (net ++ 32 ∷ []) ++ ((((((path ++ 32 ∷ []) ++ hop) ++ 32 ∷ []) ++ pairs) ++ 32 ∷ []) ++ triples) ≡ net ++ 32 ∷ (path ++ 32 ∷ (hop ++ 32 ∷ (pairs ++ 32 ∷ triples)))
whole_text net path hop pairs triples = simp append_assoc

pub route_printed : (r : Route) → IsBounded r → IsRouteText r (route_text r)
route_printed r bounded = record {
  net = prefix_text r.net;
  path = list_text asn_text r.path;
  next_hop = addr_text r.next_hop;
  pairs = list_text pair_text r.pairs;
  triples = list_text triple_text r.triples;
  whole = whole_text (prefix_text r.net) (list_text asn_text r.path) (addr_text r.next_hop) (list_text pair_text r.pairs) (list_text triple_text r.triples);
  is_net = prefix_printed r.net;
  is_path = list_printed IsAsnText AsnFits asn_text asn_printed r.path bounded.path;
  is_next_hop = addr_printed r.next_hop;
  is_pairs = list_printed IsPairText PairFits pair_text pair_printed r.pairs bounded.pairs;
  is_triples = list_printed IsTripleText TripleFits triple_text triple_printed r.triples bounded.triples;
}
