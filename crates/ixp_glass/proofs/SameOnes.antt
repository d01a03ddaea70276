-- The comparisons tell values apart.
use Rattle.std.proofs.Common.{◌≡◌, ◌<◌, ◌^◌, ℕ, Bool, ◌&&◌, ◌==◌, List, refl, ap, subst, ◌∙◌}
use Rattle.std.proofs.Math.Bridge.{le_prop}
use Rattle.std.specs.Bool.{Decides}
use Rattle.std.specs.Cmp.Lexicographic.{pointwise}
use Rattle.std.proofs.lemmas.Bool.Decides.{Decides-and, Decides-eqb, Decides-like}
use Rattle.std.proofs.lemmas.Slice.Eq.{slice_eq-Decides}
use Rattle.ixp_num.specs.declared.family.Family.{Family}
use Rattle.ixp_num.specs.declared.family.Family.TheVariants.{V4, V6}
use Rattle.ixp_num.specs.declared.addr.Addr.{Addr}
use Rattle.ixp_num.specs.declared.asn.Asn.{Asn}
use Rattle.ixp_num.specs.declared.prefix.Prefix.{Prefix}
use Rattle.ixp_num.specs.declared.roa.Roa.{Roa}
use Rattle.ixp_num.specs.Families.{bits_of, same_family}
use Rattle.ixp_num.specs.Prefixes.{same_addr, same_prefix}
use Rattle.ixp_num.proofs.SameParts.{one_asn, one_prefix, one_roa}
use Rattle.ixp_lang.specs.declared.route.Route.{Route}
use Rattle.ixp_glass.specs.Same.{same_asn, same_pair, same_roa, same_route, same_triple}

family_decides : (f g : Family) → Decides (same_family f g) (f ≡ g)
family_decides V4 V4 = (λ e. refl, λ e. refl)
family_decides V4 V6 = (λ e. absurd (let bad : ⊥ = cc in bad), λ e. absurd (let bad : ⊥ = cc in bad))
family_decides V6 V4 = (λ e. absurd (let bad : ⊥ = cc in bad), λ e. absurd (let bad : ⊥ = cc in bad))
family_decides V6 V6 = (λ e. refl, λ e. refl)

prefix_decides : (p q : Prefix) → Decides (same_prefix p q) (p ≡ q)
prefix_decides p q =
    Decides-like (same_prefix p q) (λ x. one_prefix p q x.0.0 x.0.1 x.1)
    (λ (e : p ≡ q). ((ap (λ (r : Prefix). r.family) e, ap (λ (r : Prefix). r.value) e), ap (λ (r : Prefix). r.len) e))
    (Decides-and (same_family p.family q.family && p.value == q.value) (p.len == q.len)
    (Decides-and (same_family p.family q.family) (p.value == q.value) (family_decides p.family q.family) (Decides-eqb p.value q.value)) (Decides-eqb p.len q.len))

abbrev addr_with : (f : Family) (v : ℕ) → v < 2 ^ bits_of f → Addr
addr_with f v fits = record { family = f; value = v; fits = fits }

addr_along : (f : Family) (v : ℕ) (x : v < 2 ^ bits_of f) (g : Family) → f ≡ g → (w : ℕ) → v ≡ w → (y : w < 2 ^ bits_of g) → addr_with f v x ≡ addr_with g w y
addr_along f v x g e =
    subst (λ g. (w : ℕ) → v ≡ w → (y : w < 2 ^ bits_of g) → addr_with f v x ≡ addr_with g w y) e
    (λ w q. subst (λ w. (y : w < 2 ^ bits_of f) → addr_with f v x ≡ addr_with f w y) q (λ y. ap (addr_with f v) (le_prop x y)))

addr_decides : (a b : Addr) → Decides (same_addr a b) (a ≡ b)
addr_decides a b =
    Decides-like (same_addr a b) (λ x. addr_along a.family a.value a.fits b.family x.0 b.value x.1 b.fits)
    (λ (e : a ≡ b). (ap (λ (c : Addr). c.family) e, ap (λ (c : Addr). c.value) e))
    (Decides-and (same_family a.family b.family) (a.value == b.value) (family_decides a.family b.family) (Decides-eqb a.value b.value))

asn_decides : (a b : Asn) → Decides (same_asn a b) (a ≡ b)
asn_decides a b = Decides-like (a.0 == b.0) (one_asn a b) (λ (e : a ≡ b). ap (λ (c : Asn). c.0) e) (Decides-eqb a.0 b.0)

pair_decides : (a b : ℕ × ℕ) → Decides (same_pair a b) (a ≡ b)
pair_decides a b =
    Decides-like (same_pair a b) (λ x. ap (λ n. (n, a.1)) x.0 ∙ ap (λ n. (b.0, n)) x.1) (λ (e : a ≡ b). (ap (λ (c : ℕ × ℕ). c.0) e, ap (λ (c : ℕ × ℕ). c.1) e))
    (Decides-and (a.0 == b.0) (a.1 == b.1) (Decides-eqb a.0 b.0) (Decides-eqb a.1 b.1))

abbrev triple_with : ℕ → ℕ → ℕ → ℕ × ℕ × ℕ
triple_with n m k = (n, m, k)

triple_decides : (a b : ℕ × ℕ × ℕ) → Decides (same_triple a b) (a ≡ b)
triple_decides a b =
    Decides-like (same_triple a b) (λ x. ap (λ n. triple_with n a.1 a.2) x.0.0 ∙ (ap (λ n. triple_with b.0 n a.2) x.0.1 ∙ ap (λ n. triple_with b.0 b.1 n) x.1))
    (λ (e : a ≡ b). ((ap (λ (c : ℕ × ℕ × ℕ). c.0) e, ap (λ (c : ℕ × ℕ × ℕ). c.1) e), ap (λ (c : ℕ × ℕ × ℕ). c.2) e))
    (Decides-and (a.0 == b.0 && a.1 == b.1) (a.2 == b.2) (Decides-and (a.0 == b.0) (a.1 == b.1) (Decides-eqb a.0 b.0) (Decides-eqb a.1 b.1)) (Decides-eqb a.2 b.2))

roa_decides : (a b : Roa) → Decides (same_roa a b) (a ≡ b)
roa_decides a b =
    Decides-like (same_roa a b) (λ x. one_roa a b x.0.0 x.0.1 x.1)
    (λ (e : a ≡ b). ((ap (λ (c : Roa). c.prefix) e, ap (λ (c : Roa). c.max) e), ap (λ (c : Roa). c.asn.0) e))
    (Decides-and (same_prefix a.prefix b.prefix && a.max == b.max) (a.asn.0 == b.asn.0)
    (Decides-and (same_prefix a.prefix b.prefix) (a.max == b.max) (prefix_decides a.prefix b.prefix) (Decides-eqb a.max b.max)) (Decides-eqb a.asn.0 b.asn.0))

lists_decide : {A : Type 0} (same : A → A → Bool) → ((a b : A) → Decides (same a b) (a ≡ b)) → (xs ys : List A) → Decides (pointwise same xs ys) (xs ≡ ys)
lists_decide same decides xs ys = slice_eq-Decides decides xs ys (pointwise same xs ys) refl

abbrev route_with : Prefix → Addr → List Asn → List (ℕ × ℕ) → List (ℕ × ℕ × ℕ) → Route
route_with net next_hop path pairs triples = record { net = net; path = path; next_hop = next_hop; pairs = pairs; triples = triples }

one_route : (a b : Route) → a.net ≡ b.net → a.next_hop ≡ b.next_hop → a.path ≡ b.path → a.pairs ≡ b.pairs → a.triples ≡ b.triples → a ≡ b
one_route a b net next_hop path pairs triples =
    ap (λ x. route_with x a.next_hop a.path a.pairs a.triples) net
    ∙ (ap (λ x. route_with b.net x a.path a.pairs a.triples) next_hop
    ∙ (ap (λ x. route_with b.net b.next_hop x a.pairs a.triples) path
    ∙ (ap (λ x. route_with b.net b.next_hop b.path x a.triples) pairs ∙ ap (λ x. route_with b.net b.next_hop b.path b.pairs x) triples)))

route_decides : (a b : Route) → Decides (same_route a b) (a ≡ b)
route_decides a b =
    let nets = same_prefix a.net b.net in
    let hops = same_addr a.next_hop b.next_hop in
    let paths = pointwise same_asn a.path b.path in
    let pairs = pointwise same_pair a.pairs b.pairs in
    let triples = pointwise same_triple a.triples b.triples in
    Decides-like (same_route a b) (λ x. one_route a b x.0.0.0.0 x.0.0.0.1 x.0.0.1 x.0.1 x.1)
    (λ (e : a ≡ b). ((((ap (λ (c : Route). c.net) e, ap (λ (c : Route). c.next_hop) e), ap (λ (c : Route). c.path) e), ap (λ (c : Route). c.pairs) e), ap (λ (c : Route). c.triples) e))
    (Decides-and (nets && hops && paths && pairs) triples
    (Decides-and (nets && hops && paths) pairs
    (Decides-and (nets && hops) paths (Decides-and nets hops (prefix_decides a.net b.net) (addr_decides a.next_hop b.next_hop)) (lists_decide same_asn asn_decides a.path b.path))
    (lists_decide same_pair pair_decides a.pairs b.pairs))
    (lists_decide same_triple triple_decides a.triples b.triples))

pub roas_decide : (xs ys : List Roa) → Decides (pointwise same_roa xs ys) (xs ≡ ys)
roas_decide = lists_decide same_roa roa_decides

pub routes_decide : (xs ys : List Route) → Decides (pointwise same_route xs ys) (xs ≡ ys)
routes_decide = lists_decide same_route route_decides
