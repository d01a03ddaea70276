-- How far the search for a free address has come.
use Rattle.std.proofs.Common.{◌≡◌, ◌<◌, ◌≤◌, ◌+◌, ◌-◌, ◌^◌, ℕ, suc, Bool, true, false, ◌&&◌, not, [], ◌∷◌, ◌⊎◌, inl, inr, Option, Some, None, IfSome, IfNone, refl, sym, ap, ◌∙◌, subst, arith}
use Rattle.std.proofs.lemmas.Bool.{and_parts, cases_lt}
use Rattle.std.proofs.Math.Bridge.{le_prop}
use Rattle.ixp_num.specs.declared.family.Family.{Family}
use Rattle.ixp_num.specs.declared.addr.Addr.{Addr}
use Rattle.ixp_num.specs.declared.prefix.Prefix.{Prefix}
use Rattle.ixp_num.specs.Families.{bits_of}
use Rattle.ixp_num.specs.Prefixes.{contains}
use Rattle.ixp_num_tables.specs.Tables.{find, if_there}
use Rattle.ixp_registry.specs.declared.network.Vlan.{Vlan}
use Rattle.ixp_registry.specs.declared.registry.Registry.{Registry}
use Rattle.ixp_registry.specs.Keys.{vlan_key}
use Rattle.ixp_registry.specs.Lookups.{column, is_host, is_edge, is_host_in, prefix_in}
use Rattle.ixp_plan.specs.Holders.{is_taken}
use Rattle.ixp_plan.specs.Free.{IsFree}
use Rattle.ixp_plan.proofs.Prefixes.{one_family, parts_of}

-- what is still to be looked at: no free address stands before it
abbrev pub IsLeft : Registry → ℕ → Family → Prefix → Option Addr → Type 0
IsLeft r vlan f p (Some a) = (contains p a ≡ true) × ((b : Addr) → IsFree r vlan f b → a.value ≤ b.value)
IsLeft r vlan f p None = (b : Addr) → ¬ (IsFree r vlan f b)

-- a bound on the addresses that are still to be looked at
abbrev pub work : Option Addr → ℕ
work None = 0
work (Some a) = suc (2 ^ 128 - a.value)

pub by_prefix : (o : Option Vlan) (f : Family) (h : Prefix → Bool) → if_there o false (λ v. if_there (column f v) false h) ≡ if_there (if_there o None (column f)) false h
by_prefix None f h = refl
by_prefix (Some v) f h = refl

-- an address that may be had lies in the VLAN's prefix
pub host_inside : (r : Registry) (vlan : ℕ) (f : Family) (p : Prefix) (a : Addr) → prefix_in r.vlans vlan f ≡ Some p → is_host_in r.vlans vlan f a ≡ true → contains p a ≡ true
host_inside r vlan f p a there host =
    let at : if_there (prefix_in r.vlans vlan f) false (λ q. is_host q a) ≡ true = sym (by_prefix (find vlan_key (vlan ∷ []) r.vlans) f (λ q. is_host q a)) ∙ host in
    let here : is_host p a ≡ true = subst (λ (o : Option Prefix). if_there o false (λ q. is_host q a) ≡ true) there at in
    (and_parts (contains p a) (not (is_edge p a)) here).0

abbrev addr_with : (f : Family) (v : ℕ) → v < 2 ^ bits_of f → Addr
addr_with f v fits = record { family = f; value = v; fits = fits }

-- an address is its family and its number
addr_same : (f : Family) (v : ℕ) (x : v < 2 ^ bits_of f) (g : Family) → f ≡ g → (w : ℕ) → v ≡ w → (y : w < 2 ^ bits_of g) → addr_with f v x ≡ addr_with g w y
addr_same f v x g e =
    subst (λ g. (w : ℕ) → v ≡ w → (y : w < 2 ^ bits_of g) → addr_with f v x ≡ addr_with g w y) e
    (λ w q. subst (λ w. (y : w < 2 ^ bits_of f) → addr_with f v x ≡ addr_with f w y) q (λ y. ap (addr_with f v) (le_prop x y)))

-- two addresses of the prefix with one number are one
one_addr : (p : Prefix) (a b : Addr) → contains p a ≡ true → contains p b ≡ true → a.value ≡ b.value → a ≡ b
one_addr p a b at bt value =
    let family : a.family ≡ b.family = sym (one_family p.family a.family (parts_of p a at).0) ∙ one_family p.family b.family (parts_of p b bt).0 in
    addr_same a.family a.value a.fits b.family family b.value value b.fits

-- a free address stands behind one that isn't free and before which there is none
behind : (r : Registry) (vlan : ℕ) (f : Family) (p : Prefix) (a b : Addr) → prefix_in r.vlans vlan f ≡ Some p → IsLeft r vlan f p (Some a) → (is_host_in r.vlans vlan f a && not (is_taken r a)) ≡ false → IsFree r vlan f b → a.value < b.value
behind r vlan f p a b there left busy free = by_order (cases_lt a.value b.value) where
  by_order : (a.value < b.value) ⊎ (b.value ≤ a.value) → a.value < b.value
  by_order (inl above) = above
  by_order (inr below) =
      let low : a.value ≤ b.value = left.1 b free in
      let same : b ≡ a = one_addr p b a (host_inside r vlan f p b there free.0) left.0 (omega arith) in
      let host : is_host_in r.vlans vlan f a ≡ true = subst (λ (x : Addr). is_host_in r.vlans vlan f x ≡ true) same free.0 in
      let open_ : is_taken r a ≡ false = subst (λ (x : Addr). is_taken r x ≡ false) same free.1 in
      let is : (is_host_in r.vlans vlan f a && not (is_taken r a)) ≡ true = ap (λ b. b && not (is_taken r a)) host ∙ ap not open_ in
      absurd (let h : ⊥ = cc in h)

-- one address further
pub next_left : (r : Registry) (vlan : ℕ) (f : Family) (p : Prefix) (a : Addr) (o : Option Addr) → prefix_in r.vlans vlan f ≡ Some p → IsLeft r vlan f p (Some a)
    → (is_host_in r.vlans vlan f a && not (is_taken r a)) ≡ false → IfSome o (λ n. (contains p n ≡ true) × (n.value ≡ a.value + 1))
    → IfNone o ((b : Addr) → contains p b ≡ true → b.value ≤ a.value) → IsLeft r vlan f p o
next_left r vlan f p a (Some n) there left busy some none =
    (some.0, λ b free. let above : a.value < b.value = behind r vlan f p a b there left busy free in let value : n.value ≡ a.value + 1 = some.1 in omega arith)
next_left r vlan f p a None there left busy some none = λ b free.
    let above : a.value < b.value = behind r vlan f p a b there left busy free in
    let below : b.value ≤ a.value = none b (host_inside r vlan f p b there free.0) in
    let h : ⊥ = omega arith in h
