-- The addresses and prefixes of the demo exchange, as numbers.
use Rattle.std.proofs.Common.{◌≡◌, ℕ, ◌+◌, ◌*◌, ◌-◌, ◌/◌, ◌%◌, ◌^◌, ◌<◌, ◌≤◌, ◌&&◌, ◌||◌, ◌==◌, Bool, true, false, not, [], ◌∷◌, refl, ap, ◌∙◌, arith, eq-eqb, lit<}
use Rattle.std.proofs.lemmas.Bool.{ne_eqb}
use Rattle.std.proofs.lemmas.Nat.{div-mul-add}
use Rattle.std.proofs.Math.Nat.{mod-eq_of_lt, div-eq_of_eq-mul_left}
use Rattle.std.specs.declared.cmp.Ordering.TheVariants.{Less}
use Rattle.ixp_num.specs.declared.family.Family.TheVariants.{V4}
use Rattle.ixp_num_sorted.specs.Keys.{prefix_key}
use Rattle.ixp_num_tables.specs.Tables.{order}
use Rattle.ixp_num_tables.proofs.FirstNumbers.{less_first, same_first}
use Rattle.ixp_registry.specs.Lookups.{is_host_in}
use Rattle.ixp_registry.specs.Words.{addr_numbers}
use Rattle.ixp_registry_demo.specs.Demo.{address, host, net_of, lan}

pub address_value : (n : ℕ) → n < 2 ^ 32 → (address n).value ≡ n
address_value n fits = mod-eq_of_lt fits

pub host_value : (k : ℕ) → k ≤ 4000 → (host k).addr.value ≡ 171966464 + k
host_value k few = address_value (171966464 + k) (omega arith)

-- the prefixes' numbers, and their order
whole_net : (n m : ℕ) → n < 2 ^ 32 → n ≡ m * 2 ^ 8 → n % 2 ^ 32 / 2 ^ 8 * 2 ^ 8 ≡ m * 2 ^ 8
whole_net n m fits e =
    ap (λ x. x / 2 ^ 8 * 2 ^ 8) (mod-eq_of_lt fits)
    ∙ ap (λ x. x * 2 ^ 8) (div-eq_of_eq-mul_left {n = 2 ^ 8} {m = n} {k = m} (lit< tt) e)

pub net_value : (k j : ℕ) → k ≤ 4000 → j < 4 → (net_of k j).value ≡ (1310720 + (4 * k + j)) * 2 ^ 8
net_value k j few place = whole_net (335544320 + 256 * (4 * k + j)) (1310720 + (4 * k + j)) (omega arith) (omega arith)

pub nets_rise : (k i j : ℕ) → k ≤ 4000 → i < j → j < 4 → order (prefix_key (net_of k i)) (prefix_key (net_of k j)) ≡ Less
nets_rise k i j few less place =
    let a = net_value k i few (omega arith) in
    let b = net_value k j few place in
    let lower : (net_of k i).value < (net_of k j).value = omega (arith, a, b) in
    same_first 4 ((net_of k i).value ∷ 24 ∷ []) ((net_of k j).value ∷ 24 ∷ []) ∙ less_first (net_of k i).value (net_of k j).value (24 ∷ []) (24 ∷ []) lower

pub hosts_rise : (j k : ℕ) → j < k → k ≤ 4000 → order (addr_numbers (host j).addr) (addr_numbers (host k).addr) ≡ Less
hosts_rise j k less few =
    let a = host_value j (omega arith) in
    let b = host_value k few in
    let lower : (host j).addr.value < (host k).addr.value = omega (arith, a, b) in
    same_first 4 ((host j).addr.value ∷ []) ((host k).addr.value ∷ []) ∙ less_first (host j).addr.value (host k).addr.value [] [] lower

-- which addresses may be had in the VLAN
inside : (a b c : Bool) → a ≡ true → b ≡ false → c ≡ false → (a && not (b || c)) ≡ true
inside true false false e f g = refl
inside false b c e f g = cc
inside true true c e f g = cc
inside true false true e f g = cc

host_test : (v r : ℕ) → v ≡ 10 * 2 ^ 24 + r → 0 < r → r + 1 < 2 ^ 24 → ((v / 2 ^ 24 == 10) && not ((v == 167772160) || (v + 1 == 184549376))) ≡ true
host_test v r e some few =
    let first : v / 2 ^ 24 ≡ 10 = ap (λ x. x / 2 ^ 24) e ∙ div-mul-add 10 (2 ^ 24) r (omega arith) in
    inside (v / 2 ^ 24 == 10) (v == 167772160) (v + 1 == 184549376) (eq-eqb (v / 2 ^ 24) 10 first)
    (ne_eqb v 167772160 (λ h. let bad : ⊥ = omega arith in bad)) (ne_eqb (v + 1) 184549376 (λ h. let bad : ⊥ = omega arith in bad))

pub lan_host : (n : ℕ) → 167772160 < n → n + 1 < 184549376 → is_host_in (lan ∷ []) 1 V4 (address n) ≡ true
lan_host n low high =
    let e = address_value n (omega arith) in
    host_test (n % 2 ^ 32) (n - 167772160) (omega (arith, e)) (omega arith) (omega arith)
