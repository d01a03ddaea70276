-- A merged set has no more patterns than its rows have first bits.
use Rattle.std.proofs.Common.{◌≡◌, ℕ, zero, suc, ◌+◌, ◌*◌, ◌≤◌, Bool, true, false, cond, List, [], ◌∷◌, length, length-append, filter, flat_map, refl, arith}
use Rattle.std.specs.declared.cmp.Ordering.{Ordering}
use Rattle.std.specs.declared.cmp.Ordering.TheVariants.{Less, Equal, Greater}
use Rattle.std.specs.Ordering.{match_ordering}
use Rattle.ixp_num.specs.Families.{bits_of}
use Rattle.ixp_num.specs.declared.family.Family.{Family}
use Rattle.ixp_num.specs.declared.family.Family.TheVariants.{V4, V6}
use Rattle.ixp_num.specs.declared.pattern.Pattern.{Pattern}
use Rattle.ixp_num.specs.declared.prefix.Prefix.{Prefix}
use Rattle.ixp_pfxset.specs.BlockList.{blocks, front_patterns, in_order, is_block, pattern_order, put_in}
use Rattle.ixp_pfxset.specs.declared.mode.Mode.{Mode}

put_step : (t s : Pattern) (ss : List Pattern) (o : Ordering) → length (put_in t ss) ≤ length ss + 1 → length (match_ordering o (s ∷ put_in t ss) (s ∷ ss) (t ∷ s ∷ ss)) ≤ length (s ∷ ss) + 1
put_step t s ss Less rest = omega (arith, rest)
put_step t s ss Equal rest = omega arith
put_step t s ss Greater rest = omega arith

put_few : (t : Pattern) (ss : List Pattern) → length (put_in t ss) ≤ length ss + 1
put_few t [] = omega arith
put_few t (s ∷ ss) = put_step t s ss (pattern_order s t) (put_few t ss)

order_few : (ts : List Pattern) → length (in_order ts) ≤ length ts
order_few [] = omega arith
order_few (t ∷ ts) = let a = put_few t (in_order ts) in let b = order_few ts in omega (arith, a, b)

kept_few : (test : Pattern → Bool) (t : Pattern) (ts : List Pattern) (b : Bool) → length (filter test ts) ≤ length ts → length (cond b (t ∷ filter test ts) (filter test ts)) ≤ length (t ∷ ts)
kept_few test t ts true rest = omega (arith, rest)
kept_few test t ts false rest = omega (arith, rest)

filter_few : (test : Pattern → Bool) (ts : List Pattern) → length (filter test ts) ≤ length ts
filter_few test [] = omega arith
filter_few test (t ∷ ts) = kept_few test t ts (test t) (filter_few test ts)

fronts : (way : Mode) (high : ℕ) (r : Prefix) (n : ℕ) → length (front_patterns way high r n) ≡ n + 1
fronts way high r zero = refl
fronts way high r (suc n) = let e = fronts way high r n in omega (arith, e)

bits_few : (f : Family) → bits_of f ≤ 128
bits_few V4 = omega arith
bits_few V6 = omega arith

rows_few : (way : Mode) (high : ℕ) (rows : List Prefix) → length (flat_map (λ r. front_patterns way high r r.len) rows) ≤ 129 * length rows
rows_few way high [] = omega arith
rows_few way high (r ∷ rows) =
    let rest = rows_few way high rows in
    let one = fronts way high r r.len in
    let short = r.short in
    let bits = bits_few r.family in
    let both = length-append (front_patterns way high r r.len) (flat_map (λ q. front_patterns way high q q.len) rows) in
    omega (arith, rest, one, short, bits, both)

pub blocks_few : (rows : List Prefix) (way : Mode) (high : ℕ) → length (blocks rows way high) ≤ 129 * length rows
unfolding blocks
blocks_few rows way high =
    let all = flat_map (λ r. front_patterns way high r r.len) rows in
    let a = order_few (filter (is_block rows way high) all) in
    let b = filter_few (is_block rows way high) all in
    let c = rows_few way high rows in
    omega (arith, a, b, c)
