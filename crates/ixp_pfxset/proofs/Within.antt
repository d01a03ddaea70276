-- Prefixes that a shorter one of a list covers.
use Rattle.std.proofs.Common.{◌≡◌, ◌<◌, true, ◌&&◌, List}
use Rattle.std.specs.Prelude.{nat_lt}
use Rattle.std.specs.List.{Contains}
use Rattle.std.proofs.lemmas.Bool.{and_parts, and_from, ltb-true, lt-ltb}
use Rattle.ixp_num.specs.Prefixes.{covers}
use Rattle.ixp_num.specs.declared.prefix.Prefix.{Prefix}
use Rattle.ixp_pfxset.specs.Plain.{is_within}
use Rattle.ixp_pfxset.proofs.Members.{passing, passed}

pub within_says : (list : List Prefix) (q : Prefix) → is_within list q ≡ true → (p : Prefix) × Contains list p × (p.len < q.len) × (covers p q ≡ true)
within_says list q e =
    let some = passing (λ p. nat_lt p.len q.len && covers p q) list e in
    let two = and_parts (nat_lt some.0.len q.len) (covers some.0 q) some.2 in
    (some.0, some.1, ltb-true some.0.len q.len two.0, two.1)

pub within_from : (list : List Prefix) (p q : Prefix) → Contains list p → p.len < q.len → covers p q ≡ true → is_within list q ≡ true
within_from list p q there less over = passed (λ p. nat_lt p.len q.len && covers p q) list p there (and_from (nat_lt p.len q.len) (covers p q) (lt-ltb p.len q.len less) over)
